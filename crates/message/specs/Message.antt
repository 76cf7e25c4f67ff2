-- The message as a list of octets: its fields, when it is lawful, and the message of given fields. Assumes nothing.
use Rattle.std.specs.Prelude.{◌≡◌, ℕ, ◌+◌, ◌-◌, ◌*◌, ◌/◌, ◌%◌, ◌<◌, ◌≤◌, Bool, true, cond, ◌&&◌, List, [], ◌∷◌, ◌++◌, length, take, drop, Some, None, Decides, sum, Option, ◌==◌, nat_le, nat_lt, slice_index}
use Rattle.std.specs.List.{AllByRecursion}

abbrev pub Octets : List ℕ → Type 0
Octets xs = AllByRecursion (λ x. x < 256) xs

-- two octets as a number, the most significant first
abbrev pub word : ℕ → ℕ → ℕ
word high low = 256 * high + low

abbrev pub octets_of_word : ℕ → List ℕ
octets_of_word w = w / 256 ∷ w % 256 ∷ []

abbrev pub at : List ℕ → ℕ → ℕ
at xs i = slice_index xs i

-- Type, the second octet: 0 to 2 are beacons, 3 is a data message
abbrev pub kind : List ℕ → ℕ
kind m = at m 1

-- how many octets stand in front of the payload: Number, Type, Source, and in a data message the Destination
abbrev pub head_length : ℕ → ℕ
head_length k = cond (k == 3) 6 4

abbrev pub destination : List ℕ → Option ℕ
destination m = cond (kind m == 3) (Some (word (at m 2) (at m 3))) None

abbrev pub source : List ℕ → ℕ
source m = cond (kind m == 3) (word (at m 4) (at m 5)) (word (at m 2) (at m 3))

abbrev pub payload : List ℕ → List ℕ
payload m = take (length m - head_length (kind m) - 2) (drop (head_length (kind m)) m)

-- Sum, the last two octets
abbrev pub sum_field : List ℕ → ℕ
sum_field m = word (at m (length m - 2)) (at m (length m - 1))

-- a Destination, where there is one, is 0001 to FFFF
abbrev pub Addressed : Option ℕ → Type 0
Addressed None = Unit {0}
Addressed (Some d) = (1 ≤ d) × (d ≤ 0xffff)

pub record Lawful (m : List ℕ) : Type 0 where
  pub octets : Octets m
  -- Number counts all octets
  pub number : at m 0 ≡ length m
  pub typed : kind m ≤ 3
  -- the payload has 0 to 66 octets
  pub least : head_length (kind m) + 2 ≤ length m
  pub most : length m ≤ head_length (kind m) + 2 + 66
  -- Sum is the sum of all octets in front of it
  pub summed : sum_field m ≡ sum (take (length m - 2) m)
  -- Source is 0001 to FFFE
  pub from : (1 ≤ source m) × (source m ≤ 0xfffe)
  pub to : Addressed (destination m)

-- the same as a test
abbrev pub within : ℕ → ℕ → ℕ → Bool
within low high x = nat_le low x && nat_le x high

abbrev pub addressed : Option ℕ → Bool
addressed None = true
addressed (Some d) = within 1 0xffff d

abbrev pub all_octets : List ℕ → Bool
all_octets [] = true
all_octets (x ∷ xs) = nat_lt x 256 && all_octets xs

abbrev pub lawful : List ℕ → Bool
lawful m =
    all_octets m && (at m 0 == length m && (nat_le (kind m) 3
    && (nat_le (head_length (kind m) + 2) (length m) && (nat_le (length m) (head_length (kind m) + 2 + 66)
    && (sum_field m == sum (take (length m - 2) m) && (within 1 0xfffe (source m) && addressed (destination m)))))))

-- the octets of a Destination, where there is one
abbrev pub address : Option ℕ → List ℕ
address None = []
address (Some d) = octets_of_word d

-- Number, Type, Destination and Source of a message whose payload has n octets
abbrev pub head : ℕ → Option ℕ → ℕ → ℕ → List ℕ
head k d s n = (length (address d) + n + 6) ∷ k ∷ (address d ++ octets_of_word s)

abbrev pub front : ℕ → Option ℕ → ℕ → List ℕ → List ℕ
front k d s p = head k d s (length p) ++ p

-- the message of a type, a Destination, a Source and a payload, with Number and Sum to match
abbrev pub message : ℕ → Option ℕ → ℕ → List ℕ → List ℕ
message k d s p = front k d s p ++ octets_of_word (sum (front k d s p))

-- a Source, a type and, in type 3 only, a Destination that go together
abbrev pub admits : ℕ → Option ℕ → ℕ → Bool
admits k None s = nat_le k 2 && within 1 0xfffe s
admits k (Some d) s = k == 3 && (within 1 0xffff d && within 1 0xfffe s)

-- the fields that a message may have
pub record Admissible (k : ℕ) (d : Option ℕ) (s : ℕ) (p : List ℕ) : Type 0 where
  pub header : admits k d s ≡ true
  pub octets : Octets p
  pub short : length p ≤ 66

-- the two definitions hold each other up
pub record Format : Type 0 where
  -- the message of admissible fields is lawful
  pub makes_lawful : (k : ℕ) (d : Option ℕ) (s : ℕ) (p : List ℕ) → Admissible k d s p → Lawful (message k d s p)
  -- its fields come back
  pub gives_back : (k : ℕ) (d : Option ℕ) (s : ℕ) (p : List ℕ) → Admissible k d s p
      → (kind (message k d s p) ≡ k) × (destination (message k d s p) ≡ d) × (source (message k d s p) ≡ s) × (payload (message k d s p) ≡ p)
  -- a lawful message is the message of its own fields, and they are admissible
  pub only_these : (m : List ℕ) → Lawful m
      → Admissible (kind m) (destination m) (source m) (payload m) × (m ≡ message (kind m) (destination m) (source m) (payload m))
  -- the test and the record say the same
  pub tested : (m : List ℕ) → Decides (lawful m) (Lawful m)
