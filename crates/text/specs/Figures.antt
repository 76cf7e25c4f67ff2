-- Hex digits, octets, addresses and decimal numbers: what they stand for. Assumes nothing.
use Rattle.std.specs.Prelude.{ℕ, ◌+◌, ◌-◌, ◌*◌, Bool, cond, ◌&&◌, List, [], ◌∷◌, length, Some, None, Ok, Err, codes, Option, ◌==◌, nat_le, slice_index}
use Rattle.text.specs.Reads.{Read}

abbrev pub between : ℕ → ℕ → ℕ → Bool
between low high b = nat_le low b && nat_le b high

-- 0 to 9, A to F, a to f
abbrev pub digit_value : ℕ → Option ℕ
digit_value b = cond (between 48 57 b) (Some (b - 48)) (cond (between 65 70 b) (Some (b - 55)) (cond (between 97 102 b) (Some (b - 87)) None))

-- two digits, the upper one first
abbrev pub joint : ℕ → Option ℕ → Option ℕ → Option ℕ
joint base None low = None
joint base (Some high) None = None
joint base (Some high) (Some low) = Some (base * high + low)

abbrev pub octet_value : ℕ → ℕ → Option ℕ
octet_value high low = joint 16 (digit_value high) (digit_value low)

-- a word of two digits, and no other
abbrev pub octet_word : List ℕ → Option ℕ
octet_word xs = cond (length xs == 2) (octet_value (slice_index xs 0) (slice_index xs 1)) None

-- a word of four digits, the upper ones first, and no other
abbrev pub address_word : List ℕ → Option ℕ
address_word xs = cond (length xs == 4) (joint 256 (octet_value (slice_index xs 0) (slice_index xs 1)) (octet_value (slice_index xs 2) (slice_index xs 3))) None

-- the word `-`
abbrev pub dash : List ℕ → Bool
dash xs = length xs == 1 && slice_index xs 0 == 45

-- one octet more, in front
abbrev pub before : Option ℕ → Read (List ℕ) → Read (List ℕ)
before None os = Err (codes "octets are hex digits without blanks, or - for none")
before (Some x) (Err why) = Err why
before (Some x) (Ok os) = Ok (x ∷ os)

-- digits two by two
abbrev pub pairs_read : List ℕ → Read (List ℕ)
pairs_read [] = Ok []
pairs_read (a ∷ []) = Err (codes "an octet has two hex digits")
pairs_read (a ∷ b ∷ rest) = before (octet_value a b) (pairs_read rest)

-- a string of octets: `-` for none, else digits two by two
abbrev pub octets_read : List ℕ → Read (List ℕ)
octets_read xs = cond (dash xs) (Ok []) (pairs_read xs)

-- decimal digits, the upper ones first, behind what has been read as n
abbrev pub decimal_behind : ℕ → List ℕ → Option ℕ
decimal_behind n [] = Some n
decimal_behind n (b ∷ bs) = cond (between 48 57 b) (decimal_behind (10 * n + (b - 48)) bs) None

abbrev pub up_to : ℕ → Option ℕ → Option ℕ
up_to most None = None
up_to most (Some n) = cond (nat_le n most) (Some n) None

-- a decimal number of at least one digit, up to `most`
abbrev pub number_word : ℕ → List ℕ → Option ℕ
number_word most xs = cond (length xs == 0) None (up_to most (decimal_behind 0 xs))
