-- What an outlet means, and what beginning, putting and ending do to it. Assumes nothing.
use Rattle.std.specs.Prelude.{◌≡◌, ℕ, ◌+◌, ◌-◌, ◌%◌, ◌≤◌, Bool, true, false, ◌&&◌, ◌||◌, List, [], ◌∷◌, ◌++◌, length, drop, replicate, Some, None, Ok, Err, Option, Result, ◌==◌, nat_le}
use Rattle.std.specs.List.{flat_map}
use Rattle.refusal.specs.declared.Refusal.{Refusal}
use Rattle.refusal.specs.declared.Refusal.TheVariants.{Argument, Turn as OutOfTurn, Uneven, Space}
use Rattle.radio.specs.declared.turn.Turn.{Turn}
use Rattle.radio.specs.declared.turn.Turn.TheVariants.{Idle, Owing, Stuck}
use Rattle.radio.specs.Layer.{Pile, unit_of, cost_of, sent_through}

pub record State : Type 0 where
  -- the channel octets written
  pub channel : List ℕ
  -- the channel octets once these octets have been put as well: those written, and those that the held back ones become
  pub once_put : List ℕ → List ℕ
  -- whether a message is under way, and the octets that it is owed
  pub turn : Turn
  -- the space left, in channel octets
  pub space : ℕ
  -- the layers between this outlet and the bottom, the top one first, and the bottom's unit
  pub pile : Pile
  pub ground_unit : ℕ
  -- the memory as cells, octets or bits, and the cells of one channel octet
  pub memory : List ℕ
  pub cells : ℕ → List ℕ

abbrev pub unit : State → ℕ
unit s = unit_of s.pile s.ground_unit

-- the memory with the cells of these channel octets at its start; every later cell stays
abbrev pub laid_over : (ℕ → List ℕ) → List ℕ → List ℕ → List ℕ
laid_over cells octets memory = flat_map cells octets ++ drop (length (flat_map cells octets)) memory

-- what holds of every outlet
pub record Sound (s : State) : Type 0 where
  pub none_put : s.channel ≡ s.once_put []
  pub spaced : s.space ≤ 65536
  pub grounded : 1 ≤ s.ground_unit
  pub laid : s.memory ≡ laid_over s.cells s.channel s.memory

-- what every call keeps: the channel only grows, and the memory is the old one with the channel at its start
pub record GoesOn (s t : State) : Type 0 where
  pub pile : t.pile ≡ s.pile
  pub ground_unit : t.ground_unit ≡ s.ground_unit
  pub cells : t.cells ≡ s.cells
  pub grows : (more : List ℕ) × (t.channel ≡ s.channel ++ more)
  pub memory : t.memory ≡ laid_over s.cells t.channel s.memory

-- what a call answers, by the refusal that stands against it
abbrev pub answer : Option Refusal → Result (Unit {0}) Refusal
answer None = Ok tt
answer (Some e) = Err e

-- after an accepted call the outlet is as the relation says; after a refused one it is the very same
abbrev pub Leaves : {A : Type 0} → (State → State → Type 0) → (A → State) → Result (Unit {0}) Refusal → A → A → Type 0
Leaves did state (Ok _) a b = did (state a) (state b)
Leaves did state (Err _) a b = b ≡ a

-- this refusal if the test fails, else what is left to refuse
abbrev pub unless : Bool → Refusal → Option Refusal → Option Refusal
unless true e rest = rest
unless false e rest = Some e

abbrev pub idle : Turn → Bool
idle Idle = true
idle (Owing n) = false
idle Stuck = false

-- the length of a preamble is 3, 38 or 250 octets
abbrev pub a_preamble : ℕ → Bool
a_preamble p = p == 3 || (p == 38 || p == 250)

-- a count is at most 65,534 and a multiple of the unit
abbrev pub even : ℕ → ℕ → Bool
even k u = nat_le k 65534 && k % u == 0

-- the space that a message of k octets takes: its preamble, the octet behind that, what its octets become, and the octet that ends it
abbrev pub needed : ℕ → ℕ → State → ℕ
needed p k s = p + 2 + cost_of s.pile k

-- why no message of k octets can begin behind a preamble of p octets, in the order of the checks
abbrev pub out_of_form : ℕ → ℕ → State → Option Refusal → Option Refusal
out_of_form p k s rest = unless (a_preamble p) Argument (unless (idle s.turn) OutOfTurn (unless (even k (unit s)) Uneven rest))

abbrev pub begin_refusal : ℕ → ℕ → State → Option Refusal
begin_refusal p k s = out_of_form p k s (unless (nat_le (needed p k s) s.space) Space None)

-- why k octets can't be put: a message is owed fewer, or none is under way
abbrev pub put_refusal : ℕ → Turn → Option Refusal
put_refusal k Idle = Some OutOfTurn
put_refusal k (Owing n) = unless (nat_le k n) OutOfTurn None
put_refusal k Stuck = Some OutOfTurn

-- why a message can't end: some octets are owed, or none is under way
abbrev pub end_refusal : Turn → Option Refusal
end_refusal Idle = Some OutOfTurn
end_refusal (Owing n) = unless (n == 0) OutOfTurn None
end_refusal Stuck = Some OutOfTurn

-- the channel octets that open a message: a preamble of F0, then CC; and the one that ends it, 33
abbrev pub start : ℕ → List ℕ
start p = replicate p 240 ++ (204 ∷ [])

abbrev pub stop : List ℕ
stop = 51 ∷ []

-- a message of k octets begun: whatever is put now goes through the pile behind the start
pub record Begun (p k : ℕ) (s t : State) : Type 0 where
  pub turn : t.turn ≡ Owing k
  pub space : t.space ≡ s.space - needed p k s
  pub channel : t.channel ≡ s.channel ++ start p
  pub once_put : (xs : List ℕ) → t.once_put xs ≡ t.channel ++ sent_through s.pile xs
  pub goes_on : GoesOn s t

abbrev pub less : Turn → ℕ → Turn
less Idle k = Idle
less (Owing n) k = Owing (n - k)
less Stuck k = Stuck

-- these octets put
pub record Put (xs : List ℕ) (s t : State) : Type 0 where
  pub turn : t.turn ≡ less s.turn (length xs)
  pub space : t.space ≡ s.space
  pub once_put : (ys : List ℕ) → t.once_put ys ≡ s.once_put (xs ++ ys)
  pub goes_on : GoesOn s t

-- the message ended
pub record Ended (s t : State) : Type 0 where
  pub turn : t.turn ≡ Idle
  pub space : t.space ≡ s.space
  pub channel : t.channel ≡ s.channel ++ stop
  pub goes_on : GoesOn s t

-- the channel octets of one whole message: its start, what the pile makes of its octets, and its end
abbrev pub message : Pile → ℕ → List ℕ → List ℕ
message pile p xs = start p ++ (sent_through pile xs ++ stop)

-- one whole message written
pub record Written (p : ℕ) (xs : List ℕ) (s t : State) : Type 0 where
  pub turn : t.turn ≡ Idle
  pub space : t.space ≡ s.space - needed p (length xs) s
  pub channel : t.channel ≡ s.channel ++ message s.pile p xs
  pub goes_on : GoesOn s t

-- these octets put one by one
abbrev pub Puts : List ℕ → State → State → Type 0
Puts [] s t = s ≡ t
Puts (x ∷ xs) s t = (m : State) × (Put (x ∷ []) s m × Puts xs m t)

-- whoever makes the calls: an accepted begin, as many puts as it named, and the end write the whole message
abbrev pub CallsWrite : Type 0
CallsWrite = (p : ℕ) (xs : List ℕ) (s t u v : State) → Sound u → Begun p (length xs) s t → Puts xs t u → Ended u v → Written p xs s v

-- one whole message written into the memory of an outlet that had written nothing: the answer is the space left or the refusal, and these are the cells afterwards
abbrev pub Stored : ℕ → List ℕ → State → Result ℕ Refusal → List ℕ → Type 0
Stored p xs s (Ok n) after = (begin_refusal p (length xs) s ≡ None) × (n ≡ s.space - needed p (length xs) s) × (after ≡ laid_over s.cells (message s.pile p xs) s.memory)
Stored p xs s (Err e) after = (begin_refusal p (length xs) s ≡ Some e) × (after ≡ s.memory)
