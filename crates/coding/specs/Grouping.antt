-- A coding that takes a message group by group, and what it makes of whole messages, receptions and marks. Assumes nothing.
use Rattle.std.specs.Prelude.{◌≡◌, ℕ, ◌+◌, ◌-◌, ◌*◌, ◌/◌, ◌≤◌, Bool, List, [], ◌∷◌, map, length}
use Rattle.refusal.specs.declared.Cause.TheVariants.{Torn}
use Rattle.radio.specs.declared.symbol.Symbol.{Symbol}
use Rattle.radio.specs.declared.symbol.Symbol.TheVariants.{Clean}
use Rattle.radio.specs.Reception.{Reception, Ending, whole, fault, made_at, raised, mark, any_octet, AllAsWritten}
use Rattle.radio.specs.Layer.{Octets, AllMay}
use Rattle.coding.specs.Regroup.{regroup, left_over}

-- what an author says of a coding, and shows of one group: `plain` octets above are `coded` octets below
pub record Grouping : Type 0 where
  pub plain : ℕ
  pub coded : ℕ
  pub code : List ℕ → List ℕ
  pub read : List Symbol → List Symbol
  -- the octets that may be written below
  pub may : ℕ → Bool
  -- which octets of a group are spoiled above, from the symbols that count as spoiled below
  pub rule : List Bool → List Bool
  pub some : 1 ≤ plain
  pub no_less : plain ≤ coded
  pub few : coded ≤ 8
  pub code_length : (g : List ℕ) → length g ≡ plain → length (code g) ≡ coded
  pub read_length : (ss : List Symbol) → length ss ≡ coded → length (read ss) ≡ plain
  pub written : (g : List ℕ) → length g ≡ plain → Octets g → Octets (code g) × AllMay may (code g)
  -- with no symbol spoiled and all as written, the octets come back as written
  pub returns : (g : List ℕ) → length g ≡ plain → Octets g → read (map Clean (code g)) ≡ map Clean g
  -- honest below gives honest above, and the marks above follow from the marks below alone
  pub honest : (g : List ℕ) (ss : List Symbol) → length g ≡ plain → Octets g → AllAsWritten may ss (code g) → AllAsWritten any_octet (read ss) g
  pub marked : (g : List ℕ) (ss : List Symbol) → length g ≡ plain → Octets g → AllAsWritten may ss (code g) → map (mark any_octet) (read ss) ≡ rule (map (mark may) ss)

-- the octets below of a message
abbrev pub encoded : Grouping → List ℕ → List ℕ
encoded c xs = regroup c.plain c.code [] xs

-- the marks above
abbrev pub ruled : Grouping → List Bool → List Bool
ruled c ms = regroup c.coded c.rule [] ms

-- how many groups n octets are, the last perhaps unfinished, and how many octets those are below
abbrev pub groups_in : Grouping → ℕ → ℕ
groups_in c n = (n + (c.plain - 1)) / c.plain

abbrev pub counted : Grouping → ℕ → ℕ
counted c n = c.coded * groups_in c n

-- the ending above, where n symbols were given and h is left of the last group: a fault comes up, a whole end inside a group is torn
abbrev pub ending_above : ℕ → List Symbol → Ending → Ending
ending_above n h (fault f) = fault (raised f)
ending_above n [] whole = whole
ending_above n (s ∷ ss) whole = made_at Torn n

-- what a reading half makes of r, where it has given n symbols before
abbrev pub resumed : Grouping → ℕ → Reception → Reception
resumed c n r = record {
  symbols = regroup c.coded c.read [] r.symbols;
  ending = ending_above (n + length (regroup c.coded c.read [] r.symbols)) (left_over c.coded [] r.symbols) r.ending;
}

-- the reception above of a reception below
abbrev pub decoded : Grouping → Reception → Reception
decoded c r = resumed c 0 r
