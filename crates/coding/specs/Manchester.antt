-- The Manchester coding: an octet becomes two of sixteen code octets, for its upper and its lower four bits. Assumes nothing.
use Rattle.std.specs.Prelude.{ℕ, ◌+◌, ◌*◌, ◌/◌, ◌%◌, Bool, ◌||◌, List, [], ◌∷◌, is_some, Some, None, Option, ◌==◌, slice_index}
use Rattle.std.specs.List.{position}
use Rattle.radio.specs.declared.symbol.Symbol.{Symbol}
use Rattle.radio.specs.declared.symbol.Symbol.TheVariants.{Clean, Spoiled}

-- the code octets of the four-bit values 0 to 15
abbrev pub code_table : List ℕ
code_table = 0x55 ∷ 0x56 ∷ 0x59 ∷ 0x5A ∷ 0x65 ∷ 0x66 ∷ 0x69 ∷ 0x6A ∷ 0x95 ∷ 0x96 ∷ 0x99 ∷ 0x9A ∷ 0xA5 ∷ 0xA6 ∷ 0xA9 ∷ 0xAA ∷ []

-- the value that an octet stands for: its place among the code octets, if it is one
abbrev pub value_of : ℕ → Option ℕ
value_of c = position (λ x. x == c) code_table

abbrev pub nibble_of : Symbol → Option ℕ
nibble_of (Clean c) = value_of c
nibble_of Spoiled = None

-- two symbols give a clean octet if both are clean code octets, else a spoiled one
abbrev pub both : Option ℕ → Option ℕ → Symbol
both (Some a) (Some b) = Clean (16 * a + b)
both (Some a) None = Spoiled
both None b = Spoiled

abbrev pub pair_of : Symbol → Symbol → Symbol
pair_of s t = both (nibble_of s) (nibble_of t)

-- an octet becomes two, the upper four bits first
abbrev pub code_of : List ℕ → List ℕ
code_of [] = []
code_of (x ∷ xs) = slice_index code_table (x / 16) ∷ slice_index code_table (x % 16) ∷ []

abbrev pub read_of : List Symbol → List Symbol
read_of [] = []
read_of (s ∷ []) = []
read_of (s ∷ t ∷ ss) = pair_of s t ∷ []

-- only the code octets may be written below
abbrev pub is_code : ℕ → Bool
is_code c = is_some (value_of c)

-- the rule of marks: an octet is spoiled if one of its two symbols counts as spoiled
abbrev pub rule_for : List Bool → List Bool
rule_for [] = []
rule_for (a ∷ []) = []
rule_for (a ∷ b ∷ ms) = (a || b) ∷ []
