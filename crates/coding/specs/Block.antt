-- The block coding: three octets are followed by their sum, from which one that came spoiled is worked out again. Assumes nothing.
use Rattle.std.specs.Prelude.{ℕ, ◌+◌, ◌-◌, ◌%◌, Bool, true, false, cond, List, [], ◌∷◌, ◌==◌}
use Rattle.radio.specs.declared.symbol.Symbol.{Symbol}
use Rattle.radio.specs.declared.symbol.Symbol.TheVariants.{Clean, Spoiled}

-- the sum of three octets, modulo 256
abbrev pub sum_of : ℕ → ℕ → ℕ → ℕ
sum_of a b c = (a + b + c) % 256

-- the sum d less two of the three octets, modulo 256
abbrev pub less : ℕ → ℕ → ℕ → ℕ
less d a b = (d + 512 - (a + b)) % 256

-- three octets are followed by their sum
abbrev pub code_of : List ℕ → List ℕ
code_of [] = []
code_of (a ∷ []) = []
code_of (a ∷ b ∷ []) = []
code_of (a ∷ b ∷ c ∷ xs) = a ∷ b ∷ c ∷ sum_of a b c ∷ []

abbrev pub three : {A : Type 0} → A → A → A → List A
three a b c = a ∷ b ∷ c ∷ []

-- of four clean symbols the three pass if the sum is right, else all three are spoiled;
-- one spoiled among the first three, with a clean fourth, is the fourth less the other two;
-- otherwise the first three pass as they are
abbrev pub four_of : Symbol → Symbol → Symbol → Symbol → List Symbol
four_of (Clean a) (Clean b) (Clean c) (Clean d) = cond (sum_of a b c == d) (three (Clean a) (Clean b) (Clean c)) (three Spoiled Spoiled Spoiled)
four_of Spoiled (Clean b) (Clean c) (Clean d) = three (Clean (less d b c)) (Clean b) (Clean c)
four_of (Clean a) Spoiled (Clean c) (Clean d) = three (Clean a) (Clean (less d a c)) (Clean c)
four_of (Clean a) (Clean b) Spoiled (Clean d) = three (Clean a) (Clean b) (Clean (less d a b))
four_of Spoiled Spoiled c (Clean d) = three Spoiled Spoiled c
four_of Spoiled (Clean b) Spoiled (Clean d) = three Spoiled (Clean b) Spoiled
four_of (Clean a) Spoiled Spoiled (Clean d) = three (Clean a) Spoiled Spoiled
four_of a b c Spoiled = three a b c

abbrev pub read_of : List Symbol → List Symbol
read_of [] = []
read_of (a ∷ []) = []
read_of (a ∷ b ∷ []) = []
read_of (a ∷ b ∷ c ∷ []) = []
read_of (a ∷ b ∷ c ∷ d ∷ ss) = four_of a b c d

-- the rule of marks: one spoiled alone among the first three, with a clean fourth, is put right;
-- otherwise the first three stay as they are
abbrev pub marks_of : Bool → Bool → Bool → Bool → List Bool
marks_of true false false false = three false false false
marks_of false true false false = three false false false
marks_of false false true false = three false false false
marks_of false false false false = three false false false
marks_of true true c false = three true true c
marks_of true false true false = three true false true
marks_of false true true false = three false true true
marks_of a b c true = three a b c

abbrev pub rule_for : List Bool → List Bool
rule_for [] = []
rule_for (a ∷ []) = []
rule_for (a ∷ b ∷ []) = []
rule_for (a ∷ b ∷ c ∷ []) = []
rule_for (a ∷ b ∷ c ∷ d ∷ ms) = marks_of a b c d
