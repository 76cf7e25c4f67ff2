-- Kinds of answers, and answers that differ from what is expected. Assumes nothing.
use Rattle.std.specs.Prelude.{◌≡◌, ℕ, ◌-◌, cond, List, [], ◌∷◌, Ok, Err, vec_items, Result, ◌==◌, ◌≢◌, nat_le}
use Rattle.figures.specs.declared.tally.Halt.{Halt}
use Rattle.figures.specs.declared.tally.Halt.TheVariants.{Difference, Memory}

-- the first n words of a line, which single blanks part
abbrev pub first_words : ℕ → List ℕ → List ℕ
first_words n [] = []
first_words n (b ∷ bs) = cond (b == 32) (cond (nat_le n 1) [] (b ∷ first_words (n - 1) bs)) (b ∷ first_words n bs)

-- an answer that is the expected one passes; of one that is not, both lines are told
abbrev pub Told : List ℕ → List ℕ → Result (Unit {0}) Halt → Type 0
Told expected answered (Ok x) = expected ≡ answered
Told expected answered (Err (Difference e a)) = (vec_items e ≡ expected) × (vec_items a ≡ answered) × (expected ≢ answered)
Told expected answered (Err (Memory e)) = Unit {0}
