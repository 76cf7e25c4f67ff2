-- The words of a line. Assumes nothing.
use Rattle.std.specs.Prelude.{ℕ, Bool, true, false, cond, ◌||◌, List, [], ◌∷◌, ◌++◌, ◌==◌}
use Rattle.text.specs.declared.words.Words.{Words}

-- a blank, a tab or a carriage return
abbrev pub blank : ℕ → Bool
blank b = b == 32 || b == 9 || b == 13

-- a word that has ended stands in front of the others; an empty one is none
abbrev pub in_front : List ℕ → List (List ℕ) → List (List ℕ)
in_front [] ws = ws
in_front (b ∷ bs) ws = (b ∷ bs) ∷ ws

-- the words of a line whose first one begins with w
abbrev pub words_from : List ℕ → List ℕ → List (List ℕ)
words_from w [] = in_front w []
words_from w (b ∷ bs) = cond (blank b) (in_front w (words_from [] bs)) (words_from (w ++ b ∷ []) bs)

-- the words yet to come
abbrev pub to_come : Words → List (List ℕ)
to_come s = words_from [] s.rest.now

-- the words behind the first
abbrev pub behind : List (List ℕ) → List (List ℕ)
behind [] = []
behind (w ∷ ws) = ws

abbrev pub none_left : List (List ℕ) → Bool
none_left [] = true
none_left (w ∷ ws) = false

-- the line from its first word on
abbrev pub from_word : List ℕ → List ℕ
from_word [] = []
from_word (b ∷ bs) = cond (blank b) (from_word bs) (b ∷ bs)

-- what stands before the first blank
abbrev pub before_blank : List ℕ → List ℕ
before_blank [] = []
before_blank (b ∷ bs) = cond (blank b) [] (b ∷ before_blank bs)
