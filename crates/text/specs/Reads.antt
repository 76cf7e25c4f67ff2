-- What words are read as, or why they are not. Assumes nothing.
use Rattle.std.specs.Prelude.{◌≡◌, ℕ, zero, suc, cond, List, [], ◌∷◌, Some, None, Ok, Err, codes, Option, Result}
use Rattle.std.specs.Str.{bytes_eq}
use Rattle.text.specs.declared.stop.Stop.{Stop}
use Rattle.text.specs.declared.stop.Stop.TheVariants.{Unread, Memory}
use Rattle.text.specs.Words.{behind}

-- a value, or the reason why there is none
abbrev pub Read : Type 0 → Type 0
Read A = Result A (List ℕ)

-- a call answered this value, as it is seen, or this reason; where there was no memory, nothing is said
abbrev pub Told : {A B : Type 0} → (A → B) → Result A Stop → Read B → Type 0
Told view (Ok a) x = x ≡ Ok (view a)
Told view (Err (Unread why)) x = x ≡ Err why.now
Told view (Err Memory) x = Unit {0}

-- a value that may be missing, and then the reason
abbrev pub known : {A : Type 0} → List ℕ → Option A → Read A
known why None = Err why
known why (Some a) = Ok a

-- what the first of these names that the word is stands for
abbrev pub by_name : {A : Type 0} → List (List ℕ × A) → List ℕ → Option A
by_name [] w = None
by_name (n ∷ ns) w = cond (bytes_eq w n.0) (Some n.1) (by_name ns w)

-- the next word, read; or why none is there
abbrev pub next : {A : Type 0} → List ℕ → (List ℕ → Read A) → List (List ℕ) → Read A
next missing read [] = Err missing
next missing read (w ∷ ws) = read w

-- go on with what was read
abbrev pub and_then : {A B : Type 0} → Read A → (A → Read B) → Read B
and_then (Ok a) f = f a
and_then (Err why) f = Err why

-- the words behind the first n
abbrev pub past : ℕ → List (List ℕ) → List (List ℕ)
past zero ws = ws
past (suc n) ws = behind (past n ws)

-- what was read is all that the line may hold
abbrev pub whole : {A : Type 0} → A → List (List ℕ) → Read A
whole a [] = Ok a
whole a (w ∷ ws) = Err (codes "too many words")
