-- The first word of a line, and the words behind it.
use Rattle.std.proofs.Common.{◌≡◌, ℕ, zero, suc, ◌+◌, ◌-◌, ◌<◌, ◌≤◌, Bool, true, false, not, cond, eqb, List, [], ◌∷◌, ◌++◌, length, take, drop, Some, None, Option, position, sym, refl, ap, ◌∙◌, subst, ⊎_elim, append_assoc, append-nil, arith}
use Rattle.std.proofs.lemmas.Bool.{cases_Bool, ne_eqb}
use Rattle.std.proofs.lemmas.Bool.Decides.{nat_tests}
use Rattle.std.proofs.lemmas.List.{take_rest, drop_all}
use Rattle.std.proofs.lemmas.List.Recursion.{is_position_or_len}
use Rattle.std.specs.List.{position_or_len}
use Rattle.std.specs.Option.{unwrap_or}
use Rattle.std.specs.Prelude.{nat_lt}
use Rattle.text.specs.Words.{blank, in_front, words_from, from_word, before_blank, none_left}

-- where a search stops
some_place : (b : Bool) (n i : ℕ) → cond b (Some n) None ≡ Some i → n ≡ i
some_place true n i e = cc
some_place false n i e = let z : ◌≡◌ {A = ℕ} 0 1 = cc in absurd (omega arith)

no_place : (n m : ℕ) → cond (nat_lt n m) (Some n) None ≡ None → m ≤ n
no_place n m e = grind (arith, nat_tests)

place_or_end : (n m : ℕ) → n ≤ m → unwrap_or (cond (nat_lt n m) (Some n) None) m ≡ n
place_or_end n m h = grind (arith, nat_tests)

abbrev pub other : ℕ → Bool
other b = not (blank b)

from_place : (xs : List ℕ) → from_word xs ≡ drop (position_or_len other xs) xs
from_place [] = refl
from_place (x ∷ xs) =
    let more : suc (position_or_len other xs) ≡ 1 + position_or_len other xs = omega arith in
    let passed : from_word xs ≡ drop (1 + position_or_len other xs) (x ∷ xs) = from_place xs ∙ ap (λ (n : ℕ). drop n (x ∷ xs)) more in
    elim (blank x) as (λ b. cond b (from_word xs) (x ∷ xs) ≡ drop (cond (not (not b)) (1 + position_or_len other xs) 0) (x ∷ xs)) [ true ↦ passed | false ↦ refl ]

-- a word begins here
pub from_here : (xs : List ℕ) (i : ℕ) → position other xs ≡ Some i → take (length xs - i) (drop i xs) ≡ from_word xs
from_here xs i e = take_rest xs i ∙ sym (from_place xs ∙ ap (λ (n : ℕ). drop n xs) (some_place _ _ i e))

-- no word is left
pub from_nowhere : (xs : List ℕ) → position other xs ≡ None → from_word xs ≡ []
from_nowhere xs e = from_place xs ∙ drop_all (position_or_len other xs) xs (no_place _ _ e)

one_longer : (x : ℕ) (xs : List ℕ) → length (before_blank (x ∷ xs)) ≡ cond (blank x) 0 (1 + length (before_blank xs))
one_longer x xs = elim (blank x) as (λ b. length (cond b [] (x ∷ before_blank xs)) ≡ cond b 0 (1 + length (before_blank xs))) [ true ↦ refl | false ↦ omega arith ]

blank_place : (xs : List ℕ) → length (before_blank xs) ≡ position_or_len blank xs
blank_place xs = is_position_or_len (λ ys. length (before_blank ys)) blank refl one_longer xs

pub word_fits : (xs : List ℕ) → length (before_blank xs) ≤ length xs
word_fits [] = omega arith
word_fits (x ∷ xs) = elim (blank x) as (λ b. length (cond b [] (x ∷ before_blank xs)) ≤ length (x ∷ xs)) [ true ↦ omega arith | false ↦ omega (arith, word_fits xs) ]

-- the first blank ends the word, or the end of the line does
pub word_ends : (xs : List ℕ) (found : Option ℕ) (n : ℕ) → found ≡ position blank xs → n ≡ unwrap_or found (length xs) → n ≡ length (before_blank xs)
word_ends xs found n e is =
    is ∙ ap (λ p. unwrap_or p (length xs)) e ∙ place_or_end _ _ (subst (λ (n : ℕ). n ≤ length xs) (blank_place xs) (word_fits xs)) ∙ sym (blank_place xs)

word_taken : (xs : List ℕ) → take (length (before_blank xs)) xs ≡ before_blank xs
word_taken [] = refl
word_taken (x ∷ xs) = elim (blank x) as (λ b. take (length (cond b [] (x ∷ before_blank xs))) (x ∷ xs) ≡ cond b [] (x ∷ before_blank xs)) [ true ↦ refl | false ↦ ap (λ (ys : List ℕ). x ∷ ys) (word_taken xs) ]

cut_blank : (w xs : List ℕ) (x : ℕ) → blank x ≡ true → words_from w (x ∷ xs) ≡ in_front (w ++ before_blank (x ∷ xs)) (words_from [] (drop (length (before_blank (x ∷ xs))) (x ∷ xs)))
cut_blank w xs x e = rw (e, e) (ap (λ (v : List ℕ). in_front v (words_from [] xs)) (sym (append-nil w)))

cut_other : (w xs : List ℕ) (x : ℕ) → words_from (w ++ x ∷ []) xs ≡ in_front ((w ++ x ∷ []) ++ before_blank xs) (words_from [] (drop (length (before_blank xs)) xs)) → blank x ≡ false → words_from w (x ∷ xs) ≡ in_front (w ++ before_blank (x ∷ xs)) (words_from [] (drop (length (before_blank (x ∷ xs))) (x ∷ xs)))
cut_other w xs x h e = rw e (h ∙ ap (λ (v : List ℕ). in_front v (words_from [] (drop (length (before_blank xs)) xs))) (append_assoc w (x ∷ []) (before_blank xs)))

-- the first word of a line ends at its first blank, and the others come from there on
words_cut : (w xs : List ℕ) → words_from w xs ≡ in_front (w ++ before_blank xs) (words_from [] (drop (length (before_blank xs)) xs))
words_cut w [] = ap (λ (v : List ℕ). in_front v []) (sym (append-nil w))
words_cut w (x ∷ xs) = ⊎_elim (cut_blank w xs x) (cut_other w xs x (words_cut (w ++ x ∷ []) xs)) (cases_Bool (blank x))

passed_blank : (x : ℕ) (xs : List ℕ) → words_from [] xs ≡ words_from [] (from_word xs) → blank x ≡ true → words_from [] (x ∷ xs) ≡ words_from [] (from_word (x ∷ xs))
passed_blank x xs h e = rw e h

passed_other : (x : ℕ) (xs : List ℕ) → blank x ≡ false → words_from [] (x ∷ xs) ≡ words_from [] (from_word (x ∷ xs))
passed_other x xs e = ap (λ (b : Bool). words_from [] (cond b (from_word xs) (x ∷ xs))) (sym e)

-- blanks in front of a line's first word make no words
words_passed : (xs : List ℕ) → words_from [] xs ≡ words_from [] (from_word xs)
words_passed [] = refl
words_passed (x ∷ xs) = ⊎_elim (passed_blank x xs (words_passed xs)) (passed_other x xs) (cases_Bool (blank x))

no_word_passed : (x : ℕ) (xs : List ℕ) → length (before_blank (from_word (x ∷ xs))) ≡ 0 → (length (before_blank (from_word xs)) ≡ 0 → from_word xs ≡ []) → blank x ≡ true → from_word (x ∷ xs) ≡ []
no_word_passed x xs h rest e =
    let same : from_word (x ∷ xs) ≡ from_word xs = ap (λ (b : Bool). cond b (from_word xs) (x ∷ xs)) e in
    same ∙ rest (ap (λ (v : List ℕ). length (before_blank v)) (sym same) ∙ h)

no_word_here : (x : ℕ) (xs : List ℕ) → length (before_blank (from_word (x ∷ xs))) ≡ 0 → blank x ≡ false → from_word (x ∷ xs) ≡ []
no_word_here x xs h e =
    let same : from_word (x ∷ xs) ≡ x ∷ xs = ap (λ (b : Bool). cond b (from_word xs) (x ∷ xs)) e in
    let longer : before_blank (x ∷ xs) ≡ x ∷ before_blank xs = ap (λ (b : Bool). cond b [] (x ∷ before_blank xs)) e in
    absurd (omega (arith, h, ap (λ (v : List ℕ). length (before_blank v)) same, ap length longer))

-- where no byte stands before the first blank of a line from its first word on, nothing is left
no_word : (xs : List ℕ) → length (before_blank (from_word xs)) ≡ 0 → from_word xs ≡ []
no_word [] h = refl
no_word (x ∷ xs) h = ⊎_elim (no_word_passed x xs h (no_word xs)) (no_word_here x xs h) (cases_Bool (blank x))

front_word : (word : List ℕ) (ws : List (List ℕ)) → 0 < length word → in_front word ws ≡ word ∷ ws
front_word [] ws h = absurd (omega arith)
front_word (b ∷ bs) ws h = refl

left_passed : (x : ℕ) (xs : List ℕ) → eqb (length (from_word xs)) 0 ≡ none_left (words_from [] (from_word xs)) → blank x ≡ true → eqb (length (from_word (x ∷ xs))) 0 ≡ none_left (words_from [] (from_word (x ∷ xs)))
left_passed x xs h e = rw e h

left_here : (x : ℕ) (xs : List ℕ) → blank x ≡ false → eqb (length (from_word (x ∷ xs))) 0 ≡ none_left (words_from [] (from_word (x ∷ xs)))
left_here x xs e =
    let same : from_word (x ∷ xs) ≡ x ∷ xs = ap (λ (b : Bool). cond b (from_word xs) (x ∷ xs)) e in
    let begun : words_from [] (x ∷ xs) ≡ words_from (x ∷ []) xs = ap (λ (b : Bool). cond b (words_from [] xs) (words_from (x ∷ []) xs)) e in
    ap (λ (v : List ℕ). eqb (length v) 0) same ∙ ne_eqb (length (x ∷ xs)) 0 (λ z. omega arith) ∙ sym (ap (λ (v : List ℕ). none_left (words_from [] v)) same ∙ ap none_left (begun ∙ words_cut (x ∷ []) xs))

left_over : (line : List ℕ) → eqb (length (from_word line)) 0 ≡ none_left (words_from [] (from_word line))
left_over [] = refl
left_over (x ∷ xs) = ⊎_elim (left_passed x xs (left_over xs)) (left_here x xs) (cases_Bool (blank x))

-- a line is cut behind its first word
pub cut_line : (line rest word left : List ℕ) (n : ℕ) → rest ≡ from_word line → n ≡ length (before_blank rest) → word ≡ take n rest → left ≡ drop n rest → 0 < length word → words_from [] line ≡ word ∷ words_from [] left
cut_line line rest word left n r m w l h =
    let whole = words_passed line ∙ ap (words_from []) (sym r) ∙ words_cut [] rest in
    let first : word ≡ before_blank rest = w ∙ ap (λ (k : ℕ). take k rest) m ∙ word_taken rest in
    let others : left ≡ drop (length (before_blank rest)) rest = l ∙ ap (λ (k : ℕ). drop k rest) m in
    whole ∙ ap (λ (v : List ℕ). in_front v (words_from [] (drop (length (before_blank rest)) rest))) (sym first) ∙ ap (λ (v : List ℕ). in_front word (words_from [] v)) (sym others) ∙ front_word word (words_from [] left) h

drop_nil : (n : ℕ) → drop {A = ℕ} n [] ≡ []
drop_nil zero = refl
drop_nil (suc n) = refl

-- a line without a word
pub cut_nothing : (line rest word left : List ℕ) (n : ℕ) → rest ≡ from_word line → n ≡ length (before_blank rest) → word ≡ take n rest → left ≡ drop n rest → length word ≡ 0 → (words_from [] line ≡ []) × (words_from [] left ≡ [])
cut_nothing line rest word left n r m w l h =
    let first : word ≡ before_blank rest = w ∙ ap (λ (k : ℕ). take k rest) m ∙ word_taken rest in
    let none : length (before_blank (from_word line)) ≡ 0 = ap (λ (v : List ℕ). length (before_blank v)) (sym r) ∙ ap length (sym first) ∙ h in
    let gone : rest ≡ [] = r ∙ no_word line none in
    (words_passed line ∙ ap (words_from []) (no_word line none), ap (words_from []) (l ∙ ap (drop n) gone ∙ drop_nil n))

-- whether a word is left, by the line from its first word on
pub some_left : (line rest : List ℕ) (r : Bool) → rest ≡ from_word line → r ≡ eqb (length rest) 0 → r ≡ none_left (words_from [] line)
some_left line rest r e is = is ∙ ap (λ (v : List ℕ). eqb (length v) 0) e ∙ left_over line ∙ ap none_left (sym (words_passed line))
