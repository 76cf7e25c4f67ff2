-- Where the first words of a line end: at its blank of that number. Assumes nothing.
use Rattle.std.proofs.Common.{◌≡◌, ℕ, suc, ◌+◌, ◌-◌, ◌<◌, ◌≤◌, Bool, cond, eqb, leb, List, [], ◌∷◌, take, Some, None, Option, refl, ap, ◌∙◌, sym, subst, ◌⊎◌, inl, inr, true, false, arith}
use Rattle.std.specs.List.{filter, enumerate_from, slice_get}
use Rattle.std.proofs.lemmas.Bool.{le-leb, lt-leb, cases_lt}
use Rattle.figures.specs.Tallies.{first_words}

-- a place and the octet there, and whether it is a blank
abbrev pub blank : ℕ × ℕ → Bool
blank p = eqb p.1 32

-- ws is what stands in front of a place in xs, counted on from k, or all of xs
abbrev pub Front : List ℕ → ℕ → List ℕ → Option (ℕ × ℕ) → Type 0
Front ws k xs None = ws ≡ xs
Front ws k xs (Some p) = (k ≤ p.0) × (ws ≡ take (p.0 - k) xs)

-- one octet more in front
longer : (x : ℕ) (ws xs : List ℕ) (k : ℕ) (o : Option (ℕ × ℕ)) → Front ws (k + 1) xs o → Front (x ∷ ws) k (x ∷ xs) o
longer x ws xs k None f = ap (λ z. x ∷ z) f
longer x ws xs k (Some p) f =
    let e : suc (p.0 - (k + 1)) ≡ p.0 - k = omega arith in
    (omega arith, ap (λ z. x ∷ z) f.1 ∙ ap (λ j. take j (x ∷ xs)) e)

-- at a blank
at_blank : (n x k : ℕ) (xs : List ℕ) (rest : List (ℕ × ℕ)) → Front (first_words (n - 1) xs) (k + 1) xs (slice_get rest (n - 1 - 1))
    → Front (cond (leb n 1) [] (x ∷ first_words (n - 1) xs)) k (x ∷ xs) (slice_get ((k, x) ∷ rest) (n - 1))
at_blank n x k xs rest f = by (cases_lt 1 n)
  where
    by : (1 < n) ⊎ (n ≤ 1) → Front (cond (leb n 1) [] (x ∷ first_words (n - 1) xs)) k (x ∷ xs) (slice_get ((k, x) ∷ rest) (n - 1))
    by (inl l) =
        let e : suc (n - 1 - 1) ≡ n - 1 = omega arith in
        rw (lt-leb n 1 l) (subst (λ j. Front (x ∷ first_words (n - 1) xs) k (x ∷ xs) (slice_get ((k, x) ∷ rest) j)) e (longer x (first_words (n - 1) xs) xs k (slice_get rest (n - 1 - 1)) f))
    by (inr l) = let e : n - 1 ≡ 0 = omega arith in let z : k - k ≡ 0 = omega arith in rw (le-leb n 1 l, e) (omega arith, ap (λ j. take j (x ∷ xs)) (sym z))

pub words_end : (n : ℕ) (xs : List ℕ) (k : ℕ) → Front (first_words n xs) k xs (slice_get (filter blank (enumerate_from k xs)) (n - 1))
words_end n [] k = refl
words_end n (x ∷ xs) k =
    let rest = filter blank (enumerate_from (k + 1) xs) in
    elim (eqb x 32) as (λ b. Front (cond b (cond (leb n 1) [] (x ∷ first_words (n - 1) xs)) (x ∷ first_words n xs)) k (x ∷ xs) (slice_get (cond b ((k, x) ∷ rest) rest) (n - 1))) [
      | true ↦ at_blank n x k xs rest (words_end (n - 1) xs (k + 1))
      | false ↦ longer x (first_words n xs) xs k (slice_get rest (n - 1)) (words_end n xs (k + 1))
    ]

-- what the place of the blank of that number says, if it was looked for
pub words_front : (n : ℕ) (xs : List ℕ) (m : ℕ) (o : Option (ℕ × ℕ)) → o ≡ slice_get (filter blank (enumerate_from 0 xs)) m → m ≡ n - 1 → Front (first_words n xs) 0 xs o
words_front n xs m o e is = rw (e, is) (words_end n xs 0)
