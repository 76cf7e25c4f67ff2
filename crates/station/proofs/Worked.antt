-- The one spoiled octet of a message whose Sum is right, worked out. Assumes nothing.
use Rattle.std.proofs.Common.{◌≡◌, ℕ, zero, suc, ◌+◌, ◌-◌, ◌/◌, ◌%◌, ◌<◌, ◌≤◌, true, false, eqb, ltb, ◌⊎◌, List, [], ◌∷◌, length, get_or, take, set, sum, sym, refl, ap, ◌∙◌, inl, inr, arith}
use Rattle.std.proofs.ByRecursion.{All-get_or}
use Rattle.std.proofs.lemmas.List.{length-set, length-take-le, get_or-set_other, get_or-take, take-set-le}
use Rattle.std.proofs.lemmas.List.Sums.{sum_by-set}
use Rattle.std.proofs.lemmas.Bool.{lt-ltb, le-ltb, eq-eqb, ne_eqb, cond-true, cond-false, cases_lt, cases_eq}
use Rattle.message.specs.Message.{Octets, at, word, sum_field}
use Rattle.station.specs.Judging.{missing_octet}

take_set_lt : (k : ℕ) (xs : List ℕ) (i a : ℕ) → i < k → take k (set xs i a) ≡ set (take k xs) i a
take_set_lt zero xs i a l = absurd (omega arith)
take_set_lt (suc k) [] i a l = refl
take_set_lt (suc k) (x ∷ xs) zero a l = refl
take_set_lt (suc k) (x ∷ xs) (suc i) a l = ap (λ ys. x ∷ ys) (take_set_lt k xs i a (omega arith))

module _ (m : List ℕ) (octets : Octets m) (long : 6 ≤ length m) (right : sum_field m ≡ sum (take (length m - 2) m)) where
  size : (i : ℕ) → length (set m i 0) ≡ length m
  size i = length-set m i 0

  low : at m (length m - 1) < 256
  low = All-get_or (λ x. x < 256) m (length m - 1) 0 (omega arith) octets

  -- the sum in front of Sum, with the octet at i left out
  front_sum : (i : ℕ) → i < length m - 2 → sum (take (length m - 2) (set m i 0)) + at m i ≡ sum (take (length m - 2) m)
  front_sum i l =
      let k = length m - 2 in
      let t : length (take k m) ≡ k = length-take-le k m (omega arith) in
      let s = sum_by-set (λ x. x) (take k m) i 0 0 (omega arith) in
      let g : get_or (take k m) i 0 ≡ at m i = get_or-take k m i 0 l in
      let e : sum (take k (set m i 0)) ≡ sum (set (take k m) i 0) = ap sum (take_set_lt k m i 0 l) in
      omega arith

  field_same : (i : ℕ) → i < length m - 2 → sum_field (set m i 0) ≡ sum_field m
  field_same i l =
      let n = size i in
      let a : at (set m i 0) (length (set m i 0) - 2) ≡ at m (length m - 2) =
      ap (λ k. at (set m i 0) (k - 2)) n ∙ get_or-set_other m i (length m - 2) 0 0 (λ q. omega arith) in
      let b : at (set m i 0) (length (set m i 0) - 1) ≡ at m (length m - 1) =
      ap (λ k. at (set m i 0) (k - 1)) n ∙ get_or-set_other m i (length m - 1) 0 0 (λ q. omega arith) in
      ap (λ x. word x (at (set m i 0) (length (set m i 0) - 1))) a ∙ ap (word (at m (length m - 2))) b

  front_same : (i : ℕ) → length m - 2 ≤ i → sum (take (length (set m i 0) - 2) (set m i 0)) ≡ sum_field m
  front_same i l = ap (λ k. sum (take (k - 2) (set m i 0))) (size i) ∙ ap sum (take-set-le (length m - 2) m i 0 l) ∙ sym right

  in_front : (i : ℕ) → i < length m - 2 → missing_octet i (set m i 0) ≡ at m i
  in_front i l =
      let n = size i in
      let t : ltb i (length (set m i 0) - 2) ≡ true = lt-ltb i (length (set m i 0) - 2) (omega arith) in
      let f = field_same i l in
      let s = front_sum i l in
      let e : sum (take (length (set m i 0) - 2) (set m i 0)) ≡ sum (take (length m - 2) (set m i 0)) = ap (λ k. sum (take (k - 2) (set m i 0))) n in
      cond-true _ _ _ t ∙ omega arith

  upper : (i : ℕ) → i ≡ length m - 2 → missing_octet i (set m i 0) ≡ at m i
  upper i q =
      let n = size i in
      let b = low in
      let t : ltb i (length (set m i 0) - 2) ≡ false = le-ltb i (length (set m i 0) - 2) (omega arith) in
      let u : eqb i (length (set m i 0) - 2) ≡ true = eq-eqb i (length (set m i 0) - 2) (omega arith) in
      let s = front_same i (omega arith) in
      let w : sum_field m / 256 ≡ at m (length m - 2) = omega arith in
      cond-false _ _ _ t ∙ cond-true _ _ _ u ∙ ap (λ x. x / 256) s ∙ w ∙ ap (at m) (sym q)

  lower : (i : ℕ) → i ≡ length m - 1 → missing_octet i (set m i 0) ≡ at m i
  lower i q =
      let n = size i in
      let b = low in
      let t : ltb i (length (set m i 0) - 2) ≡ false = le-ltb i (length (set m i 0) - 2) (omega arith) in
      let u : eqb i (length (set m i 0) - 2) ≡ false = ne_eqb i (length (set m i 0) - 2) (λ z. omega arith) in
      let s = front_same i (omega arith) in
      let w : sum_field m % 256 ≡ at m (length m - 1) = omega arith in
      cond-false _ _ _ t ∙ cond-false _ _ _ u ∙ ap (λ x. x % 256) s ∙ w ∙ ap (at m) (sym q)

  -- the octet at any place of the message is worked out
  pub worked_out : (i : ℕ) → i < length m → missing_octet i (set m i 0) ≡ at m i
  worked_out i l = by (cases_lt i (length m - 2)) (cases_eq i (length m - 2))
    where
      by : (i < length m - 2) ⊎ (length m - 2 ≤ i) → (i ≡ length m - 2) ⊎ (i ≡ length m - 2 → ⊥) → missing_octet i (set m i 0) ≡ at m i
      by (inl a) c = in_front i a
      by (inr a) (inl e) = upper i e
      by (inr a) (inr e) = lower i (omega arith)
