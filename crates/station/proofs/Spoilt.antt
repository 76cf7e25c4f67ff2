-- Where symbols are spoiled. Assumes nothing.
use Rattle.std.proofs.Common.{eqb, ◌&&◌, ◌≡◌, ℕ, zero, suc, ◌+◌, ◌<◌, ◌≤◌, ltb, not, cond, Bool, true, false, List, [], ◌∷◌, length, take, set, Some, None, position, count_by, sym, refl, ap, ◌∙◌, one-add, arith}
use Rattle.std.specs.List.{list_all, position_or_len}
use Rattle.std.proofs.lemmas.Bool.{false_from_ne_true, cond-true, lt-ltb, ltb-false}
use Rattle.std.proofs.lemmas.List.{set_past, length-map}
use Rattle.std.proofs.lemmas.List.Sums.{sum_by-cons}
use Rattle.std.proofs.lemmas.Option.{cond_some, none-some}
use borrow.Author.Tests.{clash}
use Rattle.radio.specs.declared.symbol.Symbol.{Symbol}
use Rattle.radio.specs.declared.symbol.Symbol.TheVariants.{Clean, Spoiled}
use Rattle.station.specs.Judging.{is_clean, spoiled_place, all_clean, one_spoiled, few_spoiled, filled, blank, value_or, missing_octet, sum_checked, mended}

abbrev pub spoiled : Symbol → Bool
spoiled s = not (is_clean s)

few_one : (ss : List Symbol) → few_spoiled ss ≡ true → one_spoiled ss ≡ true
few_one [] e = refl
few_one (Clean v ∷ ss) e = e
few_one (Spoiled ∷ ss) e = absurd (clash e)

-- how many are spoiled
one_more : (ss : List Symbol) → count_by spoiled (Spoiled ∷ ss) ≡ 1 + count_by spoiled ss
one_more ss = sum_by-cons (λ s. cond (spoiled s) 1 0) Spoiled ss

clean_count : (ss : List Symbol) → all_clean ss ≡ true → count_by spoiled ss ≡ 0
clean_count [] e = refl
clean_count (Clean v ∷ ss) e = omega (arith, clean_count ss e)
clean_count (Spoiled ∷ ss) e = absurd (clash e)

count_clean : (ss : List Symbol) → count_by spoiled ss ≡ 0 → all_clean ss ≡ true
count_clean [] e = refl
count_clean (Clean v ∷ ss) e = count_clean ss (omega arith)
count_clean (Spoiled ∷ ss) e = absurd (omega (arith, one_more ss))

one_count : (ss : List Symbol) → one_spoiled ss ≡ true → count_by spoiled ss ≤ 1
one_count [] e = omega arith
one_count (Clean v ∷ ss) e = omega (arith, one_count ss e)
one_count (Spoiled ∷ ss) e = omega (arith, one_more ss, clean_count ss e)

count_one : (ss : List Symbol) → count_by spoiled ss ≤ 1 → one_spoiled ss ≡ true
count_one [] l = refl
count_one (Clean v ∷ ss) l = count_one ss (omega arith)
count_one (Spoiled ∷ ss) l = count_clean ss (omega (arith, one_more ss))

-- more than one is spoiled
pub few_many : (ss : List Symbol) → 1 < count_by spoiled ss → few_spoiled ss ≡ false
few_many ss l = false_from_ne_true (few_spoiled ss) (λ e. omega (arith, one_count ss (few_one ss e)))

-- the first is spoiled
pub few_first : (ss : List Symbol) → position spoiled ss ≡ Some 0 → few_spoiled ss ≡ false
few_first [] e = let z : ◌≡◌ {A = ℕ} 0 1 = cc in absurd (omega arith)
few_first (Clean v ∷ ss) e =
    let p = cond_some _ (1 + position_or_len spoiled ss) 0 e in
    absurd (omega (arith, p.1))
few_first (Spoiled ∷ ss) e = refl

-- one at most, and not the first
pub few_all : (ss : List Symbol) → (position spoiled ss ≡ Some 0 → ⊥) → count_by spoiled ss ≤ 1 → few_spoiled ss ≡ true
few_all [] n l = refl
few_all (Clean v ∷ ss) n l = count_one ss (omega arith)
few_all (Spoiled ∷ ss) n l = absurd (n (cond-true (ltb 0 (length (Spoiled ∷ ss))) (Some 0) None (lt-ltb 0 (length (Spoiled ∷ ss)) (omega arith))))

-- a part of what has few spoiled symbols has one at most
clean_part : (n : ℕ) (ss : List Symbol) → all_clean ss ≡ true → all_clean (take n ss) ≡ true
clean_part zero ss e = refl
clean_part (suc n) [] e = refl
clean_part (suc n) (Clean v ∷ ss) e = clean_part n ss e
clean_part (suc n) (Spoiled ∷ ss) e = absurd (clash e)

one_part : (n : ℕ) (ss : List Symbol) → one_spoiled ss ≡ true → one_spoiled (take n ss) ≡ true
one_part zero ss e = refl
one_part (suc n) [] e = refl
one_part (suc n) (Clean v ∷ ss) e = one_part n ss e
one_part (suc n) (Spoiled ∷ ss) e = clean_part n ss e

pub few_part : (n : ℕ) (ss : List Symbol) → few_spoiled ss ≡ true → one_spoiled (take n ss) ≡ true
few_part n ss e = one_part n ss (few_one ss e)

-- the values of symbols of which none, or one, is spoiled
filled_clean : (v : ℕ) (ss : List Symbol) → all_clean ss ≡ true → filled v ss ≡ filled 0 ss
filled_clean v [] e = refl
filled_clean v (Clean x ∷ ss) e = ap (λ l. x ∷ l) (filled_clean v ss e)
filled_clean v (Spoiled ∷ ss) e = absurd (clash e)

pub filled_set : (v : ℕ) (ss : List Symbol) → one_spoiled ss ≡ true → filled v ss ≡ set (filled 0 ss) (spoiled_place ss) v
filled_set v [] e = refl
filled_set v (Clean x ∷ ss) e = ap (λ l. x ∷ l) (filled_set v ss e) ∙ ap (λ n. set (x ∷ filled 0 ss) n v) (sym (one-add (spoiled_place ss)))
filled_set v (Spoiled ∷ ss) e = ap (λ l. v ∷ l) (filled_clean v ss e)

-- the test of each symbol by itself
pub all_blank : (ss : List Symbol) → blank ss ≡ list_all (λ s. eqb (value_or 0 s) 0) ss
all_blank [] = refl
all_blank (s ∷ ss) = ap (λ b. eqb (value_or 0 s) 0 && b) (all_blank ss)

-- the place of the first one, where there is one, and what the message is with it worked out
place_is : (ss : List Symbol) → spoiled_place ss ≡ position_or_len spoiled ss
place_is [] = refl
place_is (Clean v ∷ ss) = ap (λ n. 1 + n) (place_is ss)
place_is (Spoiled ∷ ss) = refl

module _ (ss : List Symbol) (one : one_spoiled ss ≡ true) where
  worked : mended ss ≡ sum_checked (set (filled 0 ss) (spoiled_place ss) (missing_octet (spoiled_place ss) (filled 0 ss)))
  worked = ap sum_checked (filled_set (missing_octet (spoiled_place ss) (filled 0 ss)) ss one)

  pub worked_some : (i : ℕ) → position spoiled ss ≡ Some i → mended ss ≡ sum_checked (set (filled 0 ss) i (missing_octet i (filled 0 ss)))
  worked_some i e =
      let p = cond_some _ (position_or_len spoiled ss) i e in
      worked ∙ ap (λ k. sum_checked (set (filled 0 ss) k (missing_octet k (filled 0 ss)))) (place_is ss ∙ p.1)

  pub worked_none : position spoiled ss ≡ None → mended ss ≡ sum_checked (filled 0 ss)
  worked_none e = worked ∙ ap sum_checked (set_past (filled 0 ss) (spoiled_place ss) _ (omega (arith, length-map ss (value_or 0), place_is ss, past)))
    where
      past : length ss ≤ position_or_len spoiled ss
      past = by (ltb (position_or_len spoiled ss) (length ss)) refl
        where
          by : (b : Bool) → ltb (position_or_len spoiled ss) (length ss) ≡ b → length ss ≤ position_or_len spoiled ss
          by true q = absurd (none-some (position_or_len spoiled ss) (sym e ∙ cond-true _ _ None q))
          by false q = ltb-false (position_or_len spoiled ss) (length ss) q
