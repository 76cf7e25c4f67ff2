-- What stands at a place, and the search for the next reception, a step at a time.
use Rattle.std.proofs.Common.{◌≡◌, ℕ, zero, suc, ◌+◌, ◌*◌, ◌<◌, ◌≤◌, Bool, true, false, cond, List, length, IfSome, Some, None, Ok, Option, option_map, refl, ap, ◌∙◌, subst, arith}
use Rattle.std.proofs.Math.Nat.{suc-mul}
use Rattle.std.proofs.lemmas.List.{drop_all}
use Rattle.std.proofs.lemmas.Bool.{cond-true, cond-false}
use Rattle.std.specs.Option.{MatchOption, IsSomeAnd}
use Rattle.std.specs.Bool.{IsTrue}
use Rattle.std.specs.Fn.{Called, Mut}
use Rattle.std.specs.Iterator.Runs.{Run, IsStepByRun, ItemsCountUp, CallKeepsClosure, AllItemsGive, IsFirstToGive}
use Rattle.radio.specs.declared.symbol.Symbol.{Symbol}
use Rattle.lines.specs.HeardBits.{ends_it, unless_end, next_in}
use Rattle.lines.specs.Recording.{Recording, rest_at, Stands, StartsInStep, Starts}

module _ (r : Recording) (bytes : List ℕ) where
  -- a symbol, which may end the reception
  module _ (place : ℕ) (s : Symbol) (fits : place + r.step ≤ length (r.cells bytes))
      (here : (n : ℕ) → r.reception_from n (rest_at r bytes place) ≡ next_in s (r.reception_from (n + 1) (rest_at r bytes (place + r.step))))
      (coming : r.receptions (rest_at r bytes place) ≡ r.receptions (rest_at r bytes (place + r.step))) where
    by_end : (t : Bool) → ends_it s ≡ t → Stands r bytes place (Ok (cond t None (Some s)))
    by_end true e = λ n. here n ∙ cond-true (ends_it s) _ _ e
    by_end false e = (fits, (λ n. here n ∙ cond-false (ends_it s) _ _ e), coming)

    pub symbol_stands : Stands r bytes place (Ok (unless_end s))
    symbol_stands = by_end (ends_it s) refl

  module _ (from : ℕ) where
    -- k steps with no sign in them
    past : (k : ℕ) → ((j : ℕ) → j < k → StartsInStep r bytes (from + j * r.step) None) → r.receptions (rest_at r bytes from) ≡ r.receptions (rest_at r bytes (from + k * r.step))
    past zero h = let e : from ≡ from + 0 * r.step = omega arith in ap (λ i. r.receptions (rest_at r bytes i)) e
    past (suc k) h =
        let m = suc-mul k r.step in
        let e : from + k * r.step + r.step ≡ from + suc k * r.step = omega arith in
        past k (λ j l. h j (omega arith)) ∙ h k (omega arith) ∙ ap (λ i. r.receptions (rest_at r bytes i)) e

    found_in : (k : ℕ) → ((j : ℕ) → j < k → StartsInStep r bytes (from + j * r.step) None) → (y : ℕ) → StartsInStep r bytes (from + k * r.step) (Some y) → Starts r bytes from (Some y)
    found_in k h y f = (f.0, past k h ∙ f.1)

    none_in : (k : ℕ) → ((j : ℕ) → j < k → StartsInStep r bytes (from + j * r.step) None) → length (r.cells bytes) ≤ from + k * r.step → Starts r bytes from None
    none_in k h l = past k h ∙ ap r.receptions (drop_all (from + k * r.step) (r.cells bytes) l) ∙ r.none_left

    is_at : (o : Option ℕ) (v b : ℕ) (P : ℕ → Type 0) → IfSome o (λ x. (x ≡ v) × (x < b)) → IsSomeAnd o P → P v
    is_at None v b P e h = absurd h
    is_at (Some x) v b P e h = subst P e.0 h

    is_some : (o : Option ℕ) (v : ℕ) (P : ℕ → Type 0) → option_map (λ y. y) o ≡ Some v → IfSome o P → IsSomeAnd o P
    is_some None v P e h = cc
    is_some (Some x) v P e h = h

    -- the places that are looked at, and what a call f finds at each
    module _ {S T F : Type 0} {steps : S → Option ℕ → S → Type 0} {source : T → Option ℕ → T → Type 0} (p : Run steps) (q : Run source)
        (every : IsStepByRun p q r.step) (up : ItemsCountUp q from (length (r.cells bytes)))
        {g : Mut F (ℕ × Unit {0}) (Option ℕ)} (f : F) (starts : (x : ℕ) (o : Option ℕ) (h : F) → Called g f (x, tt) o h → (h ≡ f) × StartsInStep r bytes x o) where
      some_starts : (z o : Option ℕ) → IsSomeAnd z (λ x. Called g f (x, tt) o f) → IsSomeAnd z (λ x. StartsInStep r bytes x o)
      some_starts None o c = c
      some_starts (Some x) o c = (starts x o f c).1

      looked_at : (k : ℕ) (o : Option ℕ) → IsSomeAnd (p.at k) (λ x. Called g f (x, tt) o f) → StartsInStep r bytes (from + k * r.step) o
      looked_at k o c =
          is_at (q.at (k * r.step)) (from + k * r.step) (length (r.cells bytes)) (λ x. StartsInStep r bytes x o) (up.2 (k * r.step))
          (subst (λ z. IsSomeAnd z (λ x. StartsInStep r bytes x o)) (every.4 k) (some_starts (p.at k) o c))

      keeps : CallKeepsClosure g f
      keeps a o h c = (starts a.0 o h c).0

      pub searched : (o : Option ℕ) →
          MatchOption o (IsTrue p.whole × AllItemsGive p g f None) (λ y. (i : ℕ) × (i < p.len) × (p.len ≡ i + 1) × IsFirstToGive p g f (Some y) None i) →
          Starts r bytes from o
      searched None c =
          let ends = up.1 (every.0 ∙ c.0) in
          none_in p.len (λ j l. looked_at j None (is_some (p.at j) _ (λ x. Called g f (x, tt) None f) (p.reads j 0 l) (c.1 keeps j))) (omega (arith, every.2))
      searched (Some y) c =
          let first = c.3 keeps in
          found_in c.0 (λ j l. looked_at j None (first.1 j l)) y (looked_at c.0 (Some y) first.0)
