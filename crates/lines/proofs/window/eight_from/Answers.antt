use Rattle.std.proofs.Common.{◌≡◌, ℕ, zero, suc, ◌+◌, ◌<◌, List, get_or, subst, ◌∙◌, arith, rules}
use Rattle.std.specs.Array.{IsFromFnResultFrom}
use Rattle.std.specs.Fn.{Called, Mut}
use Rattle.lines.proofs.window.eight_from.Goals as goal

-- the elements of an array that a function of the index made
made : {F : Type 0} {g : Mut F (ℕ × Unit {0}) ℕ} (f : F) (h : ℕ → ℕ) → ((i y : ℕ) (q : F) → Called g f (i, tt) y q → (q ≡ f) × (y ≡ h i)) →
    (ys : List ℕ) (n i k : ℕ) → IsFromFnResultFrom g f ys i n → k < n → get_or ys (i + k) 0 ≡ h (i + k)
made f h calls ys zero i k e l = absurd (omega arith)
made f h calls ys (suc n) i zero e l =
    let j : i ≡ i + 0 = omega arith in
    subst (λ z. get_or ys z 0 ≡ h z) j (e.2.1 0 ∙ (calls i e.1 e.0 e.3).1)
made {g = g} f h calls ys (suc n) i (suc k) e l =
    let j : i + 1 + k ≡ i + suc k = omega arith in
    subst (λ z. get_or ys z 0 ≡ h z) j (made f h calls ys n (i + 1) k (subst (λ q. IsFromFnResultFrom g q ys (i + 1) n) (calls i e.1 e.0 e.3).0 e.4) (omega arith))

pub returns-in-None : goal.returns-in-None
returns-in-None c =
    let xs = c.args.bytes.now in
    let first = c.args.first in
    λ k l. let z : 0 + k ≡ k = omega arith in
    subst (λ j. get_or c.from_fn.result j 0 ≡ get_or xs (first + j) 0) z
    (made _ (λ i. get_or xs (first + i) 0) (λ i y q e. search rules) c.from_fn.result 8 0 k c.from_fn.ensures.items.each l)
