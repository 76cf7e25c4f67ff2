-- The library's least multiple is the length rounded up. Assumes nothing.
use Rattle.std.proofs.Common.{◌≡◌, ℕ, ◌+◌, ◌-◌, ◌*◌, ◌/◌, ◌%◌, ◌^◌, ◌<◌, ◌≤◌, ◌⊎◌, Some, None, Option, sym, ap, ◌∙◌, subst, inl, inr, mod-lt, mod-eq_of_lt, mul_comm, suc-mul, mul-suc, zero-mul, arith}
use Rattle.std.proofs.lemmas.Nat.{div-mul-add, mod-mul-add, div-add-mod'}
use Rattle.std.proofs.lemmas.Bool.{cases_eq}
use Rattle.std.specs.Int.{next_multiple_of}
use Rattle.std.specs.Option.{SomeIff, unwrap_or}
use Rattle.station.specs.Nearness.{rounded}

-- q units and r more
module _ (u q r : ℕ) (below : r < u) where
  rest : (q * u + r) % u ≡ r
  rest = mod-mul-add q u r below

  same : r ≡ 0 → next_multiple_of (q * u + r) u ≡ rounded u (q * u + r)
  same none =
      let n = q * u + r in
      let a : (n + u - 1) / u ≡ q = ap (λ k. k / u) (omega arith) ∙ div-mul-add q u (u - 1) (omega arith) in
      let k = rest in
      let b : (u - n % u) % u ≡ 0 = ap (λ k. k % u) (omega arith) ∙ mod-mul-add 1 u 0 (omega arith) in
      ap (λ k. n + k) b ∙ omega (arith, mul_comm q u) ∙ sym (ap (λ k. u * k) a)

  more : 0 < r → next_multiple_of (q * u + r) u ≡ rounded u (q * u + r)
  more some =
      let n = q * u + r in
      let p = suc-mul q u in
      let a : (n + u - 1) / u ≡ q + 1 = ap (λ k. k / u) (omega arith) ∙ div-mul-add (q + 1) u (r - 1) (omega arith) in
      let k = rest in
      let b : (u - n % u) % u ≡ u - r = ap (λ k. k % u) (omega arith) ∙ mod-eq_of_lt {n = u - r} {m = u} (omega arith) in
      ap (λ k. n + k) b ∙ omega (arith, mul_comm q u, mul-suc u q) ∙ sym (ap (λ k. u * k) a)

pub nearest : (u n : ℕ) → 1 ≤ u → next_multiple_of n u ≡ rounded u n
nearest u n some =
    subst (λ (k : ℕ). next_multiple_of k u ≡ rounded u k) (div-add-mod' n u) (by (cases_eq (n % u) 0))
  where
    by : (n % u ≡ 0) ⊎ (n % u ≡ 0 → ⊥) → next_multiple_of (n / u * u + n % u) u ≡ rounded u (n / u * u + n % u)
    by (inl e) = same u (n / u) (n % u) (mod-lt n some) e
    by (inr e) = more u (n / u) (n % u) (mod-lt n some) (omega arith)

-- the length rounded up from the library's answer, which is none at a unit of 0
pub padded : (u n : ℕ) (o : Option ℕ) → u < 2 ^ 16 → n < 2 ^ 8 → SomeIff o ((0 < u) × (next_multiple_of n u < 2 ^ 64)) (next_multiple_of n u) → unwrap_or o 0 ≡ rounded u n
padded u n (Some x) a b h = h.1 ∙ nearest u n h.0.0
padded u n None a b h = by (cases_eq u 0)
  where
    by : (u ≡ 0) ⊎ (u ≡ 0 → ⊥) → 0 ≡ rounded u n
    by (inl e) = sym (ap (λ k. k * ((n + u - 1) / u)) e ∙ zero-mul ((n + u - 1) / u))
    by (inr e) =
        let k : (u - n % u) % u < u = mod-lt (u - n % u) (omega arith) in
        absurd (h (omega arith, omega arith))
