-- The unit of a layer over a unit that may pass 65,535.
use Rattle.std.proofs.Common.{◌≡◌, ℕ, ◌*◌, ◌<◌, ◌≤◌, min, Bool, true, false, leb, ◌⊎◌, refl, ap, ◌∙◌, inl, inr, mul_comm, mul-le-mul_left, arith, leb-false, leb-true}

unit_by : (p u : ℕ) → 1 ≤ p → (u ≤ 65535) ⊎ (65535 < u) → min (p * min u 65535) 65535 ≡ min (p * u) 65535
unit_by p u l (inl a) = let m : min u 65535 ≡ u = omega arith in ap (λ k. min (p * k) 65535) m
unit_by p u l (inr a) =
    let m : min u 65535 ≡ 65535 = omega arith in
    let x : u * 1 ≤ u * p = mul-le-mul_left u l in
    let y : u * p ≡ p * u = mul_comm u p in
    ap (λ k. min (p * k) 65535) m ∙ omega arith

pub unit_above : (p u : ℕ) → 1 ≤ p → min (p * min u 65535) 65535 ≡ min (p * u) 65535
unit_above p u l = unit_by p u l (split (leb u 65535) refl)
  where
    split : (b : Bool) → leb u 65535 ≡ b → (u ≤ 65535) ⊎ (65535 < u)
    split true e = inl (leb-true u 65535 e)
    split false e = inr (leb-false u 65535 e)
