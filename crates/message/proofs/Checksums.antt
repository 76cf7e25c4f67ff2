-- A sum kept below 65,536 at each octet is the sum's remainder. Assumes nothing.
use Rattle.std.proofs.Common.{◌≡◌, ℕ, ◌+◌, ◌%◌, List, [], ◌∷◌, sum, sym, refl, arith}
use Rattle.std.specs.List.{fold}

wrapped : (a b : ℕ) (xs : List ℕ) → a ≡ b % 65536 → fold (λ t x. (t + x) % 65536) a xs ≡ fold (λ t x. t + x) b xs % 65536
wrapped a b [] e = e
wrapped a b (x ∷ xs) e = wrapped ((a + x) % 65536) (b + x) xs (omega arith)

pub sum_wrapped : (xs : List ℕ) → sum xs % 65536 ≡ fold (λ t x. (t + x) % 65536) 0 xs
sum_wrapped xs = sym (wrapped 0 0 xs refl)
