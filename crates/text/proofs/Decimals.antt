-- Steps through the digits of a decimal number.
use Rattle.std.proofs.Common.{◌≡◌, ℕ, ◌+◌, ◌-◌, ◌*◌, ◌<◌, Bool, true, false, cond, eqb, List, [], ◌∷◌, length, get_or, drop, None, sym, refl, ap, ◌∙◌, subst, arith}
use Rattle.std.proofs.lemmas.List.{at_drop_more}
use Rattle.std.proofs.lemmas.Bool.Decides.{nat_tests}
use Rattle.std.specs.Char.{digit_value as hex_value}
use Rattle.text.specs.Figures.{between, decimal_behind, up_to, number_word}

-- further digits make no number smaller
passed : (most n : ℕ) (bs : List ℕ) → most < n → up_to most (decimal_behind n bs) ≡ None
passed most n [] h = grind (arith, nat_tests)
passed most n (b ∷ bs) h = elim (between 48 57 b) as (λ t. up_to most (cond t (decimal_behind (10 * n + (b - 48)) bs) None) ≡ None) [ true ↦ passed most (10 * n + (b - 48)) bs (omega arith) | false ↦ refl ]

a_digit : (b : ℕ) → hex_value b < 10 → between 48 57 b ≡ true
a_digit b h = grind (arith, nat_tests)

the_value : (b : ℕ) → hex_value b < 10 → hex_value b ≡ b - 48
the_value b h = grind (arith, nat_tests)

-- one digit more makes the number too large
pub digit_over : (most n d : ℕ) (xs : List ℕ) (i b : ℕ) (empty : Bool) → empty ≡ eqb (length xs) 0 → empty ≡ false → up_to most (decimal_behind n (drop i xs)) ≡ up_to most (decimal_behind 0 xs)
    → i < length xs → b ≡ get_or xs i 0 → (hex_value b < 10) × (d ≡ hex_value b) → most < 10 * n + d → None ≡ number_word most xs
digit_over most n d xs i b empty r none so_far h e is over =
    let value : hex_value b ≡ b - 48 = the_value b is.0 in
    let digit : between 48 57 (get_or xs i 0) ≡ true = subst (λ v. between 48 57 v ≡ true) e (a_digit b is.0) in
    let read = ap (λ (t : Bool). cond t (decimal_behind (10 * n + (get_or xs i 0 - 48)) (drop (i + 1) xs)) None) digit in
    let whole : number_word most xs ≡ up_to most (decimal_behind 0 xs) = ap (λ (t : Bool). cond t None (up_to most (decimal_behind 0 xs))) (sym r ∙ none) in
    sym (whole ∙ sym so_far ∙ ap (up_to most) (at_drop_more (decimal_behind n) xs i 0 h ∙ read) ∙ passed most (10 * n + (get_or xs i 0 - 48)) (drop (i + 1) xs) (omega (arith, value, is.1, over, ap (λ v. v - 48) e)))
