-- The bits of bytes from a place on as a number, and a sign and a symbol by the number of their bits.
use Rattle.std.proofs.Common.{◌≡◌, ℕ, zero, suc, ◌+◌, ◌-◌, ◌*◌, ◌/◌, ◌%◌, ◌^◌, ◌<◌, ◌≤◌, cond, ◌&&◌, eqb, leb, min, List, [], ◌∷◌, ◌++◌, length, get_or, take, drop, sym, refl, ap, ◌∙◌, subst, arith}
use Rattle.std.proofs.lemmas.List.{drop-drop, get_or-drop, length-drop, take_min}
use Rattle.std.proofs.lemmas.Bool.Decides.{nat_tests}
use Rattle.radio.specs.declared.symbol.Symbol.TheVariants.{Clean, Spoiled}
use Rattle.radio.specs.Bits.{bits, number, bits_of}
use Rattle.radio.proofs.LowBits.{mod_more, same_bits, drop_low, get_or_low, take_low, take_low_mod, number_low, drop_bits, length_low, append_low}
use Rattle.lines.specs.HeardBits.{begins, sign, sign_here, symbol_here}

-- a front of the bits of a number
step : (v x b c m n : ℕ) → (eqb (v % 2) (x % 2) && (leb m n && eqb b c)) ≡ (leb (suc m) (suc n) && eqb (b * 2 + x % 2) (c * 2 + v % 2))
step v x b c m n = grind (arith, nat_tests)

pub begins_low : (m v n x : ℕ) → begins (bits m v) (bits n x) ≡ (leb m n && eqb (x % 2 ^ m) (v % 2 ^ m))
begins_low zero v n x = grind (arith, nat_tests)
begins_low (suc m) v zero x = grind (arith, nat_tests)
begins_low (suc m) v (suc n) x =
    let e = mod_more x m in
    let d = mod_more v m in
    ap (λ t. eqb (v % 2) (x % 2) && t) (begins_low m (v / 2) n (x / 2))
    ∙ step v x (x / 2 % 2 ^ m) (v / 2 % 2 ^ m) m n
    ∙ ap (λ y. leb (suc m) (suc n) && eqb y ((v / 2 % 2 ^ m) * 2 + v % 2)) (sym e)
    ∙ ap (λ y. leb (suc m) (suc n) && eqb (x % 2 ^ suc m) y) (sym d)

-- bytes as one number, the first byte lowest
abbrev pub little : List ℕ → ℕ
little [] = 0
little (x ∷ rest) = x + 256 * little rest

pub bits_low : (xs : List ℕ) → ((i : ℕ) → get_or xs i 0 < 256) → bits_of xs ≡ bits (8 * length xs) (little xs)
bits_low [] h = refl
bits_low (x ∷ xs) h =
    ap (λ l. bits 8 x ++ l) (bits_low xs (λ i. h (suc i)))
    ∙ append_low 8 (8 * length xs) x (little xs) (h 0)
    ∙ same_bits {x = x + 256 * little xs} (omega arith) refl

-- the bits from a place on as the bits of a number
little_step : (ys : List ℕ) → little ys ≡ get_or ys 0 0 + 256 * little (drop 1 ys)
little_step [] = refl
little_step (y ∷ ys) = refl

little_at : (xs : List ℕ) (f : ℕ) → little (drop f xs) ≡ get_or xs f 0 + 256 * little (drop (f + 1) xs)
little_at xs f =
    let z : f + 0 ≡ f = omega arith in
    let g : get_or (drop f xs) 0 0 ≡ get_or xs f 0 = get_or-drop f xs 0 0 ∙ ap (λ i. get_or xs i 0) z in
    let d : little (drop 1 (drop f xs)) ≡ little (drop (f + 1) xs) = ap little (drop-drop 1 f xs) in
    let e = little_step (drop f xs) in
    omega arith

pub little_five : (xs : List ℕ) (f : ℕ) →
    little (drop f xs) ≡ (get_or xs f 0 + get_or xs (f + 1) 0 * 256 + get_or xs (f + 2) 0 * 65536 + get_or xs (f + 3) 0 * 16777216 + get_or xs (f + 4) 0 * 4294967296) + 1099511627776 * little (drop (f + 5) xs)
little_five xs f =
    let at : (i j : ℕ) → f + i + 1 ≡ f + j → little (drop (f + i) xs) ≡ get_or xs (f + i) 0 + 256 * little (drop (f + j) xs) =
    λ i j e. little_at xs (f + i) ∙ ap (λ k. get_or xs (f + i) 0 + 256 * little (drop k xs)) e in
    let a = little_at xs f in
    let b = at 1 2 (omega arith) in
    let c = at 2 3 (omega arith) in
    let d = at 3 4 (omega arith) in
    let e = at 4 5 (omega arith) in
    omega arith

bits_at : (xs : List ℕ) → ((i : ℕ) → get_or xs i 0 < 256) → (f s : ℕ) → drop (8 * f + s) (bits_of xs) ≡ bits (8 * length xs - (8 * f + s)) (little (drop f xs) / 2 ^ s)
bits_at xs h f s =
    let small : (i : ℕ) → get_or (drop f xs) i 0 < 256 = λ i. subst (λ v. v < 256) (sym (get_or-drop f xs i 0)) (h (f + i)) in
    let l = length-drop f xs in
    sym (drop-drop s (8 * f) (bits_of xs))
    ∙ ap (drop s) (drop_bits f xs ∙ bits_low (drop f xs) small)
    ∙ drop_low s (8 * length (drop f xs)) (little (drop f xs))
    ∙ same_bits {x = little (drop f xs) / 2 ^ s} (omega arith) refl

-- 29 bits from one of the first eight places lie in the first forty
same_window : (s w m : ℕ) → s < 8 → (w / 2 ^ s) % 536870912 ≡ ((w + 1099511627776 * m) / 2 ^ s) % 536870912
same_window zero w m h = omega arith
same_window (suc zero) w m h = omega arith
same_window (suc (suc zero)) w m h = omega arith
same_window (suc (suc (suc zero))) w m h = omega arith
same_window (suc (suc (suc (suc zero)))) w m h = omega arith
same_window (suc (suc (suc (suc (suc zero))))) w m h = omega arith
same_window (suc (suc (suc (suc (suc (suc zero)))))) w m h = omega arith
same_window (suc (suc (suc (suc (suc (suc (suc zero))))))) w m h = omega arith
same_window (suc (suc (suc (suc (suc (suc (suc (suc s)))))))) w m h = absurd (omega arith)

-- the bits of a number, and the first of them
first_low : (k n x : ℕ) → bits (min n k) x ≡ take k (bits n x)
first_low k n x =
    let l = length_low n x in
    let e : min n k ≡ min k (length (bits n x)) = omega arith in
    sym (take_low (min n k) n x (omega arith)) ∙ ap (λ j. take j (bits n x)) e ∙ take_min k (bits n x)

abbrev pub five_bytes : List ℕ → ℕ → ℕ
five_bytes xs f = get_or xs f 0 + get_or xs (f + 1) 0 * 256 + get_or xs (f + 2) 0 * 65536 + get_or xs (f + 3) 0 * 16777216 + get_or xs (f + 4) 0 * 4294967296

pub window_at : (xs : List ℕ) → ((i : ℕ) → get_or xs i 0 < 256) → (p w m : ℕ) → w ≡ five_bytes xs (p / 8) + 1099511627776 * m →
    bits (min (8 * length xs - p) 29) ((w / 2 ^ (p % 8)) % 536870912) ≡ take 29 (drop p (bits_of xs))
window_at xs h p w m e =
    let f = p / 8 in
    let s = p % 8 in
    let n = 8 * length xs - p in
    let five = five_bytes xs f in
    let whole : 8 * (p / 8) + p % 8 ≡ p = omega arith in
    let low : (w / 2 ^ s) % 536870912 ≡ (little (drop f xs) / 2 ^ s) % 536870912 =
    ap (λ v. (v / 2 ^ s) % 536870912) e
    ∙ sym (same_window s five m (omega arith))
    ∙ same_window s five (little (drop (f + 5) xs)) (omega arith)
    ∙ ap (λ v. (v / 2 ^ s) % 536870912) (sym (little_five xs f)) in
    let b : drop p (bits_of xs) ≡ bits n (little (drop f xs) / 2 ^ s) =
    subst (λ q. drop q (bits_of xs) ≡ bits (8 * length xs - q) (little (drop f xs) / 2 ^ s)) whole (bits_at xs h f s) in
    first_low 29 n ((w / 2 ^ s) % 536870912) ∙ ap (λ v. take 29 (bits n v)) low ∙ take_low_mod 29 n (little (drop f xs) / 2 ^ s) ∙ ap (take 29) (sym b)

-- a sign and a symbol by the number of their bits
sign_bits : sign ≡ bits 20 0x665E1
unfolding sign
sign_bits = refl

pub sign_low : (k n x : ℕ) → sign_here (drop k (bits n x)) ≡ (leb 20 (n - k) && eqb ((x / 2 ^ k) % 1048576) 0x665E1)
sign_low k n x =
    ap (λ f. begins f (drop k (bits n x))) sign_bits
    ∙ ap (begins (bits 20 0x665E1)) (drop_low k n x)
    ∙ begins_low 20 0x665E1 (n - k) (x / 2 ^ k)

pub symbol_low : (n x : ℕ) → 10 ≤ n → symbol_here (bits n x) ≡ cond (eqb (x % 2) 1 && eqb ((x / 512) % 2) 0) (Clean ((x / 2) % 256)) Spoiled
symbol_low n x h =
    let z : x / 1 % 2 ≡ x % 2 = omega arith in
    let a : get_or (bits n x) 0 0 ≡ x % 2 = get_or_low 0 n x 0 (omega arith) ∙ z in
    let b : get_or (bits n x) 9 0 ≡ (x / 512) % 2 = get_or_low 9 n x 0 (omega arith) in
    let v : number (take 8 (drop 1 (bits n x))) ≡ (x / 2) % 256 =
    ap (λ l. number (take 8 l)) (drop_low 1 n x) ∙ ap number (take_low 8 (n - 1) (x / 2) (omega arith)) ∙ number_low 8 (x / 2) in
    cc
