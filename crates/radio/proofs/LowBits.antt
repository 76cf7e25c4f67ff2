-- Bits of numbers and of bytes.
use native.Mathlib.Nat.{pow-succ'}
use Rattle.std.proofs.Common.{◌≡◌, ℕ, zero, suc, ◌+◌, ◌-◌, ◌*◌, ◌/◌, ◌%◌, ◌^◌, ◌<◌, ◌≤◌, List, [], ◌∷◌, ◌++◌, length, get_or, take, drop, sym, refl, ap, ◌∙◌, add-one, one-add, mul_assoc, arith}
use Rattle.std.proofs.lemmas.List.{drop_all, drop-drop}
use Rattle.std.proofs.lemmas.Nat.{mod-pow-add, shr-shr}
use Rattle.radio.specs.Bits.{bits, number, bits_of}

-- one bit more
pub mod_more : (x m : ℕ) → x % 2 ^ suc m ≡ (x / 2 % 2 ^ m) * 2 + x % 2
mod_more x m = ap (λ k. x % 2 ^ k) (sym (add-one m)) ∙ mod-pow-add x m 1

div_more : (x k : ℕ) → x / 2 / 2 ^ k ≡ x / 2 ^ suc k
div_more x k = shr-shr x 1 k ∙ ap (λ j. x / 2 ^ j) (one-add k)

pub same_bits : {m n x y : ℕ} → m ≡ n → x ≡ y → bits m x ≡ bits n y
same_bits p q = cc

-- the bits of a number from a place on, and the first of them
pub drop_low : (k n x : ℕ) → drop k (bits n x) ≡ bits (n - k) (x / 2 ^ k)
drop_low zero n x = same_bits (omega arith) (omega arith)
drop_low (suc k) zero x = same_bits {m = 0} {n = 0 - suc k} {x = x / 2 ^ suc k} (omega arith) refl
drop_low (suc k) (suc n) x = drop_low k n (x / 2) ∙ same_bits (omega arith) (div_more x k)

pub get_or_low : (k n x d : ℕ) → k < n → get_or (bits n x) k d ≡ (x / 2 ^ k) % 2
get_or_low k zero x d h = absurd (omega arith)
get_or_low zero (suc n) x d h = omega arith
get_or_low (suc k) (suc n) x d h = get_or_low k n (x / 2) d (omega arith) ∙ ap (λ y. y % 2) (div_more x k)

pub take_low : (k n x : ℕ) → k ≤ n → take k (bits n x) ≡ bits k x
take_low zero n x h = refl
take_low (suc k) zero x h = absurd (omega arith)
take_low (suc k) (suc n) x h = ap (λ l. x % 2 ∷ l) (take_low k n (x / 2) (omega arith))

-- bits behind the first m do not show in the first m
pub take_low_mod : (m n x : ℕ) → take m (bits n (x % 2 ^ m)) ≡ take m (bits n x)
take_low_mod zero n x = refl
take_low_mod (suc m) zero x = refl
take_low_mod (suc m) (suc n) x =
    let e = mod_more x m in
    let o : x % 2 ^ suc m % 2 ≡ x % 2 = omega arith in
    let h : x % 2 ^ suc m / 2 ≡ x / 2 % 2 ^ m = omega arith in
    let t : take m (bits n (x % 2 ^ suc m / 2)) ≡ take m (bits n (x / 2)) = ap (λ y. take m (bits n y)) h ∙ take_low_mod m n (x / 2) in
    cc

pub number_low : (k x : ℕ) → number (bits k x) ≡ x % 2 ^ k
number_low zero x = omega arith
number_low (suc k) x =
    let n = number_low k (x / 2) in
    let e = mod_more x k in
    omega arith

pub drop_bits : (f : ℕ) (xs : List ℕ) → drop (8 * f) (bits_of xs) ≡ bits_of (drop f xs)
drop_bits zero xs = refl
drop_bits (suc f) [] = drop_all (8 * suc f) [] (omega arith)
drop_bits (suc f) (x ∷ xs) =
    let e : 8 * suc f ≡ 8 + 8 * f = omega arith in
    ap (λ n. drop n (bits_of (x ∷ xs))) e ∙ sym (drop-drop (8 * f) 8 (bits_of (x ∷ xs))) ∙ drop_bits f xs

pub length_bits : (xs : List ℕ) → length (bits_of xs) ≡ 8 * length xs
length_bits [] = refl
length_bits (x ∷ xs) = let n = length_bits xs in omega arith

-- as many bits as are asked for, and those of two numbers one behind the other
pub length_low : (n x : ℕ) → length (bits n x) ≡ n
length_low zero x = refl
length_low (suc n) x = ap suc (length_low n (x / 2))

pub append_low : (k m x y : ℕ) → x < 2 ^ k → bits k x ++ bits m y ≡ bits (k + m) (x + 2 ^ k * y)
append_low zero m x y h = same_bits (omega arith) (omega arith)
append_low (suc k) m x y h =
    let p : 2 ^ suc k * y ≡ 2 * (2 ^ k * y) = ap (λ z. z * y) (pow-succ' 2 k) ∙ mul_assoc 2 (2 ^ k) y in
    let q = pow-succ' 2 k in
    let o : x % 2 ≡ (x + 2 ^ suc k * y) % 2 = omega arith in
    let d : x / 2 + 2 ^ k * y ≡ (x + 2 ^ suc k * y) / 2 = omega arith in
    let t : bits k (x / 2) ++ bits m y ≡ bits (k + m) ((x + 2 ^ suc k * y) / 2) =
    append_low k m (x / 2) y (omega arith) ∙ ap (bits (k + m)) d in
    let n : suc (k + m) ≡ suc k + m = omega arith in
    let u : x % 2 ∷ (bits k (x / 2) ++ bits m y) ≡ (x + 2 ^ suc k * y) % 2 ∷ bits (k + m) ((x + 2 ^ suc k * y) / 2) = cc in
    u ∙ ap (λ j. bits j (x + 2 ^ suc k * y)) n
