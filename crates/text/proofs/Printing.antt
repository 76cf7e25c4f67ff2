-- What is written piece by piece.
use Rattle.std.proofs.Common.{◌≡◌, ℕ, zero, suc, ◌+◌, ◌*◌, ◌^◌, ◌/◌, ◌%◌, ◌<◌, List, [], ◌∷◌, ◌++◌, length, get_or, slice_index, take, ℤ, nat_abs, Ok, Err, Result, codes, decimal, w16, sym, refl, ap, ◌∙◌, append_assoc, append-nil, false, eqb, arith}
use Rattle.std.proofs.lemmas.List.{take_more, length-take-le}
use Rattle.std.proofs.lemmas.Bool.Decides.{nat_tests}
use Rattle.std.proofs.lemmas.Str.{IsAscii-append}
use Rattle.std.proofs.lemmas.Str.Ascii.{IsAscii-nil}
use Rattle.std.specs.Int.{to_be_bytes}
use Rattle.std.specs.Result.{IsOk, MatchResult}
use Rattle.std.specs.Str.{IsAscii, IsUtf8}
use Rattle.text.specs.Texts.{digit_text, octet_text, pairs_text, octets_text, address_text, sign_text, tenths_text, hundredths_text}

-- an address is written as its two octets
pub address_shown : (a : ℕ) (octets : List ℕ) → a < 2 ^ 16 → octets ≡ to_be_bytes w16 a → octets_text octets ≡ address_text a
address_shown a octets h e =
    let upper : a / 256 % 256 ≡ a / 256 = omega arith in
    ap octets_text e ∙ ap (λ (x : ℕ). octet_text x ++ octet_text (a % 256)) upper

pub pairs_append : (xs ys : List ℕ) → pairs_text (xs ++ ys) ≡ pairs_text xs ++ pairs_text ys
pairs_append [] ys = refl
pairs_append (x ∷ xs) ys = ap (λ (zs : List ℕ). octet_text x ++ zs) (pairs_append xs ys)

-- one octet more
pub pairs_more : (xs : List ℕ) (i : ℕ) → i < length xs → pairs_text (take i xs) ++ octet_text (get_or xs i 0) ≡ pairs_text (take (i + 1) xs)
pairs_more xs i h = sym (ap pairs_text (take_more xs i 0 h) ∙ pairs_append (take i xs) (get_or xs i 0 ∷ []))

-- as many digits as two for each octet
pairs_long : (xs : List ℕ) → length (pairs_text xs) ≡ 2 * length xs
pairs_long [] = refl
pairs_long (x ∷ xs) = let more = pairs_long xs in omega (arith, more)

pub pairs_length : (i : ℕ) (xs : List ℕ) → i < length xs → (text : List ℕ) → text ≡ pairs_text (take i xs) → length text ≡ 2 * i
pairs_length i xs h text e = let few = length-take-le i xs (omega (arith, h)) in omega (arith, ap length e, pairs_long (take i xs), few)

-- the digits of one octet more, added one by one
pub pairs_pushed : (xs : List ℕ) (i : ℕ) (was one both digits : List ℕ) → i < length xs → was ≡ pairs_text (take i xs) → digits ≡ octet_text (get_or xs i 0)
    → one ≡ was ++ get_or digits 0 0 ∷ [] → both ≡ one ++ get_or digits 1 0 ∷ [] → both ≡ pairs_text (take (i + 1) xs)
pairs_pushed xs i was one both digits h w d o b =
    b ∙ ap (λ (ys : List ℕ). ys ++ get_or digits 1 0 ∷ []) o ∙ append_assoc was (get_or digits 0 0 ∷ []) (get_or digits 1 0 ∷ [])
    ∙ ap (λ (ds : List ℕ). was ++ (get_or ds 0 0 ∷ get_or ds 1 0 ∷ [])) d
    ∙ ap (λ (ys : List ℕ). ys ++ octet_text (get_or xs i 0)) w ∙ pairs_more xs i h

some_octets : (xs : List ℕ) → eqb (length xs) 0 ≡ false → octets_text xs ≡ pairs_text xs
some_octets [] e = let z : ◌≡◌ {A = ℕ} 0 1 = cc in absurd (omega arith)
some_octets (x ∷ xs) e = refl

-- nothing is left to be written
pub pairs_ended : (xs rest text : List ℕ) → length rest ≡ 0 → text ++ pairs_text rest ≡ pairs_text xs → eqb (length xs) 0 ≡ false → text ≡ octets_text xs
pairs_ended xs [] text z e some = sym (append-nil text) ∙ e ∙ sym (some_octets xs some)
pairs_ended xs (y ∷ ys) text z e some = absurd (omega (arith, z))

-- digits are ASCII
digit_small : (d : ℕ) → d < 16 → digit_text d < 128
digit_small d h = grind (arith, nat_tests)

octet_ascii : (x : ℕ) → x < 256 → IsAscii (octet_text x)
octet_ascii x h zero = digit_small (x / 16) (omega (arith, h))
octet_ascii x h (suc zero) = digit_small (x % 16) (omega arith)
octet_ascii x h (suc (suc i)) = omega arith

pub pairs_ascii : (xs : List ℕ) → ((i : ℕ) → slice_index xs i < 256) → IsAscii (pairs_text xs)
pairs_ascii [] h = IsAscii-nil
pairs_ascii (x ∷ xs) h = IsAscii-append (octet_text x) (pairs_text xs) (octet_ascii x (h 0)) (pairs_ascii xs (λ i. h (suc i)))

-- text that is read from ASCII is there
pub ascii_read : {A E : Type 0} (P : A → Type 0) (Q : E → Type 0) (bs : List ℕ) (r : Result A E) → IsUtf8 bs → MatchResult r P (λ e. (IsUtf8 bs → ⊥) × Q e) → IsOk r
ascii_read P Q bs (Ok s) u m = refl
ascii_read P Q bs (Err e) u m = absurd (m.0 u)

-- a decimal number, by its sign and its size
pub tenths_are : (n : ℤ) (sign : List ℕ) (size : ℕ) → sign ≡ sign_text n → size ≡ nat_abs n → sign ++ (decimal (size / 10) ++ (codes "." ++ decimal (size % 10))) ≡ tenths_text n
tenths_are n sign size e f =
    ap (λ (s : List ℕ). s ++ (decimal (size / 10) ++ (codes "." ++ decimal (size % 10)))) e
    ∙ ap (λ (k : ℕ). sign_text n ++ (decimal (k / 10) ++ (codes "." ++ decimal (k % 10)))) f

pub hundredths_are : (n : ℤ) (sign : List ℕ) (size : ℕ) → sign ≡ sign_text n → size ≡ nat_abs n → sign ++ (decimal (size / 100) ++ (codes "." ++ (decimal (size / 10 % 10) ++ decimal (size % 10)))) ≡ hundredths_text n
hundredths_are n sign size e f =
    ap (λ (s : List ℕ). s ++ (decimal (size / 100) ++ (codes "." ++ (decimal (size / 10 % 10) ++ decimal (size % 10))))) e
    ∙ ap (λ (k : ℕ). sign_text n ++ (decimal (k / 100) ++ (codes "." ++ (decimal (k / 10 % 10) ++ decimal (k % 10))))) f
