-- What is written in either placement is read back. Assumes nothing.
use Rattle.std.proofs.Common.{◌≡◌, ℕ, zero, suc, ◌+◌, ◌*◌, ◌/◌, ◌<◌, ◌≤◌, List, [], ◌∷◌, ◌++◌, length, take, drop, sym, refl, ap, ◌∙◌, append_assoc, zero-add, take_all, arith}
use Rattle.std.proofs.lemmas.List.{length-append, length-drop, take_at, take-append-le, drop-append-le, nil_from_length}
use Rattle.std.specs.List.{flat_map}
use Rattle.radio.specs.Layer.{Octets}
use Rattle.radio.specs.Bits.{bits, number, bits_of, frame}
use Rattle.radio.proofs.LowBits.{length_bits}
use Rattle.outlets.specs.Bottoms.{one_cell, joined_one}
use Rattle.outlets.specs.Frames.{unframed}

pub octets_fit : (bytes : List ℕ) → 1 * length bytes ≤ length bytes
octets_fit bytes = omega arith

pub octets_few : (n : ℕ) → n ≤ n
octets_few n = omega arith

pub octets_behind : (n : ℕ) (xs front rest : List ℕ) → length front ≡ 1 * n → Octets xs → take (n + length xs) (front ++ (flat_map one_cell xs ++ rest)) ≡ take n front ++ xs
octets_behind n xs front rest l o =
    let n_is : length front ≡ n = omega arith in
    let a = length-append front xs in
    ap (λ ys. take (n + length xs) (front ++ (ys ++ rest))) (joined_one xs)
    ∙ ap (take (n + length xs)) (sym (append_assoc front xs rest))
    ∙ take_at (front ++ xs) rest (n + length xs) (omega arith)
    ∙ ap (λ ys. ys ++ xs) (sym (take_all n front (omega arith)))

pub frames_fit : (bytes : List ℕ) → 10 * (8 * length bytes / 10) ≤ length (bits_of bytes)
frames_fit bytes = let b = length_bits bytes in omega arith

pub frames_few : (n : ℕ) → 8 * n / 10 ≤ n
frames_few n = omega arith

pub octet_back : (x : ℕ) → x < 256 → number (bits 8 x) ≡ x
octet_back x h = omega arith

unframed_frames : (xs ys : List ℕ) → Octets xs → unframed (length xs) (flat_map frame xs ++ ys) ≡ xs
unframed_frames [] ys o = refl
unframed_frames (x ∷ xs) ys o =
    ap (λ y. y ∷ unframed (length xs) (flat_map frame xs ++ ys)) (octet_back x o.0) ∙ ap (λ zs. x ∷ zs) (unframed_frames xs ys o.1)

unframed_more : (n m : ℕ) (zs ys : List ℕ) → length zs ≡ 10 * n → unframed (n + m) (zs ++ ys) ≡ unframed n zs ++ unframed m ys
unframed_more zero m zs ys e = ap (λ k. unframed k (zs ++ ys)) (zero-add m) ∙ ap (λ z. unframed m (z ++ ys)) (nil_from_length zs e)
unframed_more (suc n) m zs ys e =
    let k : suc n + m ≡ suc (n + m) = omega arith in
    let d : length (drop 1 zs) ≡ 10 * n + 9 = length-drop 1 zs ∙ omega arith in
    let t : take 8 (drop 1 (zs ++ ys)) ≡ take 8 (drop 1 zs) = ap (take 8) (drop-append-le 1 zs ys (omega arith)) ∙ take-append-le 8 (drop 1 zs) ys (omega arith) in
    let r : drop 10 (zs ++ ys) ≡ drop 10 zs ++ ys = drop-append-le 10 zs ys (omega arith) in
    ap (λ j. unframed j (zs ++ ys)) k
    ∙ ap (λ b. number b ∷ unframed (n + m) (drop 10 (zs ++ ys))) t
    ∙ ap (λ b. number (take 8 (drop 1 zs)) ∷ unframed (n + m) b) r
    ∙ ap (λ b. number (take 8 (drop 1 zs)) ∷ b) (unframed_more n m (drop 10 zs) ys (length-drop 10 zs ∙ omega arith))

pub frames_behind : (n : ℕ) (xs front rest : List ℕ) → length front ≡ 10 * n → Octets xs → unframed (n + length xs) (front ++ (flat_map frame xs ++ rest)) ≡ unframed n front ++ xs
frames_behind n xs front rest l o = unframed_more n (length xs) front (flat_map frame xs ++ rest) l ∙ ap (λ ys. unframed n front ++ ys) (unframed_frames xs rest o)
