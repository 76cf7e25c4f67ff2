-- Bits, frames, and what writing a frame does to what the bit outlet means. Assumes nothing.
use Rattle.std.proofs.Common.{◌≡◌, ℕ, zero, suc, ◌+◌, ◌-◌, ◌*◌, ◌/◌, ◌%◌, ◌^◌, ◌<◌, ◌≤◌, List, [], ◌∷◌, ◌++◌, length, get_or, take, drop, set, sym, refl, ap, ◌∙◌, append_assoc, mod-lt, zero-add, div-one, arith}
use Rattle.std.proofs.lemmas.Nat.{pow_pos, shr-shr}
use Rattle.std.proofs.lemmas.List.{length-append, length-take-le, take_at, drop_at, drop-append-le, drop-drop, drop_more, set_at, take-append-drop}
use Rattle.radio.specs.Layer.{Octets}
use Rattle.outlets.specs.Bottoms.{written_at}
use Rattle.radio.specs.Bits.{bits, number, bits_of, frame}
use Rattle.outlets.specs.Frames.{BitsPinOctets}
use Rattle.radio.proofs.LowBits.{take_low, take_low_mod, drop_low, length_bits, length_low, append_low}
use Rattle.std.proofs.lemmas.Grind.{flat_map-append}
use Rattle.outlets.specs.PlacementLaws.{octet_back}

-- bits in two parts
pub bits_split : (a b x : ℕ) → bits (a + b) x ≡ bits a x ++ bits b (x / 2 ^ a)
bits_split zero b x = ap (λ n. bits n x) (zero-add b) ∙ ap (bits b) (sym (div-one x))
bits_split (suc a) b x =
    let n : suc a + b ≡ suc (a + b) = omega arith in
    let k : 1 + a ≡ suc a = omega arith in
    ap (λ m. bits m x) n
    ∙ ap (λ ys. x % 2 ∷ ys) (bits_split a b (x / 2) ∙ ap (λ y. bits a (x / 2) ++ bits b y) (shr-shr x 1 a ∙ ap (λ m. x / 2 ^ m) k))

-- the lower part decides the lower bits
bits_mod : (a x : ℕ) → bits a (x % 2 ^ a) ≡ bits a x
bits_mod a x = sym (take_low a a (x % 2 ^ a) (omega arith)) ∙ take_low_mod a a x ∙ take_low a a x (omega arith)

pub frame_bits : (x : ℕ) → x < 256 → bits 10 (1 + 2 * x) ≡ frame x
frame_bits x h =
    let z : x / 256 ≡ 0 = omega arith in
    sym (append_low 1 9 1 x (omega arith)) ∙ ap (λ ys. 1 ∷ ys) (bits_split 8 1 x ∙ ap (λ y. bits 8 x ++ (y % 2 ∷ [])) z)

-- a frame written over ten of sixteen bits
module _ (word s x : ℕ) (l : s ≤ 6) (h : x < 256) where
  abbrev f : ℕ
  f = 1 + 2 * x

  abbrev hi : ℕ
  hi = word / 2 ^ s / 1024

  sixteen : ◌≡◌ {A = ℕ} 16 (s + (10 + (6 - s)))
  sixteen = omega arith

  low : bits s (word % 2 ^ s) ≡ take s (bits 16 word)
  low = bits_mod s word ∙ sym (take_low s 16 word (omega arith))

  high : bits (6 - s) hi ≡ drop (s + 10) (bits 16 word)
  high = ap (λ n. bits n hi) (omega arith) ∙ ap (bits (16 - (s + 10))) (shr-shr word s 10) ∙ sym (drop_low (s + 10) 16 word)

  pub framed_over : (scale : ℕ) → scale ≡ 2 ^ s → bits 16 (word % scale + scale * (f + 1024 * (word / scale / 1024))) ≡ take s (bits 16 word) ++ (frame x ++ drop (s + 10) (bits 16 word))
  framed_over scale e =
      ap (λ q. bits 16 (word % q + q * (f + 1024 * (word / q / 1024)))) e
      ∙ ap (λ n. bits n (word % 2 ^ s + 2 ^ s * (f + 1024 * hi))) sixteen
      ∙ sym (append_low s (10 + (6 - s)) (word % 2 ^ s) (f + 1024 * hi) (mod-lt word (pow_pos s)))
      ∙ ap (λ ys. bits s (word % 2 ^ s) ++ ys) (sym (append_low 10 (6 - s) f hi (omega arith)))
      ∙ ap (λ ys. ys ++ (bits 10 f ++ bits (6 - s) hi)) low
      ∙ ap (λ ys. take s (bits 16 word) ++ (ys ++ bits (6 - s) hi)) (frame_bits x h)
      ∙ ap (λ ys. take s (bits 16 word) ++ (frame x ++ ys)) high

-- a fact for each place of a frame in two bytes
up_to_six : (P : ℕ → Type 0) → P 0 → P 1 → P 2 → P 3 → P 4 → P 5 → P 6 → (s : ℕ) → s ≤ 6 → P s
up_to_six P a b c d e f g zero l = a
up_to_six P a b c d e f g (suc zero) l = b
up_to_six P a b c d e f g (suc (suc zero)) l = c
up_to_six P a b c d e f g (suc (suc (suc zero))) l = d
up_to_six P a b c d e f g (suc (suc (suc (suc zero)))) l = e
up_to_six P a b c d e f g (suc (suc (suc (suc (suc zero))))) l = f
up_to_six P a b c d e f g (suc (suc (suc (suc (suc (suc zero)))))) l = g
up_to_six P a b c d e f g (suc (suc (suc (suc (suc (suc (suc s))))))) l = absurd (omega arith)

pub framed_fits : (word f : ℕ) → word < 65536 → f < 1024 → (s : ℕ) → s ≤ 6 → word % 2 ^ s + 2 ^ s * (f + 1024 * (word / 2 ^ s / 1024)) < 65536
framed_fits word f h k =
    up_to_six (λ s. word % 2 ^ s + 2 ^ s * (f + 1024 * (word / 2 ^ s / 1024)) < 65536) (omega arith) (omega arith) (omega arith) (omega arith) (omega arith) (omega arith) (omega arith)

-- a part written inside a part
pub spliced : (F W R fr : List ℕ) (n s k : ℕ) → length F ≡ n → k ≡ s + length fr → k ≤ length W
    → F ++ ((take s W ++ (fr ++ drop k W)) ++ R) ≡ written_at (F ++ (W ++ R)) (n + s) fr
spliced F W R fr n s k l at h =
    ap (λ ys. F ++ ys) (append_assoc (take s W) (fr ++ drop k W) R ∙ ap (λ ys. take s W ++ ys) (append_assoc fr (drop k W) R))
    ∙ sym (append_assoc F (take s W) (fr ++ (drop k W ++ R)))
    ∙ ap (λ ys. ys ++ (fr ++ (drop k W ++ R))) front
    ∙ ap (λ ys. take (n + s) (F ++ (W ++ R)) ++ (fr ++ ys)) rest
  where
    split : F ++ (W ++ R) ≡ (F ++ take s W) ++ (drop s W ++ R)
    split = ap (λ ys. F ++ (ys ++ R)) (sym (take-append-drop s W)) ∙ ap (λ ys. F ++ ys) (append_assoc (take s W) (drop s W) R) ∙ sym (append_assoc F (take s W) (drop s W ++ R))

    front : F ++ take s W ≡ take (n + s) (F ++ (W ++ R))
    front =
        let a = length-append F (take s W) in
        let b : length (take s W) ≡ s = length-take-le s W (omega arith) in
        sym (ap (take (n + s)) split ∙ take_at (F ++ take s W) (drop s W ++ R) (n + s) (omega arith))

    rest : drop k W ++ R ≡ drop (n + s + length fr) (F ++ (W ++ R))
    rest =
        let q : n + s + length fr ≡ n + k = omega arith in
        sym (ap (λ j. drop j (F ++ (W ++ R))) q ∙ sym (drop-drop k n (F ++ (W ++ R))) ∙ ap (drop k) (drop_at F (W ++ R) n l) ∙ drop-append-le k W R h)

pub bits_word : (x y : ℕ) → x < 256 → bits 16 (x + 256 * y) ≡ bits 8 x ++ bits 8 y
bits_word x y h = sym (append_low 8 8 x y h)

-- two bytes written
module _ (ms : List ℕ) (q : ℕ) (fits : q + 1 < length ms) where
  abbrev P : List ℕ
  P = take q ms

  abbrev Q : List ℕ
  Q = drop (q + 1 + 1) ms

  abbrev x : ℕ
  x = get_or ms q 0

  abbrev y : ℕ
  y = get_or ms (q + 1) 0

  PLength : length P ≡ q
  PLength = length-take-le q ms (omega arith)

  ms_is : ms ≡ P ++ (x ∷ y ∷ Q)
  ms_is = sym (take-append-drop q ms) ∙ ap (λ ys. P ++ ys) (drop_more ms q 0 (omega arith) ∙ ap (λ ys. x ∷ ys) (drop_more ms (q + 1) 0 fits))

  set_two : (a b : ℕ) → set (set ms q a) (q + 1) b ≡ P ++ (a ∷ b ∷ Q)
  set_two a b =
      let n = length-append P (a ∷ []) in
      let l = PLength in
      ap (λ zs. set (set zs q a) (q + 1) b) ms_is
      ∙ ap (λ zs. set zs (q + 1) b) (set_at P x (y ∷ Q) a q l ∙ sym (append_assoc P (a ∷ []) (y ∷ Q)))
      ∙ set_at (P ++ (a ∷ [])) y Q b (q + 1) (omega arith) ∙ append_assoc P (a ∷ []) (b ∷ Q)

  bits_two : (a b : ℕ) → bits_of (P ++ (a ∷ b ∷ Q)) ≡ bits_of P ++ ((bits 8 a ++ bits 8 b) ++ bits_of Q)
  bits_two a b = flat_map-append (bits 8) P (a ∷ b ∷ Q) ∙ ap (λ ys. bits_of P ++ ys) (sym (append_assoc (bits 8 a) (bits 8 b) (bits_of Q)))

  pub two_laid : (word laid s : ℕ) (fr : List ℕ) → s ≤ 6 → length fr ≡ 10 → bits 16 word ≡ bits 8 x ++ bits 8 y → bits 16 laid ≡ take s (bits 16 word) ++ (fr ++ drop (s + 10) (bits 16 word))
      → bits_of (set (set ms q (laid % 256)) (q + 1) (laid / 256 % 256)) ≡ written_at (bits_of ms) (8 * q + s) fr
  two_laid word laid s fr l ten was e =
      let W = bits 16 word in
      let w : length W ≡ 16 = length_low 16 word in
      let n : length (bits_of P) ≡ 8 * q = length_bits P ∙ ap (λ k. 8 * k) PLength in
      let lo : bits 8 (laid % 256) ≡ bits 8 laid = bits_mod 8 laid in
      let up : bits 8 (laid / 256 % 256) ≡ bits 8 (laid / 256) = bits_mod 8 (laid / 256) in
      let old : bits_of P ++ (W ++ bits_of Q) ≡ bits_of ms = ap (λ ys. bits_of P ++ (ys ++ bits_of Q)) was ∙ sym (bits_two x y) ∙ ap bits_of (sym ms_is) in
      ap bits_of (set_two (laid % 256) (laid / 256 % 256))
      ∙ bits_two (laid % 256) (laid / 256 % 256)
      ∙ ap (λ ys. bits_of P ++ ((ys ++ bits 8 (laid / 256 % 256)) ++ bits_of Q)) lo
      ∙ ap (λ ys. bits_of P ++ ((bits 8 laid ++ ys) ++ bits_of Q)) up
      ∙ ap (λ ys. bits_of P ++ (ys ++ bits_of Q)) (sym (bits_split 8 8 laid) ∙ e)
      ∙ spliced (bits_of P) W (bits_of Q) fr (8 * q) s (s + 10) n (omega arith) (omega arith)
      ∙ ap (λ ys. written_at ys (8 * q + s) fr) old

-- octets with the same bits
module _ where
  bytes_in : ℕ → List ℕ → List ℕ
  bytes_in zero bs = []
  bytes_in (suc n) bs = number (take 8 bs) ∷ bytes_in n (drop 8 bs)

  bytes_back : (xs : List ℕ) → Octets xs → bytes_in (length xs) (bits_of xs) ≡ xs
  unfolding bytes_in
  bytes_back [] o = refl
  bytes_back (x ∷ xs) o = ap (λ y. y ∷ bytes_in (length xs) (bits_of xs)) (octet_back x o.0) ∙ ap (λ zs. x ∷ zs) (bytes_back xs o.1)

  pub bits_pin : BitsPinOctets
  bits_pin xs ys o p e =
      let a = length_bits xs in
      let b = length_bits ys in
      let c = ap length e in
      let n : length xs ≡ length ys = omega arith in
      sym (bytes_back xs o) ∙ ap (λ k. bytes_in k (bits_of xs)) n ∙ ap (bytes_in (length ys)) e ∙ bytes_back ys p
