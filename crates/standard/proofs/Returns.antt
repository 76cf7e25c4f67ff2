-- What was written comes back. Assumes nothing.
use Rattle.std.proofs.Common.{◌≡◌, ℕ, zero, suc, ◌+◌, ◌*◌, ◌≤◌, true, false, cond, ◌&&◌, eqb, List, [], ◌∷◌, ◌++◌, map, length, take, drop, replicate, sym, refl, ap, ◌∙◌, append_assoc, one-mul, arith, lit≤, ne_eqb}
use mathlib.Core.Bool.{false≢true}
use Rattle.refusal.specs.declared.Cause.TheVariants.{Cut}
use Rattle.radio.specs.declared.symbol.Symbol.TheVariants.{Clean}
use Rattle.radio.specs.Reception.{whole, made_at, ending_in, before, clean}
use Rattle.radio.specs.Layer.{Fit, Octets, AllMay, read_through, sent_through}
use Rattle.lines.specs.HeardOctets.{sign_here, reception_from, receptions}
use Rattle.radio.specs.Outlets.{laid_over, message, start, stop}
use Rattle.outlets.specs.Bottoms.{one_cell, joined_one}
use Rattle.coding.specs.Lift.{layer_of}
use Rattle.coding.specs.Manchester.{is_code}
use Rattle.coding.specs.ManchesterLaws.{manchester}
use Rattle.coding.specs.BlockLaws.{block}
use Rattle.standard.specs.Standard.{standard}
use Rattle.standard.specs.RoundTrip.{OctetsComeBack}

-- the first of the bytes, if they are as many
take_past : (n : ℕ) (xs ys : List ℕ) → length xs ≤ n → (zs : List ℕ) × (take n (xs ++ ys) ≡ xs ++ zs)
take_past n [] ys h = (take n ys, refl)
take_past zero (x ∷ xs) ys h = absurd (omega arith)
take_past (suc n) (x ∷ xs) ys h = let r = take_past n xs ys (omega arith) in (r.0, ap (λ l. x ∷ l) r.1)

-- the last octet of a preamble and the one behind it are the first sign
first_heard : (p : ℕ) (zs : List ℕ) → 1 ≤ p → receptions (replicate p 240 ++ (204 ∷ zs)) ≡ reception_from 0 zs ∷ receptions (204 ∷ zs)
first_heard zero zs h = absurd (omega arith)
first_heard (suc zero) zs h = refl
first_heard (suc (suc p)) zs h = first_heard (suc p) zs (omega arith)

no_sign : (x : ℕ) (zs : List ℕ) → eqb x 240 ≡ false → sign_here (x ∷ zs) ≡ false
no_sign x [] e = refl
no_sign x (z ∷ zs) e = ap (λ b. b && eqb z 204) e

not_code : (y n : ℕ) → is_code y ≡ true → is_code n ≡ false → eqb y n ≡ false
not_code y n c d = ne_eqb y n (λ e. false≢true (sym d ∙ ap is_code (sym e) ∙ c))

-- code octets up to a 33
heard_whole : (n : ℕ) (ys rest : List ℕ) → AllMay is_code ys → reception_from n (ys ++ (51 ∷ rest)) ≡ clean ys
heard_whole n [] rest a = ap (λ b. cond b (ending_in (made_at Cut n)) (ending_in whole)) (no_sign 51 rest refl)
heard_whole n (y ∷ ys) rest a =
    let r = reception_from (n + 1) (ys ++ (51 ∷ rest)) in
    ap (λ b. cond b (ending_in (made_at Cut n)) (cond (eqb y 51) (ending_in whole) (before (Clean y) r))) (no_sign y (ys ++ (51 ∷ rest)) (not_code y 240 a.0 refl))
    ∙ ap (λ b. cond b (ending_in whole) (before (Clean y) r)) (not_code y 51 a.0 refl)
    ∙ ap (before (Clean y)) (heard_whole (n + 1) ys rest a.1)

module _ (m : ℕ) (xs : List ℕ) (octets : Octets xs) (even : length xs ≡ 3 * m) where
  abbrev B : List ℕ
  B = (layer_of block).encode xs

  block_fit : Fit (layer_of block).unit 1 xs
  block_fit = record { octets = octets; even = (m, even) }

  manchester_fit : Fit (layer_of manchester).unit 1 B
  manchester_fit = record { octets = ((layer_of block).laws.written 1 xs (lit≤ tt) block_fit).0; even = (length B, sym (one-mul (length B))) }

  codes_only : AllMay is_code (sent_through standard xs)
  codes_only = ((layer_of manchester).laws.written 1 B (lit≤ tt) manchester_fit).1

  come_back : read_through standard (clean (sent_through standard xs)) ≡ clean xs
  come_back = ap (layer_of block).decode ((layer_of manchester).laws.returns 1 B (lit≤ tt) manchester_fit) ∙ (layer_of block).laws.returns 1 xs (lit≤ tt) block_fit

pub octets_come_back : OctetsComeBack
octets_come_back p m xs memory one octets even fits =
    let Y = sent_through standard xs in
    let M = message standard p xs in
    let r = take_past 65536 M (drop (length M) memory) fits in
    let D = r.0 in
    let bytes : take 65536 (laid_over one_cell M memory) ≡ replicate p 240 ++ (204 ∷ (Y ++ (51 ∷ D))) =
    ap (λ l. take 65536 (l ++ drop (length l) memory)) (joined_one M) ∙ r.1
    ∙ append_assoc (start p) (Y ++ stop) D ∙ append_assoc (replicate p 240) (204 ∷ []) ((Y ++ stop) ++ D)
    ∙ ap (λ l. replicate p 240 ++ (204 ∷ l)) (append_assoc Y stop D) in
    let rest = map (read_through standard) (receptions (204 ∷ (Y ++ (51 ∷ D)))) in (
      rest,
      ap (λ l. map (read_through standard) (receptions l)) bytes
          ∙ ap (map (read_through standard)) (first_heard p (Y ++ (51 ∷ D)) one)
          ∙ ap (λ c. read_through standard c ∷ rest) (heard_whole 0 Y D (codes_only m xs octets even))
          ∙ ap (λ c. c ∷ rest) (come_back m xs octets even),
    )
