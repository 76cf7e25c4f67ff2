-- Octets, and what Sum says of them. Assumes nothing.
use Rattle.std.proofs.Common.{◌≡◌, ℕ, ◌<◌, Bool, true, false, ◌&&◌, ltb, List, length, set, Ok, Err, Decides, refl, ap, arith}
use Rattle.std.proofs.ByRecursion.{All-get_or, Decides-by_and}
use Rattle.std.proofs.lemmas.List.{get_or-set_same, length-set}
use Rattle.std.proofs.lemmas.Bool.{and_from, and_left}
use Rattle.std.proofs.lemmas.Bool.Decides.{Decides-ltb}
use Rattle.refusal.specs.declared.Refusal.TheVariants.{Sum}
use Rattle.message.specs.Message.{Octets, all_octets}
use Rattle.station.specs.Judging.{require, sum_right, sum_checked}

pub decides_octets : (m : List ℕ) → Decides (all_octets m) (Octets m)
decides_octets m = Decides-by_and (λ x. ltb x 256) (λ x. x < 256) all_octets (λ x. Decides-ltb x 256) refl (λ _ _. refl) m

-- a number over 255 is no octet
pub no_octet : (m : List ℕ) (i v : ℕ) → i < length m → 255 < v → all_octets (set m i v) ≡ false
no_octet m i v l h = by (all_octets (set m i v)) refl
  where
    by : (b : Bool) → all_octets (set m i v) ≡ b → all_octets (set m i v) ≡ false
    by false e = e
    by true e =
        let n = length-set m i v in
        let o = All-get_or (λ x. x < 256) (set m i v) i 0 (omega arith) ((decides_octets (set m i v)).0 e) in
        let s = get_or-set_same m i v 0 l in
        absurd (omega arith)

pub sum_refused : (m : List ℕ) → (all_octets m && sum_right m) ≡ false → sum_checked m ≡ Err Sum
sum_refused m e = ap (λ b. require b Sum (Ok m)) e

pub no_octet_fits : (m : List ℕ) (i v : ℕ) → i < length m → 255 < v → sum_checked (set m i v) ≡ Err Sum
no_octet_fits m i v l h = sum_refused (set m i v) (and_left _ _ (no_octet m i v l h))

pub sum_accepted : (m : List ℕ) → all_octets m ≡ true → sum_right m ≡ true → sum_checked m ≡ Ok m
sum_accepted m a b = ap (λ c. require c Sum (Ok m)) (and_from (all_octets m) (sum_right m) a b)
