-- A message padded to the unit, and when it may be begun. Assumes nothing.
use Rattle.std.proofs.Common.{◌≡◌, ℕ, ◌+◌, ◌-◌, ◌/◌, ◌%◌, ◌≤◌, true, false, cond, eqb, leb, List, ◌++◌, length, take, replicate, refl, ap, ◌∙◌, lit≤, arith}
use native.Mathlib.Nat.{mul-mod_right}
use Rattle.std.proofs.lemmas.List.{length-append, length-replicate, take-replicate}
use Rattle.std.proofs.lemmas.Bool.{and_from, le-leb, eq-eqb}
use Rattle.std.proofs.Math.Seq.{take-append-add}
use Rattle.message.specs.Message.{Lawful, kind, head_length}
use Rattle.radio.specs.Outlets.{State, unit, even, begin_refusal}
use Rattle.station.specs.Nearness.{rounded, padded}
use Rattle.orders.specs.Sending.{send_refusal}
use Rattle.station.proofs.Exactly.{rounded_least, at_most}

-- a lawful message has at most 74 octets
pub short_message : (m : List ℕ) → Lawful m → length m ≤ 74
short_message m l =
    let head : head_length (kind m) ≤ 6 = elim (eqb (kind m) 3) as (λ b. cond b 6 4 ≤ 6) [ true ↦ lit≤ tt | false ↦ lit≤ tt ] in
    omega (arith, l.most)

-- a padded message has a multiple of the unit
pub padded_count : (u : ℕ) → 1 ≤ u → (m : List ℕ) → length (padded u m) ≡ rounded u (length m)
padded_count u some m =
    let n = length m in
    let least = (rounded_least u n some).0 in
    length-append m (replicate (rounded u n - n) 0) ∙ ap (λ k. n + k) (length-replicate (rounded u n - n) 0) ∙ whole n (rounded u n) least
  where
    whole : (n r : ℕ) → n ≤ r → n + (r - n) ≡ r
    whole n r h = omega arith

-- a message and zeros behind it, cut at the rounded count, is the padded message
pub padded_cut : (u : ℕ) → 1 ≤ u → u ≤ 24 → (m : List ℕ) → length m ≤ 74 → take (rounded u (length m)) (m ++ replicate (96 - length m) 0) ≡ padded u m
padded_cut u some small m short =
    let n = length m in
    let r = rounded u n in
    let least = (rounded_least u n some).0 in
    let most = at_most u n some small short in
    let split : r ≡ n + (r - n) = omega arith in
    ap (λ k. take k (m ++ replicate (96 - n) 0)) split
    ∙ take-append-add m (replicate (96 - n) 0) (r - n)
    ∙ ap (λ l. m ++ l) (take-replicate (r - n) (96 - n) 0 (omega arith))

-- the refusals of a sending are those of beginning, of which UNEVEN cannot come
pub refusal_is : (s : State) (p : ℕ) (m : List ℕ) → 1 ≤ unit s → unit s ≤ 24 → length (padded (unit s) m) ≤ 65534 → begin_refusal p (length (padded (unit s) m)) s ≡ send_refusal p m s
refusal_is s p m some small few =
    let u = unit s in
    let k = length (padded u m) in
    let whole : k % u ≡ 0 = ap (λ j. j % u) (padded_count u some m) ∙ mul-mod_right u ((length m + u - 1) / u) in
    let is_even : even k u ≡ true = and_from (leb k 65534) (eqb (k % u) 0) (le-leb _ _ few) (eq-eqb _ _ whole) in
    rw (is_even, le-leb u 24 small) refl
