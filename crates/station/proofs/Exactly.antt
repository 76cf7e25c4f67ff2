-- A read hands up exactly the lawful, near and unwithheld message. Assumes nothing.
use Rattle.std.proofs.Common.{◌≡◌, ℕ, zero, suc, ◌+◌, ◌-◌, ◌*◌, ◌/◌, ◌%◌, ◌<◌, ◌≤◌, Bool, true, false, not, ◌&&◌, ◌||◌, eqb, ltb, leb, ◌⊎◌, List, [], ◌∷◌, ◌++◌, length, take, drop, set, replicate, Ok, Err, sum, Result, sym, refl, ap, ◌∙◌, subst, inl, inr, mod-lt, arith, lit≤}
use native.Mathlib.Nat.{div-add-mod}
use borrow.Author.Tests.{clash}
use Rattle.std.proofs.lemmas.List.{length-append, length-replicate, length-map, length-take-le, length-drop, take-append-drop, take_at, drop_at, set-get_or, set_past}
use Rattle.std.proofs.lemmas.Bool.{and_parts, and_from, leb-true, le-leb, eqb-true, eq-eqb, cond-true, cond-false, cases_lt, cases_eq, or_parts, or_from, not-true, not_from_false}
use Rattle.refusal.specs.declared.Refusal.{Refusal}
use Rattle.refusal.specs.declared.Refusal.TheVariants.{Extent, Spoiled as Spoilt, Count, Pad, Sum, «Type» as TypeOctet, Range, Address, Weak, Other, Muted}
use Rattle.radio.specs.declared.symbol.Symbol.{Symbol}
use Rattle.radio.specs.declared.symbol.Symbol.TheVariants.{Clean, Spoiled}
use Rattle.radio.specs.Reception.{Reception, Ending, whole, fault, any_octet}
use Rattle.message.specs.Message.{Octets, at, kind, head_length, source, destination, sum_field, Addressed, Lawful, within, addressed, all_octets}
use Rattle.message.proofs.Format.{within_parts, within_from, decides_addressed}
use Rattle.station.specs.declared.filters.Filters.{Filters}
use Rattle.station.specs.Filtering.{weak, other, muted, withheld}
use Rattle.station.specs.Nearness.{rounded, padded, Near}
use Rattle.station.specs.Judging.{require, then_check, few_spoiled, one_spoiled, spoiled_place, number, blank, filled, missing_octet, sum_right, sum_checked, mended, in_range, addresses_fit, fields_checked, summed, judged, ended_whole, collected, filtered, passed, believed, received}
use Rattle.station.specs.Exactness.{Exact, Unique}
use Rattle.station.proofs.Collecting.{some as taken}
use Rattle.station.proofs.Judged.{passes, goes_on, all_blank}
use Rattle.station.proofs.Spoilt.{few_part}
use Rattle.station.proofs.Sums.{decides_octets, sum_accepted}
use Rattle.radio.proofs.Honesty.{written_length, written_append}
use Rattle.station.proofs.Written.{Agree, few_marked, marked_few, agree_take, agree_drop, agree_filled, agree_zeros, zeros_agree, values, first_agrees}
use Rattle.station.proofs.Worked.{worked_out}

-- a count rounded up is not below it, and less than a unit above it
pub rounded_least : (u n : ℕ) → 1 ≤ u → (n ≤ rounded u n) × (rounded u n < n + u)
rounded_least u n l =
    let x = n + u - 1 in
    let d : u * (x / u) + x % u ≡ x = div-add-mod x u in
    let r : x % u < u = mod-lt x l in
    (omega arith, omega arith)

-- a check that went on to a second one
parts : {A B : Type 0} (r : Result A Refusal) (f : A → Result B Refusal) (b : B) → then_check r f ≡ Ok b → (a : A) × (r ≡ Ok a) × (f a ≡ Ok b)
parts (Ok a) f b e = (a, refl, e)
parts (Err x) f b e = let z : ◌≡◌ {A = ℕ} 0 1 = cc in absurd (omega arith)

-- octets whose fields were checked, and the checks that they passed
record Fields (m : List ℕ) : Type 0 where
  typed : kind m ≤ 3
  least : head_length (kind m) + 2 ≤ length m
  most : length m ≤ head_length (kind m) + 2 + 66
  from : (1 ≤ source m) × (source m ≤ 0xfffe)
  to : Addressed (destination m)

fields_of : (m n : List ℕ) → fields_checked m ≡ Ok n → (n ≡ m) × Fields m
fields_of m n e =
    let r₃ = require (addresses_fit m) Address (Ok m) in
    let r₂ = require (in_range m) Range r₃ in
    let e₁ = sym e in
    let e₂ = goes_on (leb (kind m) 3) TypeOctet r₂ n e₁ in
    let e₃ = goes_on (in_range m) Range r₃ n e₂ in
    let e₄ = goes_on (addresses_fit m) Address (Ok m) n e₃ in
    let k = passes (leb (kind m) 3) TypeOctet r₂ n e₁ in
    let i = and_parts (leb (head_length (kind m) + 2) (length m)) (leb (length m) (head_length (kind m) + 2 + 66)) (passes (in_range m) Range r₃ n e₂) in
    let a = and_parts (within 1 0xfffe (source m)) (addressed (destination m)) (passes (addresses_fit m) Address (Ok m) n e₃) in (
      (cc),
      record {
        typed = leb-true _ _ k;
        least = leb-true _ _ i.0;
        most = leb-true _ _ i.1;
        from = within_parts 1 0xfffe (source m) a.0;
        to = (decides_addressed (destination m)).0 a.1;
      },
    )

fields_right : (m : List ℕ) → Lawful m → fields_checked m ≡ Ok m
fields_right m l =
    let k = le-leb (kind m) 3 l.typed in
    let i = and_from (leb (head_length (kind m) + 2) (length m)) (leb (length m) (head_length (kind m) + 2 + 66)) (le-leb _ _ l.least) (le-leb _ _ l.most) in
    let a = and_from (within 1 0xfffe (source m)) (addressed (destination m)) (within_from 1 0xfffe (source m) l.from) ((decides_addressed (destination m)).1 l.to) in
    ap (λ b. require b TypeOctet (require (in_range m) Range (require (addresses_fit m) Address (Ok m)))) k
    ∙ ap (λ b. require b Range (require (addresses_fit m) Address (Ok m))) i
    ∙ ap (λ b. require b Address (Ok m)) a

-- 6 to 74 octets
sized : (m : List ℕ) → Lawful m → (6 ≤ length m) × (length m ≤ 74)
sized m l = by (eqb (kind m) 3) refl
  where
    by : (b : Bool) → eqb (kind m) 3 ≡ b → (6 ≤ length m) × (length m ≤ 74)
    by true e = let h : head_length (kind m) ≡ 6 = cond-true (eqb (kind m) 3) 6 4 e in (omega (arith, l.least), omega (arith, l.most))
    by false e = let h : head_length (kind m) ≡ 4 = cond-false (eqb (kind m) 3) 6 4 e in (omega (arith, l.least), omega (arith, l.most))

-- the first octet that is filled in is the number
first_filled : (v k : ℕ) (ss : List Symbol) → 1 ≤ k → few_spoiled ss ≡ true → 1 ≤ number ss → at (filled v (take k ss)) 0 ≡ number ss
first_filled v zero ss l e o = absurd (omega arith)
first_filled v (suc k) [] l e o = absurd (omega arith)
first_filled v (suc k) (Clean x ∷ ss) l e o = refl
first_filled v (suc k) (Spoiled ∷ ss) l e o = absurd (clash e)

number_agrees : (ss : List Symbol) (m zs : List ℕ) → 1 ≤ length m → Agree ss (m ++ zs) → few_spoiled ss ≡ true → number ss ≡ at m 0
number_agrees ss [] zs l a e = absurd (omega arith)
number_agrees ss (x ∷ m) zs l a e = first_agrees ss x (m ++ zs) a e

module _ (u : ℕ) (some : 1 ≤ u) (ss : List Symbol) (m : List ℕ) where
  -- what was judged to be a message is a lawful one, and agrees with what was heard
  module _ (judgement : judged u ss ≡ Ok m) where
    w : List ℕ
    w = filled (missing_octet (spoiled_place (take (number ss) ss)) (filled 0 (take (number ss) ss))) (take (number ss) ss)

    record Steps : Type 0 where
      few : few_spoiled ss ≡ true
      range : within 6 74 (number ss) ≡ true
      count : rounded u (number ss) ≡ length ss
      pad : blank (drop (number ss) ss) ≡ true
      is : m ≡ w
      all : all_octets w ≡ true
      right : sum_right w ≡ true
      fields : Fields m

    steps : Steps
    unfolding w
    steps =
        let p = parts (summed u ss) fields_checked m judgement in
        let x = p.0 in
        let r₃ = require (all_octets w && sum_right w) Sum (Ok w) in
        let r₂ = require (blank (drop (number ss) ss)) Pad r₃ in
        let counts = within 6 74 (number ss) && eqb (rounded u (number ss)) (length ss) in
        let r₁ = require counts Count r₂ in
        let e₀ = sym p.1 in
        let e₁ = goes_on (few_spoiled ss) Spoilt r₁ x e₀ in
        let e₂ = goes_on counts Count r₂ x e₁ in
        let e₃ = goes_on (blank (drop (number ss) ss)) Pad r₃ x e₂ in
        let e₄ = goes_on (all_octets w && sum_right w) Sum (Ok w) x e₃ in
        let c = and_parts (within 6 74 (number ss)) (eqb (rounded u (number ss)) (length ss)) (passes counts Count r₂ x e₁) in
        let s = and_parts (all_octets w) (sum_right w) (passes (all_octets w && sum_right w) Sum (Ok w) x e₃) in
        let f = fields_of x m p.2 in
        let xw : x ≡ w = cc in
        record {
          few = passes (few_spoiled ss) Spoilt r₁ x e₀;
          range = c.0;
          count = eqb-true _ _ c.1;
          pad = passes (blank (drop (number ss) ss)) Pad r₃ x e₂;
          is = f.0 ∙ xw;
          all = s.0;
          right = s.1;
          fields = subst Fields (sym f.0) f.1;
        }

    there : number ss ≤ length ss
    there = omega (arith, (rounded_least u (number ss) some).0, steps.count)

    ranged : (6 ≤ number ss) × (number ss ≤ 74)
    ranged = within_parts 6 74 (number ss) steps.range

    long : length m ≡ number ss
    unfolding w
    long = ap length steps.is ∙ length-map (take (number ss) ss) _ ∙ length-take-le (number ss) ss there

    first_is : at w 0 ≡ number ss
    unfolding w
    first_is = first_filled _ (number ss) ss (omega (arith, ranged.0)) steps.few (omega (arith, ranged.0))

    judged_lawful : Lawful m
    judged_lawful =
        let f = steps.fields in
        let first : at w 0 ≡ number ss = first_is in
        record {
          octets = subst Octets (sym steps.is) ((decides_octets w).0 steps.all);
          number = ap (λ x. at x 0) steps.is ∙ first ∙ sym long;
          typed = f.typed;
          least = f.least;
          most = f.most;
          summed = subst (λ (x : List ℕ). sum_field x ≡ sum (take (length x - 2) x)) (sym steps.is) (eqb-true _ _ steps.right);
          from = f.from;
          to = f.to;
        }

    filled_front : Agree (take (number ss) ss) w
    unfolding w
    filled_front = agree_filled _ (take (number ss) ss)

    few : few_spoiled ss ≡ true
    few = steps.few

    judged_agrees : Agree ss (padded u m)
    judged_agrees =
        let front : Agree (take (number ss) ss) m = subst (Agree (take (number ss) ss)) (sym steps.is) filled_front in
        let d = length-drop (number ss) ss in
        let zeros : length (drop (number ss) ss) ≡ rounded u (length m) - length m = d ∙ ap (λ k. k - number ss) (sym steps.count) ∙ ap (λ k. rounded u k - k) (sym long) in
        let back : Agree (drop (number ss) ss) (replicate (rounded u (length m) - length m) 0) =
        subst (λ (k : ℕ). Agree (drop (number ss) ss) (replicate k 0)) zeros (agree_zeros (drop (number ss) ss) steps.pad) in
        subst (λ (xs : List Symbol). Agree xs (padded u m)) (take-append-drop (number ss) ss)
        (written_append any_octet (take (number ss) ss) (drop (number ss) ss) m (replicate (rounded u (length m) - length m) 0) front back)

  -- a lawful message that agrees with what was heard, few octets being spoiled, is the one judged
  judged_complete : Lawful m → Agree ss (padded u m) → few_spoiled ss ≡ true → judged u ss ≡ Ok m
  judged_complete l a few =
      let n = length m in
      let s = sized m l in
      let k = rounded u n - n in
      let least = (rounded_least u n some).0 in
      let is : number ss ≡ n = number_agrees ss m (replicate k 0) (omega (arith, s.0)) a few ∙ l.number in
      let count : length ss ≡ rounded u n =
      written_length any_octet ss (padded u m) a ∙ length-append m (replicate k 0) ∙ ap (λ z. n + z) (length-replicate k 0) ∙ whole n (rounded u n) least in
      let front : Agree (take n ss) m = subst (Agree (take n ss)) (take_at m (replicate k 0) n refl) (agree_take n ss (padded u m) a) in
      let back : Agree (drop n ss) (replicate k 0) = subst (Agree (drop n ss)) (drop_at m (replicate k 0) n refl) (agree_drop n ss (padded u m) a) in
      let one = few_part n ss few in
      let sum_is : summed u ss ≡ mended (take n ss) =
      all_blank u ss n (sym is) few s.0 s.1 (sym count) (zeros_agree k (drop n ss) back) in
      ap (λ z. then_check z fields_checked) (sum_is ∙ worked (take n ss) front one l s.0) ∙ fields_right m l
    where
      whole : (n r : ℕ) → n ≤ r → n + (r - n) ≡ r
      whole n r h = omega arith

      worked : (ts : List Symbol) → Agree ts m → one_spoiled ts ≡ true → Lawful m → 6 ≤ length m → mended ts ≡ Ok m
      worked ts a one l six =
          let i = spoiled_place ts in
          let v = missing_octet i (filled 0 ts) in
          let zero_there : filled 0 ts ≡ set m i 0 = values 0 ts m a one in
          let back : set m i v ≡ m = by i v (ap (missing_octet i) zero_there) (cases_lt i (length m)) in
          let is : filled v ts ≡ m = values v ts m a one ∙ back in
          ap sum_checked is ∙ sum_accepted m ((decides_octets m).1 l.octets) (eq-eqb _ _ l.summed)
        where
          by : (i v : ℕ) → v ≡ missing_octet i (set m i 0) → (i < length m) ⊎ (length m ≤ i) → set m i v ≡ m
          by i v e (inl h) = ap (set m i) (e ∙ worked_out m l.octets six l.summed i h) ∙ set-get_or m i 0
          by i v e (inr h) = set_past m i v h

-- a reception that was collected ended whole behind its symbols
collected_parts : (r : Reception) (ss : List Symbol) → collected r ≡ Ok ss → (ss ≡ r.symbols) × (r.ending ≡ whole)
collected_parts r ss e = by r.ending refl (goes_on (leb (length r.symbols) 96) Extent (ended_whole r.ending r.symbols) ss (sym e))
  where
    by : (x : Ending) → r.ending ≡ x → Ok ss ≡ ended_whole x r.symbols → (ss ≡ r.symbols) × (r.ending ≡ whole)
    by whole q h = let k = goes_on (ltb 0 (length r.symbols)) Extent (Ok r.symbols) ss h in ((cc), q)
    by (fault x) q h = let z : ◌≡◌ {A = ℕ} 0 1 = cc in absurd (omega arith)

-- the filters let a message pass exactly when they do not withhold it
module _ (own : ℕ) (f : Filters) (strength : ℕ) (m : List ℕ) where
  pass_parts : (n : List ℕ) → passed own f strength m ≡ Ok n → (n ≡ m) × (withheld own f strength m ≡ false)
  pass_parts n e =
      let a = weak f.strength strength in
      let b = other own f (destination m) in
      let c = muted f (kind m) in
      let r₃ = require {A = Unit {0}} (not c) Muted (Ok tt) in
      let r₂ = require (not b) Other r₃ in
      let p = parts (filtered own f strength (kind m) (destination m)) (λ _. Ok m) n e in
      let e₁ = sym p.1 in
      let e₂ = goes_on (not a) Weak r₂ p.0 e₁ in
      let e₃ = goes_on (not b) Other r₃ p.0 e₂ in
      let x = not-true a (passes (not a) Weak r₂ p.0 e₁) in
      let y = not-true b (passes (not b) Other r₃ p.0 e₂) in
      let z = not-true c (passes (not c) Muted (Ok tt) p.0 e₃) in
      let q = p.2 in
      ((cc), or_from a (b || c) x (or_from b c y z))

  pass_right : withheld own f strength m ≡ false → passed own f strength m ≡ Ok m
  pass_right e =
      let a = weak f.strength strength in
      let b = other own f (destination m) in
      let c = muted f (kind m) in
      let p = or_parts a (b || c) e in
      let q = or_parts b c p.1 in
      let r₃ = require {A = Unit {0}} (not c) Muted (Ok tt) in
      ap (λ x. then_check (require x Weak (require (not b) Other r₃)) (λ _. Ok m)) (not_from_false a p.0)
      ∙ ap (λ x. then_check (require x Other r₃) (λ _. Ok m)) (not_from_false b q.0)
      ∙ ap (λ x. then_check (require x Muted (Ok tt)) (λ _. Ok m)) (not_from_false c q.1)

-- at units up to 24 a message takes up 96 octets at most
pub at_most : (u n : ℕ) → 1 ≤ u → u ≤ 24 → n ≤ 74 → rounded u n ≤ 96
at_most u n l a b = by (cases_eq u 24) (cases_eq n 74)
  where
    below : rounded u n < n + u
    below = (rounded_least u n l).1

    by : (u ≡ 24) ⊎ (u ≡ 24 → ⊥) → (n ≡ 74) ⊎ (n ≡ 74 → ⊥) → rounded u n ≤ 96
    by (inl x) (inl y) = subst (λ (k : ℕ). rounded k n ≤ 96) (sym x) (subst (λ (k : ℕ). rounded 24 k ≤ 96) (sym y) (lit≤ tt))
    by (inl x) (inr y) = let k = below in omega arith
    by (inr x) c = let k = below in omega arith

module _ (own strength u : ℕ) (f : Filters) (r : Reception) (m : List ℕ) (some : 1 ≤ u) (small : u ≤ 24) where
  handed_up : received own f strength u r ≡ Ok m → Lawful m × Near u m r × (withheld own f strength m ≡ false)
  handed_up h =
      let p = parts (believed u r) (passed own f strength) m h in
      let x = p.0 in
      let q = pass_parts own f strength x m p.2 in
      let k = parts (collected r) (judged u) x p.1 in
      let c = collected_parts r k.0 k.1 in
      let j : judged u r.symbols ≡ Ok m = ap (judged u) (sym c.0) ∙ k.2 ∙ ap Ok (sym q.0) in (
        judged_lawful u some r.symbols m j,
        record {
          agrees = record { ended = c.1; agrees = judged_agrees u some r.symbols m j };
          few = few_marked r.symbols (few u some r.symbols m j);
        },
        ap (withheld own f strength) q.0 ∙ q.1,
      )

  hands_up : Lawful m × Near u m r × (withheld own f strength m ≡ false) → received own f strength u r ≡ Ok m
  hands_up h =
      let ss = r.symbols in
      let l = h.0 in
      let near = h.1 in
      let s = sized m l in
      let j = judged_complete u some ss m l near.agrees.agrees (marked_few ss near.few) in
      let k = rounded u (length m) - length m in
      let least = (rounded_least u (length m) some).0 in
      let most = at_most u (length m) some small s.1 in
      let count = written_length any_octet ss (padded u m) near.agrees.agrees ∙ length-append m (replicate k 0) ∙ ap (λ z. length m + z) (length-replicate k 0) in
      let got = taken r (omega arith) near.agrees.ended (omega (arith, s.0)) in
      ap (λ z. then_check (then_check z (judged u)) (passed own f strength)) got ∙ ap (λ z. then_check z (passed own f strength)) j ∙ pass_right own f strength m h.2

pub exact : Exact
exact own strength u f r m some small = (handed_up own strength u f r m some small, hands_up own strength u f r m some small)

pub unique : Unique
unique u r m n some l k a b =
    let x = judged_complete u some r.symbols m l a.agrees.agrees (marked_few r.symbols a.few) in
    let y = judged_complete u some r.symbols n k b.agrees.agrees (marked_few r.symbols b.few) in
    cc
