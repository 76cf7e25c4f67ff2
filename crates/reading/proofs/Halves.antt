-- What a group below comes to above. Assumes nothing.
use Rattle.std.proofs.Common.{◌≡◌, ℕ, ◌+◌, ◌<◌, ◌≤◌, min, List, [], ◌∷◌, ◌++◌, length, take, drop, None, Some, Option, sym, refl, ap, ◌∙◌, arith}
use Rattle.std.proofs.lemmas.List.{length-append, length-take-le, drop_all}
use Rattle.refusal.specs.declared.Fault.{Fault}
use Rattle.refusal.specs.declared.Cause.TheVariants.{Torn}
use Rattle.radio.specs.declared.symbol.Symbol.{Symbol}
use Rattle.radio.specs.Reception.{Reception, Ending, whole, fault, raised, made_at, ending_in}
use Rattle.radio.specs.Lines.{Heard, beyond, past}
use Rattle.coding.specs.Regroup.{regroup, left_over, regroup_short, left_over_short, regroup_first, left_over_first}
use Rattle.coding.specs.Grouping.{Grouping, ending_above, resumed}
use Rattle.coding.specs.Lift.{some_coded}
use Rattle.reading.specs.Half.{held, half, over}

module _ (c : Grouping) (n : ℕ) (p : Reception) where
  -- an unfinished group below
  short : length p.symbols < c.coded → resumed c n p ≡ ending_in (ending_above n p.symbols p.ending)
  short l =
      let k : 0 + length p.symbols < c.coded = omega arith in
      let a = regroup_short c.coded c.read [] p.symbols k in
      let b = left_over_short c.coded [] p.symbols k in
      let m : n + length (regroup c.coded c.read [] p.symbols) ≡ n = omega (arith, ap length a) in
      ap (λ z. record { symbols = z; ending = ending_above (n + length (regroup c.coded c.read [] p.symbols)) (left_over c.coded [] p.symbols) p.ending }) a
      ∙ ap (λ z. ending_in (ending_above z (left_over c.coded [] p.symbols) p.ending)) m
      ∙ ap (λ z. ending_in (ending_above n z p.ending)) b

-- the same once those symbols are taken
short_beyond : (c : Grouping) (n : ℕ) (p : Reception) → length p.symbols < c.coded → resumed c n (beyond c.coded p) ≡ ending_in (ending_above n [] p.ending)
short_beyond c n p l =
    ap (λ z. resumed c n (record { symbols = z; ending = p.ending })) (drop_all c.coded p.symbols (omega arith))
    ∙ short c n (ending_in p.ending) (omega (arith, some_coded c))

torn_above : (n : ℕ) (ss : List Symbol) → 1 ≤ length ss → ending_above n ss whole ≡ made_at Torn n
torn_above n [] l = absurd (omega arith)
torn_above n (s ∷ ss) l = refl

same_count : (m n : ℕ) (h : List Symbol) (e : Ending) → min m 65535 ≡ min n 65535 → ending_above m h e ≡ ending_above n h e
same_count m n h (fault f) k = refl
same_count m n [] whole k = refl
same_count m n (s ∷ h) whole k = ap (λ z. fault (record { cause = Torn; place = z; rise = 0 })) k

-- a whole group below
full : (c : Grouping) (n m : ℕ) (p : Reception) → c.coded ≤ length p.symbols → m ≡ min (n + c.plain) 65535 →
    held c (c.read (take c.coded p.symbols)) None m (beyond c.coded p) ≡ resumed c n p
full c n m p l k =
    let ss = p.symbols in
    let a = regroup_first c.coded c.read ss (some_coded c) l in
    let b = left_over_first c.coded ss (some_coded c) l in
    let x = c.read (take c.coded ss) in
    let y = regroup c.coded c.read [] (drop c.coded ss) in
    let h = left_over c.coded [] (drop c.coded ss) in
    let u : length x ≡ c.plain = c.read_length (take c.coded ss) (length-take-le c.coded ss l) in
    let v : length (x ++ y) ≡ length x + length y = length-append x y in
    sym
    (ap (λ z. record { symbols = z; ending = ending_above (n + length z) (left_over c.coded [] ss) p.ending }) a
    ∙ ap (λ z. record { symbols = x ++ y; ending = ending_above (n + length (x ++ y)) z p.ending }) b
    ∙ ap (λ z. record { symbols = x ++ y; ending = z }) (same_count (n + length (x ++ y)) (m + length y) h p.ending (omega arith)))

-- a half with nothing waiting and no torn group, over the line h, whose next group is gathered and leaves the line q
module _ (c : Grouping) (front : List Symbol) (torn : Option Fault) (n : ℕ) (h q : Heard) (f : front ≡ []) (k : torn ≡ None) (e : q ≡ past c.coded h) where
  resumes : (p : Reception) → held c front torn n p ≡ resumed c n p
  resumes p = ap (λ z. held c z torn n p) f ∙ ap (λ t. held c [] t n p) k

  same_half : (front' : List Symbol) (torn' : Option Fault) (n' : ℕ) → held c front' torn' n' (beyond c.coded h.present) ≡ held c front torn n h.present → half c front' torn' n' q ≡ half c front torn n h
  same_half front' torn' n' d = ap (half c front' torn' n') e ∙ ap (λ z. over c z h) d

  module _ (l : length h.present.symbols < c.coded) where
    pub fault_below : (f₀ : Fault) → h.present.ending ≡ fault f₀ → (half c front torn n q ≡ half c front torn n h) × (held c front torn n h.present ≡ ending_in (fault (raised f₀)))
    fault_below f₀ o =
        let a = resumes h.present ∙ short c n h.present l ∙ ap (λ z. ending_in (ending_above n h.present.symbols z)) o in
        let b = resumes (beyond c.coded h.present) ∙ short_beyond c n h.present l ∙ ap (λ z. ending_in (ending_above n [] z)) o in
        (same_half front torn n (b ∙ sym a), a)

    pub torn_below : (g : Fault) → 1 ≤ length h.present.symbols → h.present.ending ≡ whole → fault g ≡ made_at Torn n →
        (half c front (Some g) n q ≡ half c front torn n h) × (held c front torn n h.present ≡ ending_in (fault g))
    torn_below g s o i =
        let a = resumes h.present ∙ short c n h.present l ∙ ap (λ z. ending_in (ending_above n h.present.symbols z)) o ∙ ap ending_in (torn_above n h.present.symbols s ∙ sym i) in
        (same_half front (Some g) n (ap (λ z. held c z (Some g) n (beyond c.coded h.present)) f ∙ sym a), a)

  pub full_below : (m : ℕ) (group : List Symbol) → c.coded ≤ length h.present.symbols → group ≡ take c.coded h.present.symbols → m ≡ min (n + c.plain) 65535 →
      half c (c.read group) torn m q ≡ half c front torn n h
  full_below m group l g i =
      same_half (c.read group) torn m
      (ap (λ z. held c (c.read z) torn m (beyond c.coded h.present)) g ∙ ap (λ t. held c (c.read (take c.coded h.present.symbols)) t m (beyond c.coded h.present)) k ∙ full c n m h.present l i ∙ sym (resumes h.present))
