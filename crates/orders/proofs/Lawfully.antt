-- The law of the whole radio. Assumes nothing.
use Rattle.std.proofs.Common.{◌≡◌, ℕ, zero, suc, ◌+◌, ◌-◌, ◌/◌, ◌<◌, ◌≤◌, true, false, List, [], ◌∷◌, length, take, replicate, Some, Option, sym, ◌∙◌, subst, lit<}
use Rattle.std.proofs.ByRecursion.{All-append}
use Rattle.radio.specs.Reception.{Reception, Honest, marks}
use Rattle.radio.specs.Layer.{Pile, Fit, unit_of, sent_through, read_through, rule_of, may_of}
use Rattle.radio.specs.Lines.{Sound, unit}
use Rattle.radio.specs.Outlets.{State}
use Rattle.radio.proofs.Honesty.{every_pile}
use Rattle.message.specs.Message.{Octets, Lawful}
use Rattle.station.specs.declared.filters.Filters.{Filters}
use Rattle.orders.specs.declared.order.Order.{Order}
use Rattle.orders.specs.declared.order.Order.TheVariants.{Read}
use Rattle.orders.specs.Outcomes.{DoneOrRefused}
use Rattle.station.specs.Filtering.{off, withheld}
use Rattle.station.specs.Nearness.{Near, Few, padded, rounded}
use Rattle.station.specs.Exactness.{Iff}
use Rattle.orders.specs.Runs.{Stand, Step, Plays}
use Rattle.orders.specs.Law.{nth, opens, opened, settings, HandsUp, Stops, Radio}
use Rattle.station.proofs.Exactly.{unique}
use Rattle.orders.proofs.Padding.{padded_count}
use Rattle.station.proofs.ReadSteps.{unit_some}
use Rattle.orders.proofs.RunSteps.{step_moves, read_stops, read_hands}

module _ {A : Type 0} (state : A → State) (own : ℕ) where
  run_stops : (os : List Order) (xs : List DoneOrRefused) (a b : Stand A) → Plays state own os xs a b → (i strength room : ℕ) (x : DoneOrRefused) → nth os i ≡ Some (Read strength room) → nth xs i ≡ Some x
      → Stops room (unit a.heard) (nth a.heard.coming (opened (take i os) (take i xs))) strength x
  run_stops [] xs a b p i strength room x e q = cc
  run_stops (o ∷ os) [] a b p i strength room x e q = cc
  run_stops (o ∷ os) (y ∷ ys) a b p zero strength room x e q =
      let read : o ≡ Read strength room = cc in
      let s : Step state own (Read strength room) y a p.0 = rw read at p.1 in
      let same : x ≡ y = cc in
      rw (same, s.0) (read_stops own a.filters strength room a.heard)
  run_stops (o ∷ os) (y ∷ ys) a b p (suc i) strength room x e q =
      let c = p.0 in
      let m = step_moves state own o y a c p.1 in
      rw (← m.moved (opened (take i os) (take i ys)), ← m.same_unit) (run_stops os ys c b p.2 i strength room x e q)

  abbrev Reads : ℕ → Filters → Option Reception → ℕ → DoneOrRefused → Type 0
  Reads u f next strength x = (r : Reception) × (next ≡ Some r) × ((m : List ℕ) → Iff (HandsUp x m) (Lawful m × Near u m r × (withheld own f strength m ≡ false)))

  run_reads : (os : List Order) (xs : List DoneOrRefused) (a b : Stand A) → 1 ≤ unit a.heard → Plays state own os xs a b → (i strength room : ℕ) (x : DoneOrRefused)
      → nth os i ≡ Some (Read strength room) → nth xs i ≡ Some x → opens (Read strength room) x ≡ true
      → Reads (unit a.heard) (settings a.filters (take i os) (take i xs)) (nth a.heard.coming (opened (take i os) (take i xs))) strength x
  run_reads [] xs a b some p i strength room x e q opened_one = cc
  run_reads (o ∷ os) [] a b some p i strength room x e q opened_one = cc
  run_reads (o ∷ os) (y ∷ ys) a b some p zero strength room x e q opened_one =
      let read : o ≡ Read strength room = cc in
      let s : Step state own (Read strength room) y a p.0 = rw read at p.1 in
      let same : x ≡ y = cc in
      let answered = same ∙ s.0 in
      rw answered (read_hands own a.filters strength room a.heard some (rw answered at opened_one))
  run_reads (o ∷ os) (y ∷ ys) a b some p (suc i) strength room x e q opened_one =
      let c = p.0 in
      let m = step_moves state own o y a c p.1 in
      rw (← m.moved (opened (take i os) (take i ys)), ← m.same_unit, ← m.set) (run_reads os ys c b (rw m.same_unit some) p.2 i strength room x e q opened_one)

zeros : (k : ℕ) → Octets (replicate k 0)
zeros zero = tt
zeros (suc k) = (lit< tt, zeros k)

-- through a pile
through : (pile under : Pile) (ground_unit : ℕ) (m : List ℕ) (r : Reception) → 1 ≤ ground_unit → Lawful m
    → Honest (may_of pile) (sent_through pile (padded (unit_of pile (unit_of under ground_unit)) m)) r
    → Iff (Near (unit_of pile (unit_of under ground_unit)) m (read_through pile r)) (Few (rule_of pile (marks (may_of pile) r)))
through pile under ground_unit m r some l h =
    let v = unit_of under ground_unit in
    let pv = (every_pile under).positive ground_unit some in
    let u = unit_of pile v in
    let pu = (every_pile pile).positive v pv in
    let xs = padded u m in
    let fit : Fit (unit_of pile) v xs = record {
      octets = All-append (λ x. x < 256) m (replicate (rounded u (length m) - length m) 0) l.octets (zeros (rounded u (length m) - length m));
      even = ((length m + u - 1) / u, padded_count u pu m);
    } in
    let honest = (every_pile pile).honest v xs r pv fit h in
    let marked = (every_pile pile).marked v xs r pv fit h in
    (λ near. subst Few marked near.few, λ few. record { agrees = honest; few = subst Few (sym marked) few })

pub law : {A : Type 0} (state : A → State) (own : ℕ) (os : List Order) (xs : List DoneOrRefused) (a b : Stand A) → a.filters ≡ off → Sound a.heard → Plays state own os xs a b
    → Radio own a.heard os xs
law state own os xs a b e s p = record {
  layered = s.layered;
  stops = run_stops state own os xs a b p;
  reads = λ i strength room x oe xe opened_one.
      subst (λ (z : Filters). Reads state own (unit a.heard) (settings z (take i os) (take i xs)) (nth a.heard.coming (opened (take i os) (take i xs))) strength x) e
      (run_reads state own os xs a b (unit_some a.heard s) p i strength room x oe xe opened_one);
  unique = unique;
  near = λ pile under ground_unit preamble m s t r some l pe ge sent h. through pile under ground_unit m r some l h;
}
