-- What one order of a run shows of the law. Assumes nothing.
use Rattle.std.proofs.Common.{◌≡◌, ℕ, ◌+◌, ◌<◌, ◌≤◌, Bool, true, false, cond, not, leb, ◌⊎◌, List, [], ◌∷◌, length, take, replicate, Some, None, Ok, Err, Option, Result, sym, refl, ap, ◌∙◌, inl, inr, zero-add, one-add}
use Rattle.std.proofs.lemmas.List.{take_at}
use Rattle.std.proofs.lemmas.Bool.{le-leb, lt-leb, cases_lt}
use Rattle.refusal.specs.declared.Cause.{Cause}
use Rattle.refusal.specs.declared.Cause.TheVariants.{Dry, Cut, Torn}
use Rattle.refusal.specs.declared.Refusal.{Refusal}
use Rattle.refusal.specs.declared.Refusal.TheVariants.{Short, Unit as UnitOver, Quiet, Extent, Argument}
use Rattle.refusal.specs.Names.{cause_number}
use Rattle.radio.specs.declared.symbol.Symbol.{Symbol}
use Rattle.radio.specs.Reception.{Reception, Ending, whole, fault}
use Rattle.radio.specs.Lines.{Heard, unit, opening, opened as opened_line, past}
use Rattle.radio.specs.Outlets.{State}
use Rattle.message.specs.Message.{Lawful, kind, destination, source, payload, message}
use Rattle.message.specs.declared.sealed.Sealed.{Sealed}
use Rattle.message.proofs.Format.{rebuilt}
use Rattle.station.specs.declared.filters.Filters.{Filters}
use Rattle.orders.specs.declared.order.Order.{Order}
use Rattle.orders.specs.declared.order.Order.TheVariants.{Strength, Identity, Mute, Read, Send}
use Rattle.orders.specs.Outcomes.{DoneOrRefused}
use Rattle.orders.specs.declared.order.Done.TheVariants.{Set}
use Rattle.station.specs.Filtering.{with_mute, withheld}
use Rattle.station.specs.Nearness.{Near}
use Rattle.station.specs.Judging.{require, then_check, judged, fields_checked, ended_whole, received, reading, listened, line_left, buffer_left}
use Rattle.station.specs.Exactness.{Iff}
use Rattle.orders.specs.Runs.{Stand, read_outcome, send_outcome, Step}
use Rattle.orders.specs.Law.{nth, stopped, opens, setting, HandsUp, Stops}
use Rattle.station.proofs.Exactly.{exact}

-- a refusal that comes behind an opening
Late : {A : Type 0} → Result A Refusal → Type 0
Late (Ok a) = Unit {0}
Late (Err e) = stopped e ≡ false

late_require : {A : Type 0} (b : Bool) (e : Refusal) (r : Result A Refusal) → stopped e ≡ false → Late r → Late (require b e r)
unfolding Late
late_require true e r s l = l
late_require false e r s l = s

late_then : {A B : Type 0} (r : Result A Refusal) (f : A → Result B Refusal) → Late r → ((a : A) → Late (f a)) → Late (then_check r f)
unfolding Late
late_then (Ok a) f l k = k a
late_then (Err e) f l k = l

late_ok : {A : Type 0} (a : A) → Late (Ok a)
unfolding Late
late_ok a = tt

late_fault : (c : Cause) → leb (cause_number c) 3 ≡ false
late_fault Dry = refl
late_fault Cut = refl
late_fault Torn = refl

late_ended : (e : Ending) (ss : List Symbol) → Late (ended_whole e ss)
unfolding Late
late_ended whole ss = late_require _ Extent (Ok ss) refl tt
late_ended (fault f) ss = late_fault f.cause

late_fields : (m : List ℕ) → Late (fields_checked m)
late_fields m = search (late_require, late_ok)

late_judged : (u : ℕ) (ss : List Symbol) → Late (judged u ss)
unfolding Late
late_judged u ss = search (late_require, late_then, late_ok, late_fields)

late_received : (own : ℕ) (f : Filters) (strength u : ℕ) (r : Reception) → Late (received own f strength u r)
unfolding Late
late_received own f strength u r = search (late_require, late_then, late_ok, late_ended, late_judged)

opens_late : (strength room : ℕ) (r : Result (List ℕ) Refusal) → Late r → opens (Read strength room) (read_outcome strength r) ≡ true
unfolding Late
opens_late strength room (Ok m) l = refl
opens_late strength room (Err e) l = ap not l

-- what a read comes to
module _ (own : ℕ) (f : Filters) (strength room : ℕ) (h : Heard) where
  is_short : room < 66 → (reading own f strength room h ≡ Err Short) × (line_left room h ≡ h)
  is_short l = let e = lt-leb 66 room l in (rw e refl, rw e refl)

  is_wide : 66 ≤ room → 24 < unit h → (reading own f strength room h ≡ Err UnitOver) × (line_left room h ≡ h)
  is_wide long w =
      let e = (le-leb 66 room long) in
      let d = lt-leb (unit h) 24 w in
      (rw (e, d) refl, rw (e, d) refl)

  is_quiet : 66 ≤ room → unit h ≤ 24 → h.coming ≡ [] → (reading own f strength room h ≡ Err Quiet) × (line_left room h ≡ h)
  is_quiet long small c =
      let e = le-leb 66 room long in
      let d = le-leb (unit h) 24 small in
      (rw (e, d, c) refl, rw (e, d, c) refl)

  is_read : 66 ≤ room → unit h ≤ 24 → (r : Reception) (rs : List Reception) → h.coming ≡ r ∷ rs
      → (reading own f strength room h ≡ received own f strength (unit h) r) × (line_left room h ≡ past 97 (opened_line h))
  is_read long small r rs c =
      let e = le-leb 66 room long in
      let d = le-leb (unit h) 24 small in
      (rw (e, d, c) refl, rw (e, d) (ap (listened h) c))

-- the four ways of a read
data Way (own : ℕ) (f : Filters) (strength room : ℕ) (h : Heard) : Type 0 where
  halts : (e : Refusal) → stopped e ≡ true → reading own f strength room h ≡ Err e → line_left room h ≡ h → Way own f strength room h
  goes : (r : Reception) (rs : List Reception) → 66 ≤ room → unit h ≤ 24 → h.coming ≡ r ∷ rs → Way own f strength room h

way : (own : ℕ) (f : Filters) (strength room : ℕ) (h : Heard) → Way own f strength room h
way own f strength room h = by (cases_lt room 66) (cases_lt 24 (unit h)) h.coming refl
  where
    by : (room < 66) ⊎ (66 ≤ room) → (24 < unit h) ⊎ (unit h ≤ 24) → (cs : List Reception) → h.coming ≡ cs → Way own f strength room h
    by (inl l) w cs e = let p = is_short own f strength room h l in halts Short refl p.0 p.1
    by (inr l) (inl w) cs e = let p = is_wide own f strength room h l w in halts UnitOver refl p.0 p.1
    by (inr l) (inr s) [] e = let p = is_quiet own f strength room h l s e in halts Quiet refl p.0 p.1
    by (inr l) (inr s) (r ∷ rs) e = goes r rs l s e

-- what a step keeps and moves
pub record Moves (o : Order) (x : DoneOrRefused) (f g : Filters) (h k : Heard) : Type 0 where
  pub set : g ≡ setting f o x
  pub same_unit : unit k ≡ unit h
  pub moved : (n : ℕ) → nth k.coming n ≡ nth h.coming (cond (opens o x) 1 0 + n)

stays : (o : Order) (x : DoneOrRefused) (f g : Filters) (h : Heard) → opens o x ≡ false → g ≡ setting f o x → Moves o x f g h h
stays o x f g h shut s = record { set = s; same_unit = refl; moved = λ n. rw (shut, zero-add) refl }

-- a read sets no filter
reads_set : (f : Filters) (strength room : ℕ) (r : Result (List ℕ) Refusal) → f ≡ setting f (Read strength room) (read_outcome strength r)
reads_set f strength room (Ok m) = refl
reads_set f strength room (Err e) = refl

sends_set : (f : Filters) (s : Sealed) (p : ℕ) (o : Option Refusal) → f ≡ setting f (Send s p) (send_outcome o)
sends_set f s p None = refl
sends_set f s p (Some e) = refl

mutes_set : (f : Filters) (k : ℕ) (on : Bool) (b : Bool) → cond b (with_mute k on f) f ≡ setting f (Mute k on) (cond b (Ok Set) (Err Argument))
mutes_set f k on true = refl
mutes_set f k on false = refl

read_moves : (own : ℕ) (f : Filters) (strength room : ℕ) (h : Heard) → Way own f strength room h
    → Moves (Read strength room) (read_outcome strength (reading own f strength room h)) f f h (line_left room h)
read_moves own f strength room h (halts e s a l) = rw (a, l) (stays (Read strength room) (Err e) f f h (ap not s) refl)
read_moves own f strength room h (goes r rs long small e) =
    let p = is_read own f strength room h long small r rs e in
    let x = opens_late strength room (received own f strength (unit h) r) (late_received own f strength (unit h) r) in
    rw (p.0, p.1)
    (record {
      set = reads_set f strength room (received own f strength (unit h) r);
      same_unit = ap (λ z. unit (past 97 (opening h z))) e;
      moved = λ n. ap (λ z. nth (opening h z).coming n) e ∙ sym (rw (x, e, one-add) refl);
    })

pub step_moves : {A : Type 0} (state : A → State) (own : ℕ) (o : Order) (x : DoneOrRefused) (a c : Stand A) → Step state own o x a c
    → Moves o x a.filters c.filters a.heard c.heard
step_moves state own (Strength limit) x a c s = rw (s.0, s.1) (stays _ _ _ _ _ refl refl)
step_moves state own (Identity on) x a c s = rw (s.0, s.1) (stays _ _ _ _ _ refl refl)
step_moves state own (Mute k on) x a c s = rw (s.0, s.1) (stays _ _ _ _ _ refl (mutes_set a.filters k on (leb k 3)))
step_moves state own (Read strength room) x a c s = rw (s.0, s.1) (read_moves own a.filters strength room a.heard (way own a.filters strength room a.heard))
step_moves state own (Send sealed p) x a c s = rw (s.0, s.1) (stays _ _ _ _ _ refl (sends_set a.filters sealed p _))

-- a read that was stopped, and one that was not
nth_none : (cs : List Reception) → nth cs 0 ≡ None → cs ≡ []
nth_none [] e = refl
nth_none (r ∷ rs) e = cc

nth_some : (cs : List Reception) (r : Reception) → nth cs 0 ≡ Some r → (rs : List Reception) × (cs ≡ r ∷ rs)
nth_some [] r e = cc
nth_some (c ∷ cs) r e = let k : c ≡ r = cc in (cs, ap (λ z. z ∷ cs) k)

pub read_stops : (own : ℕ) (f : Filters) (strength room : ℕ) (h : Heard) → Stops room (unit h) (nth h.coming 0) strength (read_outcome strength (reading own f strength room h))
read_stops own f strength room h = record {
  short = λ l. ap (read_outcome strength) (is_short own f strength room h l).0;
  wide = λ l w. ap (read_outcome strength) (is_wide own f strength room h l w).0;
  quiet = λ l s e. ap (read_outcome strength) (is_quiet own f strength room h l s (nth_none h.coming e)).0;
  goes_on = λ r l s e.
      let p = nth_some h.coming r e in
      ap (λ z. opens (Read strength room) (read_outcome strength z)) (is_read own f strength room h l s r p.0 p.1).0
      ∙ opens_late strength room (received own f strength (unit h) r) (late_received own f strength (unit h) r);
}

-- what was handed up is the message received
hands : (strength : ℕ) (r : Result (List ℕ) Refusal) (m : List ℕ) → ((n : List ℕ) → r ≡ Ok n → Lawful n) → Iff (HandsUp (read_outcome strength r) m) (r ≡ Ok m)
hands strength (Err e) m l = (λ z. absurd z, λ q. cc)
hands strength (Ok n) m l =
    let part : take (length (payload n)) (buffer_left (Ok n) (replicate 66 0)) ≡ payload n = take_at (payload n) _ (length (payload n)) refl in
    let again : n ≡ message (kind n) (destination n) (source n) (take (length (payload n)) (buffer_left (Ok n) (replicate 66 0))) =
    rebuilt n (l n refl) ∙ ap (message (kind n) (destination n) (source n)) (sym part) in
    (λ q. ap Ok (again ∙ sym q), λ q. let k : m ≡ n = cc in k ∙ again)

pub read_hands : (own : ℕ) (f : Filters) (strength room : ℕ) (h : Heard) → 1 ≤ unit h → opens (Read strength room) (read_outcome strength (reading own f strength room h)) ≡ true
    → (r : Reception) × (nth h.coming 0 ≡ Some r)
    × ((m : List ℕ) → Iff (HandsUp (read_outcome strength (reading own f strength room h)) m) (Lawful m × Near (unit h) m r × (withheld own f strength m ≡ false)))
read_hands own f strength room h some went = by (way own f strength room h)
  where
    by : Way own f strength room h → (r : Reception) × (nth h.coming 0 ≡ Some r)
        × ((m : List ℕ) → Iff (HandsUp (read_outcome strength (reading own f strength room h)) m) (Lawful m × Near (unit h) m r × (withheld own f strength m ≡ false)))
    by (halts e s a l) = let z : false ≡ true = rw (a, s) at went in cc
    by (goes r rs long small e) =
        rw (is_read own f strength room h long small r rs e).0 (
          r,
          ap (λ z. nth z 0) e,
          λ m.
              let x = exact own strength (unit h) f r m some small in
              let k = hands strength (received own f strength (unit h) r) m (λ n q. ((exact own strength (unit h) f r n some small).0 q).0) in
              (λ q. x.0 (k.0 q), λ q. k.1 (x.1 q)),
        )
