-- What one order does, and what orders do one after the other. Assumes nothing.
use Rattle.std.proofs.Common.{◌≡◌, ℕ, ◌+◌, ◌<◌, ◌≤◌, min, leb, ◌⊎◌, List, [], ◌∷◌, ◌++◌, length, get_or, take, drop, set, replicate, Some, None, Ok, Err, Option, Result, sym, refl, ap, ◌∙◌, inl, inr, arith}
use Rattle.std.proofs.lemmas.List.{append-nil, take_more, take_more_set}
use Rattle.std.proofs.lemmas.Bool.{le-leb, lt-leb, leb-true, cases_lt}
use Rattle.refusal.specs.declared.Refusal.{Refusal}
use Rattle.refusal.specs.declared.Refusal.TheVariants.{Short, Unit as UnitOver}
use Rattle.radio.specs.Lines.{Heard, unit}
use Rattle.radio.specs.Outlets.{State, answer, Leaves}
use Rattle.station.specs.declared.filters.Filters.{Filters}
use Rattle.station.specs.declared.filters.Facts.{Facts}
use Rattle.orders.specs.declared.order.Order.{Order}
use Rattle.orders.specs.Outcomes.{DoneOrRefused}
use Rattle.orders.specs.declared.order.Done.TheVariants.{Sent as WasSent, Message}
use Rattle.orders.specs.declared.order.Order.TheVariants.{Send}
use Rattle.message.specs.declared.sealed.Sealed.{Sealed}
use Rattle.message.specs.Parts.{items}
use Rattle.station.specs.Judging.{require, of_coming, reading, facts_of, told, buffer_left, line_left}
use Rattle.orders.specs.Sending.{Sent, send_refusal}
use Rattle.orders.specs.Runs.{Stand, read_outcome, send_outcome, Step, Plays}
use Rattle.station.proofs.Judged.{passes}

-- what came of a sending, by what it answered
abbrev pub sending_outcome : Result (Unit {0}) Refusal → DoneOrRefused
sending_outcome (Ok x) = Ok WasSent
sending_outcome (Err e) = Err e

sending_is : (o : Option Refusal) → sending_outcome (answer o) ≡ send_outcome o
sending_is None = refl
sending_is (Some e) = refl

-- only whether the room reaches 66 octets counts
same_room : (room : ℕ) → leb 66 (min room 66) ≡ leb 66 room
same_room room = by (cases_lt room 66)
  where
    by : (room < 66) ⊎ (66 ≤ room) → leb 66 (min room 66) ≡ leb 66 room
    by (inl l) = lt-leb 66 (min room 66) (omega arith) ∙ sym (lt-leb 66 room l)
    by (inr l) = le-leb 66 (min room 66) (omega arith) ∙ sym (le-leb 66 room l)

-- what came of a read, by what it answered and the payload's octets afterwards
abbrev pub handed : Result Facts Refusal → List ℕ → DoneOrRefused
handed (Ok facts) octets = Ok (Message facts octets)
handed (Err e) octets = Err e

-- a read into no more than 66 octets of a payload
module _ (own : ℕ) (f : Filters) (strength room size : ℕ) (h : Heard) (is : size ≡ min room 66) where
  same_long : leb 66 size ≡ leb 66 room
  same_long = rw is (same_room room)

  pub same_line : line_left size h ≡ line_left room h
  same_line = rw same_long refl

  pub read_is : (r : Result Facts Refusal) (part : List ℕ) → r ≡ told strength (reading own f strength size h)
      → part ≡ buffer_left (reading own f strength size h) (take size (replicate 66 0))
      → handed r (part ++ drop size (replicate 66 0)) ≡ read_outcome strength (reading own f strength room h)
  read_is r part q a = rw (← same_long) (by (reading own f strength size h) refl)
    where
      by : (x : Result (List ℕ) Refusal) → reading own f strength size h ≡ x → handed r (part ++ drop size (replicate 66 0)) ≡ read_outcome strength x
      by (Err e) k = rw (q, k) refl
      by (Ok m) k =
          let long : 66 ≤ size = leb-true 66 size (passes (leb 66 size) Short (require (leb (unit h) 24) UnitOver (of_coming own f strength (unit h) h.coming)) m (sym k)) in
          let all : size ≡ 66 = omega arith in
          rw (q, a, k, all) (ap (λ p. Ok (Message (facts_of strength m) p)) (append-nil _))

-- one order more
pub plays_more : {A : Type 0} (state : A → State) (own : ℕ) (os : List Order) (xs : List DoneOrRefused) (o : Order) (x : DoneOrRefused) (a b c : Stand A)
    → Plays state own os xs a b → Step state own o x b c → Plays state own (os ++ o ∷ []) (xs ++ x ∷ []) a c
plays_more state own [] [] o x a b c p s = (c, rw p s, refl)
plays_more state own [] (y ∷ ys) o x a b c p s = absurd p
plays_more state own (q ∷ os) [] o x a b c p s = absurd p
plays_more state own (q ∷ os) (y ∷ xs) o x a b c p s = (p.0, p.1, plays_more state own os xs o x p.0 b c p.2 s)

pub plays_next : {A : Type 0} (state : A → State) (own : ℕ) (os : List Order) (xs : List DoneOrRefused) (i : ℕ) (o : Order) (x : DoneOrRefused) (a b c : Stand A)
    → i < length os → get_or os i o ≡ o → i < length xs → Plays state own (take i os) (take i xs) a b → Step state own o x b c
    → Plays state own (take (i + 1) os) (take (i + 1) (set xs i x)) a c
plays_next state own os xs i o x a b c l at k p s = rw (take_more os i o l, at, take_more_set xs i x k) (plays_more state own (take i os) (take i xs) o x a b c p s)

-- one sending more
pub send_step : {A : Type 0} (state : A → State) (own : ℕ) (s : Sealed) (p : ℕ) (f : Filters) (h : Heard) (a b : A) (r : Result (Unit {0}) Refusal) → r ≡ answer (send_refusal p (items s.octets) (state a))
    → Leaves (Sent p (items s.octets)) state r a b
    → Step state own (Send s p) (sending_outcome r) (record { filters = f; heard = h; outlet = a }) (record { filters = f; heard = h; outlet = b })
send_step state own s p f h a b r e l = (
  ap sending_outcome e ∙ sending_is _,
  refl,
  rw e at l,
)
