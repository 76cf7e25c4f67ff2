-- The law of the whole radio, over runs of one station on one line and one outlet. Assumes nothing.
use Rattle.std.specs.Prelude.{◌≡◌, ℕ, zero, suc, ◌+◌, ◌<◌, ◌≤◌, Bool, true, false, cond, not, List, [], ◌∷◌, ◌++◌, map, take, Some, None, Option, Ok, Err, nat_le}
use Rattle.refusal.specs.declared.Refusal.{Refusal}
use Rattle.refusal.specs.declared.Refusal.TheVariants.{Short, Unit as UnitOver, Quiet}
use Rattle.refusal.specs.Names.{title}
use Rattle.radio.specs.Reception.{Reception, Honest, marks}
use Rattle.radio.specs.Layer.{Pile, unit_of, sent_through, read_through, rule_of, may_of}
use Rattle.radio.specs.Lines.{Heard, unit}
use Rattle.radio.specs.Outlets.{State}
use Rattle.message.specs.Message.{Lawful, message}
use Rattle.station.specs.declared.filters.Filters.{Filters}
use Rattle.orders.specs.declared.order.Order.{Order}
use Rattle.orders.specs.declared.order.Order.TheVariants.{Strength, Identity, Mute, Read, Send}
use Rattle.orders.specs.Outcomes.{DoneOrRefused}
use Rattle.orders.specs.declared.order.Done.TheVariants.{Set, Sent as WasSent, Message}
use Rattle.station.specs.Exactness.{Iff}
use Rattle.station.specs.Filtering.{off, with_strength, with_identity, with_mute, withheld}
use Rattle.station.specs.Nearness.{Near, Few, padded}
use Rattle.orders.specs.Sending.{Sent}

-- what stands at a place of a list
abbrev pub nth : {A : Type 0} → List A → ℕ → Option A
nth [] i = None
nth (x ∷ xs) zero = Some x
nth (x ∷ xs) (suc i) = nth xs i

-- the refusals 1 to 3 stop a read before it opens a reception
abbrev pub stopped : Refusal → Bool
stopped e = nat_le (title e).number 3

-- this order was a read that opened a reception
abbrev pub opens : Order → DoneOrRefused → Bool
opens (Read strength room) (Ok Set) = false
opens (Read strength room) (Ok WasSent) = false
opens (Read strength room) (Ok (Message f p)) = true
opens (Read strength room) (Err e) = not (stopped e)
opens (Strength limit) x = false
opens (Identity on) x = false
opens (Mute k on) x = false
opens (Send sealed p) x = false

-- how many receptions these orders opened
abbrev pub opened : List Order → List DoneOrRefused → ℕ
opened [] xs = 0
opened (o ∷ os) [] = 0
opened (o ∷ os) (x ∷ xs) = cond (opens o x) 1 0 + opened os xs

-- an accepted setting sets its filter; nothing else changes one
abbrev pub setting : Filters → Order → DoneOrRefused → Filters
setting f (Strength limit) (Ok Set) = with_strength limit f
setting f (Identity on) (Ok Set) = with_identity on f
setting f (Mute k on) (Ok Set) = with_mute k on f
setting f (Read strength room) (Ok Set) = f
setting f (Send sealed p) (Ok Set) = f
setting f o (Ok WasSent) = f
setting f o (Ok (Message g p)) = f
setting f o (Err e) = f

-- the filters as the last accepted settings say, and else as they were in f
abbrev pub settings : Filters → List Order → List DoneOrRefused → Filters
settings f [] xs = f
settings f (o ∷ os) [] = f
settings f (o ∷ os) (x ∷ xs) = settings (setting f o x) os xs

-- the read handed up the message of the type, Destination, Source and payload given, with Number and Sum to match
abbrev pub HandsUp : DoneOrRefused → List ℕ → Type 0
HandsUp (Ok Set) m = ⊥
HandsUp (Ok WasSent) m = ⊥
HandsUp (Err e) m = ⊥
HandsUp (Ok (Message f p)) m = m ≡ message f.kind f.destination f.source (take f.length p)

-- whether a read opens, by the room for its payload, the line's unit and the receptions that are left
pub record Stops (room unit : ℕ) (next : Option Reception) (strength : ℕ) (x : DoneOrRefused) : Type 0 where
  pub short : room < 66 → x ≡ Err Short
  pub wide : 66 ≤ room → 24 < unit → x ≡ Err UnitOver
  pub quiet : 66 ≤ room → unit ≤ 24 → next ≡ None → x ≡ Err Quiet
  pub goes_on : (r : Reception) → 66 ≤ room → unit ≤ 24 → next ≡ Some r → opens (Read strength room) x ≡ true

pub record Radio (own : ℕ) (h : Heard) (orders : List Order) (outcomes : List DoneOrRefused) : Type 0 where
  -- what is to come on the line is what is to come at its bottom, read through its pile
  pub layered : h.coming ≡ map (read_through h.pile) h.air
  -- a read is stopped before it opens a reception exactly as the room, the unit and the receptions left say
  pub stops : (i strength room : ℕ) (x : DoneOrRefused) → nth orders i ≡ Some (Read strength room) → nth outcomes i ≡ Some x
      → Stops room (unit h) (nth h.coming (opened (take i orders) (take i outcomes))) strength x
  -- a read that opens one opens the n-th that was to come when the run began, n reads having opened one before it, and
  -- hands up a message exactly when that message is lawful, near the reception, and withheld by no filter then set
  pub reads : (i strength room : ℕ) (x : DoneOrRefused) → nth orders i ≡ Some (Read strength room) → nth outcomes i ≡ Some x → opens (Read strength room) x ≡ true
      → (r : Reception) × (nth h.coming (opened (take i orders) (take i outcomes)) ≡ Some r)
      × ((m : List ℕ) → Iff (HandsUp x m) (Lawful m × Near (unit h) m r × (withheld own (settings off (take i orders) (take i outcomes)) strength m ≡ false)))
  -- no two lawful messages are near one reception
  pub unique : (u : ℕ) (r : Reception) (m n : List ℕ) → 1 ≤ u → Lawful m → Lawful n → Near u m r → Near u n r → m ≡ n
  -- a lawful message whose sending was accepted, honestly received at the bottom of the reading pile, is near what the
  -- top of that pile shows exactly when the pile's rules leave at most one octet spoiled, and not the first; the
  -- sender's lowest layers may count as a part of its outlet
  pub near : (pile under : Pile) (ground_unit preamble : ℕ) (m : List ℕ) (s t : State) (r : Reception) → 1 ≤ ground_unit → Lawful m
      → s.pile ≡ pile ++ under → s.ground_unit ≡ ground_unit → Sent preamble m s t
      → Honest (may_of pile) (sent_through pile (padded (unit_of pile (unit_of under ground_unit)) m)) r
      → Iff (Near (unit_of pile (unit_of under ground_unit)) m (read_through pile r)) (Few (rule_of pile (marks (may_of pile) r)))
