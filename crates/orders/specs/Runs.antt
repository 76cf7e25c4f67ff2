-- What playing orders does to a station, a line and an outlet, order by order. Assumes nothing.
use Rattle.std.specs.Prelude.{◌≡◌, ℕ, ◌≤◌, min, cond, ◌⊎◌, List, [], ◌∷◌, length, take, drop, replicate, Some, None, Ok, Err, Option, Result, nat_le}
use Rattle.refusal.specs.declared.Refusal.{Refusal}
use Rattle.refusal.specs.declared.Refusal.TheVariants.{Argument}
use Rattle.radio.specs.Lines.{Heard}
use Rattle.radio.specs.Outlets.{State, answer, Leaves}
use Rattle.message.specs.Parts.{items}
use Rattle.station.specs.declared.filters.Filters.{Filters}
use Rattle.orders.specs.declared.order.Order.{Order}
use Rattle.orders.specs.declared.order.Order.TheVariants.{Strength, Identity, Mute, Read, Send}
use Rattle.orders.specs.Outcomes.{DoneOrRefused}
use Rattle.orders.specs.declared.order.Done.TheVariants.{Set, Sent as WasSent, Message}
use Rattle.station.specs.Filtering.{off, with_strength, with_identity, with_mute}
use Rattle.station.specs.Judging.{reading, facts_of, buffer_left, line_left}
use Rattle.orders.specs.Sending.{send_refusal, Sent}

-- the filters of the station, what the line means, and the outlet, between two orders
pub record Stand (A : Type 0) : Type 0 where
  pub filters : Filters
  pub heard : Heard
  pub outlet : A

-- what came of muting a type, of a read and of a sending
abbrev pub mute_outcome : ℕ → DoneOrRefused
mute_outcome k = cond (nat_le k 3) (Ok Set) (Err Argument)

abbrev pub read_outcome : ℕ → Result (List ℕ) Refusal → DoneOrRefused
read_outcome strength (Ok m) = Ok (Message (facts_of strength m) (buffer_left (Ok m) (replicate 66 0)))
read_outcome strength (Err e) = Err e

abbrev pub send_outcome : Option Refusal → DoneOrRefused
send_outcome None = Ok WasSent
send_outcome (Some e) = Err e

-- one order, from one stand to the next
abbrev pub Step : {A : Type 0} → (A → State) → ℕ → Order → DoneOrRefused → Stand A → Stand A → Type 0
Step state own (Strength limit) x a b = (x ≡ Ok Set) × (b ≡ record { filters = with_strength limit a.filters; heard = a.heard; outlet = a.outlet })
Step state own (Identity on) x a b = (x ≡ Ok Set) × (b ≡ record { filters = with_identity on a.filters; heard = a.heard; outlet = a.outlet })
Step state own (Mute k on) x a b = (x ≡ mute_outcome k) × (b ≡ record { filters = cond (nat_le k 3) (with_mute k on a.filters) a.filters; heard = a.heard; outlet = a.outlet })
Step state own (Read strength room) x a b = (x ≡ read_outcome strength (reading own a.filters strength room a.heard)) × (b ≡ record { filters = a.filters; heard = line_left room a.heard; outlet = a.outlet })
Step state own (Send sealed p) x a b =
    (x ≡ send_outcome (send_refusal p (items sealed.octets) (state a.outlet))) × (b ≡ record { filters = a.filters; heard = a.heard; outlet = b.outlet })
    × Leaves (Sent p (items sealed.octets)) state (answer (send_refusal p (items sealed.octets) (state a.outlet))) a.outlet b.outlet

-- the orders one after the other, each beginning with what the one before has left
abbrev pub Plays : {A : Type 0} → (A → State) → ℕ → List Order → List DoneOrRefused → Stand A → Stand A → Type 0
Plays state own [] [] a b = a ≡ b
Plays state own [] (x ∷ xs) a b = ⊥
Plays state own (o ∷ os) [] a b = ⊥
Plays {A} state own (o ∷ os) (x ∷ xs) a b = (c : Stand A) × Step state own o x a c × Plays state own os xs c b

-- how many orders were played
abbrev pub count_of : Result ℕ Refusal → ℕ
count_of (Ok n) = n
count_of (Err e) = 0

-- a run: a station of this address is made, and as many orders are played as there are, or as there is room for their
-- outcomes; an address that no station has is refused, and all is as it was
abbrev pub Ran : {A : Type 0} → (A → State) → ℕ → List Order → Result ℕ Refusal → List DoneOrRefused → List DoneOrRefused → Heard → Heard → A → A → Type 0
Ran state own os (Ok n) before after h k a b =
    (1 ≤ own) × (own ≤ 0xfffe) × (n ≡ min (length os) (length before)) × (drop n after ≡ drop n before)
    × ((f : Filters) × Plays state own (take n os) (take n after) (record { filters = off; heard = h; outlet = a }) (record { filters = f; heard = k; outlet = b }))
Ran state own os (Err e) before after h k a b = ((own ≡ 0) ⊎ (own ≡ 0xffff)) × (e ≡ Argument) × (after ≡ before) × (k ≡ h) × (b ≡ a)
