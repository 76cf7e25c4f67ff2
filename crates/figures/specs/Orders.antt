-- What orders that send nothing come to, worked out. Assumes nothing.
use Rattle.std.specs.Prelude.{ℕ, cond, List, [], ◌∷◌, take, Ok, nat_le}
use Rattle.lines.specs.HeardOctets.{receptions}
use Rattle.radio.specs.Lines.{Heard, at_bottom}
use Rattle.radio.specs.Reception.{unopened}
use Rattle.standard.specs.Standard.{laid_over}
use Rattle.station.specs.declared.filters.Filters.{Filters}
use Rattle.orders.specs.declared.order.Order.{Order}
use Rattle.orders.specs.declared.order.Order.TheVariants.{Strength, Identity, Mute, Read, Send}
use Rattle.orders.specs.Outcomes.{DoneOrRefused}
use Rattle.orders.specs.declared.order.Done.TheVariants.{Set}
use Rattle.station.specs.Filtering.{with_strength, with_identity, with_mute}
use Rattle.station.specs.Judging.{reading, line_left}
use Rattle.orders.specs.Runs.{mute_outcome, read_outcome}

-- what is heard at the top of the standard pile over an octet line that was just made over these bytes
abbrev pub heard_in : List ℕ → Heard
heard_in bytes = laid_over (at_bottom unopened (receptions (take 65536 bytes)))

-- none of these orders sends
abbrev pub SendsNothing : List Order → Type 0
SendsNothing [] = Unit {0}
SendsNothing (Strength limit ∷ os) = SendsNothing os
SendsNothing (Identity on ∷ os) = SendsNothing os
SendsNothing (Mute k on ∷ os) = SendsNothing os
SendsNothing (Read strength room ∷ os) = SendsNothing os
SendsNothing (Send sealed p ∷ os) = ⊥

-- what comes of orders, up to the first that sends, under these filters and on a line that means h
abbrev pub come_to : ℕ → Filters → Heard → List Order → List DoneOrRefused
come_to own f h [] = []
come_to own f h (Strength limit ∷ os) = Ok Set ∷ come_to own (with_strength limit f) h os
come_to own f h (Identity on ∷ os) = Ok Set ∷ come_to own (with_identity on f) h os
come_to own f h (Mute k on ∷ os) = mute_outcome k ∷ come_to own (cond (nat_le k 3) (with_mute k on f) f) h os
come_to own f h (Read strength room ∷ os) = read_outcome strength (reading own f strength room h) ∷ come_to own f (line_left room h) os
come_to own f h (Send sealed p ∷ os) = []
