-- What one recording reads to. Assumes nothing.
use Rattle.std.specs.Prelude.{ℕ, List, [], ◌∷◌, replicate, Some, Ok, Err}
use Rattle.refusal.specs.declared.Refusal.TheVariants.{Quiet as QUIET, Weak as WEAK}
use Rattle.station.specs.declared.filters.Facts.{Facts}
use Rattle.orders.specs.Outcomes.{DoneOrRefused}
use Rattle.orders.specs.declared.order.Done.TheVariants.{Set, Message}

-- what is told of the message 09 03 01 02 03 04 7F 00 95: type 3, from 0304 to 0102, one octet of payload
abbrev pub report_facts : ℕ → Facts
report_facts measured = record { kind = 3; source = 0x0304; destination = Some 0x0102; length = 1; strength = measured }

-- its payload, 7F, at the start of 66 octets
abbrev pub report_payload : List ℕ
report_payload = 0x7F ∷ replicate 65 0x00

-- the message is handed up at the strengths 40 and 255, a filter is set, and two reads are refused
abbrev pub recorded_outcomes : List DoneOrRefused
recorded_outcomes = Ok (Message (report_facts 40) report_payload) ∷ Ok (Message (report_facts 255) report_payload) ∷ Ok Set ∷ Err WEAK ∷ Err QUIET ∷ []
