-- What sending a message does to an outlet. Assumes nothing.
use Rattle.std.specs.Prelude.{ℕ, List, length, None, Option, nat_le}
use Rattle.refusal.specs.declared.Refusal.{Refusal}
use Rattle.refusal.specs.declared.Refusal.TheVariants.{Unit as UnitOver, Argument, Turn as OutOfTurn, Space}
use Rattle.radio.specs.Outlets.{State, unit, unless, a_preamble, idle, needed, Written}
use Rattle.station.specs.Nearness.{padded}

-- why a message can't be sent behind a preamble of p octets, in the order of the checks
abbrev pub send_refusal : ℕ → List ℕ → State → Option Refusal
send_refusal p m s =
    unless (nat_le (unit s) 24) UnitOver
    (unless (a_preamble p) Argument
    (unless (idle s.turn) OutOfTurn
    (unless (nat_le (needed p (length (padded (unit s) m)) s) s.space) Space None)))

-- the message was sent: padded with zeros to the unit, written whole
abbrev pub Sent : ℕ → List ℕ → State → State → Type 0
Sent p m s t = Written p (padded (unit s) m) s t
