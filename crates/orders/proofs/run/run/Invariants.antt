use Rattle.std.proofs.Common.{◌≡◌, take, drop}
use Rattle.station.specs.Filtering.{off}
use Rattle.orders.specs.Runs.{Plays}
use Rattle.orders.proofs.run.run.Given as goal

abbrev pub invariant-loop-i : goal.invariant-loop-i
invariant-loop-i g l =
    record {
      own : l.station.own ≡ l.own;
      behind : drop l.i l.outcomes ≡ drop l.i l.initial.outcomes;
      played : Plays g.O.Outlet.state l.own (take l.i l.order-items) (take l.i l.outcomes)
          (record { filters = off; heard = g.L.Line.heard l.initial.line; outlet = l.initial.outlet })
          (record { filters = l.station.filters; heard = g.L.Line.heard l.line; outlet = l.outlet });
    }
