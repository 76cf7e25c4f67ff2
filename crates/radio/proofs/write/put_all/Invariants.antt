use Rattle.std.proofs.Common.{take}
use Rattle.radio.specs.Outlets.{Put}
use Rattle.radio.proofs.write.put_all.Given as goal

abbrev pub invariant-loop-x : goal.invariant-loop-x
invariant-loop-x g l = Put (take l.x-index l.octets) (g.O.Outlet.state l.initial.outlet) (g.O.Outlet.state l.outlet)
