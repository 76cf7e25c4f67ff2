use Rattle.std.proofs.Common.{◌≡◌, ◌-◌, ◌*◌, replicate}
use Rattle.std.specs.List.{flat_map}
use Rattle.outlets.specs.Bottoms.{written_at}
use Rattle.outlets.proofs.writing.lay_start.Given as goal

abbrev pub invariant-loop-at : goal.invariant-loop-at
invariant-loop-at g l =
    let p = g.M.Cells.placement in
    p.of_bytes l.memory ≡ written_at (p.of_bytes l.initial.memory) (p.width * l.place) (flat_map p.of_octet (replicate (l.at - l.place) 240))
