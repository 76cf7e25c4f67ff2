use Rattle.std.proofs.Common.{◌≡◌, ◌≤◌, length, take}
use Rattle.radio.specs.Lines.{past}
use Rattle.reading.proofs.gather.gather.Given as goal

abbrev pub invariant-loop-i : goal.invariant-loop-i
invariant-loop-i g l =
    let h = g.L.Line.heard l.initial.below in
    (l.i ≤ length h.present.symbols) ×
    (take l.i l.group ≡ take l.i h.present.symbols) ×
    (g.L.Line.heard l.below ≡ past l.i h) ×
    (length l.group ≡ 8)
