use Rattle.std.proofs.Common.{◌≡◌, ◌-◌, ◌≤◌, length, take}
use Rattle.radio.specs.Lines.{past}
use Rattle.station.proofs.collect.collect.Given as goal

abbrev pub invariant-loop-symbol : goal.invariant-loop-symbol
invariant-loop-symbol g l =
    let h = g.L.Line.heard l.initial.line in
    let n = length l.symbols.items in
    (n ≤ length h.present.symbols) × (l.symbols.items ≡ take n h.present.symbols) × (g.L.Line.heard l.line ≡ past n h) × (n ≤ 96)

abbrev pub decreases-loop-symbol : goal.decreases-loop-symbol
decreases-loop-symbol g l = 96 - length l.symbols.items
