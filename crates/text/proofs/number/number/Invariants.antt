use Rattle.std.proofs.Common.{◌≡◌, ◌≤◌, drop}
use Rattle.text.specs.Figures.{decimal_behind, up_to}
use Rattle.text.proofs.number.number.Given as goal

abbrev pub invariant-loop-b : goal.invariant-loop-b
invariant-loop-b l = (l.n ≤ l.most) × (up_to l.most (decimal_behind l.n (drop l.b-index l.word)) ≡ up_to l.most (decimal_behind 0 l.word))
