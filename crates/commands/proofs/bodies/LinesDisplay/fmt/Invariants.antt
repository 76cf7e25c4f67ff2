use Rattle.std.proofs.Common.{◌≡◌, ℕ, List, ◌++◌}
use Rattle.std.specs.Fmt.{IsPlainFormatter, HasWritten}
use Rattle.payload.specs.Handed.{to_come}
use Rattle.commands.specs.Answers.{body_lines}
use Rattle.commands.proofs.bodies.LinesDisplay.fmt.Given as goal

abbrev pub invariant-loop-placed : goal.invariant-loop-placed
invariant-loop-placed g l = IsPlainFormatter l.initial.f →
    (text : List ℕ) × (HasWritten g.W.Write.write_str_gives l.initial.f text l.f × (text ++ body_lines (to_come l.placed-iterator) ≡ body_lines (to_come l.initial.placed-iterator)))
