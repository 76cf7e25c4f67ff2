use Rattle.std.proofs.Common.{◌≡◌, ◌++◌, length, string_bytes}
use Rattle.commands.specs.Answers.{all_symbols}
use Rattle.commands.proofs.listing.take_all.Given as goal

abbrev pub invariant-loop-symbol : goal.invariant-loop-symbol
invariant-loop-symbol g l =
    ((g.L.Line.heard l.line).coming ≡ (g.L.Line.heard l.initial.line).coming) ×
    ((g.L.Line.heard l.line).present.ending ≡ (g.L.Line.heard l.initial.line).present.ending) ×
    (string_bytes l.lines ++ all_symbols (g.L.Line.heard l.line).present.symbols ≡ string_bytes l.initial.lines ++ all_symbols (g.L.Line.heard l.initial.line).present.symbols)

abbrev pub decreases-loop-symbol : goal.decreases-loop-symbol
decreases-loop-symbol g l = length (g.L.Line.heard l.line).present.symbols
