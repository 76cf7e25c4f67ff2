use Rattle.std.proofs.Common.{length, string_bytes}
use Rattle.commands.proofs.Listings.{Listed}
use Rattle.commands.proofs.listing.listing.Given as goal

abbrev pub invariant-loop-lines : goal.invariant-loop-lines
invariant-loop-lines g l = Listed (g.L.Line.heard l.initial.line).coming (string_bytes l.lines) l.count (g.L.Line.heard l.line).coming

abbrev pub decreases-loop-lines : goal.decreases-loop-lines
decreases-loop-lines g l = length (g.L.Line.heard l.line).coming
