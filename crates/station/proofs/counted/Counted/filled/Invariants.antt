use Rattle.std.proofs.Common.{◌≡◌, length, take}
use Rattle.station.specs.Judging.{filled}
use Rattle.station.proofs.counted.Counted.filled.Given as goal

abbrev pub invariant-loop-symbol : goal.invariant-loop-symbol
invariant-loop-symbol l = (l.octets.items ≡ filled 0 (take l.symbol-index l.symbols)) × (length l.octets.items ≡ l.symbol-index)
