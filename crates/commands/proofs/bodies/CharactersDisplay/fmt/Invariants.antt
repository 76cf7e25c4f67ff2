use Rattle.std.proofs.Common.{take}
use Rattle.std.proofs.Math.Utf8.{encodes}
use Rattle.std.specs.Fmt.{IsPlainFormatter, HasWritten}
use Rattle.commands.proofs.bodies.CharactersDisplay.fmt.Given as goal

abbrev pub invariant-loop-byte : goal.invariant-loop-byte
invariant-loop-byte g l = IsPlainFormatter l.initial.f → HasWritten g.W.Write.write_str_gives l.initial.f (encodes (take l.byte-index l.bytes)) l.f
