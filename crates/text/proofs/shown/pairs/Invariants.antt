use Rattle.std.proofs.Common.{◌≡◌, take}
use Rattle.text.specs.Texts.{pairs_text}
use Rattle.text.proofs.shown.pairs.Given as goal

abbrev pub invariant-loop-octet : goal.invariant-loop-octet
invariant-loop-octet l = l.text.items ≡ pairs_text (take l.octet-index l.octets)
