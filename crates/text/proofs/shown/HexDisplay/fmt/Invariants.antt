use Rattle.std.proofs.Common.{◌≡◌, ℕ, List, ◌++◌}
use Rattle.std.specs.Fmt.{IsPlainFormatter, HasWritten}
use Rattle.std.specs.Slice.Iter.{chunks_rest, chunks_size}
use Rattle.text.specs.Texts.{pairs_text}
use Rattle.text.proofs.shown.HexDisplay.fmt.Given as goal

abbrev pub invariant-loop-some : goal.invariant-loop-some
invariant-loop-some g l = (chunks_size l.some-iterator ≡ 32) × (IsPlainFormatter l.initial.f →
    (text : List ℕ) × (HasWritten g.W.Write.write_str_gives l.initial.f text l.f × (text ++ pairs_text (chunks_rest l.some-iterator) ≡ pairs_text l.self.0.now)))
