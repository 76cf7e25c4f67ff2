use Rattle.std.proofs.Common.{◌≡◌, ◌+◌, ◌*◌, ◌/◌, ◌%◌, ◌<◌, length, refl, ap, ◌∙◌, arith}
use Rattle.outlets.specs.Bottoms.{written_at}
use Rattle.radio.specs.Bits.{frame, bits_of}
use Rattle.outlets.proofs.Frames.{two_laid}
use Rattle.outlets.proofs.bit_outlet.BitsCells.lay.Goals as goal

pub returns : goal.returns
returns c =
    let ms = c.args.memory.now in
    let p = c.args.place in
    let q = p + p / 4 in
    let s = p % 4 * 2 in
    let fits : q + 1 < length ms = omega arith in
    let at : 8 * q + s ≡ 10 * p = omega arith in
    rw c.to_le_bytes.ensures (two_laid ms q fits c.word_at-word.result c.framed_over.result s (frame c.args.octet) (omega arith) refl c.word_at-word.ensures c.framed_over.ensures
    ∙ ap (λ k. written_at (bits_of ms) k (frame c.args.octet)) at)
