use Rattle.std.proofs.Common.{◌≡◌, ◌+◌, ◌*◌, get_or, ap, ◌∙◌, arith, rules}
use Rattle.radio.specs.Bits.{bits}
use Rattle.outlets.proofs.Frames.{bits_word}
use Rattle.outlets.proofs.bit_outlet.word_at.Goals as goal

pub returns : goal.returns
returns c =
    let ms = c.args.memory.now in
    let q = c.args.byte in
    let e : c.from_le_bytes.result ≡ get_or ms q 0 + 256 * get_or ms (q + 1) 0 = omega arith in
    ap (bits 16) e ∙ bits_word (get_or ms q 0) (get_or ms (q + 1) 0) (search (rules, c.type_inv.memory q))
