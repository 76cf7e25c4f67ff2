use Rattle.std.proofs.Common.{◌+◌, ◌*◌, ◌^◌, ◌<◌, ◌≤◌, ap, ◌∙◌, arith, pow_mono, rules}
use Rattle.std.proofs.lemmas.Nat.{one_shl, pow_pos}
use Rattle.radio.specs.Bits.{bits}
use Rattle.outlets.proofs.Frames.{framed_over, framed_fits}
use Rattle.outlets.proofs.bit_outlet.framed_over.Goals as goal

pub spliced-requires : goal.spliced-requires
spliced-requires c =
    let e = one_shl c.args.shift 32 (omega arith) in
    let p = pow_pos c.args.shift in
    let m : 2 ^ c.args.shift ≤ 2 ^ 6 = pow_mono c.requires in
    let small : c.args.octet < 256 = search rules in
    (omega arith, (omega arith, (omega arith, omega arith)))

pub overflow_cast-result : goal.overflow_cast-result
overflow_cast-result c =
    let e = rw (c.from.ensures, c.from-2.ensures, one_shl c.args.shift 32 (omega arith)) at c.spliced.ensures in
    let f = framed_fits c.args.word (1 + 2 * c.args.octet) (search rules) (omega arith) c.args.shift c.requires in
    record { fits = omega arith }

pub returns : goal.returns
returns c =
    let e = rw (c.from.ensures, c.from-2.ensures) at c.spliced.ensures in
    ap (bits 16) e ∙ framed_over c.args.word c.args.shift c.args.octet c.requires (search rules) _ (one_shl c.args.shift 32 (omega arith))
