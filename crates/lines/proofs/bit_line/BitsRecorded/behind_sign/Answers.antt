use Rattle.std.proofs.Common.{◌≡◌, ◌+◌, ◌∷◌, drop, Some, None, ap, ◌∙◌, arith}
use Rattle.std.proofs.lemmas.List.{drop-drop, length-drop}
use Rattle.radio.specs.Bits.{bits_of}
use Rattle.lines.specs.HeardBits.{receptions_from, reception_from}
use Rattle.lines.specs.Looks.{seen}
use Rattle.lines.proofs.BitSteps.{looked, passed, found_at}
use Rattle.lines.proofs.bit_line.BitsRecorded.behind_sign.Goals as goal

pub returns-in_err-first : goal.returns-in_err-first
returns-in_err-first c =
    let rest = drop c.args.place (bits_of c.args.bytes.now) in
    let free = looked (seen c.at.result) rest c.at.ensures None c.in_err-first.ensures in
    rw c.from_residual.ensures (passed 10 rest free ∙ ap (receptions_from 0) (drop-drop 10 c.args.place (bits_of c.args.bytes.now)))

pub returns : goal.returns
returns c =
    let p = c.args.place in
    let k = c.in_ok-first.first in
    let all = bits_of c.args.bytes.now in
    let rest = drop p all in
    let first = looked (seen c.at.result) rest c.at.ensures (Some k) c.in_ok-first.ensures in
    let f = found_at k rest first.1 first.2 in
    let e : p + (k + 20) ≡ p + k + 20 = omega arith in
    let d = drop-drop (k + 20) p all ∙ ap (λ i. drop i all) e in
    (omega (arith, f.0, length-drop p all), f.1 ∙ ap (λ r. reception_from 0 0 r ∷ receptions_from 0 r) d)
