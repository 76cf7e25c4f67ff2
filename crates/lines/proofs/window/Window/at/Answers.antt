use Rattle.std.proofs.Common.{◌≡◌, ℕ, ◌+◌, ◌*◌, ◌/◌, ◌%◌, ◌^◌, ◌<◌, get_or, ap, ◌∙◌, arith, rules}
use Rattle.std.proofs.lemmas.Nat.{and_mask}
use Rattle.radio.proofs.LowBits.{same_bits}
use Rattle.lines.proofs.SignBits.{window_at, five_bytes}
use Rattle.lines.proofs.window.Window.at.Goals as goal

pub returns : goal.returns
returns c =
    let xs = c.args.bytes.now in
    let p = c.args.place in
    let small : (i : ℕ) → get_or xs i 0 < 256 = λ i. search (rules, c.type_inv.bytes i) in
    let at = c.eight_from.ensures in
    let none : p / 8 + 0 ≡ p / 8 = omega arith in
    let first = at 0 (omega arith) ∙ ap (λ i. get_or xs i 0) none in
    let w : c.from_le_bytes-word.result ≡ five_bytes xs (p / 8) + 1099511627776 * (get_or xs (p / 8 + 5) 0 + get_or xs (p / 8 + 6) 0 * 256 + get_or xs (p / 8 + 7) 0 * 65536) =
    omega (arith, first, at 1 (omega arith), at 2 (omega arith), at 3 (omega arith), at 4 (omega arith), at 5 (omega arith), at 6 (omega arith), at 7 (omega arith)) in
    same_bits c.min.ensures (and_mask (c.from_le_bytes-word.result / 2 ^ (p % 8)) 29) ∙ window_at xs small p c.from_le_bytes-word.result _ w
