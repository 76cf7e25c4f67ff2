use Rattle.std.proofs.Common.{◌≡◌, ◌+◌, drop, Some, None, ap, ◌∙◌, sym, arith}
use Rattle.std.proofs.lemmas.List.{drop-drop, length-drop}
use Rattle.std.proofs.lemmas.Result.{err_from_is_err_and}
use Rattle.refusal.specs.declared.Cause.TheVariants.{Dry}
use Rattle.radio.specs.Bits.{bits_of}
use Rattle.lines.specs.HeardBits.{receptions_from, reception_from, next_in}
use Rattle.lines.specs.Looks.{seen}
use Rattle.lines.specs.Recordings.{in_bits}
use Rattle.lines.proofs.BitSteps.{cut_seen, free_seen, symbol_seen, none_within, passed, dry_at, next_at}
use Rattle.lines.proofs.Steps.{symbol_stands}
use Rattle.lines.proofs.bit_line.BitsRecorded.here.Goals as goal

pub returns-then-is_some : goal.returns-then-is_some
returns-then-is_some c =
    cut_seen (seen c.at-window.result) (drop c.args.place (bits_of c.args.bytes.now)) c.at-window.ensures c.first_sign.result c.first_sign.ensures (sym c.if-is_some.ensures)

pub returns-in_err-symbol : goal.returns-in_err-symbol
returns-in_err-symbol c =
    let rest = drop c.args.place (bits_of c.args.bytes.now) in
    let free = free_seen (seen c.at-window.result) rest c.at-window.ensures c.first_sign.result c.first_sign.ensures (sym c.if-is_some.ensures) in
    let few = symbol_seen (seen c.at-window.result) rest c.at-window.ensures c.symbol.result None c.symbol.ensures (grind arith) in
    let why : c.in_err-symbol.field-0.0 ≡ Dry = grind arith in
    let e = err_from_is_err_and c.from_residual.result c.from_residual.ensures.1 in
    rw (e.1, e.2, why) (λ n. dry_at n rest (none_within 10 rest free) few)

pub returns : goal.returns
returns c =
    let all = bits_of c.args.bytes.now in
    let rest = drop c.args.place all in
    let s = c.in_ok-symbol.symbol in
    let free = free_seen (seen c.at-window.result) rest c.at-window.ensures c.first_sign.result c.first_sign.ensures (sym c.if-is_some.ensures) in
    let ten = symbol_seen (seen c.at-window.result) rest c.at-window.ensures c.symbol.result (Some s) c.symbol.ensures (grind arith) in
    let d = drop-drop 10 c.args.place all in
    let many = length-drop c.args.place all in
    rw c.unless_end.ensures
    (symbol_stands in_bits c.args.bytes.now c.args.place s (omega (arith, ten.0))
    (λ n. next_at n rest (none_within 10 rest free) ten.0
    ∙ ap (λ v. next_in v (reception_from 0 (n + 1) (drop 10 rest))) (sym ten.1)
    ∙ ap (λ l. next_in s (reception_from 0 (n + 1) l)) d)
    (passed 10 rest free ∙ ap (receptions_from 0) d))
