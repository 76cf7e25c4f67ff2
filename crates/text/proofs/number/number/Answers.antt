use Rattle.std.proofs.Common.{◌∙◌, arith}
use Rattle.text.proofs.Decimals.{digit_over}
use Rattle.text.proofs.number.number.Goals as goal

pub returns-in_err-checked_mul-clause-value : goal.returns-in_err-checked_mul-clause-value
returns-in_err-checked_mul-clause-value c =
    c.from_residual-in_err-checked_mul.ensures ∙ digit_over c.args.most c.loop-b.n c.in_ok-digit.digit c.args.word.now c.loop-b.b-index c.from.result c.is_empty.result c.is_empty.ensures c.if-is_empty.false c.loop-b.invariant.1
    c.loop-b-test.true c.from.ensures c.in_ok-digit.ensures.value (omega (arith, c.in_err-checked_mul.ensures))

pub returns-in_err-n-clause-value : goal.returns-in_err-n-clause-value
returns-in_err-n-clause-value c =
    c.from_residual-in_err-n.ensures ∙ digit_over c.args.most c.loop-b.n c.in_ok-digit.digit c.args.word.now c.loop-b.b-index c.from.result c.is_empty.result c.is_empty.ensures c.if-is_empty.false c.loop-b.invariant.1
    c.loop-b-test.true c.from.ensures c.in_ok-digit.ensures.value (omega (arith, c.in_ok-checked_mul.ensures, c.in_err-n.ensures))

pub returns-then-n-most-clause-value : goal.returns-then-n-most-clause-value
returns-then-n-most-clause-value c =
    digit_over c.args.most c.loop-b.n c.in_ok-digit.digit c.args.word.now c.loop-b.b-index c.from.result c.is_empty.result c.is_empty.ensures c.if-is_empty.false c.loop-b.invariant.1
    c.loop-b-test.true c.from.ensures c.in_ok-digit.ensures.value (omega (arith, c.in_ok-checked_mul.ensures, c.in_ok-n.ensures))
