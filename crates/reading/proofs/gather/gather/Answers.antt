use Rattle.std.proofs.Common.{◌≡◌, ℕ, ◌<◌, length, Some, None, Ok, Result, sym, ap, ◌∙◌, subst, arith}
use Rattle.std.proofs.lemmas.List.{length-set}
use Rattle.std.proofs.lemmas.Result.{err_from_is_err_and}
use Rattle.radio.specs.Lines.{next}
use Rattle.reading.specs.Gather.{Gathered}
use Rattle.reading.specs.declared.gather.Raised.{Raised}
use Rattle.radio.proofs.Taking.{some_next, none_next, fault_next}
use Rattle.reading.proofs.gather.gather.Goals as goal

pub returns-in_err-s : goal.returns-in_err-s
returns-in_err-s g c =
    let h = g.L.Line.heard c.args.below.now in
    let q = g.L.Line.heard c.loop-i.below in
    let f = c.in_err-s.field-0.0 in
    let t = c.in_err-s.ensures in
    let n = fault_next c.loop-i.i h q c.loop-i.invariant.2 c.args.want f c.loop-i.auto.i-end t.answers in
    let e = err_from_is_err_and c.from_residual.result c.from_residual.ensures.1 in
    record {
      gives = subst (λ (z : Result ℕ Raised). Gathered c.args.want h.present z c.loop-i.group) (sym e.1)
          (omega (arith, n.0, c.loop-i-test.true), (f, n.1, e.2));
      left = t.left ∙ n.2;
    }

pub returns-in-None : goal.returns-in-None
returns-in-None g c =
    let h = g.L.Line.heard c.args.below.now in
    let q = g.L.Line.heard c.loop-i.below in
    let inv = c.loop-i.invariant in
    let t = c.in_ok-s.ensures in
    let o : Ok None ≡ next q.present = ap Ok (sym c.in-None.is) ∙ t.answers in
    let n = none_next c.loop-i.i h q inv.2 c.args.want c.loop-i.auto.i-end o in
    record { gives = (omega (arith, n.0, inv.0), inv.1 ∙ n.2, λ _. n.1); left = t.left ∙ n.3 }

pub loop-i-preserved : goal.loop-i-preserved
loop-i-preserved g c =
    let i = c.loop-i.i in
    let h = g.L.Line.heard c.args.below.now in
    let q = g.L.Line.heard c.loop-i.below in
    let inv = c.loop-i.invariant in
    let t = c.in_ok-s.ensures in
    let s = c.in-Some.s in
    let o : Ok (Some s) ≡ next q.present = ap Ok (sym c.in-Some.is) ∙ t.answers in
    let len : i < length c.loop-i.group = omega (arith, inv.3, c.loop-i-test.true, c.requires) in
    let n = some_next i h q inv.2 s c.loop-i.group inv.1 len o in
    (n.0, n.1, t.left ∙ n.2, length-set c.loop-i.group i s ∙ inv.3)
