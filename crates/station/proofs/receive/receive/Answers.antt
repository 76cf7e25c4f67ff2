use Rattle.std.proofs.Common.{◌≡◌, Ok, Err, sym, ap, ◌∙◌}
use Rattle.std.proofs.lemmas.Result.{err_from_is_err_and}
use Rattle.station.specs.Judging.{collected}
use Rattle.station.proofs.Judged.{not_summed}
use Rattle.station.proofs.receive.receive.Goals as goal

pub returns-in_err-counted-clause-answers : goal.returns-in_err-counted-clause-answers
returns-in_err-counted-clause-answers g c =
    let p = (g.L.Line.heard c.args.line.now).present in
    let got : collected p ≡ Ok c.deref.result.now = c.in_ok-symbols.ensures.answers ∙ ap Ok (sym c.deref.ensures.0) in
    let e = err_from_is_err_and c.from_residual-in_err-counted.result c.from_residual-in_err-counted.ensures.1 in
    e.1 ∙ sym (not_summed c.args.unit.octets p _ got e.0 (sym c.in_err-counted.ensures ∙ ap Err (sym e.2)))
