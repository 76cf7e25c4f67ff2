use Rattle.std.proofs.Common.{Ok, Err, ap, ◌∙◌}
use Rattle.std.proofs.lemmas.Result.{err_from_is_err_and}
use Rattle.orders.proofs.Playing.{send_step}
use Rattle.orders.proofs.run.play.Goals as goal

-- src/run.rt:59:13
pub returns-in_err-send-in-Send-clause-step : goal.returns-in_err-send-in-Send-clause-step
returns-in_err-send-in-Send-clause-step g c =
    let e = err_from_is_err_and c.from_residual-in_err-send-in-Send.result c.from_residual-in_err-send-in-Send.ensures.1 in
    let r = e.1 ∙ ap Err e.2 in
    rw (c.in-Send.is, r) (send_step g.O.Outlet.state c.args.station.now.own c.in-Send.message c.in-Send.preamble _ _ _ _ (Err _) c.in_err-send-in-Send.ensures.answers c.in_err-send-in-Send.ensures.leaves)

-- src/run.rt:35:1
pub returns-in_ok-send-in-Send-clause-step : goal.returns-in_ok-send-in-Send-clause-step
returns-in_ok-send-in-Send-clause-step g c =
    rw c.in-Send.is (send_step g.O.Outlet.state c.args.station.now.own c.in-Send.message c.in-Send.preamble _ _ _ _ (Ok tt) c.in_ok-send-in-Send.ensures.answers c.in_ok-send-in-Send.ensures.leaves)
