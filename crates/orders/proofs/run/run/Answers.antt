use Rattle.std.proofs.Common.{◌≡◌, ℕ, ◌-◌, [], List, take, sym, refl, ap, ◌∙◌, subst, arith}
use Rattle.std.proofs.lemmas.List.{length-take, take_all}
use Rattle.std.proofs.lemmas.Grind.{common_steps}
use Rattle.std.proofs.lemmas.Result.{err_from_is_err_and}
use Rattle.station.specs.Filtering.{off}
use Rattle.orders.specs.declared.order.Order.{Order}
use Rattle.orders.specs.Runs.{Stand, Step, Plays}
use Rattle.orders.proofs.Playing.{plays_next}
use Rattle.orders.proofs.Lawfully.{law}
use Rattle.orders.proofs.run.run.Goals as goal

pub returns-in_err-station-clause-law : goal.returns-in_err-station-clause-law
returns-in_err-station-clause-law g c =
    let start : Stand g.row.O.Denot = record { filters = off; heard = g.L.Line.heard c.args.line.now; outlet = c.args.outlet.now } in
    let e = err_from_is_err_and c.from_residual.result c.from_residual.ensures.1 in
    rw e.1 (law g.O.Outlet.state c.args.own [] [] start start refl (g.L.Line.sound c.args.line.now) refl)

pub loop-i-preserved : goal.loop-i-preserved
loop-i-preserved g c =
    let i = c.loop-i.i in
    let inv = c.loop-i.invariant in
    let os = take (c.min-count.result - 0) c.args.orders.now in
    let xs = c.loop-i.outcomes in
    let x = c.play.result in
    let o = c.order-item.result in
    let a : Stand g.row.O.Denot = record { filters = off; heard = g.L.Line.heard c.args.line.now; outlet = c.args.outlet.now } in
    let b : Stand g.row.O.Denot = record { filters = c.loop-i.station.filters; heard = g.L.Line.heard c.loop-i.line; outlet = c.loop-i.outlet } in
    let d : Stand g.row.O.Denot = record { filters = c.play.new.station.filters; heard = g.L.Line.heard c.play.new.line; outlet = c.play.new.outlet } in
    let step : Step g.O.Outlet.state c.args.own o x b d = rw inv.own at c.play.ensures.step in
    record {
      own = c.play.ensures.own ∙ inv.own;
      behind = grind (arith, common_steps);
      played = plays_next g.O.Outlet.state c.args.own os xs i o x a b d c.loop-i-test.true (sym c.order-item.is) (omega (arith, length-take {A = Order})) inv.played step;
    }

pub returns : goal.returns
returns g c =
    let n = c.min-count.result in
    let os = c.args.orders.now in
    let xs = c.loop-i.outcomes in
    let inv = c.loop-i.invariant in
    let all : c.loop-i.i ≡ n = omega (arith, length-take {A = Order}) in
    let same : n - 0 ≡ n = omega arith in
    let orders : take c.loop-i.i (take (n - 0) os) ≡ take n os = take_all c.loop-i.i (take (n - 0) os) c.loop-i-test.false ∙ ap (λ k. take k os) same in
    let a : Stand g.row.O.Denot = record { filters = off; heard = g.L.Line.heard c.args.line.now; outlet = c.args.outlet.now } in
    let b : Stand g.row.O.Denot = record { filters = c.loop-i.station.filters; heard = g.L.Line.heard c.loop-i.line; outlet = c.loop-i.outlet } in
    let plays : Plays g.O.Outlet.state c.args.own (take n os) (take n xs) a b =
    subst (λ (k : ℕ). Plays g.O.Outlet.state c.args.own (take n os) (take k xs) a b) all
    (subst (λ (z : List Order). Plays g.O.Outlet.state c.args.own z (take c.loop-i.i xs) a b) orders inv.played) in
    let own = c.in_ok-station.ensures in
    record {
      ran = (own.0, own.1, c.min-count.ensures, rw all at inv.behind, (c.loop-i.station.filters, plays));
      law = law g.O.Outlet.state c.args.own _ _ a b refl (g.L.Line.sound c.args.line.now) plays;
    }
