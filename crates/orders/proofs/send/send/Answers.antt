use Rattle.std.proofs.Common.{◌≡◌, ◌≤◌, length, ap, ◌∙◌, arith, rules}
use Rattle.radio.specs.Outlets.{unit, answer, begin_refusal}
use Rattle.message.specs.Held.{octets_of}
use Rattle.station.specs.Nearness.{padded}
use Rattle.radio.proofs.States.{sound_unit}
use Rattle.station.proofs.ReadSteps.{unit_is, unit_wide}
use Rattle.orders.proofs.Padding.{refusal_is}
use Rattle.orders.proofs.send.send.Goals as goal

pub returns-in_err-unit-clause-answers : goal.returns-in_err-unit-clause-answers
returns-in_err-unit-clause-answers g c =
    let s = g.O.Outlet.state c.args.outlet.now in
    let wide = unit_wide (unit s) c.unit_of.result (sound_unit s (g.O.Outlet.sound c.args.outlet.now)) c.unit_of.ensures c.in_err-unit.ensures.0 in
    search rules

pub returns-clause-answers : goal.returns-clause-answers
returns-clause-answers g c =
    let s = g.O.Outlet.state c.args.outlet.now in
    let m = octets_of c.args.message.now in
    let some = sound_unit s (g.O.Outlet.sound c.args.outlet.now) in
    let u = unit_is (unit s) c.unit_of.result c.in_ok-unit.unit.octets c.unit_of.ensures c.in_ok-unit.ensures in
    let put : c.as_slice.result.now ≡ padded (unit s) m = c.as_slice.ensures.value ∙ c.pad-octets.ensures ∙ ap (λ n. padded n m) u in
    let few : length c.as_slice.result.now ≤ 96 = c.as_slice.ensures.fits in
    let fits : length (padded (unit s) m) ≤ 65534 = omega (arith, ap length put) in
    c.write_message.ensures.answers ∙ ap (λ ys. answer (begin_refusal c.args.preamble (length ys) s)) put ∙ ap answer (refusal_is s c.args.preamble m some (omega (arith, u, c.in_ok-unit.unit.most)) fits)
