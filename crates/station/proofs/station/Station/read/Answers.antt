use Rattle.std.proofs.Common.{length, Ok, Err, sym, ap, ◌∙◌}
use Rattle.std.proofs.lemmas.Result.{err_from_is_err_and}
use Rattle.radio.specs.Lines.{unit}
use Rattle.station.specs.Judging.{filtered, told, buffer_left}
use Rattle.station.proofs.ReadSteps.{unit_is, line_is, refused, withheld, accepted}
use Rattle.station.proofs.station.Station.read.Goals as goal

pub returns-in_err-message : goal.returns-in_err-message
returns-in_err-message g c =
    let s = c.args.self.now in
    let h = g.L.Line.heard c.args.line.now in
    let j = g.L.Line.heard c.open.new.self in
    let room = length c.args.buffer.now in
    let u = c.in_ok-unit.unit in
    let is = unit_is (unit h) c.unit_of-octets.result u.octets c.unit_of-octets.ensures c.in_ok-unit.ensures in
    let o = c.in_ok-open.ensures in
    let e = err_from_is_err_and c.from_residual-in_err-message.result c.from_residual-in_err-message.ensures.1 in
    let not = sym c.in_err-message.ensures.answers ∙ ap Err (sym e.2) in
    let answer = refused s.own s.filters c.args.strength room u.octets h j c.if-buffer-lt66.false is u.most o.answers o.left e.0 not in
    record {
      answers = e.1 ∙ sym (ap (told c.args.strength) answer);
      buffer = sym (ap (λ z. buffer_left z c.args.buffer.now) answer);
      left = line_is s.own s.filters c.args.strength room u.octets h j c.if-buffer-lt66.false is u.most o.answers o.left _ c.receive.ensures.left;
    }

pub returns-in_err-pass : goal.returns-in_err-pass
returns-in_err-pass g c =
    let s = c.args.self.now in
    let h = g.L.Line.heard c.args.line.now in
    let j = g.L.Line.heard c.open.new.self in
    let room = length c.args.buffer.now in
    let u = c.in_ok-unit.unit in
    let is = unit_is (unit h) c.unit_of-octets.result u.octets c.unit_of-octets.ensures c.in_ok-unit.ensures in
    let o = c.in_ok-open.ensures in
    let e = err_from_is_err_and c.from_residual-in_err-pass.result c.from_residual-in_err-pass.ensures.1 in
    let seen = ap (λ f. filtered s.own s.filters f.strength f.kind f.destination) c.facts-facts.ensures in
    let answer = withheld s.own s.filters c.args.strength room u.octets h j c.if-buffer-lt66.false is u.most o.answers o.left c.in_ok-message.message (sym c.in_ok-message.ensures.answers) e.0
    (ap Err e.2 ∙ c.in_err-pass.ensures ∙ seen) in
    record {
      answers = e.1 ∙ sym (ap (told c.args.strength) answer);
      buffer = sym (ap (λ z. buffer_left z c.args.buffer.now) answer);
      left = line_is s.own s.filters c.args.strength room u.octets h j c.if-buffer-lt66.false is u.most o.answers o.left _ c.receive.ensures.left;
    }

pub returns : goal.returns
returns g c =
    let s = c.args.self.now in
    let h = g.L.Line.heard c.args.line.now in
    let j = g.L.Line.heard c.open.new.self in
    let room = length c.args.buffer.now in
    let u = c.in_ok-unit.unit in
    let is = unit_is (unit h) c.unit_of-octets.result u.octets c.unit_of-octets.ensures c.in_ok-unit.ensures in
    let o = c.in_ok-open.ensures in
    let seen = ap (λ f. filtered s.own s.filters f.strength f.kind f.destination) c.facts-facts.ensures in
    let answer = accepted s.own s.filters c.args.strength room u.octets h j c.if-buffer-lt66.false is u.most o.answers o.left c.in_ok-message.message (sym c.in_ok-message.ensures.answers)
    (c.in_ok-pass.ensures ∙ seen) in
    record {
      answers = ap Ok c.facts-facts.ensures ∙ sym (ap (told c.args.strength) answer);
      buffer = c.hand_up.ensures ∙ sym (ap (λ z. buffer_left z c.args.buffer.now) answer);
      left = line_is s.own s.filters c.args.strength room u.octets h j c.if-buffer-lt66.false is u.most o.answers o.left _ c.receive.ensures.left;
    }
