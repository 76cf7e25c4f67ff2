use Rattle.std.proofs.Common.{◌≡◌, ℕ, ◌-◌, ◌≤◌, min, length, take, replicate, Ok, Err, ap, ◌∙◌, arith}
use Rattle.std.proofs.lemmas.List.{length-take-le}
use Rattle.std.proofs.lemmas.Result.{err_from_is_err_and}
use Rattle.orders.proofs.Playing.{same_line, read_is}
use Rattle.orders.proofs.run.read_into.Goals as goal

-- the part of the payload that is read into has as many octets as were asked for
cut : (n : ℕ) → n ≤ 66 → length (take n (replicate {A = ℕ} 66 0)) ≡ n
cut n h = length-take-le n (replicate 66 0) h

pub returns : goal.returns
returns g c =
    let st = c.args.station.now in
    let h = g.L.Line.heard c.args.line.now in
    let n = c.min-size.result - 0 in
    let is : n ≡ min c.args.room 66 = omega arith in
    let e = c.in_ok-facts.ensures in
    record {
      answers = read_is st.own st.filters c.args.strength c.args.room n h is (Ok c.in_ok-facts.facts) c.read.new.buffer (rw (cut n (omega arith)) at e.answers) (rw (cut n (omega arith)) at e.buffer);
      left = (rw (cut n (omega arith)) at e.left) ∙ same_line st.own st.filters c.args.strength c.args.room n h is;
    }

pub returns-in_err-facts : goal.returns-in_err-facts
returns-in_err-facts g c =
    let st = c.args.station.now in
    let h = g.L.Line.heard c.args.line.now in
    let n = c.min-size.result - 0 in
    let is : n ≡ min c.args.room 66 = omega arith in
    let e = c.in_err-facts.ensures in
    let r = err_from_is_err_and c.from_residual.result c.from_residual.ensures.1 in
    record {
      answers = r.1 ∙ ap Err r.2 ∙ read_is st.own st.filters c.args.strength c.args.room n h is (Err _) c.read.new.buffer (rw (cut n (omega arith)) at e.answers) (rw (cut n (omega arith)) at e.buffer);
      left = (rw (cut n (omega arith)) at e.left) ∙ same_line st.own st.filters c.args.strength c.args.room n h is;
    }
