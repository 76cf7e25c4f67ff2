use Rattle.std.proofs.Common.{◌≡◌, length, Ok, sym, ◌∙◌, rules}
use Rattle.radio.specs.declared.turn.Turn.TheVariants.{Owing}
use Rattle.radio.specs.Outlets.{Ended}
use Rattle.radio.proofs.States.{end_accepted, did_ok}
use Rattle.sending.specs.Outgoing.{turn_over}
use Rattle.sending.proofs.Outgoing.{below_none, ended_half}
use Rattle.sending.proofs.half.SendingOutlet.end.Goals as goal

pub returns-in-Owing-eq0 : goal.returns-in-Owing-eq0
returns-in-Owing-eq0 g c =
    let s = c.args.self.now in
    let k = g.C.Coding.grouping in
    let b = g.O.Outlet.state s.below in
    let b' = g.O.Outlet.state c.end.new.self in
    let held = s.held.items in
    let owed : turn_over k.plain k.coded b.turn (length held) ≡ Owing 0 = search rules in
    let ok : c.end.result ≡ Ok tt = c.end.ensures.answers ∙ sym (end_accepted b.turn (below_none k b.turn (length held) s.unfinished owed)) in
    let at : Ended b b' = did_ok Ended g.O.Outlet.state c.end.result s.below c.end.new.self ok c.end.ensures.leaves in
    rw ok (record { answers = end_accepted (turn_over k.plain k.coded b.turn (length held)) owed; leaves = ended_half k held b b' at })
