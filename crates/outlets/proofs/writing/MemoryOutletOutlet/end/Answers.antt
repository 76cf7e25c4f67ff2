use Rattle.std.proofs.Common.{lit<, rules}
use Rattle.outlets.proofs.Laying.{bottom_ended, one_lays, one_laid}
use Rattle.outlets.proofs.writing.MemoryOutletOutlet.end.Goals as goal

pub invariant_of-self-clause-laid : goal.invariant_of-self-clause-laid
invariant_of-self-clause-laid g c =
    let p = g.M.Cells.placement in
    let s = c.args.self.now in
    one_laid p s.memory c.deref_mut.result.now c.lay.new.memory s.used c.deref_mut.ensures.value c.lay.auto.memory 51 (search rules) s.laid (lit< tt) c.lay.ensures

pub returns-clause-leaves : goal.returns-clause-leaves
returns-clause-leaves g c =
    let p = g.M.Cells.placement in
    let s = c.args.self.now in
    bottom_ended p.of_octet _ _ _ _
    (one_lays p s.memory c.deref_mut.result.now c.lay.new.memory s.used c.deref_mut.ensures.value c.lay.auto.memory 51 (search rules) s.laid (lit< tt) c.lay.ensures) s.turn s.room
