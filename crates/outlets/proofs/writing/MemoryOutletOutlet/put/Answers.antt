use Rattle.std.proofs.Common.{◌-◌, [], ◌∷◌, refl, rules}
use Rattle.outlets.proofs.Laying.{bottom_put, one_lays, one_laid}
use Rattle.outlets.proofs.writing.MemoryOutletOutlet.put.Goals as goal

pub invariant_of-self-clause-laid : goal.invariant_of-self-clause-laid
invariant_of-self-clause-laid g c =
    let p = g.M.Cells.placement in
    let s = c.args.self.now in
    one_laid p s.memory c.deref_mut.result.now c.lay.new.memory s.used c.deref_mut.ensures.value c.lay.auto.memory c.args.octet (search rules) s.laid (search rules) c.lay.ensures

pub returns-in-Owing-clause-leaves : goal.returns-in-Owing-clause-leaves
returns-in-Owing-clause-leaves g c =
    let p = g.M.Cells.placement in
    let s = c.args.self.now in
    let n = c.in-Owing.n in
    bottom_put p.of_octet _ _ (c.args.octet ∷ []) _ _
    (one_lays p s.memory c.deref_mut.result.now c.lay.new.memory s.used c.deref_mut.ensures.value c.lay.auto.memory c.args.octet (search rules) s.laid (search rules) c.lay.ensures) s.turn s.room n (n - 1) (search rules) refl
