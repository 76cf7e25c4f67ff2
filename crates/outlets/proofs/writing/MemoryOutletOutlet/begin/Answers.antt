use Rattle.std.proofs.Common.{◌+◌, arith, rules}
use Rattle.radio.specs.Outlets.{start}
use Rattle.outlets.proofs.Laying.{length_start, octets_start, bottom_begun, vec_lays, vec_laid}
use Rattle.outlets.proofs.writing.MemoryOutletOutlet.begin.Goals as goal

pub invariant_of-self-clause-laid : goal.invariant_of-self-clause-laid
invariant_of-self-clause-laid g c =
    let p = g.M.Cells.placement in
    let s = c.args.self.now in
    let n = c.from-preamble.result in
    let k = s.used + (n + 1) in
    let l = length_start n in
    vec_laid p s.memory c.deref_mut.result.now c.lay_start.new.memory s.used c.deref_mut.ensures.value c.lay_start.auto.memory (start n) k (omega arith) (search rules) s.laid (octets_start n) c.lay_start.ensures

pub returns-clause-leaves : goal.returns-clause-leaves
returns-clause-leaves g c =
    let p = g.M.Cells.placement in
    let s = c.args.self.now in
    let k = s.used + (c.args.preamble + 1) in
    let l = length_start c.args.preamble in
    let e = rw c.from-preamble.ensures at c.lay_start.ensures in
    rw c.from-preamble.ensures
    (bottom_begun p.of_octet _ _ _ _ c.args.preamble c.args.count
    (vec_lays p s.memory c.deref_mut.result.now c.lay_start.new.memory s.used c.deref_mut.ensures.value c.lay_start.auto.memory (start c.args.preamble) k (omega arith) (search rules) s.laid (octets_start c.args.preamble) e) s.turn s.room)
