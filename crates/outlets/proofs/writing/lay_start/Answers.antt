use Rattle.std.proofs.Common.{◌≡◌, ◌+◌, ◌-◌, ◌*◌, replicate, refl, ap, ◌∙◌, arith, rules}
use Rattle.std.specs.List.{flat_map}
use Rattle.outlets.specs.Bottoms.{written_at}
use Rattle.outlets.proofs.Laying.{laid_behind, laid_more}
use Rattle.outlets.proofs.writing.lay_start.Goals as goal

pub loop-at-preserved : goal.loop-at-preserved
loop-at-preserved g c =
    laid_more g.M.Cells.placement c.args.memory.now c.loop-at.memory c.lay.new.memory c.args.place (c.loop-at.at - c.args.place) _ c.loop-at.at (omega arith) (omega arith) c.loop-at.invariant (omega arith) c.lay.ensures

pub returns : goal.returns
returns g c =
    let p = g.M.Cells.placement in
    let m = c.args.memory.now in
    let i : c.loop-at.at - c.args.place ≡ c.args.preamble = search rules in
    let w : p.of_bytes c.loop-at.memory ≡ written_at (p.of_bytes m) (p.width * c.args.place) (flat_map p.of_octet (replicate c.args.preamble 240)) =
    c.loop-at.invariant ∙ ap (λ j. written_at (p.of_bytes m) (p.width * c.args.place) (flat_map p.of_octet (replicate j 240))) i in
    laid_behind p m c.loop-at.memory c.lay-2.new.memory c.args.place c.args.preamble (c.args.place + c.args.preamble) 204 refl w (omega arith) c.lay-2.ensures
