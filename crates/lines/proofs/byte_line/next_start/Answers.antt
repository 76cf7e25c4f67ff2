use Rattle.std.proofs.Common.{rules, subst}
use Rattle.std.proofs.iter.runs.Sources.{range_runs}
use Rattle.std.specs.Iterator.Runs.{IsStepByRun, ItemsCountUp}
use Rattle.lines.proofs.Steps.{searched}
use Rattle.lines.proofs.byte_line.next_start.Goals as goal

pub returns : goal.returns
returns g c =
    let r = g.M.Recorded.recording in
    let bytes = c.args.bytes.now in
    let p = c.find_map.ensures.runs in
    let q = c.step_by.ensures.runs p.0 p.0.seen p.1 in
    let every = subst (λ n. IsStepByRun p.0 q.0 n) c.step.ensures q.2 in
    let up = subst (λ n. ItemsCountUp q.0 c.args.from n) c.count.ensures (subst (λ s. ItemsCountUp q.0 s.start s.end) q.1 (range_runs q.0 q.0.seen)) in
    searched r bytes c.args.from p.0 q.0 every up _ (λ x o h k. search rules) c.find_map.result p.2
