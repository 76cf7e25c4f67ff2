use Rattle.std.proofs.Common.{true, ◌++◌, sym, refl, ap, ◌∙◌, append_assoc}
use Rattle.std.proofs.Output.{has_written_append}
use Rattle.payload.specs.Handed.{to_come, stands}
use Rattle.commands.specs.Answers.{body_line, body_lines}
use Rattle.commands.proofs.bodies.LinesDisplay.fmt.Goals as goal

pub loop-placed-preserved : goal.loop-placed-preserved
loop-placed-preserved g c plain =
    let line = body_line (stands c.in-Some.placed) in
    let so_far = c.loop-placed.invariant plain in (
      so_far.0 ++ line,
      (
        has_written_append g.W.Write.write_str_gives c.args.f.now so_far.0 c.loop-placed.f line c.write.new.self so_far.1.0 (c.in_ok-write.ensures.writes so_far.1.0.plain (refl {a = true})),
        append_assoc so_far.0 line (body_lines (to_come c.next.new.self)) ∙ ap (λ ss. so_far.0 ++ body_lines ss) (sym c.in-Some.ensures.steps) ∙ so_far.1.1,
      ),
    )
