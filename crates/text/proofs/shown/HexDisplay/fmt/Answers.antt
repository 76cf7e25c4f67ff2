use Rattle.std.proofs.Common.{true, ◌++◌, sym, refl, ap, ◌∙◌, append_assoc}
use Rattle.std.proofs.Output.{has_written_append, has_written_of_eq}
use Rattle.std.specs.Slice.Iter.{chunks_rest}
use Rattle.text.specs.Texts.{pairs_text}
use Rattle.text.proofs.Printing.{pairs_append, pairs_ended}
use Rattle.text.proofs.shown.HexDisplay.fmt.Goals as goal

pub loop-some-preserved : goal.loop-some-preserved
loop-some-preserved g c =
    let steps = c.in-Some.ensures.steps in
    let piece = pairs_text c.in-Some.some.now in
    let rest = chunks_rest c.next.new.self in (
      steps.0 ∙ c.loop-some.invariant.0,
      λ plain.
          let so_far = c.loop-some.invariant.1 plain in (
            so_far.0 ++ piece,
            (
              has_written_append g.W.Write.write_str_gives c.args.f.now so_far.0 c.loop-some.f piece c.write_pairs.new.f so_far.1.0 (c.in_ok-write_pairs.ensures so_far.1.0.plain (refl {a = true})),
              append_assoc so_far.0 piece (pairs_text rest)
                  ∙ ap (λ ys. so_far.0 ++ ys) (sym (pairs_append c.in-Some.some.now rest))
                  ∙ ap (λ xs. so_far.0 ++ pairs_text xs) (sym steps.1.0)
                  ∙ so_far.1.1,
            ),
          ),
    )

pub returns-clause-writes : goal.returns-clause-writes
returns-clause-writes g c plain ok =
    let so_far = c.loop-some.invariant.1 plain in
    has_written_of_eq g.W.Write.write_str_gives c.args.f.now _ _ c.loop-some.f
    (pairs_ended c.args.self.now.0.now (chunks_rest c.loop-some.some-iterator) so_far.0 c.in-None.ensures.steps.1.0 so_far.1.1 (sym c.is_empty.ensures ∙ c.if-is_empty.false)) so_far.1.0
