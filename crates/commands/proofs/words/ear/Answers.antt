use Rattle.std.proofs.Common.{codes}
use Rattle.text.specs.Words.{to_come}
use Rattle.text.proofs.Steps.{told_word}
use Rattle.commands.specs.Syntax.{ear_word}
use Rattle.commands.proofs.words.ear.Goals as goal

pub returns : goal.returns
returns c = record {
  word = told_word (λ x. x) c.ear_of.result (codes "PILE is missing") (ear_word c.args.piles c.args.bottom) (to_come c.args.words.now) c.in_ok-want.field-0.now c.in_ok-want.ensures.word c.ear_of.ensures;
  left = c.want.ensures.left;
}
