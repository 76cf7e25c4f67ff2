use Rattle.std.proofs.Common.{codes, subst}
use Rattle.text.specs.Reads.{Told, known}
use Rattle.text.specs.Words.{to_come}
use Rattle.text.proofs.Steps.{told_word, told_known}
use Rattle.commands.specs.Syntax.{bottom_word}
use Rattle.commands.proofs.words.bottom.Goals as goal

pub returns : goal.returns
returns c = record {
  word = told_word (λ x. x) c.ok_or.result (codes "LINE is missing") bottom_word (to_come c.args.words.now) c.in_ok-want.field-0.now c.in_ok-want.ensures.word
      (subst (λ v. Told (λ x. x) c.ok_or.result (known (codes "LINE is octets or bits") v)) c.bottom_of.ensures (told_known c.ok_or.result c.bottom_of.result _ c.ok_or.ensures.value));
  left = c.want.ensures.left;
}
