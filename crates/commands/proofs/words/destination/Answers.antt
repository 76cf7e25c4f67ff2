use Rattle.std.proofs.Common.{ℕ, List, Bor, Err, codes, ap, ◌∙◌}
use Rattle.std.proofs.lemmas.Result.{err_from_is_err_and}
use Rattle.text.specs.Words.{to_come}
use Rattle.text.proofs.Steps.{told_word, told_missing}
use Rattle.commands.specs.Syntax.{destination_word}
use Rattle.commands.proofs.words.destination.Goals as goal

pub returns : goal.returns
returns c = record {
  word = told_word (λ x. x) c.destination_of.result (codes "DESTINATION is missing") destination_word (to_come c.args.words.now) c.in_ok-want.field-0.now c.in_ok-want.ensures.word c.destination_of.ensures;
  left = c.want.ensures.left;
}

pub returns-in_err-want : goal.returns-in_err-want
returns-in_err-want c =
    let p = err_from_is_err_and c.from_residual.result c.from_residual.ensures.1 in
    record {
      word = told_missing (λ x. x) (λ (x : Bor (List ℕ)). x.now) (codes "DESTINATION is missing") destination_word (to_come c.args.words.now) c.from_residual.result c.in_err-want.field-0.0 (p.1 ∙ ap Err p.2) c.in_err-want.ensures.word;
      left = c.want.ensures.left;
    }
