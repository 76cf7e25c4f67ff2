use Rattle.std.proofs.Common.{subst}
use Rattle.text.specs.Figures.{address_word}
use Rattle.text.specs.Reads.{Told, known}
use Rattle.text.specs.Words.{to_come}
use Rattle.text.proofs.Steps.{told_word, told_known}
use Rattle.text.proofs.words.Words.address.Goals as goal

pub returns-clause-word : goal.returns-clause-word
returns-clause-word c =
    told_word (λ a. a) c.ok_or.result c.args.missing.now (λ w. known c.args.wrong.now (address_word w)) (to_come c.args.self.now) c.in_ok-want.field-0.now c.in_ok-want.ensures.word
    (subst (λ v. Told (λ a. a) c.ok_or.result (known c.args.wrong.now v)) c.address.ensures (told_known c.ok_or.result c.address.result c.args.wrong c.ok_or.ensures.value))
