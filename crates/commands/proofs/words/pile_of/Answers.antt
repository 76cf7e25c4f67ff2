use Rattle.std.proofs.Common.{◌≡◌, Some, codes, sym, refl, ap, ◌∙◌, rules}
use Rattle.std.proofs.lemmas.Slice.Eq.{text_from_reads}
use Rattle.commands.specs.declared.command.Pile.TheVariants.{Standard}
use Rattle.commands.specs.declared.command.Piles.{Piles}
use Rattle.commands.specs.declared.command.Piles.TheVariants.{Usual, Trial}
use Rattle.commands.specs.Syntax.{pile_word}
use Rattle.commands.proofs.words.pile_of.Goals as goal

standard_named : (piles : Piles) → pile_word piles (codes "standard") ≡ Some Standard
standard_named Usual = refl
standard_named Trial = refl

pub returns-in_default-standard : goal.returns-in_default-standard
returns-in_default-standard c =
    let e : c.args.word.now ≡ codes "standard" = search (rules, text_from_reads) in
    sym (ap (pile_word c.args.piles) e ∙ standard_named c.args.piles)
