use Rattle.std.proofs.Common.{sym, ◌∙◌}
use Rattle.text.proofs.Lines.{from_here, from_nowhere}
use Rattle.text.proofs.words.from_word.Goals as goal

pub returns-in-Some : goal.returns-in-Some
returns-in-Some c = from_here c.args.line.now c.in-Some.start (sym c.first_other.ensures ∙ c.in-Some.is)

pub returns-in-None : goal.returns-in-None
returns-in-None c = sym (from_nowhere c.args.line.now (sym c.first_other.ensures ∙ c.in-None.is))
