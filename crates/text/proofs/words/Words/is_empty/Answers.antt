use Rattle.text.proofs.Lines.{some_left}
use Rattle.text.proofs.words.Words.is_empty.Goals as goal

pub returns : goal.returns
returns c = some_left c.args.self.now.rest.now c.from_word.result.now c.is_empty.result c.from_word.ensures c.is_empty.ensures
