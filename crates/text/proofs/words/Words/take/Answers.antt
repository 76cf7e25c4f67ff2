use Rattle.std.proofs.Common.{sym, ap, ◌∙◌, arith, rules}
use Rattle.text.specs.Words.{behind}
use Rattle.text.proofs.Lines.{word_ends, word_fits, cut_line, cut_nothing}
use Rattle.text.proofs.words.Words.take.Goals as goal

pub split_at-requires : goal.split_at-requires
split_at-requires c =
    let line = c.from_word-line.result.now in
    omega (arith, word_fits line, word_ends line c.first_blank.result c.unwrap_or-size.result c.first_blank.ensures c.unwrap_or-size.ensures)

pub returns-then-is_empty : goal.returns-then-is_empty
returns-then-is_empty c =
    let line = c.from_word-line.result.now in
    let size = word_ends line c.first_blank.result c.unwrap_or-size.result c.first_blank.ensures c.unwrap_or-size.ensures in
    let none = cut_nothing c.args.self.now.rest.now line c.split_at.result.0.now c.split_at.result.1.now c.unwrap_or-size.result c.from_word-line.ensures size c.split_at.ensures.front c.split_at.ensures.back (search rules) in
    record { word = none.0; left = none.1 ∙ sym (ap behind none.0) }

pub returns-else-is_empty : goal.returns-else-is_empty
returns-else-is_empty c =
    let line = c.from_word-line.result.now in
    let size = word_ends line c.first_blank.result c.unwrap_or-size.result c.first_blank.ensures c.unwrap_or-size.ensures in
    let cut = cut_line c.args.self.now.rest.now line c.split_at.result.0.now c.split_at.result.1.now c.unwrap_or-size.result c.from_word-line.ensures size c.split_at.ensures.front c.split_at.ensures.back (search rules) in
    record { word = cut; left = sym (ap behind cut) }
