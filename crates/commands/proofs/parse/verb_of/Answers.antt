use Rattle.std.proofs.Common.{◌≡◌, codes, rules}
use Rattle.std.proofs.lemmas.Slice.Eq.{text_from_reads}
use Rattle.commands.proofs.parse.verb_of.Goals as goal

pub returns-in-bodies : goal.returns-in-bodies
returns-in-bodies c =
    let e : c.args.word.now ≡ codes "bodies" = search (rules, text_from_reads) in
    rw e
