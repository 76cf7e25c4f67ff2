use Rattle.std.proofs.Common.{◌≡◌, codes, rules}
use Rattle.std.proofs.lemmas.Slice.Eq.{text_from_reads}
use Rattle.commands.proofs.words.bottom_of.Goals as goal

pub returns-in-octets : goal.returns-in-octets
returns-in-octets c =
    let e : c.args.word.now ≡ codes "octets" = search (rules, text_from_reads) in
    rw e
