use Rattle.std.proofs.Common.{◌≡◌, ◌∙◌, rules}
use Rattle.std.proofs.lemmas.Str.{IsUtf8-from_ascii}
use Rattle.text.specs.Texts.{pairs_text}
use Rattle.text.proofs.Printing.{pairs_ascii, ascii_read}
use Rattle.text.proofs.shown.write_pairs.Goals as goal

pub unwrap-requires : goal.unwrap-requires
unwrap-requires g c =
    let ascii = pairs_ascii c.args.octets.now (λ i. search rules) in
    let same : c.deref.result.now ≡ pairs_text c.args.octets.now = c.deref.ensures.0 ∙ c.pairs-text.ensures in
    ascii_read _ _ c.deref.result.now c.from_utf8.result (rw same (IsUtf8-from_ascii (pairs_text c.args.octets.now) ascii)) c.from_utf8.ensures.cases
