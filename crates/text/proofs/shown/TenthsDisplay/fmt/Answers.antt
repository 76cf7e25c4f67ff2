use Rattle.std.proofs.Common.{◌≡◌, nat_abs, ap, ◌∙◌, w16, SFits, to_z, of_z, rules}
use Rattle.std.proofs.lemmas.Int.{to_z-of_z}
use Rattle.std.proofs.Output.{has_written_of_eq}
use Rattle.text.specs.Texts.{sign_text}
use Rattle.text.proofs.Printing.{tenths_are}
use Rattle.text.proofs.shown.TenthsDisplay.fmt.Goals as goal

pub returns-clause-writes : goal.returns-clause-writes
returns-clause-writes g c plain ok =
    let n = c.args.self.now.0 in
    let fits : SFits w16 n = search rules in
    let back : to_z w16 (of_z w16 n) ≡ n = to_z-of_z w16 n fits in
    has_written_of_eq g.W.Write.write_str_gives c.args.f.now _ _ c.write.new.self
    (tenths_are n c.sign-sign.result.now c.unsigned_abs-size.result (c.sign-sign.ensures ∙ ap sign_text back) (c.unsigned_abs-size.ensures.value ∙ ap nat_abs back)) (c.write.ensures.writes plain ok)
