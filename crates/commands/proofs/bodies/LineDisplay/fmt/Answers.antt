use Rattle.std.proofs.Common.{sym, ap, ◌∙◌, w16, SFits, to_z, of_z, rules}
use Rattle.std.proofs.lemmas.Int.{to_z-of_z}
use Rattle.std.proofs.Output.{has_written_of_eq}
use Rattle.payload.specs.declared.body.Body.TheVariants.{Regain, Dead, Air}
use Rattle.commands.proofs.Texts.{line_is}
use Rattle.commands.proofs.bodies.LineDisplay.fmt.Goals as goal

pub returns-in-Regain-clause-writes : goal.returns-in-Regain-clause-writes
returns-in-Regain-clause-writes g c plain ok =
    let n = c.in-Regain.hundredths in
    let fits : SFits w16 n = search rules in
    has_written_of_eq g.W.Write.write_str_gives c.args.f.now _ _ c.write.new.self
    (line_is c.args.self.now.0 (Regain c.in-Regain.probe (to_z w16 (of_z w16 n))) (c.in-Regain.is ∙ ap (Regain c.in-Regain.probe) (sym (to_z-of_z w16 n fits)))) (c.write.ensures.writes plain ok)

pub returns-in-Dead-clause-writes : goal.returns-in-Dead-clause-writes
returns-in-Dead-clause-writes g c plain ok =
    has_written_of_eq g.W.Write.write_str_gives c.args.f.now _ _ c.write-in-Dead.new.self
    (line_is c.args.self.now.0 (Dead c.in-Dead.probe c.in-Dead.cause) c.in-Dead.is) (c.write-in-Dead.ensures.writes plain ok)

pub returns-in-Air-clause-writes : goal.returns-in-Air-clause-writes
returns-in-Air-clause-writes g c plain ok =
    let n = c.in-Air.tenths in
    let fits : SFits w16 n = search rules in
    has_written_of_eq g.W.Write.write_str_gives c.args.f.now _ _ c.write-in-Air.new.self
    (line_is c.args.self.now.0 (Air c.in-Air.drier (to_z w16 (of_z w16 n))) (c.in-Air.is ∙ ap (Air c.in-Air.drier) (sym (to_z-of_z w16 n fits)))) (c.write-in-Air.ensures.writes plain ok)
