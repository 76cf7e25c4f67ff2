use Rattle.std.proofs.Common.{◌≡◌, length, ap, arith, rules}
use Rattle.std.proofs.lemmas.Result.{err_from_is_err_and}
use Rattle.message.specs.Held.{payload_of}
use Rattle.commands.specs.Fields.{fields_of}
use Rattle.commands.proofs.Sealings.{accepted, too_long}
use Rattle.commands.proofs.seal.sealed.Goals as goal

pub returns-in_err-add : goal.returns-in_err-add
returns-in_err-add c =
    let p = err_from_is_err_and c.from_residual-in_err-add.result c.from_residual-in_err-add.ensures.1 in
    let none : length (payload_of c.new-draft.result) ≡ 0 = ap length c.new-draft.ensures.empty in
    let long = too_long (fields_of c.args.fields.now) c.in_ok-header.ensures.0 (omega (arith, none, c.in_err-add.ensures.cases.0)) in
    let is = c.in_err-add.ensures.cases.1 in
    rw (p.1, p.2) (cc)

pub returns : goal.returns
returns c =
    (accepted (fields_of c.args.fields.now) c.in_ok-header.ensures.0 (omega (arith, c.in_ok-add.ensures.cases.0)), search rules)
