use Rattle.std.proofs.Common.{◌<◌, ◌^◌, arith}
use Rattle.std.proofs.Output.{has_written_of_eq}
use Rattle.text.proofs.Printing.{address_shown}
use Rattle.text.proofs.shown.AddressDisplay.fmt.Goals as goal

pub returns-clause-writes : goal.returns-clause-writes
returns-clause-writes g c plain ok =
    let small : c.args.self.now.0 < 2 ^ 16 = omega arith in
    has_written_of_eq g.W.Write.write_str_gives c.args.f.now _ _ c.write.new.self
    (address_shown c.args.self.now.0 c.to_be_bytes.result small c.to_be_bytes.ensures) (c.write.ensures.writes plain ok)
