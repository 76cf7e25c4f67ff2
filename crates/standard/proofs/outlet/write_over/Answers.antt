use Rattle.radio.proofs.States.{stored_err}
use Rattle.coding.specs.ManchesterLaws.{manchester}
use Rattle.coding.specs.BlockLaws.{block}
use Rattle.sending.specs.Outgoing.{outgoing}
use Rattle.standard.specs.Standard.{standard_over}
use Rattle.standard.proofs.outlet.write_over.Goals as goal

pub returns-in-Err : goal.returns-in-Err
returns-in-Err g c =
    rw (c.into_below-below.ensures, c.into_below.ensures)
    (stored_err (outgoing block (outgoing manchester g.O.Outlet.state)) c.standard_sending-outlet.result c.write_message-answer.new.outlet (standard_over (g.O.Outlet.state c.args.outlet))
    c.args.preamble c.args.octets.now c.standard_sending-outlet.ensures c.requires c.in-Err.refusal c.in-Err.ensures.answers c.in-Err.ensures.leaves)
