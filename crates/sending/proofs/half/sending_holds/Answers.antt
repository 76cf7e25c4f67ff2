use Rattle.sending.proofs.Outgoing.{sends_coding}
use Rattle.sending.proofs.half.sending_holds.Goals as goal

pub returns : goal.returns
returns c = sends_coding
