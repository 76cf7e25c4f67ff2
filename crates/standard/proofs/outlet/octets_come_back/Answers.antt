use Rattle.standard.proofs.Returns.{octets_come_back}
use Rattle.standard.proofs.outlet.octets_come_back.Goals as goal

pub returns : goal.returns
returns c = octets_come_back
