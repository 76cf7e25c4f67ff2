use Rattle.radio.proofs.States.{calls_write}
use Rattle.radio.proofs.write.calls_write.Goals as goal

pub returns : goal.returns
returns c = calls_write
