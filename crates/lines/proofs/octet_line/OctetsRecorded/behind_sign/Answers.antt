use Rattle.lines.proofs.OctetSteps.{starts}
use Rattle.lines.proofs.octet_line.OctetsRecorded.behind_sign.Goals as goal

pub returns : goal.returns
returns c = rw c.then_some.ensures (starts c.args.bytes.now c.args.place c.sign_at.result c.sign_at.ensures)
