use Rattle.std.proofs.Common.{take, ap, ◌∙◌}
use Rattle.std.proofs.lemmas.List.{take_min}
use Rattle.lines.proofs.byte_line.heard_part.Goals as goal

pub returns-clause-part : goal.returns-clause-part
returns-clause-part c = ap (λ n. take n c.args.bytes.now) c.min.ensures ∙ take_min 65536 c.args.bytes.now
