use Rattle.std.proofs.Common.{rules, refl}
use Rattle.radio.proofs.States.{put_more}
use Rattle.radio.proofs.write.put_all.Goals as goal

pub loop-x-preserved : goal.loop-x-preserved
loop-x-preserved g c = put_more _ _ _ _ _ _ (search rules) refl c.loop-x.invariant c.in_ok-put.ensures.leaves
