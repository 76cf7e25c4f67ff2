use Rattle.std.proofs.Common.{arith}
use Rattle.text.proofs.Printing.{pairs_length, pairs_pushed}
use Rattle.text.proofs.shown.pairs.Goals as goal

pub push-requires : goal.push-requires
push-requires c = omega (arith, pairs_length c.loop-octet.octet-index c.args.octets.now c.loop-octet-test.true c.loop-octet.text.items c.loop-octet.invariant, c.requires)

pub push-requires-in-loop-octet : goal.push-requires-in-loop-octet
push-requires-in-loop-octet c = omega (arith, pairs_length c.loop-octet.octet-index c.args.octets.now c.loop-octet-test.true c.loop-octet.text.items c.loop-octet.invariant, c.requires, c.push.ensures.len)

pub loop-octet-preserved : goal.loop-octet-preserved
loop-octet-preserved c = pairs_pushed c.args.octets.now c.loop-octet.octet-index c.loop-octet.text.items c.push.new.self.items c.push-in-loop-octet.new.self.items c.digits.result
    c.loop-octet-test.true c.loop-octet.invariant c.digits.ensures c.push.ensures.items c.push-in-loop-octet.ensures.items
