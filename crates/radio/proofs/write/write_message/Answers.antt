use Rattle.std.proofs.Common.{◌≡◌, Ok, rules}
use Rattle.radio.specs.Outlets.{Ended}
use Rattle.radio.proofs.States.{whole_message}
use Rattle.radio.proofs.write.write_message.Goals as goal

pub returns-clause-leaves : goal.returns-clause-leaves
returns-clause-leaves g c =
    let ok : c.end.result ≡ Ok tt = search rules in
    let ended : Ended (g.O.Outlet.state c.put_all.new.outlet) (g.O.Outlet.state c.end.new.self) = search rules in
    rw ok (whole_message _ _ _ _ _ _ (g.O.Outlet.sound c.put_all.new.outlet) c.in_ok-begin.ensures.leaves c.in_ok-put_all.ensures.leaves ended)
