use Rattle.std.proofs.Common.{◌≡◌, true, false, drop, rules}
use Rattle.std.proofs.lemmas.Iterator.{first_from_Range}
use Rattle.lines.specs.HeardBits.{sign_here}
use Rattle.lines.specs.Looks.{seen}
use Rattle.lines.proofs.BitSteps.{first_of_ten}
use Rattle.lines.proofs.window.Window.first_sign.Goals as goal

pub returns : goal.returns
returns c =
    let bits = seen c.args.self in
    first_of_ten bits c.find.result
    (first_from_Range _ _ _ c.find.result (λ i. sign_here (drop i bits) ≡ true) (λ i. sign_here (drop i bits) ≡ false) c.find.ensures.ran (λ x q k. search rules) (λ x q k. search rules))
