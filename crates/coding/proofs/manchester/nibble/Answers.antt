use Rattle.std.proofs.Common.{◌≡◌, eqb, rules, tests}
use Rattle.std.proofs.lemmas.Iterator.{YieldsList-from_slice}
use Rattle.std.proofs.lemmas.Iterator.Search.{position_from_yields_List}
use Rattle.coding.specs.Manchester.{code_table, value_of}
use Rattle.coding.proofs.manchester.nibble.Goals as goal

pub returns-clause-is : goal.returns-clause-is
returns-clause-is c =
    let v = c.in-Clean.c in
    let found : c.position.result ≡ value_of v =
    position_from_yields_List (λ x. eqb x v) _ _ _ c.position.ensures.ran (YieldsList-from_slice code_table cc) (λ x b q k. search (rules, tests)) in
    search (rules, found)
