use Rattle.std.proofs.Common.{eqb, rules, tests, sym, ◌∙◌}
use Rattle.std.proofs.lemmas.Iterator.{YieldsList-from_slice}
use Rattle.std.proofs.lemmas.Iterator.Search.{all_from_yields_List}
use Rattle.station.specs.Judging.{value_or}
use Rattle.station.proofs.Spoilt.{all_blank}
use Rattle.station.proofs.judge.is_blank.Goals as goal

pub returns : goal.returns
returns c =
    all_from_yields_List (λ s. eqb (value_or 0 s) 0) _ _ _ c.all.ensures.ran (YieldsList-from_slice c.args.symbols.now cc) (λ x b q k. search (rules, tests))
    ∙ sym (all_blank c.args.symbols.now)
