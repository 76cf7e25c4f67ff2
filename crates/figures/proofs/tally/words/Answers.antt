use Rattle.std.proofs.Common.{◌≡◌, ◌-◌, take, Some, None, sym, ap, ◌∙◌, arith, rules, tests}
use Rattle.std.specs.Option.{option_map}
use Rattle.std.proofs.lemmas.Iterator.{YieldsList-from_slice}
use Rattle.std.proofs.lemmas.Iterator.Consumers.{nth_from_yields_List, YieldsList-from_filter, YieldsList-from_enumerate}
use Rattle.figures.specs.Tallies.{first_words}
use Rattle.figures.proofs.Words.{blank, Front, words_front}
use Rattle.figures.proofs.tally.words.Goals as goal
use Rattle.figures.proofs.tally.words.Goals.{After-nth}

front : (c : After-nth) → Front (first_words c.args.count c.args.line.now) 0 c.args.line.now (option_map (λ p. (p.0, p.1.now)) c.nth.result)
front c =
    words_front c.args.count c.args.line.now c.saturating_sub.result (option_map (λ p. (p.0, p.1.now)) c.nth.result)
    (nth_from_yields_List c.nth.result _ c.saturating_sub.result c.nth.ensures.ran
    (YieldsList-from_filter _ blank (YieldsList-from_enumerate (YieldsList-from_slice c.args.line.now cc) cc) c.filter-blanks.ensures.closure (λ x b q k. search (rules, tests))))
    c.saturating_sub.ensures

pub returns-in-Some : goal.returns-in-Some
returns-in-Some c =
    let f : Front (first_words c.args.count c.args.line.now) 0 c.args.line.now (Some (c.in-Some.end, c.in-Some.field-0-1.now)) = rw c.in-Some.is at (front (goal.at.returns-in-Some c).After-nth) in
    let z : c.in-Some.end - 0 ≡ c.in-Some.end = omega arith in
    sym (f.1 ∙ ap (λ k. take k c.args.line.now) z)

pub returns-in-None : goal.returns-in-None
returns-in-None c =
    let f : Front (first_words c.args.count c.args.line.now) 0 c.args.line.now None = rw c.in-None.is at (front (goal.at.returns-in-None c).After-nth) in
    sym f
