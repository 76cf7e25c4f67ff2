use Rattle.std.proofs.Common.{◌≡◌, replicate, Ok, Err, vec_items, Result, ap, ◌∙◌, inl, inr, arith}
use Rattle.refusal.specs.declared.Refusal.{Refusal}
use Rattle.standard.specs.Standard.{laid_over}
use Rattle.station.specs.declared.filters.Facts.{Facts}
use Rattle.station.specs.Judging.{told, buffer_left}
use Rattle.figures.specs.Orders.{heard_in}
use Rattle.figures.specs.Recorded.{report_facts}
use Rattle.figures.proofs.Sendings.{read_back}
use Rattle.figures.proofs.sent.sent_and_read.Goals as goal

pub returns-in_err-new : goal.returns-in_err-new
returns-in_err-new c l = elim c.in_err-new.ensures.0 [ inl e ↦ absurd (omega arith) | inr e ↦ absurd (omega arith) ]

pub returns-in_err-facts : goal.returns-in_err-facts
returns-in_err-facts c l =
    let s = c.in_ok-new.ensures in
    let line = c.standard_reading-line.ensures.heard ∙ ap laid_over c.new.ensures ∙ ap heard_in (c.as_slice.ensures.value ∙ c.in_ok-memory.ensures l) in
    let is = read_back (vec_items c.args.memory) _ _ _ s.2 s.3 line in
    let no : ◌≡◌ {A = Result Facts Refusal} (Err c.in_err-facts.field-0.0) (Ok (report_facts 40)) = c.in_err-facts.ensures.answers ∙ ap (told 40) is in
    cc

pub returns : goal.returns
returns c l =
    let s = c.in_ok-new.ensures in
    let line = c.standard_reading-line.ensures.heard ∙ ap laid_over c.new.ensures ∙ ap heard_in (c.as_slice.ensures.value ∙ c.in_ok-memory.ensures l) in
    let is = read_back (vec_items c.args.memory) _ _ _ s.2 s.3 line in
    let yes : ◌≡◌ {A = Result Facts Refusal} (Ok c.in_ok-facts.facts) (Ok (report_facts 40)) = c.in_ok-facts.ensures.answers ∙ ap (told 40) is in
    let facts : c.in_ok-facts.facts ≡ report_facts 40 = cc in
    let payload = c.in_ok-facts.ensures.buffer ∙ ap (λ r. buffer_left r (replicate 66 0)) is in
    ap (λ f. Ok (f, c.read.new.buffer)) facts ∙ ap (λ p. Ok (report_facts 40, p)) payload
