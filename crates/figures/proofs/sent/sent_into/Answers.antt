use Rattle.std.proofs.Common.{◌≡◌, min, [], ◌∷◌, ◌++◌, Ok, Err, vec_items, vec_len, Result, ap, ◌∙◌, arith}
use Rattle.refusal.specs.declared.Refusal.{Refusal}
use Rattle.message.specs.Parts.{items}
use Rattle.standard.specs.Standard.{standard_over}
use Rattle.figures.specs.Table.{report}
use Rattle.figures.proofs.Sendings.{report_of, accepted, stored}
use Rattle.figures.proofs.sent.sent_into.Goals as goal
use Rattle.figures.proofs.sent.sent_into.Goals.{After-seal}

sealed : (c : After-seal) → items c.seal.result.octets ≡ report
sealed c =
    let fits = c.in_ok-new.ensures in
    let same = c.in_ok-add.ensures.header ∙ c.new-draft.ensures.header in
    let payload = c.in_ok-add.ensures.cases.1 ∙ ap (λ xs. xs ++ (0x7F ∷ [])) c.new-draft.ensures.empty in
    c.seal.ensures.made ∙ report_of _ _ _ _ (ap (λ h. h.kind) same ∙ fits.1) (ap (λ h. h.destination) same ∙ fits.2) (ap (λ h. h.source) same ∙ fits.3) payload

pub returns-in_err-send : goal.returns-in_err-send
returns-in_err-send c l =
    let m = sealed (goal.at.returns-in_err-send c).After-seal in
    let outlet = c.standard_sending-outlet.ensures ∙ ap standard_over c.new-2.ensures in
    let no : ◌≡◌ {A = Result (Unit {0}) Refusal} (Err c.in_err-send.field-0.0) (Ok tt) =
    c.in_err-send.ensures.answers ∙ accepted (vec_items c.args.memory) (min (vec_len c.args.memory) 65536) _ _ m outlet (omega arith) in
    cc

pub returns : goal.returns
returns c l =
    let m = sealed (goal.at.returns c).After-seal in
    let outlet = c.standard_sending-outlet.ensures ∙ ap standard_over c.new-2.ensures in
    let back = c.into_memory.ensures.same ∙ ap (λ o. o.memory) (c.into_below-2.ensures ∙ ap (λ h. h.below) c.into_below.ensures) in
    ap vec_items back ∙ stored (vec_items c.args.memory) (min (vec_len c.args.memory) 65536) _ _ m outlet _ c.in_ok-send.ensures.leaves
