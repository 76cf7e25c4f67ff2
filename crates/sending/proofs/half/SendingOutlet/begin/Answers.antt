use Rattle.std.proofs.Common.{◌≡◌, ℕ, ◌*◌, ◌/◌, ◌<◌, ◌≤◌, refl, ap, ◌∙◌, subst}
use Rattle.std.proofs.lemmas.Result.{err_from_is_err_and}
use Rattle.radio.specs.Outlets.{Begun, answer, begin_refusal}
use Rattle.sending.proofs.Outgoing.{too_many, same_answer, begun_half, same_but_below}
use Rattle.sending.proofs.half.SendingOutlet.begin.Goals as goal

pub returns-then-below-gt65534 : goal.returns-then-below-gt65534
returns-then-below-gt65534 g c =
    let s = c.args.self.now in
    let k = g.C.Coding.grouping in
    let n : c.args.count / c.plain.result * c.coded.result ≡ c.args.count / k.plain * k.coded = ap (λ p. c.args.count / p * c.coded.result) c.plain.ensures ∙ ap (λ q. c.args.count / k.plain * q) c.coded.ensures in
    let over : 65534 < c.args.count / k.plain * k.coded = subst (λ (m : ℕ). 65534 < m) n c.if-below-gt65534.true in
    record {
      answers = too_many k s.held.items (g.O.Outlet.state s.below) c.args.preamble c.args.count c.in_ok-check_form.ensures.answers (g.O.Outlet.sound s.below) over;
      leaves = refl;
    }

pub returns-in_err-begin : goal.returns-in_err-begin
returns-in_err-begin g c =
    let s = c.args.self.now in
    let k = g.C.Coding.grouping in
    let h = c.in_err-begin.ensures in
    let p = err_from_is_err_and c.from_residual-in_err-begin.result c.from_residual-in_err-begin.ensures.1 in
    let n : c.args.count / c.plain.result * c.coded.result ≡ c.args.count / k.plain * k.coded = ap (λ p. c.args.count / p * c.coded.result) c.plain.ensures ∙ ap (λ q. c.args.count / k.plain * q) c.coded.ensures in
    let few : c.args.count / k.plain * k.coded ≤ 65534 = subst (λ (m : ℕ). m ≤ 65534) n c.if-below-gt65534.false in
    rw (p.1, p.2) (record {
      answers = h.answers
          ∙ ap (λ m. answer (begin_refusal c.args.preamble m (g.O.Outlet.state s.below))) n
          ∙ same_answer k s.held.items (g.O.Outlet.state s.below) c.args.preamble c.args.count c.in_ok-check_form.ensures.answers few;
      leaves = same_but_below _ _ _ _ _ _ h.leaves;
    })

pub returns : goal.returns
returns g c =
    let s = c.args.self.now in
    let k = g.C.Coding.grouping in
    let b = g.O.Outlet.state s.below in
    let b' = g.O.Outlet.state c.begin.new.self in
    let held = s.held.items in
    let form = c.in_ok-check_form.ensures.answers in
    let h = c.in_ok-begin.ensures in
    let n : c.args.count / c.plain.result * c.coded.result ≡ c.args.count / k.plain * k.coded = ap (λ p. c.args.count / p * c.coded.result) c.plain.ensures ∙ ap (λ q. c.args.count / k.plain * q) c.coded.ensures in
    let few : c.args.count / k.plain * k.coded ≤ 65534 = subst (λ (m : ℕ). m ≤ 65534) n c.if-below-gt65534.false in
    record {
      answers = h.answers ∙ ap (λ m. answer (begin_refusal c.args.preamble m b)) n ∙ same_answer k held b c.args.preamble c.args.count form few;
      leaves = begun_half k held b c.args.preamble c.args.count form c.clear.new.self.items b' c.clear.ensures (subst (λ (m : ℕ). Begun c.args.preamble m b b') n h.leaves);
    }
