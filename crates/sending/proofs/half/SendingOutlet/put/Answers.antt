use Rattle.std.proofs.Common.{◌≡◌, ℕ, ◌+◌, ◌-◌, ◌<◌, List, [], ◌∷◌, ◌++◌, length, take, Ok, sym, ap, ◌∙◌, subst, arith, rules}
use Rattle.std.proofs.lemmas.List.{take_all}
use Rattle.radio.specs.declared.turn.Turn.TheVariants.{Owing}
use Rattle.radio.specs.Outlets.{Put}
use Rattle.radio.proofs.States.{put_accepted, did_ok}
use Rattle.sending.specs.Outgoing.{turn_over}
use Rattle.sending.proofs.Outgoing.{group_accepted, written_on}
use Rattle.sending.proofs.half.SendingOutlet.put.Goals as goal

pub returns : goal.returns
returns g c =
    let s = c.args.self.now in
    let k = g.C.Coding.grouping in
    let b = g.O.Outlet.state s.below in
    let b' = g.O.Outlet.state c.put_group.new.below in
    let held = s.held.items in
    let x = c.args.octet in
    let n = c.in-Owing-1-to-65535.field-0 in
    let some : 0 < n = search rules in
    let owes : turn_over k.plain k.coded b.turn (length held) ≡ Owing n = sym c.in-Owing-1-to-65535.ensures in
    let others : length held ≡ c.plain-others.result - 1 = omega (arith, s.unfinished, c.len.ensures.value, c.if-len-others.false, c.plain-others.ensures) in
    let whole : length held + 1 ≡ k.plain = omega (arith, others, s.unfinished, c.plain-others.ensures) in
    let kept : take (c.plain-others.result - 1) c.deref.result.now ≡ held = ap (take (c.plain-others.result - 1)) c.deref.ensures.0 ∙ take_all (c.plain-others.result - 1) held (omega arith) in
    let filled = c.with_octet-group.result in
    let behind : take (length held + 1) filled ≡ held ++ x ∷ [] = subst (λ (ys : List ℕ). take (length ys + 1) filled ≡ ys ++ x ∷ []) kept c.with_octet-group.ensures in
    let group : take k.plain filled ≡ held ++ x ∷ [] = ap (λ m. take m filled) (sym whole) ∙ behind in
    let ok : c.put_group.result ≡ Ok tt = c.put_group.ensures.answers ∙ sym (group_accepted k held b x n owes some whole) in
    let put : Put (k.code (held ++ x ∷ [])) b b' =
    subst (λ (ys : List ℕ). Put (k.code ys) b b') group (did_ok (Put (k.code (take k.plain filled))) g.O.Outlet.state c.put_group.result s.below c.put_group.new.below ok c.put_group.ensures.leaves) in
    rw ok (record {
      answers = put_accepted 1 n (turn_over k.plain k.coded b.turn (length held)) owes some;
      leaves = written_on k held b x n owes some whole c.new-self.result.items b' c.new-self.ensures put;
    })
