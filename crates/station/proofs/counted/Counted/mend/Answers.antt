use Rattle.std.proofs.Common.{◌≡◌, length, set, ap, ◌∙◌, rules}
use Rattle.std.proofs.lemmas.List.{length-set, take_at}
use Rattle.station.specs.Judging.{missing_octet, sum_checked}
use Rattle.station.proofs.counted.Counted.mend.Goals as goal

pub returns : goal.returns
returns c =
    let m = c.args.self in
    let i = c.args.place in
    let xs = c.deref_mut.result.now in
    let octet : c.in_ok-octet.octet ≡ c.missing.result = search rules in
    let is : set xs i c.in_ok-octet.octet ≡ set m i (missing_octet i m) =
    ap (λ z. set z i c.in_ok-octet.octet) (c.deref_mut.ensures.value ∙ c.self.view_is) ∙ ap (set m i) (octet ∙ c.missing.ensures) in
    let long = length-set xs i c.in_ok-octet.octet ∙ ap length c.deref_mut.ensures.value in
    c.check_sum.ensures ∙ ap sum_checked (take_at (set xs i c.in_ok-octet.octet) _ (length c.self.inside.octets.items) long ∙ is)
