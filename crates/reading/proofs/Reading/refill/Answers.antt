use Rattle.std.proofs.Common.{◌≡◌, true, nat_eq, List, ◌<◌, ◌≤◌, ◌≢◌, min, [], length, take, Result, ap, ◌∙◌, sym, subst, arith, eqb-true, rules, refl}
use Rattle.std.proofs.lemmas.List.{nil_from_length, length-take-le}
use Rattle.std.proofs.lemmas.Result.{err_from_is_err_and}
use Rattle.refusal.specs.declared.Fault.{Fault}
use Rattle.refusal.specs.declared.Cause.TheVariants.{Torn}
use Rattle.radio.specs.declared.symbol.Symbol.{Symbol}
use Rattle.radio.specs.Reception.{fault}
use Rattle.radio.specs.Lines.{past}
use Rattle.reading.specs.Half.{half}
use Rattle.reading.specs.Meaning.{meaning, Filled}
use Rattle.reading.proofs.Halves.{fault_below, torn_below, full_below}
use Rattle.reading.proofs.Reading.refill.Goals as goal

none_waiting : (xs ys : List Symbol) → ys ≡ xs → true ≡ nat_eq (length ys) 0 → xs ≡ []
none_waiting xs ys q e = sym q ∙ nil_from_length ys (eqb-true _ 0 (sym e))

pub returns-in_err-came : goal.returns-in_err-came
returns-in_err-came g c =
    let s = c.args.self.now in
    let k = g.C.Coding.grouping in
    let h = g.L.Line.heard s.below in
    let front = none_waiting s.waiting _ c.as_slice.ensures.value c.if-not-is_empty.ensures in
    let o = c.in_err-came.ensures in
    let e = c.coded-want.ensures in
    let x = err_from_is_err_and c.from_residual.result c.from_residual.ensures.1 in
    let t = fault_below k _ _ s.given h (g.L.Line.heard c.gather.new.below) front c.in_default.is (o.left ∙ ap (λ n. past n h) e) (omega (arith, o.gives.0, e)) o.gives.1.0 o.gives.1.1 in
    record {
      same = t.0;
      filled = subst (λ (r : Result (Unit {0}) Fault). Filled s.waiting (half k s.waiting s.torn s.given h).present r) (sym x.1) (t.1 ∙ ap (λ f. record { symbols = []; ending = fault f }) (sym (x.2 ∙ o.gives.1.2)));
    }

pub returns-then-came-want : goal.returns-then-came-want
returns-then-came-want g c =
    let s = c.args.self.now in
    let k = g.C.Coding.grouping in
    let h = g.L.Line.heard s.below in
    let ss = h.present.symbols in
    let o = c.in_ok-came.ensures in
    let e = c.coded-want.ensures in
    let front = none_waiting s.waiting _ c.as_slice.ensures.value c.if-not-is_empty.ensures in
    let l : length ss < c.coded-want.result = omega (arith, o.gives.0, c.if-came-want.true) in
    let some : c.in_ok-came.came ≢ 0 = c.if-came-eq0.false in
    let given : s.given < 65536 = search rules in
    let place : s.given ≡ min s.given 65535 = omega arith in
    let is = c.tear.ensures.is ∙ ap (λ n. record { cause = Torn; place = n; rise = 0 }) place in
    let t = torn_below k _ _ s.given h (g.L.Line.heard c.gather.new.below) front c.in_default.is (o.left ∙ ap (λ n. past n h) e) (omega (arith, l, e)) c.tear.result (omega (arith, o.gives.0, some)) (o.gives.2 c.if-came-want.true) (ap fault is) in
    record { same = ap (meaning k g.L.Line.heard) c.tear.ensures.stays ∙ t.0; filled = t.1 }

pub returns : goal.returns
returns g c =
    let s = c.args.self.now in
    let k = g.C.Coding.grouping in
    let h = g.L.Line.heard s.below in
    let ss = h.present.symbols in
    let o = c.in_ok-came.ensures in
    let e = c.coded-want.ensures in
    let front = none_waiting s.waiting _ c.as_slice.ensures.value c.if-not-is_empty.ensures in
    let all : k.coded ≡ c.in_ok-came.came = omega (arith, o.gives.0, c.if-came-want.false, e) in
    let l : k.coded ≤ length ss = omega (arith, o.gives.0, c.if-came-want.false, e) in
    let group : take k.coded c.gather.new.group ≡ take k.coded ss = ap (λ n. take n c.gather.new.group) all ∙ o.gives.1 ∙ ap (λ n. take n ss) e in
    record {
      same = ap (meaning k g.L.Line.heard) c.decode.ensures ∙ full_below k _ _ s.given h (g.L.Line.heard c.gather.new.below) front c.in_default.is (o.left ∙ ap (λ n. past n h) e) _ _ l group refl;
      filled = λ none. absurd (omega (arith, ap length (sym none ∙ ap (λ b. b.waiting) c.decode.ensures ∙ ap k.read group), k.read_length (take k.coded ss) (length-take-le k.coded ss l), k.some));
    }
