use Rattle.std.proofs.Common.{◌≡◌, ◌+◌, ◌<◌, ◌≤◌, [], ◌∷◌, ◌++◌, length, take, Some, None, Ok, Err, Result, refl, sym, ap, ◌∙◌, subst, arith, rules, MatchResult}
use Rattle.std.proofs.lemmas.List.{take_all}
use Rattle.std.proofs.lemmas.Result.{err_from_is_err_and}
use Rattle.arrayvec.specs.ArrayVec.{ArrayVec}
use Rattle.refusal.specs.declared.Refusal.{Refusal}
use Rattle.radio.specs.declared.symbol.Symbol.{Symbol}
use Rattle.radio.specs.Lines.{next, past}
use Rattle.radio.proofs.Taking.{more_next, none_next, fault_next}
use Rattle.station.specs.Judging.{collected}
use Rattle.station.proofs.Collecting.{taken_more, faulted, some}
use Rattle.station.proofs.collect.collect.Goals as goal

pub returns-in_err-symbol : goal.returns-in_err-symbol
returns-in_err-symbol g c =
    let h = g.L.Line.heard c.args.line.now in
    let q = g.L.Line.heard c.loop-symbol.line in
    let inv = c.loop-symbol.invariant in
    let i = length c.loop-symbol.symbols.items in
    let t = c.in_err-symbol.ensures in
    let f = c.in_err-symbol.field-0.0 in
    let n = fault_next i h q inv.2 97 f (omega (arith, inv.3)) t.answers in
    let few : length h.present.symbols ≤ 96 = omega (arith, n.0, inv.3) in
    let e = err_from_is_err_and c.from_residual.result c.from_residual.ensures.1 in
    let is : collected h.present ≡ Err e.0 = faulted h.present few f n.1 ∙ ap Err (sym e.2) in
    record {
      answers = subst (λ (z : Result (ArrayVec Symbol) Refusal). MatchResult z (λ v. collected h.present ≡ Ok v.items) (λ x. collected h.present ≡ Err x)) (sym e.1) is;
      left = t.left ∙ n.2;
    }

pub returns-in_err-map_err-clause-left : goal.returns-in_err-map_err-clause-left
returns-in_err-map_err-clause-left g c =
    let h = g.L.Line.heard c.args.line.now in
    let q = g.L.Line.heard c.loop-symbol.line in
    let i = length c.loop-symbol.symbols.items in
    let t = c.in_ok-symbol.ensures in
    let s = c.in-Some.symbol in
    let o : Ok (Some s) ≡ next q.present = ap Ok (sym c.in-Some.is) ∙ t.answers in
    let n = more_next i h q c.loop-symbol.invariant.2 s o in
    let last : i ≡ 96 = search rules in
    t.left ∙ n.1 ∙ ap (λ k. past (k + 1) h) last

pub loop-symbol-preserved : goal.loop-symbol-preserved
loop-symbol-preserved g c =
    let h = g.L.Line.heard c.args.line.now in
    let q = g.L.Line.heard c.loop-symbol.line in
    let inv = c.loop-symbol.invariant in
    let xs = c.loop-symbol.symbols.items in
    let i = length xs in
    let t = c.in_ok-symbol.ensures in
    let s = c.in-Some.symbol in
    let o : Ok (Some s) ≡ next q.present = ap Ok (sym c.in-Some.is) ∙ t.answers in
    let n = taken_more i h q inv.2 s xs refl inv.1 o in
    let pushed : c.try_push.new.self.items ≡ xs ++ s ∷ [] = search rules in
    let long : length c.try_push.new.self.items ≡ i + 1 = search rules in
    let room : i < 96 = search rules in
    (omega (arith, n.0), pushed ∙ n.1 ∙ ap (λ k. take k h.present.symbols) (sym long), t.left ∙ n.2 ∙ ap (λ k. past k h) (sym long), omega arith)

pub returns : goal.returns
returns g c =
    let h = g.L.Line.heard c.args.line.now in
    let q = g.L.Line.heard c.loop-symbol.line in
    let inv = c.loop-symbol.invariant in
    let i = length c.loop-symbol.symbols.items in
    let t = c.in_ok-symbol.ensures in
    let o : Ok None ≡ next q.present = ap Ok (sym c.in_default.is) ∙ t.answers in
    let n = none_next i h q inv.2 97 (omega (arith, inv.3)) o in
    let ss = h.present.symbols in
    let first : 0 < i = search rules in
    record { answers = some h.present (omega (arith, n.0, inv.3)) n.1 (omega (arith, inv.0)) ∙ ap Ok (sym (inv.1 ∙ take_all i ss n.0)); left = t.left ∙ n.3 }
