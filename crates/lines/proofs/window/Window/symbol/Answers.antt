use Rattle.std.proofs.Common.{◌≡◌, ℕ, ◌/◌, ◌%◌, ◌≤◌, Bool, true, false, cond, ◌&&◌, eqb, sym, ap, ◌∙◌, arith}
use Rattle.std.proofs.lemmas.Nat.{and_mask}
use Rattle.std.proofs.lemmas.Bool.{eq-eqb, ne_eqb, and_from, and_left, and_right}
use Rattle.radio.specs.declared.symbol.Symbol.TheVariants.{Clean, Spoiled}
use Rattle.radio.specs.Bits.{bits}
use Rattle.lines.specs.HeardBits.{symbol_here}
use Rattle.radio.proofs.LowBits.{length_low}
use Rattle.lines.proofs.SignBits.{symbol_low}
use Rattle.lines.proofs.window.Window.symbol.Goals as goal
use Rattle.lines.proofs.window.Window.symbol.Goals.{else-self-eq1-via-then-self-eq1+else-self-eq0, else-self-eq1-via-else-self-eq1}

by_test : (n x : ℕ) (t : Bool) → 10 ≤ n → (eqb (x % 2) 1 && eqb ((x / 512) % 2) 0) ≡ t → symbol_here (bits n x) ≡ cond t (Clean ((x / 2) % 256)) Spoiled
by_test n x t h e = symbol_low n x h ∙ ap (λ z. cond z (Clean ((x / 2) % 256)) Spoiled) e

pub returns-then-self-lt10 : goal.returns-then-self-lt10
returns-then-self-lt10 c = omega (arith, length_low c.args.self.count c.args.self.word)

pub returns-then-self-eq0 : goal.returns-then-self-eq0
returns-then-self-eq0 c =
    let n = c.args.self.count in
    let x = c.args.self.word in
    let start = eq-eqb (x % 2) 1 (sym (and_mask x 1) ∙ c.if-self-eq1.true) in
    let stop = eq-eqb ((x / 512) % 2) 0 (sym (and_mask (x / 512) 1) ∙ c.if-self-eq0.true) in
    let l = length_low n x in
    (omega arith, ap Clean (and_mask (x / 2) 8) ∙ sym (by_test n x true c.if-self-lt10.false (and_from _ _ start stop)))

pub returns-else-self-eq1 : goal.returns-else-self-eq1
returns-else-self-eq1 c =
    let n = c.args.self.count in
    let x = c.args.self.word in
    let l = length_low n x in (
      omega arith,
      elim c.else-self-eq1.branch [
        | else-self-eq1-via-then-self-eq1+else-self-eq0 w ↦
            sym (by_test n x false c.if-self-lt10.false (and_right _ _ (ne_eqb ((x / 512) % 2) 0 (λ e. w.if-self-eq0.false (and_mask (x / 512) 1 ∙ e)))))
        | else-self-eq1-via-else-self-eq1 w ↦
            sym (by_test n x false c.if-self-lt10.false (and_left _ _ (ne_eqb (x % 2) 1 (λ e. w.if-self-eq1.false (and_mask x 1 ∙ e)))))
      ],
    )
