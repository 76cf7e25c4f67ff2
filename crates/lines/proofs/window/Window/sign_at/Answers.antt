use Rattle.std.proofs.Common.{◌-◌, ◌/◌, ◌%◌, ◌^◌, ◌&&◌, eqb, sym, ap, ◌∙◌, arith}
use Rattle.std.proofs.lemmas.Nat.{and_mask}
use Rattle.std.proofs.lemmas.Bool.{le-leb, lt-leb}
use Rattle.lines.proofs.SignBits.{sign_low}
use Rattle.lines.proofs.window.Window.sign_at.Goals as goal

pub returns-then-k-self : goal.returns-then-k-self
returns-then-k-self c =
    let w = c.args.self in
    let x = w.word / 2 ^ c.args.k in
    ap (λ v. eqb v 0x665E1) (and_mask x 20)
    ∙ sym (sign_low c.args.k w.count w.word ∙ ap (λ t. t && eqb (x % 1048576) 0x665E1) (le-leb 20 (w.count - c.args.k) (omega arith)))

pub returns-else-k-self : goal.returns-else-k-self
returns-else-k-self c =
    let w = c.args.self in
    let x = w.word / 2 ^ c.args.k in
    lt-leb _ _ c.if-k-self.false
    ∙ sym (sign_low c.args.k w.count w.word ∙ ap (λ t. t && eqb (x % 1048576) 0x665E1) (lt-leb 20 (w.count - c.args.k) (omega arith)))
