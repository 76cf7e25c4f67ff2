-- Which message is refused.
use Rattle.std.proofs.Common.{◌≡◌, ℕ, ◌<◌, ◌≤◌, Bool, true, cond, leb, length, Some, None, Option, ap, ◌∙◌, arith}
use Rattle.message.specs.Message.{admits}
use Rattle.refusal.specs.declared.Refusal.{Refusal}
use Rattle.refusal.specs.declared.Refusal.TheVariants.{Argument, Long}
use Rattle.std.proofs.lemmas.Bool.Decides.{nat_tests}
use Rattle.commands.specs.Fields.{Given}
use Rattle.commands.specs.Seals.{refused_for}

abbrev by_length : ℕ → Option Refusal
by_length n = cond (leb n 66) None (Some Long)

fits : (n : ℕ) → n ≤ 66 → by_length n ≡ None
fits n h = grind (arith, nat_tests)

passes : (n : ℕ) → 66 < n → by_length n ≡ Some Long
passes n h = grind (arith, nat_tests)

pub accepted : (g : Given) → admits g.kind g.destination g.source ≡ true → length g.payload ≤ 66 → refused_for g ≡ None
accepted g e h = ap (λ (b : Bool). cond b (by_length (length g.payload)) (Some Argument)) e ∙ fits (length g.payload) h

pub too_long : (g : Given) → admits g.kind g.destination g.source ≡ true → 66 < length g.payload → refused_for g ≡ Some Long
too_long g e h = ap (λ (b : Bool). cond b (by_length (length g.payload)) (Some Argument)) e ∙ passes (length g.payload) h
