-- The receptions of bytes, from one place to the next.
use Rattle.std.proofs.Common.{◌≡◌, ℕ, ◌+◌, ◌≤◌, Bool, true, false, eqb, List, [], ◌∷◌, length, get_or, drop, sym, refl, ap, ◌∙◌, ⊎_elim, arith}
use Rattle.std.proofs.lemmas.List.{drop_more, drop_all, drop-drop, length-drop}
use Rattle.std.proofs.lemmas.Bool.{cases_lt, and_parts, eqb-true, cond-true, cond-false, false≢true}
use Rattle.std.specs.Bool.{then_some}
use Rattle.lines.specs.HeardOctets.{sign_here, reception_from, receptions}
use Rattle.lines.specs.Recording.{StartsInStep}
use Rattle.lines.specs.Recordings.{in_octets}

-- behind a sign its reception starts, and no sign starts in its second byte
no_sign_in : (rest : List ℕ) → sign_here (0xCC ∷ rest) ≡ false
no_sign_in [] = refl
no_sign_in (x ∷ rest) = refl

second : (y : ℕ) (rest : List ℕ) → y ≡ 0xCC → receptions (y ∷ rest) ≡ receptions rest
second y rest e = ap (λ z. receptions (z ∷ rest)) e ∙ cond-false (sign_here (0xCC ∷ rest)) _ _ (no_sign_in rest)

at_sign : (zs : List ℕ) → sign_here zs ≡ true → (2 ≤ length zs) × (receptions zs ≡ reception_from 0 (drop 2 zs) ∷ receptions (drop 2 zs))
at_sign [] e = absurd (false≢true e)
at_sign (x ∷ []) e = absurd (false≢true e)
at_sign (x ∷ y ∷ rest) e = (
  omega arith,
  cond-true (sign_here (x ∷ y ∷ rest)) _ _ e
      ∙ ap (λ rs. reception_from 0 rest ∷ rs) (second y rest (eqb-true y 0xCC (and_parts (eqb x 0xF0) (eqb y 0xCC) e).1)),
)

found_at : (xs : List ℕ) (i : ℕ) → sign_here (drop i xs) ≡ true →
    (i + 2 ≤ length xs) × (receptions (drop i xs) ≡ reception_from 0 (drop (i + 2) xs) ∷ receptions (drop (i + 2) xs))
found_at xs i e =
    let a = at_sign (drop i xs) e in
    (omega (arith, a.0, length-drop i xs), a.1 ∙ ap (λ r. reception_from 0 r ∷ receptions r) (drop-drop 2 i xs))

-- where no sign starts, the search goes on
no_sign : (x : ℕ) (rest : List ℕ) → sign_here (x ∷ rest) ≡ false → receptions (x ∷ rest) ≡ receptions rest
no_sign x rest e = cond-false (sign_here (x ∷ rest)) _ _ e

passed : (xs : List ℕ) (i : ℕ) → sign_here (drop i xs) ≡ false → receptions (drop i xs) ≡ receptions (drop (i + 1) xs)
passed xs i e = ⊎_elim
    (λ l. let d = drop_more xs i 0 l in ap receptions d ∙ no_sign (get_or xs i 0) (drop (i + 1) xs) (sym (ap sign_here d) ∙ e))
    (λ l. ap receptions (drop_all i xs l ∙ sym (drop_all (i + 1) xs (omega arith))))
    (cases_lt i (length xs))

pub starts : (xs : List ℕ) (i : ℕ) (b : Bool) → b ≡ sign_here (drop i xs) → StartsInStep in_octets xs i (then_some b (i + 2))
starts xs i true e = found_at xs i (sym e)
starts xs i false e = passed xs i (sym e)
