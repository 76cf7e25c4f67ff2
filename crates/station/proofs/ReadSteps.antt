-- What a read that opens a reception answers and leaves. Assumes nothing.
use Rattle.std.proofs.Common.{◌≡◌, ℕ, ◌<◌, ◌≤◌, ◌⊎◌, inl, inr, min, true, cond, leb, List, [], ◌∷◌, Ok, Err, sym, refl, ap, ◌∙◌, arith}
use Rattle.std.proofs.lemmas.Bool.{and_from, le-leb}
use Rattle.refusal.specs.declared.Refusal.{Refusal}
use Rattle.refusal.specs.declared.Refusal.TheVariants.{Short, Unit as UnitOver}
use Rattle.radio.specs.Reception.{Reception}
use Rattle.radio.specs.Lines.{Heard, Sound, unit, found, opening, opened, past}
use Rattle.radio.proofs.Honesty.{every_pile}
use Rattle.message.specs.Message.{kind, destination}
use Rattle.station.specs.declared.filters.Filters.{Filters}
use Rattle.station.specs.Judging.{require, then_check, believed, filtered, passed, received, of_coming, reading, listened, line_left}

-- a unit n is answered as `a`; the small unit made of that is n
pub unit_is : (n a u : ℕ) → a ≡ min n 65535 → (1 ≤ a) × (a ≤ 24) × (u ≡ a) → u ≡ n
unit_is n a u e p = omega (arith, p.1, p.2)

-- where no small unit is made of it, n is over 24
pub unit_wide : (n a : ℕ) → 1 ≤ n → a ≡ min n 65535 → (a ≡ 0) ⊎ (24 < a) → 24 < n
unit_wide n a some e w =
    elim w [
      | inl none ↦ absurd (omega (arith, some))
      | inr wide ↦ omega arith
    ]

pub unit_some : (h : Heard) → Sound h → 1 ≤ unit h
unit_some h s = (every_pile h.pile).positive h.ground_unit s.grounded

-- a read with room enough, at a unit up to 24, opens the line h to j
module _ (own : ℕ) (f : Filters) (strength room u : ℕ) (h j : Heard) (long : 66 ≤ room) (is : u ≡ unit h) (small : u ≤ 24) (some : Ok tt ≡ found h.coming) (opens : j ≡ opened h) where
  first_of : (cs : List Reception) → Ok tt ≡ found cs → of_coming own f strength (unit h) cs ≡ received own f strength (unit h) (opening h cs).present
  first_of [] e = let z : ◌≡◌ {A = ℕ} 0 1 = cc in absurd (omega arith)
  first_of (c ∷ cs) e = refl

  left_of : (cs : List Reception) → Ok tt ≡ found cs → listened h cs ≡ past 97 (opened h)
  left_of [] e = let z : ◌≡◌ {A = ℕ} 0 1 = cc in absurd (omega arith)
  left_of (c ∷ cs) e = refl

  fits : leb (unit h) 24 ≡ true
  fits = le-leb (unit h) 24 (omega arith)

  reading_is : reading own f strength room h ≡ received own f strength u j.present
  reading_is =
      ap (λ b. require b Short (require (leb (unit h) 24) UnitOver (of_coming own f strength (unit h) h.coming))) (le-leb 66 room long)
      ∙ ap (λ b. require b UnitOver (of_coming own f strength (unit h) h.coming)) fits
      ∙ first_of h.coming some
      ∙ ap (λ n. received own f strength n (opened h).present) (sym is)
      ∙ ap (λ z. received own f strength u z.present) (sym opens)

  pub line_is : (k : Heard) → k ≡ past 97 j → k ≡ line_left room h
  line_is k e =
      e
      ∙ ap (past 97) opens
      ∙ sym (ap (λ b. cond b (listened h h.coming) h) (and_from (leb 66 room) (leb (unit h) 24) (le-leb 66 room long) fits) ∙ left_of h.coming some)

  pub refused : (e : Refusal) → believed u j.present ≡ Err e → reading own f strength room h ≡ Err e
  refused e b = reading_is ∙ ap (λ z. then_check z (passed own f strength)) b

  module _ (m : List ℕ) (message : believed u j.present ≡ Ok m) where
    message_is : reading own f strength room h ≡ passed own f strength m
    message_is = reading_is ∙ ap (λ z. then_check z (passed own f strength)) message

    pub withheld : (e : Refusal) → Err e ≡ filtered own f strength (kind m) (destination m) → reading own f strength room h ≡ Err e
    withheld e w = message_is ∙ ap (λ z. then_check z (λ _. Ok m)) (sym w)

    pub accepted : Ok tt ≡ filtered own f strength (kind m) (destination m) → reading own f strength room h ≡ Ok m
    accepted w = message_is ∙ ap (λ z. then_check z (λ _. Ok m)) (sym w)
