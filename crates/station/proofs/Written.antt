-- Symbols that are as written, and how many of them are spoiled. Assumes nothing.
use Rattle.std.proofs.Common.{◌≡◌, ℕ, zero, suc, Bool, true, ◌&&◌, eqb, List, [], ◌∷◌, ◌++◌, map, length, take, drop, set, replicate, sym, refl, ap, ◌∙◌, one-add}
use borrow.Author.Tests.{clash}
use Rattle.std.proofs.lemmas.Bool.{and_parts, eqb-true, eq-eqb}
use Rattle.radio.specs.declared.symbol.Symbol.{Symbol}
use Rattle.radio.specs.declared.symbol.Symbol.TheVariants.{Clean, Spoiled}
use Rattle.radio.specs.Reception.{mark, any_octet, AllAsWritten}
use Rattle.station.specs.Nearness.{NoneMarked, OneAtMost, Few}
use Rattle.station.specs.Judging.{filled, spoiled_place, all_clean, one_spoiled, few_spoiled, number, blank}

abbrev pub Agree : List Symbol → List ℕ → Type 0
Agree ss ws = AllAsWritten any_octet ss ws

abbrev pub spoils : List Symbol → List Bool
spoils ss = map (mark any_octet) ss

-- the test and the words for few spoiled octets say the same
none_marked : (ss : List Symbol) → all_clean ss ≡ true → NoneMarked (spoils ss)
none_marked [] e = tt
none_marked (Clean v ∷ ss) e = (refl, none_marked ss e)
none_marked (Spoiled ∷ ss) e = absurd (clash e)

one_marked : (ss : List Symbol) → one_spoiled ss ≡ true → OneAtMost (spoils ss)
one_marked [] e = tt
one_marked (Clean v ∷ ss) e = one_marked ss e
one_marked (Spoiled ∷ ss) e = none_marked ss e

pub few_marked : (ss : List Symbol) → few_spoiled ss ≡ true → Few (spoils ss)
few_marked [] e = tt
few_marked (Clean v ∷ ss) e = (refl, one_marked ss e)
few_marked (Spoiled ∷ ss) e = absurd (clash e)

marked_none : (ss : List Symbol) → NoneMarked (spoils ss) → all_clean ss ≡ true
marked_none [] h = refl
marked_none (Clean v ∷ ss) h = marked_none ss h.1
marked_none (Spoiled ∷ ss) h = absurd (clash (sym h.0))

marked_one : (ss : List Symbol) → OneAtMost (spoils ss) → one_spoiled ss ≡ true
marked_one [] h = refl
marked_one (Clean v ∷ ss) h = marked_one ss h
marked_one (Spoiled ∷ ss) h = marked_none ss h

pub marked_few : (ss : List Symbol) → Few (spoils ss) → few_spoiled ss ≡ true
marked_few [] h = refl
marked_few (Clean v ∷ ss) h = marked_one ss h.1
marked_few (Spoiled ∷ ss) h = absurd (clash (sym h.0))

-- agreement, part by part
pub agree_take : (n : ℕ) (ss : List Symbol) (ws : List ℕ) → Agree ss ws → Agree (take n ss) (take n ws)
agree_take zero ss ws a = tt
agree_take (suc n) [] [] a = tt
agree_take (suc n) [] (w ∷ ws) a = absurd a
agree_take (suc n) (s ∷ ss) [] a = absurd a
agree_take (suc n) (s ∷ ss) (w ∷ ws) a = (a.0, agree_take n ss ws a.1)

pub agree_drop : (n : ℕ) (ss : List Symbol) (ws : List ℕ) → Agree ss ws → Agree (drop n ss) (drop n ws)
agree_drop zero ss ws a = a
agree_drop (suc n) [] [] a = tt
agree_drop (suc n) [] (w ∷ ws) a = absurd a
agree_drop (suc n) (s ∷ ss) [] a = absurd a
agree_drop (suc n) (s ∷ ss) (w ∷ ws) a = agree_drop n ss ws a.1

-- symbols agree with their own values
pub agree_filled : (v : ℕ) (ss : List Symbol) → Agree ss (filled v ss)
agree_filled v [] = tt
agree_filled v (Clean x ∷ ss) = (λ _. refl, agree_filled v ss)
agree_filled v (Spoiled ∷ ss) = (tt, agree_filled v ss)

-- and with zeros if they are blank
pub agree_zeros : (ss : List Symbol) → blank ss ≡ true → Agree ss (replicate (length ss) 0)
agree_zeros [] e = tt
agree_zeros (Clean x ∷ ss) e = let p = and_parts (eqb x 0) (blank ss) e in (λ _. eqb-true x 0 p.0, agree_zeros ss p.1)
agree_zeros (Spoiled ∷ ss) e = (tt, agree_zeros ss e)

pub zeros_agree : (k : ℕ) (ss : List Symbol) → Agree ss (replicate k 0) → blank ss ≡ true
zeros_agree k [] a = refl
zeros_agree zero (s ∷ ss) a = absurd a
zeros_agree (suc k) (Clean x ∷ ss) a = ap (λ b. b && blank ss) (eq-eqb x 0 (a.0 refl)) ∙ zeros_agree k ss a.1
zeros_agree (suc k) (Spoiled ∷ ss) a = zeros_agree k ss a.1

-- the values of symbols that agree with ws, one of them spoiled at most
values_clean : (v : ℕ) (ss : List Symbol) (ws : List ℕ) → Agree ss ws → all_clean ss ≡ true → filled v ss ≡ ws
values_clean v [] [] a e = refl
values_clean v [] (w ∷ ws) a e = absurd a
values_clean v (s ∷ ss) [] a e = absurd a
values_clean v (Clean x ∷ ss) (w ∷ ws) a e = let h = a.0 refl in let t = values_clean v ss ws a.1 e in cc
values_clean v (Spoiled ∷ ss) (w ∷ ws) a e = absurd (clash e)

pub values : (v : ℕ) (ss : List Symbol) (ws : List ℕ) → Agree ss ws → one_spoiled ss ≡ true → filled v ss ≡ set ws (spoiled_place ss) v
values v [] [] a e = refl
values v [] (w ∷ ws) a e = absurd a
values v (s ∷ ss) [] a e = absurd a
values v (Clean x ∷ ss) (w ∷ ws) a e =
    ap (λ y. y ∷ filled v ss) (a.0 refl) ∙ ap (λ l. w ∷ l) (values v ss ws a.1 e) ∙ ap (λ n. set (w ∷ ws) n v) (sym (one-add (spoiled_place ss)))
values v (Spoiled ∷ ss) (w ∷ ws) a e = ap (λ l. v ∷ l) (values_clean v ss ws a.1 e)

-- the first symbol is clean, and is the first octet
pub first_agrees : (ss : List Symbol) (w : ℕ) (ws : List ℕ) → Agree ss (w ∷ ws) → few_spoiled ss ≡ true → number ss ≡ w
first_agrees [] w ws a e = absurd a
first_agrees (Clean x ∷ ss) w ws a e = a.0 refl
first_agrees (Spoiled ∷ ss) w ws a e = absurd (clash e)
