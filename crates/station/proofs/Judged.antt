-- What the checks of a reception's octets come to, one after the other. Assumes nothing.
use Rattle.std.proofs.Common.{◌≡◌, ℕ, ◌≤◌, Bool, true, false, ◌&&◌, eqb, List, length, take, drop, Ok, Err, Result, sym, refl, ap, ◌∙◌, arith}
use Rattle.std.proofs.lemmas.Bool.{and_from, le-leb, eq-eqb}
use Rattle.refusal.specs.declared.Refusal.{Refusal}
use Rattle.refusal.specs.declared.Refusal.TheVariants.{Spoiled as Spoilt, Count, Pad}
use Rattle.radio.specs.declared.symbol.Symbol.{Symbol}
use Rattle.radio.specs.Reception.{Reception}
use Rattle.message.specs.Message.{within}
use Rattle.station.specs.Judging.{require, then_check, few_spoiled, number, blank, mended, summed, fields_checked, judged, collected, believed}
use Rattle.station.specs.Nearness.{rounded}

-- a check that passed
pub passes : {A : Type 0} (b : Bool) (e : Refusal) (r : Result A Refusal) (x : A) → Ok x ≡ require b e r → b ≡ true
passes true e r x q = refl
passes false e r x q = let z : ◌≡◌ {A = ℕ} 0 1 = cc in absurd (omega arith)

pub goes_on : {A : Type 0} (b : Bool) (e : Refusal) (r : Result A Refusal) (x : A) → Ok x ≡ require b e r → Ok x ≡ r
goes_on true e r x q = q
goes_on false e r x q = let z : ◌≡◌ {A = ℕ} 0 1 = cc in absurd (omega arith)

-- the checks up to the padding
module _ (u : ℕ) (ss : List Symbol) (n : ℕ) (is : n ≡ number ss) (few : few_spoiled ss ≡ true) (least : 6 ≤ n) (most : n ≤ 74) (round : rounded u n ≡ length ss) where
  counts : (within 6 74 n && eqb (rounded u n) (length ss)) ≡ true
  counts = and_from (within 6 74 n) (eqb (rounded u n) (length ss)) (and_from _ _ (le-leb 6 n least) (le-leb n 74 most)) (eq-eqb (rounded u n) (length ss) round)

  pub all_blank : blank (drop n ss) ≡ true → summed u ss ≡ mended (take n ss)
  all_blank e =
      ap (λ c. require c Spoilt (require (within 6 74 (number ss) && eqb (rounded u (number ss)) (length ss)) Count (require (blank (drop (number ss) ss)) Pad (mended (take (number ss) ss))))) few
      ∙ ap (λ k. require (within 6 74 k && eqb (rounded u k) (length ss)) Count (require (blank (drop k ss)) Pad (mended (take k ss)))) (sym is)
      ∙ ap (λ c. require c Count (require (blank (drop n ss)) Pad (mended (take n ss)))) counts
      ∙ ap (λ c. require c Pad (mended (take n ss))) e

-- a reception that was collected
module _ (u : ℕ) (p : Reception) (ss : List Symbol) (got : collected p ≡ Ok ss) where
  pub not_summed : (e : Refusal) → summed u ss ≡ Err e → believed u p ≡ Err e
  not_summed e h = ap (λ z. then_check z (judged u)) got ∙ ap (λ z. then_check z fields_checked) h

  pub is_summed : (m : List ℕ) → summed u ss ≡ Ok m → believed u p ≡ fields_checked m
  is_summed m h = ap (λ z. then_check z (judged u)) got ∙ ap (λ z. then_check z fields_checked) h
