-- What is collected of a reception. Assumes nothing.
use Rattle.std.proofs.Common.{◌≡◌, ℕ, ◌+◌, ◌<◌, ◌≤◌, List, [], ◌∷◌, ◌++◌, length, take, set, Some, Ok, Err, sym, ap, ◌∙◌, arith}
use Rattle.std.proofs.lemmas.List.{length_push, take_at, take_all, set_at}
use Rattle.std.proofs.lemmas.Bool.{le-leb, lt-ltb}
use Rattle.refusal.specs.declared.Fault.{Fault}
use Rattle.refusal.specs.declared.Refusal.TheVariants.{Fault as Faulty, Extent}
use Rattle.radio.specs.declared.symbol.Symbol.{Symbol}
use Rattle.radio.specs.Reception.{Reception, whole, fault}
use Rattle.radio.specs.Lines.{Heard, next, taken, past}
use Rattle.radio.proofs.Taking.{some_next}
use Rattle.station.specs.Judging.{require, ended_whole, collected}

-- one symbol more was taken
pub taken_more : (i : ℕ) (h q : Heard) → q ≡ past i h → (s : Symbol) (xs : List Symbol) → length xs ≡ i → xs ≡ take i h.present.symbols → Ok (Some s) ≡ next q.present →
    (i + 1 ≤ length h.present.symbols) × (xs ++ s ∷ [] ≡ take (i + 1) h.present.symbols) × (taken q ≡ past (i + 1) h)
taken_more i h q e s xs l t o =
    let g = xs ++ s ∷ [] in
    let long : length g ≡ i + 1 = length_push xs s ∙ ap (λ k. k + 1) l in
    let n = some_next i h q e s g (take_at xs (s ∷ []) i l ∙ t) (omega arith) o in
    let same : set g i s ≡ g = set_at xs s [] s i l in
    (n.0, sym (take_all (i + 1) g (omega arith)) ∙ ap (take (i + 1)) (sym same) ∙ n.1, n.2)

module _ (p : Reception) (few : length p.symbols ≤ 96) where
  not_too_many : collected p ≡ ended_whole p.ending p.symbols
  not_too_many = ap (λ b. require b Extent (ended_whole p.ending p.symbols)) (le-leb (length p.symbols) 96 few)

  pub faulted : (f : Fault) → p.ending ≡ fault f → collected p ≡ Err (Faulty f)
  faulted f e = not_too_many ∙ ap (λ z. ended_whole z p.symbols) e

  pub some : p.ending ≡ whole → 0 < length p.symbols → collected p ≡ Ok p.symbols
  some e l = not_too_many ∙ ap (λ z. ended_whole z p.symbols) e ∙ ap (λ b. require b Extent (Ok p.symbols)) (lt-ltb 0 (length p.symbols) l)
