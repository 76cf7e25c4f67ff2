-- What a take from a line shows of its present reception. Assumes nothing.
use Rattle.std.proofs.Common.{◌≡◌, ℕ, ◌+◌, ◌<◌, ◌≤◌, List, [], ◌∷◌, ◌++◌, length, get_or, take, drop, set, Some, None, Ok, Err, sym, refl, ap, ◌∙◌, add-zero, arith, length-drop}
use Rattle.std.proofs.lemmas.List.{get_or-drop, drop-drop, take_more, take_more_set, take_all, drop_all}
use Rattle.refusal.specs.declared.Fault.{Fault}
use Rattle.radio.specs.declared.symbol.Symbol.{Symbol}
use Rattle.radio.specs.Reception.{Ending, whole, fault}
use Rattle.radio.specs.Lines.{Heard, ended, first, next, taken, tail, past}

end_not_some : (e : Ending) (s : Symbol) → Ok (Some s) ≡ ended e → ⊥
end_not_some whole s q = cc
end_not_some (fault f) s q = cc

first_some : (ss : List Symbol) (e : Ending) (s : Symbol) → Ok (Some s) ≡ first ss e → ss ≡ s ∷ tail ss
first_some [] e s q = absurd (end_not_some e s q)
first_some (x ∷ ss) e s q = let k : x ≡ s = cc in ap (λ y. y ∷ ss) k

first_none : (ss : List Symbol) (e : Ending) → Ok None ≡ first ss e → (ss ≡ []) × (e ≡ whole)
first_none [] whole q = (refl, refl)
first_none [] (fault f) q = cc
first_none (x ∷ ss) e q = cc

first_fault : (ss : List Symbol) (e : Ending) (f : Fault) → Err f ≡ first ss e → (ss ≡ []) × (e ≡ fault f)
first_fault [] whole f q = cc
first_fault [] (fault f₀) f q = let k : f₀ ≡ f = cc in (refl, ap fault k)
first_fault (x ∷ ss) e f q = cc

with_symbols : Heard → List Symbol → Heard
with_symbols h ss = record { present = record { symbols = ss; ending = h.present.ending }; coming = h.coming; pile = h.pile; air = h.air; ground_unit = h.ground_unit }

-- the line q is h with i symbols taken, and another is taken from it
module _ (i : ℕ) (h q : Heard) (e : q ≡ past i h) where
  tail_drop : tail (drop i h.present.symbols) ≡ drop (i + 1) h.present.symbols
  tail_drop = is_drop (drop i h.present.symbols) ∙ drop-drop 1 i h.present.symbols
    where
      is_drop : (ys : List Symbol) → tail ys ≡ drop 1 ys
      is_drop [] = refl
      is_drop (y ∷ ys) = refl

  taken_past : taken q ≡ past (i + 1) h
  unfolding with_symbols
  taken_past = ap taken e ∙ ap (with_symbols h) tail_drop

  dropped : q.present.symbols ≡ drop i h.present.symbols
  dropped = ap (λ z. z.present.symbols) e

  -- one more symbol was there
  pub more_next : (s : Symbol) → Ok (Some s) ≡ next q.present → (i + 1 ≤ length h.present.symbols) × (taken q ≡ past (i + 1) h)
  more_next s o =
      let ss = h.present.symbols in
      let d : drop i ss ≡ s ∷ tail q.present.symbols = sym dropped ∙ first_some q.present.symbols q.present.ending s o in
      (omega (arith, length-drop i ss, ap length d), taken_past)

  pub some_next : (s : Symbol) (g : List Symbol) → take i g ≡ take i h.present.symbols → i < length g → Ok (Some s) ≡ next q.present →
      (i + 1 ≤ length h.present.symbols) × (take (i + 1) (set g i s) ≡ take (i + 1) h.present.symbols) × (taken q ≡ past (i + 1) h)
  some_next s g t l o =
      let ss = h.present.symbols in
      let d : drop i ss ≡ s ∷ tail q.present.symbols = sym dropped ∙ first_some q.present.symbols q.present.ending s o in
      let n : i < length ss = omega (arith, length-drop i ss, ap length d) in
      let a : get_or ss i s ≡ s = ap (λ k. get_or ss k s) (sym (add-zero i)) ∙ sym (get_or-drop i ss 0 s) ∙ ap (λ l. get_or l 0 s) d in
      (omega arith, take_more_set g i s l ∙ ap (λ z. z ++ s ∷ []) t ∙ ap (λ y. take i ss ++ y ∷ []) (sym a) ∙ sym (take_more ss i s n), taken_past)

  ended_next : (n : ℕ) → i ≤ n → q.present.symbols ≡ [] →
      (length h.present.symbols ≤ i) × (take i h.present.symbols ≡ take n h.present.symbols) × (taken q ≡ past n h)
  unfolding with_symbols
  ended_next n l o =
      let ss = h.present.symbols in
      let a : length ss ≤ i = omega (arith, length-drop i ss, ap length (sym dropped ∙ o)) in
      let b : length ss ≤ n = omega arith in
      let d : length ss ≤ i + 1 = omega arith in
      (a, take_all i ss a ∙ sym (take_all n ss b), taken_past ∙ ap (with_symbols h) (drop_all (i + 1) ss d ∙ sym (drop_all n ss b)))

  pub none_next : (n : ℕ) → i ≤ n → Ok None ≡ next q.present →
      (length h.present.symbols ≤ i) × (h.present.ending ≡ whole) × (take i h.present.symbols ≡ take n h.present.symbols) × (taken q ≡ past n h)
  none_next n l o =
      let f = first_none q.present.symbols q.present.ending o in
      let a = ended_next n l f.0 in
      (a.0, sym (ap (λ z. z.present.ending) e) ∙ f.1, a.1, a.2)

  pub fault_next : (n : ℕ) (f : Fault) → i ≤ n → Err f ≡ next q.present → (length h.present.symbols ≤ i) × (h.present.ending ≡ fault f) × (taken q ≡ past n h)
  fault_next n f l o =
      let k = first_fault q.present.symbols q.present.ending f o in
      let a = ended_next n l k.0 in
      (a.0, sym (ap (λ z. z.present.ending) e) ∙ k.1, a.2)
