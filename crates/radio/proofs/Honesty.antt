-- The induction over piles.
use Rattle.std.proofs.Common.{◌≡◌, ℕ, suc, ◌≤◌, Bool, true, false, not, List, [], ◌∷◌, ◌++◌, map, length, sym, refl, ap, ◌∙◌, subst, arith}
use Rattle.radio.specs.declared.symbol.Symbol.{Symbol}
use Rattle.radio.specs.declared.symbol.Symbol.TheVariants.{Clean, Spoiled}
use Rattle.radio.specs.Reception.{Reception, Honest, mark, marks, any_octet, clean, AllAsWritten}
use Rattle.radio.specs.Layer.{Layer, Pile, Fit, Multiple, Octets, AllMay, unit_of, cost_of, sent_through, read_through, rule_of, may_of}
use Rattle.radio.specs.Piles.{KeepsTheLaws}

-- what is honest with every octet allowed is honest under a layer that may write fewer
narrower : (may : ℕ → Bool) (ss : List Symbol) (ws : List ℕ) → AllAsWritten any_octet ss ws → AllAsWritten may ss ws
narrower may [] [] h = tt
narrower may [] (w ∷ ws) h = h
narrower may (s ∷ ss) [] h = h
narrower may (Clean v ∷ ss) (w ∷ ws) h = (λ _. h.0 refl, narrower may ss ws h.1)
narrower may (Spoiled ∷ ss) (w ∷ ws) h = (tt, narrower may ss ws h.1)

-- and where all that was written may be written, the marks are the same
same_mark : (may : ℕ → Bool) (v w : ℕ) → may w ≡ true → v ≡ w → mark may (Clean v) ≡ false
same_mark may v w m e = ap not (ap may e ∙ m)

same_marks : (may : ℕ → Bool) (ss : List Symbol) (ws : List ℕ) → AllMay may ws → AllAsWritten any_octet ss ws → map (mark may) ss ≡ map (mark any_octet) ss
same_marks may [] [] a h = refl
same_marks may [] (w ∷ ws) a h = absurd h
same_marks may (s ∷ ss) [] a h = absurd h
same_marks may (Clean v ∷ ss) (w ∷ ws) a h = let e = same_mark may v w a.0 (h.0 refl) in let t = same_marks may ss ws a.1 h.1 in cc
same_marks may (Spoiled ∷ ss) (w ∷ ws) a h = ap (λ l. true ∷ l) (same_marks may ss ws a.1 h.1)

any_all : (xs : List ℕ) → AllMay any_octet xs
any_all [] = tt
any_all (x ∷ xs) = (refl, any_all xs)

-- a pile of none
none : KeepsTheLaws []
none = record {
  positive = λ u h. h;
  fixed = λ u xs h f. (refl, f.even);
  no_less = λ n. omega arith;
  written = λ u xs h f. (f.octets, any_all xs);
  returns = λ u xs h f. refl;
  honest = λ u xs r h f g. g;
  marked = λ u xs r h f g. refl;
}

-- a pile of one
one : (l : Layer) → KeepsTheLaws (l ∷ [])
one l = record {
  positive = λ u h. l.laws.positive u h;
  fixed = λ u xs h f. l.laws.fixed u xs h (record { octets = f.octets; even = f.even });
  no_less = λ n. l.laws.no_less n;
  written = λ u xs h f. l.laws.written u xs h (record { octets = f.octets; even = f.even });
  returns = λ u xs h f. l.laws.returns u xs h (record { octets = f.octets; even = f.even });
  honest = λ u xs r h f g. l.laws.honest u xs r h (record { octets = f.octets; even = f.even }) g;
  marked = λ u xs r h f g. l.laws.marked u xs r h (record { octets = f.octets; even = f.even }) g;
}

-- a layer over a pile of at least one that keeps the laws
module _ (l k : Layer) (ls : Pile) (below : KeepsTheLaws (k ∷ ls)) (u : ℕ) (xs : List ℕ) (p : 1 ≤ u) (f : Fit (unit_of (l ∷ k ∷ ls)) u xs) where
  fit : Fit l.unit (unit_of (k ∷ ls) u) xs
  fit = record { octets = f.octets; even = f.even }

  count : (length (l.encode xs) ≡ l.count (length xs)) × Multiple (unit_of (k ∷ ls) u) (l.count (length xs))
  count = l.laws.fixed (unit_of (k ∷ ls) u) xs (below.positive u p) fit

  wrote : Octets (l.encode xs) × AllMay l.may (l.encode xs)
  wrote = l.laws.written (unit_of (k ∷ ls) u) xs (below.positive u p) fit

  fit_below : Fit (unit_of (k ∷ ls)) u (l.encode xs)
  fit_below = record { octets = wrote.0; even = subst (Multiple (unit_of (k ∷ ls) u)) (sym count.0) count.1 }

  fixed_over : (length (sent_through (k ∷ ls) (l.encode xs)) ≡ cost_of (k ∷ ls) (l.count (length xs))) × Multiple u (cost_of (k ∷ ls) (l.count (length xs)))
  fixed_over =
      let at : ℕ → Type 0 = λ n. (length (sent_through (k ∷ ls) (l.encode xs)) ≡ cost_of (k ∷ ls) n) × Multiple u (cost_of (k ∷ ls) n) in
      subst at count.0 (below.fixed u (l.encode xs) p fit_below)

  returns_over : l.decode (read_through (k ∷ ls) (clean (sent_through (k ∷ ls) (l.encode xs)))) ≡ clean xs
  returns_over = ap l.decode (below.returns u (l.encode xs) p fit_below) ∙ l.laws.returns (unit_of (k ∷ ls) u) xs (below.positive u p) fit

  module _ (r : Reception) (h : Honest (may_of (k ∷ ls)) (sent_through (k ∷ ls) (l.encode xs)) r) where
    heard : Honest any_octet (l.encode xs) (read_through (k ∷ ls) r)
    heard = below.honest u (l.encode xs) r p fit_below h

    narrow : Honest l.may (l.encode xs) (read_through (k ∷ ls) r)
    narrow = record { ended = heard.ended; agrees = narrower l.may (read_through (k ∷ ls) r).symbols (l.encode xs) heard.agrees }

    honest_over : Honest any_octet xs (l.decode (read_through (k ∷ ls) r))
    honest_over = l.laws.honest (unit_of (k ∷ ls) u) xs (read_through (k ∷ ls) r) (below.positive u p) fit narrow

    marked_over : marks any_octet (l.decode (read_through (k ∷ ls) r)) ≡ l.rule (rule_of (k ∷ ls) (marks (may_of (k ∷ ls)) r))
    marked_over =
        l.laws.marked (unit_of (k ∷ ls) u) xs (read_through (k ∷ ls) r) (below.positive u p) fit narrow
        ∙ ap l.rule (same_marks l.may (read_through (k ∷ ls) r).symbols (l.encode xs) wrote.1 heard.agrees ∙ below.marked u (l.encode xs) r p fit_below h)

over : (l k : Layer) (ls : Pile) → KeepsTheLaws (k ∷ ls) → KeepsTheLaws (l ∷ k ∷ ls)
over l k ls below = record {
  positive = λ u h. l.laws.positive (unit_of (k ∷ ls) u) (below.positive u h);
  fixed = λ u xs h f. fixed_over l k ls below u xs h f;
  no_less = λ n. omega (arith, l.laws.no_less n, below.no_less (l.count n));
  written = λ u xs h f. below.written u (l.encode xs) h (fit_below l k ls below u xs h f);
  returns = λ u xs h f. returns_over l k ls below u xs h f;
  honest = λ u xs r h f g. honest_over l k ls below u xs h f r g;
  marked = λ u xs r h f g. marked_over l k ls below u xs h f r g;
}

pub every_pile : (pile : Pile) → KeepsTheLaws pile
every_pile [] = none
every_pile (l ∷ []) = one l
every_pile (l ∷ k ∷ ls) = over l k ls (every_pile (k ∷ ls))

-- as many symbols as octets were written, and those of two parts one behind the other
pub written_length : (may : ℕ → Bool) (ss : List Symbol) (ws : List ℕ) → AllAsWritten may ss ws → length ss ≡ length ws
written_length may [] [] a = refl
written_length may [] (w ∷ ws) a = absurd a
written_length may (s ∷ ss) [] a = absurd a
written_length may (s ∷ ss) (w ∷ ws) a = ap suc (written_length may ss ws a.1)

pub written_append : (may : ℕ → Bool) (ss ts : List Symbol) (ws vs : List ℕ) → AllAsWritten may ss ws → AllAsWritten may ts vs → AllAsWritten may (ss ++ ts) (ws ++ vs)
written_append may [] ts [] vs a b = b
written_append may [] ts (w ∷ ws) vs a b = absurd a
written_append may (s ∷ ss) ts [] vs a b = absurd a
written_append may (s ∷ ss) ts (w ∷ ws) vs a b = (a.0, written_append may ss ts ws vs a.1 b)
