-- The block coding keeps the laws of a group. Assumes nothing.
use Rattle.std.specs.Prelude.{◌≡◌, ℕ, ◌<◌, Bool, true, false, cond, List, [], ◌∷◌, map, length, ◌==◌, refl}
use Rattle.std.proofs.Common.{sym, ap, subst, arith, lit≤, eq-eqb}
use Rattle.radio.specs.declared.symbol.Symbol.{Symbol}
use Rattle.radio.specs.declared.symbol.Symbol.TheVariants.{Clean, Spoiled}
use Rattle.radio.specs.Reception.{mark, any_octet, AllAsWritten}
use Rattle.radio.specs.Layer.{Octets, AllMay}
use Rattle.coding.specs.Grouping.{Grouping}
use Rattle.coding.specs.Block.{sum_of, code_of, three, four_of, read_of, marks_of, rule_for}

module _ (x y z : ℕ) (p : x < 256) (q : y < 256) (r : z < 256) where
  sum_right : (a b c d : ℕ) → a ≡ x → b ≡ y → c ≡ z → d ≡ sum_of x y z → (sum_of a b c == d) ≡ true
  sum_right a b c d f g h i = eq-eqb (sum_of a b c) d (omega arith)

  honest_four : (a b c d : Symbol) → AllAsWritten any_octet (a ∷ b ∷ c ∷ d ∷ []) (code_of (three x y z)) → AllAsWritten any_octet (four_of a b c d) (three x y z)
  honest_four (Clean a) (Clean b) (Clean c) (Clean d) h =
      subst (λ (t : Bool). AllAsWritten any_octet (cond t (three (Clean a) (Clean b) (Clean c)) (three Spoiled Spoiled Spoiled)) (three x y z))
      (sym (sum_right a b c d (h.0 refl) (h.1.0 refl) (h.1.1.0 refl) (h.1.1.1.0 refl)))
      (h.0, (h.1.0, (h.1.1.0, tt)))
  honest_four Spoiled (Clean b) (Clean c) (Clean d) h =
      let f = h.1.0 refl in let g = h.1.1.0 refl in let i = h.1.1.1.0 refl in
      ((λ _. omega arith), (h.1.0, (h.1.1.0, tt)))
  honest_four (Clean a) Spoiled (Clean c) (Clean d) h =
      let f = h.0 refl in let g = h.1.1.0 refl in let i = h.1.1.1.0 refl in
      (h.0, ((λ _. omega arith), (h.1.1.0, tt)))
  honest_four (Clean a) (Clean b) Spoiled (Clean d) h =
      let f = h.0 refl in let g = h.1.0 refl in let i = h.1.1.1.0 refl in
      (h.0, (h.1.0, ((λ _. omega arith), tt)))
  honest_four Spoiled Spoiled c (Clean d) h = (tt, (tt, (h.1.1.0, tt)))
  honest_four Spoiled (Clean b) Spoiled (Clean d) h = (tt, (h.1.0, (tt, tt)))
  honest_four (Clean a) Spoiled Spoiled (Clean d) h = (h.0, (tt, (tt, tt)))
  honest_four a b c Spoiled h = (h.0, (h.1.0, (h.1.1.0, tt)))

  marked_four : (a b c d : Symbol) → AllAsWritten any_octet (a ∷ b ∷ c ∷ d ∷ []) (code_of (three x y z)) →
      map (mark any_octet) (four_of a b c d) ≡ marks_of (mark any_octet a) (mark any_octet b) (mark any_octet c) (mark any_octet d)
  marked_four (Clean a) (Clean b) (Clean c) (Clean d) h =
      ap (λ t. map (mark any_octet) (cond t (three (Clean a) (Clean b) (Clean c)) (three Spoiled Spoiled Spoiled)))
      (sum_right a b c d (h.0 refl) (h.1.0 refl) (h.1.1.0 refl) (h.1.1.1.0 refl))
  marked_four Spoiled (Clean b) (Clean c) (Clean d) h = refl
  marked_four (Clean a) Spoiled (Clean c) (Clean d) h = refl
  marked_four (Clean a) (Clean b) Spoiled (Clean d) h = refl
  marked_four Spoiled Spoiled c (Clean d) h = refl
  marked_four Spoiled (Clean b) Spoiled (Clean d) h = refl
  marked_four (Clean a) Spoiled Spoiled (Clean d) h = refl
  marked_four a b c Spoiled h = refl

pub three_of : (P : List ℕ → Type 0) → ((x y z : ℕ) → P (three x y z)) → (g : List ℕ) → length g ≡ 3 → P g
three_of P f [] e = absurd (omega arith)
three_of P f (x ∷ []) e = absurd (omega arith)
three_of P f (x ∷ y ∷ []) e = absurd (omega arith)
three_of P f (x ∷ y ∷ z ∷ []) e = f x y z
three_of P f (x ∷ y ∷ z ∷ w ∷ g) e = absurd (omega arith)

pub honest_group : (x y z : ℕ) (ss : List Symbol) → Octets (three x y z) → AllAsWritten any_octet ss (code_of (three x y z)) → AllAsWritten any_octet (read_of ss) (three x y z)
honest_group x y z [] o h = absurd h
honest_group x y z (a ∷ []) o h = absurd h.1
honest_group x y z (a ∷ b ∷ []) o h = absurd h.1.1
honest_group x y z (a ∷ b ∷ c ∷ []) o h = absurd h.1.1.1
honest_group x y z (a ∷ b ∷ c ∷ d ∷ []) o h = honest_four x y z o.0 o.1.0 o.1.1.0 a b c d h
honest_group x y z (a ∷ b ∷ c ∷ d ∷ e ∷ ss) o h = absurd h.1.1.1.1

pub marked_group : (x y z : ℕ) (ss : List Symbol) → Octets (three x y z) → AllAsWritten any_octet ss (code_of (three x y z)) → map (mark any_octet) (read_of ss) ≡ rule_for (map (mark any_octet) ss)
marked_group x y z [] o h = absurd h
marked_group x y z (a ∷ []) o h = absurd h.1
marked_group x y z (a ∷ b ∷ []) o h = absurd h.1.1
marked_group x y z (a ∷ b ∷ c ∷ []) o h = absurd h.1.1.1
marked_group x y z (a ∷ b ∷ c ∷ d ∷ []) o h = marked_four x y z o.0 o.1.0 o.1.1.0 a b c d h
marked_group x y z (a ∷ b ∷ c ∷ d ∷ e ∷ ss) o h = absurd h.1.1.1.1

four_long : (a b c d : Symbol) → length (four_of a b c d) ≡ 3
four_long (Clean a) (Clean b) (Clean c) (Clean d) = either (sum_of a b c == d)
  where
    either : (t : Bool) → length (cond t (three (Clean a) (Clean b) (Clean c)) (three Spoiled Spoiled Spoiled)) ≡ 3
    either true = refl
    either false = refl
four_long Spoiled (Clean b) (Clean c) (Clean d) = refl
four_long (Clean a) Spoiled (Clean c) (Clean d) = refl
four_long (Clean a) (Clean b) Spoiled (Clean d) = refl
four_long Spoiled Spoiled c (Clean d) = refl
four_long Spoiled (Clean b) Spoiled (Clean d) = refl
four_long (Clean a) Spoiled Spoiled (Clean d) = refl
four_long a b c Spoiled = refl

pub read_long : (ss : List Symbol) → length ss ≡ 4 → length (read_of ss) ≡ 3
read_long [] e = absurd (omega arith)
read_long (a ∷ []) e = absurd (omega arith)
read_long (a ∷ b ∷ []) e = absurd (omega arith)
read_long (a ∷ b ∷ c ∷ []) e = absurd (omega arith)
read_long (a ∷ b ∷ c ∷ d ∷ ss) e = four_long a b c d

pub sum_octet : (a b c : ℕ) → sum_of a b c < 256
sum_octet a b c = omega arith

pub clean_returns : (x y z : ℕ) → read_of (map Clean (code_of (three x y z))) ≡ map Clean (three x y z)
clean_returns x y z = ap (λ t. cond t (three (Clean x) (Clean y) (Clean z)) (three Spoiled Spoiled Spoiled)) (eq-eqb (sum_of x y z) (sum_of x y z) refl)

abbrev pub block : Grouping
block = record {
  plain = 3;
  coded = 4;
  code = code_of;
  read = read_of;
  may = any_octet;
  rule = rule_for;
  some = lit≤ tt;
  no_less = lit≤ tt;
  few = lit≤ tt;
  code_length = three_of (λ g. length (code_of g) ≡ 4) (λ x y z. refl);
  read_length = read_long;
  written = three_of (λ g. Octets g → Octets (code_of g) × AllMay any_octet (code_of g)) (λ x y z o.
      ((o.0, (o.1.0, (o.1.1.0, (sum_octet x y z, tt)))), (refl, (refl, (refl, (refl, tt))))));
  returns = three_of (λ g. Octets g → read_of (map Clean (code_of g)) ≡ map Clean g) (λ x y z o. clean_returns x y z);
  honest = λ g ss. three_of (λ h. Octets h → AllAsWritten any_octet ss (code_of h) → AllAsWritten any_octet (read_of ss) h) (λ x y z. honest_group x y z ss) g;
  marked = λ g ss. three_of (λ h. Octets h → AllAsWritten any_octet ss (code_of h) → map (mark any_octet) (read_of ss) ≡ rule_for (map (mark any_octet) ss)) (λ x y z. marked_group x y z ss) g;
}
