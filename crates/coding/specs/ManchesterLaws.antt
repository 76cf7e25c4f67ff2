-- The Manchester coding keeps the laws of a group. Assumes nothing.
use Rattle.std.specs.Prelude.{◌≡◌, ℕ, zero, suc, ◌+◌, ◌*◌, ◌/◌, ◌%◌, ◌<◌, Bool, true, false, not, ◌&&◌, ◌||◌, ◌⊎◌, List, [], ◌∷◌, map, length, is_some, Some, None, Option, ◌==◌, nat_lt, slice_index, refl}
use Rattle.std.proofs.Common.{sym, ap, subst, ◌∙◌, inl, inr, arith, lit≤, eqb-true, ltb-true}
use Rattle.std.proofs.Math.Nat.{div-add-mod}
use Rattle.std.proofs.lemmas.Bool.{and_parts, eqb-false}
use Rattle.radio.specs.declared.symbol.Symbol.{Symbol}
use Rattle.radio.specs.declared.symbol.Symbol.TheVariants.{Clean, Spoiled}
use Rattle.radio.specs.Reception.{mark, any_octet, AsWritten, AllAsWritten}
use Rattle.radio.specs.Layer.{Octets, AllMay}
use Rattle.coding.specs.Grouping.{Grouping}
use Rattle.coding.specs.Manchester.{code_table, value_of, nibble_of, both, pair_of, code_of, read_of, is_code, rule_for}

-- a test at each number below n
every : ℕ → (ℕ → Bool) → Bool
every zero p = true
every (suc n) p = p n && every n p

apart_below : (k n : ℕ) → k < suc n → (k == n) ≡ false → k < n
apart_below k n l q = let d = eqb-false k n q in omega arith

at_or_below : (k n : ℕ) (p : ℕ → Bool) → k < suc n → p n ≡ true → (k < n → p k ≡ true) → (b : Bool) → (k == n) ≡ b → p k ≡ true
at_or_below k n p l e f true q = ap p (eqb-true k n q) ∙ e
at_or_below k n p l e f false q = f (apart_below k n l q)

every_at : (n : ℕ) (p : ℕ → Bool) → every n p ≡ true → (k : ℕ) → k < n → p k ≡ true
unfolding every
every_at zero p e k l = absurd (omega arith)
every_at (suc n) p e k l = let both = and_parts (p n) (every n p) e in at_or_below k n p l both.0 (every_at n p both.1 k) (k == n) refl

is_at : Option ℕ → ℕ → Bool
is_at None k = false
is_at (Some v) k = v == k

is_at_some : (o : Option ℕ) (k : ℕ) → is_at o k ≡ true → o ≡ Some k
unfolding is_at
is_at_some None k e = let z : ◌≡◌ {A = ℕ} 0 1 = cc in absurd (omega arith)
is_at_some (Some v) k e = ap Some (eqb-true v k e)

-- the table's rule: each entry is an octet, and stands for its place
sound : ℕ → Bool
sound k = nat_lt (slice_index code_table k) 256 && is_at (value_of (slice_index code_table k)) k

all_sound : every 16 sound ≡ true
unfolding every sound is_at
all_sound = refl

pub code_octet : (k : ℕ) → k < 16 → slice_index code_table k < 256
unfolding sound
code_octet k l = ltb-true (slice_index code_table k) 256 (and_parts (nat_lt (slice_index code_table k) 256) _ (every_at 16 sound all_sound k l)).0

pub code_value : (k : ℕ) → k < 16 → value_of (slice_index code_table k) ≡ Some k
unfolding sound
code_value k l = is_at_some (value_of (slice_index code_table k)) k (and_parts (nat_lt (slice_index code_table k) 256) _ (every_at 16 sound all_sound k l)).1

pub upper : (x : ℕ) → x < 256 → x / 16 < 16
upper x l = omega arith

pub lower : (x : ℕ) → x % 16 < 16
lower x = omega arith

again : (x : ℕ) → 16 * (x / 16) + x % 16 ≡ x
again x = div-add-mod x 16

pub one_of : (P : List ℕ → Type 0) → ((x : ℕ) → P (x ∷ [])) → (g : List ℕ) → length g ≡ 1 → P g
one_of P f [] e = absurd (omega arith)
one_of P f (x ∷ []) e = f x
one_of P f (x ∷ y ∷ g) e = absurd (omega arith)

pub both_some : (x : ℕ) → x < 256 → both (value_of (slice_index code_table (x / 16))) (value_of (slice_index code_table (x % 16))) ≡ Clean x
both_some x l =
    ap (λ o. both o (value_of (slice_index code_table (x % 16)))) (code_value (x / 16) (upper x l))
    ∙ ap (λ o. both (Some (x / 16)) o) (code_value (x % 16) (lower x))
    ∙ ap Clean (again x)

-- a symbol as written has no value, or that of what was written
valued_by : (v w : ℕ) (o : Option ℕ) → value_of v ≡ o → (is_some o ≡ true → v ≡ w) → (value_of v ≡ None) ⊎ (value_of v ≡ value_of w)
valued_by v w None e a = inl e
valued_by v w (Some k) e a = inr (ap value_of (a refl))

valued : (s : Symbol) (w : ℕ) → AsWritten is_code s w → (nibble_of s ≡ None) ⊎ (nibble_of s ≡ value_of w)
valued Spoiled w a = inl refl
valued (Clean v) w a = valued_by v w (value_of v) refl a

both_none : (o : Option ℕ) → both o None ≡ Spoiled
both_none None = refl
both_none (Some a) = refl

honest_by : (o p : Option ℕ) (x : ℕ) → x < 256 → (o ≡ None) ⊎ (o ≡ value_of (slice_index code_table (x / 16))) → (p ≡ None) ⊎ (p ≡ value_of (slice_index code_table (x % 16))) → AsWritten any_octet (both o p) x
honest_by o p x l (inl e) b = subst (λ (z : Option ℕ). AsWritten any_octet (both z p) x) (sym e) tt
honest_by o p x l (inr e) (inl f) = subst (λ (z : Symbol). AsWritten any_octet z x) (sym (ap (both o) f ∙ both_none o)) tt
honest_by o p x l (inr e) (inr f) =
    subst (λ (z : Symbol). AsWritten any_octet z x) (sym (ap (λ z. both z p) e ∙ ap (both (value_of (slice_index code_table (x / 16)))) f ∙ both_some x l)) (λ _. refl)

honest_pair : (s t : Symbol) (x : ℕ) → x < 256 → AsWritten is_code s (slice_index code_table (x / 16)) → AsWritten is_code t (slice_index code_table (x % 16)) → AsWritten any_octet (pair_of s t) x
honest_pair s t x l a b = honest_by (nibble_of s) (nibble_of t) x l (valued s (slice_index code_table (x / 16)) a) (valued t (slice_index code_table (x % 16)) b)

mark_both : (o p : Option ℕ) → mark any_octet (both o p) ≡ (not (is_some o) || not (is_some p))
mark_both None p = refl
mark_both (Some a) None = refl
mark_both (Some a) (Some b) = refl

mark_nibble : (s : Symbol) → not (is_some (nibble_of s)) ≡ mark is_code s
mark_nibble (Clean v) = refl
mark_nibble Spoiled = refl

mark_pair : (s t : Symbol) → mark any_octet (pair_of s t) ≡ (mark is_code s || mark is_code t)
mark_pair s t = mark_both (nibble_of s) (nibble_of t) ∙ ap (λ b. b || not (is_some (nibble_of t))) (mark_nibble s) ∙ ap (λ b. mark is_code s || b) (mark_nibble t)

pub honest_group : (x : ℕ) (ss : List Symbol) → x < 256 → AllAsWritten is_code ss (code_of (x ∷ [])) → AllAsWritten any_octet (read_of ss) (x ∷ [])
honest_group x [] l a = absurd a
honest_group x (s ∷ []) l a = absurd a.1
honest_group x (s ∷ t ∷ []) l a = (honest_pair s t x l a.0 a.1.0, tt)
honest_group x (s ∷ t ∷ u ∷ ss) l a = absurd a.1.1

pub marked_group : (x : ℕ) (ss : List Symbol) → AllAsWritten is_code ss (code_of (x ∷ [])) → map (mark any_octet) (read_of ss) ≡ rule_for (map (mark is_code) ss)
marked_group x [] a = absurd a
marked_group x (s ∷ []) a = absurd a.1
marked_group x (s ∷ t ∷ ss) a = ap (λ b. b ∷ []) (mark_pair s t)

pub read_long : (ss : List Symbol) → length ss ≡ 2 → length (read_of ss) ≡ 1
read_long [] e = absurd (omega arith)
read_long (s ∷ []) e = absurd (omega arith)
read_long (s ∷ t ∷ ss) e = refl

abbrev pub manchester : Grouping
manchester = record {
  plain = 1;
  coded = 2;
  code = code_of;
  read = read_of;
  may = is_code;
  rule = rule_for;
  some = lit≤ tt;
  no_less = lit≤ tt;
  few = lit≤ tt;
  code_length = one_of (λ g. length (code_of g) ≡ 2) (λ x. refl);
  read_length = read_long;
  written = one_of (λ g. Octets g → Octets (code_of g) × AllMay is_code (code_of g)) (λ x o. (
    (code_octet (x / 16) (upper x o.0), (code_octet (x % 16) (lower x), tt)),
    (ap is_some (code_value (x / 16) (upper x o.0)), (ap is_some (code_value (x % 16) (lower x)), tt)),
  ));
  returns = one_of (λ g. Octets g → read_of (map Clean (code_of g)) ≡ map Clean g) (λ x o. ap (λ s. s ∷ []) (both_some x o.0));
  honest = λ g ss. one_of (λ h. Octets h → AllAsWritten is_code ss (code_of h) → AllAsWritten any_octet (read_of ss) h) (λ x o. honest_group x ss o.0) g;
  marked = λ g ss. one_of (λ h. Octets h → AllAsWritten is_code ss (code_of h) → map (mark any_octet) (read_of ss) ≡ rule_for (map (mark is_code) ss)) (λ x o. marked_group x ss) g;
}
