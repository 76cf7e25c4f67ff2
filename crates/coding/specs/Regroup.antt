-- A list taken in groups of n, each put through a function; an unfinished last group gives nothing. Assumes nothing.
use Rattle.std.specs.Prelude.{◌≡◌, ℕ, ◌+◌, ◌<◌, ◌≤◌, Bool, true, false, cond, List, [], ◌∷◌, ◌++◌, map, length, take, drop, ◌==◌, nat_eq, refl}
use Rattle.std.proofs.Common.{sym, ap, ◌∙◌, arith, eq-eqb, ne_eqb, eqb-true}
use Rattle.std.proofs.lemmas.Bool.{eqb-false}
use Rattle.std.proofs.lemmas.List.{append-nil, append_assoc, length_push, length-take-le, take-append-drop}

-- a list taken in groups of n, each put through f; h is what has come of the unfinished group
abbrev pub regroup : {A B : Type 0} → ℕ → (List A → List B) → List A → List A → List B
regroup n f h [] = []
regroup n f h (x ∷ xs) = cond (length h + 1 == n) (f (h ++ x ∷ []) ++ regroup n f [] xs) (regroup n f (h ++ x ∷ []) xs)

-- what is left of the last group, where it is unfinished
abbrev pub left_over : {A : Type 0} → ℕ → List A → List A → List A
left_over n h [] = h
left_over n h (x ∷ xs) = cond (length h + 1 == n) (left_over n [] xs) (left_over n (h ++ x ∷ []) xs)

-- a list of lists in one
abbrev pub flat : {A : Type 0} → List (List A) → List A
flat [] = []
flat (g ∷ gs) = g ++ flat gs

abbrev pub Each : {A : Type 0} → ℕ → List (List A) → Type 0
Each n [] = Unit {0}
Each n (g ∷ gs) = (length g ≡ n) × Each n gs

-- xs is whole groups of n and a rest that is no whole group, and ys is what f makes of the groups in turn
pub record Cut {A B : Type 0} (n : ℕ) (f : List A → List B) (xs : List A) (ys : List B) (rest : List A) : Type 0 where
  pub groups : List (List A)
  pub is : xs ≡ flat groups ++ rest
  pub each : Each n groups
  pub unfinished : length rest < n
  pub made : ys ≡ flat (map f groups)

module _ {A B : Type 0} (n : ℕ) (f : List A → List B) where
  cut_by : (h : List A) (x : A) (xs : List A) (b : Bool) → (length h + 1 == n) ≡ b → length h < n →
      ((g : List A) → length g < n → Cut n f (g ++ xs) (regroup n f g xs) (left_over n g xs)) →
      Cut n f (h ++ x ∷ xs) (cond b (f (h ++ x ∷ []) ++ regroup n f [] xs) (regroup n f (h ++ x ∷ []) xs)) (cond b (left_over n [] xs) (left_over n (h ++ x ∷ []) xs))
  cut_by h x xs true e l more =
      let q = eqb-true (length h + 1) n e in
      let k : length (h ++ x ∷ []) ≡ length h + 1 = length_push h x in
      let r = more [] (omega arith) in
      record {
        groups = (h ++ x ∷ []) ∷ r.groups;
        is = sym (append_assoc h (x ∷ []) xs) ∙ ap (λ z. (h ++ x ∷ []) ++ z) r.is ∙ sym (append_assoc (h ++ x ∷ []) (flat r.groups) (left_over n [] xs));
        each = (omega arith, r.each);
        unfinished = r.unfinished;
        made = ap (λ z. f (h ++ x ∷ []) ++ z) r.made;
      }
  cut_by h x xs false e l more =
      let q = eqb-false (length h + 1) n e in
      let k : length (h ++ x ∷ []) ≡ length h + 1 = length_push h x in
      let r = more (h ++ x ∷ []) (omega arith) in
      record { groups = r.groups; is = sym (append_assoc h (x ∷ []) xs) ∙ r.is; each = r.each; unfinished = r.unfinished; made = r.made }

  cut_with : (xs h : List A) → length h < n → Cut n f (h ++ xs) (regroup n f h xs) (left_over n h xs)
  cut_with [] h l = record { groups = []; is = append-nil h; each = tt; unfinished = l; made = refl }
  cut_with (x ∷ xs) h l = cut_by h x xs (length h + 1 == n) refl l (cut_with xs)

  pub cut : (xs : List A) → 1 ≤ n → Cut n f xs (regroup n f [] xs) (left_over n [] xs)
  cut xs l = cut_with xs [] (omega arith)

module _ {A B : Type 0} (n : ℕ) (f : List A → List B) where
  pub regroup_full : (h g ss : List A) → length h + length g ≡ n → 1 ≤ length g → regroup n f h (g ++ ss) ≡ f (h ++ g) ++ regroup n f [] ss
  regroup_full h [] ss e l = absurd (omega arith)
  regroup_full h (x ∷ []) ss e l =
      let t : nat_eq (length h + 1) n ≡ true = eq-eqb (length h + 1) n (omega arith) in
      ap (λ b. cond b (f (h ++ x ∷ []) ++ regroup n f [] ss) (regroup n f (h ++ x ∷ []) ss)) t
  regroup_full h (x ∷ y ∷ g) ss e l =
      let t : nat_eq (length h + 1) n ≡ false = ne_eqb (length h + 1) n (λ q. omega arith) in
      let k : length (h ++ x ∷ []) ≡ length h + 1 = length_push h x in
      ap (λ b. cond b (f (h ++ x ∷ []) ++ regroup n f [] ((y ∷ g) ++ ss)) (regroup n f (h ++ x ∷ []) ((y ∷ g) ++ ss))) t
      ∙ regroup_full (h ++ x ∷ []) (y ∷ g) ss (omega arith) (omega arith)
      ∙ ap (λ z. f z ++ regroup n f [] ss) (append_assoc h (x ∷ []) (y ∷ g))

  pub regroup_short : (h g : List A) → length h + length g < n → regroup n f h g ≡ []
  regroup_short h [] l = refl
  regroup_short h (x ∷ g) l =
      let t : nat_eq (length h + 1) n ≡ false = ne_eqb (length h + 1) n (λ q. omega arith) in
      let k : length (h ++ x ∷ []) ≡ length h + 1 = length_push h x in
      ap (λ b. cond b (f (h ++ x ∷ []) ++ regroup n f [] g) (regroup n f (h ++ x ∷ []) g)) t ∙ regroup_short (h ++ x ∷ []) g (omega arith)

module _ {A : Type 0} (n : ℕ) where
  pub left_over_full : (h g ss : List A) → length h + length g ≡ n → 1 ≤ length g → left_over n h (g ++ ss) ≡ left_over n [] ss
  left_over_full h [] ss e l = absurd (omega arith)
  left_over_full h (x ∷ []) ss e l =
      let t : nat_eq (length h + 1) n ≡ true = eq-eqb (length h + 1) n (omega arith) in
      ap (λ b. cond b (left_over n [] ss) (left_over n (h ++ x ∷ []) ss)) t
  left_over_full h (x ∷ y ∷ g) ss e l =
      let t : nat_eq (length h + 1) n ≡ false = ne_eqb (length h + 1) n (λ q. omega arith) in
      let k : length (h ++ x ∷ []) ≡ length h + 1 = length_push h x in
      ap (λ b. cond b (left_over n [] ((y ∷ g) ++ ss)) (left_over n (h ++ x ∷ []) ((y ∷ g) ++ ss))) t
      ∙ left_over_full (h ++ x ∷ []) (y ∷ g) ss (omega arith) (omega arith)

  pub left_over_short : (h g : List A) → length h + length g < n → left_over n h g ≡ h ++ g
  left_over_short h [] l = sym (append-nil h)
  left_over_short h (x ∷ g) l =
      let t : nat_eq (length h + 1) n ≡ false = ne_eqb (length h + 1) n (λ q. omega arith) in
      let k : length (h ++ x ∷ []) ≡ length h + 1 = length_push h x in
      ap (λ b. cond b (left_over n [] g) (left_over n (h ++ x ∷ []) g)) t ∙ left_over_short (h ++ x ∷ []) g (omega arith) ∙ append_assoc h (x ∷ []) g

-- the first n of a list that has as many are one group
pub regroup_first : {A B : Type 0} (n : ℕ) (f : List A → List B) (ss : List A) → 1 ≤ n → n ≤ length ss → regroup n f [] ss ≡ f (take n ss) ++ regroup n f [] (drop n ss)
regroup_first n f ss one l =
    let k : length (take n ss) ≡ n = length-take-le n ss l in
    ap (regroup n f []) (sym (take-append-drop n ss)) ∙ regroup_full n f [] (take n ss) (drop n ss) (omega arith) (omega arith)

pub left_over_first : {A : Type 0} (n : ℕ) (ss : List A) → 1 ≤ n → n ≤ length ss → left_over n [] ss ≡ left_over n [] (drop n ss)
left_over_first n ss one l =
    let k : length (take n ss) ≡ n = length-take-le n ss l in
    ap (left_over n []) (sym (take-append-drop n ss)) ∙ left_over_full n [] (take n ss) (drop n ss) (omega arith) (omega arith)
