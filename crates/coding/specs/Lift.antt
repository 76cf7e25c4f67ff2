-- The layer of a grouping: its three laws follow from what its author shows of one group. Assumes nothing.
use Rattle.std.specs.Prelude.{◌≡◌, ℕ, zero, suc, ◌+◌, ◌-◌, ◌*◌, ◌<◌, ◌≤◌, Bool, true, List, [], ◌∷◌, ◌++◌, map, length, take, drop, refl}
use Rattle.std.proofs.Common.{sym, ap, subst, ◌∙◌, mul_assoc, mul-zero, mul-suc, mul-le-mul, mul-le-mul_right, mod-lt, mul_left_comm, arith}
use Rattle.std.proofs.Math.Nat.{mul-add-div, div-add-mod, div-eq_of_lt}
use Rattle.std.proofs.lemmas.List.{map-append, length-append, length-map, length-take-le, length-drop, take-append-drop, nil_from_length}
use Rattle.std.specs.List.{AllByRecursion}
use Rattle.radio.specs.declared.symbol.Symbol.{Symbol}
use Rattle.radio.specs.declared.symbol.Symbol.TheVariants.{Clean}
use Rattle.radio.specs.Reception.{whole, mark, any_octet, AllAsWritten, clean}
use Rattle.radio.specs.Layer.{Layer, Laws, Fit, Octets, AllMay}
use Rattle.radio.proofs.Honesty.{written_length, written_append}
use Rattle.coding.specs.Regroup.{regroup, left_over, flat, Each, regroup_full, left_over_full}
use Rattle.coding.specs.Grouping.{Grouping, decoded, ending_above, encoded, ruled, groups_in, counted}

record Groups (n m : ℕ) (xs : List ℕ) : Type 0 where
  gs : List (List ℕ)
  is : xs ≡ flat gs
  each : Each n gs
  count : length gs ≡ m

groups : (n m : ℕ) (xs : List ℕ) → length xs ≡ n * m → Groups n m xs
groups n zero xs e = record { gs = []; is = nil_from_length xs (e ∙ mul-zero n); each = tt; count = refl }
groups n (suc m) xs e =
    let k : n * suc m ≡ n * m + n = mul-suc n m in
    let l : length (take n xs) ≡ n = length-take-le n xs (omega arith) in
    let r = groups n m (drop n xs) (length-drop n xs ∙ omega arith) in
    record {
      gs = take n xs ∷ r.gs;
      is = sym (take-append-drop n xs) ∙ ap (λ z. take n xs ++ z) r.is;
      each = (l, r.each);
      count = ap suc r.count;
    }

octets_left : (xs ys : List ℕ) → Octets (xs ++ ys) → Octets xs
octets_left [] ys o = tt
octets_left (x ∷ xs) ys o = (o.0, octets_left xs ys o.1)

octets_right : (xs ys : List ℕ) → Octets (xs ++ ys) → Octets ys
octets_right [] ys o = o
octets_right (x ∷ xs) ys o = octets_right xs ys o.1

all_append : (P : ℕ → Type 0) (xs ys : List ℕ) → AllByRecursion P xs → AllByRecursion P ys → AllByRecursion P (xs ++ ys)
all_append P [] ys o p = p
all_append P (x ∷ xs) ys o p = (o.0, all_append P xs ys o.1 p)

module _ (may : ℕ → Bool) where
  record Split (ss : List Symbol) (ws vs : List ℕ) : Type 0 where
    front : List Symbol
    back : List Symbol
    is : ss ≡ front ++ back
    before : AllAsWritten may front ws
    behind : AllAsWritten may back vs

  split : (ss : List Symbol) (ws vs : List ℕ) → AllAsWritten may ss (ws ++ vs) → Split ss ws vs
  split ss [] vs a = record { front = []; back = ss; is = refl; before = tt; behind = a }
  split [] (w ∷ ws) vs a = absurd a
  split (s ∷ ss) (w ∷ ws) vs a =
      let r = split ss ws vs a.1 in
      record { front = s ∷ r.front; back = r.back; is = ap (λ z. s ∷ z) r.is; before = (a.0, r.before); behind = r.behind }

module _ (c : Grouping) where
  pub some_coded : 1 ≤ c.coded
  some_coded = omega (arith, c.some, c.no_less)

  encoded_more : (g xs : List ℕ) → length g ≡ c.plain → encoded c (g ++ xs) ≡ c.code g ++ encoded c xs
  encoded_more g xs l = regroup_full c.plain c.code [] g xs (omega arith) (omega (arith, c.some))

  decoded_more : (ss ts : List Symbol) → length ss ≡ c.coded → regroup c.coded c.read [] (ss ++ ts) ≡ c.read ss ++ regroup c.coded c.read [] ts
  decoded_more ss ts l = regroup_full c.coded c.read [] ss ts (omega arith) (omega (arith, some_coded))

  ruled_more : (ss ts : List Bool) → length ss ≡ c.coded → ruled c (ss ++ ts) ≡ c.rule ss ++ ruled c ts
  ruled_more ss ts l = regroup_full c.coded c.rule [] ss ts (omega arith) (omega (arith, some_coded))

  left_more : (ss ts : List Symbol) → length ss ≡ c.coded → left_over c.coded [] (ss ++ ts) ≡ left_over c.coded [] ts
  left_more ss ts l = left_over_full c.coded [] ss ts (omega arith) (omega (arith, some_coded))

  -- the laws over a list of groups
  lengths : (gs : List (List ℕ)) → Each c.plain gs → length (encoded c (flat gs)) ≡ c.coded * length gs
  lengths [] e = sym (mul-zero c.coded)
  lengths (g ∷ gs) e =
      let a = lengths gs e.1 in
      let b : c.coded * suc (length gs) ≡ c.coded * length gs + c.coded = mul-suc c.coded (length gs) in
      let k : length (c.code g) ≡ c.coded = c.code_length g e.0 in
      ap length (encoded_more g (flat gs) e.0) ∙ length-append (c.code g) (encoded c (flat gs)) ∙ omega arith

  written_all : (gs : List (List ℕ)) → Each c.plain gs → Octets (flat gs) → Octets (encoded c (flat gs)) × AllMay c.may (encoded c (flat gs))
  written_all [] e o = (tt, tt)
  written_all (g ∷ gs) e o =
      let a = written_all gs e.1 (octets_right g (flat gs) o) in
      let b = c.written g e.0 (octets_left g (flat gs) o) in
      subst (λ (z : List ℕ). Octets z × AllMay c.may z) (sym (encoded_more g (flat gs) e.0))
      (all_append (λ x. x < 256) (c.code g) (encoded c (flat gs)) b.0 a.0, all_append (λ x. c.may x ≡ true) (c.code g) (encoded c (flat gs)) b.1 a.1)

  returns_all : (gs : List (List ℕ)) → Each c.plain gs → Octets (flat gs) →
      (regroup c.coded c.read [] (map Clean (encoded c (flat gs))) ≡ map Clean (flat gs)) × (left_over c.coded [] (map Clean (encoded c (flat gs))) ≡ [])
  returns_all [] e o = (refl, refl)
  returns_all (g ∷ gs) e o =
      let a = returns_all gs e.1 (octets_right g (flat gs) o) in
      let b = c.returns g e.0 (octets_left g (flat gs) o) in
      let x = map Clean (c.code g) in
      let y = map Clean (encoded c (flat gs)) in
      let p : map Clean (encoded c (g ++ flat gs)) ≡ x ++ y = ap (map Clean) (encoded_more g (flat gs) e.0) ∙ map-append Clean (c.code g) (encoded c (flat gs)) in
      let l : length x ≡ c.coded = length-map (c.code g) Clean ∙ c.code_length g e.0 in (
        ap (regroup c.coded c.read []) p ∙ decoded_more x y l ∙ ap (λ z. z ++ regroup c.coded c.read [] y) b ∙ ap (λ z. map Clean g ++ z) a.0 ∙ sym (map-append Clean g (flat gs)),
        ap (left_over c.coded []) p ∙ left_more x y l ∙ a.1,
      )

  record Fair (ss : List Symbol) (xs : List ℕ) : Type 0 where
    agrees : AllAsWritten any_octet (regroup c.coded c.read [] ss) xs
    marked : map (mark any_octet) (regroup c.coded c.read [] ss) ≡ ruled c (map (mark c.may) ss)
    none_left : left_over c.coded [] ss ≡ []

  fair_more : (g xs : List ℕ) (ss ts : List Symbol) → length g ≡ c.plain → Octets g → AllAsWritten c.may ss (c.code g) → Fair ts xs → Fair (ss ++ ts) (g ++ xs)
  fair_more g xs ss ts l o a f =
      let n : length ss ≡ c.coded = written_length c.may ss (c.code g) a ∙ c.code_length g l in
      let d = decoded_more ss ts n in
      let r = regroup c.coded c.read [] ts in
      record {
        agrees = subst (λ (z : List Symbol). AllAsWritten any_octet z (g ++ xs)) (sym d) (written_append any_octet (c.read ss) r g xs (c.honest g ss l o a) f.agrees);
        marked = ap (map (mark any_octet)) d ∙ map-append (mark any_octet) (c.read ss) r
            ∙ ap (λ z. z ++ map (mark any_octet) r) (c.marked g ss l o a) ∙ ap (λ z. c.rule (map (mark c.may) ss) ++ z) f.marked
            ∙ sym (ap (ruled c) (map-append (mark c.may) ss ts) ∙ ruled_more (map (mark c.may) ss) (map (mark c.may) ts) (length-map ss (mark c.may) ∙ n));
        none_left = left_more ss ts n ∙ f.none_left;
      }

  fair_none : (ss : List Symbol) → AllAsWritten c.may ss [] → Fair ss []
  fair_none [] a = record { agrees = tt; marked = refl; none_left = refl }
  fair_none (s ∷ ss) a = absurd a

  fair_all : (gs : List (List ℕ)) (ss : List Symbol) → Each c.plain gs → Octets (flat gs) → AllAsWritten c.may ss (encoded c (flat gs)) → Fair ss (flat gs)
  fair_all [] ss e o a = fair_none ss a
  fair_all (g ∷ gs) ss e o a =
      let s = split c.may ss (c.code g) (encoded c (flat gs)) (subst (λ (z : List ℕ). AllAsWritten c.may ss z) (encoded_more g (flat gs) e.0) a) in
      subst (λ (z : List Symbol). Fair z (g ++ flat gs)) (sym s.is)
      (fair_more g (flat gs) s.front s.back e.0 (octets_left g (flat gs) o) s.before (fair_all gs s.back e.1 (octets_right g (flat gs) o) s.behind))

  pub groups_of : (m : ℕ) → groups_in c (c.plain * m) ≡ m
  groups_of m =
      mul-add-div c.some m (c.plain - 1) ∙ ap (λ z. m + z) (div-eq_of_lt (omega (arith, c.some))) ∙ omega arith

  enough : (n : ℕ) → n ≤ counted c n
  enough n =
      let a = div-add-mod (n + (c.plain - 1)) c.plain in
      let b = mod-lt (n + (c.plain - 1)) c.some in
      let d : c.plain * groups_in c n ≤ c.coded * groups_in c n = mul-le-mul_right (groups_in c n) c.no_less in
      omega arith

  fit_groups : (u : ℕ) (xs : List ℕ) (f : Fit (λ v. c.plain * v) u xs) → Groups c.plain (u * f.even.0) xs
  fit_groups u xs f = groups c.plain (u * f.even.0) xs (f.even.1 ∙ mul_assoc c.plain u f.even.0)

  fit_count : (u : ℕ) (xs : List ℕ) (f : Fit (λ v. c.plain * v) u xs) → groups_in c (length xs) ≡ u * f.even.0
  fit_count u xs f = ap (groups_in c) (f.even.1 ∙ mul_assoc c.plain u f.even.0) ∙ groups_of (u * f.even.0)

  fair_fit : (u : ℕ) (xs : List ℕ) (ss : List Symbol) → Fit (λ v. c.plain * v) u xs → AllAsWritten c.may ss (encoded c xs) → Fair ss xs
  fair_fit u xs ss f a =
      let q = fit_groups u xs f in
      subst (λ (z : List ℕ). Fair ss z) (sym q.is)
      (fair_all q.gs ss q.each (subst Octets q.is f.octets) (subst (λ (z : List ℕ). AllAsWritten c.may ss (encoded c z)) q.is a))

  pub layer_laws : Laws (λ u. c.plain * u) (counted c) (encoded c) (decoded c) c.may (ruled c)
  layer_laws = record {
    positive = λ u l. mul-le-mul c.some l;
    fixed = λ u xs l f. let q = fit_groups u xs f in (
      ap (λ z. length (encoded c z)) q.is ∙ lengths q.gs q.each ∙ ap (λ z. c.coded * z) (q.count ∙ sym (fit_count u xs f)),
      (c.coded * f.even.0, ap (λ z. c.coded * z) (fit_count u xs f) ∙ mul_left_comm c.coded u f.even.0),
    );
    no_less = enough;
    written = λ u xs l f. let q = fit_groups u xs f in
        subst (λ (z : List ℕ). Octets (encoded c z) × AllMay c.may (encoded c z)) (sym q.is) (written_all q.gs q.each (subst Octets q.is f.octets));
    returns = λ u xs l f. let q = fit_groups u xs f in
        subst (λ (z : List ℕ). decoded c (clean (encoded c z)) ≡ clean z) (sym q.is)
        (let a = returns_all q.gs q.each (subst Octets q.is f.octets) in
        ap (λ z. record { symbols = z; ending = ending_above (0 + length z) (left_over c.coded [] (map Clean (encoded c (flat q.gs)))) whole }) a.0
        ∙ ap (λ z. record { symbols = map Clean (flat q.gs); ending = ending_above (0 + length (map Clean (flat q.gs))) z whole }) a.1);
    honest = λ u xs r l f h. let q = fair_fit u xs r.symbols f h.agrees in
        record {
          ended = ap (λ z. ending_above (0 + length (regroup c.coded c.read [] r.symbols)) z r.ending) q.none_left
              ∙ ap (λ z. ending_above (0 + length (regroup c.coded c.read [] r.symbols)) [] z) h.ended;
          agrees = q.agrees;
        };
    marked = λ u xs r l f h. (fair_fit u xs r.symbols f h.agrees).marked;
  }

abbrev pub layer_of : Grouping → Layer
layer_of c = record {
  unit = λ u. c.plain * u;
  count = counted c;
  encode = encoded c;
  decode = decoded c;
  may = c.may;
  rule = ruled c;
  laws = layer_laws c;
}
