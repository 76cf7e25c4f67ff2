-- The receptions of bits, from one place to the next.
use Rattle.std.proofs.Common.{◌≡◌, ℕ, zero, suc, ◌+◌, ◌-◌, ◌<◌, ◌≤◌, true, false, ◌&&◌, eqb, ltb, List, [], ◌∷◌, length, take, drop, is_some, Some, None, Option, sym, refl, ap, ◌∙◌, subst, arith}
use Rattle.std.proofs.lemmas.List.{drop-drop, length-drop, length-take, get_or-take, take-take, drop-take}
use Rattle.std.proofs.lemmas.Bool.{and_parts, or_from, or_left, or_right, cond-true, cond-false, false≢true, lt-ltb, le-ltb}
use Rattle.std.specs.Option.{MatchOption}
use Rattle.refusal.specs.declared.Cause.TheVariants.{Dry, Cut}
use Rattle.radio.specs.declared.symbol.Symbol.{Symbol}
use Rattle.radio.specs.Reception.{made_at, ending_in}
use Rattle.lines.specs.HeardBits.{begins, sign, sign_here, sign_within, symbol_here, next_in, reception_from, receptions_from}
use Rattle.lines.specs.Looks.{NoSign, FirstOfTen, SymbolIn}

-- bits to pass are dropped
reception_pass : (k n : ℕ) (zs : List ℕ) → reception_from k n zs ≡ reception_from 0 n (drop k zs)
reception_pass zero n zs = refl
reception_pass (suc k) n [] = refl
reception_pass (suc k) n (b ∷ rest) = reception_pass k n rest

receptions_pass : (k : ℕ) (zs : List ℕ) → receptions_from k zs ≡ receptions_from 0 (drop k zs)
receptions_pass zero zs = refl
receptions_pass (suc k) [] = refl
receptions_pass (suc k) (b ∷ rest) = receptions_pass k rest

-- where no sign begins, the search goes on
pub passed : (k : ℕ) (zs : List ℕ) → NoSign k zs → receptions_from 0 zs ≡ receptions_from 0 (drop k zs)
passed zero zs h = refl
passed (suc k) [] h = refl
passed (suc k) (b ∷ rest) h =
    cond-false (sign_here (b ∷ rest)) _ _ (h 0 (omega arith)) ∙ passed k rest (λ j l. h (suc j) (omega arith))

-- a sign has twenty bits
front_fits : (front zs : List ℕ) → begins front zs ≡ true → length front ≤ length zs
front_fits [] zs e = omega arith
front_fits (c ∷ front) [] e = absurd (false≢true e)
front_fits (c ∷ front) (b ∷ zs) e = let n = front_fits front zs (and_parts (eqb c b) (begins front zs) e).1 in omega arith

sign_fits : (zs : List ℕ) → sign_here zs ≡ true → 20 ≤ length zs
unfolding sign
sign_fits zs e = front_fits sign zs e

no_sign_end : sign_here [] ≡ false
unfolding sign
no_sign_end = refl

-- behind a sign its reception starts
at_sign : (zs : List ℕ) → sign_here zs ≡ true → receptions_from 0 zs ≡ reception_from 0 0 (drop 20 zs) ∷ receptions_from 0 (drop 20 zs)
at_sign [] e = absurd (false≢true (sym no_sign_end ∙ e))
at_sign (b ∷ rest) e =
    cond-true (sign_here (b ∷ rest)) _ _ e
    ∙ ap (λ r. r ∷ receptions_from 19 rest) (reception_pass 19 0 rest)
    ∙ ap (λ rs. reception_from 0 0 (drop 19 rest) ∷ rs) (receptions_pass 19 rest)

pub found_at : (k : ℕ) (zs : List ℕ) → sign_here (drop k zs) ≡ true → NoSign k zs →
    (k + 20 ≤ length zs) × (receptions_from 0 zs ≡ reception_from 0 0 (drop (k + 20) zs) ∷ receptions_from 0 (drop (k + 20) zs))
found_at k zs e h =
    let n = sign_fits (drop k zs) e in
    let l = length-drop k zs in
    (omega arith, passed k zs h ∙ at_sign (drop k zs) e ∙ ap (λ r. reception_from 0 0 r ∷ receptions_from 0 r) (drop-drop 20 k zs))

-- the looks for a sign at k places
pub none_within : (k : ℕ) (zs : List ℕ) → NoSign k zs → sign_within k zs ≡ false
none_within zero zs h = refl
none_within (suc k) [] h = refl
none_within (suc k) (b ∷ rest) h = or_from (sign_here (b ∷ rest)) (sign_within k rest) (h 0 (omega arith)) (none_within k rest (λ j l. h (suc j) (omega arith)))

pub some_within : (j k : ℕ) (zs : List ℕ) → j < k → sign_here (drop j zs) ≡ true → sign_within k zs ≡ true
some_within j zero zs l e = absurd (omega arith)
some_within zero (suc k) [] l e = absurd (false≢true (sym no_sign_end ∙ e))
some_within (suc j) (suc k) [] l e = absurd (false≢true (sym no_sign_end ∙ e))
some_within zero (suc k) (b ∷ rest) l e = or_left (sign_here (b ∷ rest)) (sign_within k rest) e
some_within (suc j) (suc k) (b ∷ rest) l e = or_right (sign_here (b ∷ rest)) (sign_within k rest) (some_within j k rest (omega arith) e)

-- the reception under way, by what stands at its place
pub cut_at : (n : ℕ) (zs : List ℕ) → sign_within 10 zs ≡ true → reception_from 0 n zs ≡ ending_in (made_at Cut n)
cut_at n [] e = absurd (false≢true e)
cut_at n (b ∷ rest) e = cond-true (sign_within 10 (b ∷ rest)) _ _ e

pub dry_at : (n : ℕ) (zs : List ℕ) → sign_within 10 zs ≡ false → length zs < 10 → reception_from 0 n zs ≡ ending_in (made_at Dry n)
dry_at n [] e l = refl
dry_at n (b ∷ rest) e l = cond-false (sign_within 10 (b ∷ rest)) _ _ e ∙ cond-true (ltb (length (b ∷ rest)) 10) _ _ (lt-ltb (length (b ∷ rest)) 10 l)

pub next_at : (n : ℕ) (zs : List ℕ) → sign_within 10 zs ≡ false → 10 ≤ length zs →
    reception_from 0 n zs ≡ next_in (symbol_here zs) (reception_from 0 (n + 1) (drop 10 zs))
next_at n [] e l = absurd (omega arith)
next_at n (b ∷ rest) e l =
    cond-false (sign_within 10 (b ∷ rest)) _ _ e
    ∙ cond-false (ltb (length (b ∷ rest)) 10) _ _ (le-ltb (length (b ∷ rest)) 10 l)
    ∙ ap (next_in (symbol_here (b ∷ rest))) (reception_pass 9 (n + 1) rest)

-- what the looks see lies in the first 29 bits
begins_take : (front zs : List ℕ) (m : ℕ) → length front ≤ m → begins front (take m zs) ≡ begins front zs
begins_take [] zs m h = refl
begins_take (c ∷ front) zs zero h = absurd (omega arith)
begins_take (c ∷ front) [] (suc m) h = refl
begins_take (c ∷ front) (b ∷ zs) (suc m) h = ap (λ t. eqb c b && t) (begins_take front zs m (omega arith))

sign_take : (zs : List ℕ) (m : ℕ) → 20 ≤ m → sign_here (take m zs) ≡ sign_here zs
unfolding sign
sign_take zs m h = begins_take sign zs m h

drop_take_of : (k : ℕ) (zs : List ℕ) → k < 10 → drop k (take 29 zs) ≡ take (29 - k) (drop k zs)
drop_take_of k zs h =
    let e : 29 ≡ k + (29 - k) = omega arith in
    ap (λ n. drop k (take n zs)) e ∙ drop-take k (29 - k) zs

same_sign : (zs : List ℕ) (k : ℕ) → k < 10 → sign_here (drop k (take 29 zs)) ≡ sign_here (drop k zs)
same_sign zs k h = ap sign_here (drop_take_of k zs h) ∙ sign_take (drop k zs) (29 - k) (omega arith)

symbol_take : (zs : List ℕ) → symbol_here (take 29 zs) ≡ symbol_here zs
symbol_take zs =
    let a = get_or-take 29 zs 0 0 (omega arith) in
    let b = get_or-take 29 zs 9 0 (omega arith) in
    let d : take 8 (drop 1 (take 29 zs)) ≡ take 8 (drop 1 zs) = ap (take 8) (drop-take 1 28 zs) ∙ take-take 8 28 (drop 1 zs) (omega arith) in
    cc

-- so the looks at 29 bits are looks at all
looked_first : (zs : List ℕ) (o : Option ℕ) → FirstOfTen (take 29 zs) o → FirstOfTen zs o
looked_first zs None h = λ j l. sym (same_sign zs j l) ∙ h j l
looked_first zs (Some k) h = (h.0, sym (same_sign zs k h.0) ∙ h.1, λ j l. sym (same_sign zs j (omega arith)) ∙ h.2 j l)

symbol_first : (zs : List ℕ) (o : Option Symbol) → SymbolIn (take 29 zs) o → SymbolIn zs o
symbol_first zs None h = omega (arith, length-take 29 zs)
symbol_first zs (Some s) h = (omega (arith, length-take 29 zs, h.0), h.1 ∙ symbol_take zs)

-- the first of ten places, as a search finds it
pub first_of_ten : (zs : List ℕ) (o : Option ℕ) →
    MatchOption o ((k : ℕ) → 0 ≤ k → k < 10 → sign_here (drop k zs) ≡ false)
    (λ i. (0 ≤ i) × (i < 10) × (sign_here (drop i zs) ≡ true) × ((k : ℕ) → 0 ≤ k → k < i → sign_here (drop k zs) ≡ false)) →
    FirstOfTen zs o
first_of_ten zs None h = λ j l. h j (omega arith) l
first_of_ten zs (Some k) h = (h.1, h.2, λ j l. h.3 j (omega arith) l)

some_of_ten : (zs : List ℕ) (o : Option ℕ) → FirstOfTen zs o → is_some o ≡ true → sign_within 10 zs ≡ true
some_of_ten zs None h e = absurd (false≢true e)
some_of_ten zs (Some k) h e = some_within k 10 zs h.0 h.1

none_of_ten : (zs : List ℕ) (o : Option ℕ) → FirstOfTen zs o → is_some o ≡ false → NoSign 10 zs
none_of_ten zs None h e = h
none_of_ten zs (Some k) h e = absurd (false≢true (sym e))

module _ (xs zs : List ℕ) (e : xs ≡ take 29 zs) where
  pub looked : (o : Option ℕ) → FirstOfTen xs o → FirstOfTen zs o
  looked o h = looked_first zs o (subst (λ l. FirstOfTen l o) e h)

  pub cut_seen : (o : Option ℕ) → FirstOfTen xs o → is_some o ≡ true → (n : ℕ) → reception_from 0 n zs ≡ ending_in (made_at Cut n)
  cut_seen o h t n = cut_at n zs (some_of_ten zs o (looked o h) t)

  pub free_seen : (o : Option ℕ) → FirstOfTen xs o → is_some o ≡ false → NoSign 10 zs
  free_seen o h t = none_of_ten zs o (looked o h) t

  pub symbol_seen : (o p : Option Symbol) → SymbolIn xs o → o ≡ p → SymbolIn zs p
  symbol_seen o p h q = subst (λ z. SymbolIn zs z) q (symbol_first zs o (subst (λ l. SymbolIn l o) e h))
