-- The receptions of a line, listed one after the other.
use Rattle.std.proofs.Common.{◌≡◌, ℕ, ◌+◌, ◌<◌, ◌≤◌, min, true, false, eqb, List, [], ◌∷◌, ◌++◌, length, get_or, take, is_ok, Some, Ok, codes, decimal, Result, sym, refl, ap, ◌∙◌, append_assoc, append-nil, arith}
use Rattle.std.proofs.lemmas.List.{take_more, take_all}
use Rattle.refusal.specs.declared.Refusal.{Refusal}
use Rattle.radio.specs.declared.symbol.Symbol.{Symbol}
use Rattle.radio.specs.Reception.{Reception, Ending, whole, fault}
use Rattle.radio.specs.Lines.{Heard, first, next, tail, found, opening, opened, taken as taken_from}
use Rattle.commands.specs.Answers.{end_of_line, symbol_text, all_symbols, symbols_text, reception_line, reception_lines, listing_text}
use Rattle.commands.proofs.Texts.{piece_more}

symbols_append : (ss ts : List Symbol) → all_symbols (ss ++ ts) ≡ all_symbols ss ++ all_symbols ts
symbols_append [] ts = refl
symbols_append (s ∷ ss) ts = ap (λ (ys : List ℕ). symbol_text s ++ ys) (symbols_append ss ts) ∙ sym (append_assoc (symbol_text s) (all_symbols ss) (all_symbols ts))

pub symbols_more : (ss : List Symbol) (d : Symbol) (i : ℕ) → i < length ss → all_symbols (take i ss) ++ symbol_text (get_or ss i d) ≡ all_symbols (take (i + 1) ss)
symbols_more ss d i h =
    sym (ap all_symbols (take_more ss i d h) ∙ symbols_append (take i ss) (get_or ss i d ∷ []) ∙ ap (λ (ys : List ℕ). all_symbols (take i ss) ++ ys) (append-nil (symbol_text (get_or ss i d))))

some_symbols : (ss : List Symbol) → eqb (length ss) 0 ≡ false → symbols_text ss ≡ all_symbols ss
some_symbols [] e = let z : ◌≡◌ {A = ℕ} 0 1 = cc in absurd (omega arith)
some_symbols (s ∷ ss) e = refl

pub symbols_all : (ss : List Symbol) (i : ℕ) → length ss ≤ i → eqb (length ss) 0 ≡ false → all_symbols (take i ss) ≡ symbols_text ss
symbols_all ss i h some = ap all_symbols (take_all i ss h) ∙ sym (some_symbols ss some)

first_is : (ss : List Symbol) (e : Ending) (s : Symbol) → Ok (Some s) ≡ first ss e → s ∷ tail ss ≡ ss
first_is [] whole s h = let z : ◌≡◌ {A = ℕ} 0 1 = cc in absurd (omega arith)
first_is [] (fault f) s h = let z : ◌≡◌ {A = ℕ} 0 1 = cc in absurd (omega arith)
first_is (t ∷ ss) e s h = ap (λ x. x ∷ ss) (cc)

-- a symbol is taken from a reception, and stands behind those taken before
pub symbol_taken : (before taken : List Symbol) (was after : Heard) (s : Symbol) → Ok (Some s) ≡ next was.present → after ≡ taken_from was → taken ≡ before ++ s ∷ [] → taken ++ after.present.symbols ≡ before ++ was.present.symbols
symbol_taken before taken was after s n e t =
    ap (λ ss. ss ++ after.present.symbols) t ∙ append_assoc before (s ∷ []) after.present.symbols
    ∙ ap (λ ss. before ++ (s ∷ ss)) (ap (λ h. h.present.symbols) e) ∙ ap (λ ss. before ++ ss) (first_is was.present.symbols was.present.ending s n)

-- what has been listed of the receptions in all, with those that are yet to come
abbrev pub Listed : List Reception → List ℕ → ℕ → List Reception → Type 0
Listed all lines n rest = (lines ++ reception_lines rest ≡ reception_lines all) × (min (n + length rest) 18446744073709551615 ≡ min (length all) 18446744073709551615) × (n ≤ 18446744073709551615)

-- a line was opened, and the reception that is present then was listed
one_more : (all coming : List Reception) (was after : Heard) (r : Result (Unit {0}) Refusal) (lines lines' line : List ℕ) (n n' : ℕ) (rest : List Reception)
    → r ≡ found coming → is_ok r ≡ true → after ≡ opening was coming → rest ≡ after.coming → line ≡ reception_line after.present → lines' ≡ lines ++ line
    → n' ≡ min (n + 1) 18446744073709551615 → Listed all lines n coming → Listed all lines' n' rest
one_more all [] was after r lines lines' line n n' rest f ok a c p l m h = let z : false ≡ true = sym (ap is_ok f) ∙ ok in let y : ◌≡◌ {A = ℕ} 0 1 = cc in absurd (omega arith)
one_more all (x ∷ xs) was after r lines lines' line n n' rest f ok a c p l m h =
    let left : rest ≡ xs = c ∙ ap (λ v. v.coming) a in
    let own : line ≡ reception_line x = p ∙ ap (λ v. reception_line v.present) a in
    let text = piece_more lines lines' line (reception_lines rest) (reception_lines all) l (ap (λ v. lines ++ (v ++ reception_lines rest)) own ∙ ap (λ v. lines ++ (reception_line x ++ reception_lines v)) left ∙ h.0) in
    (text, omega (arith, ap length left, h.1, m), omega (arith, m))

pub listed_more : (all : List Reception) (was after : Heard) (r : Result (Unit {0}) Refusal) (lines lines' line : List ℕ) (n n' : ℕ) (rest : List Reception)
    → r ≡ found was.coming → is_ok r ≡ true → after ≡ opened was → rest ≡ after.coming → line ≡ reception_line after.present → lines' ≡ lines ++ line
    → n' ≡ min (n + 1) 18446744073709551615 → Listed all lines n was.coming → Listed all lines' n' rest
listed_more all was = one_more all was.coming was

-- no reception is to come
all_listed : (all coming : List Reception) (r : Result (Unit {0}) Refusal) (lines : List ℕ) (n : ℕ) → r ≡ found coming → is_ok r ≡ false → Listed all lines n coming
    → codes "heard " ++ (decimal n ++ (end_of_line ++ lines)) ≡ listing_text all
all_listed all [] r lines n f ok h =
    let count : n ≡ min (length all) 18446744073709551615 = omega (arith, h.1, h.2) in
    ap (λ v. codes "heard " ++ (decimal v ++ (end_of_line ++ lines))) count
    ∙ ap (λ v. codes "heard " ++ (decimal (min (length all) 18446744073709551615) ++ (end_of_line ++ v))) (sym (append-nil lines) ∙ h.0)
all_listed all (x ∷ xs) r lines n f ok h = let z : true ≡ false = sym (ap is_ok f) ∙ ok in let y : ◌≡◌ {A = ℕ} 0 1 = cc in absurd (omega arith)

pub listed_all : (all : List Reception) (was : Heard) (r : Result (Unit {0}) Refusal) (lines : List ℕ) (n : ℕ) → r ≡ found was.coming → is_ok r ≡ false → Listed all lines n was.coming
    → codes "heard " ++ (decimal n ++ (end_of_line ++ lines)) ≡ listing_text all
listed_all all was = all_listed all was.coming
