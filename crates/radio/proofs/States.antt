-- What follows from what every outlet means. Assumes nothing.
use Rattle.std.proofs.Common.{◌≡◌, ℕ, ◌+◌, ◌%◌, ◌<◌, ◌≤◌, min, Bool, true, false, leb, List, [], ◌∷◌, ◌++◌, length, get_or, take, drop, Some, None, Ok, Err, Option, Result, sym, refl, ap, ◌∙◌, subst, append_assoc, mod-eq_of_lt, arith, le-leb, leb-false, leb-true}
use borrow.Author.Tests.{lt-leb}
use Rattle.std.proofs.lemmas.List.{append-nil, length-append, drop-drop, drop_at, take_more}
use Rattle.std.proofs.lemmas.List.Concat.{flat_map-append}
use Rattle.std.specs.List.{flat_map}
use Rattle.refusal.specs.declared.Refusal.{Refusal}
use Rattle.refusal.specs.declared.Refusal.TheVariants.{Argument, Turn as OutOfTurn, Uneven, Space}
use Rattle.radio.specs.declared.turn.Turn.{Turn}
use Rattle.radio.specs.declared.turn.Turn.TheVariants.{Idle, Owing, Stuck}
use Rattle.radio.specs.Layer.{Pile, unit_of, sent_through}
use Rattle.radio.specs.Outlets.{State, Sound, GoesOn, Begun, Put, Ended, Written, Stored, Puts, CallsWrite, message, unit, laid_over, answer, Leaves, unless, idle, a_preamble, even, out_of_form, begin_refusal, put_refusal, end_refusal, needed, start, stop, less}

pub unit_positive : (ls : Pile) (u : ℕ) → 1 ≤ u → 1 ≤ unit_of ls u
unit_positive [] u h = h
unit_positive (l ∷ ls) u h = l.laws.positive (unit_of ls u) (unit_positive ls u h)

pub sound_unit : (s : State) → Sound s → 1 ≤ unit s
sound_unit s h = unit_positive s.pile s.ground_unit h.grounded

-- a count of at most 65,534 against a unit that may be larger
pub min_same : (k u : ℕ) → k ≤ 65534 → k % min u 65535 ≡ k % u
min_same k u h = go (leb u 65535) refl where
  go : (b : Bool) → leb u 65535 ≡ b → k % min u 65535 ≡ k % u
  go true e = let l : u ≤ 65535 = leb-true u 65535 e in ap (λ v. k % v) (omega arith)
  go false e = let l : 65535 < u = leb-false u 65535 e in mod-eq_of_lt (omega arith) ∙ sym (mod-eq_of_lt (omega arith))

-- what was answered before the space was looked at
module _ (p k : ℕ) (s : State) where
  form_ok_at : (a b c : Bool) → answer (unless a Argument (unless b OutOfTurn (unless c Uneven None))) ≡ Ok tt → (rest : Option Refusal) → unless a Argument (unless b OutOfTurn (unless c Uneven rest)) ≡ rest
  form_ok_at true true true e rest = refl
  form_ok_at true true false e rest = cc
  form_ok_at true false c e rest = cc
  form_ok_at false b c e rest = cc

  form_no_at : (a b c : Bool) (r : Refusal) → answer (unless a Argument (unless b OutOfTurn (unless c Uneven None))) ≡ Err r → (rest : Option Refusal) → unless a Argument (unless b OutOfTurn (unless c Uneven rest)) ≡ Some r
  form_no_at true true true r e rest = cc
  form_no_at true true false r e rest = cc
  form_no_at true false c r e rest = cc
  form_no_at false b c r e rest = cc

  pub form_ok : answer (out_of_form p k s None) ≡ Ok tt → (rest : Option Refusal) → out_of_form p k s rest ≡ rest
  form_ok = form_ok_at (a_preamble p) (idle s.turn) (even k (unit s))

  pub form_no : (r : Refusal) → answer (out_of_form p k s None) ≡ Err r → (rest : Option Refusal) → out_of_form p k s rest ≡ Some r
  form_no = form_no_at (a_preamble p) (idle s.turn) (even k (unit s))

  pub no_space : Ok tt ≡ answer (out_of_form p k s None) → s.space < needed p k s → Err Space ≡ answer (begin_refusal p k s)
  no_space e h = ap answer (sym (form_ok (sym e) (unless (leb (needed p k s) s.space) Space None) ∙ ap (λ b. unless b Space None) (lt-leb (needed p k s) s.space h)))

  pub no_form : (r : Refusal) → Err r ≡ answer (out_of_form p k s None) → Err r ≡ answer (begin_refusal p k s)
  no_form r e = ap answer (sym (form_no r (sym e) (unless (leb (needed p k s) s.space) Space None)))

-- the memory with more of the channel at its start
pub laid_further : (cells : ℕ → List ℕ) (channel more memory : List ℕ) → laid_over cells (channel ++ more) (laid_over cells channel memory) ≡ laid_over cells (channel ++ more) memory
laid_further cells channel more memory =
    let J = flat_map cells channel in
    let K = flat_map cells more in
    let n : length (flat_map cells (channel ++ more)) ≡ length J + length K = ap length (flat_map-append cells channel more) ∙ length-append J K in
    ap (λ ys. flat_map cells (channel ++ more) ++ ys)
    (ap (λ k. drop k (J ++ drop (length J) memory)) n
    ∙ sym (drop-drop (length K) (length J) (J ++ drop (length J) memory))
    ∙ ap (drop (length K)) (drop_at J (drop (length J) memory) (length J) refl)
    ∙ drop-drop (length K) (length J) memory
    ∙ ap (λ k. drop k memory) (sym n)
    )

pub goes_nowhere : (s : State) → Sound s → GoesOn s s
goes_nowhere s h = record { pile = refl; ground_unit = refl; cells = refl; grows = ([], sym (append-nil s.channel)); memory = h.laid }

pub goes_further : (s t u : State) → GoesOn s t → GoesOn t u → GoesOn s u
goes_further s t u g h = record {
  pile = h.pile ∙ g.pile;
  ground_unit = h.ground_unit ∙ g.ground_unit;
  cells = h.cells ∙ g.cells;
  grows = (g.grows.0 ++ h.grows.0, h.grows.1 ∙ ap (λ c. c ++ h.grows.0) g.grows.1 ∙ append_assoc s.channel g.grows.0 h.grows.0);
  memory =
      let e = h.grows.1 in
      h.memory
      ∙ ap (λ c. laid_over c u.channel t.memory) g.cells
      ∙ ap (laid_over s.cells u.channel) g.memory
      ∙ ap (λ c. laid_over s.cells c (laid_over s.cells t.channel s.memory)) e
      ∙ laid_further s.cells t.channel h.grows.0 s.memory
      ∙ ap (λ c. laid_over s.cells c s.memory) (sym e);
}

pub less_less : (t : Turn) (j k : ℕ) → less (less t j) k ≡ less t (j + k)
less_less Idle j k = refl
less_less (Owing n) j k = ap Owing (omega arith)
less_less Stuck j k = refl

less_none : (t : Turn) → t ≡ less t 0
less_none Idle = refl
less_none (Owing n) = ap Owing (omega arith)
less_none Stuck = refl

pub put_none : (s : State) → Sound s → Put [] s s
put_none s h = record { turn = less_none s.turn; space = refl; once_put = λ zs. refl; goes_on = goes_nowhere s h }

pub put_further : (xs ys : List ℕ) (s t u : State) → Put xs s t → Put ys t u → Put (xs ++ ys) s u
put_further xs ys s t u p q = record {
  turn = q.turn ∙ ap (λ v. less v (length ys)) p.turn ∙ less_less s.turn (length xs) (length ys) ∙ ap (less s.turn) (sym (length-append xs ys));
  space = q.space ∙ p.space;
  once_put = λ zs. q.once_put zs ∙ p.once_put (ys ++ zs) ∙ ap s.once_put (sym (append_assoc xs ys zs));
  goes_on = goes_further s t u p.goes_on q.goes_on;
}

pub put_more : (xs : List ℕ) (i x : ℕ) (s t u : State) → i < length xs → x ≡ get_or xs i 0 → Put (take i xs) s t → Put (x ∷ []) t u → Put (take (i + 1) xs) s u
put_more xs i x s t u h e p q =
    subst (λ (ys : List ℕ). Put ys s u) (ap (λ y. take i xs ++ (y ∷ [])) e ∙ sym (take_more xs i 0 h)) (put_further (take i xs) (x ∷ []) s t u p q)

-- an octet that is owed is not refused
pub put_accepted : (k n : ℕ) (t : Turn) → t ≡ Owing n → k ≤ n → Ok tt ≡ answer (put_refusal k t)
put_accepted k n t e h = ap answer (sym (ap (put_refusal k) e ∙ ap (λ b. unless b OutOfTurn None) (le-leb k n h)))

pub end_accepted : (t : Turn) → t ≡ Owing 0 → Ok tt ≡ answer (end_refusal t)
end_accepted t e = ap (λ u. answer (end_refusal u)) (sym e)

-- what an accepted call leaves
module _ {A : Type 0} (did : State → State → Type 0) (state : A → State) (r : Result (Unit {0}) Refusal) (a b : A) (ok : r ≡ Ok tt) where
  pub did_ok : Leaves did state r a b → did (state a) (state b)
  did_ok h = subst (λ (x : Result (Unit {0}) Refusal). Leaves did state x a b) ok h

-- one whole message
pub whole_message : (p : ℕ) (xs : List ℕ) (s t u v : State) → Sound u → Begun p (length xs) s t → Put xs t u → Ended u v → Written p xs s v
whole_message p xs s t u v ok b q e = record {
  turn = e.turn;
  space = e.space ∙ q.space ∙ b.space;
  channel =
      e.channel
      ∙ ap (λ c. c ++ stop) (ok.none_put ∙ q.once_put [] ∙ b.once_put (xs ++ []) ∙ ap (λ ys. t.channel ++ sent_through s.pile ys) (append-nil xs) ∙ ap (λ c. c ++ sent_through s.pile xs) b.channel)
      ∙ append_assoc (s.channel ++ start p) (sent_through s.pile xs) stop
      ∙ append_assoc s.channel (start p) (sent_through s.pile xs ++ stop);
  goes_on = goes_further s t v b.goes_on (goes_further t u v q.goes_on e.goes_on);
}

puts_all : (xs : List ℕ) (s t : State) → Sound t → Puts xs s t → Put xs s t
puts_all [] s t h e = subst (λ (r : State). Put [] r t) (sym e) (put_none t h)
puts_all (x ∷ xs) s t h p = put_further (x ∷ []) xs s p.0 t p.1.0 (puts_all xs p.0 t h p.1.1)

pub calls_write : CallsWrite
calls_write p xs s t u v h b q e = whole_message p xs s t u v h b (puts_all xs t u h q) e

answer_ok : (o : Option Refusal) → Ok tt ≡ answer o → o ≡ None
answer_ok None e = refl
answer_ok (Some r) e = cc

answer_err : (o : Option Refusal) (r : Refusal) → Err r ≡ answer o → o ≡ Some r
answer_err None r e = cc
answer_err (Some q) r e = cc

-- one message in a memory that held none
module _ {A : Type 0} (state : A → State) (a b : A) (s : State) (p : ℕ) (xs : List ℕ) (is : state a ≡ s) (none : s.channel ≡ []) where
  pub stored_ok : (n : ℕ) → n ≡ (state b).space → Ok tt ≡ answer (begin_refusal p (length xs) (state a)) → Written p xs (state a) (state b) → Stored p xs s (Ok n) (state b).memory
  stored_ok n e h w =
      let w' : Written p xs s (state b) = subst (λ (t : State). Written p xs t (state b)) is w in (
        answer_ok (begin_refusal p (length xs) s) (h ∙ ap (λ t. answer (begin_refusal p (length xs) t)) is),
        e ∙ w'.space,
        w'.goes_on.memory ∙ ap (λ c. laid_over s.cells c s.memory) (w'.channel ∙ ap (λ c. c ++ message s.pile p xs) none),
      )

  pub stored_err : (r : Refusal) → Err r ≡ answer (begin_refusal p (length xs) (state a)) → b ≡ a → Stored p xs s (Err r) (state b).memory
  stored_err r h e = (answer_err (begin_refusal p (length xs) s) r (h ∙ ap (λ t. answer (begin_refusal p (length xs) t)) is), ap (λ x. (state x).memory) e ∙ ap (λ t. t.memory) is)
