-- What a sending half comes to. Assumes nothing.
use Rattle.std.proofs.Common.{◌≡◌, ℕ, zero, suc, ◌+◌, ◌-◌, ◌*◌, ◌/◌, ◌%◌, ◌<◌, ◌≤◌, take, replicate, Bool, true, false, cond, ◌||◌, eqb, leb, List, [], ◌∷◌, ◌++◌, length, None, Ok, Err, Option, sym, refl, ap, ◌∙◌, ⊎_elim, mul_assoc, mul_comm, add-mul, one-mul, div-add-mod', mul-div_cancel, add-one, arith, eq-eqb, ne_eqb, eqb-true, le-leb}
use native.Mathlib.Bridge.{le_prop}
use native.Mathlib.Nat.{div-add-mod, mul-div_right, mul-mod_left, mul-mod_right}
use Rattle.std.proofs.lemmas.List.{length_push, append_assoc, take_all, take-append-le, replicate-append-replicate}
use Rattle.std.proofs.lemmas.Bool.{and_parts, and_from, or_cases}
use Rattle.arrayvec.specs.ArrayVec.{ArrayVec, array_vec_len}
use Rattle.refusal.specs.declared.Refusal.{Refusal}
use Rattle.refusal.specs.declared.Refusal.TheVariants.{Argument, Turn as OutOfTurn, Uneven, Space}
use Rattle.radio.specs.declared.turn.Turn.{Turn}
use Rattle.radio.specs.declared.turn.Turn.TheVariants.{Idle, Owing, Stuck}
use Rattle.radio.specs.Layer.{Pile, cost_of}
use Rattle.radio.specs.Lines.{tail}
use Rattle.radio.specs.Outlets.{State, Sound, GoesOn, Begun, Put, Ended, unit, answer, unless, idle, a_preamble, even, out_of_form, begin_refusal, put_refusal, needed, less}
use Rattle.radio.proofs.States.{form_ok, no_space, put_accepted, goes_nowhere}
use Rattle.radio.specs.declared.outlet.Outlet.{Ghosts as OutletOf}
use Rattle.coding.specs.declared.Coding.{Ghosts as CodingOf}
use Rattle.sending.specs.declared.Sending.{Sending}
use Rattle.coding.specs.Regroup.{regroup}
use Rattle.coding.specs.Grouping.{Grouping, groups_in, counted}
use Rattle.coding.specs.Lift.{layer_of, some_coded, groups_of}
use Rattle.sending.specs.Outgoing.{turn_over, over_outlet, SendsCoding}

times_suc : (j q : ℕ) → suc j * q ≡ j * q + q
times_suc j q = ap (λ i. i * q) (sym (add-one j)) ∙ add-mul j 1 q ∙ ap (λ r. j * q + r) (one-mul q)

-- what stays below stays above
pub half_goes : (c : Grouping) (h h' : List ℕ) (b b' : State) → GoesOn b b' → GoesOn (over_outlet c h b) (over_outlet c h' b')
half_goes c h h' b b' r = record { pile = ap (λ ls. layer_of c ∷ ls) r.pile; ground_unit = r.ground_unit; cells = r.cells; grows = r.grows; memory = r.memory }

module _ (c : Grouping) where
  turn_at : (k h : ℕ) → turn_over c.plain c.coded (Owing (k * c.coded)) h ≡ Owing (k * c.plain - h)
  turn_at k h = ap (λ r. cond (eqb r 0) (Owing (k * c.coded / c.coded * c.plain - h)) Stuck) (mul-mod_left k c.coded) ∙ ap (λ q. Owing (q * c.plain - h)) (mul-div_cancel k (some_coded c))

  -- what a half that is owed octets says of the outlet below
  record Below (t : Turn) (h n : ℕ) : Type 0 where
    groups : ℕ
    is : t ≡ Owing (groups * c.coded)
    left : n ≡ groups * c.plain - h

  below_owing : (m h n : ℕ) (b : Bool) → eqb (m % c.coded) 0 ≡ b → cond b (Owing (m / c.coded * c.plain - h)) Stuck ≡ Owing n → Below (Owing m) h n
  below_owing m h n true e o = record {
    groups = m / c.coded;
    is = let z : m % c.coded ≡ 0 = eqb-true (m % c.coded) 0 e in let d : m / c.coded * c.coded + m % c.coded ≡ m = div-add-mod' m c.coded in ap Owing (omega arith);
    left = cc;
  }
  below_owing m h n false e o = let z : ◌≡◌ {A = ℕ} 0 1 = cc in absurd (omega arith)

  turn_owing : (t : Turn) (h n : ℕ) → turn_over c.plain c.coded t h ≡ Owing n → Below t h n
  turn_owing Idle h n e = let z : ◌≡◌ {A = ℕ} 0 1 = cc in absurd (omega arith)
  turn_owing (Owing m) h n e = below_owing m h n (eqb (m % c.coded) 0) refl e
  turn_owing Stuck h n e = let z : ◌≡◌ {A = ℕ} 0 1 = cc in absurd (omega arith)

  idle_owing : (m h : ℕ) (b : Bool) → idle (cond b (Owing (m / c.coded * c.plain - h)) Stuck) ≡ true → ⊥
  idle_owing m h true e = let z : ◌≡◌ {A = ℕ} 0 1 = cc in omega arith
  idle_owing m h false e = let z : ◌≡◌ {A = ℕ} 0 1 = cc in omega arith

  idle_below : (t : Turn) (h : ℕ) → idle (turn_over c.plain c.coded t h) ≡ true → t ≡ Idle
  idle_below Idle h e = refl
  idle_below (Owing m) h e = absurd (idle_owing m h (eqb (m % c.coded) 0) e)
  idle_below Stuck h e = let z : ◌≡◌ {A = ℕ} 0 1 = cc in absurd (omega arith)

  -- a count that is a multiple of the half's unit, in groups
  module _ (u k : ℕ) (multiple : k % (c.plain * u) ≡ 0) where
    abbrev q : ℕ
    q = u * (k / (c.plain * u))

    k_is : k ≡ c.plain * q
    k_is =
        let d = div-add-mod k (c.plain * u) in
        let a = mul_assoc c.plain u (k / (c.plain * u)) in
        omega arith

    q_is : k / c.plain ≡ q
    q_is = ap (λ n. n / c.plain) k_is ∙ mul-div_right q c.some

    pub count_is : counted c k ≡ k / c.plain * c.coded
    count_is = ap (λ n. c.coded * groups_in c n) k_is ∙ ap (λ n. c.coded * n) (groups_of c q) ∙ mul_comm c.coded q ∙ ap (λ n. n * c.coded) (sym q_is)

    pub even_below : (k / c.plain * c.coded) % u ≡ 0
    even_below = ap (λ n. (n * c.coded) % u) q_is ∙ ap (λ n. n % u) (mul_assoc u (k / (c.plain * u)) c.coded) ∙ mul-mod_right u (k / (c.plain * u) * c.coded)

    pub owed_all : turn_over c.plain c.coded (Owing (k / c.plain * c.coded)) 0 ≡ Owing k
    owed_all = ap (λ n. turn_over c.plain c.coded (Owing (n * c.coded)) 0) q_is ∙ turn_at q 0 ∙ ap Owing (let m = mul_comm c.plain q in let e = k_is in omega arith)

-- what was checked before the space was looked at
form_parts : (a b d : Bool) → answer (unless a Argument (unless b OutOfTurn (unless d Uneven None))) ≡ Ok tt → (a ≡ true) × ((b ≡ true) × (d ≡ true))
form_parts true true true e = (refl, (refl, refl))
form_parts true true false e = let z : ◌≡◌ {A = ℕ} 0 1 = cc in absurd (omega arith)
form_parts true false d e = let z : ◌≡◌ {A = ℕ} 0 1 = cc in absurd (omega arith)
form_parts false b d e = let z : ◌≡◌ {A = ℕ} 0 1 = cc in absurd (omega arith)

cost_no_less : (ls : Pile) (n : ℕ) → n ≤ cost_of ls n
cost_no_less [] n = omega arith
cost_no_less (l ∷ ls) n = let a = l.laws.no_less n in let b = cost_no_less ls (l.count n) in omega arith

a_preamble_three : (p : ℕ) → a_preamble p ≡ true → 3 ≤ p
a_preamble_three p e = ⊎_elim (λ f. let g : p ≡ 3 = eqb-true p 3 f in omega arith) (λ f. ⊎_elim (λ g. let i : p ≡ 38 = eqb-true p 38 g in omega arith) (λ g. let i : p ≡ 250 = eqb-true p 250 g in omega arith) (or_cases (eqb p 38) (eqb p 250) f)) (or_cases (eqb p 3) (eqb p 38 || eqb p 250) e)

-- beginning
module _ (c : Grouping) (h : List ℕ) (b : State) (p k : ℕ) (form : Ok tt ≡ answer (out_of_form p k (over_outlet c h b) None)) where
  parts : (a_preamble p ≡ true) × ((idle (turn_over c.plain c.coded b.turn (length h)) ≡ true) × (even k (c.plain * unit b) ≡ true))
  parts = form_parts (a_preamble p) (idle (turn_over c.plain c.coded b.turn (length h))) (even k (c.plain * unit b)) (sym form)

  idle_is : b.turn ≡ Idle
  idle_is = idle_below c b.turn (length h) parts.1.0

  multiple : k % (c.plain * unit b) ≡ 0
  multiple = eqb-true (k % (c.plain * unit b)) 0 (and_parts (leb k 65534) (eqb (k % (c.plain * unit b)) 0) parts.1.1).1

  abbrev n : ℕ
  n = k / c.plain * c.coded

  -- a count that passes every space
  pub too_many : Sound b → 65534 < n → Err Space ≡ answer (begin_refusal p k (over_outlet c h b))
  too_many s l =
      let e : counted c k ≡ n = count_is c (unit b) k multiple in
      let a = cost_no_less b.pile (counted c k) in
      let three = a_preamble_three p parts.0 in
      let sp : b.space ≤ 65536 = s.spaced in
      no_space p k (over_outlet c h b) form (omega arith)

  -- the half answers what the outlet below answers
  pub same_answer : n ≤ 65534 → answer (begin_refusal p n b) ≡ answer (begin_refusal p k (over_outlet c h b))
  same_answer l =
      let fits : even n (unit b) ≡ true = and_from (leb n 65534) (eqb (n % unit b) 0) (le-leb n 65534 l) (eq-eqb (n % unit b) 0 (even_below c (unit b) k multiple)) in
      let rest : Option Refusal = unless (leb (needed p n b) b.space) Space None in
      ap answer
      (ap (λ t. unless t Argument (unless (idle b.turn) OutOfTurn (unless (even n (unit b)) Uneven rest))) parts.0
      ∙ ap (λ t. unless (idle t) OutOfTurn (unless (even n (unit b)) Uneven rest)) idle_is
      ∙ ap (λ t. unless t Uneven rest) fits
      ∙ ap (λ m. unless (leb (p + 2 + cost_of b.pile m) b.space) Space None) (sym (count_is c (unit b) k multiple))
      ∙ sym (form_ok p k (over_outlet c h b) (sym form) (unless (leb (needed p k (over_outlet c h b)) b.space) Space None))
      )

  pub begun_half : (h' : List ℕ) (b' : State) → h' ≡ [] → Begun p n b b' → Begun p k (over_outlet c h b) (over_outlet c h' b')
  begun_half h' b' none r = record {
    turn = ap (λ t. turn_over c.plain c.coded t (length h')) r.turn ∙ ap (λ l. turn_over c.plain c.coded (Owing n) (length l)) none ∙ owed_all c (unit b) k multiple;
    space = r.space ∙ ap (λ m. b.space - (p + 2 + cost_of b.pile m)) (sym (count_is c (unit b) k multiple));
    channel = r.channel;
    once_put = λ xs. ap (λ l. b'.once_put (regroup c.plain c.code l xs)) none ∙ r.once_put (regroup c.plain c.code [] xs);
    goes_on = half_goes c h h' b b' r.goes_on;
  }

-- octets and one more behind them, of an array that has them at its start and is filled up with that one
pub one_behind : (h : List ℕ) (x : ℕ) → length h < 8 → take (length h + 1) (take 8 h ++ replicate (8 - length h) x) ≡ h ++ x ∷ []
one_behind h x few =
    let r : List ℕ = replicate (7 - length h) x in
    let more : replicate (8 - length h) x ≡ x ∷ r = ap (λ n. replicate n x) (let m : 8 - length h ≡ 1 + (7 - length h) = omega arith in m) ∙ sym (replicate-append-replicate 1 (7 - length h) x) in
    let long : length (h ++ x ∷ []) ≡ length h + 1 = length_push h x in
    ap (λ z. take (length h + 1) (z ++ replicate (8 - length h) x)) (take_all 8 h (omega arith))
    ∙ ap (λ z. take (length h + 1) (h ++ z)) more
    ∙ ap (take (length h + 1)) (sym (append_assoc h (x ∷ []) r))
    ∙ take-append-le (length h + 1) (h ++ x ∷ []) r (omega (arith, long))
    ∙ take_all (length h + 1) (h ++ x ∷ []) (omega (arith, long))

-- putting
module _ (c : Grouping) (h : List ℕ) (b : State) (x n : ℕ) (owes : turn_over c.plain c.coded b.turn (length h) ≡ Owing n) (some : 0 < n) where
  under : Below c b.turn (length h) n
  under = turn_owing c b.turn (length h) n owes

  pub held_on : (h' : List ℕ) → Sound b → h' ≡ h ++ (x ∷ []) → length h + 1 < c.plain → Put (x ∷ []) (over_outlet c h b) (over_outlet c h' b)
  held_on h' s e short = record {
    turn =
        let left : n ≡ under.groups * c.plain - length h = under.left in
        let l : length h' ≡ length h + 1 = ap length e ∙ length_push h x in
        ap (λ t. turn_over c.plain c.coded t (length h')) under.is ∙ turn_at c under.groups (length h') ∙ ap Owing (omega arith) ∙ sym (ap (λ t. less t 1) owes);
    space = refl;
    once_put = λ ys.
        ap (λ l. b.once_put (regroup c.plain c.code l ys)) e
        ∙ ap (λ t. b.once_put (cond t (c.code (h ++ (x ∷ [])) ++ regroup c.plain c.code [] ys) (regroup c.plain c.code (h ++ (x ∷ [])) ys))) (sym (ne_eqb (length h + 1) c.plain (λ q. omega arith)));
    goes_on = half_goes c h h' b b (goes_nowhere b s);
  }

  module _ (full : length h + 1 ≡ c.plain) where
    code_length : length (c.code (h ++ (x ∷ []))) ≡ c.coded
    code_length = c.code_length (h ++ (x ∷ [])) (length_push h x ∙ full)

    at_least : (j : ℕ) → n ≡ j * c.plain - length h → c.coded ≤ j * c.coded
    at_least zero e = absurd (let z : 0 * c.plain ≡ 0 = omega arith in omega arith)
    at_least (suc j) e = let z = times_suc j c.coded in omega arith

    -- a whole group is owed below
    pub group_accepted : Ok tt ≡ answer (put_refusal c.coded b.turn)
    group_accepted = put_accepted c.coded (under.groups * c.coded) b.turn under.is (at_least under.groups under.left)

    one_less : (j : ℕ) → n ≡ j * c.plain - length h → turn_over c.plain c.coded (Owing (j * c.coded - c.coded)) 0 ≡ Owing (n - 1)
    one_less zero e = absurd (let z : 0 * c.plain ≡ 0 = omega arith in omega arith)
    one_less (suc j) e =
        let u = times_suc j c.coded in
        let v = times_suc j c.plain in
        let w : suc j * c.coded - c.coded ≡ j * c.coded = omega arith in
        ap (λ m. turn_over c.plain c.coded (Owing m) 0) w ∙ turn_at c j 0 ∙ ap Owing (omega arith)

    pub written_on : (h' : List ℕ) (b' : State) → h' ≡ [] → Put (c.code (h ++ (x ∷ []))) b b' → Put (x ∷ []) (over_outlet c h b) (over_outlet c h' b')
    written_on h' b' none put = record {
      turn =
          ap (λ t. turn_over c.plain c.coded t (length h')) (put.turn ∙ ap (λ t. less t (length (c.code (h ++ (x ∷ []))))) under.is ∙ ap (λ m. Owing (under.groups * c.coded - m)) code_length)
          ∙ ap (λ l. turn_over c.plain c.coded (Owing (under.groups * c.coded - c.coded)) (length l)) none
          ∙ one_less under.groups under.left
          ∙ sym (ap (λ t. less t 1) owes);
      space = put.space;
      once_put = λ ys.
          ap (λ l. b'.once_put (regroup c.plain c.code l ys)) none
          ∙ put.once_put (regroup c.plain c.code [] ys)
          ∙ ap (λ t. b.once_put (cond t (c.code (h ++ (x ∷ [])) ++ regroup c.plain c.code [] ys) (regroup c.plain c.code (h ++ (x ∷ [])) ys))) (sym (eq-eqb (length h + 1) c.plain full));
      goes_on = half_goes c h h' b b' put.goes_on;
    }

-- ending
pub below_none : (c : Grouping) (t : Turn) (h : ℕ) → h < c.plain → turn_over c.plain c.coded t h ≡ Owing 0 → t ≡ Owing 0
below_none c t h l o =
    let u = turn_owing c t h 0 o in
    u.is ∙ ap (λ j. Owing (j * c.coded)) (none u.groups u.left) ∙ ap Owing (omega arith)
  where
    none : (j : ℕ) → 0 ≡ j * c.plain - h → j ≡ 0
    none zero e = refl
    none (suc j) e = let v = times_suc j c.plain in absurd (omega arith)

pub ended_half : (c : Grouping) (h : List ℕ) (b b' : State) → Ended b b' → Ended (over_outlet c h b) (over_outlet c h b')
ended_half c h b b' e = record {
  turn = ap (λ t. turn_over c.plain c.coded t (length h)) e.turn;
  space = e.space;
  channel = e.channel;
  goes_on = half_goes c h h b b' e.goes_on;
}

-- a half over another outlet below that is the same
pub same_but_below : {C O : Type 0} {codes : CodingOf C} {writes : OutletOf O} (y y' : O) (k : C) (held : ArrayVec ℕ) (l l' : array_vec_len held < codes.grouping.plain) → y ≡ y'
    → ◌≡◌ {A = Sending C O codes writes} (record { below = y; coding = k; held = held; unfinished = l }) (record { below = y'; coding = k; held = held; unfinished = l' })
same_but_below {C} {O} {codes} {writes} y y' k held l l' e =
    let F : O → array_vec_len held < codes.grouping.plain → Sending C O codes writes = λ z m. record { below = z; coding = k; held = held; unfinished = m } in
    ap (λ z. F z l) e ∙ ap (F y') (le_prop l l')

-- a message through a half is its coding below
pub sends_coding : SendsCoding
sends_coding c held held' b b' p xs one fit w =
    let k = ((layer_of c).laws.fixed (unit b) xs one fit).0 in
    record {
      turn = idle_below c b'.turn (length held') (ap idle w.turn);
      space = w.space ∙ ap (λ m. b.space - (p + 2 + cost_of b.pile m)) (sym k);
      channel = w.channel;
      goes_on = record { pile = ap tail w.goes_on.pile; ground_unit = w.goes_on.ground_unit; cells = w.goes_on.cells; grows = w.goes_on.grows; memory = w.goes_on.memory };
    }
