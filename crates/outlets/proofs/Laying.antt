-- What writing cells does to what an outlet over a memory means. Assumes nothing.
use Rattle.std.proofs.Common.{◌≡◌, ℕ, zero, suc, ◌+◌, ◌-◌, ◌*◌, ◌<◌, ◌≤◌, List, [], ◌∷◌, ◌++◌, length, take, drop, replicate, sym, refl, ap, ◌∙◌, append_assoc, add-zero, lit<, subst, mul-suc, mul-add, mul-le-mul_left, arith}
use Rattle.std.specs.Global.{Vec}
use Rattle.std.specs.Vec.{with_items}
use Rattle.std.proofs.lemmas.List.{with_items_is, append-nil, replicate_more, length-append, length-take-le, length-replicate, take_at, drop_at, drop-drop, take-append-drop}
use Rattle.radio.specs.declared.turn.Turn.{Turn}
use Rattle.radio.specs.declared.turn.Turn.TheVariants.{Idle, Owing}
use Rattle.radio.specs.Outlets.{GoesOn, Begun, Ended, Put, laid_over, start, stop, less}
use Rattle.radio.specs.Layer.{Octets}
use Rattle.std.proofs.lemmas.Grind.{flat_map-append}
use Rattle.std.specs.List.{flat_map}
use Rattle.outlets.specs.Placement.{Placement}
use Rattle.outlets.specs.Bottoms.{bottom, written_at, Laid}

module _ (memory : List ℕ) (n : ℕ) (xs : List ℕ) (k : ℕ) (at : k ≡ n + length xs) (fits : k ≤ length memory) where
  pub front_length : length (take n memory ++ xs) ≡ k
  front_length =
      let e = length-append (take n memory) xs in
      let f : length (take n memory) ≡ n = length-take-le n memory (omega arith) in
      omega arith

  pub take_written : take k (written_at memory n xs) ≡ take n memory ++ xs
  take_written = ap (take k) (sym (append_assoc (take n memory) xs (drop (n + length xs) memory))) ∙ take_at _ _ k front_length

  pub drop_written : drop k (written_at memory n xs) ≡ drop k memory
  drop_written = ap (drop k) (sym (append_assoc (take n memory) xs (drop (n + length xs) memory))) ∙ drop_at _ _ k front_length ∙ ap (λ j. drop j memory) (sym at)

  -- what is written next goes behind what was written
  pub written_further : (ys : List ℕ) → written_at (written_at memory n xs) k ys ≡ written_at memory n (xs ++ ys)
  written_further ys =
      let l = length-append xs ys in
      ap (λ zs. zs ++ (ys ++ drop (k + length ys) (written_at memory n xs))) take_written
      ∙ ap (λ zs. (take n memory ++ xs) ++ (ys ++ zs)) (sym (drop-drop (length ys) k (written_at memory n xs)) ∙ ap (drop (length ys)) drop_written ∙ drop-drop (length ys) k memory)
      ∙ append_assoc (take n memory) xs (ys ++ drop (k + length ys) memory)
      ∙ ap (λ zs. take n memory ++ zs) (sym (append_assoc xs ys (drop (k + length ys) memory)))
      ∙ ap (λ j. take n memory ++ ((xs ++ ys) ++ drop j memory)) (omega arith)

pub length_start : (p : ℕ) → length (start p) ≡ p + 1
length_start p = length-append (replicate p 240) (204 ∷ []) ∙ ap (λ n. n + 1) (length-replicate p 240)

-- the channel grown by these octets, and the memory with it
pub record Lays (cells : ℕ → List ℕ) (channel memory xs channel' memory' : List ℕ) : Type 0 where
  pub channel_is : channel' ≡ channel ++ xs
  pub memory_is : memory' ≡ laid_over cells (channel ++ xs) memory

module _ (cells : ℕ → List ℕ) (ch m xs ch' m' : List ℕ) (l : Lays cells ch m xs ch' m') (t : Turn) (r : ℕ) where
  bottom_goes : (t' : Turn) (r' : ℕ) → GoesOn (bottom cells ch m t r) (bottom cells ch' m' t' r')
  bottom_goes t' r' = record {
    pile = refl;
    ground_unit = refl;
    cells = refl;
    grows = (xs, l.channel_is);
    memory = l.memory_is ∙ ap (λ c. laid_over cells c m) (sym l.channel_is);
  }

  pub bottom_put : (n n' : ℕ) → t ≡ Owing n → n' ≡ n - length xs → Put xs (bottom cells ch m t r) (bottom cells ch' m' (Owing n') r)
  bottom_put n n' e f = record {
    turn = ap Owing f ∙ sym (ap (λ u. less u (length xs)) e);
    space = refl;
    once_put = λ ys. ap (λ c. c ++ ys) l.channel_is ∙ append_assoc ch xs ys;
    goes_on = bottom_goes (Owing n') r;
  }

pub bottom_begun : (cells : ℕ → List ℕ) (ch m ch' m' : List ℕ) (p k : ℕ) → Lays cells ch m (start p) ch' m' → (t : Turn) (r : ℕ)
    → Begun p k (bottom cells ch m t r) (bottom cells ch' m' (Owing k) (r - (p + 2 + k)))
bottom_begun cells ch m ch' m' p k l t r = record {
  turn = refl;
  space = refl;
  channel = l.channel_is;
  once_put = λ xs. refl;
  goes_on = bottom_goes cells ch m (start p) ch' m' l t r (Owing k) (r - (p + 2 + k));
}

pub bottom_ended : (cells : ℕ → List ℕ) (ch m ch' m' : List ℕ) → Lays cells ch m stop ch' m' → (t : Turn) (r : ℕ) → Ended (bottom cells ch m t r) (bottom cells ch' m' Idle r)
bottom_ended cells ch m ch' m' l t r = record {
  turn = refl;
  space = refl;
  channel = l.channel_is;
  goes_on = bottom_goes cells ch m stop ch' m' l t r Idle r;
}

pub octets_start : (p : ℕ) → Octets (start p)
octets_start zero = (lit< tt, tt)
octets_start (suc p) = (lit< tt, octets_start p)

module _ (p : Placement) where
  cells_length : (xs : List ℕ) → length (flat_map p.of_octet xs) ≡ p.width * length xs
  cells_length [] = omega arith
  cells_length (x ∷ xs) =
      let i = cells_length xs in
      let w = p.wide x in
      let l = length-append (p.of_octet x) (flat_map p.of_octet xs) in
      let m = mul-suc p.width (length xs) in
      omega arith

  enough : (memory : List ℕ) (k : ℕ) → k ≤ p.fitting (length memory) → p.width * k ≤ length (p.of_bytes memory)
  enough memory k h = let m : p.width * k ≤ p.width * p.fitting (length memory) = mul-le-mul_left p.width h in let f = p.fits memory in omega arith

  -- octets written behind those that lie there
  module _ (memory memory' : List ℕ) (used : ℕ) (xs : List ℕ) (k : ℕ) (at : k ≡ used + length xs) (fits : k ≤ p.fitting (length memory)) (whole : Laid p memory used) (octets : Octets xs)
      (laid : p.of_bytes memory' ≡ written_at (p.of_bytes memory) (p.width * used) (flat_map p.of_octet xs)) where
    abbrev B : List ℕ
    B = p.of_bytes memory

    abbrev J : List ℕ
    J = flat_map p.of_octet xs

    reach : p.width * k ≡ p.width * used + length J
    reach = let j = cells_length xs in let m = mul-add p.width used (length xs) in ap (λ n. p.width * n) at ∙ omega arith

    within : p.width * k ≤ length B
    within = enough memory k fits

    channel_is : p.octets_in k (p.of_bytes memory') ≡ p.octets_in used B ++ xs
    channel_is =
        let w = within in
        let r = reach in
        let front = take (p.width * used) B in
        let l : length front ≡ p.width * used = length-take-le (p.width * used) B (omega arith) in
        let same : p.octets_in used front ≡ p.octets_in used B =
        sym (ap (p.octets_in used) (sym (take-append-drop (p.width * used) B)) ∙ ap (λ n. p.octets_in n (front ++ drop (p.width * used) B)) (sym (add-zero used)) ∙ p.behind used [] front (drop (p.width * used) B) l tt ∙ append-nil (p.octets_in used front)) in
        ap (p.octets_in k) laid
        ∙ ap (λ n. p.octets_in n (written_at B (p.width * used) J)) at
        ∙ p.behind used xs front (drop (p.width * used + length J) B) l octets
        ∙ ap (λ ys. ys ++ xs) same

    cells_are : flat_map p.of_octet (p.octets_in used B ++ xs) ≡ take (p.width * used) B ++ J
    cells_are = flat_map-append p.of_octet (p.octets_in used B) xs ∙ ap (λ ys. ys ++ J) whole

    pub octets_lay : Lays p.of_octet (p.octets_in used B) B xs (p.octets_in k (p.of_bytes memory')) (p.of_bytes memory')
    octets_lay = record {
      channel_is = channel_is;
      memory_is =
          let l = front_length B (p.width * used) J (p.width * k) reach within in
          laid ∙ sym (append_assoc (take (p.width * used) B) J (drop (p.width * used + length J) B))
          ∙ ap (λ j. (take (p.width * used) B ++ J) ++ drop j B) (sym (l ∙ reach))
          ∙ ap (λ ys. ys ++ drop (length ys) B) (sym cells_are);
    }

    pub still_laid : Laid p memory' k
    still_laid = ap (flat_map p.of_octet) channel_is ∙ cells_are ∙ sym (ap (take (p.width * k)) laid ∙ take_written B (p.width * used) J (p.width * k) reach within)

  -- one octet laid behind those of a preamble
  module _ (memory now next : List ℕ) (n i k x : ℕ) (at : k ≡ n + i) (e : p.of_bytes now ≡ written_at (p.of_bytes memory) (p.width * n) (flat_map p.of_octet (replicate i 240))) (fits : k ≤ p.fitting (length memory))
      (laid : p.of_bytes next ≡ written_at (p.of_bytes now) (p.width * k) (p.of_octet x)) where
    pub laid_behind : p.of_bytes next ≡ written_at (p.of_bytes memory) (p.width * n) (flat_map p.of_octet (replicate i 240 ++ (x ∷ [])))
    laid_behind =
        let l : length (replicate {A = ℕ} i 240) ≡ i = length-replicate i 240 in
        let f : length (flat_map p.of_octet (replicate i 240)) ≡ p.width * i = cells_length (replicate i 240) ∙ ap (λ m. p.width * m) l in
        let w = enough memory k fits in
        let m : p.width * k ≡ p.width * n + p.width * i = ap (λ j. p.width * j) at ∙ mul-add p.width n i in
        laid ∙ ap (λ zs. written_at zs (p.width * k) (p.of_octet x)) e
        ∙ written_further (p.of_bytes memory) (p.width * n) (flat_map p.of_octet (replicate i 240)) (p.width * k) (omega arith) w (p.of_octet x)
        ∙ ap (λ zs. written_at (p.of_bytes memory) (p.width * n) (flat_map p.of_octet (replicate i 240) ++ zs)) (sym (append-nil (p.of_octet x)))
        ∙ ap (written_at (p.of_bytes memory) (p.width * n)) (sym (flat_map-append p.of_octet (replicate i 240) (x ∷ [])))

  -- the preamble one octet longer
  pub laid_more : (memory now next : List ℕ) (n i j k : ℕ) → k ≡ n + i → j ≡ i + 1 → p.of_bytes now ≡ written_at (p.of_bytes memory) (p.width * n) (flat_map p.of_octet (replicate i 240)) → k ≤ p.fitting (length memory)
      → p.of_bytes next ≡ written_at (p.of_bytes now) (p.width * k) (p.of_octet 240) → p.of_bytes next ≡ written_at (p.of_bytes memory) (p.width * n) (flat_map p.of_octet (replicate j 240))
  laid_more memory now next n i j k at more e fits laid =
      laid_behind memory now next n i k 240 at e fits laid
      ∙ ap (λ ys. written_at (p.of_bytes memory) (p.width * n) (flat_map p.of_octet ys)) (replicate_more i 240 ∙ ap (λ m. replicate m 240) (sym more))

  -- the same in a Vec that lent its items out to be written
  module _ (v : Vec ℕ) (old new : List ℕ) (used : ℕ) (is : old ≡ v.items) (long : length new ≡ length old) where
    abbrev after : List ℕ
    after = (with_items v new).items

    written : (cells : List ℕ) → p.of_bytes new ≡ written_at (p.of_bytes old) (p.width * used) cells → p.of_bytes after ≡ written_at (p.of_bytes v.items) (p.width * used) cells
    written cells e = ap p.of_bytes (with_items_is v new (long ∙ ap length is ∙ sym v.ok.0)) ∙ e ∙ ap (λ xs. written_at (p.of_bytes xs) (p.width * used) cells) is

    module _ (xs : List ℕ) (k : ℕ) (at : k ≡ used + length xs) (fits : k ≤ p.fitting v.len) (whole : Laid p v.items used) (octets : Octets xs)
        (laid : p.of_bytes new ≡ written_at (p.of_bytes old) (p.width * used) (flat_map p.of_octet xs)) where
      fits_items : k ≤ p.fitting (length v.items)
      fits_items = subst (λ (n : ℕ). k ≤ p.fitting n) v.ok.0 fits

      pub vec_lays : Lays p.of_octet (p.octets_in used (p.of_bytes v.items)) (p.of_bytes v.items) xs (p.octets_in k (p.of_bytes after)) (p.of_bytes after)
      vec_lays = octets_lay v.items after used xs k at fits_items whole octets (written (flat_map p.of_octet xs) laid)

      pub vec_laid : Laid p after k
      vec_laid = still_laid v.items after used xs k at fits_items whole octets (written (flat_map p.of_octet xs) laid)

    -- one octet
    module _ (x : ℕ) (fits : used + 1 ≤ p.fitting v.len) (whole : Laid p v.items used) (small : x < 256) (laid : p.of_bytes new ≡ written_at (p.of_bytes old) (p.width * used) (p.of_octet x)) where
      laid_one : p.of_bytes new ≡ written_at (p.of_bytes old) (p.width * used) (flat_map p.of_octet (x ∷ []))
      laid_one = laid ∙ ap (written_at (p.of_bytes old) (p.width * used)) (sym (append-nil (p.of_octet x)))

      pub one_lays : Lays p.of_octet (p.octets_in used (p.of_bytes v.items)) (p.of_bytes v.items) (x ∷ []) (p.octets_in (used + 1) (p.of_bytes after)) (p.of_bytes after)
      one_lays = vec_lays (x ∷ []) (used + 1) refl fits whole (small, tt) laid_one

      pub one_laid : Laid p after (used + 1)
      one_laid = vec_laid (x ∷ []) (used + 1) refl fits whole (small, tt) laid_one
