-- The message of admissible fields is lawful, gives its fields back, and there is no other lawful message. Assumes nothing.
use Rattle.std.proofs.Common.{◌≡◌, ℕ, ◌+◌, ◌-◌, ◌/◌, ◌%◌, ◌<◌, ◌≤◌, Bool, true, false, ◌&&◌, eqb, ltb, leb, List, [], ◌∷◌, ◌++◌, length, take, drop, Some, None, Decides, sum, Option, sym, refl, ap, ◌∙◌, subst, arith, rules}
use Rattle.std.proofs.ByRecursion.{All-append, All-take, All-drop, All-get_or, sum_by_le, All-weaker, Decides-by_and}
use Rattle.std.proofs.lemmas.List.{append_assoc, length-append, length-take-le, length-drop, take_at, drop_at, take-append-drop, take-take, drop-take}
use Rattle.std.proofs.lemmas.Grind.{common_steps}
use Rattle.std.proofs.lemmas.Bool.Decides.{nat_tests}
use Rattle.std.proofs.lemmas.Bool.{and_from, le-leb, eqb-false, cond-true, cond-false}
use Rattle.std.proofs.lemmas.Bool.Decides.{Decides-and, Decides-like, Decides-ltb, Decides-eqb}
use Rattle.message.specs.Message.{Octets, word, octets_of_word, at, kind, head_length, destination, source, payload, sum_field, Addressed, Lawful, within, addressed, all_octets, lawful, address, head, front, message, admits, Admissible, Format}

-- the last two octets of a list, and what stands in front of them
sum_field_is : (f : List ℕ) (a b : ℕ) → sum_field (f ++ a ∷ b ∷ []) ≡ word a b
sum_field_is f a b = grind (arith, common_steps)

in_front : (f : List ℕ) (a b : ℕ) → take (length (f ++ a ∷ b ∷ []) - 2) (f ++ a ∷ b ∷ []) ≡ f
in_front f a b = grind (arith, common_steps)

-- the sum of at most 72 octets stays below 65,536
pub small_sum : (xs : List ℕ) → Octets xs → length xs ≤ 72 → sum xs ≤ 18360
small_sum xs o l = grind (arith, sum_by_le (λ x. x) 255 xs (All-weaker (λ x. x < 256) (λ x. x ≤ 255) (λ x h. omega arith) xs o))

word_again : (w : ℕ) → word (w / 256) (w % 256) ≡ w
word_again w = omega arith

octets_again : (a b : ℕ) → b < 256 → octets_of_word (word a b) ≡ a ∷ b ∷ []
octets_again a b l =
    let x : word a b / 256 ≡ a = omega arith in
    let y : word a b % 256 ≡ b = omega arith in
    cc

-- what a head shows in front of any octets
record Headed (k : ℕ) (d : Option ℕ) (s n : ℕ) : Type 0 where
  size : head_length k ≡ length (head k d s n)
  counts : length (head k d s n) ≡ length (address d) + 4
  most : length (address d) ≤ 2
  octets : Octets (head k d s n)
  typed : k ≤ 3
  from : (1 ≤ s) × (s ≤ 0xfffe)
  to : Addressed d
  has_source : (rest : List ℕ) → source (head k d s n ++ rest) ≡ s
  has_destination : (rest : List ℕ) → destination (head k d s n ++ rest) ≡ d

pub within_parts : (low high x : ℕ) → within low high x ≡ true → (low ≤ x) × (x ≤ high)
within_parts low high x e = grind (arith, nat_tests)

pub within_from : (low high x : ℕ) → (low ≤ x) × (x ≤ high) → within low high x ≡ true
within_from low high x h = grind (arith, nat_tests)

headed : (k : ℕ) (d : Option ℕ) (s n : ℕ) → n ≤ 66 → admits k d s ≡ true → Headed k d s n
headed k None s n few e =
    let k2 : k ≤ 2 = grind (arith, nat_tests) in
    let w : (1 ≤ s) × (s ≤ 0xfffe) = grind (arith, nat_tests) in
    record {
      size = grind (arith, nat_tests);
      counts = refl;
      most = omega arith;
      octets = (omega arith, (omega arith, (omega arith, (omega arith, tt))));
      typed = omega arith;
      from = w;
      to = tt;
      has_source = λ rest. grind (arith, nat_tests);
      has_destination = λ rest. grind (arith, nat_tests);
    }
headed k (Some d) s n few e =
    let k3 : k ≡ 3 = grind (arith, nat_tests) in
    let v : (1 ≤ d) × (d ≤ 0xffff) = grind (arith, nat_tests) in
    let w : (1 ≤ s) × (s ≤ 0xfffe) = grind (arith, nat_tests) in
    record {
      size = grind (arith, nat_tests);
      counts = refl;
      most = omega arith;
      octets = (omega arith, (omega arith, (omega arith, (omega arith, (omega arith, (omega arith, tt))))));
      typed = omega arith;
      from = w;
      to = v;
      has_source = λ rest. grind (arith, nat_tests);
      has_destination = λ rest. grind (arith, nat_tests);
    }

module _ (k : ℕ) (d : Option ℕ) (s : ℕ) (p : List ℕ) (fields : Admissible k d s p) where
  top : Headed k d s (length p)
  top = headed k d s (length p) fields.short fields.header

  total : ℕ
  total = sum (front k d s p)

  pub front_length : length (front k d s p) ≡ length (address d) + 4 + length p
  front_length = length-append (head k d s (length p)) p ∙ ap (λ n. n + length p) top.counts

  message_length : length (message k d s p) ≡ length (address d) + length p + 6
  unfolding total
  message_length = let a = front_length in let b = length-append (front k d s p) (octets_of_word total) in omega arith

  front_octets : Octets (front k d s p)
  front_octets = All-append (λ x. x < 256) (head k d s (length p)) p top.octets fields.octets

  total_fits : total ≤ 18360
  unfolding total
  total_fits = small_sum (front k d s p) front_octets (let a = front_length in omega (arith, top.most, fields.short))

  pub front_sum : sum (front k d s p) ≤ 18360
  unfolding total
  front_sum = total_fits

  pub address_length : length (address d) ≤ 2
  address_length = top.most

  -- the message as its head, its payload and its Sum
  apart : message k d s p ≡ head k d s (length p) ++ (p ++ octets_of_word total)
  unfolding total
  apart = append_assoc (head k d s (length p)) p (octets_of_word total)

  source_is : source (message k d s p) ≡ s
  source_is = ap source apart ∙ top.has_source (p ++ octets_of_word total)

  destination_is : destination (message k d s p) ≡ d
  destination_is = ap destination apart ∙ top.has_destination (p ++ octets_of_word total)

  payload_is : payload (message k d s p) ≡ p
  payload_is =
      let m = message k d s p in
      let n = message_length in
      let h = top.size ∙ top.counts in
      let j : length m - head_length k - 2 ≡ length p = omega arith in
      let rest : drop (head_length k) m ≡ p ++ octets_of_word total =
      ap (drop (head_length k)) apart ∙ drop_at (head k d s (length p)) (p ++ octets_of_word total) (head_length k) (sym top.size) in
      ap (λ i. take i (drop (head_length k) m)) j ∙ ap (take (length p)) rest ∙ take_at p (octets_of_word total) (length p) refl

  pub is_lawful : Lawful (message k d s p)
  unfolding total
  is_lawful =
      let n = message_length in
      let h = top.size ∙ top.counts in
      let t = total_fits in
      let two : Octets (octets_of_word total) = (omega arith, (omega arith, tt)) in
      record {
        octets = All-append (λ x. x < 256) (front k d s p) (octets_of_word total) front_octets two;
        number = sym n;
        typed = top.typed;
        least = omega arith;
        most = omega (arith, fields.short);
        summed = sum_field_is (front k d s p) (total / 256) (total % 256) ∙ word_again total ∙ ap sum (sym (in_front (front k d s p) (total / 256) (total % 256)));
        from = subst (λ (x : ℕ). (1 ≤ x) × (x ≤ 0xfffe)) (sym source_is) top.from;
        to = subst Addressed (sym destination_is) top.to;
      }

-- a lawful message begins with the head of its own fields
record Own (m : List ℕ) (n : ℕ) : Type 0 where
  header : admits (kind m) (destination m) (source m) ≡ true
  head_is : at m 0 ≡ length (address (destination m)) + n + 6 → take (head_length (kind m)) m ≡ head (kind m) (destination m) (source m) n
  size : head_length (kind m) ≡ length (address (destination m)) + 4

first_four : (m : List ℕ) → 4 ≤ length m → take 4 m ≡ at m 0 ∷ at m 1 ∷ at m 2 ∷ at m 3 ∷ []
first_four m l = grind (arith, common_steps)

first_six : (m : List ℕ) → 6 ≤ length m → take 6 m ≡ at m 0 ∷ at m 1 ∷ at m 2 ∷ at m 3 ∷ at m 4 ∷ at m 5 ∷ []
first_six m l = grind (arith, common_steps)

module _ (m : List ℕ) (n : ℕ) (l : Lawful m) where
  octet_at : (i : ℕ) → i < length m → at m i < 256
  octet_at i h = All-get_or (λ x. x < 256) m i 0 h l.octets

  own_beacon : eqb (kind m) 3 ≡ false → Own m n
  own_beacon e =
      let k3 = eqb-false (kind m) 3 e in
      let h : head_length (kind m) ≡ 4 = cond-false (eqb (kind m) 3) 6 4 e in
      let few = l.least in
      let d : destination m ≡ None = cond-false (eqb (kind m) 3) _ _ e in
      let s : source m ≡ word (at m 2) (at m 3) = cond-false (eqb (kind m) 3) _ _ e in
      let rest : address (destination m) ++ octets_of_word (source m) ≡ at m 2 ∷ at m 3 ∷ [] =
      ap (λ x. address x ++ octets_of_word (source m)) d ∙ ap octets_of_word s ∙ octets_again (at m 2) (at m 3) (octet_at 3 (omega arith)) in
      record {
        header = subst (λ (x : Option ℕ). admits (kind m) x (source m) ≡ true) (sym d)
            (and_from (leb (kind m) 2) (within 1 0xfffe (source m)) (le-leb (kind m) 2 (omega (arith, l.typed))) (within_from 1 0xfffe (source m) l.from));
        head_is = λ number. ap (λ i. take i m) h ∙ first_four m (omega arith) ∙ ap (λ x. x ∷ kind m ∷ at m 2 ∷ at m 3 ∷ []) number
            ∙ ap (λ ys. (length (address (destination m)) + n + 6) ∷ kind m ∷ ys) (sym rest);
        size = h ∙ sym (ap (λ x. length (address x) + 4) d);
      }

  own_data : eqb (kind m) 3 ≡ true → Own m n
  own_data e =
      let h : head_length (kind m) ≡ 6 = cond-true (eqb (kind m) 3) 6 4 e in
      let few = l.least in
      let d : destination m ≡ Some (word (at m 2) (at m 3)) = cond-true (eqb (kind m) 3) _ _ e in
      let s : source m ≡ word (at m 4) (at m 5) = cond-true (eqb (kind m) 3) _ _ e in
      let rest : address (destination m) ++ octets_of_word (source m) ≡ at m 2 ∷ at m 3 ∷ at m 4 ∷ at m 5 ∷ [] =
      ap (λ x. address x ++ octets_of_word (source m)) d
      ∙ ap (λ ys. ys ++ octets_of_word (source m)) (octets_again (at m 2) (at m 3) (octet_at 3 (omega arith)))
      ∙ ap (λ ys. at m 2 ∷ at m 3 ∷ ys) (ap octets_of_word s ∙ octets_again (at m 4) (at m 5) (octet_at 5 (omega arith))) in
      let to : Addressed (Some (word (at m 2) (at m 3))) = subst Addressed d l.to in
      record {
        header = subst (λ (x : Option ℕ). admits (kind m) x (source m) ≡ true) (sym d)
            (and_from (eqb (kind m) 3) (within 1 0xffff (word (at m 2) (at m 3)) && within 1 0xfffe (source m)) e
            (and_from (within 1 0xffff (word (at m 2) (at m 3))) (within 1 0xfffe (source m)) (within_from 1 0xffff (word (at m 2) (at m 3)) to) (within_from 1 0xfffe (source m) l.from)));
        head_is = λ number. ap (λ i. take i m) h ∙ first_six m (omega arith) ∙ ap (λ x. x ∷ kind m ∷ at m 2 ∷ at m 3 ∷ at m 4 ∷ at m 5 ∷ []) number
            ∙ ap (λ ys. (length (address (destination m)) + n + 6) ∷ kind m ∷ ys) (sym rest);
        size = h ∙ sym (ap (λ x. length (address x) + 4) d);
      }

  own_by : (b : Bool) → eqb (kind m) 3 ≡ b → Own m n
  own_by true e = own_data e
  own_by false e = own_beacon e

  own : Own m n
  own = own_by (eqb (kind m) 3) refl

-- two parts of a list next to each other
take_both : (h j : ℕ) (m : List ℕ) → take h m ++ take j (drop h m) ≡ take (h + j) m
take_both h j m =
    ap (λ ys. ys ++ take j (drop h m)) (sym (take-take h (h + j) m (omega arith)))
    ∙ ap (λ ys. take h (take (h + j) m) ++ ys) (sym (drop-take h j m)) ∙ take-append-drop h (take (h + j) m)

module _ (m : List ℕ) (l : Lawful m) where
  mine : Own m (length (payload m))
  mine = own m (length (payload m)) l

  payload_length : length (payload m) ≡ length m - head_length (kind m) - 2
  payload_length =
      let d = length-drop (head_length (kind m)) m in
      length-take-le (length m - head_length (kind m) - 2) (drop (head_length (kind m)) m) (omega (arith, l.least))

  number_is : at m 0 ≡ length (address (destination m)) + length (payload m) + 6
  number_is = let p = payload_length in let s = mine.size in omega (arith, l.number, l.least)

  front_is : front (kind m) (destination m) (source m) (payload m) ≡ take (length m - 2) m
  front_is =
      let h = head_length (kind m) in
      let j = length m - h - 2 in
      let e : h + j ≡ length m - 2 = omega (arith, l.least) in
      ap (λ ys. ys ++ payload m) (sym (mine.head_is number_is)) ∙ take_both h j m ∙ ap (λ i. take i m) e

  last_two : drop (length m - 2) m ≡ at m (length m - 2) ∷ at m (length m - 1) ∷ []
  last_two = let few = l.least in grind (arith, common_steps)

  end_is : octets_of_word (sum (front (kind m) (destination m) (source m) (payload m))) ≡ drop (length m - 2) m
  end_is =
      ap (λ ys. octets_of_word (sum ys)) front_is ∙ ap octets_of_word (sym l.summed)
      ∙ octets_again (at m (length m - 2)) (at m (length m - 1)) (octet_at m 0 l (length m - 1) (omega (arith, l.least))) ∙ sym last_two

  pub rebuilt : m ≡ message (kind m) (destination m) (source m) (payload m)
  rebuilt = sym (ap (λ ys. ys ++ octets_of_word (sum (front (kind m) (destination m) (source m) (payload m)))) front_is ∙ ap (λ ys. take (length m - 2) m ++ ys) end_is ∙ take-append-drop (length m - 2) m)

  fields_fit : Admissible (kind m) (destination m) (source m) (payload m)
  fields_fit = record {
    header = mine.header;
    octets = All-take (λ x. x < 256) _ (drop (head_length (kind m)) m) (All-drop (λ x. x < 256) (head_length (kind m)) m l.octets);
    short = let p = payload_length in omega (arith, l.most);
  }

decides_leb : (a b : ℕ) → Decides (leb a b) (a ≤ b)
decides_leb a b = search rules

decides_within : (low high x : ℕ) → Decides (within low high x) ((low ≤ x) × (x ≤ high))
decides_within low high x = search rules

pub decides_addressed : (d : Option ℕ) → Decides (addressed d) (Addressed d)
decides_addressed None = (λ _. tt, λ _. refl)
decides_addressed (Some d) = search rules

pub lawful_tested : (m : List ℕ) → Decides (lawful m) (Lawful m)
lawful_tested m =
    Decides-like (lawful m)
    (λ h. record { octets = h.0; number = h.1.0; typed = h.1.1.0; least = h.1.1.1.0; most = h.1.1.1.1.0; summed = h.1.1.1.1.1.0; from = h.1.1.1.1.1.1.0; to = h.1.1.1.1.1.1.1 })
    (λ l. (l.octets, (l.number, (l.typed, (l.least, (l.most, (l.summed, (l.from, l.to))))))))
    (Decides-and _ _ (Decides-by_and (λ x. ltb x 256) (λ x. x < 256) all_octets (λ x. Decides-ltb x 256) refl (λ _ _. refl) m)
    (Decides-and _ _ (Decides-eqb (at m 0) (length m))
    (Decides-and _ _ (decides_leb (kind m) 3)
    (Decides-and _ _ (decides_leb (head_length (kind m) + 2) (length m))
    (Decides-and _ _ (decides_leb (length m) (head_length (kind m) + 2 + 66))
    (Decides-and _ _ (Decides-eqb (sum_field m) (sum (take (length m - 2) m)))
    (Decides-and _ _ (decides_within 1 0xfffe (source m)) (decides_addressed (destination m)))))))))

pub format : Format
format = record {
  makes_lawful = is_lawful;
  gives_back = λ k d s p a. (refl, destination_is k d s p a, source_is k d s p a, payload_is k d s p a);
  only_these = λ m l. (fields_fit m l, rebuilt m l);
  tested = lawful_tested;
}
