-- The report sent through the standard pile into a memory of octets, and read from there. Assumes nothing.
use Rattle.std.proofs.Common.{◌≡◌, ℕ, ◌≤◌, List, [], ◌∷◌, take, Some, None, Ok, Option, refl, ap, ◌∙◌, subst, lit<, lit≤}
use mathlib.Core.List.{map-map}
use Rattle.std.proofs.lemmas.Bool.{le-leb}
use Rattle.refusal.specs.declared.Refusal.TheVariants.{Space}
use Rattle.message.specs.Message.{message as message_of}
use Rattle.radio.specs.Layer.{Octets}
use Rattle.radio.specs.Lines.{Heard}
use Rattle.radio.specs.Outlets.{State, answer, unless, message, laid_over}
use Rattle.lines.specs.HeardOctets.{receptions}
use Rattle.outlets.specs.Bottoms.{fresh, one_cell}
use Rattle.coding.specs.Grouping.{decoded}
use Rattle.coding.specs.BlockLaws.{block}
use Rattle.coding.specs.ManchesterLaws.{manchester}
use Rattle.standard.specs.Standard.{standard, standard_over}
use Rattle.standard.proofs.Returns.{octets_come_back}
use Rattle.station.specs.declared.filters.Filters.{Filters}
use Rattle.station.specs.Filtering.{off}
use Rattle.station.specs.Judging.{reading, of_coming}
use Rattle.orders.specs.Sending.{send_refusal, Sent}
use Rattle.figures.specs.Orders.{heard_in}
use Rattle.figures.specs.Table.{report}

pub report_of : (k : ℕ) (d : Option ℕ) (s : ℕ) (p : List ℕ) → k ≡ 3 → d ≡ Some 0x0102 → s ≡ 0x0304 → p ≡ 0x7F ∷ [] → message_of k d s p ≡ report
report_of k d s p a b c e = ap (λ z. message_of z d s p) a ∙ ap (λ z. message_of 3 z s p) b ∙ ap (λ z. message_of 3 (Some 0x0102) z p) c ∙ ap (message_of 3 (Some 0x0102) 0x0304) e

-- a message that is the report, on an outlet that was just made over a memory of n octets, xs
module _ (xs : List ℕ) (n : ℕ) (m : List ℕ) (s : State) (same : m ≡ report) (made : s ≡ standard_over (fresh one_cell xs n)) where
  -- there is space for it
  pub accepted : 29 ≤ n → answer (send_refusal 3 m s) ≡ Ok tt
  accepted h = rw (same, made) (ap (λ b. answer (unless b Space None)) (le-leb 29 n h))

  -- what the memory is then
  pub stored : (t : State) → Sent 3 m s t → t.memory ≡ laid_over one_cell (message standard 3 report) xs
  stored t w =
      let v = subst (λ (z : State). Sent 3 report z t) made (subst (λ (y : List ℕ). Sent 3 y s t) same w) in
      v.goes_on.memory ∙ ap (λ ch. laid_over one_cell ch xs) v.channel

-- and what a station of the address 0102 with all filters off reads from it
pub read_back : (xs : List ℕ) (own : ℕ) (f : Filters) (h : Heard) → own ≡ 0x0102 → f ≡ off → h ≡ heard_in (laid_over one_cell (message standard 3 report) xs)
    → reading own f 40 66 h ≡ Ok report
read_back xs own f h a b c =
    let octets : Octets report = (lit< tt, (lit< tt, (lit< tt, (lit< tt, (lit< tt, (lit< tt, (lit< tt, (lit< tt, (lit< tt, tt))))))))) in
    let r = octets_come_back 3 3 report xs (lit≤ tt) octets refl (lit≤ tt) in
    let cs = receptions (take 65536 (laid_over one_cell (message standard 3 report) xs)) in
    rw (a, b, c) (ap (of_coming 0x0102 off 40 3) (map-map (decoded block) (decoded manchester) cs ∙ r.1))
