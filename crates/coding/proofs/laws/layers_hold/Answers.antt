use Rattle.std.proofs.Common.{◌≡◌, ℕ, zero, suc, ◌+◌, ◌*◌, ◌≤◌, List, [], length, drop, ap, ◌∙◌, subst, mul-zero, mul-suc, arith}
use Rattle.std.proofs.lemmas.List.{length-drop, nil_from_length}
use Rattle.radio.specs.Reception.{Reception}
use Rattle.coding.specs.Regroup.{regroup, left_over, left_over_first, Cut, cut}
use Rattle.coding.specs.Grouping.{Grouping, decoded, ending_above}
use Rattle.coding.specs.Lift.{some_coded, layer_laws}
use Rattle.coding.specs.Statements.{Decoding}
use Rattle.coding.proofs.laws.layers_hold.Goals as goal

decodes : (c : Grouping) (below : Reception) → Decoding c below (decoded c below)
decodes c below = record {
  rest = left_over c.coded [] below.symbols;
  groups = cut c.coded c.read below.symbols (some_coded c);
  ending = ap (λ n. ending_above n (left_over c.coded [] below.symbols) below.ending) (omega arith);
}

-- whole groups leave nothing over
none_left : {A : Type 0} (n k : ℕ) (xs : List A) → 1 ≤ n → length xs ≡ n * k → left_over n [] xs ≡ []
none_left n zero xs l e = ap (left_over n []) (nil_from_length xs (e ∙ mul-zero n))
none_left n (suc k) xs l e =
    let m : n * suc k ≡ n * k + n = mul-suc n k in
    left_over_first n xs l (omega arith) ∙ none_left n k (drop n xs) l (length-drop n xs ∙ omega arith)

whole_groups : {A B : Type 0} (n k : ℕ) (f : List A → List B) (xs : List A) → 1 ≤ n → length xs ≡ n * k → Cut n f xs (regroup n f [] xs) []
whole_groups {A} {B} n k f xs l e = subst (λ (z : List A). Cut n f xs (regroup n f [] xs) z) (none_left n k xs l e) (cut n f xs l)

pub returns : goal.returns
returns c = record {
  decodes = decodes;
  encodes = λ d k xs. whole_groups d.plain k d.code xs d.some;
  marks = λ d k ms. whole_groups d.coded k d.rule ms (some_coded d);
  keeps = layer_laws;
}
