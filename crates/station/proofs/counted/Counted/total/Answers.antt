use Rattle.std.proofs.Common.{◌≡◌, ℕ, ◌-◌, ◌%◌, ◌<◌, ◌≤◌, length, get_or, take, sum, ap, ◌∙◌, subst, arith, rules}
use Rattle.std.proofs.ByRecursion.{All-from_get_or, All-take}
use Rattle.std.proofs.lemmas.List.{length-take-le}
use Rattle.message.specs.Message.{Octets}
use Rattle.message.proofs.Format.{small_sum}
use Rattle.station.proofs.Sums.{decides_octets}
use Rattle.station.proofs.counted.Counted.total.Goals as goal

pub returns : goal.returns
returns c =
    let m = c.as_slice-octets.result.now in
    let is = c.as_slice-octets.ensures.value in
    let n = length m - 2 in
    let octet : (i : ℕ) → get_or m i 0 < 256 = λ i. search rules in
    let all : Octets m = All-from_get_or (λ x. x < 256) m 0 (λ i h. octet i) in
    let l : length (take n m) ≡ n = length-take-le n m (omega arith) in
    let small : sum (take n m) ≤ 18360 = small_sum (take n m) (All-take (λ x. x < 256) n m all) (omega (arith, c.as_slice-octets.ensures.most)) in
    let e : c.checksum.result ≡ sum (take n m) % 65536 = c.checksum.ensures ∙ ap (λ k. sum (take k m) % 65536) (omega arith) in
    let s : c.checksum.result ≡ sum (take n m) = omega arith in
    record { sum = s ∙ ap (λ x. sum (take (length x - 2) x)) is; octets = (decides_octets _).1 (subst Octets is all) }
