use Rattle.std.proofs.Common.{◌≡◌, length, take, Ok, sym, ap, ◌∙◌, arith, rules}
use Rattle.refusal.specs.declared.Refusal.TheVariants.{Spoiled as Spoilt}
use Rattle.std.proofs.lemmas.List.{take_rest, length-take-le}
use Rattle.station.specs.Nearness.{rounded}
use Rattle.station.specs.Judging.{few_spoiled, number, blank}
use Rattle.station.proofs.Judged.{passes, all_blank}
use Rattle.station.proofs.Spoilt.{few_part}
use Rattle.station.proofs.judge.count.Goals as goal

pub returns : goal.returns
returns c =
    let ss = c.args.symbols.now in
    let n = c.from-number.result in
    let few = passes (few_spoiled ss) Spoilt (Ok tt) tt c.in_ok-check_spoiled.ensures in
    let is : n ≡ number ss = search rules in
    let round : rounded c.args.unit.octets n ≡ length ss =
    ap (rounded c.args.unit.octets) c.from-number.ensures ∙ sym c.padded_length.ensures.value ∙ c.if-padded_length-symbols.false in
    let there : length (take n ss) ≡ n = length-take-le n ss (omega (arith, c.padded_length.ensures.least, c.if-padded_length-symbols.false)) in
    record {
      least = omega (arith, c.if-number-lt6.false);
      most = omega (arith, c.if-number-gt74.false);
      few = few_part n ss few;
      left = all_blank c.args.unit.octets ss n is few (omega (arith, c.if-number-lt6.false)) (omega (arith, c.if-number-gt74.false)) round
          (ap blank (sym (take_rest ss n)) ∙ sym c.is_blank.ensures ∙ c.if-not-is_blank.false);
    }
