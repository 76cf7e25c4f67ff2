use Rattle.std.proofs.Common.{◌≡◌, ◌-◌, ◌≤◌, ◌++◌, length, take, drop, replicate, ap, ◌∙◌, arith}
use Rattle.std.proofs.lemmas.List.{drop-replicate}
use Rattle.message.specs.Held.{octets_of}
use Rattle.station.specs.Nearness.{rounded}
use Rattle.orders.proofs.Padding.{short_message, padded_cut}
use Rattle.orders.proofs.send.pad.Goals as goal

pub returns : goal.returns
returns c =
    let m = octets_of c.args.message.now in
    let k = c.length.result in
    let short : length m ≤ 74 = rw c.octets.ensures.held at (short_message _ c.octets.ensures.lawful) in
    let whole : k - 0 ≡ length m = omega arith in
    let front : c.copy_from_slice.new.self ≡ m = c.copy_from_slice.ensures.after ∙ c.octets.ensures.held in
    let behind : drop (k - 0) (replicate 96 0) ≡ replicate (96 - length m) 0 = rw whole (drop-replicate (length m) 96 0) in
    c.truncate.ensures.items
    ∙ ap (take c.padded_length.result) (c.from-octets.ensures.0 ∙ ap (λ ys. ys ++ drop (k - 0) (replicate 96 0)) front ∙ ap (λ zs. m ++ zs) behind)
    ∙ ap (λ n. take n (m ++ replicate (96 - length m) 0)) (c.padded_length.ensures.value ∙ ap (rounded c.args.unit.octets) c.length-2.ensures)
    ∙ padded_cut c.args.unit.octets c.args.unit.least c.args.unit.most m short
