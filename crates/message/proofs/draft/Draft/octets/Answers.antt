use Rattle.std.proofs.Common.{◌≡◌, ℕ, ◌%◌, ◌<◌, get_or, sum, ap, ◌∙◌, arith, rules}
use Rattle.std.proofs.ByRecursion.{All-take, All-from_get_or}
use Rattle.message.specs.Message.{Admissible, front}
use Rattle.message.specs.Parts.{items}
use Rattle.message.specs.Held.{payload_of, message_of}
use Rattle.message.proofs.Format.{is_lawful, lawful_tested, format}
use Rattle.message.proofs.Sealing.{items_length, sum_octets}
use Rattle.message.proofs.draft.Draft.octets.Goals as goal

fields : (c : goal.After-append-3) → Admissible c.args.self.header.kind c.args.self.header.destination c.args.self.header.source (payload_of c.args.self)
fields c =
    let b = c.args.self.payload in
    let octet : (i : ℕ) → get_or b.octets i 0 < 256 = λ i. search rules in
    let l = items_length b in
    record {
      header = c.args.self.header.fit;
      octets = All-take (λ x. x < 256) b.count b.octets (All-from_get_or (λ x. x < 256) b.octets 0 (λ i h. octet i));
      short = omega (arith, b.within);
    }

made : (c : goal.After-append-3) → items c.append-3.new.self ≡ message_of c.args.self
made c =
    let h = c.args.self.header in
    let p = payload_of c.args.self in
    let before : items c.append-2.new.self ≡ front h.kind h.destination h.source p =
    rw (c.append-2.ensures, c.append.ensures, c.empty-octets.ensures, c.as_slice.ensures, c.head-head.ensures, c.as_slice-payload.ensures) in
    let total = c.checksum-sum.ensures ∙ ap (λ xs. sum xs % 65536) (c.as_slice-2.ensures ∙ before) in
    let end = c.to_be_bytes.ensures ∙ sum_octets h.kind h.destination h.source p (fields c) c.checksum-sum.result total in
    rw (c.append-3.ensures, before, end)

pub returns-clause-made : goal.returns-clause-made
returns-clause-made c = made c

pub returns-clause-lawful : goal.returns-clause-lawful
returns-clause-lawful c = rw (made c) ((lawful_tested _).1 (is_lawful _ _ _ _ (fields c)))

pub returns-clause-format : goal.returns-clause-format
returns-clause-format c = format
