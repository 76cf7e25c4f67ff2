-- A head, a payload and the checksum of both are the message. Assumes nothing.
use Rattle.std.proofs.Common.{◌≡◌, ℕ, ◌/◌, ◌%◌, List, [], ◌∷◌, length, sum, Option, arith}
use Rattle.std.proofs.lemmas.List.{length-take-le}
use Rattle.message.specs.declared.buffer.Buffer.{Buffer}
use Rattle.message.specs.Parts.{items}
use Rattle.message.specs.Message.{Admissible, front, octets_of_word}
use Rattle.message.specs.Message.{Lawful}
use Rattle.message.specs.declared.sealed.Sealed.{Sealed}
use Rattle.message.proofs.Format.{front_sum, lawful_tested}

pub items_length : {n : ℕ} (b : Buffer n) → length (items b) ≡ b.count
items_length b = length-take-le b.count b.octets (omega (arith, b.long, b.within))

-- the sum stays below 65,536, so that its two octets are all of it
pub sum_octets : (k : ℕ) (d : Option ℕ) (s : ℕ) (p : List ℕ) → Admissible k d s p → (total : ℕ) → total ≡ sum (front k d s p) % 65536
    → (total / 256 % 256) ∷ (total % 256) ∷ [] ≡ octets_of_word (sum (front k d s p))
sum_octets k d s p fields total e =
    let small = front_sum k d s p fields in
    let high : total / 256 % 256 ≡ sum (front k d s p) / 256 = omega arith in
    let low : total % 256 ≡ sum (front k d s p) % 256 = omega arith in
    cc

-- the octets of a sealed message are lawful
pub sealed_lawful : (s : Sealed) → Lawful (items s.octets)
sealed_lawful s = (lawful_tested (items s.octets)).0 s.lawful
