-- The two ways in which channel octets are recorded. Assumes nothing.
use Rattle.std.specs.Prelude.{ℕ, ◌*◌, ◌≤◌, List, [], ◌∷◌, length, refl}
use Rattle.std.proofs.Common.{arith, lit≤}
use Rattle.radio.specs.Bits.{bits_of}
use Rattle.lines.specs.HeardOctets as octets
use Rattle.lines.specs.HeardBits as bits
use Rattle.lines.specs.Recording.{Recording}

-- bytes have at most eight cells each
pub few_octets : (bytes : List ℕ) → length bytes ≤ 8 * length bytes
few_octets bytes = omega arith

pub few_bits : (bytes : List ℕ) → length (bits_of bytes) ≤ 8 * length bytes
few_bits [] = omega arith
few_bits (x ∷ bytes) = let n = few_bits bytes in omega arith

-- a cell is a byte, and a symbol is one
abbrev pub in_octets : Recording
in_octets = record {
  cells = λ bytes. bytes;
  step = 1;
  receptions = octets.receptions;
  reception_from = octets.reception_from;
  some = lit≤ tt;
  few = few_octets;
  none_left = refl;
}

-- a cell is a bit, and a symbol is ten
abbrev pub in_bits : Recording
in_bits = record {
  cells = bits_of;
  step = 10;
  receptions = bits.receptions_from 0;
  reception_from = bits.reception_from 0;
  some = lit≤ tt;
  few = few_bits;
  none_left = refl;
}
