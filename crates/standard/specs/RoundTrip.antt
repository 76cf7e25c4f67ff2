-- That what was written through the standard pile into octets comes back when they are heard. Assumes nothing.
use Rattle.std.specs.Prelude.{◌≡◌, ℕ, ◌*◌, ◌≤◌, List, ◌∷◌, map, length, take}
use Rattle.radio.specs.Reception.{Reception, clean}
use Rattle.radio.specs.Layer.{Octets, read_through}
use Rattle.lines.specs.HeardOctets.{receptions}
use Rattle.radio.specs.Outlets.{laid_over, message}
use Rattle.outlets.specs.Bottoms.{one_cell}
use Rattle.standard.specs.Standard.{standard}

-- one message at the start of a memory of any other octets, heard and read through the standard pile:
-- the first reception is whole, and its octets are those that were put, none of them spoiled
abbrev pub OctetsComeBack : Type 0
OctetsComeBack = (p m : ℕ) (xs memory : List ℕ) → 1 ≤ p → Octets xs → length xs ≡ 3 * m → length (message standard p xs) ≤ 65536
    → (later : List Reception) × (map (read_through standard) (receptions (take 65536 (laid_over one_cell (message standard p xs) memory))) ≡ clean xs ∷ later)
