-- The bits of octets and the frames that carry them. Assumes nothing.
use Rattle.std.specs.Prelude.{ℕ, zero, suc, ◌+◌, ◌*◌, ◌/◌, ◌%◌, List, [], ◌∷◌, ◌++◌}
use Rattle.std.specs.List.{flat_map}

-- the n lowest bits of a number, the lowest first
abbrev pub bits : ℕ → ℕ → List ℕ
bits zero x = []
bits (suc n) x = x % 2 ∷ bits n (x / 2)

-- the number that these bits are, the lowest first
abbrev pub number : List ℕ → ℕ
number [] = 0
number (b ∷ bs) = b + 2 * number bs

-- the bits of bytes, the lowest of each byte first
abbrev pub bits_of : List ℕ → List ℕ
bits_of bytes = flat_map (bits 8) bytes

-- the frame of an octet: a 1, its eight bits lowest first, a 0
abbrev pub frame : ℕ → List ℕ
frame x = 1 ∷ (bits 8 x ++ (0 ∷ []))
