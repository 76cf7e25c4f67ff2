-- Frames read back. Assumes nothing.
use Rattle.std.specs.Prelude.{◌≡◌, ℕ, zero, suc, List, [], ◌∷◌, take, drop}
use Rattle.radio.specs.Layer.{Octets}
use Rattle.radio.specs.Bits.{number, bits_of}

-- the octets in the first n frames
abbrev pub unframed : ℕ → List ℕ → List ℕ
unframed zero bs = []
unframed (suc n) bs = number (take 8 (drop 1 bs)) ∷ unframed n (drop 10 bs)

-- octets with the same bits are the same octets
abbrev pub BitsPinOctets : Type 0
BitsPinOctets = (xs ys : List ℕ) → Octets xs → Octets ys → bits_of xs ≡ bits_of ys → xs ≡ ys
