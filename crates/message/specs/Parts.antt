-- What a buffer holds. Assumes nothing.
use Rattle.std.specs.Prelude.{ℕ, List, take}
use Rattle.message.specs.declared.buffer.Buffer.{Buffer}

-- the octets in a buffer
abbrev pub items : {n : ℕ} → Buffer n → List ℕ
items b = take b.count b.octets
