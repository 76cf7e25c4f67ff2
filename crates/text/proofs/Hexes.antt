-- Octets read from hex digits two by two.
use Rattle.std.proofs.Common.{ℕ, List, ◌++◌, Ok, Err}
use Rattle.text.specs.Reads.{Read}

-- the octets read so far in front of those that are left
abbrev pub ahead : List ℕ → Read (List ℕ) → Read (List ℕ)
ahead xs (Err why) = Err why
ahead xs (Ok ys) = Ok (xs ++ ys)
