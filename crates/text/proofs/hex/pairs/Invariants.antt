use Rattle.std.proofs.Common.{◌≡◌, ◌%◌, length, vec_items}
use Rattle.std.specs.Slice.Iter.{chunks_exact_rest, chunks_exact_size}
use Rattle.text.specs.Figures.{pairs_read}
use Rattle.text.proofs.Hexes.{ahead}
use Rattle.text.proofs.hex.pairs.Given as goal

abbrev pub invariant-loop-pair : goal.invariant-loop-pair
invariant-loop-pair l = (chunks_exact_size l.pair-iterator ≡ 2) × (length (chunks_exact_rest l.pair-iterator) % 2 ≡ length l.word % 2) × (pairs_read l.word ≡ ahead (vec_items l.octets) (pairs_read (chunks_exact_rest l.pair-iterator)))
