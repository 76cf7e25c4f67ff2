-- What is known of a reception whose octets were counted. Assumes nothing.
use Rattle.std.specs.Prelude.{◌≡◌, ℕ, ◌≤◌, true, List, length}
use Rattle.radio.specs.declared.symbol.Symbol.{Symbol}
use Rattle.station.specs.Judging.{one_spoiled, mended, summed}

-- ms are the symbols of the message by its Number, one at most is spoiled, and only the sum is left to check
pub record Opens (u : ℕ) (ss ms : List Symbol) : Type 0 where
  pub least : 6 ≤ length ms
  pub most : length ms ≤ 74
  pub few : one_spoiled ms ≡ true
  pub left : summed u ss ≡ mended ms
