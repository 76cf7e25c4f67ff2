-- How channel octets lie in a memory, with the laws that this keeps. Assumes nothing.
use Rattle.std.specs.Prelude.{◌≡◌, ℕ, ◌+◌, ◌*◌, ◌≤◌, List, [], ◌++◌, length}
use Rattle.std.specs.List.{flat_map}
use Rattle.radio.specs.Layer.{Octets}

pub record Placement : Type 0 where
  -- the cells of a memory's bytes
  pub of_bytes : List ℕ → List ℕ
  -- the cells of one channel octet, and how many they are
  pub of_octet : ℕ → List ℕ
  pub width : ℕ
  -- how many channel octets fit into so many bytes
  pub fitting : ℕ → ℕ
  -- the first n channel octets that lie in these cells
  pub octets_in : ℕ → List ℕ → List ℕ
  pub wide : (x : ℕ) → length (of_octet x) ≡ width
  pub fits : (bytes : List ℕ) → width * fitting (length bytes) ≤ length (of_bytes bytes)
  -- each takes at least a byte
  pub few : (bytes : ℕ) → fitting bytes ≤ bytes
  pub none : (cells : List ℕ) → octets_in 0 cells ≡ []
  -- octets that are written behind n others are read behind them
  pub behind : (n : ℕ) (xs front rest : List ℕ) → length front ≡ width * n → Octets xs → octets_in (n + length xs) (front ++ (flat_map of_octet xs ++ rest)) ≡ octets_in n front ++ xs
