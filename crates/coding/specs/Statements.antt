-- What is shown of every coding, and of the two codings here. Assumes nothing.
use Rattle.std.specs.Prelude.{◌≡◌, ℕ, ◌*◌, ◌<◌, Bool, List, [], length, Some, slice_index}
use Rattle.radio.specs.declared.symbol.Symbol.{Symbol}
use Rattle.radio.specs.Reception.{Reception}
use Rattle.radio.specs.Layer.{Laws}
use Rattle.coding.specs.Regroup.{Cut}
use Rattle.coding.specs.Grouping.{Grouping, encoded, decoded, ruled, counted, ending_above}
use Rattle.coding.specs.Lift.{layer_of}
use Rattle.coding.specs.Manchester.{code_table, value_of}
use Rattle.coding.specs.ManchesterLaws.{manchester}
use Rattle.coding.specs.BlockLaws.{block}

-- decoding: the groups below in turn, each as the coding reads it, the rest of an unfinished group giving no symbol;
-- the ending follows from that rest and the ending below
pub record Decoding (c : Grouping) (below above : Reception) : Type 0 where
  pub rest : List Symbol
  pub groups : Cut c.coded c.read below.symbols above.symbols rest
  pub ending : above.ending ≡ ending_above (length above.symbols) rest below.ending

abbrev pub Decodes : Type 0
Decodes = (c : Grouping) (below : Reception) → Decoding c below (decoded c below)

-- encoding a message of whole groups, and the marks of whole groups: the groups in turn, each in its code or by the rule of marks
abbrev pub Encodes : Type 0
Encodes = (c : Grouping) (k : ℕ) (xs : List ℕ) → length xs ≡ c.plain * k → Cut c.plain c.code xs (encoded c xs) []

abbrev pub Marks : Type 0
Marks = (c : Grouping) (k : ℕ) (ms : List Bool) → length ms ≡ c.coded * k → Cut c.coded c.rule ms (ruled c ms) []

-- every layer of a coding keeps the three laws
abbrev pub KeepsLaws : Type 0
KeepsLaws = (c : Grouping) → Laws (λ u. c.plain * u) (counted c) (encoded c) (decoded c) c.may (ruled c)

-- the table and its inverse: each code octet stands for its place, and what stands for a value is that value's code octet
pub record Inverse : Type 0 where
  pub back : (k : ℕ) → k < 16 → value_of (slice_index code_table k) ≡ Some k
  pub forth : (c k : ℕ) → value_of c ≡ Some k → (k < 16) × (slice_index code_table k ≡ c)

-- Manchester has the unit below, and n octets are 2n below; Block has three times the unit below, and 3n octets are 4n below
pub record Sizes : Type 0 where
  pub manchester_unit : (u : ℕ) → (layer_of manchester).unit u ≡ u
  pub manchester_count : (n : ℕ) → (layer_of manchester).count n ≡ 2 * n
  pub block_unit : (u : ℕ) → (layer_of block).unit u ≡ 3 * u
  pub block_count : (n : ℕ) → (layer_of block).count (3 * n) ≡ 4 * n
