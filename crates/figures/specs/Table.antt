-- The worked figures in one table, octets in hexadecimal. Assumes nothing.
use Rattle.std.specs.Prelude.{◌≡◌, ℕ, List, [], ◌∷◌, Ok, Err}
use Rattle.std.specs.List.{AllByRecursion}
use Rattle.refusal.specs.declared.Refusal.{Refusal}
use Rattle.refusal.specs.declared.Refusal.TheVariants.{Sum as SUM, Spoiled as SPOILED}
use Rattle.message.specs.Message.{Lawful}
use Rattle.radio.specs.declared.symbol.Symbol.{Symbol}
use Rattle.radio.specs.declared.symbol.Symbol.TheVariants.{Clean, Spoiled}
use Rattle.radio.specs.Reception.{Reception, whole}
use Rattle.radio.specs.Layer.{unit_of}
use Rattle.coding.specs.Lift.{layer_of}
use Rattle.coding.specs.BlockLaws.{block}
use Rattle.coding.specs.ManchesterLaws.{manchester}
use Rattle.standard.specs.Standard.{standard}
use Rattle.station.specs.Filtering.{off}
use Rattle.station.specs.Judging.{received}

-- a row: what is given, and what comes of it
pub data Row : Type 0 where
  -- octets that are a lawful message, and the sums that Block puts behind each three of them
  lawful_with_sums : List ℕ → List ℕ → Row
  -- octets, and what Manchester writes below for them
  coded : List ℕ → List ℕ → Row
  -- symbols, and what Block reads them as
  block_reads : List Symbol → List Symbol → Row
  -- symbols, and the message that a read hands up from them
  reads : List Symbol → List ℕ → Row
  -- symbols, and the refusal that a read answers to them
  refuses : List Symbol → Refusal → Row

-- every fourth octet
abbrev pub fourths : List ℕ → List ℕ
fourths [] = []
fourths (a ∷ []) = []
fourths (a ∷ b ∷ []) = []
fourths (a ∷ b ∷ c ∷ []) = []
fourths (a ∷ b ∷ c ∷ d ∷ xs) = d ∷ fourths xs

-- a reception of these symbols that ended whole
abbrev pub whole_of : List Symbol → Reception
whole_of ss = record { symbols = ss; ending = whole }

-- what a row says, by the definitions that the contracts of the library cite; a read is one of any station and at any
-- strength, at the top of the standard pile over a bottom of unit 1, with all filters off
abbrev pub Holds : Row → Type 0
Holds (lawful_with_sums m sums) = Lawful m × (fourths ((layer_of block).encode m) ≡ sums)
Holds (coded xs ys) = (layer_of manchester).encode xs ≡ ys
Holds (block_reads ss ts) = (layer_of block).decode (whole_of ss) ≡ whole_of ts
Holds (reads ss m) = (own strength : ℕ) → received own off strength (unit_of standard 1) (whole_of ss) ≡ Ok m
Holds (refuses ss e) = (own strength : ℕ) → received own off strength (unit_of standard 1) (whole_of ss) ≡ Err e

-- an empty beacon of station 0001, and a data message from 0304 to 0102 with the payload 7F
abbrev pub beacon : List ℕ
beacon = 0x06 ∷ 0x00 ∷ 0x00 ∷ 0x01 ∷ 0x00 ∷ 0x07 ∷ []

abbrev pub report : List ℕ
report = 0x09 ∷ 0x03 ∷ 0x01 ∷ 0x02 ∷ 0x03 ∷ 0x04 ∷ 0x7F ∷ 0x00 ∷ 0x95 ∷ []

-- the figures; in the last four rows an octet of the report is missing: 7F, 7F under another Sum, 95, and 09
abbrev pub table : List Row
table =
    lawful_with_sums beacon (0x06 ∷ 0x08 ∷ [])
    ∷ lawful_with_sums report (0x0D ∷ 0x09 ∷ 0x14 ∷ [])
    ∷ coded (0x7F ∷ 0x00 ∷ 0x95 ∷ 0x14 ∷ []) (0x6A ∷ 0xAA ∷ 0x55 ∷ 0x55 ∷ 0x96 ∷ 0x66 ∷ 0x56 ∷ 0x65 ∷ [])
    ∷ block_reads (Clean 0x7F ∷ Spoiled ∷ Clean 0x95 ∷ Clean 0x14 ∷ []) (Clean 0x7F ∷ Clean 0x00 ∷ Clean 0x95 ∷ [])
    ∷ block_reads (Clean 0x7F ∷ Clean 0x00 ∷ Clean 0x95 ∷ Clean 0x15 ∷ []) (Spoiled ∷ Spoiled ∷ Spoiled ∷ [])
    ∷ reads (Clean 0x09 ∷ Clean 0x03 ∷ Clean 0x01 ∷ Clean 0x02 ∷ Clean 0x03 ∷ Clean 0x04 ∷ Spoiled ∷ Clean 0x00 ∷ Clean 0x95 ∷ []) report
    ∷ refuses (Clean 0x09 ∷ Clean 0x03 ∷ Clean 0x01 ∷ Clean 0x02 ∷ Clean 0x03 ∷ Clean 0x04 ∷ Spoiled ∷ Clean 0x00 ∷ Clean 0x10 ∷ []) SUM
    ∷ reads (Clean 0x09 ∷ Clean 0x03 ∷ Clean 0x01 ∷ Clean 0x02 ∷ Clean 0x03 ∷ Clean 0x04 ∷ Clean 0x7F ∷ Clean 0x00 ∷ Spoiled ∷ []) report
    ∷ refuses (Spoiled ∷ Clean 0x03 ∷ Clean 0x01 ∷ Clean 0x02 ∷ Clean 0x03 ∷ Clean 0x04 ∷ Clean 0x7F ∷ Clean 0x00 ∷ Clean 0x95 ∷ []) SPOILED
    ∷ []

-- every row of the table holds
abbrev pub TableHolds : Type 0
TableHolds = AllByRecursion Holds table
