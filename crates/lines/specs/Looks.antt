-- The looks at the first bits from a place on. Assumes nothing.
use Rattle.std.specs.Prelude.{◌≡◌, ℕ, ◌<◌, ◌≤◌, true, false, List, length, drop, Some, None, Option}
use Rattle.radio.specs.declared.symbol.Symbol.{Symbol}
use Rattle.radio.specs.Bits.{bits}
use Rattle.lines.specs.declared.window.Window.{Window}
use Rattle.lines.specs.HeardBits.{sign_here, symbol_here}

-- the bits in a window
abbrev pub seen : Window → List ℕ
seen w = bits w.count w.word

-- no sign begins at any of the first k places
abbrev pub NoSign : ℕ → List ℕ → Type 0
NoSign k rest = (j : ℕ) → j < k → sign_here (drop j rest) ≡ false

-- the least of ten places at which a sign begins, or none
abbrev pub FirstOfTen : List ℕ → Option ℕ → Type 0
FirstOfTen rest None = NoSign 10 rest
FirstOfTen rest (Some k) = (k < 10) × (sign_here (drop k rest) ≡ true) × NoSign k rest

-- the symbol in the first ten bits, or none where there are fewer
abbrev pub SymbolIn : List ℕ → Option Symbol → Type 0
SymbolIn rest None = length rest < 10
SymbolIn rest (Some s) = (10 ≤ length rest) × (s ≡ symbol_here rest)
