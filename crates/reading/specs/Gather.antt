-- What gathering up to n symbols of the present reception gives. Assumes nothing.
use Rattle.std.specs.Prelude.{◌≡◌, ℕ, ◌<◌, min, List, length, take, Ok, Err, Result}
use Rattle.refusal.specs.declared.Fault.{Fault}
use Rattle.radio.specs.declared.symbol.Symbol.{Symbol}
use Rattle.radio.specs.Reception.{Reception, whole, fault, raised}
use Rattle.reading.specs.declared.gather.Raised.{Raised}

-- of the reception p: how many symbols came, at the start of g; or the fault that p ends with, raised
abbrev pub Gathered : ℕ → Reception → Result ℕ Raised → List Symbol → Type 0
Gathered n p (Ok k) g = (k ≡ min n (length p.symbols)) × (take k g ≡ take n p.symbols) × (k < n → p.ending ≡ whole)
Gathered n p (Err e) g = (length p.symbols < n) × ((f : Fault) × (p.ending ≡ fault f) × (e.0 ≡ raised f))
