-- A reception: the symbols that a line gives between two openings, and how it ended. Assumes nothing.
use Rattle.std.specs.Prelude.{◌≡◌, ℕ, ◌+◌, min, Bool, true, not, List, [], ◌∷◌, map}
use Rattle.refusal.specs.declared.Cause.{Cause}
use Rattle.refusal.specs.declared.Cause.TheVariants.{Dry}
use Rattle.refusal.specs.declared.Fault.{Fault}
use Rattle.radio.specs.declared.symbol.Symbol.{Symbol}
use Rattle.radio.specs.declared.symbol.Symbol.TheVariants.{Clean, Spoiled}

pub data Ending : Type 0 where
  whole : Ending
  fault : Fault → Ending

pub record Reception : Type 0 where
  pub symbols : List Symbol
  pub ending : Ending

-- a fault at its maker, which had given n symbols in this reception
abbrev pub fault_at : Cause → ℕ → Fault
fault_at c n = record { cause = c; place = min n 65535; rise = 0 }

abbrev pub made_at : Cause → ℕ → Ending
made_at c n = fault (fault_at c n)

-- a fault that comes up through a layer: one more to the rise, which stays at 255
abbrev pub raised : Fault → Fault
raised f = record { cause = f.cause; place = f.place; rise = min (f.rise + 1) 255 }

-- a reception with no symbol left, and one with one symbol more in front
abbrev pub ending_in : Ending → Reception
ending_in e = record { symbols = []; ending = e }

abbrev pub before : Symbol → Reception → Reception
before s r = record { symbols = s ∷ r.symbols; ending = r.ending }

-- what is present at a bottom before the first opening
abbrev pub unopened : Reception
unopened = ending_in (made_at Dry 0)

-- a symbol counts as spoiled below a layer that may write only some octets
abbrev pub mark : (ℕ → Bool) → Symbol → Bool
mark may (Clean v) = not (may v)
mark may Spoiled = true

abbrev pub marks : (ℕ → Bool) → Reception → List Bool
marks may r = map (mark may) r.symbols

abbrev pub any_octet : ℕ → Bool
any_octet _ = true

-- a symbol is what was written, so far as it counts as clean
abbrev pub AsWritten : (ℕ → Bool) → Symbol → ℕ → Type 0
AsWritten may (Clean v) w = may v ≡ true → v ≡ w
AsWritten may Spoiled w = Unit {0}

abbrev pub AllAsWritten : (ℕ → Bool) → List Symbol → List ℕ → Type 0
AllAsWritten may [] [] = Unit {0}
AllAsWritten may [] (w ∷ ws) = ⊥
AllAsWritten may (s ∷ ss) [] = ⊥
AllAsWritten may (s ∷ ss) (w ∷ ws) = AsWritten may s w × AllAsWritten may ss ws

-- ended whole, with as many symbols as were written, and each clean one the one written
pub record Honest (may : ℕ → Bool) (written : List ℕ) (r : Reception) : Type 0 where
  pub ended : r.ending ≡ whole
  pub agrees : AllAsWritten may r.symbols written

-- a whole reception of these octets, none of them spoiled
abbrev pub clean : List ℕ → Reception
clean xs = record { symbols = map Clean xs; ending = whole }
