-- The receptions in the bytes of an octet line. Assumes nothing.
use Rattle.std.specs.Prelude.{ℕ, ◌+◌, Bool, false, cond, ◌&&◌, List, [], ◌∷◌, ◌==◌}
use Rattle.refusal.specs.declared.Cause.TheVariants.{Dry, Cut}
use Rattle.radio.specs.declared.symbol.Symbol.TheVariants.{Clean}
use Rattle.radio.specs.Reception.{Reception, whole, made_at, ending_in, before}
use Rattle.radio.specs.Lines.{tail}

-- a sign starts here: F0, directly followed by CC
abbrev pub sign_here : List ℕ → Bool
sign_here [] = false
sign_here (x ∷ []) = false
sign_here (x ∷ y ∷ rest) = x == 0xF0 && y == 0xCC

-- the reception from here on, of which n symbols were given already: a sign ends it cut, else 33 ends it whole,
-- else the byte is a clean symbol; the end of the bytes ends it dry
abbrev pub reception_from : ℕ → List ℕ → Reception
reception_from n [] = ending_in (made_at Dry n)
reception_from n (x ∷ rest) =
    cond (sign_here (x ∷ rest)) (ending_in (made_at Cut n))
    (cond (x == 0x33) (ending_in whole)
    (before (Clean x) (reception_from (n + 1) rest)))

-- every sign opens a reception, which starts behind it
abbrev pub receptions : List ℕ → List Reception
receptions [] = []
receptions (x ∷ rest) = cond (sign_here (x ∷ rest)) (reception_from 0 (tail rest) ∷ receptions rest) (receptions rest)
