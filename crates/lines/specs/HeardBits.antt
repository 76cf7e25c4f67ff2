-- The receptions in the bits of a bit line. Assumes nothing.
use Rattle.std.specs.Prelude.{ℕ, zero, suc, ◌+◌, Bool, true, false, cond, ◌&&◌, ◌||◌, List, [], ◌∷◌, ◌++◌, length, take, drop, Some, None, Option, ◌==◌, nat_lt, slice_index}
use Rattle.refusal.specs.declared.Cause.TheVariants.{Dry, Cut}
use Rattle.radio.specs.declared.symbol.Symbol.{Symbol}
use Rattle.radio.specs.declared.symbol.Symbol.TheVariants.{Clean, Spoiled}
use Rattle.radio.specs.Reception.{Reception, whole, made_at, ending_in, before}
use Rattle.radio.specs.Bits.{number, bits_of, frame}

-- the sign: the frames of F0 and CC
unfoldable pub sign : List ℕ
sign = frame 0xF0 ++ frame 0xCC

-- the bits begin with these
abbrev pub begins : List ℕ → List ℕ → Bool
begins [] rest = true
begins (c ∷ front) [] = false
begins (c ∷ front) (b ∷ rest) = c == b && begins front rest

-- a sign begins here, or at one of k places from here on
abbrev pub sign_here : List ℕ → Bool
sign_here rest = begins sign rest

abbrev pub sign_within : ℕ → List ℕ → Bool
sign_within zero rest = false
sign_within (suc k) [] = false
sign_within (suc k) (b ∷ rest) = sign_here (b ∷ rest) || sign_within k rest

-- the symbol in the next ten bits: clean if the first is 1 and the tenth is 0
abbrev pub symbol_here : List ℕ → Symbol
symbol_here rest = cond (slice_index rest 0 == 1 && slice_index rest 9 == 0) (Clean (number (take 8 (drop 1 rest)))) Spoiled

-- a clean 33 ends a reception whole, any other symbol stands in front of the rest
abbrev pub ends_it : Symbol → Bool
ends_it (Clean v) = v == 0x33
ends_it Spoiled = false

-- a symbol, or none where it ends a reception whole
abbrev pub unless_end : Symbol → Option Symbol
unless_end s = cond (ends_it s) None (Some s)

abbrev pub next_in : Symbol → Reception → Reception
next_in s rest = cond (ends_it s) (ending_in whole) (before s rest)

-- the reception from here on, behind so many bits to pass, of which n symbols were given already: a sign that begins
-- in the next ten places ends it cut, else fewer than ten bits end it dry, else the next ten bits are a symbol
abbrev pub reception_from : ℕ → ℕ → List ℕ → Reception
reception_from pass n [] = ending_in (made_at Dry n)
reception_from (suc pass) n (b ∷ rest) = reception_from pass n rest
reception_from zero n (b ∷ rest) =
    cond (sign_within 10 (b ∷ rest)) (ending_in (made_at Cut n))
    (cond (nat_lt (length (b ∷ rest)) 10) (ending_in (made_at Dry n))
    (next_in (symbol_here (b ∷ rest)) (reception_from 9 (n + 1) rest)))

-- every sign opens a reception, which starts behind its twenty bits; in these no other sign is looked for
abbrev pub receptions_from : ℕ → List ℕ → List Reception
receptions_from pass [] = []
receptions_from (suc pass) (b ∷ rest) = receptions_from pass rest
receptions_from zero (b ∷ rest) = cond (sign_here (b ∷ rest)) (reception_from 19 0 rest ∷ receptions_from 19 rest) (receptions_from 0 rest)

abbrev pub receptions : List ℕ → List Reception
receptions bytes = receptions_from 0 (bits_of bytes)
