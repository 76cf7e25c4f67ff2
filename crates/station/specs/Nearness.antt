-- When a message is near a reception. Assumes nothing.
use Rattle.std.specs.Prelude.{◌≡◌, ℕ, ◌+◌, ◌-◌, ◌*◌, ◌/◌, Bool, true, false, List, [], ◌∷◌, ◌++◌, length, replicate}
use Rattle.radio.specs.Reception.{Reception, Honest, marks, any_octet}

-- n rounded up to a multiple of u
abbrev pub rounded : ℕ → ℕ → ℕ
rounded u n = u * ((n + u - 1) / u)

-- the octets that are sent for a message: zeros behind its end, up to a multiple of the unit
abbrev pub padded : ℕ → List ℕ → List ℕ
padded u m = m ++ replicate (rounded u (length m) - length m) 0

abbrev pub NoneMarked : List Bool → Type 0
NoneMarked [] = Unit {0}
NoneMarked (b ∷ bs) = (b ≡ false) × NoneMarked bs

abbrev pub OneAtMost : List Bool → Type 0
OneAtMost [] = Unit {0}
OneAtMost (true ∷ bs) = NoneMarked bs
OneAtMost (false ∷ bs) = OneAtMost bs

-- at most one octet is spoiled, and not the first
abbrev pub Few : List Bool → Type 0
Few [] = Unit {0}
Few (b ∷ bs) = (b ≡ false) × OneAtMost bs

-- the reception ended whole and has as many octets as are sent for the message, every clean one is the one sent, and
-- at most one is spoiled, not the first
pub record Near (unit : ℕ) (m : List ℕ) (r : Reception) : Type 0 where
  pub agrees : Honest any_octet (padded unit m) r
  pub few : Few (marks any_octet r)
