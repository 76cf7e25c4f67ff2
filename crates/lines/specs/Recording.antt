-- How channel octets are recorded in bytes, and what a line over the bytes hears. Assumes nothing.
use Rattle.std.specs.Prelude.{◌≡◌, ℕ, ◌+◌, ◌*◌, ◌≤◌, Bool, List, [], ◌∷◌, length, drop, Some, None, Ok, Err, Option, Result}
use Rattle.refusal.specs.declared.Cause.{Cause}
use Rattle.radio.specs.declared.symbol.Symbol.{Symbol}
use Rattle.radio.specs.Reception.{Reception, whole, made_at, ending_in, before, unopened}
use Rattle.radio.specs.Lines.{Heard, at_bottom, to_come}

-- a recording of channel octets as cells
pub record Recording : Type 0 where
  -- the cells of bytes, and how many cells a symbol takes
  pub cells : List ℕ → List ℕ
  pub step : ℕ
  -- the receptions that open in these cells
  pub receptions : List ℕ → List Reception
  -- the reception that goes on in these cells, of which n symbols were given already
  pub reception_from : ℕ → List ℕ → Reception
  pub some : 1 ≤ step
  pub few : (bytes : List ℕ) → length (cells bytes) ≤ 8 * length bytes
  pub none_left : receptions [] ≡ []

module _ (r : Recording) where
  -- the cells of the bytes from a place on
  abbrev pub rest_at : List ℕ → ℕ → List ℕ
  rest_at bytes place = drop place (r.cells bytes)

  -- what is present in these cells: nothing before the first opening, then the reception of which n symbols were given
  abbrev pub present_in : Option ℕ → List ℕ → Reception
  present_in None rest = unopened
  present_in (Some n) rest = r.reception_from n rest

  -- what a line means that has these cells left, and whose search for the next sign found none where quiet is true
  abbrev pub heard_in : Option ℕ → Bool → List ℕ → Heard
  heard_in given quiet rest = at_bottom (present_in given rest) (to_come quiet (r.receptions rest))

  -- what a line means that hears these bytes and was not yet opened
  abbrev pub unopened_over : List ℕ → Heard
  unopened_over bytes = at_bottom unopened (r.receptions (r.cells bytes))

  -- what stands at a place of a reception, whatever its number n of symbols given: a fault, the whole end,
  -- or a symbol, behind which the reception goes on a step further with the same receptions to come
  abbrev pub Stands : List ℕ → ℕ → Result (Option Symbol) Cause → Type 0
  Stands bytes place (Err c) = (n : ℕ) → r.reception_from n (rest_at bytes place) ≡ ending_in (made_at c n)
  Stands bytes place (Ok None) = (n : ℕ) → r.reception_from n (rest_at bytes place) ≡ ending_in whole
  Stands bytes place (Ok (Some s)) =
      (place + r.step ≤ length (r.cells bytes))
      × ((n : ℕ) → r.reception_from n (rest_at bytes place) ≡ before s (r.reception_from (n + 1) (rest_at bytes (place + r.step))))
      × (r.receptions (rest_at bytes place) ≡ r.receptions (rest_at bytes (place + r.step)))

  -- the first of the receptions that open from a place on starts at p, and the others open from p on
  abbrev pub StartsAt : List ℕ → ℕ → ℕ → Type 0
  StartsAt bytes place p = (p ≤ length (r.cells bytes)) × (r.receptions (rest_at bytes place) ≡ r.reception_from 0 (rest_at bytes p) ∷ r.receptions (rest_at bytes p))

  -- where the first reception starts whose sign begins less than a step from a place, or none, and all to come open a step further
  abbrev pub StartsInStep : List ℕ → ℕ → Option ℕ → Type 0
  StartsInStep bytes place (Some p) = StartsAt bytes place p
  StartsInStep bytes place None = r.receptions (rest_at bytes place) ≡ r.receptions (rest_at bytes (place + r.step))

  -- where the first reception starts that opens from a place on, or none
  abbrev pub Starts : List ℕ → ℕ → Option ℕ → Type 0
  Starts bytes place (Some p) = StartsAt bytes place p
  Starts bytes place None = r.receptions (rest_at bytes place) ≡ []
