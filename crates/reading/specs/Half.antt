-- What a reading half means over the line below. Assumes nothing.
use Rattle.std.proofs.Common.{ap, ◌∙◌}
use Rattle.std.specs.Prelude.{ℕ, List, ◌∷◌, ◌++◌, map, Some, None, Option}
use Rattle.std.proofs.lemmas.Simd.{map-map}
use Rattle.refusal.specs.declared.Fault.{Fault}
use Rattle.radio.specs.declared.symbol.Symbol.{Symbol}
use Rattle.radio.specs.Reception.{Reception, fault}
use Rattle.radio.specs.Layer.{read_through}
use Rattle.radio.specs.Lines.{Heard, Sound}
use Rattle.coding.specs.Grouping.{Grouping, resumed, decoded}
use Rattle.coding.specs.Lift.{layer_of}

-- the present reception of a half that has decoded n symbols, of which those in front are yet to be taken, where r is present below;
-- a half that met a whole end inside a group has the fault of that, and keeps it
abbrev pub held : Grouping → List Symbol → Option Fault → ℕ → Reception → Reception
held c front (Some f) n r = record { symbols = front; ending = fault f }
held c front None n r = record { symbols = front ++ (resumed c n r).symbols; ending = (resumed c n r).ending }

-- the line over a line that means h: each reception to come is decoded, and the layer stands on the pile below
abbrev pub over : Grouping → Reception → Heard → Heard
over c p h = record {
  present = p;
  coming = map (decoded c) h.coming;
  pile = layer_of c ∷ h.pile;
  air = h.air;
  ground_unit = h.ground_unit;
}

abbrev pub half : Grouping → List Symbol → Option Fault → ℕ → Heard → Heard
half c front torn n h = over c (held c front torn n h.present) h

-- a half as it is made: what is present below, as far as it is not yet taken there, is decoded
abbrev pub fresh : Grouping → Heard → Heard
fresh c h = over c (decoded c h.present) h

pub over_sound : (c : Grouping) (p : Reception) (h : Heard) → Sound h → Sound (over c p h)
over_sound c p h s = record {
  grounded = s.grounded;
  layered = ap (map (decoded c)) s.layered ∙ map-map (decoded c) (read_through h.pile) h.air;
}
