-- The standard pile: Block over Manchester. Assumes nothing.
use Rattle.std.specs.Prelude.{[], ◌∷◌}
use Rattle.radio.specs.Layer.{Pile}
use Rattle.radio.specs.Lines.{Heard}
use Rattle.radio.specs.Outlets.{State}
use Rattle.coding.specs.Lift.{layer_of}
use Rattle.reading.specs.Half.{fresh}
use Rattle.sending.specs.Outgoing.{over_outlet}
use Rattle.coding.specs.ManchesterLaws.{manchester}
use Rattle.coding.specs.BlockLaws.{block}

abbrev pub standard : Pile
standard = layer_of block ∷ layer_of manchester ∷ []

-- a line once the standard pile is laid over it
abbrev pub laid_over : Heard → Heard
laid_over h = fresh block (fresh manchester h)

-- an outlet once the sending halves of the standard pile, Block over Manchester, stand over it
abbrev pub standard_over : State → State
standard_over b = over_outlet block [] (over_outlet manchester [] b)
