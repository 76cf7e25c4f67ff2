-- What holds of every pile of layers over every bottom. Assumes nothing.
use Rattle.radio.specs.Layer.{Pile, Laws, unit_of, cost_of, sent_through, read_through, may_of, rule_of}

-- a pile keeps the laws of a layer: what is sent through it is a fixed count of octets that its lowest layer
-- may write; heard clean, it comes back as written; heard honestly below it is honest above, and the marks
-- above are the pile's rule of the marks below
abbrev pub KeepsTheLaws : Pile → Type 0
KeepsTheLaws pile = Laws (unit_of pile) (cost_of pile) (sent_through pile) (read_through pile) (may_of pile) (rule_of pile)

abbrev pub EveryPileKeepsTheLaws : Type 0
EveryPileKeepsTheLaws = (pile : Pile) → KeepsTheLaws pile
