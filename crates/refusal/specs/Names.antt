-- The numbers and names of the refusals, and how one is written out. Assumes nothing.
use Rattle.std.specs.Prelude.{ℕ, List, [], ◌++◌, codes, decimal}
use Rattle.refusal.specs.declared.Cause.{Cause}
use Rattle.refusal.specs.declared.Cause.TheVariants.{Dry, Cut, Torn}
use Rattle.refusal.specs.declared.Fault.{Fault}
use Rattle.refusal.specs.declared.Refusal.{Refusal}
use Rattle.refusal.specs.declared.Refusal.TheVariants.{Short, Unit as UnitOver, Quiet, Fault as Faulty, Extent, Spoiled, Count, Pad, Sum, «Type» as TypeOctet, Range, Address, Weak, Other, Muted, Argument, Long, Turn, Uneven, Space, Layout, Kind, Value}

-- the faults have the numbers 4 to 6
abbrev pub cause_number : Cause → ℕ
cause_number Dry = 4
cause_number Cut = 5
cause_number Torn = 6

abbrev pub cause_name : Cause → List ℕ
cause_name Dry = codes "DRY"
cause_name Cut = codes "CUT"
cause_name Torn = codes "TORN"

-- what is written of a refusal: its number, its name in capitals, and behind them the place and rise of a fault
pub record Title : Type 0 where
  pub number : ℕ
  pub name : List ℕ
  pub detail : List ℕ

abbrev pub plain : ℕ → List ℕ → Title
plain n name = record { number = n; name = name; detail = [] }

-- as in ` place 3 rise 2`
abbrev pub place_and_rise : Fault → List ℕ
place_and_rise f = codes " place " ++ (decimal f.place ++ (codes " rise " ++ decimal f.rise))

-- every refusal has a number of its own and a name; a fault has those of its cause
abbrev pub title : Refusal → Title
title Short = plain 1 (codes "SHORT")
title UnitOver = plain 2 (codes "UNIT")
title Quiet = plain 3 (codes "QUIET")
title (Faulty f) = record { number = cause_number f.cause; name = cause_name f.cause; detail = place_and_rise f }
title Extent = plain 7 (codes "EXTENT")
title Spoiled = plain 8 (codes "SPOILED")
title Count = plain 9 (codes "COUNT")
title Pad = plain 10 (codes "PAD")
title Sum = plain 11 (codes "SUM")
title TypeOctet = plain 12 (codes "TYPE")
title Range = plain 13 (codes "RANGE")
title Address = plain 14 (codes "ADDRESS")
title Weak = plain 15 (codes "WEAK")
title Other = plain 16 (codes "OTHER")
title Muted = plain 17 (codes "MUTED")
title Argument = plain 18 (codes "ARGUMENT")
title Long = plain 19 (codes "LONG")
title Turn = plain 20 (codes "TURN")
title Uneven = plain 21 (codes "UNEVEN")
title Space = plain 22 (codes "SPACE")
title Layout = plain 23 (codes "LAYOUT")
title Kind = plain 24 (codes "KIND")
title Value = plain 25 (codes "VALUE")

-- as in `18 ARGUMENT` and `4 DRY place 3 rise 2`
abbrev pub refusal_text : Refusal → List ℕ
refusal_text r = decimal (title r).number ++ (codes " " ++ ((title r).name ++ (title r).detail))
