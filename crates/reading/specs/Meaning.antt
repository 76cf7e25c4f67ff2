-- What a reading half means, by its fields, and how they change. Assumes nothing.
use Rattle.std.specs.Prelude.{◌≡◌, List, [], Ok, Err, Result}
use Rattle.refusal.specs.declared.Fault.{Fault}
use Rattle.radio.specs.declared.symbol.Symbol.{Symbol}
use Rattle.radio.specs.Reception.{Reception, whole, fault, ending_in}
use Rattle.radio.specs.Lines.{Heard, Sound}
use Rattle.reading.specs.declared.Reading.{Reading}
use Rattle.coding.specs.Grouping.{Grouping}
use Rattle.reading.specs.Half.{half, held, over_sound}

-- `under` is what the line below means
abbrev pub meaning : {C L : Type 0} → Grouping → (L → Heard) → Reading C L → Heard
meaning c under s = half c s.waiting s.torn s.given (under s.below)

pub meaning_sound : {C L : Type 0} (c : Grouping) (under : L → Heard) → ((b : L) → Sound (under b)) → (s : Reading C L) → Sound (meaning c under s)
meaning_sound c under sound s =
    over_sound c (held c s.waiting s.torn s.given (under s.below).present) (under s.below) (sound s.below)

-- what a half that is ready for a take answers, with these symbols waiting: Ok, and with none waiting the present reception is at its whole end; or the fault that it ends with here
abbrev pub Filled : List Symbol → Reception → Result (Unit {0}) Fault → Type 0
Filled waiting present (Ok _) = waiting ≡ [] → present ≡ ending_in whole
Filled waiting present (Err f) = present ≡ ending_in (fault f)
