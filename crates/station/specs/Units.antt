-- What a unit that a message can be padded to holds. Assumes nothing.
use Rattle.std.specs.Prelude.{ℕ}
use Rattle.station.specs.declared.small_unit.SmallUnit.{SmallUnit}

-- how many octets the unit has
abbrev pub octets_in : SmallUnit → ℕ
octets_in u = u.octets
