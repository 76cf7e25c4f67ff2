-- Which messages the filters of a station withhold. Assumes nothing.
use Rattle.std.specs.Prelude.{ℕ, Bool, true, false, not, ◌&&◌, ◌||◌, List, replicate, Some, None, Option, ◌==◌, nat_lt, slice_index_or, slice_set}
use Rattle.message.specs.Message.{kind, destination}
use Rattle.station.specs.declared.filters.Filters.{Filters}
use Rattle.station.specs.declared.station.Station.{Station}

-- a station's own address
abbrev pub own_address : Station → ℕ
own_address s = s.own

-- the filters that a station's reads go through
abbrev pub filters_of : Station → Filters
filters_of s = s.filters

-- all filters off
abbrev pub off : Filters
off = record { strength = None; identity = false; muted = replicate 4 false }

-- the filters with one of them set
abbrev pub with_strength : Option ℕ → Filters → Filters
with_strength limit f = record { strength = limit; identity = f.identity; muted = f.muted }

abbrev pub with_identity : Bool → Filters → Filters
with_identity on f = record { strength = f.strength; identity = on; muted = f.muted }

abbrev pub with_mute : ℕ → Bool → Filters → Filters
with_mute k on f = record { strength = f.strength; identity = f.identity; muted = slice_set f.muted k on }

-- the strength filter is on, and the strength is below its limit
abbrev pub weak : Option ℕ → ℕ → Bool
weak None strength = false
weak (Some limit) strength = nat_lt strength limit

-- the message is neither addressed to this station nor to all; a beacon has no address
abbrev pub elsewhere : ℕ → Option ℕ → Bool
elsewhere own None = true
elsewhere own (Some d) = not (d == own || d == 0xffff)

-- the identity filter is on, and the message is for somebody else
abbrev pub other : ℕ → Filters → Option ℕ → Bool
other own f d = f.identity && elsewhere own d

-- the message's type is muted
abbrev pub muted : Filters → ℕ → Bool
muted f k = slice_index_or f.muted k false

-- some filter that is set keeps the message back
abbrev pub withheld : ℕ → Filters → ℕ → List ℕ → Bool
withheld own f strength m = weak f.strength strength || (other own f (destination m) || muted f (kind m))
