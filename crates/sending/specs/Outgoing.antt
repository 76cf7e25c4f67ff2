-- What a sending half means over the outlet below. Assumes nothing.
use Rattle.std.specs.Prelude.{ℕ, ◌-◌, ◌*◌, ◌/◌, ◌%◌, ◌≤◌, cond, List, ◌∷◌, length, ◌==◌}
use Rattle.radio.specs.declared.turn.Turn.{Turn}
use Rattle.radio.specs.declared.turn.Turn.TheVariants.{Idle, Owing, Stuck}
use Rattle.radio.specs.Layer.{Fit}
use Rattle.radio.specs.Outlets.{State, Sound, Written, unit}
use Rattle.radio.specs.declared.outlet.Outlet.{Ghosts as OutletOf}
use Rattle.coding.specs.declared.Coding.{Ghosts as CodingOf}
use Rattle.sending.specs.declared.Sending.{Sending}
use Rattle.coding.specs.Regroup.{regroup}
use Rattle.coding.specs.Grouping.{Grouping}
use Rattle.coding.specs.Lift.{layer_of}

-- how a half stands over an outlet that stands so, with h octets held back: it is owed the octets of the groups that are owed below, less those held;
-- where what is owed below is no whole number of groups, it is stuck
abbrev pub turn_over : ℕ → ℕ → Turn → ℕ → Turn
turn_over plain coded Idle h = Idle
turn_over plain coded (Owing n) h = cond (n % coded == 0) (Owing (n / coded * plain - h)) Stuck
turn_over plain coded Stuck h = Stuck

-- the outlet that a half is over an outlet that means b, with these octets held back: each group that fills is put below in its code
abbrev pub over_outlet : Grouping → List ℕ → State → State
over_outlet c held b = record {
  channel = b.channel;
  once_put = λ xs. b.once_put (regroup c.plain c.code held xs);
  turn = turn_over c.plain c.coded b.turn (length held);
  space = b.space;
  pile = layer_of c ∷ b.pile;
  ground_unit = b.ground_unit;
  memory = b.memory;
  cells = b.cells;
}

-- what a sending half means by its fields: the octets that it holds are held back; `under` is what the outlet below means
abbrev pub outgoing : {C O : Type 0} {k : CodingOf C} {l : OutletOf O} → Grouping → (O → State) → Sending C O k l → State
outgoing c under s = over_outlet c s.held.items (under s.below)

-- the outlet below a half
abbrev pub below_of : {C O : Type 0} {k : CodingOf C} {l : OutletOf O} → Sending C O k l → O
below_of s = s.below

pub over_outlet_sound : (c : Grouping) (held : List ℕ) (b : State) → Sound b → Sound (over_outlet c held b)
over_outlet_sound c held b s = record { none_put = s.none_put; spaced = s.spaced; grounded = s.grounded; laid = s.laid }

pub outgoing_sound : {C O : Type 0} {k : CodingOf C} {l : OutletOf O} (c : Grouping) (under : O → State) → ((o : O) → Sound (under o)) → (s : Sending C O k l) → Sound (outgoing c under s)
outgoing_sound c under sound s = over_outlet_sound c s.held.items (under s.below) (sound s.below)

-- the sending side of a layer: whenever a whole message has gone through a half, the outlet below is as if the layer's coding of it had been written there
abbrev pub SendsCoding : Type 0
SendsCoding = (c : Grouping) (held held' : List ℕ) (b b' : State) (p : ℕ) (xs : List ℕ) → 1 ≤ unit b → Fit (layer_of c).unit (unit b) xs
    → Written p xs (over_outlet c held b) (over_outlet c held' b') → Written p ((layer_of c).encode xs) b b'
