-- What a line means, and what opening and taking do to it. Assumes nothing.
use Rattle.std.specs.Prelude.{◌≡◌, ℕ, ◌≤◌, Bool, true, false, List, [], ◌∷◌, map, drop, Some, None, Ok, Err, Option, Result, refl}
use Rattle.std.proofs.Common.{ap, lit≤}
use Rattle.refusal.specs.declared.Fault.{Fault}
use Rattle.refusal.specs.declared.Refusal.{Refusal}
use Rattle.refusal.specs.declared.Refusal.TheVariants.{Quiet}
use Rattle.radio.specs.declared.symbol.Symbol.{Symbol}
use Rattle.radio.specs.Reception.{Reception, Ending, whole, fault}
use Rattle.radio.specs.Layer.{Pile, unit_of, read_through}

pub record Heard : Type 0 where
  -- the present reception, as far as it is not yet taken
  pub present : Reception
  -- the receptions to come
  pub coming : List Reception
  -- the layers between this line and the bottom, the top one first
  pub pile : Pile
  -- the receptions to come at the bottom, and the bottom's unit
  pub air : List Reception
  pub ground_unit : ℕ

abbrev pub unit : Heard → ℕ
unit h = unit_of h.pile h.ground_unit

-- what holds of every line: what is to come is what is to come at the bottom, read through the pile
pub record Sound (h : Heard) : Type 0 where
  pub grounded : 1 ≤ h.ground_unit
  pub layered : h.coming ≡ map (read_through h.pile) h.air

-- what a bottom of unit 1 means
abbrev pub at_bottom : Reception → List Reception → Heard
at_bottom p cs = record { present = p; coming = cs; pile = []; air = cs; ground_unit = 1 }

-- nothing is to come at a bottom whose search for the next sign found none
abbrev pub to_come : Bool → List Reception → List Reception
to_come false cs = cs
to_come true cs = []

pub read_bare : (cs : List Reception) → cs ≡ map (read_through []) cs
read_bare [] = refl
read_bare (c ∷ cs) = ap (λ ds. c ∷ ds) (read_bare cs)

pub bottom_sound : (p : Reception) (cs : List Reception) → Sound (at_bottom p cs)
bottom_sound p cs = record { grounded = lit≤ tt; layered = read_bare cs }

-- all but the first
abbrev pub tail : {A : Type 0} → List A → List A
tail [] = []
tail (x ∷ xs) = xs

-- what opening answers: Quiet where no reception is to come
abbrev pub found : List Reception → Result (Unit {0}) Refusal
found [] = Err Quiet
found (c ∷ cs) = Ok tt

-- the line once it has been opened: the first to come is present; with none to come all is as it was
abbrev pub opening : Heard → List Reception → Heard
opening h [] = h
opening h (c ∷ cs) = record { present = c; coming = cs; pile = h.pile; air = tail h.air; ground_unit = h.ground_unit }

abbrev pub opened : Heard → Heard
opened h = opening h h.coming

-- what taking answers: the next symbol, and with none left the ending
abbrev pub ended : Ending → Result (Option Symbol) Fault
ended whole = Ok None
ended (fault f) = Err f

abbrev pub first : List Symbol → Ending → Result (Option Symbol) Fault
first [] e = ended e
first (s ∷ ss) e = Ok (Some s)

abbrev pub next : Reception → Result (Option Symbol) Fault
next p = first p.symbols p.ending

-- the line once a symbol has been taken: the present reception without its first symbol
abbrev pub taken : Heard → Heard
taken h = record { present = record { symbols = tail h.present.symbols; ending = h.present.ending }; coming = h.coming; pile = h.pile; air = h.air; ground_unit = h.ground_unit }

-- what a take answers, and what it leaves of what the line meant
abbrev pub Takes : Heard → Result (Option Symbol) Fault → Heard → Type 0
Takes a r b = (r ≡ next a.present) × (b ≡ taken a)

-- what is left of a reception, and of a line, once n symbols are taken
abbrev pub beyond : ℕ → Reception → Reception
beyond n p = record { symbols = drop n p.symbols; ending = p.ending }

abbrev pub past : ℕ → Heard → Heard
past n h = record { present = beyond n h.present; coming = h.coming; pile = h.pile; air = h.air; ground_unit = h.ground_unit }
