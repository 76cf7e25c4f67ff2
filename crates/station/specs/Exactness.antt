-- What a read hands up, in the subject's words. Assumes nothing.
use Rattle.std.specs.Prelude.{◌≡◌, ℕ, ◌≤◌, false, List, Ok}
use Rattle.radio.specs.Reception.{Reception}
use Rattle.message.specs.Message.{Lawful}
use Rattle.station.specs.declared.filters.Filters.{Filters}
use Rattle.station.specs.Filtering.{withheld}
use Rattle.station.specs.Nearness.{Near}
use Rattle.station.specs.Judging.{received}

abbrev pub Iff : Type 0 → Type 0 → Type 0
Iff A B = (A → B) × (B → A)

-- a read hands up a message exactly when that message is lawful, near the reception, and withheld by no filter
abbrev pub Exact : Type 0
Exact =
    (own strength u : ℕ) (f : Filters) (r : Reception) (m : List ℕ) → 1 ≤ u → u ≤ 24
    → Iff (received own f strength u r ≡ Ok m) (Lawful m × Near u m r × (withheld own f strength m ≡ false))

-- no two lawful messages are near one reception
abbrev pub Unique : Type 0
Unique = (u : ℕ) (r : Reception) (m n : List ℕ) → 1 ≤ u → Lawful m → Lawful n → Near u m r → Near u n r → m ≡ n
