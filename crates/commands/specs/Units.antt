-- An octet line with another unit. Assumes nothing.
use Rattle.std.specs.Prelude.{ℕ, ◌≤◌}
use Rattle.radio.specs.Lines.{Heard, Sound}

-- a line that means h, were the unit at its bottom u
abbrev pub on_unit : ℕ → Heard → Heard
on_unit u h = record { present = h.present; coming = h.coming; pile = h.pile; air = h.air; ground_unit = u }

pub on_unit_sound : (u : ℕ) (h : Heard) → 1 ≤ u → Sound h → Sound (on_unit u h)
on_unit_sound u h positive s = record { grounded = positive; layered = s.layered }
