-- What a line over bytes means. Assumes nothing.
use Rattle.radio.specs.Lines.{Heard, Sound, bottom_sound, to_come}
use Rattle.lines.specs.declared.recorded.Recorded.{Ghosts as RecordedBy}
use Rattle.lines.specs.declared.byte_line.ByteLine.{ByteLine}
use Rattle.lines.specs.Recording.{Recording, rest_at, present_in, heard_in}

-- what a line means: the cells from its place on are left
abbrev pub meaning : {M : Type 0} {m : RecordedBy M} → Recording → ByteLine M m → Heard
meaning r s = heard_in r s.given s.quiet (rest_at r s.bytes.now s.place)

pub meaning_sound : {M : Type 0} {m : RecordedBy M} (r : Recording) (s : ByteLine M m) → Sound (meaning r s)
meaning_sound r s =
    let rest = rest_at r s.bytes.now s.place in
    bottom_sound (present_in r s.given rest) (to_come s.quiet (r.receptions rest))
