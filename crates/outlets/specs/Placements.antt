-- The two ways in which channel octets lie in a memory. Assumes nothing.
use Rattle.std.specs.Prelude.{ℕ, ◌*◌, ◌/◌, ◌≤◌, List, take, refl}
use Rattle.std.proofs.Common.{sym, ap, ◌∙◌, one-mul}
use Rattle.radio.specs.declared.turn.Turn.{Turn}
use Rattle.radio.specs.Bits.{bits_of, frame}
use Rattle.radio.specs.Outlets.{Sound}
use Rattle.outlets.specs.Placement.{Placement}
use Rattle.outlets.specs.Bottoms.{one_cell, joined_one, over, over_sound, Laid}
use Rattle.outlets.specs.Frames.{unframed}
use Rattle.outlets.specs.PlacementLaws.{octets_fit, octets_few, octets_behind, frames_fit, frames_few, frames_behind}

-- one channel octet in each byte
abbrev pub in_bytes : Placement
in_bytes = record {
  of_bytes = λ bytes. bytes;
  of_octet = one_cell;
  width = 1;
  fitting = λ n. n;
  octets_in = take;
  wide = λ x. refl;
  fits = octets_fit;
  few = octets_few;
  none = λ cells. refl;
  behind = octets_behind;
}

-- a frame of ten bits for each channel octet
abbrev pub in_frames : Placement
in_frames = record {
  of_bytes = bits_of;
  of_octet = frame;
  width = 10;
  fitting = λ n. 8 * n / 10;
  octets_in = unframed;
  wide = λ x. refl;
  fits = frames_fit;
  few = frames_few;
  none = λ cells. refl;
  behind = frames_behind;
}

-- in bytes all that is used lies whole
pub octets_laid : (bytes : List ℕ) (used : ℕ) → Laid in_bytes bytes used
octets_laid bytes used = joined_one (take used bytes) ∙ ap (λ n. take n bytes) (sym (one-mul used))

-- an outlet over bytes is sound
pub octets_sound : (memory : List ℕ) (used : ℕ) (turn : Turn) (space : ℕ) → space ≤ 65536 → Sound (over in_bytes memory used turn space)
octets_sound memory used turn space h = over_sound in_bytes memory used turn space h (octets_laid memory used)

-- an outlet over frames is sound if those that it has written lie whole
pub bits_sound : (memory : List ℕ) (used : ℕ) (turn : Turn) (space : ℕ) → space ≤ 65536 → Laid in_frames memory used → Sound (over in_frames memory used turn space)
bits_sound memory used turn space h e = over_sound in_frames memory used turn space h e
