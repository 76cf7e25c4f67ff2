-- What an outlet over a memory means by its fields. Assumes nothing.
use Rattle.std.specs.Prelude.{ℕ, min, vec_len}
use Rattle.std.specs.Global.{Vec}
use Rattle.radio.specs.Outlets.{State, Sound}
use Rattle.outlets.specs.Placement.{Placement}
use Rattle.outlets.specs.Bottoms.{fresh, over, over_sound}
use Rattle.outlets.specs.declared.cells.Cells.{Ghosts as CellsOf}
use Rattle.outlets.specs.declared.MemoryOutlet.{MemoryOutlet}

-- as it is made over this memory: its space is as many channel octets as fit, at most 65,536
abbrev pub made_over : Placement → Vec ℕ → State
made_over p memory = fresh p.of_octet (p.of_bytes memory.items) (min (p.fitting (vec_len memory)) 65536)

-- what it means once it is in use: it has written the channel octets that lie in the part of its memory that is used
abbrev pub over_memory : {M : Type 0} {k : CellsOf M} → MemoryOutlet M k → State
over_memory {M} {k} s = over k.placement s.memory.items s.used s.turn s.room

-- the memory that it holds
abbrev pub memory_of : {M : Type 0} {k : CellsOf M} → MemoryOutlet M k → Vec ℕ
memory_of s = s.memory

pub over_memory_sound : {M : Type 0} {k : CellsOf M} → (s : MemoryOutlet M k) → Sound (over_memory s)
over_memory_sound {M} {k} s = over_sound k.placement s.memory.items s.used s.turn s.room s.few s.laid
