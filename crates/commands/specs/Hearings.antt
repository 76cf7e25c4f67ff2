-- What a recording holds, by how it is heard. Assumes nothing.
use Rattle.std.specs.Prelude.{ℕ, max, List, take}
use Rattle.radio.specs.Lines.{Heard}
use Rattle.lines.specs.Recording.{unopened_over}
use Rattle.lines.specs.Recordings.{in_octets, in_bits}
use Rattle.coding.specs.BlockLaws.{block}
use Rattle.reading.specs.Half.{fresh}
use Rattle.standard.specs.Standard.{laid_over}
use Rattle.commands.specs.declared.command.Bottom.TheVariants.{Octets, Bits}
use Rattle.commands.specs.declared.command.Pile.{Pile}
use Rattle.commands.specs.declared.command.Pile.TheVariants.{Plain, Standard, Blocks}
use Rattle.commands.specs.declared.command.Ear.{Ear}
use Rattle.commands.specs.declared.command.Ear.TheVariants.{Piled, Unit as OnUnit}
use Rattle.commands.specs.Units.{on_unit}

-- three Block layers over a line
abbrev pub blocks_over : Heard → Heard
blocks_over h = fresh block (fresh block (fresh block h))

abbrev pub through : Pile → Heard → Heard
through Plain h = h
through Standard h = laid_over h
through Blocks h = blocks_over h

-- of the first 65,536 bytes
abbrev pub heard_by : Ear → List ℕ → Heard
heard_by (Piled Octets pile) bytes = through pile (unopened_over in_octets (take 65536 bytes))
heard_by (Piled Bits pile) bytes = through pile (unopened_over in_bits (take 65536 bytes))
heard_by (OnUnit unit) bytes = on_unit (max unit 1) (unopened_over in_octets (take 65536 bytes))
