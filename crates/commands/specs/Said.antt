-- What a line says. Assumes nothing.
use Rattle.std.specs.Prelude.{ℕ, List, vec_items}
use Rattle.commands.specs.declared.command.Command.{Command}
use Rattle.commands.specs.declared.command.Command.TheVariants.{Nothing, Seal, Bodies, Hear}
use Rattle.commands.specs.declared.command.Ear.{Ear}
use Rattle.commands.specs.Fields.{Given, fields_of}

pub data Said : Type 0 where
  nothing : Said
  seal : Given → Said
  bodies : List ℕ → Said
  hear : Ear → List ℕ → Said

abbrev pub says : Command → Said
says Nothing = nothing
says (Seal f) = seal (fields_of f)
says (Bodies payload) = bodies (vec_items payload)
says (Hear r) = hear r.ear (vec_items r.bytes)
