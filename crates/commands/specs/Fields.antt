-- The fields of a message as they are given in a line. Assumes nothing.
use Rattle.std.specs.Prelude.{ℕ, List, vec_items, Option}
use Rattle.commands.specs.declared.command.Fields.{Fields}

pub record Given : Type 0 where
  pub kind : ℕ
  pub source : ℕ
  pub destination : Option ℕ
  pub payload : List ℕ

abbrev pub fields_of : Fields → Given
fields_of f = record { kind = f.kind; source = f.source; destination = f.destination; payload = vec_items f.payload }
