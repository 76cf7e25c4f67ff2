-- What is printed of a line of input, and what it brings to be heard. Assumes nothing.
use Rattle.std.specs.Prelude.{ℕ, List, [], ◌++◌, Some, None, Ok, Err, codes, vec_items, Option}
use Rattle.payload.specs.Apart.{taken_apart}
use Rattle.text.specs.Reads.{Read}
use Rattle.commands.specs.declared.command.Ear.{Ear}
use Rattle.commands.specs.declared.command.Recording.{Recording}
use Rattle.commands.specs.Said.{Said, nothing, seal, bodies, hear}
use Rattle.commands.specs.Seals.{refused_for, message_of}
use Rattle.commands.specs.Answers.{end_of_line, seal_text, bodies_text}

-- the outcome of the command, or why the line cannot be read; what a recording holds is listed behind it
abbrev pub line_text : Read Said → List ℕ
line_text (Err why) = codes "? " ++ (why ++ end_of_line)
line_text (Ok nothing) = []
line_text (Ok (seal given)) = seal_text (refused_for given) (message_of given)
line_text (Ok (bodies payload)) = bodies_text (taken_apart payload)
line_text (Ok (hear ear bytes)) = []

-- the bytes of a recording, and how they are heard
pub record Hearing : Type 0 where
  pub ear : Ear
  pub bytes : List ℕ

abbrev pub brought : Read Said → Option Hearing
brought (Err why) = None
brought (Ok nothing) = None
brought (Ok (seal given)) = None
brought (Ok (bodies payload)) = None
brought (Ok (hear ear bytes)) = Some (record { ear = ear; bytes = bytes })

abbrev pub hearing_of : Option Recording → Option Hearing
hearing_of None = None
hearing_of (Some r) = Some (record { ear = r.ear; bytes = vec_items r.bytes })
