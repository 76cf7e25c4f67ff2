-- What a terminal has printed. Assumes nothing.
use Rattle.std.specs.Prelude.{ℕ, List, Option}
use Rattle.std.specs.Io.Buffered.{writer_contents}
use Rattle.commands.specs.declared.terminal.Terminal.{Terminal}

-- the bytes that the writer of a terminal holds, with those that wait to be written, where they are known
abbrev pub printed : {R W : Type 0} → (W → Option (List ℕ)) → Terminal R W → Option (List ℕ)
printed contents t = writer_contents contents t.out
