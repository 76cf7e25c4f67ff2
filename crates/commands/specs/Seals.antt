-- Which messages are refused, and why, and what the others are sealed to. Assumes nothing.
use Rattle.std.specs.Prelude.{ℕ, cond, List, length, Some, None, Option, nat_le}
use Rattle.message.specs.Message.{admits, message}
use Rattle.refusal.specs.declared.Refusal.{Refusal}
use Rattle.refusal.specs.declared.Refusal.TheVariants.{Argument, Long}
use Rattle.commands.specs.Fields.{Given}

-- the header is checked first, then the length of the payload
abbrev pub refused_for : Given → Option Refusal
refused_for g = cond (admits g.kind g.destination g.source) (cond (nat_le (length g.payload) 66) None (Some Long)) (Some Argument)

-- the octets of the message
abbrev pub message_of : Given → List ℕ
message_of g = message g.kind g.destination g.source g.payload
