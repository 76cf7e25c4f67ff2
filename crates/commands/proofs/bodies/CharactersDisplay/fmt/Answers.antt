use Rattle.std.proofs.Common.{true, get_or, take, refl}
use Rattle.std.proofs.Math.Utf8.{encodes}
use lib.Utf8.{encode}
use Rattle.std.proofs.Output.{has_written_append, has_written_of_eq}
use Rattle.commands.proofs.Texts.{chars_more}
use Rattle.commands.proofs.bodies.CharactersDisplay.fmt.Goals as goal

pub loop-byte-preserved : goal.loop-byte-preserved
loop-byte-preserved g c plain =
    let xs = c.args.self.now.0.now in
    let i = c.loop-byte.byte-index in
    let so_far = c.loop-byte.invariant plain in
    has_written_of_eq g.W.Write.write_str_gives c.args.f.now _ _ c.write_char.new.self (chars_more xs i c.loop-byte-test.true)
    (has_written_append g.W.Write.write_str_gives c.args.f.now (encodes (take i xs)) c.loop-byte.f (encode (get_or xs i 0)) c.write_char.new.self so_far (c.in_ok-write_char.ensures.writes so_far.plain (refl {a = true})))
