use Rattle.std.proofs.Common.{◌≡◌, length, replicate, Ok, sym, ap, ◌∙◌, arith}
use Rattle.lines.specs.Recordings.{in_octets}
use Rattle.lines.specs.Meaning as lines
use Rattle.outlets.specs.OverMemory.{over_memory}
use Rattle.coding.specs.BlockLaws.{block}
use Rattle.coding.specs.ManchesterLaws.{manchester}
use Rattle.reading.specs.Meaning.{meaning}
use Rattle.standard.specs.Standard.{laid_over}
use Rattle.orders.specs.declared.order.Done.TheVariants.{Set}
use Rattle.station.specs.Filtering.{off}
use Rattle.orders.specs.Runs.{Stand}
use Rattle.figures.specs.Orders.{come_to}
use Rattle.figures.proofs.Playing.{all_come_to}
use Rattle.figures.proofs.recorded.play_on.Goals as goal

pub returns : goal.returns
returns c =
    let os = c.args.orders.now in
    let five : length os ≡ 5 = omega arith in
    let ran = c.in_ok-run.ensures.ran in
    let a : Stand _ = record { filters = off; heard = meaning block (meaning manchester (lines.meaning in_octets)) c.standard_reading-line.result; outlet = c.new-outlet.result } in
    let b : Stand _ = record { filters = ran.4.0; heard = meaning block (meaning manchester (lines.meaning in_octets)) c.run.new.line; outlet = c.run.new.outlet } in
    let played = all_come_to over_memory 0x0102 os _ (replicate 5 (Ok Set)) c.run.new.outcomes a b c.requires (sym five) ran.2 ran.3 ran.4.1 in
    let start = c.standard_reading-line.ensures.heard ∙ ap laid_over c.new.ensures in
    ap Ok (played ∙ ap (λ h. come_to 0x0102 off h os) start)
