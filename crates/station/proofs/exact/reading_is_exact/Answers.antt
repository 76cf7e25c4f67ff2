use Rattle.station.proofs.Exactly.{exact, unique}
use Rattle.station.proofs.exact.reading_is_exact.Goals as goal

pub returns : goal.returns
returns c = record { exact = exact; unique = unique }
