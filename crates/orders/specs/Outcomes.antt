-- What came of an order. Assumes nothing.
use Rattle.std.specs.Prelude.{Result}
use Rattle.refusal.specs.declared.Refusal.{Refusal}
use Rattle.orders.specs.declared.order.Done.{Done}

-- what it did, or why it was refused
abbrev pub DoneOrRefused : Type 0
DoneOrRefused = Result Done Refusal
