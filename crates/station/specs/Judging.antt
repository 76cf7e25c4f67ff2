-- What a read answers, in the order in which it checks. Assumes nothing.
use Rattle.std.specs.Prelude.{ℕ, ◌+◌, ◌-◌, ◌/◌, ◌%◌, Bool, true, false, cond, not, ◌&&◌, List, [], ◌∷◌, ◌++◌, map, length, take, drop, Ok, Err, sum, Option, Result, ◌==◌, nat_le, nat_lt}
use Rattle.std.specs.List.{prefix_len}
use Rattle.refusal.specs.declared.Refusal.{Refusal}
use Rattle.refusal.specs.declared.Refusal.TheVariants.{Short, Unit as UnitOver, Quiet, Fault as Faulty, Extent, Spoiled as Spoilt, Count, Pad, Sum, «Type» as TypeOctet, Range, Address, Weak, Other, Muted}
use Rattle.radio.specs.declared.symbol.Symbol.{Symbol}
use Rattle.radio.specs.declared.symbol.Symbol.TheVariants.{Clean, Spoiled}
use Rattle.radio.specs.Reception.{Reception, Ending, whole, fault}
use Rattle.radio.specs.Lines.{Heard, unit, opened, past}
use Rattle.message.specs.Message.{kind, head_length, source, destination, payload, sum_field, within, addressed, all_octets}
use Rattle.station.specs.declared.filters.Filters.{Filters}
use Rattle.station.specs.declared.filters.Facts.{Facts}
use Rattle.station.specs.Filtering.{weak, other, muted}
use Rattle.station.specs.Nearness.{rounded}

-- go on if the test passes, else refuse
abbrev pub require : {A : Type 0} → Bool → Refusal → Result A Refusal → Result A Refusal
require true e r = r
require false e r = Err e

abbrev pub is_clean : Symbol → Bool
is_clean (Clean v) = true
is_clean Spoiled = false

-- a symbol's value, and v for a spoiled one
abbrev pub value_or : ℕ → Symbol → ℕ
value_or v (Clean x) = x
value_or v Spoiled = v

abbrev pub filled : ℕ → List Symbol → List ℕ
filled v ss = map (value_or v) ss

-- where the first spoiled symbol stands; behind the last where there is none
abbrev pub spoiled_place : List Symbol → ℕ
spoiled_place ss = prefix_len is_clean ss

abbrev pub all_clean : List Symbol → Bool
all_clean [] = true
all_clean (s ∷ ss) = is_clean s && all_clean ss

abbrev pub one_spoiled : List Symbol → Bool
one_spoiled [] = true
one_spoiled (s ∷ ss) = cond (is_clean s) (one_spoiled ss) (all_clean ss)

-- at most one symbol is spoiled, and not the first
abbrev pub few_spoiled : List Symbol → Bool
few_spoiled [] = true
few_spoiled (s ∷ ss) = is_clean s && one_spoiled ss

-- the value of the first symbol
abbrev pub number : List Symbol → ℕ
number [] = 0
number (s ∷ ss) = value_or 0 s

-- every clean symbol is 00
abbrev pub blank : List Symbol → Bool
blank [] = true
blank (s ∷ ss) = value_or 0 s == 0 && blank ss

-- Sum is the sum of all octets in front of it
abbrev pub sum_right : List ℕ → Bool
sum_right m = sum_field m == sum (take (length m - 2) m)

-- the value that the octet at place i must have had, worked out from Sum, or from the others if it lies in Sum;
-- the octet itself counts as 00 in m
abbrev pub missing_octet : ℕ → List ℕ → ℕ
missing_octet i m =
    cond (nat_lt i (length m - 2)) (sum_field m - sum (take (length m - 2) m))
    (cond (i == length m - 2) (sum (take (length m - 2) m) / 256) (sum (take (length m - 2) m) % 256))

-- Sum where the sum is wrong or no octet value fits
abbrev pub sum_checked : List ℕ → Result (List ℕ) Refusal
sum_checked m = require (all_octets m && sum_right m) Sum (Ok m)

-- the octets of a message with the spoiled one worked out
abbrev pub mended : List Symbol → Result (List ℕ) Refusal
mended ss = sum_checked (filled (missing_octet (spoiled_place ss) (filled 0 ss)) ss)

-- the fields of octets whose Number and Sum are right
abbrev pub in_range : List ℕ → Bool
in_range m = nat_le (head_length (kind m) + 2) (length m) && nat_le (length m) (head_length (kind m) + 2 + 66)

abbrev pub addresses_fit : List ℕ → Bool
addresses_fit m = within 1 0xfffe (source m) && addressed (destination m)

abbrev pub fields_checked : List ℕ → Result (List ℕ) Refusal
fields_checked m = require (nat_le (kind m) 3) TypeOctet (require (in_range m) Range (require (addresses_fit m) Address (Ok m)))

abbrev pub then_check : {A B : Type 0} → Result A Refusal → (A → Result B Refusal) → Result B Refusal
then_check (Ok a) f = f a
then_check (Err e) f = Err e

-- the octets of a whole reception up to their Number, with the spoiled one worked out
abbrev pub summed : ℕ → List Symbol → Result (List ℕ) Refusal
summed u ss =
    require (few_spoiled ss) Spoilt
    (require (within 6 74 (number ss) && rounded u (number ss) == length ss) Count
    (require (blank (drop (number ss) ss)) Pad (mended (take (number ss) ss))))

-- the message that they stand for
abbrev pub judged : ℕ → List Symbol → Result (List ℕ) Refusal
judged u ss = then_check (summed u ss) fields_checked

-- the octets of a reception, if it has 1 to 96 and ended whole
abbrev pub ended_whole : Ending → List Symbol → Result (List Symbol) Refusal
ended_whole whole ss = require (nat_lt 0 (length ss)) Extent (Ok ss)
ended_whole (fault f) ss = Err (Faulty f)

abbrev pub collected : Reception → Result (List Symbol) Refusal
collected r = require (nat_le (length r.symbols) 96) Extent (ended_whole r.ending r.symbols)

-- the filters, one after the other
abbrev pub filtered : ℕ → Filters → ℕ → ℕ → Option ℕ → Result (Unit {0}) Refusal
filtered own f strength k d = require (not (weak f.strength strength)) Weak (require (not (other own f d)) Other (require (not (muted f k)) Muted (Ok tt)))

abbrev pub passed : ℕ → Filters → ℕ → List ℕ → Result (List ℕ) Refusal
passed own f strength m = then_check (filtered own f strength (kind m) (destination m)) (λ _. Ok m)

-- the message in a reception
abbrev pub believed : ℕ → Reception → Result (List ℕ) Refusal
believed u r = then_check (collected r) (judged u)

-- what a read makes of the reception that it opened
abbrev pub received : ℕ → Filters → ℕ → ℕ → Reception → Result (List ℕ) Refusal
received own f strength u r = then_check (believed u r) (passed own f strength)

abbrev pub of_coming : ℕ → Filters → ℕ → ℕ → List Reception → Result (List ℕ) Refusal
of_coming own f strength u [] = Err Quiet
of_coming own f strength u (r ∷ rs) = received own f strength u r

-- what a read answers: the message that it hands up, or the refusal
abbrev pub reading : ℕ → Filters → ℕ → ℕ → Heard → Result (List ℕ) Refusal
reading own f strength room h = require (nat_le 66 room) Short (require (nat_le (unit h) 24) UnitOver (of_coming own f strength (unit h) h.coming))

-- what is told of a message
abbrev pub facts_of : ℕ → List ℕ → Facts
facts_of strength m = record { kind = kind m; source = source m; destination = destination m; length = length (payload m); strength = strength }

abbrev pub told : ℕ → Result (List ℕ) Refusal → Result Facts Refusal
told strength (Ok m) = Ok (facts_of strength m)
told strength (Err e) = Err e

-- the caller's buffer afterwards: the payload at its start, or all as it was
abbrev pub buffer_left : Result (List ℕ) Refusal → List ℕ → List ℕ
buffer_left (Ok m) old = payload m ++ drop (length (payload m)) old
buffer_left (Err e) old = old

-- the line afterwards: as it was if none was opened, else behind up to 97 symbols of the reception opened
abbrev pub listened : Heard → List Reception → Heard
listened h [] = h
listened h (r ∷ rs) = past 97 (opened h)

abbrev pub line_left : ℕ → Heard → Heard
line_left room h = cond (nat_le 66 room && nat_le (unit h) 24) (listened h h.coming) h
