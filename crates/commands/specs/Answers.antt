-- What is printed of the outcome of a command. Assumes nothing.
use Rattle.std.specs.Prelude.{ℕ, min, List, [], ◌∷◌, ◌++◌, length, Some, None, Ok, Err, codes, decimal, Option, Result}
use Rattle.std.proofs.Math.Utf8.{encodes}
use Rattle.refusal.specs.declared.Fault.{Fault}
use Rattle.refusal.specs.declared.Refusal.{Refusal}
use Rattle.refusal.specs.Names.{refusal_text, cause_name}
use Rattle.radio.specs.declared.symbol.Symbol.{Symbol}
use Rattle.radio.specs.declared.symbol.Symbol.TheVariants.{Clean, Spoiled}
use Rattle.radio.specs.Reception.{Reception}
use Rattle.payload.specs.Bodies.{Said, regain, dead, air, note, Standing}
use Rattle.commands.specs.Endings.{fault_of}
use Rattle.text.specs.Texts.{octet_text, octets_text, tenths_text, hundredths_text}

abbrev pub end_of_line : List ℕ
end_of_line = 10 ∷ []

abbrev pub refused_text : Refusal → List ℕ
refused_text e = codes "refused " ++ (refusal_text e ++ end_of_line)

-- the message of the fields given, or why there is none
abbrev pub seal_text : Option Refusal → List ℕ → List ℕ
seal_text None m = codes "sealed " ++ (octets_text m ++ end_of_line)
seal_text (Some e) m = refused_text e

-- what a body says
abbrev pub said_text : Said → List ℕ
said_text (regain probe n) = codes "regain probe " ++ (decimal probe ++ (codes " " ++ (hundredths_text n ++ codes " %\n")))
said_text (dead probe cause) = codes "dead probe " ++ (decimal probe ++ (codes " cause " ++ (decimal cause ++ end_of_line)))
said_text (air drier n) = codes "air drier " ++ (decimal drier ++ (codes " " ++ (tenths_text n ++ codes " C\n")))
said_text (note bytes) = codes "note \"" ++ (encodes bytes ++ codes "\"\n")

abbrev pub body_line : Standing → List ℕ
body_line s = codes "  at " ++ (decimal s.position ++ (codes " " ++ said_text s.said))

abbrev pub body_lines : List Standing → List ℕ
body_lines [] = []
body_lines (s ∷ ss) = body_line s ++ body_lines ss

abbrev pub bodies_text : Result (List Standing) Refusal → List ℕ
bodies_text (Ok ss) = codes "bodies " ++ (decimal (length ss) ++ (end_of_line ++ body_lines ss))
bodies_text (Err e) = refused_text e

-- the symbols of a reception
abbrev pub symbol_text : Symbol → List ℕ
symbol_text (Clean x) = octet_text x
symbol_text Spoiled = codes "??"

abbrev pub all_symbols : List Symbol → List ℕ
all_symbols [] = []
all_symbols (s ∷ ss) = symbol_text s ++ all_symbols ss

abbrev pub symbols_text : List Symbol → List ℕ
symbols_text [] = codes "-"
symbols_text (s ∷ ss) = all_symbols (s ∷ ss)

-- the fault that ended a reception, or a whole end
abbrev pub ending_text : Option Fault → List ℕ
ending_text None = codes " whole"
ending_text (Some f) = codes " " ++ (cause_name f.cause ++ (codes " place " ++ (decimal f.place ++ (codes " rise " ++ decimal f.rise))))

abbrev pub reception_line : Reception → List ℕ
reception_line r = codes "  " ++ (symbols_text r.symbols ++ (ending_text (fault_of r.ending) ++ end_of_line))

abbrev pub reception_lines : List Reception → List ℕ
reception_lines [] = []
reception_lines (r ∷ rs) = reception_line r ++ reception_lines rs

-- a count that would pass 64 bits stays at the largest
abbrev pub listing_text : List Reception → List ℕ
listing_text rs = codes "heard " ++ (decimal (min (length rs) 18446744073709551615) ++ (end_of_line ++ reception_lines rs))
