-- What the words of a line say, or why they cannot be read: the words in their order. Assumes nothing.
use Rattle.std.specs.Prelude.{ℕ, Bool, false, cond, List, [], ◌∷◌, Some, None, Ok, Err, codes, Option, ◌==◌}
use Rattle.text.specs.Figures.{number_word, address_word, dash, octets_read}
use Rattle.text.specs.Reads.{Read, known, by_name, next, past, and_then, whole}
use Rattle.commands.specs.declared.command.Verb.{Verb}
use Rattle.commands.specs.declared.command.Verb.TheVariants.{Seal, Bodies, Hear}
use Rattle.commands.specs.declared.command.Bottom.{Bottom}
use Rattle.commands.specs.declared.command.Bottom.TheVariants.{Octets, Bits}
use Rattle.commands.specs.declared.command.Pile.{Pile}
use Rattle.commands.specs.declared.command.Pile.TheVariants.{Plain, Standard, Blocks}
use Rattle.commands.specs.declared.command.Piles.{Piles}
use Rattle.commands.specs.declared.command.Piles.TheVariants.{Usual, Trial}
use Rattle.commands.specs.declared.command.Ear.{Ear}
use Rattle.commands.specs.declared.command.Ear.TheVariants.{Piled, Unit as OnUnit}
use Rattle.commands.specs.Fields.{Given}
use Rattle.commands.specs.Said.{Said, nothing, seal, bodies, hear}

-- the fields of a message
abbrev pub kind_word : List ℕ → Read ℕ
kind_word w = known (codes "KIND is a number up to 255") (number_word 255 w)

abbrev pub source_word : List ℕ → Read ℕ
source_word w = known (codes "SOURCE is four hex digits") (address_word w)

abbrev pub maybe : {A : Type 0} → Option A → Option (Option A)
maybe None = None
maybe (Some a) = Some (Some a)

abbrev pub destination_word : List ℕ → Read (Option ℕ)
destination_word w = cond (dash w) (Ok None) (known (codes "DESTINATION is four hex digits, or - for none") (maybe (address_word w)))

abbrev pub fields_read : List (List ℕ) → Read Given
fields_read ws =
    and_then (next (codes "KIND is missing") kind_word ws) (λ k.
    and_then (next (codes "SOURCE is missing") source_word (past 1 ws)) (λ s.
    and_then (next (codes "DESTINATION is missing") destination_word (past 2 ws)) (λ d.
    and_then (next (codes "PAYLOAD is missing") octets_read (past 3 ws)) (λ p.
    Ok (record { kind = k; source = s; destination = d; payload = p })))))

-- what is heard or written: octets or bits, and the layers over them
abbrev pub bottom_named : List ℕ → Option Bottom
bottom_named w = by_name ((codes "octets", Octets) ∷ (codes "bits", Bits) ∷ []) w

abbrev pub bottom_word : List ℕ → Read Bottom
bottom_word w = known (codes "LINE is octets or bits") (bottom_named w)

-- the layers over the bytes; three Block layers only on trial
abbrev pub pile_word : Piles → List ℕ → Option Pile
pile_word Usual w = by_name ((codes "plain", Plain) ∷ (codes "standard", Standard) ∷ []) w
pile_word Trial w = by_name ((codes "plain", Plain) ∷ (codes "standard", Standard) ∷ (codes "blocks", Blocks) ∷ []) w

-- a unit above 0, over octets and only on trial
abbrev pub unit_ear : Piles → Bottom → Option ℕ → Option Ear
unit_ear Usual b u = None
unit_ear Trial Octets (Some u) = cond (u == 0) None (Some (OnUnit u))
unit_ear Trial Octets None = None
unit_ear Trial Bits u = None

abbrev pub ear_of : Piles → Bottom → Option Pile → Option ℕ → Option Ear
ear_of piles b (Some p) u = Some (Piled b p)
ear_of piles b None u = unit_ear piles b u

-- why another word is no pile
abbrev pub wanted_text : Piles → List ℕ
wanted_text Usual = codes "PILE is plain or standard"
wanted_text Trial = codes "PILE is plain, standard or blocks, or over octets a unit"

abbrev pub ear_word : Piles → Bottom → List ℕ → Read Ear
ear_word piles b w = known (wanted_text piles) (ear_of piles b (pile_word piles w) (number_word 65535 w))

-- the words behind the name of each command
abbrev pub seal_read : List (List ℕ) → Read Said
seal_read ws = and_then (fields_read ws) (λ f. whole (seal f) (past 4 ws))

abbrev pub bodies_read : List (List ℕ) → Read Said
bodies_read ws = and_then (next (codes "PAYLOAD is missing") octets_read ws) (λ p. whole (bodies p) (past 1 ws))

abbrev pub hear_read : Piles → List (List ℕ) → Read Said
hear_read piles ws =
    and_then (next (codes "LINE is missing") bottom_word ws) (λ b.
    and_then (next (codes "PILE is missing") (ear_word piles b) (past 1 ws)) (λ e.
    and_then (next (codes "BYTES is missing") octets_read (past 2 ws)) (λ xs.
    whole (hear e xs) (past 3 ws))))

abbrev pub verb_of : List ℕ → Option Verb
verb_of w = by_name ((codes "seal", Seal) ∷ (codes "bodies", Bodies) ∷ (codes "hear", Hear) ∷ []) w

abbrev pub by_verb : Piles → Option Verb → List (List ℕ) → Read Said
by_verb piles None ws = Err (codes "no such command")
by_verb piles (Some Seal) ws = seal_read ws
by_verb piles (Some Bodies) ws = bodies_read ws
by_verb piles (Some Hear) ws = hear_read piles ws

-- a word that begins with `#` begins a comment
abbrev pub comment : List ℕ → Bool
comment [] = false
comment (b ∷ bs) = b == 35

abbrev pub line_read : Piles → List (List ℕ) → Read Said
line_read piles [] = Ok nothing
line_read piles (w ∷ ws) = cond (comment w) (Ok nothing) (by_verb piles (verb_of w) ws)
