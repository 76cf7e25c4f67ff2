-- What a header, a draft and a sealed message hold. Assumes nothing.
use Rattle.std.specs.Prelude.{◌≡◌, ℕ, true, List, Option}
use Rattle.message.specs.declared.draft.Draft.{Draft}
use Rattle.message.specs.declared.header.Header.{Header}
use Rattle.message.specs.declared.sealed.Sealed.{Sealed}
use Rattle.message.specs.Message.{admits, message}
use Rattle.message.specs.Parts.{items}

-- a header of this type, Destination and Source, which go together
abbrev pub IsHeaderOf : ℕ → Option ℕ → ℕ → Header → Type 0
IsHeaderOf k d s h = (admits k d s ≡ true) × (h.kind ≡ k) × (h.destination ≡ d) × (h.source ≡ s)

-- the header of a draft
abbrev pub header_of : Draft → Header
header_of d = d.header

-- the payload of a draft so far
abbrev pub payload_of : Draft → List ℕ
payload_of d = items d.payload

-- the message of a draft's header and payload
abbrev pub message_of : Draft → List ℕ
message_of d = message d.header.kind d.header.destination d.header.source (payload_of d)

-- the octets of a sealed message
abbrev pub octets_of : Sealed → List ℕ
octets_of m = items m.octets
