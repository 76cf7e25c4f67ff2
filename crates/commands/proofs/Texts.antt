-- Texts that are put together.
use Rattle.std.proofs.Common.{◌≡◌, ℕ, ◌+◌, ◌<◌, List, [], ◌∷◌, ◌++◌, length, get_or, take, sym, ap, ◌∙◌, append_assoc, append-nil}
use lib.Utf8.{encode, encodes}
use Rattle.std.proofs.lemmas.List.{take_more}
use Rattle.std.proofs.lemmas.Str.{encodes-append}
use Rattle.payload.specs.declared.body.Body.{Body}
use Rattle.payload.specs.declared.body.Placed.{Placed}
use Rattle.payload.specs.Handed.{said_by, stands}
use Rattle.commands.specs.Answers.{body_line}

-- the line of a body, by what the body is
pub line_is : (p : Placed) (b : Body) → p.body ≡ b → body_line (record { position = p.position; said = said_by b }) ≡ body_line (stands p)
line_is p b e = ap (λ (x : Body). body_line (record { position = p.position; said = said_by x })) (sym e)

-- one character more
pub chars_more : (xs : List ℕ) (i : ℕ) → i < length xs → encodes (take i xs) ++ encode (get_or xs i 0) ≡ encodes (take (i + 1) xs)
chars_more xs i h =
    sym (ap encodes (take_more xs i 0 h) ∙ encodes-append (take i xs) (get_or xs i 0 ∷ []) ∙ ap (λ (ys : List ℕ). encodes (take i xs) ++ ys) (append-nil (encode (get_or xs i 0))))

-- one piece more of a text that is put together from the front
pub piece_more : (was now piece rest all : List ℕ) → now ≡ was ++ piece → was ++ (piece ++ rest) ≡ all → now ++ rest ≡ all
piece_more was now piece rest all n e = ap (λ (ys : List ℕ). ys ++ rest) n ∙ append_assoc was piece rest ∙ e
