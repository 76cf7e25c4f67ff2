-- What an outlet over a memory means, by its memory. Assumes nothing.
use Rattle.std.specs.Prelude.{◌≡◌, ℕ, zero, suc, ◌+◌, ◌*◌, ◌≤◌, List, [], ◌∷◌, ◌++◌, length, take, drop, refl}
use Rattle.std.proofs.Common.{sym, ap, ◌∙◌, lit≤}
use Rattle.std.proofs.lemmas.List.{append-nil, map-id}
use Rattle.std.proofs.lemmas.List.Concat.{flat_map_single}
use Rattle.std.specs.List.{flat_map}
use Rattle.radio.specs.declared.turn.Turn.{Turn}
use Rattle.radio.specs.declared.turn.Turn.TheVariants.{Idle, Owing, Stuck}
use Rattle.radio.specs.Outlets.{State, Sound, laid_over}
use Rattle.outlets.specs.Placement.{Placement}

-- an outlet with no layer under it: what is put goes to the channel as it is
abbrev pub bottom : (ℕ → List ℕ) → List ℕ → List ℕ → Turn → ℕ → State
bottom cells channel memory turn space = record {
  channel = channel;
  once_put = λ xs. channel ++ xs;
  turn = turn;
  space = space;
  pile = [];
  ground_unit = 1;
  memory = memory;
  cells = cells;
}

-- as it is made: nothing written, no message under way
abbrev pub fresh : (ℕ → List ℕ) → List ℕ → ℕ → State
fresh cells memory space = bottom cells [] memory Idle space

-- the channel octets that a message still takes up, with the one that ends it
abbrev pub reserved : Turn → ℕ
reserved Idle = 0
reserved (Owing n) = n + 1
reserved Stuck = 0

-- the memory with these cells written over it from a place on
abbrev pub written_at : List ℕ → ℕ → List ℕ → List ℕ
written_at memory i xs = take i memory ++ (xs ++ drop (i + length xs) memory)

-- in the octet outlet each channel octet is one cell
abbrev pub one_cell : ℕ → List ℕ
one_cell x = x ∷ []

pub joined_one : (xs : List ℕ) → flat_map one_cell xs ≡ xs
joined_one xs = flat_map_single (λ x. x) xs ∙ map-id xs

-- the outlet over a memory of these bytes in which so many channel octets lie
abbrev pub over : Placement → List ℕ → ℕ → Turn → ℕ → State
over p bytes used turn space = bottom p.of_octet (p.octets_in used (p.of_bytes bytes)) (p.of_bytes bytes) turn space

-- the first so many channel octets of a memory lie in it whole
abbrev pub Laid : Placement → List ℕ → ℕ → Type 0
Laid p bytes used = flat_map p.of_octet (p.octets_in used (p.of_bytes bytes)) ≡ take (p.width * used) (p.of_bytes bytes)

-- a list is its front and what lies behind that
pub front_and_rest : (n : ℕ) (xs : List ℕ) → xs ≡ take n xs ++ drop (length (take n xs)) xs
front_and_rest zero xs = refl
front_and_rest (suc n) [] = refl
front_and_rest (suc n) (x ∷ xs) = ap (λ ys. x ∷ ys) (front_and_rest n xs)

pub laid_front : (cells : ℕ → List ℕ) (channel memory : List ℕ) (n : ℕ) → flat_map cells channel ≡ take n memory → memory ≡ laid_over cells channel memory
laid_front cells channel memory n e = front_and_rest n memory ∙ ap (λ ys. ys ++ drop (length ys) memory) (sym e)

pub bottom_sound : (cells : ℕ → List ℕ) (channel memory : List ℕ) (turn : Turn) (space n : ℕ) → space ≤ 65536 → flat_map cells channel ≡ take n memory → Sound (bottom cells channel memory turn space)
bottom_sound cells channel memory turn space n h e = record {
  none_put = sym (append-nil channel);
  spaced = h;
  grounded = lit≤ tt;
  laid = laid_front cells channel memory n e;
}

pub over_sound : (p : Placement) (bytes : List ℕ) (used : ℕ) (turn : Turn) (space : ℕ) → space ≤ 65536 → Laid p bytes used → Sound (over p bytes used turn space)
over_sound p bytes used turn space h e = bottom_sound p.of_octet (p.octets_in used (p.of_bytes bytes)) (p.of_bytes bytes) turn space (p.width * used) h e
