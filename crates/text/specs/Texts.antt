-- How octets, addresses and decimal numbers are written. Assumes nothing.
use Rattle.std.specs.Prelude.{ℕ, ◌+◌, ◌/◌, ◌%◌, cond, List, [], ◌∷◌, ◌++◌, ℤ, pos, codes, decimal, int_lt, nat_lt, unsigned_abs}

-- a capital hex digit
abbrev pub digit_text : ℕ → ℕ
digit_text d = cond (nat_lt d 10) (48 + d) (55 + d)

abbrev pub octet_text : ℕ → List ℕ
octet_text x = digit_text (x / 16) ∷ digit_text (x % 16) ∷ []

abbrev pub pairs_text : List ℕ → List ℕ
pairs_text [] = []
pairs_text (x ∷ xs) = octet_text x ++ pairs_text xs

-- octets in hex, and `-` for none
abbrev pub octets_text : List ℕ → List ℕ
octets_text [] = codes "-"
octets_text (x ∷ xs) = pairs_text (x ∷ xs)

abbrev pub address_text : ℕ → List ℕ
address_text a = octet_text (a / 256) ++ octet_text (a % 256)

abbrev pub sign_text : ℤ → List ℕ
sign_text n = cond (int_lt n (pos 0)) (codes "-") []

-- a number of tenths, and of hundredths
abbrev pub tenths_text : ℤ → List ℕ
tenths_text n = sign_text n ++ (decimal (unsigned_abs n / 10) ++ (codes "." ++ decimal (unsigned_abs n % 10)))

abbrev pub hundredths_text : ℤ → List ℕ
hundredths_text n = sign_text n ++ (decimal (unsigned_abs n / 100) ++ (codes "." ++ (decimal (unsigned_abs n / 10 % 10) ++ decimal (unsigned_abs n % 10))))
