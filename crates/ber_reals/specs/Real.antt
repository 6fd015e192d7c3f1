-- Document 01, "Values": "Reals: empty is zero; 40 and 41 are the infinities; otherwise binary, base 2, exponent of 1 to 3 octets (forms 00,
-- 01, 10), scale 0 to 3, non-zero mantissa of 1 to 8 octets. Accepted exactly if some finite double equals it". "35 REAL: any real not accepted".
use Rattle.std.specs.Prelude.{ℕ, ◌+◌, ◌/◌, ◌%◌, List, [], ◌∷◌, Bool, true, false, ◌&&◌, length, take, drop, leb, ltb, eqb, ℤ, pos, ◌+ℤ◌, Float, Option, Some, None}
use Rattle.std.specs.Float.{inf, fin}
use Rattle.base_choices.specs.Choices.{pick}
use Rattle.ber_integers.specs.Digits.{natural}
use Rattle.ber_integers.specs.Integer.{signed}
use Rattle.ber_integers.specs.Readings.{Reading, done, refused}
use Rattle.ber_reals.specs.Number.{number}

-- ---- the first octet (X.690, 8.5.6): bit 8 set, the sign's bit 7, the base's bits 6 and 5, the scale's 4 and 3, the exponent's form in 2 and 1

abbrev pub binary : ℕ → Bool
binary first = leb 128 first

abbrev pub negative : ℕ → Bool
negative first = leb 64 (first % 128)

abbrev pub base : ℕ → ℕ
base first = first / 16 % 4

abbrev pub scale : ℕ → ℕ
scale first = first / 4 % 4

-- forms 00, 01, 10: an exponent of 1 to 3 octets
abbrev pub exponent_octets : ℕ → ℕ
exponent_octets first = first % 4 + 1

-- ---- what the octets after it say

-- "binary, base 2, exponent of 1 to 3 octets (forms 00, 01, 10), .., mantissa of 1 to 8 octets"
unfoldable pub well_formed : ℕ → List ℕ → Bool
well_formed first rest =
    binary first && (eqb (base first) 0 && (leb (exponent_octets first) 3
    && (ltb (exponent_octets first) (length rest) && leb (length rest) (exponent_octets first + 8))))

abbrev pub mantissa : ℕ → List ℕ → ℕ
mantissa first rest = natural (drop (exponent_octets first) rest)

abbrev pub power : ℕ → List ℕ → ℤ
power first rest = signed (take (exponent_octets first) rest) +ℤ pos (scale first)

-- "otherwise binary": ± mantissa * 2 ^ power
unfoldable pub binary_real : ℕ → List ℕ → Option Float
binary_real first rest = pick (well_formed first rest) (number (negative first) (mantissa first rest) (power first rest)) None

-- "40 and 41 are the infinities"
unfoldable pub non_empty : ℕ → List ℕ → Option Float
non_empty first [] = pick (eqb first 0x40) (Some (inf false)) (pick (eqb first 0x41) (Some (inf true)) None)
non_empty first (second ∷ rest) = binary_real first (second ∷ rest)

-- "empty is zero"
unfoldable pub real : List ℕ → Option Float
real [] = Some (fin false 0 (pos 0))
real (first ∷ rest) = non_empty first rest

-- the n octets at a position of a message; refused where it does not hold them
unfoldable pub real_at : List ℕ → ℕ → ℕ → Option Float
real_at s at n = pick (leb (at + n) (length s)) (real (take n (drop at s))) None

-- for each case of the answer what it says, at the tag: "35 REAL: any real not accepted"
abbrev pub real_says : Option Float → ℕ → Reading Float
real_says (Some x) at = done x
real_says None at = refused 35 at

-- with which numbers: 0 or 35
abbrev pub real_numbers : List ℕ
real_numbers = 0 ∷ 35 ∷ []

abbrev pub real_or : ℕ → Option Float → ℕ → Reading Float
real_or number (Some x) at = done x
real_or number None at = refused number at
