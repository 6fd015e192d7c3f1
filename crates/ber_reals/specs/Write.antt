-- Document 01, "Values": reals are "written with scale 0, odd mantissa, fewest octets. Minus zero and NaN aren't written": 46.
-- A finite double of the library that is not zero is already an odd mantissa and a power of two.
use Rattle.std.specs.Prelude.{ℕ, zero, suc, ◌+◌, ◌-◌, ◌/◌, List, [], ◌∷◌, ◌++◌, Bool, true, false, cond, length, ℤ, Float}
use Rattle.std.specs.Float.{nan, inf, fin}
use Rattle.std.specs.Float.Ieee.{size}
use Rattle.ber_integers.specs.Digits.{digits, Put, unchanged, put}
use Rattle.ber_integers.specs.Integer.{shortest}

-- the octets of a double, where it is written
pub data Form : Type 0 where
  unwritten : Form
  octets : List ℕ → Form

-- "fewest octets": as many as the mantissa's binary digits fill
abbrev pub mantissa_octets : ℕ → List ℕ
mantissa_octets m = digits 256 ((size m + 7) / 8) m

-- the first octet: binary, the sign, base 2, scale 0, the exponent's form
abbrev pub first_octet : Bool → ℕ → ℕ
first_octet s n = 128 + cond s 64 0 + (n - 1)

abbrev pub number_octets : Bool → ℕ → ℤ → List ℕ
number_octets s m p = first_octet s (length (shortest p)) ∷ (shortest p ++ mantissa_octets m)

unfoldable pub form : Float → Form
form nan = unwritten
form (inf false) = octets (0x40 ∷ [])
form (inf true) = octets (0x41 ∷ [])
form (fin false zero p) = octets []
form (fin true zero p) = unwritten
form (fin s (suc m) p) = octets (number_octets s (suc m) p)

-- the answer and the output: the octets at a position, or 46 and the output as it was
abbrev pub put_form : List ℕ → ℕ → Form → Put
put_form out at unwritten = unchanged out
put_form out at (octets bs) = put out at bs

unfoldable pub write_at : List ℕ → ℕ → Float → Put
write_at out at x = put_form out at (form x)
