-- How many content octets a double takes: as it is written, and at least, among all octets that are read as it.
-- Written is scale 0 and an odd mantissa. A power of two just over 127 takes two exponent octets so; a scale of up to 3 and the bits that the mantissa's
-- first octet leaves free can bring the exponent down to 127, which takes one.
use Rattle.std.specs.Prelude.{◌≡◌, ℕ, ◌+◌, ◌-◌, ◌*◌, ◌/◌, ◌^◌, ◌≤◌, ◌<◌, List, [], ◌∷◌, Bool, true, false, cond, ◌&&◌, length, leb, ltb, ℤ, pos, negsuc, Float}
use Rattle.std.specs.Int.Signed.{mag}
use Rattle.std.specs.Float.{nan, inf, fin}
use Rattle.std.specs.Float.Ieee.{size, minus}
use Rattle.base_choices.specs.Choices.{pick}
use Rattle.ber_real_sizes.specs.declared.Content.{Content}
use Rattle.ber_real_sizes.specs.declared.Content.TheVariants.{Number, Octets}
use Rattle.ber_integers.specs.Digits.{digits}
use Rattle.ber_integers.specs.Integer.{shortest}
use Rattle.ber_reals.specs.Write.{Form, unwritten, octets, form}

-- ---- as it is written

abbrev pub is_form : Form → Bool
is_form unwritten = false
is_form (octets bs) = true

abbrev pub form_octets : Form → List ℕ
form_octets unwritten = []
form_octets (octets bs) = bs

-- no NaN and no minus zero
unfoldable pub is_written : Float → Bool
is_written x = is_form (form x)

-- 0 where it is not written
unfoldable pub written_size : Float → ℕ
written_size x = length (form_octets (form x))

-- ---- at least

-- the octets that hold b bits, and the bits that these leave free
abbrev pub octets_for : ℕ → ℕ
octets_for b = (b + 7) / 8

abbrev pub spare : ℕ → ℕ
spare b = 8 * octets_for b - b

-- the highest power that a scale of up to 3 and the free bits of a mantissa of b bits bring down to 127
abbrev pub highest : ℕ → ℕ
highest b = 127 + 3 + spare b

-- a power over 127 that is brought down to it, which saves an exponent octet
unfoldable pub saves : ℕ → ℤ → Bool
saves b (pos p) = ltb 127 p && leb p (highest b)
saves b (negsuc p) = false

-- what the scale does not bring down, the mantissa takes: so often it is doubled
abbrev pub doublings : ℕ → ℕ
doublings p = p - (127 + 3)

-- ± m * 2 ^ p, that is, with the exponent 127
abbrev pub saved_octets : Bool → ℕ → ℕ → List ℕ
saved_octets s m p = (128 + cond s 64 0 + 4 * (p - 127 - doublings p)) ∷ (127 ∷ digits 256 (octets_for (size m)) (m * 2 ^ doublings p))

-- so where it saves an octet, otherwise as it is written
unfoldable pub least_octets : Float → List ℕ
least_octets nan = []
least_octets (inf s) = form_octets (form (inf s))
least_octets (fin s m p) = pick (saves (size m) p) (saved_octets s m (mag p)) (form_octets (form (fin s m p)))

unfoldable pub least_size : Float → ℕ
least_size nan = 0
least_size (inf s) = written_size (inf s)
least_size (fin s m p) = written_size (fin s m p) - cond (saves (size m) p) 1 0

-- ---- for private functions alone: a number with an odd mantissa of b bits and the power p

abbrev pub number_size : ℕ → ℤ → ℕ
number_size b p = 1 + length (shortest p) + octets_for b

abbrev pub number_least : ℕ → ℤ → ℕ
number_least b p = number_size b p - cond (saves b p) 1 0

-- both sizes of a double hang on this
abbrev pub HasSizes : Float → Content → Type 0
HasSizes x (Number b units) =
    (b ≤ 64) × ((units < 4096) × ((number_size b (minus units 1074) ≡ written_size x) × (number_least b (minus units 1074) ≡ least_size x)))
HasSizes x (Octets n) = (n ≡ written_size x) × (n ≡ least_size x)
