-- Document 01, "Values", "Reals": the number ± m * 2 ^ p, "accepted exactly if some finite double equals it: with the mantissa made odd,
-- it is under 2^53, its power of two at least -1,074, its bits plus the power at most 1,024".
use Rattle.std.specs.Prelude.{ℕ, ◌/◌, ◌^◌, Bool, ◌&&◌, ltb, ℤ, pos, negsuc, ◌+ℤ◌, Float, Option, Some, None}
use Rattle.std.specs.Int.Signed.{le_z}
use Rattle.std.specs.Int.Count.{count_trailing_zeros}
use Rattle.std.specs.Float.{fin}
use Rattle.std.specs.Float.Ieee.{size}
use Rattle.base_choices.specs.Choices.{pick}

-- how often a mantissa of up to 8 octets can be halved
abbrev pub halvings : ℕ → ℕ
halvings m = count_trailing_zeros 64 m

-- "with the mantissa made odd": the mantissa, and its power of two
abbrev pub halved : ℕ → ℕ → ℕ
halved m times = m / 2 ^ times

abbrev pub odd_part : ℕ → ℕ
odd_part m = halved m (halvings m)

abbrev pub odd_power : ℕ → ℤ → ℤ
odd_power m p = p +ℤ pos (halvings m)

-- "it is under 2^53, its power of two at least -1,074, its bits plus the power at most 1,024"
abbrev pub limit : ℕ
limit = 2 ^ 53

unfoldable pub in_double : ℕ → ℤ → Bool
in_double m p = ltb m limit && (le_z (negsuc 1073) p && le_z (pos (size m) +ℤ p) (pos 1024))

-- a mantissa of 0 is refused; the double is written as the library writes it, with an odd mantissa
unfoldable pub number : Bool → ℕ → ℤ → Option Float
number s m p = pick (ltb 0 m && in_double (odd_part m) (odd_power m p)) (Some (fin s (odd_part m) (odd_power m p))) None
