-- The 64 bits of the double ± m * 2 ^ (j - 1074), that is m * 2 ^ j times the smallest double: where that has at most 53 digits they are
-- the low bits; otherwise its 53 leading digits are kept, and the number of those left away counts the exponent's field up.
-- For the private functions `pattern` and `exact` alone.
use Rattle.std.specs.Prelude.{ℕ, Bool, cond}
use Rattle.std.specs.Float.Ieee as Ieee
use Rattle.std.specs.Float.{fin, binary64}
use Rattle.std.specs.Float.Ieee.{minus}

-- the sign's bit
abbrev pub sign_bit : Bool → ℕ
sign_bit s = cond s 0x8000000000000000 0

-- the bits of the double ± m * 2 ^ (j - 1074)
abbrev pub bits_of : Bool → ℕ → ℕ → ℕ
bits_of s m j = Ieee.to_bits binary64 (fin s m (minus j 1074))
