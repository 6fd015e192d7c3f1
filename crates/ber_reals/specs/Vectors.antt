-- Worked examples, by computation: octets and the double that they are read as, octets that are refused, and what is written.
use Rattle.std.specs.Prelude.{ℕ, ◌≡◌, refl, List, [], ◌∷◌, map, true, false, length, pos, negsuc, Float, Some}
use Rattle.std.specs.Int.Count.{count_trailing_zeros}
use Rattle.std.specs.Float.Ieee as Ieee
use Rattle.std.specs.Float.{nan, inf, fin}
use Rattle.ber_integers.specs.Digits.{horner, digits}
use Rattle.ber_integers.specs.Integer.{signed, size_by, shortest, octets as octets_of}
use Rattle.ber_integers.specs.Readings.{Reading, done, refused}
use Rattle.ber_reals.specs.Number.{in_double, number}
use Rattle.ber_reals.specs.Real.{well_formed, binary_real, non_empty, real, real_at, real_says}
use Rattle.ber_reals.specs.Write.{unwritten, octets, form}

-- 1; -1; 0.5; the largest double; the smallest subnormal; the smallest normal; zero; the infinities
abbrev pub doubles : List Float
doubles =
    fin false 1 (pos 0)
    ∷ fin true 1 (pos 0)
    ∷ fin false 1 (negsuc 0)
    ∷ fin false 9007199254740991 (pos 971)
    ∷ fin false 1 (negsuc 1073)
    ∷ fin false 1 (negsuc 1021)
    ∷ fin false 0 (pos 0)
    ∷ inf false
    ∷ inf true
    ∷ []

abbrev pub written : List (List ℕ)
written =
    (0x80 ∷ 0x00 ∷ 0x01 ∷ [])
    ∷ (0xC0 ∷ 0x00 ∷ 0x01 ∷ [])
    ∷ (0x80 ∷ 0xFF ∷ 0x01 ∷ [])
    ∷ (0x81 ∷ 0x03 ∷ 0xCB ∷ 0x1F ∷ 0xFF ∷ 0xFF ∷ 0xFF ∷ 0xFF ∷ 0xFF ∷ 0xFF ∷ [])
    ∷ (0x81 ∷ 0xFB ∷ 0xCE ∷ 0x01 ∷ [])
    ∷ (0x81 ∷ 0xFC ∷ 0x02 ∷ 0x01 ∷ [])
    ∷ []
    ∷ (0x40 ∷ [])
    ∷ (0x41 ∷ [])
    ∷ []

pub read : map real written ≡ map Some doubles
unfolding real non_empty binary_real well_formed number in_double horner signed count_trailing_zeros Ieee.size Ieee.span Ieee.climb
read = refl

pub wrote : map form doubles ≡ map octets written
unfolding form digits shortest octets_of size_by Ieee.size Ieee.span Ieee.climb
wrote = refl

-- 1 with an exponent of 3 octets; 1 as 2 ^ -3 with scale 3; a mantissa of 8 octets that reduces; 2 ^ 128 in three octets, of which scale 0 and an odd
-- mantissa need four; the largest double with a leading zero octet
abbrev pub others : List (List ℕ)
others =
    (0x82 ∷ 0x00 ∷ 0x00 ∷ 0x00 ∷ 0x01 ∷ [])
    ∷ (0x8C ∷ 0xFD ∷ 0x01 ∷ [])
    ∷ (0x80 ∷ 0x00 ∷ 0x80 ∷ 0x00 ∷ 0x00 ∷ 0x00 ∷ 0x00 ∷ 0x00 ∷ 0x00 ∷ 0x00 ∷ [])
    ∷ (0x80 ∷ 0x7F ∷ 0x02 ∷ [])
    ∷ (0x81 ∷ 0x00 ∷ 0x80 ∷ 0x01 ∷ [])
    ∷ (0x81 ∷ 0x03 ∷ 0xCB ∷ 0x00 ∷ 0x1F ∷ 0xFF ∷ 0xFF ∷ 0xFF ∷ 0xFF ∷ 0xFF ∷ 0xFF ∷ [])
    ∷ []

pub read-others : map real others
    ≡ Some (fin false 1 (pos 0))
    ∷ Some (fin false 1 (pos 0))
    ∷ Some (fin false 1 (pos 63))
    ∷ Some (fin false 1 (pos 128))
    ∷ Some (fin false 1 (pos 128))
    ∷ Some (fin false 9007199254740991 (pos 971))
    ∷ []
unfolding real non_empty binary_real well_formed number in_double horner signed count_trailing_zeros Ieee.size Ieee.span Ieee.climb
read-others = refl

pub wrote-other : form (fin false 1 (pos 128)) ≡ octets (0x81 ∷ 0x00 ∷ 0x80 ∷ 0x01 ∷ [])
unfolding form digits shortest octets_of size_by Ieee.size Ieee.span Ieee.climb
wrote-other = refl

-- 2 ^ 1024; 2 ^ -1075; 2 ^ 53 + 1; a mantissa of 0; none; one of 9 octets; base 8; the exponent's form 11, also as if it had four octets; a decimal; 42;
-- 40 with an octet after it
abbrev pub bad : List (List ℕ)
bad =
    (0x81 ∷ 0x04 ∷ 0x00 ∷ 0x01 ∷ [])
    ∷ (0x81 ∷ 0xFB ∷ 0xCD ∷ 0x01 ∷ [])
    ∷ (0x80 ∷ 0x00 ∷ 0x20 ∷ 0x00 ∷ 0x00 ∷ 0x00 ∷ 0x00 ∷ 0x00 ∷ 0x01 ∷ [])
    ∷ (0x80 ∷ 0x00 ∷ 0x00 ∷ [])
    ∷ (0x80 ∷ 0x00 ∷ [])
    ∷ (0x80 ∷ 0x00 ∷ 0x00 ∷ 0x00 ∷ 0x00 ∷ 0x00 ∷ 0x00 ∷ 0x00 ∷ 0x00 ∷ 0x00 ∷ 0x01 ∷ [])
    ∷ (0x90 ∷ 0x00 ∷ 0x01 ∷ [])
    ∷ (0x83 ∷ 0x01 ∷ 0x00 ∷ 0x01 ∷ [])
    ∷ (0x83 ∷ 0x00 ∷ 0x00 ∷ 0x00 ∷ 0x00 ∷ 0x01 ∷ [])
    ∷ (0x03 ∷ 0x31 ∷ 0x2E ∷ 0x45 ∷ 0x30 ∷ [])
    ∷ (0x42 ∷ [])
    ∷ (0x40 ∷ 0x00 ∷ [])
    ∷ []

-- each says 35, at its tag
abbrev said : List ℕ → Reading Float
said bs = real_says (real_at bs 0 (length bs)) 7

pub refused-35 : map said bad ≡ map (λ bs. refused 35 7) bad
unfolding real_at real non_empty binary_real well_formed number in_double horner signed count_trailing_zeros Ieee.size Ieee.span Ieee.climb
refused-35 = refl

pub read-0 : map said ([] ∷ (0x40 ∷ []) ∷ (0x80 ∷ 0x00 ∷ 0x01 ∷ []) ∷ []) ≡ done (fin false 0 (pos 0)) ∷ done (inf false) ∷ done (fin false 1 (pos 0)) ∷ []
unfolding real_at real non_empty binary_real well_formed number in_double horner signed count_trailing_zeros Ieee.size Ieee.span Ieee.climb
read-0 = refl

-- a NaN and minus zero
pub not_written : map form (nan ∷ fin true 0 (pos 0) ∷ []) ≡ unwritten ∷ unwritten ∷ []
unfolding form
not_written = refl
