-- Worked examples, by computation.
use mathlib.Core.Path.{◌≡◌, refl}
use mathlib.Core.List.{List, [], ◌∷◌, map}
use mathlib.Core.Bool.{true, false}
use lib.IntN.{pos, negsuc}
use lib.Ieee as Ieee
use lib.Ieee.{Float, nan, inf, fin}
use Rattle.ber_integers.specs.Digits.{digits}
use Rattle.ber_integers.specs.Integer.{size_by, shortest, octets as octets_of}
use Rattle.ber_reals.specs.Write.{form}
use Rattle.ber_real_sizes.specs.Sizes.{is_written, written_size, saves, least_octets, least_size}

-- 2 ^ 128; 2 ^ 137, the highest power of a mantissa of one bit that saves; 2 ^ 138; -3 * 2 ^ 136; 255 * 2 ^ 130 and 131, with no free bit; 2 ^ 127;
-- 2 ^ -129; the largest double; zero; the infinities
abbrev pub doubles : List Float
doubles =
    fin false 1 (pos 128)
    ∷ fin false 1 (pos 137)
    ∷ fin false 1 (pos 138)
    ∷ fin true 3 (pos 136)
    ∷ fin false 255 (pos 130)
    ∷ fin false 255 (pos 131)
    ∷ fin false 1 (pos 127)
    ∷ fin false 1 (negsuc 128)
    ∷ fin false 9007199254740991 (pos 971)
    ∷ fin false 0 (pos 0)
    ∷ inf false
    ∷ inf true
    ∷ []

pub written : map written_size doubles ≡ 4 ∷ 4 ∷ 4 ∷ 4 ∷ 4 ∷ 4 ∷ 3 ∷ 4 ∷ 10 ∷ 0 ∷ 1 ∷ 1 ∷ []
unfolding written_size form digits shortest octets_of size_by Ieee.size Ieee.span Ieee.climb
written = refl

pub least : map least_size doubles ≡ 3 ∷ 3 ∷ 4 ∷ 3 ∷ 3 ∷ 4 ∷ 3 ∷ 4 ∷ 10 ∷ 0 ∷ 1 ∷ 1 ∷ []
unfolding least_size saves written_size form digits shortest octets_of size_by Ieee.size Ieee.span Ieee.climb
least = refl

pub spelled : map least_octets doubles
    ≡ (0x84 ∷ 0x7F ∷ 0x01 ∷ [])
    ∷ (0x8C ∷ 0x7F ∷ 0x80 ∷ [])
    ∷ (0x81 ∷ 0x00 ∷ 0x8A ∷ 0x01 ∷ [])
    ∷ (0xCC ∷ 0x7F ∷ 0xC0 ∷ [])
    ∷ (0x8C ∷ 0x7F ∷ 0xFF ∷ [])
    ∷ (0x81 ∷ 0x00 ∷ 0x83 ∷ 0xFF ∷ [])
    ∷ (0x80 ∷ 0x7F ∷ 0x01 ∷ [])
    ∷ (0x81 ∷ 0xFF ∷ 0x7F ∷ 0x01 ∷ [])
    ∷ (0x81 ∷ 0x03 ∷ 0xCB ∷ 0x1F ∷ 0xFF ∷ 0xFF ∷ 0xFF ∷ 0xFF ∷ 0xFF ∷ 0xFF ∷ [])
    ∷ []
    ∷ (0x40 ∷ [])
    ∷ (0x41 ∷ [])
    ∷ []
unfolding least_octets saves form digits shortest octets_of size_by Ieee.size Ieee.span Ieee.climb
spelled = refl

-- a NaN and minus zero
pub unwritten : map is_written (nan ∷ fin true 0 (pos 0) ∷ fin false 0 (pos 0) ∷ []) ≡ false ∷ false ∷ true ∷ []
unfolding is_written form
unwritten = refl
