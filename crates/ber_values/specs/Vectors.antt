-- Worked examples, by computation: what each case of the answers says, with document 01's numbers.
use Rattle.std.specs.Prelude.{ℕ, ◌≡◌, refl, List, [], ◌∷◌, map, Bool, true, false, length, negsuc, pos}
use Rattle.std.specs.Int.Count.{count_trailing_zeros}
use Rattle.std.specs.Float.Ieee as Ieee
use Rattle.std.specs.Float.{fin}
use Rattle.ber_integers.specs.Digits.{horner}
use Rattle.ber_integers.specs.Integer.{signed, nine_free, twos, integer, integer_at}
use Rattle.ber_integers.specs.Readings.{Reading, done, refused}
use Rattle.ber_reals.specs.Number.{in_double, number}
use Rattle.ber_reals.specs.Real.{well_formed, binary_real, non_empty, real, real_at}
use Rattle.ber_tags.specs.Tag.{stop, cut, long_number, tag_number, sized, length_at, head_at}
use Rattle.ber_values.specs.declared.Value.{Value}
use Rattle.ber_values.specs.declared.Value.TheVariants.{Int, Real, Text, Bool as Truth, Octets}
use Rattle.ber_values.specs.Value.{boolean, bool_at, flag_says, is_listed, kind_at, content_at, value_at, answer_says}

-- the tag stands at 7
abbrev flag : List ℕ → Reading Bool
flag bs = flag_says (bool_at bs 0 (length bs)) 7

pub flags-0 : map flag ((0x00 ∷ []) ∷ (0x01 ∷ []) ∷ (0xFF ∷ []) ∷ []) ≡ done false ∷ done true ∷ done true ∷ []
unfolding bool_at boolean
flags-0 = refl

pub flags-30 : map flag ([] ∷ (0xFF ∷ 0xFF ∷ []) ∷ []) ≡ refused 30 7 ∷ refused 30 7 ∷ []
unfolding bool_at boolean
flags-30 = refl

-- a value at the message's second octet
abbrev said : List ℕ → Reading (Value × ℕ)
said s = answer_says (value_at (0x00 ∷ s) 1 99) 1

-- true; -1; octets; 1.0; text
pub values-0 : map said
    ((0x01 ∷ 0x01 ∷ 0xFF ∷ []) ∷ (0x02 ∷ 0x01 ∷ 0xFF ∷ []) ∷ (0x04 ∷ 0x00 ∷ []) ∷ (0x09 ∷ 0x03 ∷ 0x80 ∷ 0x00 ∷ 0x01 ∷ []) ∷ (0x0C ∷ 0x01 ∷ 0x41 ∷ []) ∷ [])
    ≡ done (Truth true, 4) ∷ done (Int (negsuc 0), 4) ∷ done (Octets 3 0, 3) ∷ done (Real (fin false 1 (pos 0)), 6) ∷ done (Text 3 1, 4) ∷ []
unfolding value_at head_at tag_number long_number length_at sized stop cut content_at is_listed kind_at bool_at boolean integer_at integer nine_free twos signed horner
    real_at real non_empty binary_real well_formed number in_double count_trailing_zeros Ieee.size Ieee.span Ieee.climb
values-0 = refl

-- none of the five kinds: a context tag, a sequence, a relative identifier
pub others-33 : map said ((0x80 ∷ 0x00 ∷ []) ∷ (0x30 ∷ 0x00 ∷ []) ∷ (0x0D ∷ 0x01 ∷ 0x01 ∷ []) ∷ []) ≡ refused 33 1 ∷ refused 33 1 ∷ refused 33 1 ∷ []
unfolding value_at head_at tag_number long_number length_at sized stop cut content_at is_listed kind_at
others-33 = refl

-- a bad boolean; a bad integer; a tag without its length; a text that the message does not hold; a real that is not accepted
pub refusals : map said
    ((0x01 ∷ 0x00 ∷ []) ∷ (0x02 ∷ 0x02 ∷ 0x00 ∷ 0x7F ∷ []) ∷ (0x02 ∷ []) ∷ (0x0C ∷ 0x02 ∷ 0x41 ∷ []) ∷ (0x09 ∷ 0x01 ∷ 0x42 ∷ []) ∷ [])
    ≡ refused 30 1 ∷ refused 30 1 ∷ refused 30 2 ∷ refused 30 4 ∷ refused 35 1 ∷ []
unfolding value_at head_at tag_number long_number length_at sized stop cut content_at is_listed kind_at bool_at boolean integer_at integer nine_free twos signed horner
    real_at real non_empty
refusals = refl
