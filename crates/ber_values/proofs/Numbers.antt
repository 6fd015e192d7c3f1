-- With which numbers each call answers, whatever is handed in.
use Rattle.std.specs.Prelude.{ℤ, Float, Option, Some, None}
use Prim.Native.Nat.{ℕ, ◌+◌}
use mathlib.Core.List.{List}
use mathlib.Core.Bool.{Bool, true, false}
use types.Run.{OneOf, hit}
use lib.ListN.{length, take, drop}
use lib.Dec.{leb, eqb}
use Rattle.base_choices.specs.Choices.{pick}
use Rattle.ber_integers.specs.Digits.{put}
use Rattle.ber_integers.specs.Integer.{integer_at}
use Rattle.ber_integers.specs.Readings.{number_of}
use Rattle.ber_integers.specs.Numbers.{octet_numbers, put_numbers}
use Rattle.ber_integers.proofs.Numbers.{put-numbers, unchanged-numbers}
use Rattle.ber_reals.specs.Real.{real_at}
use Rattle.ber_reals.specs.Write.{Form, unwritten, octets}
use Rattle.ber_tags.specs.declared.Length.{Length}
use Rattle.ber_tags.specs.declared.Length.TheVariants.{Definite, Indefinite}
use Rattle.ber_tags.specs.declared.Head.{Head}
use Rattle.ber_tags.specs.declared.Head.TheVariants.{Tag, Refused as NoTag}
use Rattle.ber_tags.specs.Tag.{head_at}
use Rattle.ber_tags.proofs.Numbers.{put-if-numbers}
use Rattle.ber_values.specs.declared.Value.{Value}
use Rattle.ber_values.specs.declared.Answer.{Answer}
use Rattle.ber_values.specs.Value.{bool_at, flag_says, on_flag, on_number, on_real, is_listed, kind_at, content_at, on_length, on_head, value_at, answer_says}
use Rattle.ber_values.specs.Value.{value_numbers}
use Rattle.ber_values.specs.Write.{content_octets, kind_of, primitive, put_primitive, put_value, put_part}

flag-numbers : (x : Option Bool) (tag : ℕ) → OneOf octet_numbers (number_of (flag_says x tag))
flag-numbers (Some b) tag = hit octet_numbers 0 tt
flag-numbers None tag = hit octet_numbers 30 tt

-- `read_bool`, with a tag at its place: 0 or 30
pub read-bool-numbers : (s : List ℕ) (at n tag : ℕ) → OneOf octet_numbers (number_of (flag_says (bool_at s at n) tag))
read-bool-numbers s at n tag = flag-numbers (bool_at s at n) tag

-- ---- values: 0, 30, 33 or 35

abbrev Numbered : Answer → Type 0
Numbered x = (tag : ℕ) → OneOf value_numbers (number_of (answer_says x tag))

-- done; bad octets; a tag that is none of the five kinds; a real not accepted
is-0 : ℕ → OneOf value_numbers 0
is-0 tag = hit value_numbers 0 tt

is-30 : ℕ → OneOf value_numbers 30
is-30 tag = hit value_numbers 30 tt

is-33 : ℕ → OneOf value_numbers 33
is-33 tag = hit value_numbers 33 tt

is-35 : ℕ → OneOf value_numbers 35
is-35 tag = hit value_numbers 35 tt

either : (P : Answer → Type 0) {x y : Answer} (t : Bool) → P x → P y → P (pick t x y)
either P true h k = h
either P false h k = k

module _ (s : List ℕ) (at : ℕ) where
  module _ (next : ℕ) where
    on-flag : (x : Option Bool) → Numbered (on_flag at next x)
    on-flag (Some b) = is-0
    on-flag None = is-30

    on-number : (x : Option ℤ) → Numbered (on_number at next x)
    on-number (Some z) = is-0
    on-number None = is-30

    on-real : (x : Option Float) → Numbered (on_real at next x)
    on-real (Some x) = is-0
    on-real None = is-35

  kind-numbers : (kind start len : ℕ) → Numbered (kind_at s at kind start len)
  unfolding kind_at
  kind-numbers kind start len =
      either Numbered (eqb kind 1) (on-flag (start + len) (bool_at s start len))
      (either Numbered (eqb kind 2) (on-number (start + len) (integer_at s start len))
      (either Numbered (eqb kind 4) is-0 (either Numbered (eqb kind 9) (on-real (start + len) (real_at s start len)) is-0)))

  pub read-content-numbers : (kind start len tag : ℕ) → OneOf value_numbers (number_of (answer_says (content_at s at kind start len) tag))
  unfolding content_at
  read-content-numbers kind start len =
      either Numbered (is_listed kind) (either Numbered (leb (start + len) (length s)) (kind-numbers kind start len) is-30) is-33

  on-length : (kind next : ℕ) (l : Length) → Numbered (on_length s at kind next l)
  on-length kind next (Definite len) = read-content-numbers kind next len
  on-length kind next Indefinite = is-33

  on-head : (h : Head) → Numbered (on_head s at h)
  on-head (Tag class constructed number length next) =
      either Numbered (eqb class 0) (either Numbered constructed is-33 (on-length number next length)) is-33
  on-head (NoTag place) = is-30

  pub read-value-numbers : (bound tag : ℕ) → OneOf value_numbers (number_of (answer_says (value_at s at bound) tag))
  unfolding value_at
  read-value-numbers bound = on-head (head_at s at bound)

-- ---- the writers: 0 or 46

module _ (source out : List ℕ) (at : ℕ) where
  primitive-numbers : (kind : ℕ) (f : Form) → OneOf put_numbers (put_primitive out at kind f).number
  primitive-numbers kind unwritten = unchanged-numbers out
  primitive-numbers kind (octets bs) = put-numbers out at (primitive kind bs)

  pub write-value-numbers : (v : Value) → OneOf put_numbers (put_value source out at v).number
  write-value-numbers v = primitive-numbers (kind_of v) (content_octets source v)

  pub write-part-numbers : (start len : ℕ) → OneOf put_numbers (put_part source start len out at).number
  unfolding put_part
  write-part-numbers start len =
      let bs : List ℕ = take len (drop start source) in
      put-if-numbers out (leb (start + len) (length source)) (put out at bs) (put-numbers out at bs)
