-- With which numbers each call answers, whatever is handed in.
use Prim.Native.Nat.{ℕ}
use mathlib.Core.List.{List}
use mathlib.Core.Bool.{Bool, true, false}
use types.Run.{OneOf, hit}
use lib.Dec.{leb}
use Rattle.base_choices.specs.Choices.{pick}
use Rattle.ber_integers.specs.Digits.{Put, put, unchanged}
use Rattle.ber_integers.specs.Readings.{number_of}
use Rattle.ber_integers.specs.Numbers.{octet_numbers, put_numbers}
use Rattle.ber_integers.proofs.Numbers.{put-numbers, unchanged-numbers}
use Rattle.ber_tags.specs.declared.Head.{Head}
use Rattle.ber_tags.specs.declared.Head.TheVariants.{Tag, Refused}
use Rattle.ber_tags.specs.Tag.{head_at, head_says}
use Rattle.ber_tags.specs.Write.{septets, tag_octets, put_tag, length_octets, put_length}

head-numbers : (x : Head) → OneOf octet_numbers (number_of (head_says x))
head-numbers (Tag class constructed number length next) = hit octet_numbers 0 tt
head-numbers (Refused place) = hit octet_numbers 30 tt

-- `read_tag`: 0 or 30
pub read-tag-numbers : (s : List ℕ) (at bound : ℕ) → OneOf octet_numbers (number_of (head_says (head_at s at bound)))
read-tag-numbers s at bound = head-numbers (head_at s at bound)

-- the writers: 0 or 46
module _ (out : List ℕ) where
  -- octets put where a test allows it
  pub put-if-numbers : (u : Bool) (x : Put) → OneOf put_numbers x.number → OneOf put_numbers (pick u x (unchanged out)).number
  put-if-numbers true x h = h
  put-if-numbers false x h = unchanged-numbers out

  module _ (at : ℕ) where
    pub write-septets-numbers : (v : ℕ) → OneOf put_numbers (put out at (septets v)).number
    write-septets-numbers v = put-numbers out at (septets v)

    pub write-tag-numbers : (class : ℕ) (constructed : Bool) (number : ℕ) → OneOf put_numbers (put_tag out at class constructed number).number
    unfolding put_tag
    write-tag-numbers class constructed number =
        let x : Put = put out at (tag_octets class constructed number) in
        put-if-numbers (leb class 3) (pick (leb number 268435455) x (unchanged out))
        (put-if-numbers (leb number 268435455) x (put-numbers out at (tag_octets class constructed number)))

    pub write-length-numbers : (n : ℕ) → OneOf put_numbers (put_length out at n).number
    unfolding put_length
    write-length-numbers n = put-if-numbers (leb n 4294967295) (put out at (length_octets n)) (put-numbers out at (length_octets n))
