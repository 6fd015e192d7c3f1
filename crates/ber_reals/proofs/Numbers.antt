-- With which numbers each call answers, whatever is handed in.
use Rattle.std.specs.Prelude.{Option, Some, None}
use Prim.Native.Nat.{ℕ}
use mathlib.Core.List.{List}
use types.Run.{OneOf, hit}
use lib.Ieee.{Float, of_bits, binary64}
use Rattle.ber_integers.specs.Readings.{number_of}
use Rattle.ber_integers.specs.Numbers.{put_numbers}
use Rattle.ber_integers.proofs.Numbers.{put-numbers, unchanged-numbers}
use Rattle.ber_reals.specs.Real.{real_at, real_says, real_numbers}
use Rattle.ber_reals.specs.Write.{Form, unwritten, octets, form, put_form, write_at}

pub real-numbers : (x : Option Float) (tag : ℕ) → OneOf real_numbers (number_of (real_says x tag))
real-numbers (Some x) tag = hit real_numbers 0 tt
real-numbers None tag = hit real_numbers 35 tt

-- `read_real`, with a tag at its place: 0 or 35
pub read-real-numbers : (s : List ℕ) (at n tag : ℕ) → OneOf real_numbers (number_of (real_says (real_at s at n) tag))
read-real-numbers s at n tag = real-numbers (real_at s at n) tag

-- `write_real`, and `write_bits` of a double's word: 0 or 46
module _ (out : List ℕ) (at : ℕ) where
  form-numbers : (f : Form) → OneOf put_numbers (put_form out at f).number
  form-numbers unwritten = unchanged-numbers out
  form-numbers (octets bs) = put-numbers out at bs

  pub write-real-numbers : (x : Float) → OneOf put_numbers (write_at out at x).number
  unfolding write_at
  write-real-numbers x = form-numbers (form x)

  pub write-bits-numbers : (word : ℕ) → OneOf put_numbers (write_at out at (of_bits binary64 word)).number
  write-bits-numbers word = write-real-numbers (of_bits binary64 word)
