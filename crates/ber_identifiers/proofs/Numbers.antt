-- With which numbers each call answers, whatever is handed in.
use Prim.Native.Nat.{ℕ}
use mathlib.Core.List.{List}
use mathlib.Core.Path.{refl}
use mathlib.Core.Logic.{inl, inr}
use types.Run.{OneOf}
use Rattle.ber_integers.specs.Digits.{put}
use Rattle.ber_integers.specs.Readings.{number_of}
use Rattle.ber_integers.specs.Numbers.{put_numbers}
use Rattle.ber_integers.proofs.Numbers.{put-numbers}
use Rattle.ber_tags.proofs.Numbers.{put-if-numbers}
use Rattle.ber_identifiers.specs.declared.Arc.{Arc}
use Rattle.ber_identifiers.specs.declared.Arc.TheVariants.{Number, Range as Over, Refused as NoArc}
use Rattle.ber_identifiers.specs.declared.Oid.{Oid}
use Rattle.ber_identifiers.specs.declared.Oid.TheVariants.{Numbers, Range, Refused}
use Rattle.ber_identifiers.specs.Identifier.{arc_at, oid_at, in_range, oid_octets, put_oid, arc_says, oid_says, identifier_numbers}

-- the readers, with the number for a number out of range and a tag at its place: 0, 30 or that number
module _ (range tag : ℕ) where
  arc-numbers : (x : Arc) → OneOf (identifier_numbers range) (number_of (arc_says x range tag))
  arc-numbers (Number n next) = inl refl
  arc-numbers (Over next) = inr (inr refl)
  arc-numbers NoArc = inr (inl refl)

  oid-numbers : (x : Oid) → OneOf (identifier_numbers range) (number_of (oid_says x range tag))
  oid-numbers (Numbers n) = inl refl
  oid-numbers Range = inr (inr refl)
  oid-numbers Refused = inr (inl refl)

  pub read-number-numbers : (s : List ℕ) (p end : ℕ) → OneOf (identifier_numbers range) (number_of (arc_says (arc_at s p end) range tag))
  read-number-numbers s p end = arc-numbers (arc_at s p end)

  pub read-oid-numbers : (s : List ℕ) (at n : ℕ) → OneOf (identifier_numbers range) (number_of (oid_says (oid_at s at n) range tag))
  read-oid-numbers s at n = oid-numbers (oid_at s at n)

-- `write_oid`: 0 or 46
pub write-oid-numbers : (out : List ℕ) (at : ℕ) (ns : List ℕ) → OneOf put_numbers (put_oid out at ns).number
unfolding put_oid
write-oid-numbers out at ns = put-if-numbers out (in_range ns) (put out at (oid_octets ns)) (put-numbers out at (oid_octets ns))
