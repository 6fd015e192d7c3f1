-- What a reader promises follows from its answer being the rule's, once each case of its answer says what document 01's row says.
use Rattle.std.specs.Prelude.{ℤ, Option, Some, None}
use Prim.Native.Nat.{ℕ}
use mathlib.Core.Path.{◌≡◌, refl, ap, ◌∙◌}
use Rattle.ber_integers.specs.Readings.{Promised, integer_says, integer_or, natural_says, natural_or}

pub promised : {A C : Type 0} {says row : A → C} {rule r : A} → ((x : A) → says x ≡ row x) → r ≡ rule → Promised says row rule r
promised {row = row} {r = r} by e = record { is = e; said = by r ∙ ap row e }

pub integer-row : (x : Option ℤ) → integer_says x ≡ integer_or 30 x
integer-row (Some z) = refl
integer-row None = refl

pub natural-row : (x : Option ℕ) → natural_says x ≡ natural_or 30 x
natural-row (Some v) = refl
natural-row None = refl
