-- What a test and its answers say.
use Prim.Native.Nat.{ℕ}
use mathlib.Core.Path.{◌≡◌, refl, sym}
use mathlib.Core.Bool.{Bool, true, false}
use native.Mathlib.Omega.{arith}
use Rattle.base_choices.specs.Choices.{pick, both}

never : {A : Type 0} → false ≡ true → A
never e = let z : ◌≡◌ {A = ℕ} 0 1 = cc in absurd (omega arith)

-- a fact about a choice, by both answers of its test
pub pick-by : {A : Type 0} (P : A → Type 0) {a b : A} (t : Bool) → (t ≡ true → P a) → (t ≡ false → P b) → P (pick t a b)
pick-by P true f g = f refl
pick-by P false f g = g refl

pub pick_true : {X : Type 0} (b : Bool) (x y : X) → b ≡ true → pick b x y ≡ x
pick_true true x y e = refl
pick_true false x y e = never e

pub pick-false : {X : Type 0} (b : Bool) (x y : X) → b ≡ false → pick b x y ≡ y
pick-false true x y e = never (sym e)
pick-false false x y e = refl

pub pick-then : {X : Type 0} (b : Bool) (x y : X) {z : X} → b ≡ true → pick b x y ≡ z → x ≡ z
pick-then true x y e f = f
pick-then false x y e f = never e

pub pick-else : {X : Type 0} (b : Bool) (x y : X) {z : X} → b ≡ false → pick b x y ≡ z → y ≡ z
pick-else true x y e f = never (sym e)
pick-else false x y e f = f

pub both_left : (a b : Bool) → both a b ≡ true → a ≡ true
both_left true b e = refl
both_left false b e = e

pub both_right : (a b : Bool) → both a b ≡ true → b ≡ true
both_right true b e = e
both_right false b e = never e

pub both-make : (a b : Bool) → a ≡ true → b ≡ true → both a b ≡ true
both-make true b e f = f
both-make false b e f = never e
