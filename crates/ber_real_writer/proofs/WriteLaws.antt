-- One law for each answer of `write_at`, and the exponent's octets.
use Prim.Native.Nat.{ℕ, suc, ◌-◌, ◌/◌, ◌^◌, ◌≤◌, ◌<◌}
use mathlib.Core.Path.{◌≡◌, refl, sym, ap, ◌∙◌}
use mathlib.Core.List.{List, [], ◌∷◌}
use mathlib.Core.Bool.{Bool, true, false}
use native.Mathlib.Omega.{arith}
use borrow.Author.Tests.{le-leb, lt-leb}
use lib.IntN.{ℤ, pos, negsuc}
use lib.Ieee.{nan, inf, fin, minus}
use Rattle.ber_integers.specs.Digits.{digits, unchanged, put}
use Rattle.ber_integers.specs.Integer.{size_by, shortest, octets as octets_of}
use Rattle.ber_integers.proofs.Laws.{size_small, size-more}
use Rattle.ber_reals.specs.Write.{put_form, form, number_octets, write_at}
use Rattle.ber_reals.proofs.WriteLaws.{number-form}

module _ (out : List ℕ) (at : ℕ) where
  pub write-nan : write_at out at nan ≡ unchanged out
  unfolding write_at form
  write-nan = refl

  pub write-plus : write_at out at (inf false) ≡ put out at (0x40 ∷ [])
  unfolding write_at form
  write-plus = refl

  pub write-minus : write_at out at (inf true) ≡ put out at (0x41 ∷ [])
  unfolding write_at form
  write-minus = refl

  pub write-zero : (p : ℤ) → write_at out at (fin false 0 p) ≡ put out at []
  unfolding write_at form
  write-zero p = refl

  pub write-minus-zero : (p : ℤ) → write_at out at (fin true 0 p) ≡ unchanged out
  unfolding write_at form
  write-minus-zero p = refl

  pub write-number : (s : Bool) (m : ℕ) (p : ℤ) → 0 < m → write_at out at (fin s m p) ≡ put out at (number_octets s m p)
  unfolding write_at
  write-number s m p h = ap (put_form out at) (number-form s m p h)

-- ---- the exponent units - 1,074 in one octet or two

size-two : (m : ℕ) → 128 ≤ m → m < 32768 → size_by m m ≡ 2
size-two m h k =
    let r = size-more m m (omega arith) h in
    r.1.1 ∙ ap suc (size_small r.0 (m / 256) (omega arith))

module _ (units : ℕ) where
  up_is : 1074 ≤ units → minus units 1074 ≡ pos (units - 1074)
  up_is h = simp (le-leb _ _ h)

  down_is : units < 1074 → minus units 1074 ≡ negsuc (1074 - suc units)
  down_is h = simp (lt-leb _ _ h)

  pub exponent-up-one : 1074 ≤ units → units - 1074 < 128 → digits 256 1 (units - 1074) ≡ shortest (minus units 1074)
  unfolding shortest octets_of
  exponent-up-one h k = sym (ap shortest (up_is h) ∙ ap (λ (n : ℕ). digits 256 n (units - 1074)) (size_small (units - 1074) (units - 1074) k))

  pub exponent-up-two : 1074 ≤ units → 128 ≤ units - 1074 → units < 4096 → digits 256 2 (units - 1074) ≡ shortest (minus units 1074)
  unfolding shortest octets_of
  exponent-up-two h k l = sym (ap shortest (up_is h) ∙ ap (λ (n : ℕ). digits 256 n (units - 1074)) (size-two (units - 1074) k (omega arith)))

  pub exponent-down-one : units < 1074 → 1074 - units ≤ 128 → digits 256 1 (256 - (1074 - units)) ≡ shortest (minus units 1074)
  unfolding shortest octets_of
  exponent-down-one h k =
      let m = 1074 - suc units in
      let e : 256 - suc m ≡ 256 - (1074 - units) = omega arith in
      sym (ap shortest (down_is h) ∙ ap (λ (n : ℕ). digits 256 n (256 ^ n - suc m)) (size_small m m (omega arith)) ∙ ap (digits 256 1) e)

  pub exponent-down-two : units < 1074 → 128 < 1074 - units → digits 256 2 (65536 - (1074 - units)) ≡ shortest (minus units 1074)
  unfolding shortest octets_of
  exponent-down-two h k =
      let m = 1074 - suc units in
      let e : 65536 - suc m ≡ 65536 - (1074 - units) = omega arith in
      sym (ap shortest (down_is h) ∙ ap (λ (n : ℕ). digits 256 n (256 ^ n - suc m)) (size-two m (omega arith) (omega arith)) ∙ ap (digits 256 2) e)
