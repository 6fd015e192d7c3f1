-- The content octets of integers and reals are few.
use Rattle.std.specs.Prelude.{Some, None}
use Prim.Native.Nat.{ℕ, ◌+◌, ◌<◌}
use mathlib.Core.Path.{◌≡◌, refl, sym, ap}
use mathlib.Core.List.{List, [], ◌∷◌}
use mathlib.Core.Bool.{Bool, true, false, ◌&&◌}
use native.Mathlib.Omega.{arith}
use borrow.Author.Tests.{leb-true}
use lib.ListN.{length}
use lib.Dec.{T, leb, ltb, eqb}
use lib.IntN.{ℤ}
use lib.Ieee as Ieee
use lib.Ieee.{Float, binary64}
use mir.Syntax.{w64}
use mir.Val.{SFits}
use Rattle.base_choices.specs.Choices.{pick}
use Rattle.ber_integers.specs.Integer.{shortest}
use Rattle.ber_integers.proofs.Sizes.{size-eight}
use Rattle.ber_integers.proofs.RoundTrip.{length-shortest}
use Rattle.ber_reals.specs.Number.{number}
use Rattle.ber_reals.specs.Real.{real, non_empty, binary_real, well_formed, binary, base, exponent_octets, negative, mantissa, power}
use Rattle.ber_reals.specs.Write.{octets, form}
use Rattle.ber_reals.proofs.RoundTrip.{written_read}

pub int-short : (z : ℤ) → SFits w64 z → (bs : List ℕ) → octets (shortest z) ≡ octets bs → length bs < 128
int-short z h bs e =
    let f : shortest z ≡ bs = cc in
    let l = length-shortest z in
    let k = (size-eight z h).1 in
    let m : length bs ≡ length (shortest z) = ap length (sym f) in
    omega arith

last-of : (a b c d e : Bool) → (a && (b && (c && (d && e)))) ≡ true → e ≡ true
last-of true true true true e h = h
last-of true true true false e h = let z : ◌≡◌ {A = ℕ} 0 1 = cc in absurd (omega arith)
last-of true true false d e h = let z : ◌≡◌ {A = ℕ} 0 1 = cc in absurd (omega arith)
last-of true false c d e h = let z : ◌≡◌ {A = ℕ} 0 1 = cc in absurd (omega arith)
last-of false b c d e h = let z : ◌≡◌ {A = ℕ} 0 1 = cc in absurd (omega arith)

-- a real that is accepted has at most thirteen octets
pub accepted-short : (bs : List ℕ) (x : Float) → real bs ≡ Some x → length bs < 128
unfolding real non_empty binary_real well_formed
accepted-short [] x e = omega arith
accepted-short (a ∷ []) x e = omega arith
accepted-short (a ∷ (b ∷ bs)) x e = go (well_formed a (b ∷ bs)) refl e
  where
    go : (w : Bool) → well_formed a (b ∷ bs) ≡ w → pick w (number (negative a) (mantissa a (b ∷ bs)) (power a (b ∷ bs))) None ≡ Some x
        → length (a ∷ (b ∷ bs)) < 128
    go false f g = let z : ◌≡◌ {A = ℕ} 0 1 = cc in absurd (omega arith)
    go true f g =
        let l = leb-true (length (b ∷ bs)) (exponent_octets a + 8)
        (last-of (binary a) (eqb (base a) 0) (leb (exponent_octets a) 3) (ltb (exponent_octets a) (length (b ∷ bs)))
        (leb (length (b ∷ bs)) (exponent_octets a + 8)) f) in
        omega arith

pub real-short : (x : Float) → T (Ieee.fits binary64 x) → (bs : List ℕ) → form x ≡ octets bs → length bs < 128
real-short x h bs e = accepted-short bs x (written_read x bs h e)
