-- Signed numbers as the code has them: -1 - k, magnitudes, and the octets of a message as bytes.
use Prim.Native.Nat.{ℕ, zero, suc, ◌+◌, ◌-◌, ◌*◌, ◌^◌, ◌≤◌, ◌<◌}
use mathlib.Core.Path.{◌≡◌, refl, sym, ap, subst, ◌∙◌}
use mathlib.Core.List.{List, [], ◌∷◌}
use native.Mathlib.Omega.{arith}
use native.Mathlib.Nat.{pow-suc, suc-mul, mul-le-mul_right, pow-le-pow_right, one-le-pow}
use lib.ListN.{length, take, drop, get_or}
use lib.Dec.{T}
use lib.IntN.{ℤ, pos, negsuc, ◌-ℤ◌, nat_abs}
use lib.Signed.{mag, lt_z, non_neg}
use mathlib.Core.Bool.{true, false}
use borrow.Author.Tests.{ltb-true}
use mir.Syntax.{w64}
use mir.Val.{SFits, Fits, to_z, of_z}
use mir.Facts.{to_z_pos, to_z-of_z}
use Rattle.ber_integers.specs.Digits.{horner, natural}
use Rattle.ber_integers.proofs.Laws.{part-cons, length_part, signed_low, signed_high}
use Rattle.ber_integers.specs.Integer.{signed}
use Rattle.ber_integers.proofs.Radix.{Below, horner-split, natural-lt}

-- -1 - k
pub minus : (k : ℕ) → k < 2 ^ 63 → negsuc 0 -ℤ to_z w64 k ≡ negsuc k
minus k h = ap (λ (z : ℤ). negsuc 0 -ℤ z) (to_z_pos w64 h) ∙ go k
  where
    go : (n : ℕ) → negsuc 0 -ℤ pos n ≡ negsuc n
    go zero = refl
    go (suc n) = let e : suc (0 + n) ≡ suc n = omega arith in ap negsuc e

pub minus-fits : (k : ℕ) → k < 2 ^ 63 → SFits w64 (negsuc 0 -ℤ to_z w64 k)
minus-fits k h = subst (SFits w64) (sym (minus k h)) (record { sfits = h })

pub minus_is : (k : ℕ) → k < 2 ^ 63 → to_z w64 (of_z w64 (negsuc 0 -ℤ to_z w64 k)) ≡ negsuc k
minus_is k h = to_z-of_z (minus-fits k h) ∙ minus k h

-- a slice of bytes, and its parts
pub below_all : (base : ℕ) (l : List ℕ) → ((i : ℕ) → get_or l i 0 < base) → Below base l
below_all base [] h = tt
below_all base (x ∷ xs) h = (h zero, below_all base xs (λ i. h (suc i)))

pub below-drop : (base n : ℕ) (l : List ℕ) → Below base l → Below base (drop n l)
below-drop base zero l b = b
below-drop base (suc n) [] b = tt
below-drop base (suc n) (x ∷ xs) b = below-drop base n xs b.1

pub below-take : (base n : ℕ) (l : List ℕ) → Below base l → Below base (take n l)
below-take base zero l b = tt
below-take base (suc n) [] b = tt
below-take base (suc n) (x ∷ xs) b = (b.0, below-take base n xs b.1)

-- the half of the numbers that a first octet picks
module _ (b : ℕ) (bs : List ℕ) (bytes : Below 256 bs) where
  value : natural (b ∷ bs) ≡ b * 256 ^ length bs + natural bs
  unfolding horner
  value = let e : 0 * 256 + b ≡ b = omega arith in rw e (horner-split 256 b bs)

  pub half-low : b < 128 → natural (b ∷ bs) < 128 * 256 ^ length bs
  half-low h =
      let m : suc b * 256 ^ length bs ≤ 128 * 256 ^ length bs = mul-le-mul_right (256 ^ length bs) h in
      let s : suc b * 256 ^ length bs ≡ b * 256 ^ length bs + 256 ^ length bs = suc-mul b (256 ^ length bs) in
      omega (arith, value, natural-lt 256 bs bytes)

  pub half_high : 128 ≤ b → 128 * 256 ^ length bs ≤ natural (b ∷ bs)
  half_high h =
      let m : 128 * 256 ^ length bs ≤ b * 256 ^ length bs = mul-le-mul_right (256 ^ length bs) h in
      omega (arith, value)

-- at most eight octets: half of their numbers is within 63 bits
pub half-fits : {n q : ℕ} → n ≤ 7 → q < 128 * 256 ^ n → q < 2 ^ 63
half-fits {n} {q} h k =
    let p : 256 ^ n ≤ 256 ^ 7 = pow-le-pow_right (omega arith) h in
    omega arith

-- one to eight octets of a message, by the first
module _ (s : List ℕ) (at n : ℕ) (bytes : (i : ℕ) → get_or s i 0 < 256) (some : 0 < n) (few : n ≤ 8) (within : at + n ≤ length s) where
  rest : List ℕ
  rest = take (n - 1) (drop (at + 1) s)

  rest-bytes : Below 256 rest
  unfolding rest
  rest-bytes = below-take 256 (n - 1) (drop (at + 1) s) (below-drop 256 (at + 1) s (below_all 256 s bytes))

  rest-length : length rest ≡ n - 1
  unfolding rest
  rest-length = length_part s (at + 1) (n - 1) (omega arith)

  as-cons : take n (drop at s) ≡ get_or s at 0 ∷ rest
  unfolding rest
  as-cons = part-cons s at n some within

  pub low_fits : get_or s at 0 < 128 → natural (take n (drop at s)) < 2 ^ 63
  low_fits h =
      let e = rest-length in
      let k : length rest ≤ 7 = omega arith in
      half-fits {n = length rest} k (rw as-cons (half-low (get_or s at 0) rest rest-bytes h))

  pub low-is : get_or s at 0 < 128 → signed (take n (drop at s)) ≡ pos (natural (take n (drop at s)))
  low-is h = signed_low as-cons h

  pub high_fits : 128 ≤ get_or s at 0 → (k : ℕ) → k + 1 ≡ 256 ^ n → k - natural (take n (drop at s)) < 2 ^ 63
  high_fits h k e =
      let l = rest-length in
      let m : length rest ≤ 7 = omega arith in
      let p : n ≡ suc (length rest) = omega arith in
      let q : 256 ^ n ≡ 256 ^ length rest * 256 = ap (λ (i : ℕ). 256 ^ i) p ∙ pow-suc 256 (length rest) in
      let v : 128 * 256 ^ length rest ≤ natural (take n (drop at s)) = rw as-cons (half_high (get_or s at 0) rest rest-bytes h) in
      let z : 0 < 256 ^ length rest = one-le-pow (length rest) 256 (omega arith) in
      half-fits {n = length rest} m (omega arith)

  pub high_is : 128 ≤ get_or s at 0 → (k : ℕ) → k + 1 ≡ 256 ^ n
      → signed (take n (drop at s)) ≡ negsuc (k - natural (take n (drop at s)))
  high_is h k e =
      let l : length (take n (drop at s)) ≡ n = length_part s at n within in
      let d : 256 ^ n - suc (natural (take n (drop at s))) ≡ k - natural (take n (drop at s)) = omega arith in
      signed_high as-cons h ∙ rw (l, d)

-- the code's sign test, and what it tells
pub negative : (z : ℤ) → SFits w64 z → lt_z (to_z w64 (of_z w64 z)) (pos 0) ≡ true
    → (to_z w64 (18446744073709551615 - of_z w64 z) ≡ pos (mag z)) × (18446744073709551615 - mag z ≡ of_z w64 z)
negative z h e = go z h (subst (λ (y : ℤ). lt_z y (pos 0) ≡ true) (to_z-of_z h) e)
  where
    go : (z : ℤ) → SFits w64 z → lt_z z (pos 0) ≡ true
        → (to_z w64 (18446744073709551615 - of_z w64 z) ≡ pos (mag z)) × (18446744073709551615 - mag z ≡ of_z w64 z)
    go (pos n) h e = absurd (omega (arith, ltb-true n 0 e))
    go (negsuc n) h e =
        let k : n < 2 ^ 63 = h.sfits in
        let t : 18446744073709551615 - (2 ^ 64 - suc n) ≡ n = omega arith in
        (ap (to_z w64) t ∙ to_z_pos w64 k, omega arith)

pub natural-sign : (z : ℤ) → SFits w64 z → lt_z (to_z w64 (of_z w64 z)) (pos 0) ≡ false
    → (to_z w64 (of_z w64 z) ≡ pos (mag z)) × (mag z ≡ of_z w64 z)
natural-sign z h e = go z h (subst (λ (y : ℤ). lt_z y (pos 0) ≡ false) (to_z-of_z h) e)
  where
    go : (z : ℤ) → SFits w64 z → lt_z z (pos 0) ≡ false → (to_z w64 (of_z w64 z) ≡ pos (mag z)) × (mag z ≡ of_z w64 z)
    go (pos n) h e = let k : n < 2 ^ 63 = h.sfits in (to_z_pos w64 k, refl)
    go (negsuc n) h e = let z : ◌≡◌ {A = ℕ} 0 1 = cc in absurd (omega arith)

-- a signed number that is a magnitude goes into a word
pub word : (y z : ℤ) → SFits w64 z → y ≡ pos (mag z) → T (non_neg y) × Fits w64 (nat_abs y)
word y z h e = let k = h.sfits in subst (λ (x : ℤ). T (non_neg x) × Fits w64 (nat_abs x)) (sym e) (tt, record { fits = omega arith })

pub below_at : (base : ℕ) (l : List ℕ) (i : ℕ) → 0 < base → Below base l → get_or l i 0 < base
below_at base [] i h b = h
below_at base (x ∷ xs) zero h b = b.0
below_at base (x ∷ xs) (suc i) h b = below_at base xs i h b.1
