-- The fewest octets, and two's complement of any number of octets.
use Prim.Native.Nat.{ℕ, zero, suc, ◌+◌, ◌-◌, ◌*◌, ◌/◌, ◌^◌, ◌≤◌, ◌<◌}
use mathlib.Core.Path.{◌≡◌, refl, sym, ap, ◌∙◌}
use mathlib.Core.List.{List, [], ◌∷◌}
use mathlib.Core.Logic.{◌⊎◌, ⊎_elim}
use native.Mathlib.Omega.{arith}
use native.Mathlib.Nat.{pow-suc, one-le-pow, suc-mul}
use borrow.Author.Tests.{lt-ltb, le-ltb}
use lib.Pow.{pow-add}
use lib.ListN.{length}
use lib.IntN.{ℤ, pos, negsuc}
use lib.Signed.{mag}
use mir.Syntax.{w64}
use mir.Val.{SFits, of_z}
use Rattle.ber_integers.specs.Digits.{natural, digits}
use Rattle.ber_integers.specs.Integer.{signed, size_by, size, octets, shortest}
use Rattle.ber_integers.proofs.Laws.{signed_low, signed_high}
use Rattle.ber_integers.proofs.Radix.{lt-or-le, Below, length_digits, digits-below, digits_low, digits-horner, horner-digits, natural-lt}
use Rattle.ber_integers.proofs.Signs.{half-low, half_high}

pub power_pos : (n : ℕ) → 0 < 256 ^ n
power_pos n = one-le-pow n 256 (omega arith)

-- a power of 256 with an exponent that is not 0
pub power-pred : (n : ℕ) → 0 < n → 256 ^ n ≡ 256 ^ (n - 1) * 256
power-pred n h = let e : n ≡ suc (n - 1) = omega arith in ap (λ (i : ℕ). 256 ^ i) e ∙ pow-suc 256 (n - 1)

-- the size is one that holds the number and a sign bit ..
pub size_holds : (f m : ℕ) → m ≤ f → (0 < size_by f m) × (m * 2 < 256 ^ size_by f m)
unfolding size_by
size_holds zero m h = (omega arith, omega arith)
size_holds (suc f) m h = ⊎_elim small (more (size_holds f (m / 256) (omega arith))) (lt-or-le m 128)
  where
    small : m < 128 → (0 < size_by (suc f) m) × (m * 2 < 256 ^ size_by (suc f) m)
    small k = simp (lt-ltb _ _ k) (omega arith, omega arith)

    more : (0 < size_by f (m / 256)) × (m / 256 * 2 < 256 ^ size_by f (m / 256)) → 128 ≤ m → (0 < size_by (suc f) m) × (m * 2 < 256 ^ size_by (suc f) m)
    more r k =
        let p = power-pred (size_by f (m / 256)) r.0 in
        simp (le-ltb _ _ k, pow-suc) (omega arith, omega (arith, p, r.1))

-- .. and the least
pub size-least : (f m k : ℕ) → m ≤ f → 0 < k → m * 2 < 256 ^ k → size_by f m ≤ k
unfolding size_by
size-least zero m k h l q = omega arith
size-least (suc f) m k h l q = ⊎_elim small (more (size-least f (m / 256) (k - 1) (omega arith))) (lt-or-le m 128)
  where
    small : m < 128 → size_by (suc f) m ≤ k
    small j = simp (lt-ltb _ _ j) (omega arith)

    more : (0 < k - 1 → m / 256 * 2 < 256 ^ (k - 1) → size_by f (m / 256) ≤ k - 1) → 128 ≤ m → size_by (suc f) m ≤ k
    more r j =
        let p = power-pred k l in
        let z : 0 < k - 1 = ⊎_elim (λ (e : 0 < k - 1). e) (λ (e : k - 1 ≤ 0). let y : k - 1 ≡ 0 = omega arith in absurd (omega (arith, rw y at p)))
        (lt-or-le 0 (k - 1)) in
        let s = r z (omega arith) in
        simp (le-ltb _ _ j) (omega arith)

-- two's complement octets of a number that they hold, read back: for any number of octets
module _ (n : ℕ) (some : 0 < n) where
  half : 256 ^ n ≡ 256 ^ (n - 1) * 256
  half = power-pred n some

  by_value : (l : List ℕ) → length l ≡ n → Below 256 l
      → (natural l * 2 < 256 ^ n → signed l ≡ pos (natural l)) × (256 ^ n ≤ natural l * 2 → signed l ≡ negsuc (256 ^ n - suc (natural l)))
  by_value [] e b = absurd (omega arith)
  by_value (x ∷ xs) e b =
      let k : length xs ≡ n - 1 = omega arith in
      let lo = half-low x xs b.1 in
      let hi = half_high x xs b.1 in
      ⊎_elim
      (λ (h : x < 128). let v : natural (x ∷ xs) < 128 * 256 ^ (n - 1) = rw k at (lo h) in (λ q. signed_low refl h, λ q. absurd (omega (arith, half))))
      (λ (h : 128 ≤ x). let v : 128 * 256 ^ (n - 1) ≤ natural (x ∷ xs) = rw k at (hi h) in
      (λ q. absurd (omega (arith, half)), λ q. rw (sym e) (signed_high refl h)))
      (lt-or-le x 128)

  pub signed-octets : (z : ℤ) → mag z * 2 < 256 ^ n → signed (octets n z) ≡ z
  unfolding octets
  signed-octets (pos m) h =
      let v : natural (digits 256 n m) ≡ m = horner-digits 256 (omega arith) n m (omega arith) in
      (by_value (digits 256 n m) (length_digits 256 (omega arith) n m) (digits-below 256 (omega arith) n m)).0 (rw v h) ∙ ap pos v
  signed-octets (negsuc m) h =
      let p = power_pos n in
      let v : natural (digits 256 n (256 ^ n - suc m)) ≡ 256 ^ n - suc m = horner-digits 256 (omega arith) n (256 ^ n - suc m) (omega arith) in
      let q : 256 ^ n ≤ (256 ^ n - suc m) * 2 = omega (arith, half) in
      let d : 256 ^ n - suc (256 ^ n - suc m) ≡ m = omega arith in
      (by_value (digits 256 n (256 ^ n - suc m)) (length_digits 256 (omega arith) n (256 ^ n - suc m))
      (digits-below 256 (omega arith) n (256 ^ n - suc m))).1 (rw v q) ∙ rw (v, d)

-- and octets whose number is written again, in as many
pub octets-signed : (x : ℕ) (xs : List ℕ) → Below 256 (x ∷ xs)
    → (octets (suc (length xs)) (signed (x ∷ xs)) ≡ x ∷ xs) × (mag (signed (x ∷ xs)) * 2 < 256 ^ suc (length xs))
unfolding octets
octets-signed x xs b =
    let k = natural-lt 256 (x ∷ xs) b in
    let d = digits-horner 256 (omega arith) (x ∷ xs) b in
    let p = pow-suc 256 (length xs) in
    let y = power_pos (length xs) in
    ⊎_elim
    (λ (h : x < 128). let lo = half-low x xs b.1 h in let s : signed (x ∷ xs) ≡ pos (natural (x ∷ xs)) = signed_low refl h in rw s (d, omega arith))
    (λ (h : 128 ≤ x).
    let hi = half_high x xs b.1 h in
    let e : 256 ^ suc (length xs) - suc (256 ^ suc (length xs) - suc (natural (x ∷ xs))) ≡ natural (x ∷ xs) = omega arith in
    let s : signed (x ∷ xs) ≡ negsuc (256 ^ suc (length xs) - suc (natural (x ∷ xs))) = signed_high refl h in
    rw s (rw e d, omega arith))
    (lt-or-le x 128)

-- the bits of a number of 64 bits end in the octets of its size
pub size-eight : (z : ℤ) → SFits w64 z → (0 < size z) × (size z ≤ 8)
size-eight z h = let k = h.sfits in ((size_holds (mag z) (mag z) (omega arith)).0, size-least (mag z) (mag z) 8 (omega arith) (omega arith) (omega arith))

pub bits-octets : (z : ℤ) → SFits w64 z → digits 256 (size z) (of_z w64 z) ≡ shortest z
unfolding shortest octets
bits-octets (pos m) h = refl
bits-octets (negsuc m) h =
    let e = size-eight (negsuc m) h in
    let n = size (negsuc m) in
    let w : m * 2 < 256 ^ n = (size_holds m m (omega arith)).1 in
    let f : 8 ≡ (8 - n) + n = omega arith in
    let p : 2 ^ 64 ≡ 256 ^ (8 - n) * 256 ^ n = ap (λ (i : ℕ). 256 ^ i) f ∙ pow-add 256 (8 - n) n in
    let g : 256 ^ (8 - n) ≡ suc (256 ^ (8 - n) - 1) = let y = power_pos (8 - n) in omega arith in
    let q : 256 ^ (8 - n) * 256 ^ n ≡ (256 ^ (8 - n) - 1) * 256 ^ n + 256 ^ n = ap (λ (i : ℕ). i * 256 ^ n) g ∙ suc-mul (256 ^ (8 - n) - 1) (256 ^ n) in
    let d : 2 ^ 64 - suc m ≡ (256 ^ (8 - n) - 1) * 256 ^ n + (256 ^ n - suc m) = omega arith in
    ap (digits 256 n) d ∙ digits_low 256 (omega arith) n (256 ^ (8 - n) - 1) (256 ^ n - suc m)
