-- Laws of odd numbers, of halving a number until it is odd, and of a number's binary digits.
use Prim.Native.Nat.{ℕ, zero, suc, ◌+◌, ◌*◌, ◌/◌, ◌%◌, ◌^◌, ◌≤◌, ◌<◌}
use mathlib.Core.Path.{◌≡◌, refl, sym, ap, ◌∙◌, subst}
use native.Mathlib.Nat.{mul-one, mul_assoc, mul_left_comm, pow-succ', pow-suc, zero-lt-suc, eq_of_mul-eq-mul_right, div-div-eq-div-mul, div-one}
use native.Mathlib.Nat.{lt_irrefl, lt_of_lt_of_le, lt_of_not-le, le_of_suc-le-suc, le_antisymm, le_trans, le_of_eq, div-lt_iff_lt-mul}
use native.Mathlib.Nat.{mul-le-mul_right}
use native.Mathlib.Omega.{arith}
use lib.Pow.{pow-add, pow_mono, shl_lt}
use lib.Count.{count_trailing_zeros, under, count_leading_zeros, leading_length}
use lib.Ieee.{size}
use lib.Ieee.Digits.{size-lt, size-le, size_reaches}

-- ---- m * 2 ^ a with an odd m is written in one way

even_odd : (m t : ℕ) → m % 2 ≡ 1 → m ≡ 2 * t → ⊥
even_odd m t o h = omega arith

pub odd-once : (m n a b : ℕ) → m % 2 ≡ 1 → n % 2 ≡ 1 → m * 2 ^ a ≡ n * 2 ^ b → (m ≡ n) × (a ≡ b)
odd-once m n zero zero o p h = (sym (mul-one m) ∙ h ∙ mul-one n, refl)
odd-once m n zero (suc b) o p h = absurd (even_odd m (n * 2 ^ b) o (sym (mul-one m) ∙ h ∙ rw (pow-succ' 2 b, mul_left_comm n 2 (2 ^ b))))
odd-once m n (suc a) zero o p h = absurd (even_odd n (m * 2 ^ a) p (sym (mul-one n) ∙ sym h ∙ rw (pow-succ' 2 a, mul_left_comm m 2 (2 ^ a))))
odd-once m n (suc a) (suc b) o p h =
    let r = odd-once m n a b o p (eq_of_mul-eq-mul_right 2 (zero-lt-suc 1) (m * 2 ^ a) (n * 2 ^ b)
    (mul_assoc m (2 ^ a) 2 ∙ ap (λ (x : ℕ). m * x) (sym (pow-suc 2 a)) ∙ h ∙ ap (λ (x : ℕ). n * x) (pow-suc 2 b) ∙ sym (mul_assoc n (2 ^ b) 2))) in
    (r.0, ap suc r.1)

-- ---- halving until the number is odd

-- the first odd number on the way, and how far it was
pub halved : (d n : ℕ) → 0 < n → n < 2 ^ d → (n / 2 ^ count_trailing_zeros d n % 2 ≡ 1) × (n / 2 ^ count_trailing_zeros d n * 2 ^ count_trailing_zeros d n ≡ n)
unfolding count_trailing_zeros
halved zero n h k = absurd (omega arith)
halved (suc d) n h k = go (n % 2) refl (λ e. halved d (n / 2) (omega arith) shorter)
  where
    shorter : n / 2 < 2 ^ d
    shorter = (div-lt_iff_lt-mul (zero-lt-suc 1)).1 (subst (λ (x : ℕ). n < x) (pow-suc 2 d) k)

    go : (r : ℕ) → n % 2 ≡ r
        → (n % 2 ≡ 0 → (n / 2 / 2 ^ count_trailing_zeros d (n / 2) % 2 ≡ 1) × (n / 2 / 2 ^ count_trailing_zeros d (n / 2) * 2 ^ count_trailing_zeros d (n / 2) ≡ n / 2))
        → (n / 2 ^ under r (count_trailing_zeros d (n / 2)) % 2 ≡ 1) × (n / 2 ^ under r (count_trailing_zeros d (n / 2)) * 2 ^ under r (count_trailing_zeros d (n / 2)) ≡ n)
    go zero e rest =
        let t = count_trailing_zeros d (n / 2) in
        let ih = rest e in
        let q : n / 2 ^ suc t ≡ n / 2 / 2 ^ t = ap (λ (x : ℕ). n / x) (pow-succ' 2 t) ∙ sym (div-div-eq-div-mul n 2 (2 ^ t)) in (
          ap (λ (x : ℕ). x % 2) q ∙ ih.0,
          ap (λ (x : ℕ). x * 2 ^ suc t) q ∙ ap (λ (x : ℕ). n / 2 / 2 ^ t * x) (pow-succ' 2 t)
              ∙ mul_left_comm (n / 2 / 2 ^ t) 2 (2 ^ t) ∙ ap (λ (x : ℕ). 2 * x) ih.1 ∙ omega arith,
        )
    go (suc r) e rest = (ap (λ (x : ℕ). x % 2) (div-one n) ∙ omega arith, mul-one (n / 1) ∙ div-one n)

-- fewer times than the number has digits
pub halvings-lt : (d n : ℕ) → 0 < n → n < 2 ^ d → count_trailing_zeros d n < d
halvings-lt d n h k = lt_of_not-le (λ (g : d ≤ count_trailing_zeros d n).
    let r = halved d n h k in
    let t = count_trailing_zeros d n in
    let p : 1 * 2 ^ t ≤ n / 2 ^ t * 2 ^ t = mul-le-mul_right (2 ^ t) (let o = r.0 in omega arith) in
    let w : 2 ^ d ≤ 2 ^ t = pow_mono g in
    omega (arith, r.1))

-- ---- binary digits

pub size_is : (a n : ℕ) → 2 ^ a ≤ n → n < 2 ^ suc a → size n ≡ suc a
size_is a n lo hi = le_antisymm (size-le n (suc a) hi) (lt_of_not-le (λ (g : size n ≤ a). lt_irrefl n (lt_of_lt_of_le (size-lt n) (le_trans (pow_mono g) lo))))

-- i more digits
pub size-shift : (m i : ℕ) → 0 < m → size (m * 2 ^ i) ≡ size m + i
size-shift m i h = go (size m) refl
  where
    go : (z : ℕ) → size m ≡ z → size (m * 2 ^ i) ≡ z + i
    go zero e = absurd (let l : m < 2 ^ 0 = subst (λ (x : ℕ). m < 2 ^ x) e (size-lt m) in omega arith)
    go (suc a) e =
        let lo : 2 ^ (a + i) ≤ m * 2 ^ i = le_trans (le_of_eq (pow-add 2 a i)) (mul-le-mul_right (2 ^ i) (size_reaches m a (omega arith))) in
        let s : suc a + i ≡ suc (a + i) = omega arith in
        let hi : m * 2 ^ i < 2 ^ suc (a + i) = subst (λ (x : ℕ). m * 2 ^ i < 2 ^ x) s (shl_lt (suc a) i (subst (λ (x : ℕ). m < 2 ^ x) e (size-lt m))) in
        size_is (a + i) (m * 2 ^ i) lo hi ∙ sym s

-- a bound on the digits is a bound on the number
pub size-under : (m i k : ℕ) → size m + i ≤ k → m * 2 ^ i < 2 ^ k
size-under m i k h = lt_of_lt_of_le (shl_lt (size m) i (size-lt m)) (pow_mono h)

-- the digits that are no leading zeros
pub size-leading : (k m : ℕ) → m < 2 ^ k → count_leading_zeros k m + size m ≡ k
size-leading k m h =
    let r = leading_length k m h in
    let least : r.0 ≤ size m = le_of_suc-le-suc (lt_of_not-le (λ (g : suc (size m) ≤ r.0).
    let a : 2 ^ suc (size m) ≤ 2 * m + 1 = le_trans (pow_mono g) r.3 in
    let b : 2 ^ suc (size m) ≡ 2 * 2 ^ size m = pow-succ' 2 (size m) in
    let c : m < 2 ^ size m = size-lt m in
    omega arith)) in
    let same : size m ≡ r.0 = le_antisymm (size-le m r.0 r.2) least in
    ap (λ (x : ℕ). count_leading_zeros k m + x) same ∙ r.1
