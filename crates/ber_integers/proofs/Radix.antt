-- Digits in any base: `digits` and `horner` undo each other.
use Prim.Native.Nat.{ℕ, zero, suc, ◌+◌, ◌-◌, ◌*◌, ◌/◌, ◌%◌, ◌^◌, ◌≤◌, ◌<◌}
use mathlib.Core.Path.{◌≡◌, refl, sym, ap, ◌∙◌}
use mathlib.Core.List.{List, [], ◌∷◌, ◌++◌}
use mathlib.Core.Bool.{Bool, true, false}
use mathlib.Core.Logic.{◌⊎◌, inl, inr, ⊎_elim}
use native.Mathlib.Omega.{arith}
use borrow.Author.Tests.{ltb-true, ltb-false, eq-eqb, ne_eqb}
use lib.Dec.{ltb}
use native.Mathlib.Nat.{pow-suc, pow-zero, mod-lt, div-add-mod', div-lt_iff_lt-mul, mul-add-div_right, mul-add-mod_self_right, mul_assoc, mul_comm}
use native.Mathlib.Nat.{add-mul, pow-le-pow_right, lt_of_lt_of_le, div-lt_self, eq-zero-or-pos}
use lib.Arith.{digits_lt, digits_div, digits_mod}
use lib.ListN.{length, length-append}
use Rattle.ber_integers.specs.Digits.{horner, digits, count_by}
pub use Rattle.ber_integers.specs.Digits.{Below}

-- which of two numbers is greater
pub lt-or-le : (m n : ℕ) → (m < n) ⊎ (n ≤ m)
lt-or-le m n = go (ltb m n) refl
  where
    go : (b : Bool) → ltb m n ≡ b → (m < n) ⊎ (n ≤ m)
    go true e = inl (ltb-true m n e)
    go false e = inr (ltb-false m n e)

pub none_or_some : (m : ℕ) → (m ≡ 0) ⊎ (0 < m)
none_or_some m = eq-zero-or-pos m

pub digit_lt : (base n : ℕ) {q d : ℕ} → q < base ^ n → d < base → q * base + d < base ^ suc n
digit_lt base n {q} {d} h k = rw pow-suc (digits_lt h k)

-- one digit more, as the code counts
pub digit-more : (base n : ℕ) {q d : ℕ} → q < base ^ n → d < base → q * base + d < base ^ (n + 1)
digit-more base n {q} {d} h k = let e : n + 1 ≡ suc n = omega arith in rw e (digit_lt base n h k)

-- a number of at most k digits is below the power of k
pub power_le : (base : ℕ) {n k q : ℕ} → 0 < base → n ≤ k → q < base ^ n → q < base ^ k
power_le base b h l = lt_of_lt_of_le l (pow-le-pow_right b h)

-- fewer than eight octets leave room for one more
pub seven : {i n q : ℕ} → i < n → n ≤ 8 → q < 256 ^ i → q < 256 ^ 7
seven {i} h k l = power_le 256 {n = i} {k = 7} (omega arith) (omega arith) l

pub horner-append : (base acc : ℕ) (xs ys : List ℕ) → horner base acc (xs ++ ys) ≡ horner base (horner base acc xs) ys
unfolding horner
horner-append base acc [] ys = refl
horner-append base acc (x ∷ xs) ys = horner-append base (acc * base + x) xs ys

pub horner-lt : (base k acc : ℕ) (ds : List ℕ) → acc < base ^ k → Below base ds → horner base acc ds < base ^ (k + length ds)
unfolding horner
horner-lt base k acc [] h b = let e : k + 0 ≡ k = omega arith in rw e h
horner-lt base k acc (d ∷ ds) h b =
    let e : k + suc (length ds) ≡ suc k + length ds = omega arith in
    rw e (horner-lt base (suc k) (acc * base + d) ds (digit_lt base k h b.0) b.1)

pub natural-lt : (base : ℕ) (ds : List ℕ) → Below base ds → horner base 0 ds < base ^ length ds
natural-lt base ds b =
    let e : 0 + length ds ≡ length ds = omega arith in
    let z : 0 < base ^ 0 = rw pow-zero (omega arith) in
    rw e at (horner-lt base 0 0 ds z b)

-- what stands before counts the power of what follows
pub horner-split : (base acc : ℕ) (ds : List ℕ) → horner base acc ds ≡ acc * base ^ length ds + horner base 0 ds
unfolding horner
horner-split base acc [] = rw pow-zero (omega arith)
horner-split base acc (d ∷ ds) =
    let p = base ^ length ds in
    let e : horner base (acc * base + d) ds ≡ (acc * base + d) * p + horner base 0 ds = horner-split base (acc * base + d) ds in
    let f : horner base (0 * base + d) ds ≡ (0 * base + d) * p + horner base 0 ds = horner-split base (0 * base + d) ds in
    let g : (acc * base + d) * p ≡ acc * base * p + d * p = add-mul (acc * base) d p in
    let z : (0 * base + d) * p ≡ d * p = ap (λ (x : ℕ). x * p) (omega arith) in
    let w : acc * base ^ suc (length ds) ≡ acc * base * p = rw (pow-suc, mul_comm (base ^ length ds) base, mul_assoc acc base (base ^ length ds)) in
    omega arith

module _ (base : ℕ) (positive : 0 < base) where
  pub length_digits : (n m : ℕ) → length (digits base n m) ≡ n
  unfolding digits
  length_digits zero m = refl
  length_digits (suc n) m =
      length-append (digits base n (m / base)) (m % base ∷ []) ∙ let e = length_digits n (m / base) in omega arith

  below-append : (xs : List ℕ) (d : ℕ) → Below base xs → d < base → Below base (xs ++ (d ∷ []))
  below-append [] d b h = (h, tt)
  below-append (x ∷ xs) d b h = (b.0, below-append xs d b.1 h)

  pub digits-below : (n m : ℕ) → Below base (digits base n m)
  unfolding digits
  digits-below zero m = tt
  digits-below (suc n) m = below-append (digits base n (m / base)) (m % base) (digits-below n (m / base)) (mod-lt m positive)

  -- the number of the digits of a number
  pub horner-digits : (n m : ℕ) → m < base ^ n → horner base 0 (digits base n m) ≡ m
  unfolding horner digits
  horner-digits zero m h = let k : m < 1 = rw pow-zero at h in omega arith
  horner-digits (suc n) m h =
      let k : m < base ^ n * base = rw pow-suc at h in
      let l : m / base < base ^ n = (div-lt_iff_lt-mul positive).1 k in
      rw (horner-append base 0 (digits base n (m / base)) (m % base ∷ []), horner-digits n (m / base) l) (div-add-mod' m base)

  -- equal numbers of equally many digits have equal digits
  pub horner-same : (p q : ℕ) (xs ys : List ℕ) → Below base xs → Below base ys → length xs ≡ length ys
      → horner base p xs ≡ horner base q ys → (p ≡ q) × (xs ≡ ys)
  unfolding horner
  horner-same p q [] [] bx by l e = (e, refl)
  horner-same p q [] (y ∷ ys) bx by l e = absurd (omega arith)
  horner-same p q (x ∷ xs) [] bx by l e = absurd (omega arith)
  horner-same p q (x ∷ xs) (y ∷ ys) bx by l e =
      let m : length xs ≡ length ys = omega arith in
      let r = horner-same (p * base + x) (q * base + y) xs ys bx.1 by.1 m e in
      let a : p ≡ q = sym (digits_div p bx.0) ∙ ap (λ (n : ℕ). n / base) r.0 ∙ digits_div q by.0 in
      let b : x ≡ y = sym (digits_mod p bx.0) ∙ ap (λ (n : ℕ). n % base) r.0 ∙ digits_mod q by.0 in
      (a, cc r.1)

  -- the digits of the number of some digits
  pub digits-horner : (ds : List ℕ) → Below base ds → digits base (length ds) (horner base 0 ds) ≡ ds
  digits-horner ds b =
      (horner-same 0 0 (digits base (length ds) (horner base 0 ds)) ds (digits-below (length ds) (horner base 0 ds)) b
      (length_digits (length ds) (horner base 0 ds)) (horner-digits (length ds) (horner base 0 ds) (natural-lt base ds b))).1

  -- the low digits do not see what stands above them
  pub digits_low : (n k m : ℕ) → digits base n (k * base ^ n + m) ≡ digits base n m
  unfolding digits
  digits_low zero k m = refl
  digits_low (suc n) k m =
      let e : k * base ^ suc n + m ≡ k * base ^ n * base + m = rw (pow-suc, mul_assoc k (base ^ n) base) in
      let d : (k * base ^ n * base + m) / base ≡ k * base ^ n + m / base = mul-add-div_right positive (k * base ^ n) m in
      let r : (k * base ^ n * base + m) % base ≡ m % base = mul-add-mod_self_right (k * base ^ n) base m in
      rw (e, d, r, digits_low n k (m / base))

-- the fewest digits that hold a number
module _ (base : ℕ) (two : 1 < base) where
  pub count-holds : (f m : ℕ) → m ≤ f → m < base ^ count_by base f m
  unfolding count_by
  count-holds zero m h = let e : m ≡ 0 = omega arith in rw (e, pow-zero) (omega arith)
  count-holds (suc f) m h = ⊎_elim none (λ (k : 0 < m). some k (count-holds f (m / base) (less k))) (none_or_some m)
    where
      less : 0 < m → m / base ≤ f
      less k = let l : m / base < m = div-lt_self k two in omega arith

      none : m ≡ 0 → m < base ^ count_by base (suc f) m
      none e = simp (eq-eqb _ _ e) (let z : base ^ 0 ≡ 1 = pow-zero base in omega arith)

      some : 0 < m → m / base < base ^ count_by base f (m / base) → m < base ^ count_by base (suc f) m
      some k r =
          let z : m ≡ 0 → ⊥ = λ e. omega arith in
          let p : 0 < base = omega arith in
          simp (ne_eqb _ _ z, pow-suc) ((div-lt_iff_lt-mul p).0 r)

  pub count-least : (f m k : ℕ) → m ≤ f → m < base ^ k → count_by base f m ≤ k
  unfolding count_by
  count-least zero m k h l = omega arith
  count-least (suc f) m k h l = ⊎_elim none (λ (p : 0 < m). some p (count-least f (m / base) (k - 1) (less p))) (none_or_some m)
    where
      less : 0 < m → m / base ≤ f
      less p = let l : m / base < m = div-lt_self p two in omega arith

      none : m ≡ 0 → count_by base (suc f) m ≤ k
      none e = simp (eq-eqb _ _ e) (omega arith)

      some : 0 < m → (m / base < base ^ (k - 1) → count_by base f (m / base) ≤ k - 1) → count_by base (suc f) m ≤ k
      some p r =
          let z : m ≡ 0 → ⊥ = λ e. omega arith in
          let b : 0 < base = omega arith in
          let k0 : 0 < k = ⊎_elim (λ (e : k ≡ 0). let o : base ^ k ≡ 1 = rw e (pow-zero base) in absurd (omega arith)) (λ (e : 0 < k). e) (none_or_some k) in
          let e : k ≡ suc (k - 1) = omega arith in
          let q : base ^ k ≡ base ^ (k - 1) * base = ap (λ (i : ℕ). base ^ i) e ∙ pow-suc base (k - 1) in
          let s = r ((div-lt_iff_lt-mul b).1 (rw q at l)) in
          simp (ne_eqb _ _ z) (omega arith)
