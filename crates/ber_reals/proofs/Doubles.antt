-- The rule of document 01 accepts a number exactly if some finite double equals it, and what is read is that double: "Accepted exactly if
-- some finite double equals it". Doubles, and when one equals a number, are the library's (`lib.Ieee`).
use Rattle.std.specs.Prelude.{Some, None}
use Prim.Native.Nat.{ℕ, zero, suc, ◌+◌, ◌*◌, ◌%◌, ◌^◌, ◌≤◌, ◌<◌}
use mathlib.Core.Path.{◌≡◌, refl, sym, ap, ◌∙◌, subst}
use mathlib.Core.Bool.{Bool, true, false, ◌&&◌, ◌||◌, beq}
use native.Mathlib.Nat.{zero-lt-suc, mul-pos, mul_assoc, zero-mul, lt_irrefl, le_trans, le_of_eq, add_comm, lt_of_not-le, le_of_suc-le-suc}
use native.Mathlib.Omega.{arith}
use borrow.Author.Tests.{lt-ltb, eq-eqb}
use lib.Dec.{T, leb, ltb, eqb, eqb→eq, leb-suc-suc}
use lib.IntN.{ℤ, pos, negsuc, ◌+ℤ◌}
use lib.Signed.{le_z}
use lib.Pow.{pow-add, pow_mono, pow-lt}
use lib.Ieee as Ieee
use lib.Ieee.{Float, nan, inf, fin, binary64, up, down, size}
use lib.Ieee.Fits.{and_l, and_r, up_pos, down_pos}
use lib.Ieee.Bits.{is_true}
use lib.Ieee.Digits.{size-le}
use Rattle.base_choices.specs.Choices.{pick}
use Rattle.ber_reals.specs.Number.{halvings, odd_part, odd_power, in_double, number}
use Rattle.ber_reals.specs.Means.{Equals}
use Rattle.ber_reals.proofs.Powers.{over, below, up_is, down_is, one, add_is, leb-same, most-is}
use Rattle.ber_reals.proofs.Odd.{odd-once, halved, size-shift, size-under}

-- ---- the rule on an odd mantissa is the library's test of what a double holds

and_assoc : (a b c : Bool) → (a && b) && c ≡ a && (b && c)
and_assoc true b c = refl
and_assoc false b c = refl

pow-leb : (a b : ℕ) → leb (2 ^ a) (2 ^ b) ≡ leb a b
pow-leb a b =
    sym (leb-same a b (2 ^ a) (2 ^ b) (λ l. pow_mono l) (λ l. pow-lt l))

-- n * 2 ^ o is under 2 ^ (l + b)
digits-leb : (n o l b : ℕ) → 0 < n → ltb (n * 2 ^ o) (2 ^ l * 2 ^ b) ≡ leb (size n + o) (b + l)
digits-leb n o l b h =
    let w : 2 ^ (b + l) ≡ 2 ^ l * 2 ^ b = ap (λ (x : ℕ). 2 ^ x) (add_comm b l) ∙ pow-add 2 l b in
    let z : size (n * 2 ^ o) ≡ size n + o = size-shift n o h in
    leb-same (suc (n * 2 ^ o)) (2 ^ l * 2 ^ b) (size n + o) (b + l)
    (λ k. subst (λ (x : ℕ). x ≤ b + l) z (size-le (n * 2 ^ o) (b + l) (subst (λ (x : ℕ). n * 2 ^ o < x) (sym w) k)))
    (λ k. lt_of_not-le (λ (g : size n + o ≤ b + l). lt_irrefl (n * 2 ^ o) (le_trans (size-under n o (b + l) g) (le_trans (le_of_eq w) (le_of_suc-le-suc k)))))

least-same : (e : ℤ) → leb (down e) (2 ^ 1074) ≡ le_z (negsuc 1073) e
least-same (pos k) = refl
least-same (negsuc k) = pow-leb (suc k) 1074 ∙ leb-suc-suc k 1073

most-same : (n : ℕ) (e : ℤ) → 0 < n → ltb (n * up e) (2 ^ 1024 * down e) ≡ le_z (pos (size n) +ℤ e) (pos 1024)
most-same n e h = rw (up_is e, down_is e) (digits-leb n (over e) 1024 (below e) h ∙ sym (most-is (size n) e (over e) (below e) refl))

pub rule-is : (s : Bool) (n : ℕ) (e : ℤ) → n % 2 ≡ 1 → Ieee.fits binary64 (fin s n e) ≡ in_double n e
unfolding Ieee.fits in_double
rule-is s zero e o = absurd (omega arith)
rule-is s (suc n) e o = simp (eq-eqb _ _ o, least-same e, most-same (suc n) e (zero-lt-suc n), and_assoc)

-- ---- a number and its odd form are equal, and no other odd form is

-- n * 2 ^ e equals m * 2 ^ p
abbrev pub Level : ℕ → ℤ → ℕ → ℤ → Type 0
Level n e m p = n * up e * down p ≡ m * up p * down e

powers : (n a b : ℕ) → n * 2 ^ a * 2 ^ b ≡ n * 2 ^ (a + b)
powers n a b = mul_assoc n (2 ^ a) (2 ^ b) ∙ ap (λ (x : ℕ). n * x) (sym (pow-add 2 a b))

pub level-is : (n : ℕ) (e : ℤ) (p : ℤ) → n * up e * down p ≡ n * 2 ^ (over e + below p)
level-is n e p = rw (up_is e, down_is p) (powers n (over e) (below p))

pub odd_is : (m : ℕ) → 0 < m → m < 2 ^ 64 → odd_part m % 2 ≡ 1
odd_is m some word = omega (arith, (halved 64 m some word).0)

module _ (m : ℕ) (p : ℤ) (some : 0 < m) (word : m < 2 ^ 64) where
  whole : (e : ℤ) → m * up p * down e ≡ odd_part m * 2 ^ (over p + halvings m + below e)
  whole e =
      let t = halvings m in
      let s : t + (over p + below e) ≡ over p + t + below e = omega arith in
      level-is m p e
      ∙ ap (λ (x : ℕ). x * 2 ^ (over p + below e)) (sym (halved 64 m some word).1)
      ∙ powers (odd_part m) t (over p + below e)
      ∙ ap (λ (x : ℕ). odd_part m * 2 ^ x) s

  pub odd-level : Level (odd_part m) (odd_power m p) m p
  odd-level =
      level-is (odd_part m) (odd_power m p) p
      ∙ ap (λ (x : ℕ). odd_part m * 2 ^ x) (add_is p (halvings m) (over p) (below p) refl)
      ∙ sym (whole (odd_power m p))

  pub odd-only : (n : ℕ) (e : ℤ) → n % 2 ≡ 1 → Level n e m p → (n ≡ odd_part m) × (e ≡ odd_power m p)
  odd-only n e o h =
      let r = odd-once n (odd_part m) (over e + below p) (over p + halvings m + below e) o (odd_is m some word) (sym (level-is n e p) ∙ h ∙ whole e) in
      (r.0, one e (odd_power m p) (over p + halvings m) (below p) r.1 (add_is p (halvings m) (over p) (below p) refl))

-- ---- the theorem

-- what the library's test says of two numbers of which the second is not 0
pub levels : (s : Bool) (n : ℕ) (e : ℤ) (t : Bool) (m : ℕ) (p : ℤ) → 0 < m → T (Ieee.eq (fin s n e) (fin t m p)) → (s ≡ t) × Level n e m p
unfolding Ieee.eq
levels s n e t m p h q =
    let l : Level n e m p = eqb→eq (n * up e * down p) (m * up p * down e)
    (and_l (eqb (n * up e * down p) (m * up p * down e)) (beq s t || eqb (n * up e * down p) 0) q) in
    let g : 0 < n * up e * down p = subst (λ (x : ℕ). 0 < x) (sym l) (mul-pos (mul-pos h (up_pos p)) (down_pos e)) in
    (sign s t (n * up e * down p) g (and_r (eqb (n * up e * down p) (m * up p * down e)) (beq s t || eqb (n * up e * down p) 0) q), l)
  where
    sign : (s t : Bool) (a : ℕ) → 0 < a → T (beq s t || eqb a 0) → s ≡ t
    sign true true a h q = refl
    sign true false a h q = absurd (let z : a ≡ 0 = eqb→eq a 0 q in omega arith)
    sign false true a h q = absurd (let z : a ≡ 0 = eqb→eq a 0 q in omega arith)
    sign false false a h q = refl

pub same-eq : (s : Bool) (n : ℕ) (e : ℤ) (m : ℕ) (p : ℤ) → Level n e m p → T (Ieee.eq (fin s n e) (fin s m p))
unfolding Ieee.eq
same-eq true n e m p h = subst (λ (b : Bool). T (b && true)) (sym (eq-eqb _ _ h)) tt
same-eq false n e m p h = subst (λ (b : Bool). T (b && true)) (sym (eq-eqb _ _ h)) tt

pub level-some : (n : ℕ) (e : ℤ) (m : ℕ) (p : ℤ) → 0 < m → Level n e m p → 0 < n
level-some zero e m p h l = absurd (lt_irrefl 0 (subst (λ (x : ℕ). 0 < x) (sym l ∙ simp zero-mul) (mul-pos (mul-pos h (up_pos p)) (down_pos e))))
level-some (suc n) e m p h l = zero-lt-suc n

pub double-odd : (s : Bool) (n : ℕ) (e : ℤ) → 0 < n → T (Ieee.fits binary64 (fin s n e)) → n % 2 ≡ 1
unfolding Ieee.fits
double-odd s zero e h t = absurd (lt_irrefl 0 h)
double-odd s (suc n) e h t =
    let a = eqb (suc n % 2) 1 in
    let b = ltb (suc n) (2 ^ 53) in
    let c = leb (down e) (2 ^ 1074) in
    eqb→eq (suc n % 2) 1 (and_l a b (and_l (a && b) c (and_l (a && b && c) (ltb (suc n * up e) (2 ^ 1024 * down e)) t)))

module _ (s : Bool) (m : ℕ) (p : ℤ) (some : 0 < m) (word : m < 2 ^ 64) where
  number_is : number s m p ≡ pick (in_double (odd_part m) (odd_power m p)) (Some (fin s (odd_part m) (odd_power m p))) None
  unfolding number
  number_is = simp (lt-ltb _ _ some)

  -- what is accepted is the double that equals the number
  pub accepted : (x : Float) → number s m p ≡ Some x → Equals x s m p
  accepted x e = go (in_double (odd_part m) (odd_power m p)) (rule-is s (odd_part m) (odd_power m p) (odd_is m some word)) (sym number_is ∙ e)
    where
      go : (b : Bool) → Ieee.fits binary64 (fin s (odd_part m) (odd_power m p)) ≡ b → pick b (Some (fin s (odd_part m) (odd_power m p))) None ≡ Some x
          → Equals x s m p
      go true f r =
          let i : fin s (odd_part m) (odd_power m p) ≡ x = cc in
          subst (λ (y : Float). Equals y s m p) i (subst T (sym f) tt, same-eq s (odd_part m) (odd_power m p) m p (odd-level m p some word))
      go false f r = absurd (let z : ◌≡◌ {A = ℕ} 0 1 = cc in omega arith)

  -- where a double equals the number, it is accepted as that double: so there is one at most
  pub complete : (x : Float) → Equals x s m p → number s m p ≡ Some x
  unfolding Ieee.eq
  complete nan h = absurd h.1
  complete (inf t) h = absurd h.1
  complete (fin t n e) h =
      let l = levels t n e s m p some h.1 in
      let o : n % 2 ≡ 1 = double-odd t n e (level-some n e m p some l.1) h.0 in
      let r = odd-only m p some word n e o l.1 in
      let same : fin t n e ≡ fin s (odd_part m) (odd_power m p) = cc in
      let yes : in_double (odd_part m) (odd_power m p) ≡ true =
      sym (rule-is s (odd_part m) (odd_power m p) (odd_is m some word)) ∙ ap (Ieee.fits binary64) (sym same) ∙ is_true (Ieee.fits binary64 (fin t n e)) h.0 in
      number_is ∙ ap (λ (b : Bool). pick b (Some (fin s (odd_part m) (odd_power m p))) None) yes ∙ ap Some (sym same)

  -- so what is refused equals no double
  pub refused : number s m p ≡ None → (x : Float) → Equals x s m p → ⊥
  refused e x h = let c = complete x h in let z : ◌≡◌ {A = ℕ} 0 1 = cc in omega arith
