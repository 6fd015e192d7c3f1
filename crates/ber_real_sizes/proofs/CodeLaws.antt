-- One law for each answer of the code.
use Prim.Native.Nat.{ℕ, zero, suc, ◌+◌, ◌-◌, ◌/◌, ◌%◌, ◌^◌, ◌≤◌, ◌<◌}
use mathlib.Core.Path.{◌≡◌, refl, sym, ap, ◌∙◌}
use mathlib.Core.Logic.{⊎_elim}
use mathlib.Core.Bool.{Bool, true, false, cond}
use native.Mathlib.Omega.{arith}
use native.Mathlib.Nat.{div-le_self}
use borrow.Author.Tests.{le-leb, lt-leb, le-ltb, lt-ltb, eq-eqb, ne_eqb}
use lib.Count.{trailing_le}
use lib.Dec.{eqb}
use lib.Ieee.Digits.{size-le}
use mir.Val.{bool_byte}
use lib.ListN.{length}
use lib.IntN.{ℤ, pos, negsuc}
use lib.Ieee as Ieee
use lib.Ieee.{Float, inf, fin, size, minus, binary64}
use Rattle.ber_integers.specs.Integer.{shortest}
use Rattle.ber_integers.proofs.Radix.{lt-or-le, none_or_some}
use Rattle.ber_reals.specs.Number.{halvings, odd_part}
use Rattle.ber_reals.specs.Write.{form}
use Rattle.ber_reals.proofs.Powers.{Is, minus_is}
use Rattle.ber_reals.proofs.Laws.{and-false}
use Rattle.ber_reals.proofs.Doubles.{odd_is}
use Rattle.ber_reals.proofs.WriteLaws.{is_negative, field, low, number-form, odd-of, bits-nan, bits-inf, bits-zero, bits_small, bits-normal}
use Rattle.ber_real_sizes.specs.Sizes.{is_form, is_written, written_size, highest, saves, least_size, number_size, number_least, HasSizes}
use Rattle.ber_real_sizes.specs.declared.Content.TheVariants.{Number}
use Rattle.ber_real_sizes.proofs.Laws.{written-number, power-some, power-few, power-more}
use Rattle.ber_real_sizes.proofs.Least.{least-written}

-- ---- the power units - 1,074

module _ (u : ℕ) (few : u < 4096) where
  exponent-two : (z : ℤ) → Is z u 1074 → (u < 946 → length (shortest z) ≡ 2) × (1202 ≤ u → length (shortest z) ≡ 2)
  exponent-two (pos k) d = (
    λ h. absurd (omega arith),
    λ h. let a = power-few (pos k) 2 (omega arith) (omega arith) in let b = power-more (pos k) (omega arith) in omega arith,
  )
  exponent-two (negsuc k) d = (
    λ h. let a = power-few (negsuc k) 2 (omega arith) (omega arith) in let b = power-more (negsuc k) (omega arith) in omega arith,
    λ h. absurd (omega arith),
  )

  exponent-one : (z : ℤ) → Is z u 1074 → 946 ≤ u → u < 1202 → length (shortest z) ≡ 1
  exponent-one (pos k) d h l = let a = power-few (pos k) 1 (omega arith) (omega arith) in let b = power-some (pos k) in omega arith
  exponent-one (negsuc k) d h l = let a = power-few (negsuc k) 1 (omega arith) (omega arith) in let b = power-some (negsuc k) in omega arith

  pub power-low : u < 946 → length (shortest (minus u 1074)) ≡ 2
  power-low h = (exponent-two (minus u 1074) (minus_is u 1074)).0 h

  pub power-mid : 946 ≤ u → u < 1202 → length (shortest (minus u 1074)) ≡ 1
  power-mid h l = exponent-one (minus u 1074) (minus_is u 1074) h l

  pub power-high : 1202 ≤ u → length (shortest (minus u 1074)) ≡ 2
  power-high h = (exponent-two (minus u 1074) (minus_is u 1074)).1 h

module _ (w b u : ℕ) (e : w ≡ number_size b (minus u 1074)) where
  kept : (z : ℤ) → saves b z ≡ false → w ≡ number_size b z → w ≡ number_least b z
  kept z h d = let k : w ≡ number_size b z - 0 = omega arith in k ∙ ap (λ (t : Bool). number_size b z - cond t 1 0) (sym h)

  unsaved-low : (z : ℤ) → Is z u 1074 → u ≤ 1201 → saves b z ≡ false
  unfolding saves
  unsaved-low (pos k) d h = simp (le-ltb 127 k (omega arith))
  unsaved-low (negsuc k) d h = refl

  unsaved-high : (z : ℤ) → Is z u 1074 → highest b < u - 1074 → saves b z ≡ false
  unfolding saves
  unsaved-high (pos k) d h = simp (lt-leb k (highest b) (omega arith), and-false)
  unsaved-high (negsuc k) d h = refl

  saved : (z : ℤ) → Is z u 1074 → 1201 < u → u - 1074 ≤ highest b → saves b z ≡ true
  unfolding saves
  saved (pos k) d h l = simp (lt-ltb 127 k (omega arith), le-leb k (highest b) (omega arith))
  saved (negsuc k) d h l = absurd (omega arith)

  pub least-low : u ≤ 1201 → w ≡ number_least b (minus u 1074)
  least-low h = kept (minus u 1074) (unsaved-low (minus u 1074) (minus_is u 1074) h) e

  pub least-high : highest b < u - 1074 → w ≡ number_least b (minus u 1074)
  least-high h = kept (minus u 1074) (unsaved-high (minus u 1074) (minus_is u 1074) h) e

  pub least-saved : 1201 < u → u - 1074 ≤ highest b → w - 1 ≡ number_least b (minus u 1074)
  least-saved h l =
      ap (λ (i : ℕ). i - 1) e ∙ ap (λ (t : Bool). number_size b (minus u 1074) - cond t 1 0) (sym (saved (minus u 1074) (minus_is u 1074) h l))

-- ---- a double by its fields

number-bounds : (q u : ℕ) → q < 2 ^ 53 → u < 2048 → (size (odd_part q) ≤ 64) × (u + halvings q < 4096)
number-bounds q u h k =
    let o : q / 2 ^ halvings q ≤ q = div-le_self q (2 ^ halvings q) in
    let t = trailing_le 64 q in
    (size-le (q / 2 ^ halvings q) 64 (omega arith), omega arith)

pos_of : (n : ℕ) → (n ≡ 0 → ⊥) → 0 < n
pos_of zero h = absurd (h refl)
pos_of (suc n) h = omega arith

module _ (s : Bool) (q k : ℕ) (some : 0 < q) (word : q < 2 ^ 53) where
  abbrev p : ℤ
  p = minus (k + halvings q) 1074

  odd-some : 0 < odd_part q
  odd-some = let o = odd_is q some (omega arith) in omega arith

  finite-is : is_written (Ieee.odd 53 s q k 1074) ≡ true
  unfolding is_written
  finite-is = ap (λ (x : Float). is_form (form x)) (odd-of s q k some word) ∙ ap is_form (number-form s (odd_part q) p odd-some)

  finite-written : number_size (size (odd_part q)) p ≡ written_size (Ieee.odd 53 s q k 1074)
  finite-written = sym (ap written_size (odd-of s q k some word) ∙ written-number s (odd_part q) p odd-some)

  finite-least : number_least (size (odd_part q)) p ≡ least_size (Ieee.odd 53 s q k 1074)
  unfolding least_size
  finite-least =
      sym (ap least_size (odd-of s q k some word) ∙ ap (λ (w : ℕ). w - cond (saves (size (odd_part q)) p) 1 0) (written-number s (odd_part q) p odd-some))

module _ (n : ℕ) where
  abbrev x : Float
  x = Ieee.of_bits binary64 n

  -- infinities and NaNs
  pub written-inf : field n ≡ 2047 → low n ≡ 0 → 1 ≡ written_size x
  unfolding written_size form
  written-inf e h = sym (ap written_size (bits-inf n e h) ∙ both (is_negative n))
    where
      both : (s : Bool) → written_size (inf s) ≡ 1
      both true = refl
      both false = refl

  pub least-inf : field n ≡ 2047 → low n ≡ 0 → 1 ≡ least_size x
  unfolding least_size
  least-inf e h = written-inf e h ∙ ap written_size (bits-inf n e h) ∙ sym (ap least_size (bits-inf n e h))

  pub written-nan : field n ≡ 2047 → (low n ≡ 0 → ⊥) → 0 ≡ written_size x
  unfolding written_size form
  written-nan e h = sym (ap written_size (bits-nan n e h))

  pub least-nan : field n ≡ 2047 → (low n ≡ 0 → ⊥) → 0 ≡ least_size x
  unfolding least_size
  least-nan e h = sym (ap least_size (bits-nan n e h))

  -- zeros
  pub written-zero : field n ≡ 0 → low n ≡ 0 → 0 ≡ written_size x
  unfolding written_size form
  written-zero e h = sym (ap written_size (bits-zero n e h) ∙ both (is_negative n))
    where
      both : (s : Bool) → written_size (fin s 0 (pos 0)) ≡ 0
      both true = refl
      both false = refl

  pub least_zero : field n ≡ 0 → low n ≡ 0 → 0 ≡ least_size x
  least_zero e h = let a = written-zero e h in let b = (least-written x).0 in omega arith

  -- numbers
  abbrev q : ℕ
  q = 0x10000000000000 + low n

  low-lt : low n < 0x10000000000000
  low-lt = omega arith

  pub written_small : field n ≡ 0 → (low n ≡ 0 → ⊥) → number_size (size (odd_part (low n))) (minus (0 + halvings (low n)) 1074) ≡ written_size x
  written_small e h = let l = low-lt in finite-written (is_negative n) (low n) 0 (pos_of (low n) h) (omega arith) ∙ sym (ap written_size (bits_small n e))

  pub written-normal : (field n ≡ 0 → ⊥) → (field n ≡ 2047 → ⊥) → number_size (size (odd_part q)) (minus (field n - 1 + halvings q) 1074) ≡ written_size x
  written-normal e h =
      let l = low-lt in
      finite-written (is_negative n) q (field n - 1) (omega arith) (omega arith) ∙ sym (ap written_size (bits-normal n (pos_of (field n) e) h))

  pub least-small : field n ≡ 0 → (low n ≡ 0 → ⊥) → number_least (size (odd_part (low n))) (minus (0 + halvings (low n)) 1074) ≡ least_size x
  least-small e h = let l = low-lt in finite-least (is_negative n) (low n) 0 (pos_of (low n) h) (omega arith) ∙ sym (ap least_size (bits_small n e))

  pub least-normal : (field n ≡ 0 → ⊥) → (field n ≡ 2047 → ⊥) → number_least (size (odd_part q)) (minus (field n - 1 + halvings q) 1074) ≡ least_size x
  least-normal e h =
      let l = low-lt in
      finite-least (is_negative n) q (field n - 1) (omega arith) (omega arith) ∙ sym (ap least_size (bits-normal n (pos_of (field n) e) h))

  -- both sizes
  pub small-sizes : field n ≡ 0 → (low n ≡ 0 → ⊥) → HasSizes x (Number (size (odd_part (low n))) (0 + halvings (low n)))
  small-sizes e h =
      let l = low-lt in
      let b = number-bounds (low n) 0 (omega arith) (omega arith) in
      (b.0, (b.1, (written_small e h, least-small e h)))

  pub normal-sizes : (field n ≡ 0 → ⊥) → (field n ≡ 2047 → ⊥) → HasSizes x (Number (size (odd_part q)) (field n - 1 + halvings q))
  normal-sizes e h =
      let l = low-lt in
      let b = number-bounds q (field n - 1) (omega arith) (omega arith) in
      (b.0, (b.1, (written-normal e h, least-normal e h)))

  pub no-number : field n ≡ 2047 → (r : ℕ) → r ≡ bool_byte (eqb (low n) 0) → (r ≡ written_size x) × (r ≡ least_size x)
  no-number f r e =
      ⊎_elim (λ (l : low n ≡ 0). let d : r ≡ 1 = e ∙ ap bool_byte (eq-eqb (low n) 0 l) in (d ∙ written-inf f l, d ∙ least-inf f l))
      (λ (l : 0 < low n).
      let k : low n ≡ 0 → ⊥ = λ z. omega arith in
      let d : r ≡ 0 = e ∙ ap bool_byte (ne_eqb (low n) 0 k) in (d ∙ written-nan f k, d ∙ least-nan f k))
      (none_or_some (low n))

  -- ---- whether it is written

  pub is-minus-zero : n ≡ 0x8000000000000000 → false ≡ is_written x
  unfolding is_written form
  is-minus-zero e =
      let f : field n ≡ 0 = omega arith in
      let l : low n ≡ 0 = omega arith in
      sym (ap is_written (bits-zero n f l ∙ ap (λ (s : Bool). fin s 0 (pos 0)) (le-leb 0x8000000000000000 n (omega arith))))

  module _ (word : n < 2 ^ 64) where
    pub is_nan : 0x7ff0000000000000 < n % 0x8000000000000000 → false ≡ is_written x
    unfolding is_written form
    is_nan h =
        let f : field n ≡ 2047 = omega arith in
        let l : low n ≡ 0 → ⊥ = λ e. omega arith in
        sym (ap is_written (bits-nan n f l))

    infinite : (s : Bool) → is_written (inf s) ≡ true
    unfolding is_written form
    infinite true = refl
    infinite false = refl

    plus-zero : is_written (fin false 0 (pos 0)) ≡ true
    unfolding is_written form
    plus-zero = refl

    pub is_number : (n ≡ 0x8000000000000000 → ⊥) → n % 0x8000000000000000 ≤ 0x7ff0000000000000 → true ≡ is_written x
    is_number e h =
        ⊎_elim
        (λ (f : field n < 2047).
        ⊎_elim
        (λ (g : field n ≡ 0).
        ⊎_elim
        (λ (l : low n ≡ 0).
        let i : n < 0x8000000000000000 = below-sign l g in
        sym (ap is_written (bits-zero n g l ∙ ap (λ (s : Bool). fin s 0 (pos 0)) (lt-leb 0x8000000000000000 n i)) ∙ plus-zero))
        (λ (l : 0 < low n). let k = low-lt in sym (ap is_written (bits_small n g) ∙ finite-is (is_negative n) (low n) 0 l (omega arith)))
        (none_or_some (low n)))
        (λ (g : 0 < field n).
        let k = low-lt in
        sym (ap is_written (bits-normal n g (λ i. omega arith)) ∙ finite-is (is_negative n) q (field n - 1) (omega arith) (omega arith)))
        (none_or_some (field n)))
        (λ (f : 2047 ≤ field n).
        let i : field n ≡ 2047 = omega arith in
        let l : low n ≡ 0 = omega arith in
        sym (ap is_written (bits-inf n i l) ∙ infinite (is_negative n)))
        (lt-or-le (field n) 2047)
      where
        below-sign : low n ≡ 0 → field n ≡ 0 → n < 0x8000000000000000
        below-sign l g = ⊎_elim (λ (i : n < 0x8000000000000000). i) (λ (i : 0x8000000000000000 ≤ n). absurd (e (omega arith))) (lt-or-le n 0x8000000000000000)
