-- The least octets are read as the double, and are as many as the least size says.
use Rattle.std.specs.Prelude.{Some}
use Prim.Native.Nat.{ℕ, zero, suc, ◌+◌, ◌-◌, ◌*◌, ◌/◌, ◌%◌, ◌^◌, ◌≤◌, ◌<◌}
use mathlib.Core.Path.{◌≡◌, refl, sym, ap, ◌∙◌, subst}
use mathlib.Core.Logic.{⊎_elim}
use mathlib.Core.List.{List, [], ◌∷◌, ◌++◌}
use mathlib.Core.Bool.{Bool, true, false, cond}
use native.Mathlib.Nat.{mul_assoc, mul-pos, lt_of_lt_of_le, pow-le-pow_right}
use native.Mathlib.Omega.{arith}
use borrow.Author.Tests.{le-leb, lt-leb}
use lib.ListN.{length, drop, take}
use lib.Dec.{T, ltb, leb, ltb→lt, leb→le}
use lib.Pow.{pow-add, pow_pos}
use lib.IntN.{ℤ, pos, negsuc, ◌+ℤ◌}
use lib.Signed.{mag}
use lib.Ieee as Ieee
use lib.Ieee.{Float, nan, inf, fin, size, binary64}
use lib.Ieee.Digits.{size-le, size-lt}
use lib.Ieee.Fits.{and_l, and_r}
use Rattle.base_choices.specs.Choices.{pick}
use Rattle.ber_integers.specs.Digits.{natural, digits, horner}
use Rattle.ber_integers.specs.Integer.{signed, shortest}
use Rattle.ber_integers.proofs.RoundTrip.{shortest-below}
use Rattle.ber_integers.proofs.Radix.{none_or_some, Below, length_digits, digits-below, horner-digits}
use Rattle.ber_reals.specs.Number.{number}
use Rattle.ber_reals.specs.Real.{negative, base, scale, exponent_octets, mantissa, power, real}
use Rattle.ber_reals.specs.Write.{Form, octets, form, first_octet, mantissa_octets, number_octets}
use Rattle.ber_reals.proofs.Odd.{size-under}
use Rattle.ber_reals.proofs.Doubles.{Level, level-is, same-eq, complete}
use Rattle.ber_reals.proofs.RealLaws.{binary-is, more-is}
use Rattle.ber_reals.proofs.RoundTrip.{written_read, mantissa-small, power_small}
use Rattle.ber_real_sizes.specs.Sizes.{octets_for, highest, saves, doublings, saved_octets, form_octets, least_octets, least_size, written_size}
use Rattle.ber_real_sizes.proofs.Laws.{bytes, written-number, power-more, power-few}

-- ---- the first octet, of scale k and an exponent of one octet

module _ (k : ℕ) (few : k ≤ 3) where
  abbrev head : Bool → ℕ
  head s = 128 + cond s 64 0 + 4 * k

  head-octet : (s : Bool) → (128 ≤ head s) × (head s < 256)
  head-octet true = (omega arith, omega arith)
  head-octet false = (omega arith, omega arith)

  head-negative : (s : Bool) → negative (head s) ≡ s
  head-negative true = le-leb 64 (head true % 128) (omega arith)
  head-negative false = lt-leb 64 (head false % 128) (omega arith)

  head-base : (s : Bool) → base (head s) ≡ 0
  head-base true = omega arith
  head-base false = omega arith

  head-scale : (s : Bool) → scale (head s) ≡ k
  head-scale true = omega arith
  head-scale false = omega arith

  head-form : (s : Bool) → exponent_octets (head s) ≡ 1
  head-form true = omega arith
  head-form false = omega arith

-- ---- a number with the exponent 127

bits-some : (m : ℕ) → 0 < m → 0 < size m
bits-some m h = go (size m) refl
  where
    go : (z : ℕ) → size m ≡ z → 0 < z
    go zero e = absurd (let l : m < 2 ^ 0 = subst (λ (x : ℕ). m < 2 ^ x) e (size-lt m) in omega arith)
    go (suc z) e = omega arith

-- m * 2 ^ p is m * 2 ^ t * 2 ^ q
raised : (m t p q : ℕ) → p ≡ t + q → Level m (pos p) (m * 2 ^ t) (pos q)
raised m t p q e =
    let z : p + 0 ≡ t + (q + 0) = omega arith in
    level-is m (pos p) (pos q)
    ∙ ap (λ (x : ℕ). m * 2 ^ x) z
    ∙ ap (λ (x : ℕ). m * x) (pow-add 2 t (q + 0))
    ∙ sym (mul_assoc m (2 ^ t) (2 ^ (q + 0)))
    ∙ sym (level-is (m * 2 ^ t) (pos q) (pos p))

module _ (s : Bool) (m p : ℕ) (some : 0 < m) (double : T (Ieee.fits binary64 (fin s m (pos p)))) (high : 127 < p) (low : p ≤ highest (size m)) where
  abbrev t : ℕ
  t = doublings p

  abbrev k : ℕ
  k = p - 127 - t

  abbrev n : ℕ
  n = octets_for (size m)

  abbrev first : ℕ
  first = 128 + cond s 64 0 + 4 * k

  abbrev rest : List ℕ
  rest = 127 ∷ digits 256 n (m * 2 ^ t)

  small : k ≤ 3
  small = omega arith

  octets-few : (0 < n) × (n ≤ 7)
  octets-few = let a = bits-some m some in let b = size-le m 53 (mantissa-small s m (pos p) some double) in (omega arith, omega arith)

  rest-length : length rest ≡ suc n
  rest-length = ap suc (length_digits 256 (omega arith) n (m * 2 ^ t))

  hold : m * 2 ^ t < 256 ^ n
  hold = subst (λ (x : ℕ). m * 2 ^ t < x) (sym (bytes n)) (size-under m t (8 * n) (omega arith))

  mantissa-is : mantissa first rest ≡ m * 2 ^ t
  mantissa-is = ap (λ (i : ℕ). natural (drop i rest)) (head-form k small s) ∙ horner-digits 256 (omega arith) n (m * 2 ^ t) hold

  power-is : power first rest ≡ pos (127 + k)
  unfolding signed horner
  power-is = ap (λ (i : ℕ). signed (take i rest) +ℤ pos (scale first)) (head-form k small s) ∙ ap (λ (i : ℕ). pos 127 +ℤ pos i) (head-scale k small s)

  pub saved_read : real (saved_octets s m p) ≡ Some (fin s m (pos p))
  unfolding real
  saved_read =
      let f = octets-few in
      let l = rest-length in
      let q = head-form k small s in
      let w : m * 2 ^ t < 2 ^ 64 = lt_of_lt_of_le hold ((let e : n ≤ 8 = omega arith in pow-le-pow_right {n = 256} (omega arith) e)) in
      more-is first rest (omega arith)
      ∙ sym (binary-is first rest (head-octet k small s).0 (head-base k small s) (omega arith) (omega arith) (omega arith))
      ∙ ap (λ (b : Bool). number b (mantissa first rest) (power first rest)) (head-negative k small s)
      ∙ ap (λ (i : ℕ). number s i (power first rest)) mantissa-is
      ∙ ap (number s (m * 2 ^ t)) power-is
      ∙ complete s (m * 2 ^ t) (pos (127 + k)) (mul-pos some (pow_pos t)) w (fin s m (pos p))
      (double, same-eq s m (pos p) (m * 2 ^ t) (pos (127 + k)) (raised m t p (127 + k) (omega arith)))

  pub saved-below : Below 256 (saved_octets s m p)
  saved-below = ((head-octet k small s).1, (omega arith, digits-below 256 (omega arith) n (m * 2 ^ t)))

  pub saved-length : length (saved_octets s m p) + 1 ≡ written_size (fin s m (pos p))
  saved-length =
      let a = power-more (pos p) (omega arith) in
      let b = power-few (pos p) 2 (omega arith) (omega arith) in
      let l = rest-length in
      let w = written-number s m (pos p) some in
      omega arith

-- ---- any double

-- what the test tells of the power
saves-is : (b : ℕ) (p : ℤ) → saves b p ≡ true → (k : ℕ) × ((p ≡ pos k) × ((127 < k) × (k ≤ highest b)))
unfolding saves
saves-is b (pos k) e =
    let w = subst T (sym e) tt in
    let most = highest b in
    (k, (refl, (ltb→lt 127 k (and_l (ltb 127 k) (leb k most) w), leb→le k most (and_r (ltb 127 k) (leb k most) w))))
saves-is b (negsuc k) e = absurd (let z : ◌≡◌ {A = ℕ} 0 1 = cc in omega arith)

-- a zero that is written has the power 0
zero-power : (s : Bool) (p : ℤ) (bs : List ℕ) → T (Ieee.fits binary64 (fin s 0 p)) → form (fin s 0 p) ≡ octets bs → p ≡ pos 0
unfolding form real
zero-power true p bs d e = absurd (let z : ◌≡◌ {A = ℕ} 0 1 = cc in omega arith)
zero-power false p bs d e =
    let w : [] ≡ bs = cc in
    let r = subst (λ (l : List ℕ). real l ≡ Some (fin false 0 p)) (sym w) (written_read (fin false 0 p) bs d e) in
    cc

-- octets of bytes that are read as x, n of them
abbrev pub Spells : Float → List ℕ → ℕ → Type 0
Spells x bs n = (real bs ≡ Some x) × ((length bs ≡ n) × Below 256 bs)

below-join : (xs ys : List ℕ) → Below 256 xs → Below 256 ys → Below 256 (xs ++ ys)
below-join [] ys a b = b
below-join (x ∷ xs) ys a b = (a.0, below-join xs ys a.1 b)

first_below : (s : Bool) (e : ℕ) → e ≤ 2 → first_octet s e < 256
first_below true e h = omega arith
first_below false e h = omega arith

number-below : (s : Bool) (m : ℕ) (p : ℤ) → 0 < m → T (Ieee.fits binary64 (fin s m p)) → Below 256 (number_octets s m p)
number-below s m p some d =
    let w = power_small s m p some d in (
      first_below s (length (shortest p)) (power-few p 2 (omega arith) (omega arith)),
      below-join (shortest p) (mantissa_octets m) (shortest-below p) (digits-below 256 (omega arith) ((size m + 7) / 8) m),
    )

written_below : (x : Float) → T (Ieee.fits binary64 x) → Below 256 (form_octets (form x))
unfolding form
written_below nan d = tt
written_below (inf false) d = (omega arith, tt)
written_below (inf true) d = (omega arith, tt)
written_below (fin false zero p) d = tt
written_below (fin true zero p) d = tt
written_below (fin false (suc m) p) d = number-below false (suc m) p (omega arith) d
written_below (fin true (suc m) p) d = number-below true (suc m) p (omega arith) d

-- what is written spells the double
pub written-spells : (x : Float) (bs : List ℕ) → T (Ieee.fits binary64 x) → form x ≡ octets bs → Spells x (form_octets (form x)) (written_size x)
unfolding written_size
written-spells x bs d e = (ap (λ (f : Form). real (form_octets f)) e ∙ written_read x bs d e, (refl, written_below x d))

saved-spells : (s : Bool) (m : ℕ) (p : ℤ) → 0 < m → T (Ieee.fits binary64 (fin s m p)) → saves (size m) p ≡ true
    → Spells (fin s m p) (saved_octets s m (mag p)) (written_size (fin s m p) - 1)
saved-spells s m p some d e =
    let r = saves-is (size m) p e in
    subst (λ (q : ℤ). T (Ieee.fits binary64 (fin s m q)) → Spells (fin s m q) (saved_octets s m (mag q)) (written_size (fin s m q) - 1)) (sym r.1.0)
    (λ (f : T (Ieee.fits binary64 (fin s m (pos r.0)))).
    let l = saved-length s m r.0 some f r.1.1.0 r.1.1.1 in
    (saved_read s m r.0 some f r.1.1.0 r.1.1.1, (omega arith, saved-below s m r.0 some f r.1.1.0 r.1.1.1)))
    d

-- The least octets are read as the double, are as many as the least size says, and are octets.
pub least-read : (x : Float) (bs : List ℕ) → T (Ieee.fits binary64 x) → form x ≡ octets bs
    → (real (least_octets x) ≡ Some x) × ((length (least_octets x) ≡ least_size x) × Below 256 (least_octets x))
unfolding least_octets least_size form
least-read nan bs d e = absurd (let z : ◌≡◌ {A = ℕ} 0 1 = cc in omega arith)
least-read (inf s) bs d e = written-spells (inf s) bs d e
least-read (fin s m p) bs d e = go (saves (size m) p) refl
  where
    go : (b : Bool) → saves (size m) p ≡ b
        → Spells (fin s m p) (pick b (saved_octets s m (mag p)) (form_octets (form (fin s m p)))) (written_size (fin s m p) - cond b 1 0)
    go true h =
        ⊎_elim
        (λ (z : m ≡ 0).
        let f = subst (λ (i : ℕ). T (Ieee.fits binary64 (fin s i p))) z d in
        let q : p ≡ pos 0 = zero-power s p bs f (subst (λ (i : ℕ). form (fin s i p) ≡ octets bs) z e) in
        let r = saves-is (size m) p h in
        let y : pos 0 ≡ pos r.0 = sym q ∙ r.1.0 in
        let x : 0 ≡ r.0 = cc in
        absurd (omega (arith, r.1.1.0)))
        (λ (z : 0 < m). saved-spells s m p z d h)
        (none_or_some m)
    go false h =
        let z : written_size (fin s m p) - 0 ≡ written_size (fin s m p) = omega arith in
        subst (Spells (fin s m p) (form_octets (form (fin s m p)))) (sym z) (written-spells (fin s m p) bs d e)
