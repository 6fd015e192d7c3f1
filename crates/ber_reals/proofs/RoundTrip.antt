-- Reals: what is written is read back as the same double, what is read is written, and the written form has the fewest octets of its kind.
use Rattle.std.specs.Prelude.{Some, None}
use Prim.Native.Nat.{ℕ, zero, suc, ◌+◌, ◌-◌, ◌*◌, ◌/◌, ◌%◌, ◌^◌, ◌≤◌, ◌<◌}
use mathlib.Core.Path.{◌≡◌, refl, sym, ap, ◌∙◌, subst}
use mathlib.Core.Logic.{⊎_elim}
use mathlib.Core.List.{List, [], ◌∷◌, ◌++◌}
use mathlib.Core.Bool.{Bool, true, false, ◌&&◌}
use native.Mathlib.Nat.{lt_irrefl, eq-zero-or-pos, mul-one, one-mul, pow-suc, pow-succ', le_trans, le_of_eq, lt_of_lt_of_le}
use native.Mathlib.Omega.{arith}
use borrow.Author.Tests.{le-leb, lt-leb}
use lib.ListN.{length, take, drop, length-append, length-drop}
use lib.Seq.{take_at, drop_at, length-take-le}
use lib.Dec.{T, leb, ltb, eqb→eq, leb→le, ltb→lt}
use lib.Pow.{pow-add, pow_pos, pow_mono}
use lib.IntN.{ℤ, pos, negsuc, ◌+ℤ◌, +ℤ_idr}
use lib.Signed.{mag}
use lib.Ieee as Ieee
use lib.Ieee.{Float, nan, inf, fin, binary64, up, down}
use lib.Ieee.Digits.{size-lt, size-le}
use lib.Ieee.Fits.{and_l, and_r}
use lib.Ieee.Bits.{is_true}
use Rattle.ber_integers.specs.Digits.{natural, Put, outcome}
use Rattle.ber_integers.specs.Integer.{signed, shortest}
use Rattle.ber_integers.proofs.Radix.{Below, length_digits, horner-digits, natural-lt}
use Rattle.ber_integers.proofs.Sizes.{size_holds, size-least, octets-signed}
use Rattle.ber_integers.proofs.RoundTrip.{length-shortest, signed-shortest}
use Rattle.ber_integers.proofs.Signs.{below-take, below-drop}
use Rattle.ber_integers.proofs.Output.{put-fits, put_next, put-length, put-there}
use Rattle.ber_reals.specs.Number.{number, in_double}
use Rattle.ber_reals.specs.Real.{negative, base, scale, exponent_octets, well_formed, mantissa, power, non_empty, real, real_at}
use Rattle.ber_reals.specs.Means.{Equals, Means, Plain}
use Rattle.ber_reals.proofs.Powers.{over, below, one}
use Rattle.ber_reals.proofs.Odd.{odd-once}
use Rattle.ber_reals.proofs.Laws.{rule-at}
use Rattle.ber_reals.proofs.WriteLaws.{number-form}
use Rattle.ber_reals.proofs.RealLaws.{binary-is, more-is, inside}
use Rattle.ber_reals.proofs.Doubles.{complete, rule-is, double-odd, same-eq, levels, level-some, level-is}
use Rattle.ber_reals.proofs.Exactly.{exactly, formed-within}
use Rattle.ber_reals.specs.Write.{Form, unwritten, octets, form, first_octet, mantissa_octets, number_octets, put_form, write_at}

-- ---- a finite double's mantissa and power are small

module _ (s : Bool) (m : ℕ) (p : ℤ) (some : 0 < m) (double : T (Ieee.fits binary64 (fin s m p))) where
  held : in_double m p ≡ true
  held = sym (rule-is s m p (double-odd s m p some double)) ∙ is_true (Ieee.fits binary64 (fin s m p)) double

  bounds : T (ltb m (2 ^ 53) && (leb (below p) (over p + 1074) && leb (Ieee.size m + over p) (below p + 1024)))
  bounds = subst T (sym held ∙ rule-at m p (over p) (below p) refl) tt

  pub mantissa-small : m < 2 ^ 53
  mantissa-small = ltb→lt m (2 ^ 53) (and_l (ltb m (2 ^ 53)) (leb (below p) (over p + 1074) && leb (Ieee.size m + over p) (below p + 1024)) bounds)

  power-bounds : (below p ≤ over p + 1074) × (Ieee.size m + over p ≤ below p + 1024)
  power-bounds =
      let b = and_r (ltb m (2 ^ 53)) (leb (below p) (over p + 1074) && leb (Ieee.size m + over p) (below p + 1024)) bounds in (
        leb→le (below p) (over p + 1074) (and_l (leb (below p) (over p + 1074)) (leb (Ieee.size m + over p) (below p + 1024)) b),
        leb→le (Ieee.size m + over p) (below p + 1024) (and_r (leb (below p) (over p + 1074)) (leb (Ieee.size m + over p) (below p + 1024)) b),
      )

  pub power_small : mag p < 2048
  power_small = go p power-bounds.0 power-bounds.1
    where
      go : (q : ℤ) → below q ≤ over q + 1074 → Ieee.size m + over q ≤ below q + 1024 → mag q < 2048
      go (pos k) a b = omega arith
      go (negsuc k) a b = omega arith

-- ---- the first octet that is written

module _ (n : ℕ) (some : 0 < n) (few : n ≤ 3) where
  pub first-binary : (s : Bool) → 128 ≤ first_octet s n
  first-binary true = omega arith
  first-binary false = omega arith

  pub first-negative : (s : Bool) → negative (first_octet s n) ≡ s
  first-negative true = le-leb 64 (first_octet true n % 128) (omega arith)
  first-negative false = lt-leb 64 (first_octet false n % 128) (omega arith)

  pub first-base : (s : Bool) → base (first_octet s n) ≡ 0
  first-base true = omega arith
  first-base false = omega arith

  pub first-scale : (s : Bool) → scale (first_octet s n) ≡ 0
  first-scale true = omega arith
  first-scale false = omega arith

  pub first-form : (s : Bool) → exponent_octets (first_octet s n) ≡ n
  first-form true = omega arith
  first-form false = omega arith

-- ---- what is written is read back

plain_of : (first : ℕ) (rest : List ℕ) → 0 < length rest → scale first ≡ 0 → mantissa first rest % 2 ≡ 1 → Plain (first ∷ rest)
plain_of first [] h a b = absurd (omega arith)
plain_of first (x ∷ rest) h a b = (a, b)

bytes : (n : ℕ) → 256 ^ n ≡ 2 ^ (8 * n)
bytes zero = refl
bytes (suc n) =
    let z : 8 * suc n ≡ 8 * n + 8 = omega arith in
    pow-suc 256 n ∙ ap (λ (x : ℕ). x * 256) (bytes n) ∙ sym (ap (λ (x : ℕ). 2 ^ x) z ∙ pow-add 2 (8 * n) 8)

-- as many octets as hold the mantissa, and no more
octets-hold : (m : ℕ) → m < 256 ^ ((Ieee.size m + 7) / 8)
octets-hold m =
    let n = (Ieee.size m + 7) / 8 in
    lt_of_lt_of_le (size-lt m) (le_trans (pow_mono (omega arith)) (le_of_eq (sym (bytes n))))

module _ (s : Bool) (m : ℕ) (p : ℤ) (some : 0 < m) (double : T (Ieee.fits binary64 (fin s m p))) where
  abbrev e : ℕ
  e = length (shortest p)

  abbrev first : ℕ
  first = first_octet s e

  abbrev rest : List ℕ
  rest = shortest p ++ mantissa_octets m

  exponent-few : (0 < e) × (e ≤ 2)
  exponent-few =
      let l = length-shortest p in
      let w = power_small s m p some double in
      let z = (size_holds (mag p) (mag p) (omega arith)).0 in
      let y = size-least (mag p) (mag p) 2 (omega arith) (omega arith) (omega arith) in
      (omega arith, omega arith)

  mantissa-length : length (mantissa_octets m) ≡ (Ieee.size m + 7) / 8
  mantissa-length = length_digits 256 (omega arith) ((Ieee.size m + 7) / 8) m

  mantissa-few : (0 < length (mantissa_octets m)) × (length (mantissa_octets m) ≤ 8)
  mantissa-few =
      let l = mantissa-length in
      let h : Ieee.size m ≤ 53 = size-le m 53 (mantissa-small s m p some double) in (
        ⊎_elim (λ (z : (Ieee.size m + 7) / 8 ≡ 0). absurd (let q : m < 256 ^ 0 = subst (λ (n : ℕ). m < 256 ^ n) z (octets-hold m) in omega arith))
            (λ (z : 0 < (Ieee.size m + 7) / 8). omega arith) (eq-zero-or-pos ((Ieee.size m + 7) / 8)),
        omega arith,
      )

  rest-length : length rest ≡ e + length (mantissa_octets m)
  rest-length = length-append (shortest p) (mantissa_octets m)

  form-is : exponent_octets first ≡ e
  form-is = let f = exponent-few in first-form e f.0 (omega arith) s

  mantissa-is : mantissa first rest ≡ m
  mantissa-is =
      ap (λ (n : ℕ). natural (drop n rest)) form-is
      ∙ ap natural (drop_at (shortest p) (mantissa_octets m) e refl)
      ∙ horner-digits 256 (omega arith) ((Ieee.size m + 7) / 8) m (octets-hold m)

  power-is : power first rest ≡ p
  power-is =
      let f = exponent-few in
      ap (λ (n : ℕ). signed (take n rest) +ℤ pos (scale first)) form-is
      ∙ ap (λ (l : List ℕ). signed l +ℤ pos (scale first)) (take_at (shortest p) (mantissa_octets m) e refl)
      ∙ ap (λ (z : ℤ). z +ℤ pos (scale first)) (signed-shortest p)
      ∙ ap (λ (n : ℕ). p +ℤ pos n) (first-scale e f.0 (omega arith) s)
      ∙ +ℤ_idr p

  pub number_read : real (number_octets s m p) ≡ Some (fin s m p)
  unfolding real
  number_read =
      let f = exponent-few in
      let g = mantissa-few in
      let l = rest-length in
      let q = form-is in
      let w = mantissa-small s m p some double in
      more-is first rest (omega arith)
      ∙ sym (binary-is first rest (first-binary e f.0 (omega arith) s) (first-base e f.0 (omega arith) s) (omega arith) (omega arith) (omega arith))
      ∙ ap (λ (b : Bool). number b (mantissa first rest) (power first rest)) (first-negative e f.0 (omega arith) s)
      ∙ ap (λ (n : ℕ). number s n (power first rest)) mantissa-is
      ∙ ap (number s m) power-is
      ∙ complete s m p some (omega arith) (fin s m p) (double, same-eq s m p m p refl)

  pub number-plain : Plain (number_octets s m p)
  number-plain =
      let f = exponent-few in
      let g = mantissa-few in
      let l = rest-length in
      plain_of first rest (omega arith) (first-scale e f.0 (omega arith) s) (ap (λ (n : ℕ). n % 2) mantissa-is ∙ double-odd s m p some double)

-- 2 ^ p is 1 only for p = 0
flat : (p : ℤ) → up p * down p ≡ 1 → p ≡ pos 0
flat (pos zero) h = refl
flat (pos (suc k)) h = absurd (let a = pow-succ' 2 k in let b = pow_pos k in let c = mul-one (2 ^ suc k) in omega arith)
flat (negsuc k) h = absurd (let a = pow-succ' 2 k in let b = pow_pos k in let c = one-mul (2 ^ suc k) in omega arith)

zero_is : (s : Bool) (p : ℤ) → T (Ieee.fits binary64 (fin s 0 p)) → p ≡ pos 0
unfolding Ieee.fits
zero_is s p t = flat p (eqb→eq (up p * down p) 1 t)

list_same : (xs ys : List ℕ) → octets xs ≡ octets ys → xs ≡ ys
list_same xs ys e = cc

none : (ys : List ℕ) → unwritten ≡ octets ys → ⊥
none ys e = let z : ◌≡◌ {A = ℕ} 0 1 = cc in omega arith

-- Every double that is written is read back from its octets.
pub written_read : (x : Float) (bs : List ℕ) → T (Ieee.fits binary64 x) → form x ≡ octets bs → real bs ≡ Some x
unfolding form real non_empty
written_read nan bs d e = absurd (none bs e)
written_read (inf false) bs d e = ap real (sym (list_same (0x40 ∷ []) bs e))
written_read (inf true) bs d e = ap real (sym (list_same (0x41 ∷ []) bs e))
written_read (fin false zero p) bs d e = ap real (sym (list_same [] bs e)) ∙ ap (λ (q : ℤ). Some (fin false 0 q)) (sym (zero_is false p d))
written_read (fin true zero p) bs d e = absurd (none bs e)
written_read (fin false (suc m) p) bs d e = ap real (sym (list_same (number_octets false (suc m) p) bs e)) ∙ number_read false (suc m) p (omega arith) d
written_read (fin true (suc m) p) bs d e = ap real (sym (list_same (number_octets true (suc m) p) bs e)) ∙ number_read true (suc m) p (omega arith) d

-- ---- what is read is written again, and read again as the same double

module _ (s : Bool) (m : ℕ) (p : ℤ) (some : 0 < m) where
  -- a double that equals a number is not zero, and has a form
  pub equal-form : (x : Float) → Equals x s m p → (cs : List ℕ) × (form x ≡ octets cs)
  unfolding Ieee.eq form
  equal-form nan h = absurd h.1
  equal-form (inf t) h = absurd h.1
  equal-form (fin t zero q) h = absurd (lt_irrefl 0 (level-some zero q m p some (levels t zero q s m p some h.1).1))
  equal-form (fin false (suc n) q) h = (number_octets false (suc n) q, refl)
  equal-form (fin true (suc n) q) h = (number_octets true (suc n) q, refl)

means-form : (bs : List ℕ) (x : Float) → Means bs x → T (Ieee.fits binary64 x) × ((cs : List ℕ) × (form x ≡ octets cs))
unfolding form Ieee.fits
means-form [] x h = subst (λ (y : Float). T (Ieee.fits binary64 y) × ((cs : List ℕ) × (form y ≡ octets cs))) (sym h) (tt, ([], refl))
means-form (first ∷ []) x h =
    ⊎_elim
    (λ (p : (first ≡ 0x40) × (x ≡ inf false)). subst (λ (y : Float). T (Ieee.fits binary64 y) × ((cs : List ℕ) × (form y ≡ octets cs))) (sym p.1)
    (tt, (0x40 ∷ [], refl)))
    (λ (p : (first ≡ 0x41) × (x ≡ inf true)). subst (λ (y : Float). T (Ieee.fits binary64 y) × ((cs : List ℕ) × (form y ≡ octets cs))) (sym p.1)
    (tt, (0x41 ∷ [], refl)))
    h
means-form (first ∷ (second ∷ rest)) x h =
    (h.2.0, equal-form (negative first) (mantissa first (second ∷ rest)) (power first (second ∷ rest)) h.1 x h.2)

-- What is read is a double of the format, never a NaN nor minus zero: it has octets, which are read as it again.
pub read-written : (bs : List ℕ) (x : Float) → Below 256 bs → real bs ≡ Some x → T (Ieee.fits binary64 x)
    × ((cs : List ℕ) × ((form x ≡ octets cs) × (real cs ≡ Some x)))
read-written bs x b e =
    let f = means-form bs x ((exactly bs b x).0 e) in
    (f.0, (f.1.0, (f.1.1, written_read x f.1.0 f.0 f.1.1)))

-- ---- fewest octets, among those with scale 0 and an odd mantissa

exponent-least : (l : List ℕ) → Below 256 l → 0 < length l → length (shortest (signed l)) ≤ length l
exponent-least [] b h = absurd (omega arith)
exponent-least (x ∷ xs) b h =
    let o = (octets-signed x xs b).1 in
    let l = length-shortest (signed (x ∷ xs)) in
    let q = size-least (mag (signed (x ∷ xs))) (mag (signed (x ∷ xs))) (suc (length xs)) (omega arith) (omega arith) o in
    omega arith

mantissa-least : (l : List ℕ) → Below 256 l → length (mantissa_octets (natural l)) ≤ length l
mantissa-least l b =
    let n = length_digits 256 (omega arith) ((Ieee.size (natural l) + 7) / 8) (natural l) in
    let h : Ieee.size (natural l) ≤ 8 * length l =
    size-le (natural l) (8 * length l) (subst (λ (x : ℕ). natural l < x) (bytes (length l)) (natural-lt 256 l b)) in
    omega arith

-- an odd mantissa's double is that mantissa and power
odd-same : (s : Bool) (m : ℕ) (p : ℤ) (x : Float) → m % 2 ≡ 1 → Equals x s m p → x ≡ fin s m p
unfolding Ieee.eq
odd-same s m p nan o h = absurd h.1
odd-same s m p (inf t) o h = absurd h.1
odd-same s m p (fin t n q) o h =
    let some : 0 < m = omega arith in
    let l = levels t n q s m p some h.1 in
    let g = double-odd t n q (level-some n q m p some l.1) h.0 in
    let r = odd-once n m (over q + below p) (over p + below q) g o (sym (level-is n q p) ∙ l.1 ∙ level-is m p q) in
    let z : q ≡ p = one q p (over p) (below p) r.1 refl in
    same-fin l.0 r.0 z
  where
    same-fin : {s t : Bool} {m n : ℕ} {p q : ℤ} → t ≡ s → n ≡ m → q ≡ p → fin t n q ≡ fin s m p
    same-fin a b c = cc

module _ (first : ℕ) (rest : List ℕ) (bs : Below 256 rest) (formed : T (well_formed first rest)) where
  abbrev split : ℕ
  split = exponent_octets first

  within : split < length rest
  within = formed-within first rest formed

  pub parts-least : (s : Bool) → scale first ≡ 0 → length (number_octets s (mantissa first rest) (power first rest)) ≤ suc (length rest)
  parts-least s z =
      let w = within in
      let p : power first rest ≡ signed (take split rest) = ap (λ (n : ℕ). signed (take split rest) +ℤ pos n) z ∙ +ℤ_idr (signed (take split rest)) in
      let t : length (take split rest) ≡ split = length-take-le split rest (omega arith) in
      let d : length (drop split rest) ≡ length rest - split = length-drop split rest in
      let a = exponent-least (take split rest) (below-take 256 split rest bs) (omega arith) in
      let b = mantissa-least (drop split rest) (below-drop 256 split rest bs) in
      let l = length-append (shortest (power first rest)) (mantissa_octets (mantissa first rest)) in
      let q : length (shortest (power first rest)) ≡ length (shortest (signed (take split rest))) = ap (λ (y : ℤ). length (shortest y)) p in
      omega arith

-- No octets with scale 0 and an odd mantissa that are read as the double are fewer.
pub written-least : (bs cs : List ℕ) (x : Float) → Below 256 bs → Plain bs → real bs ≡ Some x → form x ≡ octets cs → length cs ≤ length bs
unfolding form
written-least [] cs x b p e f =
    let h = (exactly [] b x).0 e in
    let l : [] ≡ cs = list_same [] cs (sym (ap form h) ∙ f) in
    let n = ap length l in omega arith
written-least (first ∷ []) cs x b p e f =
    ⊎_elim
    (λ (h : (first ≡ 0x40) × (x ≡ inf false)). let n = ap length (list_same (0x40 ∷ []) cs (sym (ap form h.1) ∙ f)) in omega arith)
    (λ (h : (first ≡ 0x41) × (x ≡ inf true)). let n = ap length (list_same (0x41 ∷ []) cs (sym (ap form h.1) ∙ f)) in omega arith)
    ((exactly (first ∷ []) b x).0 e)
written-least (first ∷ (second ∷ rest)) cs x b p e f =
    let h = (exactly (first ∷ (second ∷ rest)) b x).0 e in
    let r = second ∷ rest in
    let i : x ≡ fin (negative first) (mantissa first r) (power first r) = odd-same (negative first) (mantissa first r) (power first r) x p.1 h.2 in
    let l : number_octets (negative first) (mantissa first r) (power first r) ≡ cs =
    list_same (number_octets (negative first) (mantissa first r) (power first r)) cs
    (sym (number-form (negative first) (mantissa first r) (power first r) h.1) ∙ sym (ap form i) ∙ f) in
    let n = ap length l in
    let q = parts-least first r b.1 h.0 (negative first) p.0 in
    omega arith

-- and what is written has scale 0 and an odd mantissa
pub written-plain : (x : Float) (cs : List ℕ) → T (Ieee.fits binary64 x) → form x ≡ octets cs → Plain cs
unfolding form
written-plain nan cs d e = absurd (none cs e)
written-plain (inf false) cs d e = subst Plain (list_same (0x40 ∷ []) cs e) tt
written-plain (inf true) cs d e = subst Plain (list_same (0x41 ∷ []) cs e) tt
written-plain (fin false zero p) cs d e = subst Plain (list_same [] cs e) tt
written-plain (fin true zero p) cs d e = absurd (none cs e)
written-plain (fin false (suc m) p) cs d e = subst Plain (list_same (number_octets false (suc m) p) cs e) (number-plain false (suc m) p (omega arith) d)
written-plain (fin true (suc m) p) cs d e = subst Plain (list_same (number_octets true (suc m) p) cs e) (number-plain true (suc m) p (omega arith) d)

-- ---- in a message: what was written into an output is read from it, with nothing left

pub written-read-at : (out : List ℕ) (at : ℕ) (x : Float) (n : ℕ) (o : List ℕ) → T (Ieee.fits binary64 x)
    → write_at out at x ≡ outcome (Some n) o → real_at o at (n - at) ≡ Some x
unfolding write_at
written-read-at out at x n o d e = go (form x) refl e
  where
    go : (f : Form) → form x ≡ f → put_form out at f ≡ outcome (Some n) o → real_at o at (n - at) ≡ Some x
    go unwritten i w = absurd (let a : None ≡ Some n = ap (λ (p : Put). p.answer) w in let z : ◌≡◌ {A = ℕ} 0 1 = cc in omega arith)
    go (octets bs) i w =
        let f = put-fits out at bs n o w in
        let l = put-length out at bs n o w in
        let k : n - at ≡ length bs = (let q = put_next out at bs n o w in omega arith) in
        ap (real_at o at) k ∙ inside o at (length bs) (omega arith) ∙ ap real (put-there out at bs n o w) ∙ written_read x bs d i
