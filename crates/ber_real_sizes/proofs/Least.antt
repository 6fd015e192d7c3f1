-- No octets that are read as a double are fewer than its least size, and the written ones are at most ten.
use Rattle.std.specs.Prelude.{Some}
use Prim.Native.Nat.{ℕ, suc, ◌+◌, ◌-◌, ◌*◌, ◌^◌, ◌≤◌, ◌<◌}
use mathlib.Core.Path.{◌≡◌, refl, sym, ap, ◌∙◌, subst}
use mathlib.Core.Logic.{⊎_elim}
use mathlib.Core.List.{List, [], ◌∷◌}
use mathlib.Core.Bool.{Bool, true, false, cond}
use native.Mathlib.Omega.{arith}
use borrow.Author.Tests.{lt-ltb, le-leb}
use lib.ListN.{length, take, drop, length-drop}
use lib.Seq.{length-take-le}
use lib.Dec.{T}
use lib.IntN.{ℤ, pos, negsuc, ◌+ℤ◌}
use lib.Signed.{mag}
use lib.Ieee as Ieee
use lib.Ieee.{Float, nan, inf, fin, size, binary64}
use lib.Ieee.Digits.{size-le}
use Rattle.ber_integers.specs.Digits.{natural}
use Rattle.ber_integers.specs.Integer.{signed, shortest}
use Rattle.ber_integers.proofs.Radix.{lt-or-le, none_or_some, Below, natural-lt}
use Rattle.ber_integers.proofs.Sizes.{octets-signed}
use Rattle.ber_integers.proofs.Signs.{below-take, below-drop}
use Rattle.ber_reals.specs.Number.{halvings}
use Rattle.ber_reals.specs.Real.{negative, scale, exponent_octets, well_formed, mantissa, power, real}
use Rattle.ber_reals.specs.Means.{Equals}
use Rattle.ber_reals.specs.Write.{form}
use Rattle.ber_reals.proofs.Odd.{size-shift, halved}
use Rattle.ber_reals.proofs.Powers.{over, below, Is, add_is}
use Rattle.ber_reals.proofs.Doubles.{levels, level-some, double-odd, odd-only}
use Rattle.ber_reals.proofs.Exactly.{exactly, formed-within, mantissa-word}
use Rattle.ber_reals.proofs.RoundTrip.{mantissa-small, power_small}
use Rattle.ber_real_sizes.specs.Sizes.{octets_for, highest, saves, form_octets, written_size, least_size}
use Rattle.ber_real_sizes.proofs.Laws.{bytes, written-number, power-few}

-- ---- m * 2 ^ p, spelled with the exponent z in e octets, the scale k, and m doubled h times in l octets

saves-one : (b j : ℕ) → 127 < j → j ≤ highest b → ◌≡◌ {A = ℕ} (cond (saves b (pos j)) 1 0) 1
unfolding saves
saves-one b j g h = simp (lt-ltb _ _ g, le-leb _ _ h)

module _ (m : ℕ) (z : ℤ) (k h e l : ℕ) (scaled : k ≤ 3) (some : 0 < e) (held : size m + h ≤ 8 * l) (holds : mag z * 2 < 256 ^ e) where
  abbrev Fewest : ℤ → Type 0
  Fewest p = 1 + length (shortest p) + octets_for (size m) - cond (saves (size m) p) 1 0 ≤ 1 + e + l

  -- an exponent of as many octets as are written
  as_many : (p : ℤ) → length (shortest p) ≤ e → Fewest p
  as_many p g = omega arith

  below-zero : (j : ℕ) (y : ℤ) → Is (negsuc j) (over y + k + h) (below y) → j ≤ mag y
  below-zero j (pos i) d = absurd (omega arith)
  below-zero j (negsuc i) d = omega arith

  over-mag : (y : ℤ) → over y ≤ mag y
  over-mag (pos i) = omega arith
  over-mag (negsuc i) = omega arith

  -- one octet of exponent where two are written
  one-octet : (j : ℕ) → 127 < j → length (shortest (pos j)) ≤ 2 → Is (pos j) (over z + k + h) (below z) → e ≡ 1 → Fewest (pos j)
  one-octet j g w d a =
      let i : mag z * 2 < 256 ^ 1 = subst (λ (n : ℕ). mag z * 2 < 256 ^ n) a holds in
      let o = over-mag z in
      ⊎_elim
      (λ (f : highest (size m) < j). omega arith)
      (λ (f : j ≤ highest (size m)). let s = saves-one (size m) j g f in omega arith)
      (lt-or-le (highest (size m)) j)

  pub fewest : (p : ℤ) → mag p < 2048 → Is p (over z + k + h) (below z) → Fewest p
  fewest (negsuc j) w d = as_many (negsuc j) (let i = below-zero j z d in power-few (negsuc j) e some (omega arith))
  fewest (pos j) w d =
      ⊎_elim
      (λ (g : j < 128). as_many (pos j) (let i = power-few (pos j) 1 (omega arith) (omega arith) in omega arith))
      (λ (g : 128 ≤ j).
      let i = power-few (pos j) 2 (omega arith) (omega arith) in
      ⊎_elim
      (λ (f : e < 2). one-octet j g i d (omega arith))
      (λ (f : 2 ≤ e). as_many (pos j) (omega arith))
      (lt-or-le e 2))
      (lt-or-le j 128)

-- ---- what is read

exponent-holds : (l : List ℕ) → Below 256 l → 0 < length l → mag (signed l) * 2 < 256 ^ length l
exponent-holds [] b h = absurd (omega arith)
exponent-holds (x ∷ xs) b h = (octets-signed x xs b).1

mantissa-bits : (l : List ℕ) → Below 256 l → size (natural l) ≤ 8 * length l
mantissa-bits l b = size-le (natural l) (8 * length l) (subst (λ (x : ℕ). natural l < x) (bytes (length l)) (natural-lt 256 l b))

-- the number of a double that equals m * 2 ^ p: m is its mantissa, doubled as often as p lies under its power
module _ (s : Bool) (m : ℕ) (p : ℤ) (some : 0 < m) (word : m < 2 ^ 64) where
  doubled : (t : Bool) (n : ℕ) (q : ℤ) → Equals (fin t n q) s m p → (0 < n) × ((size m ≡ size n + halvings m) × (q ≡ p +ℤ pos (halvings m)))
  doubled t n q h =
      let l = levels t n q s m p some h.1 in
      let g = level-some n q m p some l.1 in
      let r = odd-only m p some word n q (double-odd t n q g h.0) l.1 in
      let e : n * 2 ^ halvings m ≡ m = ap (λ (i : ℕ). i * 2 ^ halvings m) r.0 ∙ (halved 64 m some word).1 in
      (g, (ap size (sym e) ∙ size-shift n (halvings m) g, r.1))

module _ (first : ℕ) (rest : List ℕ) (bytes-all : Below 256 rest) (formed : T (well_formed first rest)) (some : 0 < mantissa first rest) where
  abbrev e : ℕ
  e = exponent_octets first

  abbrev z : ℤ
  z = signed (take e rest)

  number-least : (x : Float) → Equals x (negative first) (mantissa first rest) (power first rest) → least_size x ≤ suc (length rest)
  unfolding Ieee.eq least_size
  number-least nan h = absurd h.1
  number-least (inf t) h = absurd h.1
  number-least (fin t n q) h =
      let w = formed-within first rest formed in
      let m = mantissa first rest in
      let k = scale first in
      let d = doubled (negative first) m (power first rest) some (mantissa-word first rest bytes-all formed) t n q h in
      let i : Is q (over z + k + halvings m) (below z) =
      subst (λ (y : ℤ). Is y (over z + k + halvings m) (below z)) (sym d.1.1)
      (add_is (z +ℤ pos k) (halvings m) (over z + k) (below z) (add_is z k (over z) (below z) refl)) in
      let a : length (take e rest) ≡ e = length-take-le e rest (omega arith) in
      let b : length (drop e rest) ≡ length rest - e = length-drop e rest in
      let f : mag z * 2 < 256 ^ e = subst (λ (j : ℕ). mag z * 2 < 256 ^ j) a (exponent-holds (take e rest) (below-take 256 e rest bytes-all) (omega arith)) in
      let g = mantissa-bits (drop e rest) (below-drop 256 e rest bytes-all) in
      let u : size n + halvings m ≤ 8 * (length rest - e) = omega (arith, d.1.0) in
      let v = fewest n z k (halvings m) e (length rest - e) (omega arith) (omega arith) u f q (power_small t n q d.0 h.0) i in
      let y = written-number t n q d.0 in
      omega (arith, v, y, w)

-- Whatever octets are read as the double, they are as many or more.
pub least-least : (x : Float) (bs : List ℕ) → Below 256 bs → real bs ≡ Some x → least_size x ≤ length bs
unfolding least_size written_size form
least-least x [] b e =
    subst (λ (y : Float). least_size y ≤ 0) (sym ((exactly [] b x).0 e)) (omega arith)
least-least x (first ∷ []) b e =
    ⊎_elim
    (λ (h : (first ≡ 0x40) × (x ≡ inf false)). subst (λ (y : Float). least_size y ≤ 1) (sym h.1) (omega arith))
    (λ (h : (first ≡ 0x41) × (x ≡ inf true)). subst (λ (y : Float). least_size y ≤ 1) (sym h.1) (omega arith))
    ((exactly (first ∷ []) b x).0 e)
least-least x (first ∷ (second ∷ rest)) b e =
    let h = (exactly (first ∷ (second ∷ rest)) b x).0 e in
    number-least first (second ∷ rest) b.1 h.0 h.1 x h.2

-- ---- bounds

-- The least size is the written one or one less.
pub least-written : (x : Float) → (least_size x ≤ written_size x) × (written_size x ≤ least_size x + 1)
unfolding least_size written_size form
least-written nan = (omega arith, omega arith)
least-written (inf s) = (omega arith, omega arith)
least-written (fin s m p) = go (saves (size m) p)
  where
    go : (b : Bool) → (written_size (fin s m p) - cond b 1 0 ≤ written_size (fin s m p)) × (written_size (fin s m p) ≤ written_size (fin s m p) - cond b 1 0 + 1)
    go true = (omega arith, omega arith)
    go false = (omega arith, omega arith)

-- A first octet, two of exponent and seven of mantissa.
pub written-most : (x : Float) → T (Ieee.fits binary64 x) → written_size x ≤ 10
unfolding written_size form
written-most nan d = omega arith
written-most (inf false) d = omega arith
written-most (inf true) d = omega arith
written-most (fin s m p) d =
    ⊎_elim (λ (z : m ≡ 0). subst (λ (i : ℕ). length (form_octets (form (fin s i p))) ≤ 10) (sym z) (go s)) (λ (z : 0 < m). some z) (none_or_some m)
  where
    go : (t : Bool) → length (form_octets (form (fin t 0 p))) ≤ 10
    go true = omega arith
    go false = omega arith

    some : 0 < m → written_size (fin s m p) ≤ 10
    some z =
        let w = written-number s m p z in
        let b = size-le m 53 (mantissa-small s m p z d) in
        let a = power_small s m p z d in
        let k = power-few p 2 (omega arith) (omega arith) in
        omega (arith, w)
