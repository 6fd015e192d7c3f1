-- One law for each answer of `binary_real` and `real_at`, and the exponent's octets as a difference.
use Rattle.std.specs.Prelude.{Float, Option, Some, None}
use Prim.Native.Nat.{ℕ, zero, suc, ◌+◌, ◌-◌, ◌≤◌, ◌<◌}
use mathlib.Core.Path.{◌≡◌, refl, sym, ap, ◌∙◌}
use mathlib.Core.List.{List, [], ◌∷◌}
use mathlib.Core.Bool.{true, false}
use native.Mathlib.Omega.{arith}
use borrow.Author.Tests.{lt-ltb, le-ltb, le-leb, lt-leb, eq-eqb, ne_eqb}
use lib.ListN.{length, take, drop, get_or}
use lib.Seq.{take-nil, take-take, drop-drop}
use lib.IntN.{pos, ◌+ℤ◌}
use lib.Ieee.{inf, fin}
use Rattle.ber_integers.specs.Digits.{natural}
use Rattle.ber_integers.specs.Integer.{signed}
use Rattle.ber_integers.proofs.Laws.{part-cons, length_part}
use Rattle.ber_reals.specs.Number.{number}
use Rattle.ber_reals.proofs.Laws.{and-false}
use Rattle.ber_reals.specs.Real.{negative, base, scale, exponent_octets, mantissa, power, well_formed, binary_real, non_empty, real, real_at, real_says, real_or}

module _ (first : ℕ) (rest : List ℕ) where
  pub binary-not : first < 128 → None ≡ binary_real first rest
  unfolding binary_real well_formed
  binary-not h = simp (lt-leb _ _ h)

  pub binary-base : (base first ≡ 0 → ⊥) → None ≡ binary_real first rest
  unfolding binary_real well_formed
  binary-base h = simp (ne_eqb _ _ h, and-false)

  pub binary-form : 3 < exponent_octets first → None ≡ binary_real first rest
  unfolding binary_real well_formed
  binary-form h = simp (lt-leb _ _ h, and-false)

  pub binary-short : length rest ≤ exponent_octets first → None ≡ binary_real first rest
  unfolding binary_real well_formed
  binary-short h = simp (le-ltb _ _ h, and-false)

  pub binary-long : exponent_octets first + 8 < length rest → None ≡ binary_real first rest
  unfolding binary_real well_formed
  binary-long h = simp (lt-leb _ _ h, and-false)

  pub binary-is : 128 ≤ first → base first ≡ 0 → exponent_octets first ≤ 3 → exponent_octets first < length rest → length rest ≤ exponent_octets first + 8
      → number (negative first) (mantissa first rest) (power first rest) ≡ binary_real first rest
  unfolding binary_real well_formed
  binary-is a b c d e = simp (le-leb _ _ a, eq-eqb _ _ b, le-leb _ _ c, lt-ltb _ _ d, le-leb _ _ e)

drop-take : (e k : ℕ) (l : List ℕ) → drop e (take k l) ≡ take (k - e) (drop e l)
drop-take zero k l = let z : k - 0 ≡ k = omega arith in rw z
drop-take (suc e) zero l = let z : 0 - suc e ≡ 0 = omega arith in rw z
drop-take (suc e) (suc k) [] = sym (take-nil (suc k - suc e))
drop-take (suc e) (suc k) (x ∷ l) = let z : suc k - suc e ≡ k - e = omega arith in rw z (drop-take e k l)

-- where the exponent and the mantissa of n octets stand in a message, first being the first octet
module _ (s : List ℕ) (at n first : ℕ) (within : at + n ≤ length s) (long : exponent_octets first < n - 1) where
  abbrev e : ℕ
  e = exponent_octets first

  pub power_in : power first (take (n - 1) (drop (at + 1) s)) ≡ signed (take e (drop (at + 1) s)) +ℤ pos (scale first)
  power_in = ap (λ (l : List ℕ). signed l +ℤ pos (scale first)) (take-take e (n - 1) (drop (at + 1) s) (omega arith))

  pub mantissa-in : mantissa first (take (n - 1) (drop (at + 1) s)) ≡ natural (take (n - 1 - e) (drop (at + 1 + e) s))
  mantissa-in = ap natural (drop-take e (n - 1) (drop (at + 1) s) ∙ ap (take (n - 1 - e)) (drop-drop e (at + 1) s))

  pub message-is : 128 ≤ first → base first ≡ 0 → e ≤ 3 → n - 1 ≤ e + 8
      → number (negative first) (natural (take (n - 1 - e) (drop (at + 1 + e) s))) (signed (take e (drop (at + 1) s)) +ℤ pos (scale first))
      ≡ binary_real first (take (n - 1) (drop (at + 1) s))
  message-is a b c d =
      let l : length (take (n - 1) (drop (at + 1) s)) ≡ n - 1 = length_part s (at + 1) (n - 1) (omega arith) in
      ap (λ (m : ℕ). number (negative first) m (signed (take e (drop (at + 1) s)) +ℤ pos (scale first))) (sym mantissa-in)
      ∙ ap (number (negative first) (mantissa first (take (n - 1) (drop (at + 1) s)))) (sym power_in)
      ∙ binary-is first (take (n - 1) (drop (at + 1) s)) a b c (omega arith) (omega arith)

-- a list that is not empty
pub more-is : (first : ℕ) (l : List ℕ) → 0 < length l → non_empty first l ≡ binary_real first l
unfolding non_empty
more-is first [] h = absurd (omega arith)
more-is first (x ∷ l) h = refl

module _ (s : List ℕ) (at n : ℕ) where
  pub real-out : length s < at + n → None ≡ real_at s at n
  unfolding real_at
  real-out h = simp (lt-leb _ _ h)

  module _ (within : at + n ≤ length s) where
    pub inside : real_at s at n ≡ real (take n (drop at s))
    unfolding real_at
    inside = simp (le-leb _ _ within)

    pub real-empty : n ≡ 0 → Some (fin false 0 (pos 0)) ≡ real_at s at n
    unfolding real
    real-empty e = sym (inside ∙ rw e)

    -- the first octet and the others
    first-of : 0 < n → real_at s at n ≡ non_empty (get_or s at 0) (take (n - 1) (drop (at + 1) s))
    unfolding real
    first-of h = inside ∙ ap real (part-cons s at n h within)

    alone : n ≡ 1 → real_at s at n ≡ non_empty (get_or s at 0) []
    alone e = first-of (omega arith) ∙ let z : n - 1 ≡ 0 = omega arith in rw z

    pub real-plus : n ≡ 1 → get_or s at 0 ≡ 0x40 → Some (inf false) ≡ real_at s at n
    unfolding non_empty
    real-plus e h = sym (alone e ∙ rw h)

    pub real-minus : n ≡ 1 → get_or s at 0 ≡ 0x41 → Some (inf true) ≡ real_at s at n
    unfolding non_empty
    real-minus e h = sym (alone e ∙ rw h)

    pub real-alone : n ≡ 1 → (get_or s at 0 ≡ 0x40 → ⊥) → (get_or s at 0 ≡ 0x41 → ⊥) → None ≡ real_at s at n
    unfolding non_empty
    real-alone e h k = sym (alone e ∙ simp (ne_eqb _ _ h, ne_eqb _ _ k))

    pub rest-length : 0 < n → length (take (n - 1) (drop (at + 1) s)) ≡ n - 1
    rest-length h = length_part s (at + 1) (n - 1) (omega arith)

    pub real-binary : 2 ≤ n → binary_real (get_or s at 0) (take (n - 1) (drop (at + 1) s)) ≡ real_at s at n
    real-binary h =
        let l = rest-length (omega arith) in
        sym (first-of (omega arith) ∙ more-is (get_or s at 0) (take (n - 1) (drop (at + 1) s)) (omega arith))

-- each case of the answer says what document 01's row says
pub real-row : (x : Option Float) → real_says x ≡ real_or 35 x
real-row (Some x) = refl
real-row None = refl
