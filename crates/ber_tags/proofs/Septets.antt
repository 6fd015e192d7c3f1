-- Numbers in groups of seven bits.
use Prim.Native.Nat.{ℕ, suc, ◌+◌, ◌*◌, ◌/◌, ◌%◌, ◌^◌, ◌≤◌, ◌<◌}
use mathlib.Core.Path.{◌≡◌, sym, ap, subst, ◌∙◌}
use mathlib.Core.List.{List, [], ◌∷◌}
use native.Mathlib.Omega.{arith}
use lib.ListN.{length, length-append}
use Rattle.ber_integers.specs.Digits.{horner, digits, count}
use Rattle.ber_integers.proofs.Radix.{Below, length_digits, digits-below, horner-digits, natural-lt, count-holds, count-least}
use Rattle.ber_tags.specs.Write.{marked, septets}
use Rattle.ber_tags.proofs.Laws.{length_marked}

pub length-septets : (v : ℕ) → length (septets v) ≡ count 128 (v / 128) + 1
unfolding septets
length-septets v =
    length-append (marked (digits 128 (count 128 (v / 128)) (v / 128))) ((v % 128) ∷ [])
    ∙ ap (λ (n : ℕ). n + 1) (length_marked (digits 128 (count 128 (v / 128)) (v / 128)) ∙ length_digits 128 (omega arith) (count 128 (v / 128)) (v / 128))

-- a number is its groups of seven bits
pub septets-value : (v : ℕ) → horner 128 0 (digits 128 (count 128 (v / 128)) (v / 128)) * 128 + v % 128 ≡ v
septets-value v =
    let e = horner-digits 128 (omega arith) (count 128 (v / 128)) (v / 128) (count-holds 128 (omega arith) (v / 128) (v / 128) (omega arith)) in
    rw e (omega arith)

-- and the first of several is not 0
pub leading : (base : ℕ) → 1 < base → (m x : ℕ) (xs : List ℕ) → digits base (count base m) m ≡ x ∷ xs → x ≡ 0 → ⊥
unfolding horner
leading base two m x xs e z =
    let pos : 0 < base = omega arith in
    let n : count base m ≡ suc (length xs) = sym (length_digits base pos (count base m) m) ∙ ap length e in
    let b = subst (Below base) e (digits-below base pos (count base m) m) in
    let v : horner base 0 (digits base (count base m) m) ≡ m = horner-digits base pos (count base m) m (count-holds base two m m (omega arith)) in
    let f : 0 * base + x ≡ 0 = omega arith in
    let w : horner base 0 xs ≡ m = sym (ap (λ (a : ℕ). horner base a xs) f) ∙ sym (ap (horner base 0) e) ∙ v in
    let l : m < base ^ length xs = rw w at (natural-lt base xs b.1) in
    let k : count base m ≤ length xs = count-least base two m m (length xs) (omega arith) l in
    omega arith
