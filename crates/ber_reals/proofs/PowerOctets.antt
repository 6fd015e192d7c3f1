-- The exponent's octets in a message, as the code counts them: plus 16,777,216.
use Prim.Native.Nat.{ℕ, suc, ◌+◌, ◌-◌, ◌^◌, ◌≤◌, ◌<◌}
use mathlib.Core.Path.{◌≡◌, refl, sym, ap, ◌∙◌, subst}
use mathlib.Core.List.{List}
use native.Mathlib.Nat.{pow-le-pow_right}
use native.Mathlib.Omega.{arith}
use lib.ListN.{length, take, drop, get_or}
use lib.IntN.{ℤ, pos, negsuc, ◌+ℤ◌}
use lib.Ieee.{minus}
use Rattle.ber_integers.specs.Digits.{natural}
use Rattle.ber_integers.specs.Integer.{signed}
use Rattle.ber_integers.proofs.Laws.{part-cons, length_part, signed_low, signed_high}
use Rattle.ber_integers.proofs.Radix.{Below, natural-lt}
use Rattle.ber_integers.proofs.Signs.{below_all, below-drop, below-take}
use Rattle.ber_reals.proofs.Powers.{Is, minus_is, add_is, one}

pub part-below : (s : List ℕ) (at n : ℕ) → ((i : ℕ) → get_or s i 0 < 256) → Below 256 (take n (drop at s))
part-below s at n bytes = below-take 256 n (drop at s) (below-drop 256 at s (below_all 256 s bytes))

module _ (s : List ℕ) (at e : ℕ) (bytes : (i : ℕ) → get_or s i 0 < 256) (within : at + e ≤ length s) where
  abbrev part : List ℕ
  part = take e (drop at s)

  pub part-lt : natural part < 256 ^ e
  part-lt = subst (λ (n : ℕ). natural part < 256 ^ n) (length_part s at e within) (natural-lt 256 part (part-below s at e bytes))

  module _ (scale : ℕ) (some : 0 < e) (few : e ≤ 3) where
    pub worth-le : 256 ^ e ≤ 16777216
    worth-le = pow-le-pow_right {n = 256} (omega arith) few

    -- z is the exponent without the scale
    raised : (z : ℤ) (w : ℕ) → Is z (natural part) w → w ≤ 16777216 → minus (16777216 + scale + natural part - w) 16777216 ≡ z +ℤ pos scale
    raised z w h l =
        let m = minus_is (16777216 + scale + natural part - w) 16777216 in
        one (minus (16777216 + scale + natural part - w) 16777216) (z +ℤ pos scale) (natural part + scale) w (omega arith) (add_is z scale (natural part) w h)

    pub exponent-low : get_or s at 0 < 128 → minus (16777216 + scale + natural part) 16777216 ≡ signed part +ℤ pos scale
    exponent-low h =
        let g : signed part ≡ pos (natural part) = signed_low (part-cons s at e some within) h in
        let z : 16777216 + scale + natural part - 0 ≡ 16777216 + scale + natural part = omega arith in
        ap (λ (n : ℕ). minus n 16777216) (sym z) ∙ raised (pos (natural part)) 0 refl (omega arith) ∙ ap (λ (n : ℤ). n +ℤ pos scale) (sym g)

    pub exponent-high : 128 ≤ get_or s at 0 → minus (16777216 + scale + natural part - 256 ^ e) 16777216 ≡ signed part +ℤ pos scale
    exponent-high h =
        let g : signed part ≡ negsuc (256 ^ e - suc (natural part)) = signed_high (part-cons s at e some within) h
        ∙ ap (λ (n : ℕ). negsuc (256 ^ n - suc (natural part))) (length_part s at e within) in
        let l = part-lt in
        raised (negsuc (256 ^ e - suc (natural part))) (256 ^ e) (omega arith) worth-le ∙ ap (λ (n : ℤ). n +ℤ pos scale) (sym g)
