-- Laws of digits, at plain variables.
use Prim.Native.Nat.{ℕ, ◌+◌, ◌/◌, ◌%◌, ◌≤◌, ◌<◌}
use mathlib.Core.Path.{◌≡◌}
use mathlib.Core.Bool.{Bool, true, false}
use mathlib.Core.List.{List, [], ◌∷◌, ◌++◌}
use native.Mathlib.Numerals.{add-one}
use native.Mathlib.Omega.{arith}
use borrow.Author.Tests.{lt-ltb, le-ltb, ltb-true, ltb-false}
use lib.Dec.{ltb}
use lib.ListN.{length, drop, get_or, drop_of_length-le}
use lib.Seq.{drop-cons}
use Rattle.base_choices.specs.Choices.{pick}
use Rattle.base_choices.proofs.Laws.{pick-by}
use Rattle.base_hex.specs.Digits.{digit_of, glyph_of, hex_text}

-- ---- a digit read

-- a digit, or 16
pub digit-small : (b : ℕ) → digit_of b ≤ 16
unfolding digit_of
digit-small b =
    small (ltb b 48) (λ q. omega arith)
    (λ q. small (ltb b 58) (λ r. omega (arith, ltb-true b 58 r))
    (λ r. small (ltb b 65) (λ q. omega arith)
    (λ q. small (ltb b 71) (λ r. omega (arith, ltb-true b 71 r))
    (λ r. small (ltb b 97) (λ q. omega arith)
    (λ q. small (ltb b 103) (λ r. omega (arith, ltb-true b 103 r))
    (λ r. omega arith))))))
  where
    small : {x y : ℕ} (u : Bool) → (u ≡ true → x ≤ 16) → (u ≡ false → y ≤ 16) → pick u x y ≤ 16
    small = pick-by (λ n. n ≤ 16)

-- ---- digits written

-- a digit's glyph is read as the digit
pub glyph-read : (d : ℕ) → d < 16 → digit_of (glyph_of d) ≡ d
unfolding digit_of
glyph-read d h =
    pick-by (λ n. digit_of n ≡ d) (ltb d 10)
    (λ q.
    let k = ltb-true d 10 q in
    let a : 48 ≤ 48 + d = omega arith in
    let b : 48 + d < 58 = omega arith in
    rw (le-ltb _ _ a, lt-ltb _ _ b) (omega arith))
    (λ q.
    let k = ltb-false d 10 q in
    let a : 48 ≤ 55 + d = omega arith in
    let b : 58 ≤ 55 + d = omega arith in
    let c : 65 ≤ 55 + d = omega arith in
    let f : 55 + d < 71 = omega arith in
    rw (le-ltb _ _ a, le-ltb _ _ b, le-ltb _ _ c, lt-ltb _ _ f) (omega arith))

-- the rest of a text
module _ (s : List ℕ) (i : ℕ) where
  pub hex-more : i < length s
      → hex_text (drop i s) ≡ (glyph_of (get_or s i 0 / 16) ∷ []) ++ ((glyph_of (get_or s i 0 % 16) ∷ []) ++ hex_text (drop (i + 1) s))
  unfolding hex_text
  hex-more h = rw (drop-cons s i 0 h, add-one i)

  pub hex-end : length s ≤ i → hex_text (drop i s) ≡ []
  unfolding hex_text
  hex-end h = rw (drop_of_length-le s h)
