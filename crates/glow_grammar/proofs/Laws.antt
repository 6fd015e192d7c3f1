-- One law for each answer of the definitions by which a number or a name fits, at plain variables.
use Prim.Native.Nat.{ℕ, zero, suc, ◌+◌, ◌-◌, ◌≤◌, ◌<◌, min}
use mathlib.Core.Path.{◌≡◌, refl, sym, ap, ◌∙◌}
use mathlib.Core.List.{List, [], ◌∷◌}
use mathlib.Core.Bool.{Bool, true, false, not, ◌||◌}
use Rattle.std.specs.List.{list_any}
use mathlib.Core.Logic.{◌⊎◌, ⊎_elim}
use native.Mathlib.Omega.{arith}
use borrow.Author.Tests.{eqb-true, le-leb, lt-leb, eq-eqb, ne_eqb}
use lib.ListN.{length, take, drop, get_or, drop_of_length-le, length-drop}
use lib.Seq.{take_all}
use lib.Dec.{leb, eqb}
use Rattle.std.proofs.lemmas.List.{take_min}
use lib.IntN.{ℤ, pos, negsuc}
use mir.Syntax.{w64}
use mir.Val.{SFits}
use Rattle.base_choices.specs.Choices.{pick, both}
use Rattle.ber_integers.proofs.Radix.{lt-or-le}
use Rattle.glow_rows.specs.Cell.{word_of}
use Rattle.glow_grammar.specs.Leaf.{least, most, in_range, word_in, is_letter, no_slash, is_name}

-- ranges
module _ (what : ℕ) where
  pub least_step : what ≡ 5 → least what ≡ 1
  unfolding least
  least_step h = rw h

  pub least_other : (what ≡ 5 → ⊥) → least what ≡ 0
  unfolding least
  least_other h = simp (ne_eqb _ _ h)

  pub most-3 : what ≡ 10 → most what ≡ 3
  unfolding most
  most-3 h = rw h

  pub most-2 : what ≡ 11 → most what ≡ 2
  unfolding most
  most-2 h = rw h

  pub most-1 : what ≡ 12 → most what ≡ 1
  unfolding most
  most-1 h = rw h

  pub most_other : (what ≡ 10 → ⊥) → (what ≡ 11 → ⊥) → (what ≡ 12 → ⊥) → most what ≡ 2147483647
  unfolding most
  most_other a b c = simp (ne_eqb _ _ a, ne_eqb _ _ b, ne_eqb _ _ c)

  pub most-le : most what ≤ 2147483647
  unfolding most
  most-le = go (eqb what 10) (eqb what 11) (eqb what 12)
    where
      go : (a b c : Bool) → pick a 3 (pick b 2 (pick c 1 2147483647)) ≤ 2147483647
      go true b c = omega arith
      go false true c = omega arith
      go false false true = omega arith
      go false false false = omega arith

  module _ (w : ℕ) where
    pub word_low : what ≡ 9 → w ≤ 2147483647 → word_in what w ≡ true
    unfolding word_in
    word_low h k = simp (eq-eqb _ _ h, le-leb _ _ k)

    pub word-high : what ≡ 9 → 2147483647 < w → word_in what w ≡ leb 18446744071562067968 w
    unfolding word_in
    word-high h k = simp (eq-eqb _ _ h, lt-leb _ _ k)

    pub word-under : (what ≡ 9 → ⊥) → w < least what → word_in what w ≡ false
    unfolding word_in
    word-under h k = simp (ne_eqb _ _ h, lt-leb _ _ k)

    pub word-most : (what ≡ 9 → ⊥) → least what ≤ w → word_in what w ≡ leb w (most what)
    unfolding word_in
    word-most h k = simp (ne_eqb _ _ h, le-leb _ _ k)

-- a range holds of a number and of its word alike
both_false : (b : Bool) → both b false ≡ false
both_false true = refl
both_false false = refl

word-pos : (n : ℕ) → n < 9223372036854775808 → word_in 9 n ≡ in_range 9 (pos n)
unfolding word_in in_range least most
word-pos n h =
    let z : 0 ≤ n = omega arith in
    ⊎_elim
    (λ (k : 2147483647 < n). let l : n < 18446744071562067968 = omega arith in simp (lt-leb _ _ k, lt-leb _ _ l, le-leb _ _ z))
    (λ (k : n ≤ 2147483647). simp (le-leb _ _ k, le-leb _ _ z))
    (lt-or-le 2147483647 n)

word-neg : (n w : ℕ) → w + n ≡ 18446744073709551615 → n < 9223372036854775808 → word_in 9 w ≡ in_range 9 (negsuc n)
unfolding word_in in_range
word-neg n w e h =
    let z : 2147483647 < w = omega arith in
    ⊎_elim
    (λ (k : 2147483647 < n). let l : w < 18446744071562067968 = omega arith in simp (lt-leb _ _ k, lt-leb _ _ l, lt-leb _ _ z))
    (λ (k : n ≤ 2147483647). let l : 18446744071562067968 ≤ w = omega arith in simp (le-leb _ _ k, le-leb _ _ l, lt-leb _ _ z))
    (lt-or-le 2147483647 n)

word-past : (what n w : ℕ) → eqb what 9 ≡ false → 2147483647 < w → word_in what w ≡ in_range what (negsuc n)
unfolding word_in in_range
word-past what n w e h = let k : most what < w = omega (arith, most-le what) in simp (e, lt-leb _ _ k) (both_false (leb (least what) w))

word-plain : (what n : ℕ) → eqb what 9 ≡ false → word_in what n ≡ in_range what (pos n)
unfolding word_in in_range
word-plain what n e = simp e

pub word-range : (what : ℕ) (z : ℤ) → SFits w64 z → word_in what (word_of z) ≡ in_range what z
word-range what (pos n) h = go (eqb what 9) refl
  where
    fits : n < 9223372036854775808
    fits = h.sfits

    go : (b : Bool) → eqb what 9 ≡ b → word_in what n ≡ in_range what (pos n)
    go true e = let q = eqb-true what 9 e in ap (λ (i : ℕ). word_in i n) q ∙ word-pos n fits ∙ ap (λ (i : ℕ). in_range i (pos n)) (sym q)
    go false e = word-plain what n e
word-range what (negsuc n) h = go (eqb what 9) refl
  where
    fits : n < 9223372036854775808
    fits = h.sfits

    go : (b : Bool) → eqb what 9 ≡ b → word_in what (18446744073709551615 - n) ≡ in_range what (negsuc n)
    go true e =
        let q = eqb-true what 9 e in
        let k : 18446744073709551615 - n + n ≡ 18446744073709551615 = omega arith in
        ap (λ (i : ℕ). word_in i (18446744073709551615 - n)) q
        ∙ word-neg n (18446744073709551615 - n) k fits
        ∙ ap (λ (i : ℕ). in_range i (negsuc n)) (sym q)
    go false e = let k : 2147483647 < 18446744073709551615 - n = omega arith in word-past what n (18446744073709551615 - n) e k

-- identifiers
module _ (b : ℕ) where
  pub letter_in : ((65 ≤ b) × (b ≤ 90)) ⊎ ((97 ≤ b) × (b ≤ 122)) → is_letter b ≡ true
  unfolding is_letter
  letter_in =
      ⊎_elim
      (λ (h : (65 ≤ b) × (b ≤ 90)). let l : b < 97 = omega arith in simp (lt-leb _ _ l, le-leb _ _ h.0, le-leb _ _ h.1))
      (λ (h : (97 ≤ b) × (b ≤ 122)). simp (le-leb _ _ h.0, le-leb _ _ h.1))

  pub letter-out : ((b < 65) ⊎ (90 < b)) × ((b < 97) ⊎ (122 < b)) → is_letter b ≡ eqb b 95
  unfolding is_letter
  letter-out h =
      ⊎_elim
      (λ (l : b < 97).
      ⊎_elim (λ (k : b < 65). let d : b ≡ 95 → ⊥ = λ e. omega arith in simp (lt-leb _ _ l, lt-leb _ _ k, ne_eqb _ _ d))
      (λ (k : 90 < b). let m : 65 ≤ b = omega arith in simp (lt-leb _ _ l, le-leb _ _ m, lt-leb _ _ k)) h.0)
      (λ (l : 122 < b).
      let m : 97 ≤ b = omega arith in
      let d : b ≡ 95 → ⊥ = λ e. omega arith in
      simp (le-leb _ _ m, lt-leb _ _ l, ne_eqb _ _ d))
      h.1

pub slash-any : (bs : List ℕ) → no_slash bs ≡ not (list_any (λ (y : ℕ). eqb y 47) bs)
unfolding no_slash
slash-any [] = refl
slash-any (b ∷ bs) = go (eqb b 47) _ _ (slash-any bs)
  where
    go : (t : Bool) (n a : Bool) → n ≡ not a → pick t false n ≡ not (t || a)
    go true n a e = refl
    go false n a e = e

-- a text, as far as the message holds it
pub name-cut : (s : List ℕ) (start len m : ℕ) → m ≡ min len (length s - start)
    → take m (take (length s - start) (drop start s)) ≡ take len (drop start s)
name-cut s start len m e =
    let l = length-drop start s in
    let d : m ≡ min len (length (drop start s)) = e ∙ ap (min len) (sym l) in
    ap (take m) (take_all (length s - start) (drop start s) (omega arith)) ∙ rw d (take_min len (drop start s))

pub name-none : (bs : List ℕ) → length bs < 1 → is_name bs ≡ false
unfolding is_name
name-none [] e = refl
name-none (b ∷ bs) e = absurd (omega (arith, e))

pub name-end : (s : List ℕ) (i n : ℕ) → length s ≤ i → is_name (take n (drop i s)) ≡ false
unfolding is_name
name-end s i zero h = refl
name-end s i (suc n) h = rw (drop_of_length-le s h)

pub name-letter : (bs : List ℕ) → is_letter (get_or bs 0 0) ≡ false → is_name bs ≡ false
unfolding is_name
name-letter [] e = refl
name-letter (b ∷ bs) e = rw e

pub name-rest : (bs : List ℕ) → 1 ≤ length bs → is_letter (get_or bs 0 0) ≡ true → is_name bs ≡ no_slash bs
unfolding is_name
name-rest [] h e = absurd (omega (arith, h))
name-rest (b ∷ bs) h e = rw e
