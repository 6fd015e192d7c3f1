-- Laws for the functions of this crate, at plain variables.
use Prim.Native.Nat.{ℕ, ◌+◌, ◌*◌, ◌/◌, ◌%◌, ◌≤◌, ◌<◌}
use mathlib.Core.Path.{◌≡◌, refl, ◌∙◌}
use mathlib.Core.List.{List, [], ◌∷◌, ◌++◌}
use mathlib.Core.Bool.{Bool, true, false}
use native.Mathlib.Numerals.{add-one}
use borrow.Author.Tests.{eq-eqb, ne_eqb}
use lib.ListN.{length, drop, get_or, drop_of_length-le}
use lib.Seq.{drop-cons}
use lib.Dec.{eqb}
use Rattle.base_choices.specs.Choices.{pick}
use Rattle.base_hex.specs.Digits.{digit_of, glyph_of}
use Rattle.sheet_rules.specs.Sheet.{broken, breaks}
use Rattle.sheet_rules.specs.Lines.{Stream, bad, stream, push, Come, fresh, pairs, half, lines_from, lines_in, is_bad}
use Rattle.sheet_rules.specs.Steps.{step_line, bad_from, comes}

-- ---- a byte's digits

module _ (b : ℕ) where
  pub broken-last : b ≡ 255 → broken b ≡ (glyph_of (b / 16) ∷ []) ++ ((glyph_of (b % 16) ∷ []) ++ (10 ∷ []))
  unfolding broken
  broken-last e = simp (eq-eqb _ _ e)

  pub broken-inner : (b ≡ 255 → ⊥) → broken b ≡ (glyph_of (b / 16) ∷ []) ++ (glyph_of (b % 16) ∷ [])
  unfolding broken
  broken-inner e = simp (ne_eqb _ _ e)

module _ (s : List ℕ) (i : ℕ) where
  pub breaks-more : i < length s → breaks (drop i s) ≡ broken (get_or s i 0) ++ breaks (drop (i + 1) s)
  unfolding breaks
  breaks-more h = rw (drop-cons s i 0 h, add-one i)

  pub breaks-end : length s ≤ i → breaks (drop i s) ≡ []
  unfolding breaks
  breaks-end h = rw (drop_of_length-le s h)

-- ---- lines

push-bad : (b : ℕ) (x : Stream) → is_bad (push b x) ≡ is_bad x
push-bad b bad = refl
push-bad b (stream bs) = refl

-- the lines are bad exactly if the numbers say so
pub bad-from : (c : Come) (bs : List ℕ) → is_bad (lines_from c bs) ≡ bad_from (comes c) bs
unfolding lines_from bad_from step_line
bad-from fresh [] = refl
bad-from pairs [] = refl
bad-from (half d) [] = refl
bad-from fresh (b ∷ bs) = go (eqb (digit_of b) 16) (bad-from (half (digit_of b)) bs)
  where
    go : (u : Bool) → is_bad (lines_from (half (digit_of b)) bs) ≡ bad_from 2 bs
        → is_bad (pick u bad (lines_from (half (digit_of b)) bs)) ≡ pick (eqb (pick u 3 2) 3) true (bad_from (pick u 3 2) bs)
    go true r = refl
    go false r = r
bad-from pairs (b ∷ bs) = go (eqb b 10) (eqb (digit_of b) 16) (bad-from fresh bs) (bad-from (half (digit_of b)) bs)
  where
    go : (v u : Bool) → is_bad (lines_from fresh bs) ≡ bad_from 0 bs → is_bad (lines_from (half (digit_of b)) bs) ≡ bad_from 2 bs
        → is_bad (pick v (lines_from fresh bs) (pick u bad (lines_from (half (digit_of b)) bs)))
        ≡ pick (eqb (pick v 0 (pick u 3 2)) 3) true (bad_from (pick v 0 (pick u 3 2)) bs)
    go true u q r = q
    go false true q r = refl
    go false false q r = r
bad-from (half d) (b ∷ bs) = go (eqb (digit_of b) 16) (bad-from pairs bs)
  where
    go : (u : Bool) → is_bad (lines_from pairs bs) ≡ bad_from 1 bs
        → is_bad (pick u bad (push (d * 16 + digit_of b) (lines_from pairs bs))) ≡ pick (eqb (pick u 3 1) 3) true (bad_from (pick u 3 1) bs)
    go true r = refl
    go false r = push-bad (d * 16 + digit_of b) (lines_from pairs bs) ∙ r

pub bad-start : (bs : List ℕ) → is_bad (lines_in bs) ≡ bad_from 0 bs
bad-start bs = bad-from fresh bs

module _ (s : List ℕ) (i k n : ℕ) (h : i < length s) (e : step_line k (get_or s i 0) ≡ n) where
  pub bad-yes : n ≡ 3 → bad_from k (drop i s) ≡ true
  unfolding bad_from
  bad-yes q = rw (drop-cons s i 0 h, e, q) refl

  pub bad-on : (n ≡ 3 → ⊥) → bad_from k (drop i s) ≡ bad_from n (drop (i + 1) s)
  unfolding bad_from
  bad-on q = rw (drop-cons s i 0 h, e, ne_eqb _ _ q, add-one i) refl

pub bad-end : (s : List ℕ) (i k : ℕ) → length s ≤ i → bad_from k (drop i s) ≡ eqb k 2
unfolding bad_from
bad-end s i k h = rw (drop_of_length-le s h) refl
