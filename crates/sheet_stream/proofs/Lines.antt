-- Where no line is bad, the digits' bytes are the lines'.
use Prim.Native.Nat.{ℕ, ◌+◌, ◌*◌, ◌≤◌, ◌<◌}
use mathlib.Core.Path.{◌≡◌, refl, sym, ap, ◌∙◌}
use mathlib.Core.List.{List, [], ◌∷◌}
use mathlib.Core.Bool.{Bool, true, false, true≢false}
use native.Mathlib.Numerals.{add-one}
use borrow.Author.Tests.{eqb-true, eq-eqb, ne_eqb}
use lib.ListN.{length, drop, get_or, drop_of_length-le}
use lib.Seq.{drop-cons}
use lib.Dec.{eqb}
use Rattle.std.specs.Prelude.{Option, None, Some}
use Rattle.base_choices.specs.Choices.{pick}
use Rattle.base_hex.specs.Digits.{digit_of}
use Rattle.sheet_rules.specs.Lines.{Stream, bad, stream, push, Come, fresh, pairs, half, lines_from, lines_in}
use Rattle.sheet_rules.specs.Lines.{is_bad}
use Rattle.sheet_stream.specs.Steps.{bytes_from}

push-bad : (b : ℕ) (x : Stream) → is_bad (push b x) ≡ is_bad x
push-bad b bad = refl
push-bad b (stream bs) = refl

-- the first digit of a pair, or 16
abbrev first_of : Come → ℕ
first_of fresh = 16
first_of pairs = 16
first_of (half d) = d

abbrev Right : Come → Type 0
Right fresh = Unit {0}
Right pairs = Unit {0}
Right (half d) = eqb d 16 ≡ false

-- 0A is no digit
ten : (b : ℕ) → eqb b 10 ≡ true → eqb (digit_of b) 16 ≡ true
unfolding digit_of
ten b p = ap (λ (x : ℕ). eqb (digit_of x) 16) (eqb-true b 10 p)

lines-from : (c : Come) (bs : List ℕ) → Right c → is_bad (lines_from c bs) ≡ false → lines_from c bs ≡ stream (bytes_from (first_of c) bs)
unfolding lines_from bytes_from
lines-from fresh [] r h = refl
lines-from pairs [] r h = refl
lines-from (half d) [] r h = absurd (true≢false h)
lines-from fresh (b ∷ bs) r h = go (eqb (digit_of b) 16) (lines-from (half (digit_of b)) bs) refl h
  where
    go : (u : Bool)
        → (eqb (digit_of b) 16 ≡ false → is_bad (lines_from (half (digit_of b)) bs) ≡ false → lines_from (half (digit_of b)) bs ≡ stream (bytes_from (digit_of b) bs))
        → eqb (digit_of b) 16 ≡ u → is_bad (pick u bad (lines_from (half (digit_of b)) bs)) ≡ false
        → pick u bad (lines_from (half (digit_of b)) bs) ≡ stream (pick u (bytes_from 16 bs) (bytes_from (digit_of b) bs))
    go true f q g = absurd (true≢false g)
    go false f q g = f q g
lines-from pairs (b ∷ bs) r h = go (eqb b 10) (eqb (digit_of b) 16) (lines-from fresh bs tt) (lines-from (half (digit_of b)) bs) refl refl h
  where
    go : (v u : Bool) → (is_bad (lines_from fresh bs) ≡ false → lines_from fresh bs ≡ stream (bytes_from 16 bs))
        → (eqb (digit_of b) 16 ≡ false → is_bad (lines_from (half (digit_of b)) bs) ≡ false → lines_from (half (digit_of b)) bs ≡ stream (bytes_from (digit_of b) bs))
        → eqb b 10 ≡ v → eqb (digit_of b) 16 ≡ u → is_bad (pick v (lines_from fresh bs) (pick u bad (lines_from (half (digit_of b)) bs))) ≡ false
        → pick v (lines_from fresh bs) (pick u bad (lines_from (half (digit_of b)) bs)) ≡ stream (pick u (bytes_from 16 bs) (bytes_from (digit_of b) bs))
    go true true e f p q g = e g
    go true false e f p q g = absurd (true≢false (sym (ten b p) ∙ q))
    go false true e f p q g = absurd (true≢false g)
    go false false e f p q g = f q g
lines-from (half d) (b ∷ bs) r h = go (eqb (digit_of b) 16) (lines-from pairs bs tt) h
  where
    go : (u : Bool) → (is_bad (lines_from pairs bs) ≡ false → lines_from pairs bs ≡ stream (bytes_from 16 bs))
        → is_bad (pick u bad (push (d * 16 + digit_of b) (lines_from pairs bs))) ≡ false
        → pick u bad (push (d * 16 + digit_of b) (lines_from pairs bs))
        ≡ stream (pick u (bytes_from d bs) (pick (eqb d 16) (bytes_from (digit_of b) bs) ((d * 16 + digit_of b) ∷ bytes_from 16 bs)))
    go true f g = absurd (true≢false g)
    go false f g = rw r (ap (push (d * 16 + digit_of b)) (f (sym (push-bad (d * 16 + digit_of b) (lines_from pairs bs)) ∙ g)))

pub lines-bytes : (text : List ℕ) → is_bad (lines_in text) ≡ false → lines_in text ≡ stream (bytes_from 16 text)
lines-bytes text h = lines-from fresh text tt h

pub lines-bad : (x : Stream) → is_bad x ≡ true → x ≡ bad
lines-bad bad h = refl
lines-bad (stream bs) h = absurd (true≢false (sym h))

-- a first digit as a number, 16 if there is none
abbrev pub number : Option ℕ → ℕ
number None = 16
number (Some h) = h

-- a turn of the loop
module _ (s : List ℕ) (i f d : ℕ) (h : i < length s) (e : digit_of (get_or s i 0) ≡ d) where
  pub bytes-over : d ≡ 16 → bytes_from f (drop i s) ≡ bytes_from f (drop (i + 1) s)
  unfolding bytes_from
  bytes-over q = rw (drop-cons s i 0 h, e, eq-eqb _ _ q, add-one i) refl

  pub bytes-first : (d ≡ 16 → ⊥) → f ≡ 16 → bytes_from f (drop i s) ≡ bytes_from d (drop (i + 1) s)
  unfolding bytes_from
  bytes-first q g = rw (drop-cons s i 0 h, e, ne_eqb _ _ q, eq-eqb _ _ g, add-one i) refl

  pub bytes_pair : (d ≡ 16 → ⊥) → (f ≡ 16 → ⊥) → bytes_from f (drop i s) ≡ (f * 16 + d) ∷ bytes_from 16 (drop (i + 1) s)
  unfolding bytes_from
  bytes_pair q g = rw (drop-cons s i 0 h, e, ne_eqb _ _ q, ne_eqb _ _ g, add-one i) refl

pub bytes-end : (s : List ℕ) (i f : ℕ) → length s ≤ i → bytes_from f (drop i s) ≡ []
unfolding bytes_from
bytes-end s i f h = rw (drop_of_length-le s h) refl
