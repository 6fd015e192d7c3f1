-- One law for each answer of `put_tag` and `put_length`, and groups of seven bits as they are put, at plain variables.
use Prim.Native.Nat.{ℕ, zero, suc, ◌+◌, ◌-◌, ◌*◌, ◌/◌, ◌%◌, ◌≤◌, ◌<◌}
use mathlib.Core.Path.{◌≡◌, refl, ap}
use mathlib.Core.List.{List, [], ◌∷◌, ◌++◌, append_assoc}
use mathlib.Core.Bool.{Bool}
use native.Mathlib.Omega.{arith}
use borrow.Author.Tests.{le-leb, lt-leb, lt-ltb, le-ltb}
use lib.ListN.{length, take, drop, set}
use lib.Seq.{take-set-le, drop-set-lt, set_split}
use Rattle.ber_integers.specs.Digits.{digits, count, put, unchanged}
use Rattle.ber_tags.specs.Write.{marked, septets, bit, tag_octets, put_tag, length_octets, put_length}

module _ (out : List ℕ) (at class : ℕ) (c : Bool) (number : ℕ) where
  pub tag-class : 3 < class → put_tag out at class c number ≡ unchanged out
  unfolding put_tag
  tag-class h = simp (lt-leb _ _ h)

  pub tag-over : class ≤ 3 → 268435455 < number → put_tag out at class c number ≡ unchanged out
  unfolding put_tag
  tag-over h k = simp (le-leb _ _ h, lt-leb _ _ k)

  pub tag-short : class ≤ 3 → number < 31 → put_tag out at class c number ≡ put out at ((class * 64 + bit c + number) ∷ [])
  unfolding put_tag tag_octets
  tag-short h k = let l : number ≤ 268435455 = omega arith in simp (le-leb _ _ h, le-leb _ _ l, lt-ltb _ _ k)

  pub tag-long : class ≤ 3 → number ≤ 268435455 → 31 ≤ number → put_tag out at class c number ≡ put out at ((class * 64 + bit c + 31) ∷ septets number)
  unfolding put_tag tag_octets
  tag-long h l k = simp (le-leb _ _ h, le-leb _ _ l, le-ltb _ _ k)

module _ (out : List ℕ) (at n : ℕ) where
  pub put-length-over : 4294967295 < n → put_length out at n ≡ unchanged out
  unfolding put_length
  put-length-over h = simp (lt-leb _ _ h)

  pub put-length-is : n ≤ 4294967295 → put_length out at n ≡ put out at (length_octets n)
  unfolding put_length
  put-length-is h = simp (le-leb _ _ h)

  pub put-length-short : n < 128 → put_length out at n ≡ put out at (n ∷ [])
  unfolding put_length length_octets
  put-length-short h = let l : n ≤ 4294967295 = omega arith in simp (le-leb _ _ l, lt-ltb _ _ h)

  pub put-length-long : n ≤ 4294967295 → 128 ≤ n → put_length out at n ≡ put out at ((128 + count 256 n) ∷ digits 256 (count 256 n) n)
  unfolding put_length length_octets
  put-length-long l h = simp (le-leb _ _ l, le-ltb _ _ h)

-- groups of seven bits, from the last to the first
pub marked_append : (xs ys : List ℕ) → marked (xs ++ ys) ≡ marked xs ++ marked ys
marked_append [] ys = refl
marked_append (x ∷ xs) ys = ap (λ (l : List ℕ). (128 + x) ∷ l) (marked_append xs ys)

pub septets-start : (n v : ℕ) → n ≡ count 128 (v / 128) → marked (digits 128 n (v / 128)) ++ ((v % 128) ∷ []) ≡ septets v
unfolding septets
septets-start n v e = rw e

pub septets-step : (i r : ℕ) (tail : List ℕ) → 0 < i → marked (digits 128 i r) ++ tail ≡ marked (digits 128 (i - 1) (r / 128)) ++ ((128 + r % 128) ∷ tail)
unfolding digits
septets-step zero r tail h = absurd (omega arith)
septets-step (suc j) r tail h =
    let e : suc j - 1 ≡ j = omega arith in
    rw (e, marked_append (digits 128 j (r / 128)) ((r % 128) ∷ []), append_assoc (marked (digits 128 j (r / 128))) ((128 + r % 128) ∷ []) tail)

pub septets-done : (i r : ℕ) (tail : List ℕ) → i ≡ 0 → tail ≡ marked (digits 128 i r) ++ tail
unfolding digits
septets-done zero r tail h = refl
septets-done (suc i) r tail h = absurd (omega arith)

-- the last octet is put first
module _ (l : List ℕ) (i x : ℕ) where
  pub first-there : i < length l → set l i x ≡ take i (set l i x) ++ ((x ∷ []) ++ drop (i + 1) (set l i x))
  first-there h =
      let e : i + 1 ≡ suc i = omega arith in
      let k : i < suc i = omega arith in
      let t : i ≤ i = omega arith in
      rw (e, take-set-le i l i x t, drop-set-lt (suc i) l i x k) (set_split l i x h)

  pub first-take : (at : ℕ) → at ≤ i → take at (set l i x) ≡ take at l
  first-take at h = take-set-le at l i x h

  pub first-drop : drop (i + 1) (set l i x) ≡ drop (i + 1) l
  first-drop = drop-set-lt (i + 1) l i x (omega arith)
