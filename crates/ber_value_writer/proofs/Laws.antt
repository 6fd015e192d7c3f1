-- Laws of what is written, at plain variables.
use Prim.Native.Nat.{ℕ, suc, ◌+◌, ◌-◌, ◌≤◌, ◌<◌}
use mathlib.Core.Path.{◌≡◌, refl, sym, ap, ◌∙◌}
use mathlib.Core.List.{List, [], ◌∷◌}
use native.Mathlib.Omega.{arith}
use borrow.Author.Tests.{le-leb, lt-leb}
use lib.ListN.{length, take, drop, get_or}
use lib.Seq.{drop-cons, get_or-take, get_or-drop, drop-length}
use lib.Ieee.{Float}
use Rattle.ber_integers.specs.Digits.{put, unchanged}
use Rattle.ber_integers.proofs.Laws.{length_part}
use Rattle.ber_reals.specs.Write.{octets, form, put_form, write_at}
use Rattle.ber_values.specs.Write.{put_part}

-- octets of one slice put into another
module _ (src : List ℕ) (start len : ℕ) (out : List ℕ) (at : ℕ) where
  pub part_out : length src < start + len → put_part src start len out at ≡ unchanged out
  unfolding put_part
  part_out h = simp (lt-leb _ _ h)

  pub part_in : start + len ≤ length src → put_part src start len out at ≡ put out at (take len (drop start src))
  unfolding put_part
  part_in h = simp (le-leb _ _ h)

pub write-form : (out : List ℕ) (at : ℕ) (x : Float) → write_at out at x ≡ put_form out at (form x)
unfolding write_at
write-form out at x = refl

pub one-short : (b : ℕ) (bs : List ℕ) → octets (b ∷ []) ≡ octets bs → length bs < 128
one-short b bs e = let f : b ∷ [] ≡ bs = cc in let m : length bs ≡ 1 = ap length (sym f) in omega arith

-- the octets of a part from i on, one earlier
pub part-back : (src : List ℕ) (start len i : ℕ) → start + len ≤ length src → 0 < i → i ≤ len
    → drop (i - 1) (take len (drop start src)) ≡ get_or src (start + (i - 1)) 0 ∷ drop i (take len (drop start src))
part-back src start len i w h k =
    let e : suc (i - 1) ≡ i = omega arith in
    let l = length_part src start len w in
    let j : i - 1 < length (take len (drop start src)) = omega arith in
    let m : i - 1 < len = omega arith in
    drop-cons (take len (drop start src)) (i - 1) 0 j ∙ rw (e, get_or-take len (drop start src) (i - 1) 0 m, get_or-drop start src (i - 1) 0)

pub part-last : (src : List ℕ) (start len : ℕ) → start + len ≤ length src → drop len (take len (drop start src)) ≡ []
part-last src start len w =
    let l = length_part src start len w in
    ap (λ (i : ℕ). drop i (take len (drop start src))) (sym l) ∙ drop-length (take len (drop start src))
