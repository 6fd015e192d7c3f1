-- What a writer leaves in a lent output: the octets stand where they were put.
use Rattle.std.specs.Prelude.{Option, Some, None}
use Prim.Native.Nat.{ℕ, ◌+◌, ◌-◌, ◌≤◌, ◌<◌}
use mathlib.Core.Path.{◌≡◌, refl, sym, ap, ◌∙◌}
use mathlib.Core.List.{List, [], ◌∷◌, ◌++◌, append_assoc}
use mathlib.Core.Logic.{◌⊎◌, ⊎_elim}
use native.Mathlib.Omega.{arith}
use lib.ListN.{length, set, take, drop, length-append, length-take, length-drop}
use lib.Seq.{take_at, drop_at, length-take-le, take-append-le, take-take}
use lib.IntN.{ℤ}
use mir.Syntax.{w64}
use mir.Val.{SFits}
use Rattle.ber_integers.specs.Digits.{Put, put, outcome}
use Rattle.ber_integers.specs.Integer.{integer, integer_at, shortest}
use Rattle.ber_integers.proofs.Laws.{put-out, put_in, put_one, at_part}
use Rattle.ber_integers.proofs.Radix.{lt-or-le}
use Rattle.ber_integers.proofs.RoundTrip.{written_read}

module _ (out : List ℕ) (at : ℕ) (bs : List ℕ) (e : ℕ) (o : List ℕ) (done : put out at bs ≡ outcome (Some e) o) where
  pub put-fits : at + length bs ≤ length out
  put-fits =
      ⊎_elim
      (λ (h : length out < at + length bs).
      let c : None ≡ Some e = ap (λ (p : Put). p.answer) (sym (put-out out at bs h) ∙ done) in
      let z : ◌≡◌ {A = ℕ} 0 1 = cc in absurd (omega arith))
      (λ (h : at + length bs ≤ length out). h) (lt-or-le (length out) (at + length bs))

  pub put_next : e ≡ at + length bs
  put_next =
      let c : Some (at + length bs) ≡ Some e = ap (λ (p : Put). p.answer) (sym (put_in out at bs put-fits) ∙ done) in
      cc

  pub put-list : o ≡ take at out ++ (bs ++ drop (at + length bs) out)
  put-list = sym (ap (λ (p : Put). p.out) (sym (put_in out at bs put-fits) ∙ done))

  pub put-length : length o ≡ length out
  put-length =
      let f = put-fits in
      rw put-list (simp (length-append, length-take, length-drop) (omega arith))

  -- the octets stand at the position
  pub put-there : take (length bs) (drop at o) ≡ bs
  put-there =
      let f = put-fits in
      let l : length (take at out) ≡ at = length-take-le at out (omega arith) in
      ap (λ (x : List ℕ). take (length bs) (drop at x)) put-list
      ∙ ap (take (length bs)) (drop_at (take at out) (bs ++ drop (at + length bs) out) at l)
      ∙ take_at bs (drop (at + length bs) out) (length bs) refl

-- octets that did not go in
pub put-none : (out : List ℕ) (at : ℕ) (bs o : List ℕ) → put out at bs ≡ outcome None o → (length out < at + length bs) × (out ≡ o)
put-none out at bs o d =
    let h : length out < at + length bs =
    ⊎_elim (λ (h : length out < at + length bs). h)
    (λ (h : at + length bs ≤ length out).
    let c : Some (at + length bs) ≡ None = ap (λ (p : Put). p.answer) (sym (put_in out at bs h) ∙ d) in
    let z : ◌≡◌ {A = ℕ} 0 1 = cc in absurd (omega arith))
    (lt-or-le (length out) (at + length bs)) in
    (h, ap (λ (p : Put). p.out) (sym (put-out out at bs h) ∙ d))

-- what stands before octets that were put is put after them: all or nothing
module _ (out : List ℕ) (at : ℕ) (xs bs : List ℕ) where
  pub append-none : (o : List ℕ) → put out (at + length xs) bs ≡ outcome None o → put out at (xs ++ bs) ≡ outcome None o
  append-none o d =
      let n = put-none out (at + length xs) bs o d in
      let l = length-append xs bs in
      put-out out at (xs ++ bs) (omega arith) ∙ ap (λ (x : List ℕ). outcome None x) n.1

  module _ (e : ℕ) (o : List ℕ) (done : put out (at + length xs) bs ≡ outcome (Some e) o) where
    fits : at + length xs + length bs ≤ length out
    fits = put-fits out (at + length xs) bs e o done

    front : List ℕ
    front = take (at + length xs) out

    front_length : length front ≡ at + length xs
    unfolding front
    front_length = let f = fits in length-take-le (at + length xs) out (omega arith)

    rest : List ℕ
    rest = bs ++ drop (at + length xs + length bs) out

    whole : o ≡ front ++ rest
    unfolding front rest
    whole = put-list out (at + length xs) bs e o done

    take-front : take at o ≡ take at out
    unfolding front
    take-front =
        let l = front_length in
        ap (take at) whole ∙ take-append-le at front rest (omega arith) ∙ take-take at (at + length xs) out (omega arith)

    drop-front : drop (at + length xs) o ≡ rest
    drop-front = ap (drop (at + length xs)) whole ∙ drop_at front rest (at + length xs) front_length

    room : at + length xs ≤ length o
    room = let f = fits in let l = put-length out (at + length xs) bs e o done in omega arith

    append-first : put o at xs ≡ outcome (Some (at + length xs)) (take at out ++ (xs ++ rest))
    append-first = put_in o at xs room ∙ rw (take-front, drop-front)

    append-all : put out at (xs ++ bs) ≡ outcome (Some e) (take at out ++ (xs ++ rest))
    unfolding rest
    append-all =
        let f = fits in
        let l : length (xs ++ bs) ≡ length xs + length bs = length-append xs bs in
        let n : e ≡ at + length xs + length bs = put_next out (at + length xs) bs e o done in
        let k : at + length (xs ++ bs) ≡ at + length xs + length bs = omega arith in
        put_in out at (xs ++ bs) (omega arith) ∙ rw (k, sym n, append_assoc xs bs (drop e out))

    -- the octets before are put, and then all of them are there
    pub append-done : (r : Option ℕ) (o' : List ℕ) → put o at xs ≡ outcome r o'
        → (r ≡ Some (at + length xs)) × (put out at (xs ++ bs) ≡ outcome (Some e) o')
    append-done r o' d =
        let a : Some (at + length xs) ≡ r = ap (λ (p : Put). p.answer) (sym append-first ∙ d) in
        let b : take at out ++ (xs ++ rest) ≡ o' = ap (λ (p : Put). p.out) (sym append-first ∙ d) in
        (sym a, append-all ∙ ap (λ (x : List ℕ). outcome (Some e) x) b)

-- one octet before others
module _ (out : List ℕ) (at b : ℕ) (bs : List ℕ) where
  pub cons-none : (r : Option ℕ) (o : List ℕ) → put out (at + 1) bs ≡ outcome r o → r ≡ None
      → put out at (b ∷ bs) ≡ outcome None o
  cons-none r o d e = append-none out at (b ∷ []) bs o (rw e at d)

  pub cons-done : (r : Option ℕ) (e : ℕ) (o : List ℕ) → put out (at + 1) bs ≡ outcome r o → r ≡ Some e → at < length out
      → put out at (b ∷ bs) ≡ outcome (Some e) (set o at b)
  cons-done r e o d k h =
      let f : put out (at + 1) bs ≡ outcome (Some e) o = rw k at d in
      let l = put-length out (at + 1) bs e o f in
      (append-done out at (b ∷ []) bs e o f (Some (at + 1)) (set o at b) (put_one o at b (omega arith))).1

-- A number written into an output is read from it, with nothing left.
pub written-read-at : (out : List ℕ) (at : ℕ) (z : ℤ) (e : ℕ) (o : List ℕ) → SFits w64 z
    → put out at (shortest z) ≡ outcome (Some e) o → integer_at o at (e - at) ≡ Some z
written-read-at out at z e o h d =
    let f = put-fits out at (shortest z) e o d in
    let l = put-length out at (shortest z) e o d in
    let n = put_next out at (shortest z) e o d in
    let k : e - at ≡ length (shortest z) = omega arith in
    rw k (sym (at_part o at (length (shortest z)) (omega arith)) ∙ ap integer (put-there out at (shortest z) e o d) ∙ written_read z h)
