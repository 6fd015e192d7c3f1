-- What bytes put one after another add up to, at plain variables.
use Prim.Native.Nat.{ℕ, suc, ◌+◌, ◌≤◌}
use mathlib.Core.List.{List, [], ◌∷◌, ◌++◌}
use mathlib.Core.Path.{◌≡◌, refl, sym, ap, ◌∙◌}
use native.Mathlib.Omega.{arith}
use lib.ListN.{length, set, drop, length-append}
use lib.Seq.{sets, sets-eq, set_out}
use Rattle.base_output.specs.Output.{Wrote, wrote}

sets-append : (xs ys o : List ℕ) (i : ℕ) → sets o i (xs ++ ys) ≡ sets (sets o i xs) (i + length xs) ys
sets-append [] ys o i = let e : i ≡ i + 0 = omega arith in ap (λ (k : ℕ). sets o k ys) e
sets-append (x ∷ xs) ys o i =
    let e : suc i + length xs ≡ i + suc (length xs) = omega arith in
    sets-append xs ys (set o i x) (suc i) ∙ ap (λ (k : ℕ). sets (sets (set o i x) (suc i) xs) k ys) e

sets-none : (i : ℕ) (xs : List ℕ) → sets [] i xs ≡ []
sets-none i [] = refl
sets-none i (x ∷ xs) = sets-none (suc i) xs

module _ (o : List ℕ) (at : ℕ) where
  pub wrote_none : wrote o at [] ≡ record { next = at; output = o }
  unfolding wrote
  wrote_none = let e : at + 0 ≡ at = omega arith in ap (λ (k : ℕ). record { next = k; output = o }) e

  pub wrote-byte : (b : ℕ) → wrote o at (b ∷ []) ≡ record { next = at + 1; output = set o at b }
  unfolding wrote
  wrote-byte b = refl

  pub wrote-past : (b : ℕ) → length o ≤ at → wrote o at (b ∷ []) ≡ record { next = at + 1; output = o }
  unfolding wrote
  wrote-past b h = rw (set_out o at b h)

  -- bytes, and then more
  pub wrote_then : (xs ys : List ℕ) {w : Wrote} → wrote o at xs ≡ w → wrote o at (xs ++ ys) ≡ wrote w.output w.next ys
  unfolding wrote
  wrote_then xs ys e =
      let n : at + length (xs ++ ys) ≡ at + length xs + length ys = simp length-append (omega arith) in
      rw (← e, sets-append xs ys o at, n)

  -- where they end
  pub wrote-end : (xs : List ℕ) {w : Wrote} → wrote o at xs ≡ w → at + length xs ≡ w.next
  unfolding wrote
  wrote-end xs e = ap (λ (x : Wrote). x.next) e

-- from 0, where there is room
pub wrote-all : (o xs : List ℕ) {w : Wrote} → length xs ≤ length o → wrote o 0 xs ≡ w → xs ++ drop (length xs) o ≡ w.output
unfolding wrote
wrote-all o xs h e =
    let z : 0 + length xs ≡ length xs = omega arith in
    sym (sets-eq xs o 0 (omega arith) ∙ ap (λ (k : ℕ). xs ++ drop k o) z) ∙ ap (λ (w : Wrote). w.output) e

-- over an output of no bytes, writing counts
pub wrote_count : (xs : List ℕ) → wrote [] 0 xs ≡ record { next = length xs; output = [] }
unfolding wrote
wrote_count xs = let e : 0 + length xs ≡ length xs = omega arith in rw (sets-none 0 xs, e)
