-- The numbers of a relative identifier are those of its octets, wherever these stand.
use Prim.Native.Nat.{ℕ, zero, suc, ◌+◌, ◌-◌, ◌*◌, ◌%◌, ◌≤◌, ◌<◌}
use mathlib.Core.Path.{◌≡◌, refl, sym, ap, ◌∙◌}
use mathlib.Core.List.{List, [], ◌∷◌, ◌++◌}
use mathlib.Core.Bool.{Bool, true, false}
use mathlib.Core.Logic.{⊎_elim}
use native.Mathlib.Omega.{arith}
use borrow.Author.Tests.{le-leb, lt-ltb, le-ltb}
use lib.ListN.{length, take, drop, get_or, length-drop, get_or-append}
use lib.Seq.{drop-drop, drop-append-le, take_at, take_all, get_or-drop}
use lib.Dec.{ltb, eqb}
use Rattle.base_choices.specs.Choices.{pick}
use Rattle.ber_integers.proofs.Radix.{lt-or-le}
use Rattle.ber_identifiers.specs.declared.Arc.{Arc}
use Rattle.ber_identifiers.specs.declared.Arc.TheVariants.{Number, Range as Over, Refused as NoArc}
use Rattle.ber_identifiers.specs.Identifier.{Arcs, numbers, push, pass, and_then, arc_is, arc_from, arc_at, arcs_from, arcs}

-- an answer that ends later
abbrev moved : ℕ → Arc → Arc
moved d (Number n next) = Number n (d + next)
moved d (Over next) = Over (d + next)
moved d NoArc = NoArc

is-moved : (d n next : ℕ) → arc_is n (d + next) ≡ moved d (arc_is n next)
unfolding arc_is
is-moved d n next = go (ltb 2147483647 n)
  where
    go : (b : Bool) → pick b (Over (d + next)) (Number n (d + next)) ≡ moved d (pick b (Over next) (Number n next))
    go true = refl
    go false = refl

from-moved : (d acc p : ℕ) (bs : List ℕ) → arc_from acc (d + p) bs ≡ moved d (arc_from acc p bs)
unfolding arc_from
from-moved d acc p [] = refl
from-moved d acc p (b ∷ bs) =
    let e : d + p + 1 ≡ d + (p + 1) = omega arith in
    rw e (go (ltb b 128) _ _ (is-moved d (acc * 128 + b) (p + 1)) (from-moved d (acc * 128 + b % 128) (p + 1) bs))
  where
    go : (t : Bool) {x y : Arc} (x' y' : Arc) → x ≡ moved d x' → y ≡ moved d y' → pick t x y ≡ moved d (pick t x' y')
    go true x' y' h k = h
    go false x' y' h k = k

module _ (s bs rest : List ℕ) (d : ℕ) (there : drop d s ≡ bs ++ rest) (within : d + length bs ≤ length s) where
  tail : (p : ℕ) → p ≤ length bs → drop (d + p) s ≡ drop p bs ++ rest
  tail p h = sym (drop-drop p d s) ∙ ap (drop p) there ∙ drop-append-le p bs rest h

  part : (p : ℕ) → p ≤ length bs → take (d + length bs - (d + p)) (drop (d + p) s) ≡ take (length bs - p) (drop p bs)
  part p h =
      let e : d + length bs - (d + p) ≡ length bs - p = omega arith in
      let l = length-drop p bs in
      rw (e, tail p h) (take_at (drop p bs) rest (length bs - p) l ∙ sym (take_all (length bs - p) (drop p bs) (omega arith)))

  octet : (p : ℕ) → p < length bs → get_or s (d + p) 0 ≡ get_or bs p 0
  octet p h = sym (get_or-drop d s p 0) ∙ ap (λ (l : List ℕ). get_or l p 0) there ∙ get_or-append bs rest 0 p h

  at_moved : (p : ℕ) → p < length bs → arc_at s (d + p) (d + length bs) ≡ moved d (arc_at bs p (length bs))
  unfolding arc_at
  at_moved p h =
      let k : d + p < d + length bs = omega arith in
      let l : length bs ≤ length bs = omega arith in
      rw (le-leb _ _ within, lt-ltb _ _ k, lt-ltb _ _ h, le-leb _ _ l, octet p h, part p (omega arith))
      (go (eqb (get_or bs p 0) 128) _ (from-moved d 0 p (take (length bs - p) (drop p bs))))
    where
      go : (t : Bool) {x : Arc} (y : Arc) → x ≡ moved d y → pick t NoArc x ≡ moved d (pick t NoArc y)
      go true y e = refl
      go false y e = e

  then-moved : (a : Arc) (f g : ℕ → Arcs) → ((q : ℕ) → f (d + q) ≡ g q) → and_then (moved d a) f ≡ and_then a g
  then-moved (Number n next) f g h = ap (push n) (h next)
  then-moved (Over next) f g h = ap pass (h next)
  then-moved NoArc f g h = refl

  from-there : (f p : ℕ) → arcs_from s f (d + p) (d + length bs) ≡ arcs_from bs f p (length bs)
  unfolding arcs_from
  from-there zero p = refl
  from-there (suc f) p = go (λ (q : ℕ). from-there f q)
    where
      go : ((q : ℕ) → arcs_from s f (d + q) (d + length bs) ≡ arcs_from bs f q (length bs))
          → pick (ltb (d + p) (d + length bs)) (and_then (arc_at s (d + p) (d + length bs)) (λ next. arcs_from s f next (d + length bs))) (numbers [])
          ≡ pick (ltb p (length bs)) (and_then (arc_at bs p (length bs)) (λ next. arcs_from bs f next (length bs))) (numbers [])
      go more =
          ⊎_elim
          (λ (h : p < length bs).
          let k : d + p < d + length bs = omega arith in
          rw (lt-ltb _ _ h, lt-ltb _ _ k, at_moved p h)
          (then-moved (arc_at bs p (length bs)) (λ next. arcs_from s f next (d + length bs)) (λ next. arcs_from bs f next (length bs)) more))
          (λ (h : length bs ≤ p). let k : d + length bs ≤ d + p = omega arith in rw (le-ltb _ _ h, le-ltb _ _ k))
          (lt-or-le p (length bs))

  pub arcs-there : arcs s d (length bs) ≡ arcs bs 0 (length bs)
  arcs-there =
      let e : d ≡ d + 0 = omega arith in
      let n : length bs ≡ 0 + length bs = omega arith in
      ap (λ (i : ℕ). arcs_from s (length bs) i (d + length bs)) e ∙ from-there (length bs) 0 ∙ ap (λ (i : ℕ). arcs_from bs (length bs) 0 i) n
