-- Laws of a whole stream: what happens over bytes that are joined.
use Prim.Native.Nat.{ℕ, suc, ◌+◌}
use mathlib.Core.Bool.{Bool, true, false}
use mathlib.Core.Path.{◌≡◌, refl, ap, ◌∙◌}
use mathlib.Core.List.{List, [], ◌∷◌, ◌++◌}
use native.Mathlib.Omega.{arith}
use lib.Dec.{eqb}
use lib.ListN.{length}
use Rattle.base_choices.specs.Choices.{pick}
use Rattle.framing_session.specs.Rules.{State, Said, step, Happening, noted, happens, after}

pub noted-append : (e : Said) (n : ℕ) (hs ks : List Happening) → noted e n (hs ++ ks) ≡ noted e n hs ++ ks
noted-append e n hs ks = go (eqb e.number 0)
  where
    go : (u : Bool) → pick u (hs ++ ks) (record { offset = n; said = e } ∷ hs ++ ks) ≡ pick u hs (record { offset = n; said = e } ∷ hs) ++ ks
    go true = refl
    go false = refl

pub happens-append : (xs ys : List ℕ) (s : State) (n : ℕ) → happens s n (xs ++ ys) ≡ happens s n xs ++ happens (after s xs) (n + length xs) ys
unfolding happens after
happens-append [] ys s n = ap (λ (k : ℕ). happens s k ys) (omega arith)
happens-append (x ∷ xs) ys s n =
    let o = step s x in
    ap (λ (hs : List Happening). noted o.said (n + 1) hs)
    (happens-append xs ys o.next (n + 1) ∙ ap (λ (k : ℕ). happens o.next (n + 1) xs ++ happens (after o.next xs) k ys) (omega arith))
    ∙ noted-append o.said (n + 1) (happens o.next (n + 1) xs) (happens (after o.next xs) (n + suc (length xs)) ys)

pub after-append : (xs ys : List ℕ) (s : State) → after s (xs ++ ys) ≡ after (after s xs) ys
unfolding after
after-append [] ys s = refl
after-append (x ∷ xs) ys s = after-append xs ys (step s x).next
