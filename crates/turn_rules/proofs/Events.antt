-- The rules, fed byte by byte, are framing's events with tree and desk over each.
use Prim.Native.Nat.{ℕ, ◌+◌}
use mathlib.Core.Bool.{Bool, true, false}
use mathlib.Core.List.{List, [], ◌∷◌}
use mathlib.Core.Path.{◌≡◌, refl, sym, ap, ◌∙◌}
use borrow.Author.Tests.{eqb-true}
use lib.Dec.{eqb}
use Rattle.base_choices.specs.Choices.{pick}
use Rattle.framing_session.specs.Rules as framing
use Rattle.framing_session.specs.Rules.{State, Said, step, Happening, happens}
use Rattle.desk_crosspoints.specs.Desk.{Desk}
use Rattle.turn_rules.specs.Rules.{keep, Follow, follow, nothing, follows, Told, noted, next, tells, after}

-- what is told of the events, and the desk after them
unfoldable pub told_of : ℕ → Desk → List Happening → List Told
told_of rows d [] = []
told_of rows d (h ∷ hs) =
    record { offset = h.offset; event = h.said; after = (follows rows d h.said).told } ∷ told_of rows (follows rows d h.said).desk hs

unfoldable pub desk_over : ℕ → Desk → List Happening → Desk
desk_over rows d [] = d
desk_over rows d (h ∷ hs) = desk_over rows (follows rows d h.said).desk hs

-- no event: nothing follows
quiet-follows : (rows : ℕ) (d : Desk) (e : Said) → eqb e.number 0 ≡ true → follows rows d e ≡ follow nothing d
unfolding follows
quiet-follows rows d e h = let z : e.number ≡ 0 = eqb-true _ _ h in rw z refl

module _ (rows : ℕ) (d : Desk) (e : Said) (n : ℕ) (hs : List Happening) where
  abbrev f : Follow
  f = follows rows d e

  pub told-noted : told_of rows d (framing.noted e n hs) ≡ noted e f.told n (told_of rows f.desk hs)
  unfolding told_of
  told-noted = go (eqb e.number 0) refl
    where
      go : (u : Bool) → eqb e.number 0 ≡ u
          → told_of rows d (pick u hs (record { offset = n; said = e } ∷ hs))
          ≡ pick u (told_of rows f.desk hs) (record { offset = n; event = e; after = f.told } ∷ told_of rows f.desk hs)
      go true q = ap (λ (x : Follow). told_of rows x.desk hs) (sym (quiet-follows rows d e q))
      go false q = refl

  pub desk-noted : desk_over rows d (framing.noted e n hs) ≡ desk_over rows f.desk hs
  unfolding desk_over
  desk-noted = go (eqb e.number 0) refl
    where
      go : (u : Bool) → eqb e.number 0 ≡ u
          → desk_over rows d (pick u hs (record { offset = n; said = e } ∷ hs)) ≡ desk_over rows f.desk hs
      go true q = ap (λ (x : Follow). desk_over rows x.desk hs) (sym (quiet-follows rows d e q))
      go false q = refl

pub tells-are : (bs : List ℕ) (rows : ℕ) (s : State) (d : Desk) (n : ℕ) → tells rows (keep s d) n bs ≡ told_of rows d (happens s n bs)
unfolding tells happens told_of
tells-are [] rows s d n = refl
tells-are (b ∷ bs) rows s d n =
    let o = step s b in
    let f = follows rows d o.said in
    ap (λ (ts : List Told). noted o.said f.told (n + 1) ts) (tells-are bs rows o.next f.desk (n + 1))
    ∙ sym (told-noted rows d o.said (n + 1) (happens o.next (n + 1) bs))

pub after_is : (bs : List ℕ) (rows : ℕ) (s : State) (d : Desk) (n : ℕ)
    → after rows (keep s d) bs ≡ keep (framing.after s bs) (desk_over rows d (happens s n bs))
unfolding after framing.after happens desk_over
after_is [] rows s d n = refl
after_is (b ∷ bs) rows s d n =
    let o = step s b in
    let f = follows rows d o.said in
    after_is bs rows o.next f.desk (n + 1)
    ∙ ap (λ (x : Desk). keep (framing.after o.next bs) x) (sym (desk-noted rows d o.said (n + 1) (happens o.next (n + 1) bs)))
