-- What the bytes hold, taken one by one, is what the events of all of them say.
use Prim.Native.Nat.{ℕ, ◌+◌}
use mathlib.Core.Path.{◌≡◌, refl, sym, ap, ◌∙◌}
use mathlib.Core.List.{List, [], ◌∷◌}
use mathlib.Core.Bool.{Bool, true, false}
use native.Mathlib.Omega.{arith}
use borrow.Author.Tests.{eqb-true, leb-true, ne_eqb}
use lib.Dec.{leb, eqb}
use Rattle.base_choices.specs.Choices.{pick}
use Rattle.base_choices.proofs.Laws.{pick-by}
use Rattle.framing_session.specs.Rules.{State, Said, Step, begin, step, Happening, noted, happens, after}
use Rattle.sheet_rules.specs.Reading.{Held, refusal, message, finished, something_open, first_fault, one_of, of_events}
use Rattle.sheet_stream.specs.Steps.{another, collects}

-- ---- an event before others

module _ (e : Said) (n : ℕ) (hs : List Happening) where
  pub fault-here : leb 10 e.number ≡ true → first_fault (noted e n hs) ≡ e.number
  unfolding first_fault
  fault-here h =
      let k = leb-true 10 e.number h in
      rw (ne_eqb e.number 0 (λ q. omega (arith, k, q)), h) refl

  pub fault-later : leb 10 e.number ≡ false → first_fault (noted e n hs) ≡ first_fault hs
  unfolding first_fault
  fault-later h = pick-by (λ (xs : List Happening). first_fault xs ≡ first_fault hs) (eqb e.number 0) (λ q. refl) (λ q. rw h refl)

  pub finished-here : eqb e.number 3 ≡ true → finished (noted e n hs) ≡ e.message ∷ finished hs
  unfolding finished
  finished-here h =
      let k = eqb-true e.number 3 h in
      rw (ne_eqb e.number 0 (λ q. omega (arith, k, q)), h) refl

  pub finished-later : eqb e.number 3 ≡ false → finished (noted e n hs) ≡ finished hs
  unfolding finished
  finished-later h = pick-by (λ (xs : List Happening). finished xs ≡ finished hs) (eqb e.number 0) (λ q. refl) (λ q. rw h refl)

-- ---- k messages finished before, m the last of them

unfoldable one_after : ℕ → List ℕ → List (List ℕ) → Held
one_after k m ms = pick (eqb k 0) (one_of ms) (pick (eqb k 1) (one_of (m ∷ ms)) (refusal 33))

one_end : (k : ℕ) (m : List ℕ) → pick (eqb k 1) (message m) (refusal 33) ≡ one_after k m []
unfolding one_after
one_end k m = go (eqb k 0) (eqb k 1) refl refl
  where
    go : (u v : Bool) → eqb k 0 ≡ u → eqb k 1 ≡ v → pick v (message m) (refusal 33) ≡ pick u (refusal 33) (pick v (message m) (refusal 33))
    go true true p q = let a = eqb-true k 0 p in let b = eqb-true k 1 q in absurd (omega (arith, a, b))
    go true false p q = refl
    go false v p q = refl

one_more : (k : ℕ) (m x : List ℕ) (ms : List (List ℕ)) → one_after (another k) x ms ≡ one_after k m (x ∷ ms)
unfolding one_after
one_more k m x ms = go (eqb k 0) (eqb k 1)
  where
    go : (u v : Bool) → one_after (pick u 1 2) x ms ≡ pick u (one_of (x ∷ ms)) (pick v (one_of (m ∷ x ∷ ms)) (refusal 33))
    go true v = refl
    go false true = refl
    go false false = refl

unfoldable of_later : ℕ → List ℕ → List Happening → State → Held
of_later k m hs end =
    pick (eqb (first_fault hs) 0) (pick (something_open end) (refusal 33) (one_after k m (finished hs))) (refusal (first_fault hs))

nothing_left : (k : ℕ) (m : List ℕ) (s : State) → collects k m s [] ≡ of_later k m [] s
unfolding collects of_later first_fault finished
nothing_left k m s = ap (λ (x : Held). pick (something_open s) (refusal 33) x) (one_end k m)

-- a byte before others
module _ (k : ℕ) (m : List ℕ) (s : State) (b : ℕ) (bs : List ℕ) (n : ℕ) where
  abbrev o : Step
  o = step s b

  abbrev hs : List Happening
  hs = happens o.next n bs

  abbrev end : State
  end = after o.next bs

  byte-is : collects k m o.next bs ≡ of_later k m hs end → collects (another k) o.said.message o.next bs
      ≡ of_later (another k) o.said.message hs end
      → collects k m s (b ∷ bs) ≡ of_later k m (noted o.said n hs) end
  unfolding collects of_later
  byte-is on more = go (leb 10 o.said.number) (eqb o.said.number 3) refl refl
    where
      go : (u v : Bool) → leb 10 o.said.number ≡ u → eqb o.said.number 3 ≡ v
          → pick u (refusal o.said.number) (pick v (collects (another k) o.said.message o.next bs) (collects k m o.next bs))
          ≡ of_later k m (noted o.said n hs) end
      go true v p q =
          let h = leb-true 10 o.said.number p in
          rw (fault-here o.said n hs p, ne_eqb o.said.number 0 (λ z. omega (arith, h, z))) refl
      go false true p q =
          more ∙ rw (fault-later o.said n hs p, finished-here o.said n hs q, one_more k m o.said.message (finished hs)) refl
      go false false p q = on ∙ rw (fault-later o.said n hs p, finished-later o.said n hs q) refl

collects-is : (bs : List ℕ) (k : ℕ) (m : List ℕ) (s : State) (n : ℕ) → collects k m s bs ≡ of_later k m (happens s n bs) (after s bs)
unfolding happens after
collects-is [] k m s n = nothing_left k m s
collects-is (b ∷ bs) k m s n =
    byte-is k m s b bs (n + 1) (collects-is bs k m (step s b).next (n + 1)) (collects-is bs (another k) (step s b).said.message (step s b).next (n + 1))

-- none finished before
pub collects-all : (bs : List ℕ) → of_events (happens begin 0 bs) (after begin bs) ≡ collects 0 [] begin bs
unfolding of_events of_later one_after
collects-all bs = sym (collects-is bs 0 [] begin 0)
