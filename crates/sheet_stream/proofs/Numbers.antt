-- With which numbers the text of a sheet is refused: those of the events from 10 up, 12 for a bad line among them, and 33.
use Prim.Native.Nat.{ℕ, ◌+◌, ◌≤◌}
use mathlib.Core.Path.{◌≡◌, refl, sym, subst}
use mathlib.Core.List.{List, [], ◌∷◌}
use mathlib.Core.Bool.{Bool, true, false}
use mathlib.Core.Logic.{◌⊎◌, inl, inr, ⊎_elim}
use native.Mathlib.Omega.{arith}
use borrow.Author.Tests.{leb-true, eqb-false}
use types.Run.{OneOf, hit}
use lib.Dec.{leb, eqb}
use Rattle.base_choices.specs.Choices.{pick}
use Rattle.framing_content.specs.Numbers.{store_length, fault_numbers, feed_numbers}
use Rattle.framing_session.specs.Rules.{State, Said, begin, step, happens, after}
use Rattle.framing_session.specs.Session.{kept}
use Rattle.framing_session.proofs.Laws.{Bounded, bounded-begin, bounded-next, within_step, event-numbered}
use Rattle.framing.proofs.Sayable.{step-sayable}
use Rattle.desk_crosspoints.specs.Crosspoints.{clear}
use Rattle.desk_crosspoints.proofs.Counts.{clear-length}
use Rattle.sheet_rules.specs.Lines.{Stream, bad, stream}
use Rattle.sheet_rules.specs.Reading.{Held, refusal, message, first_fault, finished, something_open, one_of, of_events, held_in}
use Rattle.sheet_stream.specs.Finding.{held_numbers}
use Rattle.sheet_stream.proofs.Events.{fault-here, fault-later}

-- a byte's event
step-number : (s : State) (b : ℕ) → Bounded s → OneOf feed_numbers (step s b).said.number
step-number s b h =
    let k = step-sayable s b (clear store_length) (clear-length store_length) h in
    subst (λ (x : Said). OneOf feed_numbers x.number) k.1 (event-numbered k.0 (kept (step s b) (clear store_length)))

-- from 10 up
fault-of : (n : ℕ) → OneOf feed_numbers n → 10 ≤ n → OneOf fault_numbers n
fault-of n o h =
    ⊎_elim (λ (e : n ≡ 0). absurd (omega (arith, e, h))) (⊎_elim (λ (e : n ≡ 1). absurd (omega (arith, e, h)))
    (⊎_elim (λ (e : n ≡ 2). absurd (omega (arith, e, h)))
    (⊎_elim (λ (e : n ≡ 3). absurd (omega (arith, e, h))) (⊎_elim (λ (e : n ≡ 4). absurd (omega (arith, e, h)))
    (⊎_elim (λ (e : n ≡ 5). absurd (omega (arith, e, h))) (λ (r : OneOf fault_numbers n). r)))))) o

first-fault : (bs : List ℕ) (s : State) (n : ℕ) → Bounded s → (first_fault (happens s n bs) ≡ 0) ⊎ OneOf fault_numbers (first_fault (happens s n bs))
unfolding happens first_fault
first-fault [] s n h = inl refl
first-fault (b ∷ bs) s n h =
    go (leb 10 (step s b).said.number) refl (first-fault bs (step s b).next (n + 1) (bounded-next (step s b) (within_step s b h)))
  where
    go : (u : Bool) → leb 10 (step s b).said.number ≡ u
        → (first_fault (happens (step s b).next (n + 1) bs) ≡ 0) ⊎ OneOf fault_numbers (first_fault (happens (step s b).next (n + 1) bs))
        → (first_fault (happens s n (b ∷ bs)) ≡ 0) ⊎ OneOf fault_numbers (first_fault (happens s n (b ∷ bs)))
    go true q r =
        inr (subst (OneOf fault_numbers) (sym (fault-here (step s b).said (n + 1) (happens (step s b).next (n + 1) bs) q))
        (fault-of _ (step-number s b h) (leb-true 10 _ q)))
    go false q r =
        subst (λ (k : ℕ). (k ≡ 0) ⊎ OneOf fault_numbers k) (sym (fault-later (step s b).said (n + 1) (happens (step s b).next (n + 1) bs) q)) r

-- what the lines hold
abbrev pub Numbered : Held → Type 0
Numbered (refusal n) = OneOf held_numbers n
Numbered (message m) = Unit {0}

one-of : (ms : List (List ℕ)) → Numbered (one_of ms)
one-of [] = hit held_numbers 33 tt
one-of (m ∷ []) = tt
one-of (m ∷ later ∷ ms) = hit held_numbers 33 tt

pub held-numbers : (x : Stream) → Numbered (held_in x)
unfolding of_events
held-numbers bad = hit held_numbers 12 tt
held-numbers (stream bs) = go (eqb (first_fault (happens begin 0 bs)) 0) refl (something_open (after begin bs)) (first-fault bs begin 0 bounded-begin)
  where
    go : (u : Bool) → eqb (first_fault (happens begin 0 bs)) 0 ≡ u → (v : Bool)
        → (first_fault (happens begin 0 bs) ≡ 0) ⊎ OneOf fault_numbers (first_fault (happens begin 0 bs))
        → Numbered (pick u (pick v (refusal 33) (one_of (finished (happens begin 0 bs)))) (refusal (first_fault (happens begin 0 bs))))
    go true q true r = hit held_numbers 33 tt
    go true q false r = one-of (finished (happens begin 0 bs))
    go false q v r =
        ⊎_elim (λ (e : first_fault (happens begin 0 bs) ≡ 0). absurd (eqb-false _ 0 q e)) (λ (o : OneOf fault_numbers (first_fault (happens begin 0 bs))). inr o) r
