-- Laws of the whole message.
use Rattle.std.specs.Prelude.{Result, Ok, Err}
use Prim.Native.Nat.{ℕ, suc}
use mathlib.Core.Path.{◌≡◌, refl, ◌∙◌}
use mathlib.Core.List.{List, []}
use native.Mathlib.Omega.{arith}
use borrow.Author.Tests.{eq-eqb, ne_eqb}
use lib.ListN.{length}
use Rattle.ber_containers.specs.declared.No.{No}
use Rattle.ber_containers.specs.declared.Open.{Open}
use Rattle.ber_containers.specs.declared.Tag.{Tag}
use Rattle.ber_containers.specs.Ends.{no}
use Rattle.glow_rows.specs.Entry.{Rows, overlay}
use Rattle.glow_steps.specs.Root.{top_at}
use Rattle.glow_walk.specs.Walk.{finished, walk}
use Rattle.glow_walk.specs.Tree.{ItemsGive}
use Rattle.glow_walk.specs.Progress.{counted, whole, Closes, Finishes, Fills, ItemsFill, MessageFill}
use Rattle.glow_walk.proofs.Ways.{counted-no, counted-read}

module _ (s : List ℕ) (which : ℕ) {w : Result (ℕ × ℕ) No} (a : Result ℕ No) (n : ℕ) (h : counted a n ≡ w) where
  pub finish-no : {e : No} → w ≡ Err e → whole which (finished s a) n ≡ Err e
  unfolding finished
  finish-no i = rw (counted-no a n (h ∙ i))

  pub finish-read : {q m : ℕ} → w ≡ Ok (q, m) → q ≡ length s → whole which (finished s a) n ≡ Ok (which, m)
  unfolding finished
  finish-read i l = rw ((counted-read a n (h ∙ i)).0, (counted-read a n (h ∙ i)).1) (simp (eq-eqb _ _ l))

  pub finish-left : {q m : ℕ} → w ≡ Ok (q, m) → (q ≡ length s → ⊥) → whole which (finished s a) n ≡ Err (no 30 q)
  unfolding finished
  finish-left i l = rw (counted-read a n (h ∙ i)).0 (simp (ne_eqb _ _ l))

-- a message as the code reads it
module _ (s : List ℕ) (rows rows' : Rows) where
  pub message-no : {e : No} → top_at s ≡ Err e → rows' ≡ rows → MessageFill s rows rows' (Err e)
  unfolding walk overlay
  message-no h same = record { answers = rw h; holds = rw h same }

  pub message-root : {which k : ℕ} {outer : Open} {g : Tag} {w v : Result (ℕ × ℕ) No} {r : Result (ℕ × ℕ) No} → top_at s ≡ Ok (which, outer, g)
      → ItemsFill s k g.inner which 0 0 g.start 0 rows rows' w → k ≡ 62
      → Closes s outer 63 w v → Finishes s which v r → MessageFill s rows rows' r
  unfolding walk overlay
  message-root {which = which} {g = g} {w = w} h f' e c d =
      let f : Fills (ItemsGive s 62 g.inner which 0 0 g.start []) rows rows' w = rw (← e) (f'.filled [] rows refl refl) in
      let x = f.gives (suc (length s)) (omega arith) in
      record {
        answers = rw (h, x) (d _ _ (c _ _ f.answers));
        holds = rw (h, x) f.holds;
      }
