-- Laws of the answer: judged over no rows first, then filled.
use Rattle.std.specs.Prelude.{Result, Ok, Err}
use Prim.Native.Nat.{ℕ, ◌≤◌, ◌<◌}
use mathlib.Core.Path.{◌≡◌, refl, sym, ap, ◌∙◌}
use mathlib.Core.List.{List, [], ◌∷◌, ◌++◌}
use native.Mathlib.Omega.{arith}
use borrow.Author.Tests.{lt-ltb, le-ltb}
use lib.ListN.{length}
use Rattle.base_choices.proofs.Pairs.{ok-parts}
use Rattle.ber_containers.specs.declared.No.{No}
use Rattle.glow_rows.specs.Entry.{Entries, Rows, overlay}
use Rattle.glow_walk.specs.Walk.{walk}
use Rattle.glow_walk.specs.Progress.{whole, MessageFill}
use Rattle.glow_reader.specs.declared.Answer.TheVariants.{Setup, Refused as NoTree, Room, Read as ReadTree}
use Rattle.glow_reader.specs.Message.{setup, read_result, read_of, read_at}

pub whole-no : (which : ℕ) (a : Result ℕ No) (n : ℕ) {e : No} → whole which a n ≡ Err e → a ≡ Err e
whole-no which (Ok p) n h = let z : ◌≡◌ {A = ℕ} 0 1 = cc in absurd (omega arith)
whole-no which (Err e) n h = cc

module _ (rows : Rows) (which : ℕ) (es : Entries) {which' count : ℕ} where
  pub whole_room : (a : Result ℕ No) → whole which a (length es) ≡ Ok (which', count) → length rows < count
      → read_of rows which es a ≡ read_result (Room count) rows
  whole_room (Ok p) h r = let e : length es ≡ count = (ok-parts h).1 in simp (lt-ltb (length rows) (length es) (rw e r)) (ap (λ n. read_result (Room n) rows) e)
  whole_room (Err e) h r = let z : ◌≡◌ {A = ℕ} 0 1 = cc in absurd (omega arith)

  pub whole-filled : (a : Result ℕ No) → whole which a (length es) ≡ Ok (which', count) → count ≤ length rows
      → read_of rows which es a ≡ read_result (ReadTree which' count) (overlay es rows)
  whole-filled (Ok p) h r =
      let e : length es ≡ count = (ok-parts h).1 in
      let f : which ≡ which' = (ok-parts h).0 in
      simp (le-ltb (length rows) (length es) (rw e r)) (rw (e, f))
  whole-filled (Err e) h r = let z : ◌≡◌ {A = ℕ} 0 1 = cc in absurd (omega arith)

-- What the reader answers: judged over no rows first, then filled.
module _ (s : List ℕ) (rows : Rows) where
  pub read-tall : 256 < length rows → read_at s rows ≡ read_result Setup rows
  unfolding read_at setup
  read-tall h = simp (lt-ltb _ _ h)

  module _ (a : length rows ≤ 256) where
    pub read-long : 16384 < length s → read_at s rows ≡ read_result Setup rows
    unfolding read_at setup
    read-long h = simp (le-ltb _ _ a, lt-ltb _ _ h)

    module _ (b : length s ≤ 16384) where
      judged : read_at s rows ≡ read_of rows (walk s).which (walk s).out.entries (walk s).out.answer
      unfolding read_at setup
      judged = simp (le-ltb _ _ a, le-ltb _ _ b)

      -- judged over no rows: l is what is left of them
      module _ (l : Rows) (none : length l ≡ 0) where
        same : l ++ rows ≡ rows
        same = go l none
          where
            go : (m : Rows) → length m ≡ 0 → m ++ rows ≡ rows
            go [] e = refl
            go (x ∷ m) e = absurd (omega arith)

        pub read_no : {w : Result (ℕ × ℕ) No} {e : No} → MessageFill s [] l w → w ≡ Err e → read_at s rows ≡ read_result (NoTree e.0 e.1) (l ++ rows)
        read_no {e = e} f h =
            judged
            ∙ ap (read_of rows (walk s).which (walk s).out.entries)
            (whole-no (walk s).which (walk s).out.answer (length (walk s).out.entries) (f.answers ∙ h))
            ∙ ap (read_result (NoTree e.0 e.1)) (sym same)

        module _ {w : Result (ℕ × ℕ) No} {which count : ℕ} (f : MessageFill s [] l w) (h : w ≡ Ok (which, count)) where
          pub read-room : length (l ++ rows) < count → read_at s rows ≡ read_result (Room count) (l ++ rows)
          read-room r =
              judged ∙ whole_room rows (walk s).which (walk s).out.entries (walk s).out.answer (f.answers ∙ h) (rw same at r)
              ∙ ap (read_result (Room count)) (sym same)

          pub read-filled : count ≤ length (l ++ rows) → {rows' : Rows} {v : Result (ℕ × ℕ) No} → MessageFill s (l ++ rows) rows' v
              → read_at s rows ≡ read_result (ReadTree which count) rows'
          read-filled r g =
              judged ∙ whole-filled rows (walk s).which (walk s).out.entries (walk s).out.answer (f.answers ∙ h) (rw same at r)
              ∙ ap (read_result (ReadTree which count)) (sym (rw same at g.holds))
