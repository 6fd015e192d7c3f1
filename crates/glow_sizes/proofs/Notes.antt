-- What a walk keeps: words stored one after another.
use Prim.Native.Nat.{ℕ, ◌+◌, ◌≤◌, ◌<◌}
use mathlib.Core.Path.{◌≡◌, refl, sym, ap, subst, ◌∙◌}
use mathlib.Core.List.{List}
use mathlib.Core.Logic.{⊎_elim}
use native.Mathlib.Omega.{arith}
use lib.ListN.{length, get_or, set}
use lib.Seq.{get_or-set_same, get_or-set_other}
use Rattle.ber_integers.proofs.Radix.{lt-or-le}
use Rattle.glow_rows.specs.Entry.{Rows}
use Rattle.glow_sizes.specs.declared.Measured.{Measured}
use Rattle.glow_trees.specs.Rows.{items_in}
use Rattle.glow_sizes.specs.Sizes.{Gives}
use Rattle.glow_sizes.specs.Kept.{Keeps, Stored, Noted, Notes, Judged}
use Rattle.glow_sizes.proofs.Trees.{all-octets}

module _ (real : ℕ → List ℕ) (s : List ℕ) (rows : Rows) (n start : ℕ) where
  pub note-start : (b : List ℕ) → Noted real s rows n start start b b
  note-start b = record { same = λ j h. refl; kept = λ j h k l. absurd (omega arith) }

  -- nothing is said where the walk refuses
  pub notes-no : (z : Measured) (b a : List ℕ) → z ≡ record { next = 0; size = 65536 } → Notes real s rows n start z b a
  notes-no z b a e h = let q : z.size ≡ 65536 = ap (λ (m : Measured). m.size) e in absurd (omega arith)

  -- a collection that is not walked
  pub notes-empty : (z : Measured) (b : List ℕ) → z ≡ record { next = start; size = 0 } → Notes real s rows n start z b b
  notes-empty z b e h = subst (λ (m : Measured). Noted real s rows n start m.next b b) (sym e) (note-start b)

  -- an entry: its children, its connections, and its own word
  module _ (i below kn ln w : ℕ) (b x y z t : List ℕ) (before : Noted real s rows n start i b x) (kids : Noted real s rows n below kn x y)
      (links : Noted real s rows n kn ln y z) (own : Stored z i w t) (keeps : Keeps real s rows n i w) where
    pub note-on : start ≤ i → below ≡ i + 1 → below ≤ kn → kn ≤ ln → length x ≡ length b → length y ≡ length x → length z ≡ length y
        → Noted real s rows n start ln b t
    note-on h₁ e₁ h₂ h₃ l₁ l₂ l₃ =
        record {
          same = λ j h.
              let ne : j ≡ i → ⊥ = λ e. omega arith in
              own.others j ne ∙ links.same j (omega arith) ∙ kids.same j (omega arith) ∙ before.same j h;
          kept = λ j h k l.
              ⊎_elim
              (λ (p : j < i).
              let ne : j ≡ i → ⊥ = λ e. omega arith in
              let q : get_or t j 0 ≡ get_or x j 0 = own.others j ne ∙ links.same j (omega arith) ∙ kids.same j (omega arith) in
              subst (Keeps real s rows n j) (sym q) (before.kept j h p l))
              (λ (p : i ≤ j). above j k l p)
              (lt-or-le j i);
        }
      where
        later : (j : ℕ) → j < ln → j < length b → below ≤ j → Keeps real s rows n j (get_or t j 0)
        later j k l p =
            let ne : j ≡ i → ⊥ = λ e. omega arith in
            ⊎_elim
            (λ (q : j < kn).
            let e : get_or t j 0 ≡ get_or y j 0 = own.others j ne ∙ links.same j q in
            subst (Keeps real s rows n j) (sym e) (kids.kept j p q (omega arith)))
            (λ (q : kn ≤ j).
            let e : get_or t j 0 ≡ get_or z j 0 = own.others j ne in
            subst (Keeps real s rows n j) (sym e) (links.kept j q k (omega arith)))
            (lt-or-le j kn)

        here : (j : ℕ) → j ≡ i → j < length b → Keeps real s rows n j (get_or t j 0)
        here j e l =
            let f : get_or t i 0 ≡ w = own.there (omega arith) in
            let g : get_or t j 0 ≡ w = ap (λ (m : ℕ). get_or t m 0) e ∙ f in
            subst (Keeps real s rows n j) (sym g) (subst (λ (m : ℕ). Keeps real s rows n m w) (sym e) keeps)

        above : (j : ℕ) → j < ln → j < length b → i ≤ j → Keeps real s rows n j (get_or t j 0)
        above j k l p =
            ⊎_elim (λ (q : i < j). later j k l (omega arith)) (λ (q : j ≤ i). here j (omega arith) l) (lt-or-le i j)

-- the whole walk
pub judged-all : (real : ℕ → List ℕ) (s : List ℕ) (rows : Rows) (n root : ℕ) (m : Measured) (b a : List ℕ)
    → Gives real (items_in s rows n) root 0 62 0 0 0 m → m.size ≤ 16384 → m.next ≡ n → Notes real s rows n 0 m b a → Judged real s rows n root m.size b a
judged-all real s rows n root m b a g h e k =
    record { octets = all-octets real root 0 n (items_in s rows n) m g h; kept = λ j l i. (k h).kept j (omega arith) (omega arith) i }

pub stored-in : (xs : List ℕ) (i w : ℕ) → i < length xs → Stored xs i w (set xs i w)
stored-in xs i w h = record { there = λ l. get_or-set_same xs i w 0 l; others = λ j l. get_or-set_other xs i j w 0 l }

pub stored-out : (xs : List ℕ) (i w : ℕ) → length xs ≤ i → Stored xs i w xs
stored-out xs i w h = record { there = λ l. absurd (omega arith); others = λ j l. refl }
