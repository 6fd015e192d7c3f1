-- One law for each answer of the code, at plain variables.
use Rattle.std.specs.Prelude.{Some, None}
use Prim.Native.Nat.{ℕ, ◌-◌, ◌≤◌, ◌<◌}
use mathlib.Core.Path.{◌≡◌, sym, ap, ◌∙◌}
use mathlib.Core.Bool.{Bool, true, false}
use mathlib.Core.List.{List}
use borrow.Author.Tests.{lt-ltb, le-leb, lt-leb, eq-eqb, ne_eqb}
use lib.Dec.{T, ltb, ltb→lt}
use lib.ListN.{get_or, set}
use Rattle.glow_rows.specs.declared.Cell.{Cell}
use Rattle.glow_rows.specs.Cell.{int_of, number_in}
use Rattle.glow_rows.specs.Row.{put_in, cell_in, same}
use Rattle.glow_rows.specs.Entry.{row, blank, blanks}
use Rattle.glow_rows.proofs.Laws.{row-set}
use Rattle.glow_entries.specs.declared.Key.TheVariants.{Number as ByNumber, Path as ByPath}
use Rattle.glow_entries.specs.Member.{int_in, number_of, flag_of, part, part_of, key_of, parent_of}
use Rattle.glow_entries.specs.Record.{read_as}
use Rattle.glow_entries.proofs.Cells.{entry}

-- a cell that stands for a number, a flag or a part
module _ (v : Cell) where
  pub number_is : v.kind ≡ 2 → v.second ≡ 0 → Some (int_of v.first) ≡ number_of v
  unfolding number_of
  number_is k l = rw (eq-eqb _ _ k, eq-eqb _ _ l)

  pub number-long : v.kind ≡ 2 → (v.second ≡ 0 → ⊥) → None ≡ number_of v
  unfolding number_of
  number-long k l = rw (eq-eqb _ _ k, ne_eqb _ _ l)

  pub number-none : (v.kind ≡ 2 → ⊥) → None ≡ number_of v
  unfolding number_of
  number-none k = rw (ne_eqb _ _ k)

  pub flag_is : v.kind ≡ 1 → Some (lib.Dec.eqb v.first 1) ≡ flag_of v
  unfolding flag_of
  flag_is k = rw (eq-eqb _ _ k)

  pub flag-none : (v.kind ≡ 1 → ⊥) → None ≡ flag_of v
  unfolding flag_of
  flag-none k = rw (ne_eqb _ _ k)

  pub part-is : (tag : ℕ) → v.kind ≡ tag → part v.first v.second ≡ part_of tag v
  unfolding part_of
  part-is tag k = rw (eq-eqb _ _ k)

  pub part_none : (tag : ℕ) → (v.kind ≡ tag → ⊥) → None ≡ part_of tag v
  unfolding part_of
  part_none tag k = rw (ne_eqb _ _ k)

-- the key and the parent of a row
module _ (r : List ℕ) where
  pub key-path : (q : ℕ) (v : Cell) → v ≡ cell_in r 0 → get_or r 0 0 ≡ q → ByPath v.first v.second ≡ key_of q r
  unfolding key_of
  key-path q v e k = rw (e, eq-eqb _ _ k)

  pub key-number : (q : ℕ) (v : Cell) → v ≡ cell_in r 0 → (get_or r 0 0 ≡ q → ⊥) → ByNumber (int_of (number_in v)) ≡ key_of q r
  unfolding key_of int_in
  key-number q v e k = rw (e, ne_eqb _ _ k)

  pub parent-root : get_or r 1 0 ≡ 0 → None ≡ parent_of r
  unfolding parent_of
  parent-root k = rw (eq-eqb _ _ k)

  pub parent-at : (get_or r 1 0 ≡ 0 → ⊥) → get_or r 1 0 ≤ 0x100000000 → Some (get_or r 1 0 - 1) ≡ parent_of r
  unfolding parent_of
  parent-at k h = rw (ne_eqb _ _ k, le-leb _ _ h)

  pub parent-past : (get_or r 1 0 ≡ 0 → ⊥) → 0x100000000 < get_or r 1 0 → None ≡ parent_of r
  unfolding parent_of
  parent-past k h = rw (ne_eqb _ _ k, lt-leb _ _ h)

-- a list is the row of an entry
pub record Row (l : List ℕ) (k p : ℕ) (cs : List Cell) : Type 0 where
  pub is : l ≡ row (entry k p cs)

-- a row that is begun, and its cells put one by one
pub begun-is : {k k' p p' : ℕ} {l : List ℕ} → k ≡ k' → p ≡ p' → l ≡ row (blank k p) → Row l k' p' (blanks 16)
begun-is {k} {k'} {p} {p'} e f q = record { is = q ∙ ap (λ (x : ℕ). row (blank x p)) e ∙ ap (λ (x : ℕ). row (blank k' x)) f }

put-row : (k p : ℕ) (cs : List Cell) (c : ℕ) (v : Cell) → c < 16 → put_in (row (entry k p cs)) c v ≡ row (entry k p (set cs c v))
unfolding put_in
put-row k p cs c v h = rw (lt-ltb _ _ h) (row-set k p cs c v)

pub put-member : (c : ℕ) → T (ltb c 16) → {k p : ℕ} {cs : List Cell} {l l' : List ℕ} {v w : Cell}
    → Row l k p cs → v ≡ w → l' ≡ put_in l c v → Row l' k p (set cs c w)
put-member c h {k} {p} {cs} {l} {l'} {v} {w} e f q =
    record { is = q ∙ ap (λ (x : List ℕ). put_in x c v) e.is ∙ ap (put_in (row (entry k p cs)) c) f ∙ put-row k p cs c w (ltb→lt c 16 h) }

-- a row that is made again of what it stands for
module _ {E R : Type 0} (of : List ℕ → E) (made : E → List ℕ) (is : E → R) (other : R) (r : List ℕ) where
  again : (e : E) (l : List ℕ) → e ≡ of r → l ≡ made e → same r (made (of r)) ≡ same r l
  again e l p q = sym (ap (same r) (q ∙ ap made p))

  pub told_is : {e : E} {l : List ℕ} {b : Bool} → e ≡ of r → l ≡ made e → b ≡ same r l → b ≡ true → is e ≡ read_as of made is other r
  unfolding read_as
  told_is {e} {l} {b} p q s t = rw (again e l p q ∙ sym s ∙ t) (ap is p)

  pub told-other : {e : E} {l : List ℕ} {b : Bool} → e ≡ of r → l ≡ made e → b ≡ same r l → b ≡ false → other ≡ read_as of made is other r
  unfolding read_as
  told-other {e} {l} {b} p q s t = rw (again e l p q ∙ sym s ∙ t)
