-- The rows that the structs make are the desk's.
use Rattle.std.specs.Prelude.{Option, Some, None}
use Prim.Native.Nat.{ℕ, ◌<◌, ◌^◌}
use mathlib.Core.Path.{◌≡◌, ap, ◌∙◌}
use mathlib.Core.List.{List, ◌∷◌}
use borrow.Author.Tests.{eq-eqb, ne_eqb}
use lib.IntN.{ℤ}
use Rattle.glow_rows.specs.declared.Cell.{Cell}
use Rattle.glow_rows.specs.Cell.{cell, absent, numbers, numbers_cell, word_of, int_of}
use Rattle.glow_rows.specs.Entry.{blanks, row}
use Rattle.glow_rows.proofs.Values.{word-int}
use Rattle.glow_entries.specs.declared.Part.{Part}
use Rattle.glow_entries.specs.declared.Key.TheVariants as key
use Rattle.glow_entries.specs.Member as members
use Rattle.glow_entries.specs.Record.{matrix_row, connection_row}
use Rattle.glow_entries.proofs.Cells.{entry, matrix-cells, connection-cells}
use Rattle.desk_crosspoints.specs.declared.Figures.{Figures}
use Rattle.desk_rows.specs.Rows.{number_cell, limit_cell, list_cell, matrix_entry, link_entry}

pub number_is : (n : Option ℤ) (w : ℕ) → w < 2 ^ 64 → n ≡ Some (int_of w) → members.number_cell n ≡ number_cell w
number_is n w h e = ap members.number_cell e ∙ ap (λ (i : ℕ). cell 2 i 0) (word-int w h)

pub list-none : (start len : ℕ) → len ≡ 0 → list_cell start len ≡ absent
unfolding list_cell
list-none start len e = rw (eq-eqb _ _ e)

pub list-some : (start len s n : ℕ) → (len ≡ 0 → ⊥) → s ≡ start → n ≡ len → list_cell start len ≡ cell 13 s n
unfolding list_cell
list-some start len s n h d e = rw (ne_eqb _ _ h, d, e)

module _ (f : Figures) (len path : ℕ) (p : path ≡ len) (t g s a b : Option ℤ) where
  abbrev cells : ℕ → Cell → Cell → Cell → Cell → Cell → List Cell
  cells n x y z u v = numbers_cell 0 n ∷ absent ∷ absent ∷ x ∷ absent ∷ y ∷ z ∷ u ∷ v ∷ blanks 7

  pub matrix-is : members.number_cell t ≡ number_cell f.kind → members.number_cell g ≡ number_cell f.targets
      → members.number_cell s ≡ number_cell f.sources → members.number_cell a ≡ limit_cell f.total → members.number_cell b ≡ limit_cell f.each
      → (r : List ℕ)
      → r ≡ matrix_row (record {
        parent = None;
        key = key.Path 0 path;
        identifier = None;
        description = None;
        matrix_type = t;
        mode = None;
        targets = g;
        sources = s;
        total_limit = a;
        target_limit = b;
      })
      → r ≡ row (matrix_entry f len)
  matrix-is c d e h k r q =
      q ∙ matrix-cells _
      ∙ ap
      (λ (n : ℕ). row (entry 7 0
      (cells n (members.number_cell t) (members.number_cell g) (members.number_cell s) (members.number_cell a) (members.number_cell b))))
      p
      ∙ ap (λ (x : Cell). row (entry 7 0 (cells len x (members.number_cell g) (members.number_cell s) (members.number_cell a) (members.number_cell b)))) c
      ∙ ap (λ (x : Cell). row (entry 7 0 (cells len (number_cell f.kind) x (members.number_cell s) (members.number_cell a) (members.number_cell b)))) d
      ∙ ap (λ (x : Cell). row (entry 7 0 (cells len (number_cell f.kind) (number_cell f.targets) x (members.number_cell a) (members.number_cell b)))) e
      ∙ ap (λ (x : Cell). row (entry 7 0 (cells len (number_cell f.kind) (number_cell f.targets) (number_cell f.sources) x (members.number_cell b)))) h
      ∙ ap (λ (x : Cell). row (entry 7 0 (cells len (number_cell f.kind) (number_cell f.targets) (number_cell f.sources) (limit_cell f.total) x))) k

pub link-is : (target : ℕ) (z : ℤ) (sources : Option Part) → target < 2 ^ 64 → z ≡ int_of target → (r : List ℕ)
    → r ≡ connection_row (record { parent = Some 0; target = z; sources = sources; operation = None })
    → r ≡ row (link_entry target (members.part_cell numbers sources))
unfolding blanks
link-is target z sources h e r q =
    q ∙ connection-cells _
    ∙ ap (λ (i : ℕ). row (entry 8 1 (cell 2 i 0 ∷ members.part_cell numbers sources ∷ blanks 14))) (ap word_of e ∙ word-int target h)
