-- Entries in a lent table: what putting a cell or a new entry does to the rows.
use Prim.Native.Nat.{ℕ, zero, suc, ◌+◌, ◌*◌, ◌≤◌, ◌<◌}
use mathlib.Core.Path.{◌≡◌, refl, sym, ap, ◌∙◌}
use mathlib.Core.List.{List, [], ◌∷◌, ◌++◌}
use mathlib.Core.Logic.{⊎_elim}
use native.Mathlib.Omega.{arith}
use Rattle.ber_integers.proofs.Radix.{lt-or-le}
use borrow.Author.Tests.{lt-ltb, le-ltb}
use lib.ListN.{length, length-set, get_or, set}
use lib.Seq.{set-get_or, set_out}
use Rattle.glow_rows.specs.declared.Cell.{Cell}
use Rattle.glow_rows.specs.Entry.{Entry, Entries, blank, with_cell, put_cell, words, row, Rows, overlay}
use Rattle.glow_rows.specs.Row.{cell_put, blanked}

pub overlay-none : (es : Entries) → overlay es [] ≡ []
unfolding overlay
overlay-none [] = refl
overlay-none (e ∷ es) = refl

pub overlay-length : (es : Entries) (rows : Rows) → length (overlay es rows) ≡ length rows
unfolding overlay
overlay-length [] rows = refl
overlay-length (e ∷ es) [] = refl
overlay-length (e ∷ es) (r ∷ rows) = ap suc (overlay-length es rows)

pub length-put : (es : Entries) (i c : ℕ) (v : Cell) → length (put_cell es i c v) ≡ length es
unfolding put_cell
length-put es i c v = length-set es i _

-- three words in a row
abbrev pub three : List ℕ → ℕ → Cell → List ℕ
three l n v = set (set (set l n v.kind) (suc n) v.first) (suc (suc n)) v.second

pub words-set : (vs : List Cell) (c : ℕ) (v : Cell) → words (set vs c v) ≡ three (words vs) (c * 3) v
unfolding words
words-set [] c v = refl
words-set (w ∷ vs) zero v = refl
words-set (w ∷ vs) (suc c) v =
    let n : suc c * 3 ≡ suc (suc (suc (c * 3))) = omega arith in
    rw (n, words-set vs c v)

pub row-set : (k p : ℕ) (vs : List Cell) (c : ℕ) (v : Cell)
    → set (set (set (k ∷ p ∷ words vs) (2 + c * 3) v.kind) (3 + c * 3) v.first) (4 + c * 3) v.second ≡ k ∷ p ∷ words (set vs c v)
row-set k p vs c v =
    let a : 2 + c * 3 ≡ suc (suc (c * 3)) = omega arith in
    let b : 3 + c * 3 ≡ suc (suc (suc (c * 3))) = omega arith in
    let d : 4 + c * 3 ≡ suc (suc (suc (suc (c * 3)))) = omega arith in
    rw (a, b, d, words-set vs c v)

-- another entry at a place
pub overlay-set : (es : Entries) (rows : Rows) (i : ℕ) (e : Entry) → i < length es → overlay (set es i e) rows ≡ set (overlay es rows) i (row e)
unfolding overlay
overlay-set [] rows i e h = absurd (omega arith)
overlay-set (x ∷ es) [] zero e h = refl
overlay-set (x ∷ es) [] (suc i) e h = refl
overlay-set (x ∷ es) (r ∷ rows) zero e h = refl
overlay-set (x ∷ es) (r ∷ rows) (suc i) e h = let k : i < length es = omega arith in ap (λ (t : Rows). row x ∷ t) (overlay-set es rows i e k)

pub overlay-at : (es : Entries) (rows : Rows) (i : ℕ) → i < length es → i < length rows → get_or (overlay es rows) i [] ≡ row (get_or es i (blank 0 0))
unfolding overlay
overlay-at [] rows i h k = absurd (omega arith)
overlay-at (x ∷ es) [] i h k = absurd (omega arith)
overlay-at (x ∷ es) (r ∷ rows) zero h k = refl
overlay-at (x ∷ es) (r ∷ rows) (suc i) h k = let h' : i < length es = omega arith in let k' : i < length rows = omega arith in overlay-at es rows i h' k'

same_out : (t : Rows) (i : ℕ) (a b : List ℕ) → length t ≤ i → set t i a ≡ set t i b
same_out t i a b h = set_out t i a h ∙ sym (set_out t i b h)

module _ (es : Entries) (rows : Rows) (i c : ℕ) (v : Cell) (h : i < length es) where
  low : c < 16 → i < length rows → overlay (put_cell es i c v) rows ≡ cell_put (overlay es rows) i c v
  unfolding cell_put put_cell with_cell
  low k l =
      let e : Entry = get_or es i (blank 0 0) in
      rw (lt-ltb _ _ k, overlay-at es rows i h l, row-set e.kind e.parent e.cells c v) (overlay-set es rows i _ h)

  past : c < 16 → length rows ≤ i → overlay (put_cell es i c v) rows ≡ cell_put (overlay es rows) i c v
  unfolding cell_put put_cell
  past k l =
      let n : length (overlay es rows) ≤ i = omega (arith, overlay-length es rows) in
      rw (lt-ltb _ _ k) (overlay-set es rows i _ h ∙ same_out (overlay es rows) i _ _ n)

  beyond : 16 ≤ c → overlay (put_cell es i c v) rows ≡ cell_put (overlay es rows) i c v
  unfolding cell_put put_cell with_cell
  beyond k = rw (le-ltb _ _ k, set-get_or es i (blank 0 0))

  pub overlay-put : overlay (put_cell es i c v) rows ≡ cell_put (overlay es rows) i c v
  overlay-put =
      ⊎_elim (λ (k : c < 16). ⊎_elim (λ (l : i < length rows). low k l) (λ (l : length rows ≤ i). past k l) (lt-or-le i (length rows)))
      (λ (k : 16 ≤ c). beyond k) (lt-or-le c 16)

pub overlay-new : (es : Entries) (rows : Rows) (kind parent : ℕ)
    → overlay (es ++ (blank kind parent ∷ [])) rows ≡ blanked (overlay es rows) (length es) kind parent
unfolding overlay blanked
overlay-new [] [] kind parent = refl
overlay-new [] (r ∷ rows) kind parent = refl
overlay-new (e ∷ es) [] kind parent = refl
overlay-new (e ∷ es) (r ∷ rows) kind parent = ap (λ (t : Rows). row e ∷ t) (overlay-new es rows kind parent)
