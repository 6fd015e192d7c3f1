-- Connections answered one after another, and the answers laid over those lent.
use Prim.Native.Nat.{ℕ, suc, ◌+◌, ◌≤◌, ◌<◌}
use mathlib.Core.Path.{◌≡◌, sym, ap, ◌∙◌}
use mathlib.Core.List.{List, [], ◌∷◌, ◌++◌}
use mathlib.Core.Bool.{true, false}
use native.Mathlib.Omega.{arith}
use borrow.Author.Tests.{eq-eqb, ne_eqb}
use lib.ListN.{length, take, drop, get_or, set, take-append-drop, drop_of_length-le}
use lib.Seq.{take-suc-set, drop-set-lt, drop-cons}
use Rattle.glow_rows.specs.Entry.{Rows}
use Rattle.glow_trees.specs.Content.{Item}
use Rattle.glow_trees.specs.Rows.{items_in}
use Rattle.desk_crosspoints.specs.Crosspoints.{Cells}
use Rattle.desk_crosspoints.specs.Desk.{Desk, with_cells, Answer, answer}
use Rattle.glow_paths.specs.Paths.{nobody, full_path, same}
use Rattle.desk_connections.specs.declared.Asked.{Asked}
use Rattle.desk_connections.specs.Connections.{ask_of, asks_in}
use Rattle.desk_connections.specs.Rows.{listed, Asks}
use Rattle.desk_connections.proofs.Rows.{asks-are}
use Rattle.glow_paths.proofs.Items.{in-length, in-kind, in-parent}
use Rattle.desk_sources.proofs.Sources.{append-again}
use Rattle.desk_calls.specs.Calls.{answered, Served, answers, served, handled, outcome}
use Rattle.desk_calls.specs.Steps.{laid_over, laid_at, asked_of, answered_at, served_in, left_from, Takes}

-- the answers, over those lent
pub laid-start : (z : Served) (lent : List ℕ) → laid_over z lent ≡ laid_at 0 z lent
unfolding laid_over laid_at
laid-start z lent = let d : 0 + length z.answers ≡ length z.answers = omega arith in rw d

pub laid_more : (n : ℕ) (x : ℕ) (ns : List ℕ) (cells : Cells) (lent : List ℕ) → n < length lent
    → laid_at n (answers (x ∷ ns) cells) lent ≡ laid_at (n + 1) (answers ns cells) (set lent n x)
unfolding laid_at
laid_more n x ns cells lent h =
    let d : n + suc (length ns) ≡ n + 1 + length ns = omega arith in
    let o : n + 1 ≡ suc n = omega arith in
    let k : n < n + 1 + length ns = omega arith in
    let t : take (n + 1) (set lent n x) ≡ take n lent ++ (x ∷ []) = ap (λ (i : ℕ). take i (set lent n x)) o ∙ take-suc-set lent n x h in
    rw (d, t, drop-set-lt (n + 1 + length ns) lent n x k, append-again (take n lent) x (ns ++ drop (n + 1 + length ns) lent))

pub laid_end : (n : ℕ) (cells : Cells) (lent : List ℕ) → laid_at n (answers [] cells) lent ≡ outcome 0 n lent cells
unfolding laid_at
laid_end n cells lent = let d : n + 0 ≡ n = omega arith in rw (d, take-append-drop n lent)

-- the connections from place i on
module _ (d : Desk) (es : List Item) (i : ℕ) where
  abbrev from : Served
  from = served d (asks_in es (drop i es))

  pub serve-none : length es ≤ i → from ≡ answers [] d.crosspoints
  unfolding asks_in served
  serve-none h = rw (drop_of_length-le es h)

  module _ (h : i < length es) where
    first : drop i es ≡ get_or es i nobody ∷ drop (i + 1) es
    first = let d : suc i ≡ i + 1 = omega arith in drop-cons es i nobody h ∙ ap (λ (j : ℕ). get_or es i nobody ∷ drop j es) d

    pub serve-other : ((get_or es i nobody).kind ≡ 8 → ⊥) → from ≡ served d (asks_in es (drop (i + 1) es))
    unfolding asks_in
    serve-other k = rw (first, ne_eqb _ _ k)

    pub serve-one : (get_or es i nobody).kind ≡ 8 → (x : ℕ) (after : Cells) → answered d (ask_of es (get_or es i nobody)) ≡ answer x after
        → from ≡ answers (x ∷ (served (with_cells d after) (asks_in es (drop (i + 1) es))).answers)
        (served (with_cells d after) (asks_in es (drop (i + 1) es))).cells
    unfolding asks_in served
    serve-one k x after e = rw (first, eq-eqb _ _ k, e)

-- the loop over the entries
module _ (rows : Rows) (count : ℕ) (s : List ℕ) (c : count ≤ length rows) where
  pub serve-start : (d : Desk) (lent : List ℕ) → served_in d rows count s lent ≡ laid_at 0 (left_from d rows count s 0) lent
  unfolding handled
  serve-start d lent = laid-start (left_from d rows count s 0) lent

  module _ (d : Desk) (i n : ℕ) (lent : List ℕ) where
    abbrev es : List Item
    es = items_in s rows count

    pub serve-end : count ≤ i → laid_at n (left_from d rows count s i) lent ≡ outcome 0 n lent d.crosspoints
    serve-end k =
        ap (λ (z : Served). laid_at n z lent) (serve-none d es i (omega (arith, k, in-length s rows count c)))
        ∙ laid_end n d.crosspoints lent

    module _ (k : i < count) (kind : ℕ) (e : kind ≡ get_or (get_or rows i []) 0 0) where
      there : i < length es
      there = omega (arith, k, in-length s rows count c)

      pub entry_other : (kind ≡ 8 → ⊥) → Takes d rows count s i n lent n lent d.crosspoints
      entry_other k' =
          ap (λ (z : Served). laid_at n z lent)
          (serve-other d es i there (λ z. k' (e ∙ sym (in-kind s rows count c i k) ∙ z)))

      pub entry-asks : kind ≡ 8 → n < length lent → (x : ℕ) (after : Cells) → answered_at d rows count s i ≡ answer x after
          → Takes d rows count s i n lent (n + 1) (set lent n x) after
      entry-asks k' l x after a =
          ap (λ (z : Served). laid_at n z lent)
          (serve-one d es i there (in-kind s rows count c i k ∙ sym e ∙ k') x after a)
          ∙ laid_more n x _ _ lent l

-- one connection
module _ (d : Desk) (s : List ℕ) (rows : Rows) (count : ℕ) (c : count ≤ length rows) (i : ℕ) (k : i < count) where
  abbrev items : List Item
  items = items_in s rows count

  abbrev here : Item
  here = get_or items i nobody

  module _ (p : ℕ) (e : p ≡ get_or (get_or rows i []) 1 0) where
    matrix-is : full_path items here.parent ≡ full_path items p
    matrix-is = ap (full_path items) (in-parent s rows count c i k ∙ sym e)

    pub other-matrix : same (full_path items p) d.path ≡ false → answered d (ask_of items here) ≡ answer 40 d.crosspoints
    unfolding answered ask_of
    other-matrix h = rw (matrix-is, h)

    pub own-matrix : same (full_path items p) d.path ≡ true → (a : Asked) → Asks s (get_or rows i []) a
        → (r : Answer) → asked_of d a.target (listed s a) a.operation ≡ r → answered d (ask_of items here) ≡ r
    unfolding answered
    own-matrix h a x r b = ap (answered d) (asks-are s rows count c i k a x) ∙ rw (matrix-is, h) b

pub answer-same : (a : Answer) (x y : ℕ) (after : Cells) → a ≡ answer x after → y ≡ x → a ≡ answer y after
answer-same a x y after e d = e ∙ ap (λ (i : ℕ). answer i after) (sym d)
