-- What a connection asks, by the row that it stands in.
use Prim.Native.Nat.{ℕ, ◌≤◌, ◌<◌, ◌^◌}
use mathlib.Core.Path.{◌≡◌, refl, sym, ap, subst, ◌∙◌}
use mathlib.Core.List.{List, []}
use native.Mathlib.Omega.{arith}
use lib.ListN.{length, get_or, get_or-eq_default}
use Rattle.glow_rows.specs.declared.Cell.{Cell}
use Rattle.glow_rows.specs.Cell.{numbers, number_in, octets_in}
use Rattle.glow_rows.specs.Entry.{Rows}
use Rattle.glow_rows.specs.Row.{cell_in, cells_from, row_cell}
use Rattle.glow_trees.specs.Content.{Item, content_of}
use Rattle.glow_trees.specs.Rows.{items_in}
use Rattle.glow_entries.specs.declared.Connection.{Connection}
use Rattle.glow_entries.specs.Member.{part_cell}
use Rattle.glow_entries.specs.Record.{connection_of}
use Rattle.glow_entries.proofs.Words.{part-octets}
use Rattle.glow_paths.specs.Paths.{number_of, octets_of, numbers_in, nobody, full_path, member_of}
use Rattle.glow_paths.proofs.Items.{in-first, in-second, in-third, number-content, octets-content}
use Rattle.desk_connections.specs.declared.Asked.{Asked}
use Rattle.desk_connections.specs.Connections.{ask, ask_of}
use Rattle.desk_connections.specs.Rows.{listed, Asks}

-- a number's content, by its cell
pub number_is : (s : List ℕ) (v : Cell) (w n : ℕ) → w ≡ number_in v → w ≡ n → n < 2 ^ 64 → number_of (content_of s v) ≡ n
number_is s v w n e d h =
    let k : number_in v ≡ n = sym e ∙ d in
    number-content s v (subst (λ (m : ℕ). m < 2 ^ 64) (sym k) h) ∙ k

-- the octets of the sources that a row's struct has
pub sources-is : (s r : List ℕ) (e : Connection) (bs : List ℕ) → e ≡ connection_of r → bs ≡ octets_in s (part_cell numbers e.sources)
    → bs ≡ octets_of (content_of s (cell_in r 1))
unfolding connection_of
sources-is s r e bs q h =
    h ∙ ap (λ (x : Connection). octets_in s (part_cell numbers x.sources)) q ∙ part-octets s (cell_in r 1) ∙ sym (octets-content s (cell_in r 1))

module _ (s : List ℕ) (rows : Rows) (n : ℕ) (h : n ≤ length rows) (i : ℕ) (k : i < n) (a : Asked) (x : Asks s (get_or rows i []) a) where
  abbrev items : List Item
  items = items_in s rows n

  abbrev here : Item
  here = get_or items i nobody

  target_is : number_of (member_of here 0) ≡ a.target
  unfolding row_cell cells_from cell_in
  target_is = ap number_of (in-first s rows n h i k) ∙ x.target

  sources-are : octets_of (member_of here 1) ≡ listed s a
  unfolding row_cell cells_from cell_in
  sources-are = ap octets_of (in-second s rows n h i k) ∙ sym x.sources

  operation-is : number_of (member_of here 2) ≡ a.operation
  unfolding row_cell cells_from cell_in
  operation-is = ap number_of (in-third s rows n h i k) ∙ x.operation

  pub asks-are : ask_of items here ≡ ask (full_path items here.parent) a.target (numbers_in (listed s a)) a.operation
  unfolding ask_of
  asks-are = rw (target_is, sources-are, operation-is)

-- past the rows' end
none-asks : (s : List ℕ) → Asks s [] (record { target = 0; operation = 0; start = 0; end = 0 })
unfolding cell_in content_of
none-asks s = record { target = refl; operation = refl; sources = refl; within = (omega arith, omega arith) }

pub past-asks : (s : List ℕ) (rows : Rows) (i : ℕ) (a : Asked) → length rows ≤ i → a ≡ record { target = 0; operation = 0; start = 0; end = 0 }
    → Asks s (get_or rows i []) a
past-asks s rows i a h e =
    subst (λ (r : List ℕ). Asks s r a) (sym (get_or-eq_default rows [] h)) (subst (Asks s []) (sym e) (none-asks s))
