-- The rules at a small message, by computation, on a desk of three targets and three sources. Its path is 1.5.2.
use Rattle.std.specs.Prelude.{Some, None}
use Prim.Native.Nat.{ℕ, zero, suc}
use mathlib.Core.Path.{◌≡◌, refl}
use mathlib.Core.List.{List, [], ◌∷◌}
use Rattle.glow_trees.specs.Content.{Content, nothing, word, bytes, Item, item, items_of}
use Rattle.glow_trees.specs.Rows.{entries_of, items_in}
use Rattle.glow_rows.specs.Entry.{Rows}
use Rattle.glow_sizes.specs.Accepted.{accepted}
use Rattle.ber_identifiers.specs.Identifier.{arc_is, arc_from, arc_at, arcs_from}
use Rattle.desk_crosspoints.specs.declared.Figures.{Figures}
use Rattle.desk_crosspoints.specs.Figures.{is_count, figures_fit, most_each, most_total}
use Rattle.desk_crosspoints.specs.Crosspoints.{Cells, bit, count, all_bits, clear, row_at, with_row, holders, taken_from, rows_fit, sources_fit}
use Rattle.desk_crosspoints.specs.Crosspoints.{kind_fits, cells_fit, legal}
use Rattle.desk_crosspoints.specs.Desk.{desk_at, path_fits, all_numbers, desk_legal}
use Rattle.desk_requests.specs.Request.{marked, named, all_below, replaces, becomes, takes, others, row_after, result_of}
use Rattle.desk_requests.specs.Request.{first_of, many, over_total, checks, judged, asked, requested}
use Rattle.glow_paths.specs.Paths.{numbers_in, is_qualified, path_up, full_path, same}
use Rattle.desk_connections.specs.Connections.{ask_of, asks_in}
use Rattle.desk_calls.specs.Calls.{answered, answers, served, handled, outcome, filled, laid, called}
use Rattle.desk_setup.specs.Ready.{is_ready}

abbrev desk : ℕ → Figures
desk kind = record { kind = kind; targets = 3; sources = 3; total = None; each = None }

abbrev cells9 : ℕ → ℕ → ℕ → ℕ → ℕ → ℕ → ℕ → ℕ → ℕ → Cells
cells9 a b c d e f g h i = a ∷ b ∷ c ∷ d ∷ e ∷ f ∷ g ∷ h ∷ i ∷ []

-- a node or a matrix by its number, qualified ones by their path, a connection (target, sources, operation)
abbrev node : ℕ → ℕ → Item
node parent n = item 3 parent (word 2 n ∷ [])

abbrev matrix : ℕ → ℕ → Item
matrix parent n = item 4 parent (word 2 n ∷ [])

abbrev qualified_node : List ℕ → Item
qualified_node path = item 6 0 (bytes 13 path ∷ [])

abbrev qualified_matrix : List ℕ → Item
qualified_matrix path = item 7 0 (bytes 13 path ∷ [])

abbrev link : ℕ → ℕ → Content → Content → Item
link parent target sources operation = item 8 parent (word 2 target ∷ sources ∷ operation ∷ [])

abbrev from : List ℕ → Content
from octets = bytes 13 octets

abbrev as_is : Content
as_is = nothing

abbrev operation : ℕ → Content
operation n = word 2 n

-- numbers up to 2,147,483,647, in octets
pub v-numbers :
    (numbers_in [] ≡ []) ×
    (numbers_in (1 ∷ 5 ∷ 2 ∷ []) ≡ 1 ∷ 5 ∷ 2 ∷ []) ×
    (numbers_in (129 ∷ 0 ∷ 127 ∷ []) ≡ 128 ∷ 127 ∷ [])
unfolding arc_is arc_from arc_at arcs_from numbers_in
v-numbers = (refl, refl, refl)

-- "Which path has a matrix that is not qualified?": its parents' numbers, from a qualified parent's path on
pub v-paths :
    (full_path (node 0 1 ∷ node 1 5 ∷ matrix 2 2 ∷ []) 3 ≡ 1 ∷ 5 ∷ 2 ∷ []) ×
    (full_path (qualified_node (1 ∷ 5 ∷ []) ∷ matrix 1 2 ∷ []) 2 ≡ 1 ∷ 5 ∷ 2 ∷ []) ×
    (full_path (qualified_matrix (1 ∷ 5 ∷ 2 ∷ []) ∷ []) 1 ≡ 1 ∷ 5 ∷ 2 ∷ []) ×
    (full_path (node 0 4 ∷ matrix 0 7 ∷ []) 2 ≡ 7 ∷ [])
unfolding arc_is arc_from arc_at arcs_from numbers_in is_qualified path_up
v-paths = (refl, refl, refl, refl)

-- Every connection is answered in order, also after a refused one, and crosspoints are handed on; other entries ask nothing.
pub v-order :
    handled (desk_at (desk 0) (1 ∷ 5 ∷ 2 ∷ []) (cells9 0 0 0 0 0 0 0 0 1))
    (qualified_node (1 ∷ 5 ∷ []) ∷ matrix 1 2 ∷ link 2 0 (from (1 ∷ [])) as_is ∷ link 2 9 (from (1 ∷ [])) as_is
    ∷ link 2 1 (from (9 ∷ [])) as_is ∷ link 2 0 (from (2 ∷ 2 ∷ [])) (operation 1) ∷ [])
    ≡ answers (0 ∷ 41 ∷ 42 ∷ 0 ∷ []) (cells9 0 0 1 0 0 0 0 0 1)
unfolding is_count figures_fit most_each most_total
    bit count all_bits clear row_at with_row holders taken_from rows_fit sources_fit kind_fits cells_fit legal
    marked named all_below replaces becomes takes others row_after result_of first_of many over_total checks judged asked requested
    arc_is arc_from arc_at arcs_from numbers_in is_qualified path_up ask_of asks_in same answered served handled
v-order = refl

-- "40 MATRIX: other path", before 41; "A missing list is empty", absolute by default; no connections, no answers
pub v-others :
    (handled (desk_at (desk 0) (1 ∷ 5 ∷ 2 ∷ []) (cells9 0 0 0 0 0 0 0 0 1))
    (qualified_matrix (1 ∷ 5 ∷ 3 ∷ []) ∷ link 1 9 nothing as_is ∷ qualified_matrix (1 ∷ 5 ∷ 2 ∷ []) ∷ link 3 2 nothing as_is ∷ [])
    ≡ answers (40 ∷ 0 ∷ []) (cells9 0 0 0 0 0 0 0 0 0)) ×
    -- a longer path, and a shorter
    (handled (desk_at (desk 0) (1 ∷ 5 ∷ 2 ∷ []) (cells9 0 0 0 0 0 0 0 0 1))
    (qualified_matrix (1 ∷ 5 ∷ 2 ∷ 1 ∷ []) ∷ link 1 2 nothing as_is ∷ [])
    ≡ answers (40 ∷ []) (cells9 0 0 0 0 0 0 0 0 1)) ×
    (handled (desk_at (desk 0) (1 ∷ 5 ∷ 2 ∷ []) (cells9 0 0 0 0 0 0 0 0 1))
    (qualified_matrix (5 ∷ 2 ∷ []) ∷ link 1 2 nothing as_is ∷ [])
    ≡ answers (40 ∷ []) (cells9 0 0 0 0 0 0 0 0 1)) ×
    (handled (desk_at (desk 0) (1 ∷ []) (cells9 0 0 0 0 0 0 0 0 1))
    (qualified_matrix (1 ∷ []) ∷ []) ≡ answers [] (cells9 0 0 0 0 0 0 0 0 1))
unfolding is_count figures_fit most_each most_total
    bit count all_bits clear row_at with_row holders taken_from rows_fit sources_fit kind_fits cells_fit legal
    marked named all_below replaces becomes takes others row_after result_of first_of many over_total checks judged asked requested
    arc_is arc_from arc_at arcs_from numbers_in is_qualified path_up ask_of asks_in same answered served handled
v-others = (refl, refl, refl, refl)

-- in 1:1 the second connection takes the source from the first one's target
pub v-moved :
    handled (desk_at (desk 1) (7 ∷ []) (cells9 0 0 0 0 0 0 0 0 0))
    (matrix 0 7 ∷ link 1 0 (from (2 ∷ [])) (operation 1) ∷ link 1 1 (from (2 ∷ [])) (operation 0) ∷ [])
    ≡ answers (0 ∷ 0 ∷ []) (cells9 0 0 0 0 0 1 0 0 0)
unfolding is_count figures_fit most_each most_total
    bit count all_bits clear row_at with_row holders taken_from rows_fit sources_fit kind_fits cells_fit legal
    marked named all_below replaces becomes takes others row_after result_of first_of many over_total checks judged asked requested
    arc_is arc_from arc_at arcs_from numbers_in is_qualified path_up ask_of asks_in same answered served handled
v-moved = refl

-- The answers in order, then zeros; 1 leaves all: a desk that is not legal, entries that no row holds.
pub v-left :
    (laid (answers (0 ∷ 41 ∷ []) (cells9 1 0 0 0 0 0 0 0 0)) ≡ outcome 0 2 (0 ∷ 41 ∷ clear 254) (cells9 1 0 0 0 0 0 0 0 0)) ×
    (called (desk_at (desk 0) [] (cells9 0 0 0 0 0 0 0 0 0)) 0 [] 0 [] ≡ outcome 1 0 (clear 256) (cells9 0 0 0 0 0 0 0 0 0)) ×
    (called (desk_at (desk 0) (1 ∷ []) (cells9 1 1 0 0 0 0 0 0 0)) 0 [] 0 [] ≡ outcome 1 0 (clear 256) (cells9 1 1 0 0 0 0 0 0 0)) ×
    (called (desk_at (desk 0) (1 ∷ []) (cells9 0 0 0 0 0 0 0 0 0)) 0 [] 1 [] ≡ outcome 1 0 (clear 256) (cells9 0 0 0 0 0 0 0 0 0))
unfolding is_count figures_fit most_each most_total
    bit count all_bits clear row_at with_row holders taken_from rows_fit sources_fit kind_fits cells_fit legal
    path_fits all_numbers desk_legal is_ready called laid filled
v-left = (refl, refl, refl, refl)

-- "table over 256 entries, message over 16,384 bytes": 257 rows, 16,385 bytes; with 256 and 16,384 neither is the reason
abbrev table : ℕ → Rows
table zero = []
table (suc n) = clear 50 ∷ table n

pub v-long :
    (called (desk_at (desk 0) (1 ∷ []) (cells9 0 0 0 0 0 0 0 0 0)) 0 (table 257) 0 [] ≡ outcome 1 0 (clear 256) (cells9 0 0 0 0 0 0 0 0 0)) ×
    (called (desk_at (desk 0) (1 ∷ []) (cells9 0 0 0 0 0 0 0 0 0)) 0 [] 0 (clear 16385) ≡ outcome 1 0 (clear 256) (cells9 0 0 0 0 0 0 0 0 0)) ×
    (is_ready (desk_at (desk 0) (1 ∷ []) (cells9 0 0 0 0 0 0 0 0 0)) 0 (table 256) 0 (clear 16384) ≡ accepted 0 [])
unfolding is_count figures_fit most_each most_total
    bit count all_bits clear row_at with_row holders taken_from rows_fit sources_fit kind_fits cells_fit legal
    path_fits all_numbers desk_legal is_ready called items_in entries_of items_of
v-long = (refl, refl, refl)

-- Every number that a connection is answered, in one message: 0, 40 MATRIX, 41 TARGET, 42 SOURCE, 43 MANY, 44 TOTAL.
pub v-answers :
    handled (desk_at (record { kind = 2; targets = 3; sources = 3; total = Some 3; each = Some 2 }) (7 ∷ []) (cells9 0 0 0 0 0 0 0 0 0))
    (matrix 0 7 ∷ matrix 0 8 ∷ link 1 0 (from (0 ∷ 1 ∷ [])) as_is ∷ link 2 9 (from (9 ∷ [])) as_is ∷ link 1 3 (from (9 ∷ [])) as_is
    ∷ link 1 2 (from (3 ∷ [])) as_is ∷ link 1 2 (from (0 ∷ 1 ∷ 2 ∷ [])) as_is ∷ link 1 2 (from (0 ∷ 1 ∷ [])) as_is ∷ [])
    ≡ answers (0 ∷ 40 ∷ 41 ∷ 42 ∷ 43 ∷ 44 ∷ []) (cells9 1 1 0 0 0 0 0 0 0)
unfolding is_count figures_fit most_each most_total
    bit count all_bits clear row_at with_row holders taken_from rows_fit sources_fit kind_fits cells_fit legal
    marked named all_below replaces becomes takes others row_after result_of first_of many over_total checks judged asked requested
    arc_is arc_from arc_at arcs_from numbers_in is_qualified path_up ask_of asks_in same answered served handled
v-answers = refl
