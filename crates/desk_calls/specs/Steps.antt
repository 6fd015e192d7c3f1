-- For the functions of this crate.
use Rattle.std.specs.Prelude.{ℕ, ◌+◌, ◌≡◌, List, ◌++◌, length, take, drop, get_or}
use Rattle.glow_rows.specs.Entry.{Rows}
use Rattle.glow_trees.specs.Rows.{items_in}
use Rattle.desk_crosspoints.specs.Crosspoints.{Cells}
use Rattle.desk_crosspoints.specs.Desk.{Desk, with_cells, Answer}
use Rattle.desk_requests.specs.Request.{request, requested}
use Rattle.glow_paths.specs.Paths.{numbers_in, nobody}
use Rattle.desk_connections.specs.Connections.{ask_of, asks_in}
use Rattle.desk_calls.specs.Calls.{answered, Served, served, handled, Outcome, outcome}

-- With the message beside the first n rows: a request with the sources that octets name, the answer to the connection at place i, and what the connections from
-- place i on still give.
abbrev pub asked_of : Desk → ℕ → List ℕ → ℕ → Answer
asked_of d target octets operation = requested d (request target (numbers_in octets) operation)

abbrev pub answered_at : Desk → Rows → ℕ → List ℕ → ℕ → Answer
answered_at d rows n s i = answered d (ask_of (items_in s rows n) (get_or (items_in s rows n) i nobody))

abbrev pub left_from : Desk → Rows → ℕ → List ℕ → ℕ → Served
left_from d rows n s i = served d (asks_in (items_in s rows n) (drop i (items_in s rows n)))

-- the answers over the first of a list, and from place k on
unfoldable pub laid_over : Served → List ℕ → Outcome
laid_over z lent = outcome 0 (length z.answers) (z.answers ++ drop (length z.answers) lent) z.cells

unfoldable pub laid_at : ℕ → Served → List ℕ → Outcome
laid_at k z lent = outcome 0 (k + length z.answers) (take k lent ++ (z.answers ++ drop (k + length z.answers) lent)) z.cells

-- the entry at place i takes the call from k answers to m
abbrev pub Takes : Desk → Rows → ℕ → List ℕ → ℕ → ℕ → List ℕ → ℕ → List ℕ → Cells → Type 0
Takes d rows n s i k lent m lent' cells' =
    laid_at k (left_from d rows n s i) lent ≡ laid_at m (left_from (with_cells d cells') rows n s (i + 1)) lent'

-- all of them
abbrev pub served_in : Desk → Rows → ℕ → List ℕ → List ℕ → Outcome
served_in d rows n s lent = laid_over (handled d (items_in s rows n)) lent
