-- The desk's call on a message's entries (document 01, "Desk" and "Numbers answered").
use Rattle.std.specs.Prelude.{ℕ, ◌-◌, List, [], ◌∷◌, ◌++◌, length}
use Rattle.base_choices.specs.Choices.{pick}
use Rattle.glow_rows.specs.Entry.{Rows}
use Rattle.glow_trees.specs.Content.{Item}
use Rattle.glow_trees.specs.Rows.{items_in}
use Rattle.glow_reader.specs.declared.Answer as reader
use Rattle.glow_reader.specs.declared.Answer.TheVariants.{Setup, Refused, Room, Read}
use Rattle.desk_crosspoints.specs.Crosspoints.{Cells, clear}
use Rattle.desk_crosspoints.specs.Desk.{Desk, with_cells, Answer, answer}
use Rattle.desk_setup.specs.Ready.{is_ready}
use Rattle.desk_requests.specs.Request.{Request, request, requested}
use Rattle.desk_calls.specs.declared.Called.{Called}
use Rattle.glow_paths.specs.Paths.{same}
use Rattle.desk_connections.specs.Connections.{Ask, asks_of}

-- a connection's request: its matrix apart
abbrev pub request_of : Ask → Request
request_of a = request a.target a.sources a.operation

-- "40 MATRIX: other path", before 41; else what the request gives
unfoldable pub answered : Desk → Ask → Answer
answered d a = pick (same a.matrix d.path) (requested d (request_of a)) (answer 40 d.crosspoints)

-- The answers in order, and the crosspoints after them.
pub record Served : Type 0 where
  pub answers : List ℕ
  pub cells : Cells

abbrev pub answers : List ℕ → Cells → Served
answers ns cells = record { answers = ns; cells = cells }

abbrev pub and_then : Answer → (Cells → Served) → Served
and_then a rest = answers (a.number ∷ (rest a.cells).answers) (rest a.cells).cells

-- "A message's connections are taken in order, each answered, also after a refused one.": each on the desk that the one before it left
unfoldable pub served : Desk → List Ask → Served
served d [] = answers [] d.crosspoints
served d (a ∷ later) = and_then (answered d a) (λ cells. served (with_cells d cells) later)

-- the desk and a message's entries: what the rules give where neither is SETUP's matter
unfoldable pub handled : Desk → List Item → Served
handled d es = served d (asks_of es)

-- What a call answers, and the crosspoints after it: document 01's number, how many connections were answered, and 256 bytes, which hold an answer for each
-- of the most entries that there can be.
pub record Outcome : Type 0 where
  pub number : ℕ
  pub count : ℕ
  pub answers : List ℕ
  pub cells : Cells

abbrev pub outcome : ℕ → ℕ → List ℕ → Cells → Outcome
outcome number count answers cells = record { number = number; count = count; answers = answers; cells = cells }

-- the answers in order, then zeros
unfoldable pub filled : List ℕ → List ℕ
filled ns = ns ++ clear (256 - length ns)

unfoldable pub laid : Served → Outcome
laid z = outcome 0 (length z.answers) (filled z.answers) z.cells

-- no connection answered, and the crosspoints as they were
abbrev pub unserved : Cells → Outcome
unserved cells = outcome 1 0 (clear 256) cells

-- the call on the first n rows, with the message beside them; "1 leaves everything as it was", for what `is_ready` names
unfoldable pub called : Desk → ℕ → Rows → ℕ → List ℕ → Outcome
called d root rows n s = pick (is_ready d root rows n s) (laid (handled d (items_in s rows n))) (unserved d.crosspoints)

-- what the answer says, with the crosspoints after it
abbrev pub outcome_of : Called → Cells → Outcome
outcome_of r cells = outcome r.number r.count r.answers cells

-- where the desk is not called: no answers, and the crosspoints as they were
abbrev pub uncalled : Cells → Outcome
uncalled cells = outcome 0 0 (clear 256) cells

-- After the tree reader's call on the message s: if it gave 0, the call on those entries, as read.
abbrev pub called_after : Desk → List ℕ → reader.Answer → Rows → Outcome
called_after d s Setup table = uncalled d.crosspoints
called_after d s (Refused number place) table = uncalled d.crosspoints
called_after d s (Room count) table = uncalled d.crosspoints
called_after d s (Read root count) table = called d root table count s
