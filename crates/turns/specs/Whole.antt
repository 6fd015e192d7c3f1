-- A whole turn as one function gives it: the three calls, one after another.
use Rattle.std.specs.Prelude.{ℕ, List, take}
use Rattle.framing_session.specs.declared.Event.{Event}
use Rattle.framing_session.specs.declared.Event.TheVariants as ev
use Rattle.glow_rows.specs.Entry.{Rows}
use Rattle.glow_reader.specs.declared.Answer.{Answer}
use Rattle.glow_reader.specs.declared.Answer.TheVariants.{Setup, Refused, Room, Read}
use Rattle.glow_reader.specs.Message.{Result, read_at}
use Rattle.desk_crosspoints.specs.Crosspoints.{Cells, clear}
use Rattle.desk_crosspoints.specs.Desk.{Desk}
use Rattle.desk_calls.specs.Calls.{Outcome, outcome, called}
use Rattle.turns.specs.declared.After.{After}
use Rattle.turns.specs.declared.After.TheVariants as after
use Rattle.turn_rules.specs.Turns.{Later, none, read, desk}

-- What came after the session's call, the answers, and the table and the crosspoints after it.
pub record Left : Type 0 where
  pub later : Later
  pub answers : List ℕ
  pub table : Rows
  pub crosspoints : Cells

abbrev pub left : Later → List ℕ → Rows → Cells → Left
left x answers table cells = record { later = x; answers = answers; table = table; crosspoints = cells }

-- where the desk was not called there are no answers
abbrev pub unasked : Later → Rows → Cells → Left
unasked x table cells = left x (clear 256) table cells

-- For each case of the function's answer what came after.
abbrev pub later_of : After → List ℕ → Rows → Cells → Later
later_of after.Nothing answers table cells = none
later_of (after.Refused a) answers table cells = read a table
later_of (after.Served root count number answered) answers table cells = desk root count table (outcome number answered answers cells)

-- The function's answer, with what it leaves.
abbrev pub gave : After → List ℕ → Rows → Cells → Left
gave x answers table cells = left (later_of x answers table cells) answers table cells

-- the desk's call on the entries
abbrev pub desk_to : ℕ → ℕ → Rows → Outcome → Left
desk_to root count table o = left (desk root count table o) o.answers table o.cells

-- .. if the tree reader gave 0
abbrev pub answer_to : Desk → List ℕ → Answer → Rows → Left
answer_to d m Setup table = unasked (read Setup table) table d.crosspoints
answer_to d m (Refused number place) table = unasked (read (Refused number place) table) table d.crosspoints
answer_to d m (Room count) table = unasked (read (Room count) table) table d.crosspoints
answer_to d m (Read root count) table = desk_to root count table (called d root table count m)

-- the tree reader's call on a message
unfoldable pub read_to : Desk → List ℕ → Rows → Left
read_to d m table = let x : Result = read_at m table in answer_to d m x.answer x.rows

-- .. if the session gave 3; the message is the store's first bytes
abbrev pub later_at : Desk → Event → List ℕ → Rows → Left
later_at d ev.More t table = unasked none table d.crosspoints
later_at d ev.Setup t table = unasked none table d.crosspoints
later_at d (ev.Piece b) t table = unasked none table d.crosspoints
later_at d (ev.Message n b) t table = read_to d (take n t) table
later_at d ev.Request t table = unasked none table d.crosspoints
later_at d ev.Response t table = unasked none table d.crosspoints
later_at d (ev.Refused f b) t table = unasked none table d.crosspoints
