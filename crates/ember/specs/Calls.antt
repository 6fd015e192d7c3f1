-- What the C library answers and leaves, for all lent slices. Session, writer of frames, tree reader and tree writer: as framing_c and glow_c say. Here: the
-- desk, a whole turn and route sheets. Which lengths fit a turn, and the words of answers: as ember_answers says.
use Rattle.std.specs.Prelude.{ℕ, List, [], ◌∷◌, ◌++◌, eqb, length, get_or, take}
use Rattle.base_choices.specs.Choices.{pick, both}
use Rattle.glow_rows.specs.Entry.{Rows}
use Rattle.framing_c.specs.Calls.{Called, calls}
use Rattle.desk_crosspoints.specs.Figures.{size_of}
use Rattle.desk_crosspoints.specs.Crosspoints.{Cells}
use Rattle.desk_crosspoints.specs.Desk.{Desk, desk_legal, Answer, answer, desk_opened}
use Rattle.desk_requests.specs.Request.{request, requested}
use Rattle.desk_calls.specs.Calls.{called}
use Rattle.turn_rules.specs.Turns.{none}
use Rattle.turns.specs.Whole.{Left, left}
use Rattle.framing_packets.specs.Written.{Outcome as Wrote}
use Rattle.sheet_writer.specs.Calls.{writes_sheet}
use Rattle.sheet_reader.specs.Calls as sheet
use Rattle.sheet_reader.specs.Calls.{sheet_read}
use Rattle.desk_words.specs.Words.{words_of, figures_at, desk_in, is_figures}
use Rattle.ember_answers.specs.Answers.{DeskCall, desk_call, counted, lengths_fit, next, later_words}

-- ---- the desk; words that are no figures are 1, with everything as it was

-- how many crosspoints a host lends for a desk; 0 for words that are no figures, and for figures out of range
unfoldable pub sizes : List ℕ → ℕ
sizes fs = pick (is_figures fs) (size_of (figures_at fs)) 0

unfoldable pub opens : List ℕ → List ℕ → ℕ → Cells → Answer
opens fs path mode cells = pick (is_figures fs) (desk_opened (desk_in fs path cells) mode) (answer 1 cells)

-- 1 where the desk is legal, else 0
unfoldable pub legals : List ℕ → List ℕ → Cells → ℕ
legals fs path cells = pick (both (is_figures fs) (desk_legal (desk_in fs path cells))) 1 0

-- a request; no path is lent, since it is not looked at
unfoldable pub requests : List ℕ → ℕ → List ℕ → ℕ → Cells → Answer
requests fs target sources operation cells =
    pick (is_figures fs) (requested (desk_in fs [] cells) (request target sources operation)) (answer 1 cells)

-- the desk's call; an answer of other than one word is 1 too
unfoldable pub desk_calls : List ℕ → List ℕ → ℕ → Rows → ℕ → List ℕ → List ℕ → Cells → List ℕ → DeskCall
desk_calls fs path root rows n s lent cells words =
    pick (both (is_figures fs) (eqb (length words) 1))
    (counted (called (desk_in fs path cells) root rows n s) lent words)
    (desk_call 1 lent cells words)

-- ---- a whole turn

-- A turn: the number and all that is lent, after it. The 256 bytes for answers hold those of this turn in order, then zeros.
pub record Turned : Type 0 where
  pub number : ℕ
  pub session : List ℕ
  pub store : List ℕ
  pub table : Rows
  pub crosspoints : Cells
  pub answers : List ℕ
  pub answer : List ℕ

abbrev pub turn : Called → Left → List ℕ → Turned
turn c x words =
    record {
      number = c.number;
      session = c.session;
      store = c.store;
      table = x.table;
      crosspoints = x.crosspoints;
      answers = x.answers;
      answer = words;
    }

-- what the session's call tells, in three words, and then the six
abbrev pub turn_of : Called → Left → Turned
turn_of c x = turn c x (c.answer ++ later_words x.later)

-- after the session's call: "1 leaves everything as it was"
abbrev pub turn_after : Called → Desk → Rows → List ℕ → List ℕ → Turned
turn_after c d table lent a =
    pick (eqb c.number 1) (turn c (left none lent table d.crosspoints) a)
    (turn_of c (next c.number (take (get_or c.answer 2 0) c.store) d table))

unfoldable pub turned : List ℕ → List ℕ → List ℕ → Desk → Rows → List ℕ → List ℕ → Turned
turned ws t bytes d table lent a = turn_after (calls ws t bytes (0 ∷ 0 ∷ 0 ∷ [])) d table lent a

-- 1 SETUP, first of all: words that are no figures, and lengths that do not fit
unfoldable pub turns : List ℕ → List ℕ → List ℕ → Rows → List ℕ → List ℕ → Cells → List ℕ → List ℕ → Turned
turns ws t bytes table fs path cells lent a =
    pick (both (is_figures fs) (lengths_fit (length table) (size_of (figures_at fs)) (length cells) (length path) (length a)))
    (turned ws t bytes (desk_in fs path cells) table lent a)
    (record { number = 1; session = ws; store = t; table = table; crosspoints = cells; answers = lent; answer = a })

-- ---- route sheets

-- Writing: a number, the output, and one word for the length.
pub record SheetPut : Type 0 where
  pub number : ℕ
  pub output : List ℕ
  pub answer : List ℕ

abbrev pub sheet_put : ℕ → List ℕ → List ℕ → SheetPut
sheet_put number out words = record { number = number; output = out; answer = words }

-- "1 leaves everything as it was"; after 46 the length is 0
unfoldable pub measured : Wrote → List ℕ → SheetPut
measured o words = sheet_put o.number o.output (pick (eqb o.number 1) words (o.count ∷ []))

-- words that are no figures are 1, and so is an answer of other than one word
unfoldable pub sheet_writes : List ℕ → List ℕ → Cells → List ℕ → List ℕ → SheetPut
sheet_writes fs path cells out words =
    pick (both (is_figures fs) (eqb (length words) 1)) (measured (writes_sheet (desk_in fs path cells) out) words) (sheet_put 1 out words)

-- Reading: a number, the store, the figures' words, the path, the crosspoints, and one word for how many numbers the path has.
pub record SheetCall : Type 0 where
  pub number : ℕ
  pub store : List ℕ
  pub figures : List ℕ
  pub path : List ℕ
  pub cells : Cells
  pub answer : List ℕ

abbrev pub sheet_call : ℕ → List ℕ → List ℕ → List ℕ → Cells → List ℕ → SheetCall
sheet_call number store fs path cells words = record { number = number; store = store; figures = fs; path = path; cells = cells; answer = words }

abbrev pub figures_of : sheet.Given → List ℕ → List ℕ
figures_of sheet.setup fs = fs
figures_of sheet.none fs = fs
figures_of (sheet.desk f n) fs = words_of f

-- after SETUP, "which leaves everything as it was", the answer's word stays too
abbrev pub answer_of : sheet.Given → List ℕ → List ℕ
answer_of sheet.setup words = words
answer_of sheet.none words = 0 ∷ []
answer_of (sheet.desk f n) words = n ∷ []

unfoldable pub given : sheet.Outcome → List ℕ → List ℕ → SheetCall
given o fs words = sheet_call o.number o.store (figures_of o.given fs) o.path o.cells (answer_of o.given words)

-- figures that have not seven words are 1, and so is an answer of other than one word
unfoldable pub sheet_reads : List ℕ → List ℕ → List ℕ → List ℕ → Cells → List ℕ → SheetCall
sheet_reads text store fs path cells words =
    pick (both (eqb (length fs) 7) (eqb (length words) 1)) (given (sheet_read text store path cells) fs words)
    (sheet_call 1 store fs path cells words)
