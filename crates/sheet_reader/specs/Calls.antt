-- The call that reads a route sheet (document 01, "Desk"): what it answers, and what it leaves of what is lent. `read_sheet`
-- (crates/sheet_rules/specs/Reading.antt) is what reading a byte string gives.
use Rattle.std.specs.Prelude.{ℕ, List, [], ◌∷◌, ◌++◌, Bool, length, drop, eqb}
use Rattle.base_choices.specs.Choices.{pick, both}
use Rattle.framing_content.specs.Numbers.{store_length}
use Rattle.desk_crosspoints.specs.declared.Figures.{Figures}
use Rattle.desk_crosspoints.specs.Figures.{most_cells}
use Rattle.desk_crosspoints.specs.Crosspoints.{Cells}
use Rattle.sheet_rules.specs.Lines.{lines_in}
use Rattle.sheet_rules.specs.Reading as reading
use Rattle.sheet_rules.specs.Reading.{read_sheet}
use Rattle.sheet_stream.specs.Finding.{store_after}
use Rattle.sheet_reader.specs.declared.Sheet.{Sheet}
use Rattle.sheet_reader.specs.declared.Sheet.TheVariants.{Setup, Refused, Read}

-- nothing was read; "with no desk"; or a desk's figures, and how many numbers its path has
pub data Given : Type 0 where
  setup : Given
  none : Given
  desk : Figures → ℕ → Given

-- Document 01's number; the desk; the lent store, path and crosspoints after the call.
pub record Outcome : Type 0 where
  pub number : ℕ
  pub given : Given
  pub store : List ℕ
  pub path : List ℕ
  pub cells : Cells

abbrev pub outcome : ℕ → Given → List ℕ → List ℕ → Cells → Outcome
outcome number given store path cells = record { number = number; given = given; store = store; path = path; cells = cells }

-- "The first refusal .. ends it, with no desk": path and crosspoints as they were. A desk: its path over the first words of the lent path and its crosspoints
-- over the first cells of the lent ones, the others as they were. The store is what the lines' bytes leave there.
abbrev pub leaves : reading.Sheet → List ℕ → List ℕ → Cells → Outcome
leaves (reading.refused n) store path cells = outcome n none store path cells
leaves (reading.read d) store path cells =
    outcome 0 (desk d.figures (length d.path)) store (d.path ++ drop (length d.path) path)
    (d.crosspoints ++ drop (length d.crosspoints) cells)

-- "1 SETUP, first of all: store not 17,408 bytes"; a word for each number of a path, and as many cells as the largest desk has
unfoldable pub is_ready : List ℕ → List ℕ → Cells → Bool
is_ready store path cells = both (eqb (length store) store_length) (both (eqb (length path) 16) (eqb (length cells) most_cells))

-- the call; "1 leaves everything as it was"
unfoldable pub sheet_read : List ℕ → List ℕ → List ℕ → Cells → Outcome
sheet_read text store path cells =
    pick (is_ready store path cells) (leaves (read_sheet text) (store_after (lines_in text) store) path cells) (outcome 1 setup store path cells)

-- what each case of the answer says, beside what the call leaves
abbrev pub outcome_of : Sheet → List ℕ → List ℕ → Cells → Outcome
outcome_of Setup store path cells = outcome 1 setup store path cells
outcome_of (Refused n) store path cells = outcome n none store path cells
outcome_of (Read f n) store path cells = outcome 0 (desk f n) store path cells

-- The rows of "Numbers answered" that refuse a sheet: the events from 10 up, 12 for a bad line among them; the tree's, 38 ROOM, and 33 once more; the desk's
-- but 40 MATRIX, since all the connections name the one matrix.
abbrev pub refused_numbers : List ℕ
refused_numbers =
    10 ∷ 11 ∷ 12 ∷ 13 ∷ 14 ∷ 15 ∷ 16 ∷ 20 ∷ 21 ∷ 22 ∷ 23 ∷ 24
    ∷ 30 ∷ 31 ∷ 32 ∷ 33 ∷ 34 ∷ 35 ∷ 36 ∷ 37 ∷ 38
    ∷ 41 ∷ 42 ∷ 43 ∷ 44 ∷ 45 ∷ []

-- .. and that the call may answer: 0 done, 1 SETUP
abbrev pub sheet_numbers : List ℕ
sheet_numbers = 0 ∷ 1 ∷ refused_numbers
