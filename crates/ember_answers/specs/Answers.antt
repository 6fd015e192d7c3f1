-- Which lengths of a turn are no SETUP, what comes after the session's call, and what the desk's call and a turn answer in numbers.
use Rattle.std.specs.Prelude.{ℕ, Bool, ◌≡◌, List, [], ◌∷◌, leb, eqb, length}
use Rattle.base_choices.specs.Choices.{pick, both}
use Rattle.glow_rows.specs.Entry.{Rows}
use Rattle.glow_reader.specs.Message.{reply_by, Reply}
use Rattle.desk_crosspoints.specs.Crosspoints.{Cells}
use Rattle.desk_crosspoints.specs.Desk.{Desk}
use Rattle.desk_calls.specs.Calls.{Outcome}
use Rattle.turns.specs.declared.After.{After}
use Rattle.turn_rules.specs.Turns.{Later, none, read, desk}
use Rattle.turns.specs.Whole.{Left, unasked, read_to, later_of}
use Rattle.ember_answers.specs.declared.after.Six.{Six}

-- ---- the desk's call

-- The desk's call: a number, the 256 bytes lent for answers, the crosspoints, and one word for how many answers there are.
pub record DeskCall : Type 0 where
  pub number : ℕ
  pub answers : List ℕ
  pub cells : Cells
  pub answer : List ℕ

abbrev pub desk_call : ℕ → List ℕ → Cells → List ℕ → DeskCall
desk_call number answers cells words = record { number = number; answers = answers; cells = cells; answer = words }

-- the answers in order, then zeros; "1 leaves everything as it was"
unfoldable pub counted : Outcome → List ℕ → List ℕ → DeskCall
counted o lent words =
    pick (eqb o.number 0) (desk_call 0 o.answers o.cells (o.count ∷ [])) (desk_call o.number lent o.cells words)

-- an answer of other than one word is 1 too
unfoldable pub counted_put : Outcome → List ℕ → List ℕ → DeskCall
counted_put o lent words = pick (eqb (length words) 1) (counted o lent words) (desk_call 1 lent o.cells words)

-- ---- a whole turn

-- 1 SETUP for lengths: a table over 256 rows, crosspoints that are not as many as the figures say, a path that has not 1 to 16 numbers, an answer that is not
-- nine words
unfoldable pub lengths_fit : ℕ → ℕ → ℕ → ℕ → ℕ → Bool
lengths_fit rows size cells path words =
    both (eqb words 9)
    (both (leb rows 256)
    (both (eqb cells size)
    (both (leb 1 path) (leb path 16))))

-- "Only a finished message goes on to the tree reader": the store's first bytes
unfoldable pub next : ℕ → List ℕ → Desk → Rows → Left
next number m d table = pick (eqb number 3) (read_to d m table) (unasked none table d.crosspoints)

-- What came after the session's call, in six words: the tree's number, its place, its count and Root's kind, the desk's number, and its count of answers.
abbrev pub tree_words : Reply → List ℕ
tree_words e = e.number ∷ e.place ∷ e.count ∷ e.root ∷ 0 ∷ 0 ∷ []

abbrev pub desk_words : ℕ → ℕ → Outcome → List ℕ
desk_words root count o = 0 ∷ 0 ∷ count ∷ root ∷ o.number ∷ o.count ∷ []

abbrev pub later_words : Later → List ℕ
later_words none = 0 ∷ 0 ∷ 0 ∷ 0 ∷ 0 ∷ 0 ∷ []
later_words (read a table) = tree_words (reply_by a)
later_words (desk root count table o) = desk_words root count o

-- The answer: what the session's call told, in three words, and then the six. Any list but one of nine words stays.
unfoldable pub answer_put : List ℕ → ℕ → ℕ → ℕ → Later → List ℕ
answer_put a discarded consumed n x = pick (eqb (length a) 9) (discarded ∷ consumed ∷ n ∷ later_words x) a

-- ---- for private functions: six words that are those of what came after

abbrev pub words_in : Six → List ℕ
words_in x = x.tree ∷ x.place ∷ x.count ∷ x.root ∷ x.desk ∷ x.answers ∷ []

abbrev pub Words : After → Six → Type 0
Words x r = (answers : List ℕ) (table : Rows) (cells : Cells) → later_words (later_of x answers table cells) ≡ words_in r
