-- What the C interface of the tree reader and the tree writer answers. Reading: a number, and three words for the place, the count and Root's kind.
use Rattle.std.specs.Prelude.{ℕ, List, [], ◌∷◌, length, eqb, Option, Some, None}
use Rattle.base_choices.specs.Choices.{pick}
use Rattle.glow_rows.specs.Entry.{Rows}
use Rattle.ber_integers.specs.Digits.{Put}
use Rattle.glow_trees.specs.Rows.{items_in}
use Rattle.glow_member_sizes.specs.Spelling.{least_real}
use Rattle.glow_sizes.specs.Accepted.{fits}
use Rattle.glow_writer.specs.Writes.{writes}
use Rattle.glow_reader.specs.declared.Answer.{Answer}
use Rattle.glow_reader.specs.declared.Answer.TheVariants.{Setup, Refused, Room, Read}
use Rattle.glow_reader.specs.Message.{Result, read_at}

pub record Call : Type 0 where
  pub number : ℕ
  pub rows : Rows
  pub answer : List ℕ

abbrev pub call : ℕ → Rows → List ℕ → Call
call number rows answer = record { number = number; rows = rows; answer = answer }

-- "1 leaves everything as it was"
abbrev pub words_of : Answer → List ℕ → List ℕ
words_of Setup answer = answer
words_of (Refused number place) answer = place ∷ 0 ∷ 0 ∷ []
words_of (Room count) answer = 0 ∷ count ∷ 0 ∷ []
words_of (Read root count) answer = 0 ∷ count ∷ root ∷ []

abbrev pub called : Result → List ℕ → Call
called x answer = call x.said.number x.rows (words_of x.answer answer)

-- an answer of other than three words is 1
unfoldable pub calls : List ℕ → Rows → List ℕ → Call
calls s rows answer = pick (eqb (length answer) 3) (called (read_at s rows) answer) (call 1 rows answer)

-- Writing: a number, 0 or 46, and one word for the length.
pub record Writing : Type 0 where
  pub number : ℕ
  pub out : List ℕ
  pub answer : List ℕ

abbrev pub writing : ℕ → List ℕ → List ℕ → Writing
writing number out answer = record { number = number; out = out; answer = answer }

abbrev pub length_word : Option ℕ → List ℕ
length_word (Some n) = n ∷ []
length_word None = 0 ∷ []

abbrev pub wrote_as : Put → Writing
wrote_as p = writing p.number p.out (length_word p.answer)

-- an answer of other than one word is 1, with everything as it was
unfoldable pub write_calls : Rows → ℕ → ℕ → List ℕ → List ℕ → List ℕ → Writing
write_calls rows n root s out answer =
    pick (eqb (length answer) 1) (wrote_as (writes root (length rows) n (items_in s rows n) out)) (writing 1 out answer)

-- 1 where the rows make a tree that the reader accepts, 0 where they do not
unfoldable pub accept_calls : Rows → ℕ → ℕ → List ℕ → ℕ
accept_calls rows n root s = pick (fits least_real root (length rows) n (items_in s rows n)) 1 0
