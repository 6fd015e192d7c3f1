-- The words of the theorems (proofs/Theorems.antt): a message read as entries, and what the writer answers for rows. `read_at` is what glow_reader::read
-- answers and leaves, `writes` what glow_writer::write does; `items_in s rows count` are the entries of the first `count` rows, with the message s beside them.
use Rattle.std.specs.Prelude.{ℕ, ◌≤◌, ◌≡◌, List, length}
use Rattle.ber_integers.specs.Digits.{Below, Put}
use Rattle.glow_rows.specs.Entry.{Rows}
use Rattle.glow_reader.specs.declared.Answer.TheVariants.{Read}
use Rattle.glow_reader.specs.Message.{read_at}
use Rattle.glow_trees.specs.Content.{Item}
use Rattle.glow_trees.specs.Rows.{items_in}
use Rattle.glow_writer.specs.Writes.{writes}

-- A message is read into a table as these entries: the answer names Root's kind and how many there are, and the table's first rows then hold them.
pub record ReadAs (m : List ℕ) (table : Rows) (root count : ℕ) (es : List Item) : Type 0 where
  pub answer : (read_at m table).answer ≡ Read root count
  pub entries : items_in m (read_at m table).rows count ≡ es

-- .. and so into every table that has room.
abbrev pub ReadBack : List ℕ → ℕ → ℕ → List Item → Type 0
ReadBack m root count es = (table : Rows) → count ≤ length table → length table ≤ 256 → ReadAs m table root count es

-- The writer's answer and the output after it, for the first `count` rows.
abbrev pub written : List ℕ → Rows → ℕ → ℕ → List ℕ → Put
written s rows count root out = writes root (length rows) count (items_in s rows count) out

-- Some message of at most 16,384 bytes is read, with the largest table, as exactly these entries.
pub record Message (root : ℕ) (es : List Item) : Type 0 where
  pub message : List ℕ
  pub octets : Below 256 message
  pub few : length message ≤ 16384
  pub read : (table : Rows) → length table ≡ 256 → ReadAs message table root (length es) es
