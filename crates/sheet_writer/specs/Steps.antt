-- For the functions of this crate: the rows of a sheet, and beside them the octets of its path and sources.
use Rattle.std.specs.Prelude.{ℕ, zero, suc, ◌+◌, ◌*◌, List, length, set, Option, Some, None}
use Rattle.std.proofs.lemmas.List.Edits.{sets}
use Rattle.ber_identifiers.specs.Identifier.{oid_octets}
use Rattle.glow_rows.specs.Entry.{row, Rows}
pub use Rattle.desk_rows.specs.Rows.{number_cell, limit_cell, matrix_entry, link_entry}
unfoldable pub use Rattle.desk_rows.specs.Rows.{list_cell}
use Rattle.desk_crosspoints.specs.Figures.{side}
use Rattle.desk_crosspoints.specs.Crosspoints.{Cells}
use Rattle.desk_rows.specs.Sources.{sources_in}
use Rattle.sheet_writer.specs.declared.Answer.{Answer}
use Rattle.sheet_writer.specs.declared.Answer.TheVariants as answers

-- the most rows of a sheet, the matrix and a connection for each target; the most octets of a path, 16 numbers of 5; .. and of all sources beside it
abbrev pub most_rows : ℕ
most_rows = side + 1

abbrev pub most_path : ℕ
most_path = 80

abbrev pub most_octets : ℕ
most_octets = most_path + side * side

-- The rows and the octets so far, and the place of the next octet.
pub record Filled : Type 0 where
  pub rows : Rows
  pub octets : List ℕ
  pub next : ℕ

abbrev pub filled : Rows → List ℕ → ℕ → Filled
filled rows octets next = record { rows = rows; octets = octets; next = next }

-- the octets of the sources of target t in rows of w cells
abbrev pub octets_in : ℕ → Cells → ℕ → List ℕ
octets_in w cells t = oid_octets (sources_in w cells t)

-- with the connection of target t, and of n targets from t on
unfoldable pub with_link : ℕ → Cells → ℕ → Filled → Filled
with_link w cells t x =
    filled (set x.rows (suc t) (row (link_entry t (list_cell x.next (length (octets_in w cells t))))))
    (sets x.octets x.next (octets_in w cells t))
    (x.next + length (octets_in w cells t))

unfoldable pub with_links : ℕ → Cells → ℕ → ℕ → Filled → Filled
with_links w cells t zero x = x
with_links w cells t (suc n) x = with_links w cells (suc t) n (with_link w cells t x)

-- the answer of the lines' writer is the sheet writer's
abbrev pub said : Option ℕ → Answer
said (Some n) = answers.Done n
said None = answers.Out
