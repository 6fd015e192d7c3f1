-- Each kind of entry and its row, for all entries: the row made of an entry is read as that entry (`parameter-back`), a row that is read as an
-- entry is the row made of it (`parameter-made`), and a row that is read_as to be none's is no entry's (`parameter-none`); so for each kind.
use Rattle.std.specs.Prelude.{Some, None}
use Prim.Native.Nat.{ℕ}
use mathlib.Core.Path.{◌≡◌, refl, ap, ◌∙◌}
use mathlib.Core.List.{List}
use native.Mathlib.Omega.{arith}
use lib.Dec.{eqb}
use Rattle.glow_rows.specs.declared.Cell.{Cell}
use Rattle.glow_rows.specs.Entry.{row, words, blanks, with_cell}
use Rattle.glow_rows.specs.Row.{cell_in}
use Rattle.glow_entries.specs.Member.{key_kind, parent_word}
use Rattle.glow_entries.specs.Record.{read_as, filled}
use Rattle.glow_entries.proofs.Cells.{entry, parameter_cells, parameter-cells, node_cells, node-cells, matrix_cells, matrix-cells}
use Rattle.glow_entries.proofs.Cells.{command_cells, command-cells, connection_cells, connection-cells, stream_cells, stream-cells}
use Rattle.glow_entries.proofs.Back.{number_at, flag_at, part_at, value-at, int_at, key-at, parent-at, told_back, told-made, none-back, stream-told, stream-there}
use Rattle.glow_entries.specs.declared.Parameter.{Parameter}
use Rattle.glow_entries.specs.Held.{HeldParameter}
use Rattle.glow_entries.specs.Record.{parameter_row, parameter_of, parameter_read}
use Rattle.glow_entries.specs.declared.Node.{Node}
use Rattle.glow_entries.specs.Held.{HeldNode}
use Rattle.glow_entries.specs.Record.{node_row, node_of, node_read}
use Rattle.glow_entries.specs.declared.Matrix.{Matrix}
use Rattle.glow_entries.specs.Held.{HeldMatrix}
use Rattle.glow_entries.specs.Record.{matrix_row, matrix_of, matrix_read}
use Rattle.glow_entries.specs.declared.Command.{Command}
use Rattle.glow_entries.specs.Held.{HeldCommand}
use Rattle.glow_entries.specs.Record.{command_row, command_of, command_read}
use Rattle.glow_entries.specs.declared.Connection.{Connection}
use Rattle.glow_entries.specs.Held.{HeldConnection}
use Rattle.glow_entries.specs.Record.{connection_row, connection_of, connection_read}
use Rattle.glow_entries.specs.declared.Stream.{Stream}
use Rattle.glow_entries.specs.Held.{HeldStream}
use Rattle.glow_entries.specs.Record.{stream_row, stream_of, stream_read}

parameter-from : (e : Parameter) → HeldParameter e → parameter_of (row (entry (key_kind e.key 1 5) (parent_word e.parent) (parameter_cells e))) ≡ e
unfolding parameter_of
parameter-from e h =
    let k : ℕ = key_kind e.key 1 5 in
    let p : ℕ = parent_word e.parent in
    let cs : List Cell = parameter_cells e in
    rw (
      parent-at k cs e.parent h.parent,
      key-at 1 5 p cs e.key (λ z. absurd (omega (arith, z))) refl h.key,
      part_at k p cs 12 1 e.identifier (omega arith) (omega arith) refl,
      part_at k p cs 12 2 e.description (omega arith) (omega arith) refl,
      value-at k p cs 3 e.value (omega arith) refl h.value,
      value-at k p cs 4 e.minimum (omega arith) refl h.minimum,
      value-at k p cs 5 e.maximum (omega arith) refl h.maximum,
      number_at k p cs 6 e.access (omega arith) refl h.access,
      number_at k p cs 9 e.factor (omega arith) refl h.factor,
      flag_at k p cs 10 e.online (omega arith) refl,
      number_at k p cs 12 e.step (omega arith) refl h.step,
      number_at k p cs 15 e.stream (omega arith) refl h.stream,
    )

parameter-of : (e : Parameter) → HeldParameter e → parameter_of (parameter_row e) ≡ e
parameter-of e h = ap parameter_of (parameter-cells e) ∙ parameter-from e h

pub parameter-back : (e : Parameter) → HeldParameter e → parameter_read (parameter_row e) ≡ Some e
unfolding parameter_read
parameter-back e h = told_back parameter_of parameter_row Some None e (parameter-of e h)

pub parameter-made : (r : List ℕ) (e : Parameter) → parameter_read r ≡ Some e → r ≡ parameter_row e
unfolding parameter_read
parameter-made r e q = told-made parameter_of parameter_row r e q

pub parameter-none : (r : List ℕ) (e : Parameter) → HeldParameter e → parameter_read r ≡ None → r ≡ parameter_row e → ⊥
parameter-none r e h = none-back parameter_read parameter_row r e (parameter-back e h)

node-from : (e : Node) → HeldNode e → node_of (row (entry (key_kind e.key 3 6) (parent_word e.parent) (node_cells e))) ≡ e
unfolding node_of blanks
node-from e h =
    let k : ℕ = key_kind e.key 3 6 in
    let p : ℕ = parent_word e.parent in
    let cs : List Cell = node_cells e in
    rw (
      parent-at k cs e.parent h.parent,
      key-at 3 6 p cs e.key (λ z. absurd (omega (arith, z))) refl h.key,
      part_at k p cs 12 1 e.identifier (omega arith) (omega arith) refl,
      part_at k p cs 12 2 e.description (omega arith) (omega arith) refl,
      flag_at k p cs 3 e.root (omega arith) refl,
      flag_at k p cs 4 e.online (omega arith) refl,
    )

node-of : (e : Node) → HeldNode e → node_of (node_row e) ≡ e
node-of e h = ap node_of (node-cells e) ∙ node-from e h

pub node-back : (e : Node) → HeldNode e → node_read (node_row e) ≡ Some e
unfolding node_read
node-back e h = told_back node_of node_row Some None e (node-of e h)

pub node_made : (r : List ℕ) (e : Node) → node_read r ≡ Some e → r ≡ node_row e
unfolding node_read
node_made r e q = told-made node_of node_row r e q

pub node-none : (r : List ℕ) (e : Node) → HeldNode e → node_read r ≡ None → r ≡ node_row e → ⊥
node-none r e h = none-back node_read node_row r e (node-back e h)

matrix-from : (e : Matrix) → HeldMatrix e → matrix_of (row (entry (key_kind e.key 4 7) (parent_word e.parent) (matrix_cells e))) ≡ e
unfolding matrix_of blanks
matrix-from e h =
    let k : ℕ = key_kind e.key 4 7 in
    let p : ℕ = parent_word e.parent in
    let cs : List Cell = matrix_cells e in
    rw (
      parent-at k cs e.parent h.parent,
      key-at 4 7 p cs e.key (λ z. absurd (omega (arith, z))) refl h.key,
      part_at k p cs 12 1 e.identifier (omega arith) (omega arith) refl,
      part_at k p cs 12 2 e.description (omega arith) (omega arith) refl,
      number_at k p cs 3 e.matrix_type (omega arith) refl h.matrix_type,
      number_at k p cs 4 e.mode (omega arith) refl h.mode,
      number_at k p cs 5 e.targets (omega arith) refl h.targets,
      number_at k p cs 6 e.sources (omega arith) refl h.sources,
      number_at k p cs 7 e.total_limit (omega arith) refl h.total_limit,
      number_at k p cs 8 e.target_limit (omega arith) refl h.target_limit,
    )

matrix-of : (e : Matrix) → HeldMatrix e → matrix_of (matrix_row e) ≡ e
matrix-of e h = ap matrix_of (matrix-cells e) ∙ matrix-from e h

pub matrix-back : (e : Matrix) → HeldMatrix e → matrix_read (matrix_row e) ≡ Some e
unfolding matrix_read
matrix-back e h = told_back matrix_of matrix_row Some None e (matrix-of e h)

pub matrix-made : (r : List ℕ) (e : Matrix) → matrix_read r ≡ Some e → r ≡ matrix_row e
unfolding matrix_read
matrix-made r e q = told-made matrix_of matrix_row r e q

pub matrix-none : (r : List ℕ) (e : Matrix) → HeldMatrix e → matrix_read r ≡ None → r ≡ matrix_row e → ⊥
matrix-none r e h = none-back matrix_read matrix_row r e (matrix-back e h)

command-from : (e : Command) → HeldCommand e → command_of (row (entry 2 (parent_word e.parent) (command_cells e))) ≡ e
unfolding command_of blanks
command-from e h =
    let k : ℕ = 2 in
    let p : ℕ = parent_word e.parent in
    let cs : List Cell = command_cells e in
    rw (
      parent-at k cs e.parent h.parent,
      int_at k p cs 0 e.number (omega arith) refl h.number,
      number_at k p cs 1 e.mask (omega arith) refl h.mask,
    )

command-of : (e : Command) → HeldCommand e → command_of (command_row e) ≡ e
command-of e h = ap command_of (command-cells e) ∙ command-from e h

pub command-back : (e : Command) → HeldCommand e → command_read (command_row e) ≡ Some e
unfolding command_read
command-back e h = told_back command_of command_row Some None e (command-of e h)

pub command-made : (r : List ℕ) (e : Command) → command_read r ≡ Some e → r ≡ command_row e
unfolding command_read
command-made r e q = told-made command_of command_row r e q

pub command-none : (r : List ℕ) (e : Command) → HeldCommand e → command_read r ≡ None → r ≡ command_row e → ⊥
command-none r e h = none-back command_read command_row r e (command-back e h)

connection-from : (e : Connection) → HeldConnection e → connection_of (row (entry 8 (parent_word e.parent) (connection_cells e))) ≡ e
unfolding connection_of blanks
connection-from e h =
    let k : ℕ = 8 in
    let p : ℕ = parent_word e.parent in
    let cs : List Cell = connection_cells e in
    rw (
      parent-at k cs e.parent h.parent,
      int_at k p cs 0 e.target (omega arith) refl h.target,
      part_at k p cs 13 1 e.sources (omega arith) (omega arith) refl,
      number_at k p cs 2 e.operation (omega arith) refl h.operation,
    )

connection-of : (e : Connection) → HeldConnection e → connection_of (connection_row e) ≡ e
connection-of e h = ap connection_of (connection-cells e) ∙ connection-from e h

pub connection-back : (e : Connection) → HeldConnection e → connection_read (connection_row e) ≡ Some e
unfolding connection_read
connection-back e h = told_back connection_of connection_row Some None e (connection-of e h)

pub connection-made : (r : List ℕ) (e : Connection) → connection_read r ≡ Some e → r ≡ connection_row e
unfolding connection_read
connection-made r e q = told-made connection_of connection_row r e q

pub connection-none : (r : List ℕ) (e : Connection) → HeldConnection e → connection_read r ≡ None → r ≡ connection_row e → ⊥
connection-none r e h = none-back connection_read connection_row r e (connection-back e h)

stream-from : (e : Stream) → HeldStream e → stream_of (row (entry 9 (parent_word e.parent) (stream_cells e))) ≡ e
unfolding stream_of blanks
stream-from e h =
    let k : ℕ = 9 in
    let p : ℕ = parent_word e.parent in
    let cs : List Cell = stream_cells e in
    rw (
      parent-at k cs e.parent h.parent,
      int_at k p cs 0 e.identifier (omega arith) refl h.identifier,
      value-at k p cs 1 e.value (omega arith) refl h.value,
    )

stream-of : (e : Stream) → HeldStream e → stream_of (stream_row e) ≡ e
stream-of e h = ap stream_of (stream-cells e) ∙ stream-from e h

pub stream-back : (e : Stream) → HeldStream e → stream_read (stream_row e) ≡ Some e
unfolding stream_read stream_row filled with_cell blanks words cell_in
stream-back e h = rw (stream-there e.value h.value h.present) (told_back stream_of stream_row Some None e (stream-of e h))

pub stream-made : (r : List ℕ) (e : Stream) → stream_read r ≡ Some e → r ≡ stream_row e
unfolding stream_read
stream-made r e q = told-made stream_of stream_row r e
    (stream-told (eqb (cell_in r 1).kind 0) (read_as stream_of stream_row Some None r) e q)

pub stream-none : (r : List ℕ) (e : Stream) → HeldStream e → stream_read r ≡ None → r ≡ stream_row e → ⊥
stream-none r e h = none-back stream_read stream_row r e (stream-back e h)
