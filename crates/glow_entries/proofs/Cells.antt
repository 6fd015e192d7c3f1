-- The sixteen cells of each kind of entry, in order: a row as a list.
use Prim.Native.Nat.{ℕ}
use mathlib.Core.Path.{◌≡◌, refl}
use mathlib.Core.List.{List, [], ◌∷◌}
use Rattle.glow_rows.specs.declared.Cell.{Cell}
use Rattle.glow_rows.specs.Cell.{cell, absent, word_of, cell_of}
use Rattle.glow_rows.specs.Entry.{Entry, blanks, with_cell, row}
use Rattle.glow_entries.specs.Member.{number_cell, flag_cell, part_cell, key_cell, key_kind, parent_word}
use Rattle.glow_entries.specs.declared.Parameter.{Parameter}
use Rattle.glow_entries.specs.declared.Node.{Node}
use Rattle.glow_entries.specs.declared.Matrix.{Matrix}
use Rattle.glow_entries.specs.declared.Command.{Command}
use Rattle.glow_entries.specs.declared.Connection.{Connection}
use Rattle.glow_entries.specs.declared.Stream.{Stream}
use Rattle.glow_entries.specs.Record.{filled, parameter_row, node_row, matrix_row, command_row, connection_row, stream_row}

abbrev pub entry : ℕ → ℕ → List Cell → Entry
entry kind parent cells = record { kind = kind; parent = parent; cells = cells }

abbrev pub parameter_cells : Parameter → List Cell
parameter_cells e =
    key_cell e.key
    ∷ part_cell 12 e.identifier
    ∷ part_cell 12 e.description
    ∷ cell_of e.value
    ∷ cell_of e.minimum
    ∷ cell_of e.maximum
    ∷ number_cell e.access
    ∷ absent
    ∷ absent
    ∷ number_cell e.factor
    ∷ flag_cell e.online
    ∷ absent
    ∷ number_cell e.step
    ∷ absent
    ∷ absent
    ∷ number_cell e.stream
    ∷ []

pub parameter-cells : (e : Parameter) → parameter_row e ≡ row (entry (key_kind e.key 1 5) (parent_word e.parent) (parameter_cells e))
unfolding parameter_row filled with_cell blanks
parameter-cells e = refl

abbrev pub node_cells : Node → List Cell
node_cells e =
    key_cell e.key
    ∷ part_cell 12 e.identifier
    ∷ part_cell 12 e.description
    ∷ flag_cell e.root
    ∷ flag_cell e.online
    ∷ blanks 11

pub node-cells : (e : Node) → node_row e ≡ row (entry (key_kind e.key 3 6) (parent_word e.parent) (node_cells e))
unfolding node_row filled with_cell blanks
node-cells e = refl

abbrev pub matrix_cells : Matrix → List Cell
matrix_cells e =
    key_cell e.key
    ∷ part_cell 12 e.identifier
    ∷ part_cell 12 e.description
    ∷ number_cell e.matrix_type
    ∷ number_cell e.mode
    ∷ number_cell e.targets
    ∷ number_cell e.sources
    ∷ number_cell e.total_limit
    ∷ number_cell e.target_limit
    ∷ blanks 7

pub matrix-cells : (e : Matrix) → matrix_row e ≡ row (entry (key_kind e.key 4 7) (parent_word e.parent) (matrix_cells e))
unfolding matrix_row filled with_cell blanks
matrix-cells e = refl

abbrev pub command_cells : Command → List Cell
command_cells e =
    cell 2 (word_of e.number) 0
    ∷ number_cell e.mask
    ∷ blanks 14

pub command-cells : (e : Command) → command_row e ≡ row (entry 2 (parent_word e.parent) (command_cells e))
unfolding command_row filled with_cell blanks
command-cells e = refl

abbrev pub connection_cells : Connection → List Cell
connection_cells e =
    cell 2 (word_of e.target) 0
    ∷ part_cell 13 e.sources
    ∷ number_cell e.operation
    ∷ blanks 13

pub connection-cells : (e : Connection) → connection_row e ≡ row (entry 8 (parent_word e.parent) (connection_cells e))
unfolding connection_row filled with_cell blanks
connection-cells e = refl

abbrev pub stream_cells : Stream → List Cell
stream_cells e =
    cell 2 (word_of e.identifier) 0
    ∷ cell_of e.value
    ∷ blanks 14

pub stream-cells : (e : Stream) → stream_row e ≡ row (entry 9 (parent_word e.parent) (stream_cells e))
unfolding stream_row filled with_cell blanks
stream-cells e = refl
