-- The kinds of entry by value, and their rows: a row begins with the kind and the parent, and each member stands in its cell.
use Rattle.std.specs.Prelude.{ℕ, ◌≡◌, List, [], ◌∷◌, eqb, Option, Some, None}
use Rattle.base_choices.specs.Choices.{pick}
use Rattle.glow_rows.specs.declared.Cell.{Cell}
use Rattle.glow_rows.specs.Cell.{integer, text, numbers, cell, word_of, cell_of, value_of, number_in}
use Rattle.glow_rows.specs.Kind as kind
use Rattle.glow_rows.specs.Place as place
use Rattle.glow_rows.specs.Entry.{Entry, blank, with_cell, row}
use Rattle.glow_rows.specs.Row.{cell_in, same}
use Rattle.glow_entries.specs.Member.{number_cell, flag_cell, part_cell, key_cell, key_kind, parent_word}
use Rattle.glow_entries.specs.Member.{int_in, number_of, flag_of, part_of, key_of, parent_of}
use Rattle.glow_entries.specs.declared.Parameter.{Parameter}
use Rattle.glow_entries.specs.declared.Node.{Node}
use Rattle.glow_entries.specs.declared.Matrix.{Matrix}
use Rattle.glow_entries.specs.declared.Command.{Command}
use Rattle.glow_entries.specs.declared.Connection.{Connection}
use Rattle.glow_entries.specs.declared.Stream.{Stream}

-- an entry with its members put, each into its cell
unfoldable pub filled : Entry → List (ℕ × Cell) → Entry
filled e [] = e
filled e (m ∷ more) = filled (with_cell e m.0 m.1) more

-- what a row is read as: it is an entry's of a kind exactly if it is the row of the entry that it stands for
unfoldable pub read_as : {E R : Type 0} → (List ℕ → E) → (E → List ℕ) → (E → R) → R → List ℕ → R
read_as of made is other r = pick (same r (made (of r))) (is (of r)) other

-- A parameter, with its value, its minimum and its maximum, of any kind each.
unfoldable pub parameter_row : Parameter → List ℕ
parameter_row e =
    row (filled (blank (key_kind e.key kind.parameter kind.qualified_parameter) (parent_word e.parent)) (
    (place.key, key_cell e.key) ∷
    (place.identifier, part_cell text e.identifier) ∷
    (place.description, part_cell text e.description) ∷
    (place.value, cell_of e.value) ∷
    (place.minimum, cell_of e.minimum) ∷
    (place.maximum, cell_of e.maximum) ∷
    (place.access, number_cell e.access) ∷
    (place.factor, number_cell e.factor) ∷
    (place.online, flag_cell e.online) ∷
    (place.step, number_cell e.step) ∷
    (place.stream, number_cell e.stream) ∷
    []))

unfoldable pub parameter_of : List ℕ → Parameter
parameter_of r =
    record {
      parent = parent_of r;
      key = key_of kind.qualified_parameter r;
      identifier = part_of text (cell_in r place.identifier);
      description = part_of text (cell_in r place.description);
      value = value_of (cell_in r place.value);
      minimum = value_of (cell_in r place.minimum);
      maximum = value_of (cell_in r place.maximum);
      access = number_of (cell_in r place.access);
      factor = number_of (cell_in r place.factor);
      online = flag_of (cell_in r place.online);
      step = number_of (cell_in r place.step);
      stream = number_of (cell_in r place.stream);
    }

unfoldable pub parameter_read : List ℕ → Option Parameter
parameter_read r = read_as parameter_of parameter_row Some None r

-- A node.
unfoldable pub node_row : Node → List ℕ
node_row e =
    row (filled (blank (key_kind e.key kind.node kind.qualified_node) (parent_word e.parent)) (
    (place.key, key_cell e.key) ∷
    (place.identifier, part_cell text e.identifier) ∷
    (place.description, part_cell text e.description) ∷
    (place.root, flag_cell e.root) ∷
    (place.node_online, flag_cell e.online) ∷
    []))

unfoldable pub node_of : List ℕ → Node
node_of r =
    record {
      parent = parent_of r;
      key = key_of kind.qualified_node r;
      identifier = part_of text (cell_in r place.identifier);
      description = part_of text (cell_in r place.description);
      root = flag_of (cell_in r place.root);
      online = flag_of (cell_in r place.node_online);
    }

unfoldable pub node_read : List ℕ → Option Node
node_read r = read_as node_of node_row Some None r

-- A matrix.
unfoldable pub matrix_row : Matrix → List ℕ
matrix_row e =
    row (filled (blank (key_kind e.key kind.matrix kind.qualified_matrix) (parent_word e.parent)) (
    (place.key, key_cell e.key) ∷
    (place.identifier, part_cell text e.identifier) ∷
    (place.description, part_cell text e.description) ∷
    (place.matrix_type, number_cell e.matrix_type) ∷
    (place.mode, number_cell e.mode) ∷
    (place.targets, number_cell e.targets) ∷
    (place.sources, number_cell e.sources) ∷
    (place.total_limit, number_cell e.total_limit) ∷
    (place.target_limit, number_cell e.target_limit) ∷
    []))

unfoldable pub matrix_of : List ℕ → Matrix
matrix_of r =
    record {
      parent = parent_of r;
      key = key_of kind.qualified_matrix r;
      identifier = part_of text (cell_in r place.identifier);
      description = part_of text (cell_in r place.description);
      matrix_type = number_of (cell_in r place.matrix_type);
      mode = number_of (cell_in r place.mode);
      targets = number_of (cell_in r place.targets);
      sources = number_of (cell_in r place.sources);
      total_limit = number_of (cell_in r place.total_limit);
      target_limit = number_of (cell_in r place.target_limit);
    }

unfoldable pub matrix_read : List ℕ → Option Matrix
matrix_read r = read_as matrix_of matrix_row Some None r

-- A command.
unfoldable pub command_row : Command → List ℕ
command_row e =
    row (filled (blank kind.command (parent_word e.parent)) (
    (place.command_number, cell integer (word_of e.number) 0) ∷
    (place.mask, number_cell e.mask) ∷
    []))

unfoldable pub command_of : List ℕ → Command
command_of r =
    record {
      parent = parent_of r;
      number = int_in (cell_in r place.command_number);
      mask = number_of (cell_in r place.mask);
    }

unfoldable pub command_read : List ℕ → Option Command
command_read r = read_as command_of command_row Some None r

-- A connection of a matrix.
unfoldable pub connection_row : Connection → List ℕ
connection_row e =
    row (filled (blank kind.connection (parent_word e.parent)) (
    (place.target, cell integer (word_of e.target) 0) ∷
    (place.connection_sources, part_cell numbers e.sources) ∷
    (place.operation, number_cell e.operation) ∷
    []))

unfoldable pub connection_of : List ℕ → Connection
connection_of r =
    record {
      parent = parent_of r;
      target = int_in (cell_in r place.target);
      sources = part_of numbers (cell_in r place.connection_sources);
      operation = number_of (cell_in r place.operation);
    }

unfoldable pub connection_read : List ℕ → Option Connection
connection_read r = read_as connection_of connection_row Some None r

-- A stream entry.
unfoldable pub stream_row : Stream → List ℕ
stream_row e =
    row (filled (blank kind.stream_entry (parent_word e.parent)) (
    (place.stream_number, cell integer (word_of e.identifier) 0) ∷
    (place.stream_value, cell_of e.value) ∷
    []))

unfoldable pub stream_of : List ℕ → Stream
stream_of r =
    record {
      parent = parent_of r;
      identifier = int_in (cell_in r place.stream_number);
      value = value_of (cell_in r place.stream_value);
    }

-- its value is never absent
unfoldable pub stream_read : List ℕ → Option Stream
stream_read r = pick (eqb (cell_in r place.stream_value).kind 0) None (read_as stream_of stream_row Some None r)

-- The numbers of a connection and of a matrix have the words that stand in their cells, whatever row it is.
pub record ConnectionWords (r : List ℕ) (e : Connection) : Type 0 where
  pub target : word_of e.target ≡ number_in (cell_in r place.target)
  pub operation : number_in (number_cell e.operation) ≡ number_in (cell_in r place.operation)

pub record MatrixWords (r : List ℕ) (e : Matrix) : Type 0 where
  pub matrix_type : number_in (number_cell e.matrix_type) ≡ number_in (cell_in r place.matrix_type)
  pub mode : number_in (number_cell e.mode) ≡ number_in (cell_in r place.mode)
  pub targets : number_in (number_cell e.targets) ≡ number_in (cell_in r place.targets)
  pub sources : number_in (number_cell e.sources) ≡ number_in (cell_in r place.sources)
  pub total_limit : number_in (number_cell e.total_limit) ≡ number_in (cell_in r place.total_limit)
  pub target_limit : number_in (number_cell e.target_limit) ≡ number_in (cell_in r place.target_limit)
