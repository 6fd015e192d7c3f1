-- The kinds of entry: word 0 of a row.
use Rattle.std.specs.Prelude.{ℕ}

abbrev pub parameter : ℕ
parameter = 1

abbrev pub command : ℕ
command = 2

abbrev pub node : ℕ
node = 3

abbrev pub matrix : ℕ
matrix = 4

abbrev pub qualified_parameter : ℕ
qualified_parameter = 5

abbrev pub qualified_node : ℕ
qualified_node = 6

abbrev pub qualified_matrix : ℕ
qualified_matrix = 7

abbrev pub connection : ℕ
connection = 8

abbrev pub stream_entry : ℕ
stream_entry = 9
