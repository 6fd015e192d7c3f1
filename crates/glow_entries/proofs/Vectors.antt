-- A row of each of the nine kinds, word for word, by computation: document 01's context numbers, each in its cell. Where a member is a number, it is
-- here its own context number plus 100, so that a member in another's cell shows.
use Rattle.std.specs.Prelude.{Some, None}
use mathlib.Core.Path.{◌≡◌, refl}
use mathlib.Core.Bool.{true, false}
use mathlib.Core.List.{[], ◌∷◌, ◌++◌}
use lib.IntN.{pos, negsuc}
use Rattle.ber_values.specs.declared.Value.TheVariants.{Absent, Int, Text, Bool as Truth, Octets}
use Rattle.glow_rows.specs.Cell.{int_of, value_of, number_in}
use Rattle.glow_rows.specs.Entry.{words, blanks, with_cell}
use Rattle.glow_rows.specs.Row.{cell_in, same}
use Rattle.glow_entries.specs.Member.{part}
use Rattle.glow_entries.specs.declared.Key.TheVariants.{Number as ByNumber, Path as ByPath}
use Rattle.glow_entries.specs.Member.{int_in, number_of, flag_of, part_of, key_of, parent_of}
use Rattle.glow_entries.specs.Record.{read_as, filled, parameter_row, node_row, matrix_row, command_row, connection_row, stream_row}
use Rattle.glow_entries.specs.Record.{parameter_of, parameter_read, node_of, node_read, matrix_of, matrix_read, stream_of, stream_read}

-- "value 2, minimum 3, maximum 4, access 5, factor 8, online 9, step 11, stream identifier 14", behind identifier 0 and description 1
pub v-parameter : parameter_row (record {
  parent = Some 4;
  key = ByNumber (pos 7);
  identifier = part 10 3;
  description = part 20 5;
  value = Int (negsuc 0);
  minimum = Truth true;
  maximum = Text 30 2;
  access = Some (pos 105);
  factor = Some (pos 108);
  online = Some true;
  step = Some (pos 111);
  stream = Some (pos 114);
})
    ≡ 1 ∷ 5 ∷ 2 ∷ 7 ∷ 0 ∷ 12 ∷ 10 ∷ 3 ∷ 12 ∷ 20 ∷ 5 ∷ 2 ∷ 18446744073709551615 ∷ 0 ∷ 1 ∷ 1 ∷ 0 ∷ 12 ∷ 30 ∷ 2 ∷ 2 ∷ 105 ∷ 0 ∷ 0 ∷ 0 ∷ 0 ∷ 0 ∷ 0 ∷ 0
    ∷ 2 ∷ 108 ∷ 0 ∷ 1 ∷ 1 ∷ 0 ∷ 0 ∷ 0 ∷ 0 ∷ 2 ∷ 111 ∷ 0 ∷ 0 ∷ 0 ∷ 0 ∷ 0 ∷ 0 ∷ 0 ∷ 2 ∷ 114 ∷ 0 ∷ []
unfolding filled with_cell blanks parameter_row words
v-parameter = refl

-- a qualified one has a path; members that are absent
pub v-qualified-parameter : parameter_row (record {
  parent = None;
  key = ByPath 40 2;
  identifier = None;
  description = None;
  value = Octets 60 6;
  minimum = Absent;
  maximum = Absent;
  access = None;
  factor = None;
  online = None;
  step = None;
  stream = None;
})
    ≡ 5 ∷ 0 ∷ 13 ∷ 40 ∷ 2 ∷ 0 ∷ 0 ∷ 0 ∷ 0 ∷ 0 ∷ 0 ∷ 4 ∷ 60 ∷ 6 ∷ words (blanks 12)
unfolding filled with_cell blanks parameter_row words
v-qualified-parameter = refl

-- "root flag 2, online 3"
pub v-plain-node : node_row (record {
  parent = Some 3;
  key = ByNumber (pos 7);
  identifier = None;
  description = part 20 5;
  root = Some false;
  online = Some true;
})
    ≡ 3 ∷ 4 ∷ 2 ∷ 7 ∷ 0 ∷ 0 ∷ 0 ∷ 0 ∷ 12 ∷ 20 ∷ 5 ∷ 1 ∷ 0 ∷ 0 ∷ 1 ∷ 1 ∷ 0 ∷ words (blanks 11)
unfolding filled with_cell blanks node_row words
v-plain-node = refl

pub v-node : node_row (record {
  parent = None;
  key = ByPath 40 2;
  identifier = part 10 3;
  description = None;
  root = Some true;
  online = Some false;
})
    ≡ 6 ∷ 0 ∷ 13 ∷ 40 ∷ 2 ∷ 12 ∷ 10 ∷ 3 ∷ 0 ∷ 0 ∷ 0 ∷ 1 ∷ 1 ∷ 0 ∷ 1 ∷ 0 ∷ 0 ∷ words (blanks 11)
unfolding filled with_cell blanks node_row words
v-node = refl

-- "type 2, mode 3, targets 4, sources 5, total limit 6, limit per target 7"
pub v-matrix : matrix_row (record {
  parent = None;
  key = ByNumber (pos 9);
  identifier = None;
  description = part 20 5;
  matrix_type = Some (pos 102);
  mode = Some (pos 103);
  targets = Some (pos 104);
  sources = Some (pos 105);
  total_limit = Some (pos 106);
  target_limit = Some (pos 107);
})
    ≡ 4 ∷ 0 ∷ 2 ∷ 9 ∷ 0 ∷ 0 ∷ 0 ∷ 0 ∷ 12 ∷ 20 ∷ 5 ∷ 2 ∷ 102 ∷ 0 ∷ 2 ∷ 103 ∷ 0 ∷ 2 ∷ 104 ∷ 0 ∷ 2 ∷ 105 ∷ 0 ∷ 2 ∷ 106 ∷ 0 ∷ 2 ∷ 107 ∷ 0 ∷ words (blanks 7)
unfolding filled with_cell blanks matrix_row words
v-matrix = refl

pub v-qualified-matrix : matrix_row (record {
  parent = None;
  key = ByPath 40 2;
  identifier = None;
  description = None;
  matrix_type = None;
  mode = None;
  targets = Some (pos 104);
  sources = Some (pos 105);
  total_limit = None;
  target_limit = Some (pos 107);
})
    ≡ 7 ∷ 0 ∷ 13 ∷ 40 ∷ 2 ∷ 0 ∷ 0 ∷ 0 ∷ 0 ∷ 0 ∷ 0 ∷ 0 ∷ 0 ∷ 0 ∷ 0 ∷ 0 ∷ 0 ∷ 2 ∷ 104 ∷ 0 ∷ 2 ∷ 105 ∷ 0 ∷ 0 ∷ 0 ∷ 0 ∷ 2 ∷ 107 ∷ 0 ∷ words (blanks 7)
unfolding filled with_cell blanks matrix_row words
v-qualified-matrix = refl

-- "Command: number 0, mask 1. StreamEntry: identifier 0, value 1. Connection: target 0, sources 1, operation 2."
pub v-command : command_row (record { parent = Some 0; number = pos 100; mask = Some (negsuc 0) })
    ≡ 2 ∷ 1 ∷ 2 ∷ 100 ∷ 0 ∷ 2 ∷ 18446744073709551615 ∷ 0 ∷ words (blanks 14)
unfolding filled with_cell blanks command_row words
v-command = refl

pub v-connection : connection_row (record { parent = Some 2; target = pos 100; sources = part 50 4; operation = Some (pos 102) })
    ≡ 8 ∷ 3 ∷ 2 ∷ 100 ∷ 0 ∷ 13 ∷ 50 ∷ 4 ∷ 2 ∷ 102 ∷ 0 ∷ words (blanks 13)
unfolding filled with_cell blanks connection_row words
v-connection = refl

pub v-stream : stream_row (record { parent = None; identifier = pos 100; value = Octets 60 6 })
    ≡ 9 ∷ 0 ∷ 2 ∷ 100 ∷ 0 ∷ 4 ∷ 60 ∷ 6 ∷ words (blanks 14)
unfolding filled with_cell blanks stream_row words
v-stream = refl

-- What is no entry of a kind: a row of another kind, one with a word where its kind has no member, a stream entry whose value is absent.
pub v-other :
    (parameter_read (3 ∷ 0 ∷ 2 ∷ 7 ∷ 0 ∷ words (blanks 15)) ≡ None) ×
    (node_read (1 ∷ 0 ∷ 2 ∷ 7 ∷ 0 ∷ words (blanks 15)) ≡ None) ×
    (matrix_read (7 ∷ 0 ∷ 13 ∷ 40 ∷ 2 ∷ words (blanks 14) ++ (0 ∷ 0 ∷ 1 ∷ [])) ≡ None) ×
    (stream_read (9 ∷ 0 ∷ 2 ∷ 100 ∷ 0 ∷ words (blanks 15)) ≡ None)
unfolding filled with_cell blanks words int_of number_of flag_of part_of value_of cell_in key_of parent_of same read_as parameter_row parameter_of parameter_read
    int_in number_in
    node_row node_of node_read matrix_row matrix_of matrix_read stream_row stream_of stream_read
v-other = (refl, refl, refl, refl)
