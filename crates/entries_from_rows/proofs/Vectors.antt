-- Two messages with an entry of each of the nine kinds, by computation: the rows that the reader leaves, each read by the struct of its kind, member by
-- member. Where a member's range lets it, a number is here its own context number and 100.
use Rattle.std.specs.Prelude.{Some, None}
use Prim.Native.Nat.{ℕ, zero, suc}
use mathlib.Core.Path.{◌≡◌, refl}
use mathlib.Core.Bool.{true, false}
use mathlib.Core.List.{List, [], ◌∷◌}
use lib.IntN.{pos, negsuc}
use lib.Ieee as Ieee
use lib.Ieee.{fin}
use Rattle.ber_integers.specs.Digits.{horner}
use Rattle.ber_integers.specs.Integer.{signed, nine_free, twos, integer, integer_at}
use Rattle.ber_tags.specs.Tag.{stop, cut, long_number, tag_number, sized, length_at, head_at}
use Rattle.ber_identifiers.specs.Identifier.{arc_is, arc_from, arc_at, arcs_from}
use Rattle.ber_reals.specs.Number.{in_double, number}
use Rattle.ber_reals.specs.Real.{well_formed, binary_real, non_empty, real, real_at}
use Rattle.ber_values.specs.declared.Value.TheVariants.{Absent, Int, Real, Text, Bool as Truth, Octets}
use Rattle.ber_values.specs.Value.{boolean, bool_at, is_listed, kind_at, content_at}
use Rattle.ber_containers.specs.Ends.{zero_at, closing_at, standing_at, deep, enter_at, first_at, last_at, is_tag}
use Rattle.ber_containers.specs.Passing.{skipped, cross_at, through_by, passed_at}
use Rattle.glow_rows.specs.Entry.{Rows, blanks, with_cell, put_cell, words, overlay}
use Rattle.glow_grammar.specs.Grammar.{members, rule_of, requirements, required, is_set, contents_rows, contents_of, applications, holds, kind_among, kind_in}
use Rattle.glow_grammar.specs.Grammar.{inner_class, inner_number, collection_of, root_of}
use Rattle.glow_grammar.specs.Leaf.{expects, least, most, in_range, is_letter, no_slash, is_name, all_positive, is_path, number_leaf, text_leaf, numbers_at, leaf_at}
use Rattle.glow_steps.specs.Members.{marked, mark, due, in_order, again, after_listed, after_other, column}
use Rattle.glow_steps.specs.Members.{plain_at, inner_at, listed_at, ruled_at, member_at, kind_of, item_at}
use Rattle.glow_steps.specs.Root.{root_kind, top_at}
use Rattle.glow_walk.specs.Tree.{closed, members_by, items_by}
use Rattle.glow_walk.specs.Walk.{finished, walk}
use Rattle.glow_reader.specs.declared.Answer.TheVariants.{Read}
use Rattle.glow_reader.specs.Message.{setup, read_at}
use Rattle.glow_entries.specs.Member.{part}
use Rattle.glow_entries.specs.declared.Key.TheVariants.{Number as ByNumber, Path as ByPath}
use Rattle.glow_entries.specs.declared.Parameter.{Parameter}
use Rattle.glow_entries.specs.declared.Node.{Node}
use Rattle.glow_entries.specs.declared.Matrix.{Matrix}
use Rattle.glow_entries.specs.declared.Command.{Command}
use Rattle.glow_entries.specs.declared.Connection.{Connection}
use Rattle.glow_entries.specs.declared.Stream.{Stream}
use Rattle.glow_rows.specs.Cell.{int_of, value_of, number_in}
use Rattle.glow_rows.specs.Row.{cell_in, same}
use Rattle.glow_entries.specs.Member.{int_in, number_of, flag_of, part_of, key_of, parent_of}
use Rattle.glow_entries.specs.Record.{read_as, filled, parameter_row, parameter_of, parameter_read, node_row, node_of, node_read, matrix_row, matrix_of, matrix_read}
use Rattle.glow_entries.specs.Record.{command_row, command_of, command_read, connection_row, connection_of, connection_read, stream_row, stream_of, stream_read}

pub data Sample : Type 0 where
  parameter : Parameter → Sample
  node : Node → Sample
  matrix : Matrix → Sample
  command : Command → Sample
  connection : Connection → Sample
  stream : Stream → Sample

abbrev pub ReadAs : List ℕ → Sample → Type 0
ReadAs r (parameter x) = parameter_read r ≡ Some x
ReadAs r (node x) = node_read r ≡ Some x
ReadAs r (matrix x) = matrix_read r ≡ Some x
ReadAs r (command x) = command_read r ≡ Some x
ReadAs r (connection x) = connection_read r ≡ Some x
ReadAs r (stream x) = stream_read r ≡ Some x

-- the first rows, one after another
abbrev pub All : Rows → List Sample → Type 0
All rows [] = Unit {0}
All [] (p ∷ ps) = ⊥
All (r ∷ rows) (p ∷ ps) = ReadAs r p × All rows ps

-- a table of n rows, whatever they hold
abbrev rows_of : List ℕ → ℕ → Rows
rows_of r zero = []
rows_of r (suc n) = r ∷ rows_of r n

-- a parameter; a node with a command; a matrix with a connection; a qualified parameter, a qualified node, a qualified matrix
abbrev pub elements : List ℕ
elements =
    0x60 ∷ 0x82 ∷ 0x01 ∷ 0x0B ∷ 0x6B ∷ 0x82 ∷ 0x01 ∷ 0x07 ∷ 0xA0 ∷ 0x40 ∷ 0x61 ∷ 0x3E ∷ 0xA0 ∷ 0x03 ∷ 0x02 ∷ 0x01 ∷ 0x07 ∷ 0xA1 ∷ 0x37 ∷ 0x31 ∷
    0x35 ∷ 0xA0 ∷ 0x03 ∷ 0x0C ∷ 0x01 ∷ 0x70 ∷ 0xA1 ∷ 0x04 ∷ 0x0C ∷ 0x02 ∷ 0x64 ∷ 0x65 ∷ 0xA2 ∷ 0x03 ∷ 0x02 ∷ 0x01 ∷ 0xFF ∷ 0xA3 ∷ 0x03 ∷ 0x01 ∷
    0x01 ∷ 0xFF ∷ 0xA4 ∷ 0x05 ∷ 0x0C ∷ 0x03 ∷ 0x6D ∷ 0x61 ∷ 0x78 ∷ 0xA5 ∷ 0x03 ∷ 0x02 ∷ 0x01 ∷ 0x03 ∷ 0xA8 ∷ 0x03 ∷ 0x02 ∷ 0x01 ∷ 0x6C ∷ 0xA9 ∷
    0x03 ∷ 0x01 ∷ 0x01 ∷ 0xFF ∷ 0xAB ∷ 0x03 ∷ 0x02 ∷ 0x01 ∷ 0x6F ∷ 0xAE ∷ 0x03 ∷ 0x02 ∷ 0x01 ∷ 0x72 ∷ 0xA0 ∷ 0x32 ∷ 0x63 ∷ 0x30 ∷ 0xA0 ∷ 0x03 ∷
    0x02 ∷ 0x01 ∷ 0x09 ∷ 0xA1 ∷ 0x17 ∷ 0x31 ∷ 0x15 ∷ 0xA0 ∷ 0x03 ∷ 0x0C ∷ 0x01 ∷ 0x6E ∷ 0xA1 ∷ 0x04 ∷ 0x0C ∷ 0x02 ∷ 0x64 ∷ 0x64 ∷ 0xA2 ∷ 0x03 ∷
    0x01 ∷ 0x01 ∷ 0x00 ∷ 0xA3 ∷ 0x03 ∷ 0x01 ∷ 0x01 ∷ 0x01 ∷ 0xA2 ∷ 0x10 ∷ 0x64 ∷ 0x0E ∷ 0xA0 ∷ 0x0C ∷ 0x62 ∷ 0x0A ∷ 0xA0 ∷ 0x03 ∷ 0x02 ∷ 0x01 ∷
    0x20 ∷ 0xA1 ∷ 0x03 ∷ 0x02 ∷ 0x01 ∷ 0xFE ∷ 0xA0 ∷ 0x4C ∷ 0x6D ∷ 0x4A ∷ 0xA0 ∷ 0x03 ∷ 0x02 ∷ 0x01 ∷ 0x04 ∷ 0xA1 ∷ 0x2B ∷ 0x31 ∷ 0x29 ∷ 0xA0 ∷
    0x03 ∷ 0x0C ∷ 0x01 ∷ 0x6D ∷ 0xA1 ∷ 0x04 ∷ 0x0C ∷ 0x02 ∷ 0x64 ∷ 0x6D ∷ 0xA2 ∷ 0x03 ∷ 0x02 ∷ 0x01 ∷ 0x02 ∷ 0xA3 ∷ 0x03 ∷ 0x02 ∷ 0x01 ∷ 0x00 ∷
    0xA4 ∷ 0x03 ∷ 0x02 ∷ 0x01 ∷ 0x68 ∷ 0xA5 ∷ 0x03 ∷ 0x02 ∷ 0x01 ∷ 0x69 ∷ 0xA6 ∷ 0x03 ∷ 0x02 ∷ 0x01 ∷ 0x6A ∷ 0xA7 ∷ 0x03 ∷ 0x02 ∷ 0x01 ∷ 0x6B ∷
    0xA5 ∷ 0x16 ∷ 0x30 ∷ 0x14 ∷ 0xA0 ∷ 0x12 ∷ 0x70 ∷ 0x10 ∷ 0xA0 ∷ 0x03 ∷ 0x02 ∷ 0x01 ∷ 0x05 ∷ 0xA1 ∷ 0x04 ∷ 0x0D ∷ 0x02 ∷ 0x01 ∷ 0x02 ∷ 0xA2 ∷
    0x03 ∷ 0x02 ∷ 0x01 ∷ 0x01 ∷ 0xA0 ∷ 0x17 ∷ 0x69 ∷ 0x15 ∷ 0xA0 ∷ 0x04 ∷ 0x0D ∷ 0x02 ∷ 0x01 ∷ 0x02 ∷ 0xA1 ∷ 0x0D ∷ 0x31 ∷ 0x0B ∷ 0xA2 ∷ 0x04 ∷
    0x04 ∷ 0x02 ∷ 0xAA ∷ 0xBB ∷ 0xA9 ∷ 0x03 ∷ 0x01 ∷ 0x01 ∷ 0x00 ∷ 0xA0 ∷ 0x10 ∷ 0x6A ∷ 0x0E ∷ 0xA0 ∷ 0x03 ∷ 0x0D ∷ 0x01 ∷ 0x01 ∷ 0xA1 ∷ 0x07 ∷
    0x31 ∷ 0x05 ∷ 0xA0 ∷ 0x03 ∷ 0x0C ∷ 0x01 ∷ 0x71 ∷ 0xA0 ∷ 0x16 ∷ 0x71 ∷ 0x14 ∷ 0xA0 ∷ 0x04 ∷ 0x0D ∷ 0x02 ∷ 0x01 ∷ 0x03 ∷ 0xA1 ∷ 0x0C ∷ 0x31 ∷
    0x0A ∷ 0xA2 ∷ 0x03 ∷ 0x02 ∷ 0x01 ∷ 0x01 ∷ 0xA5 ∷ 0x03 ∷ 0x02 ∷ 0x01 ∷ 0x06 ∷ []

abbrev pub element_samples : List Sample
element_samples =
    parameter (record {
      parent = None;
      key = ByNumber (pos 7);
      identifier = part 25 1;
      description = part 30 2;
      value = Int (negsuc 0);
      minimum = Truth true;
      maximum = Text 46 3;
      access = Some (pos 3);
      factor = Some (pos 108);
      online = Some true;
      step = Some (pos 111);
      stream = Some (pos 114);
    })
    ∷ node (record {
      parent = None;
      key = ByNumber (pos 9);
      identifier = part 91 1;
      description = part 96 2;
      root = Some false;
      online = Some true;
    })
    ∷ command (record { parent = Some 1; number = pos 32; mask = Some (negsuc 1) })
    ∷ matrix (record {
      parent = None;
      key = ByNumber (pos 4);
      identifier = part 143 1;
      description = part 148 2;
      matrix_type = Some (pos 2);
      mode = Some (pos 0);
      targets = Some (pos 104);
      sources = Some (pos 105);
      total_limit = Some (pos 106);
      target_limit = Some (pos 107);
    })
    ∷ connection (record { parent = Some 3; target = pos 5; sources = part 197 2; operation = Some (pos 1) })
    ∷ parameter (record {
      parent = None;
      key = ByPath 212 2;
      identifier = None;
      description = None;
      value = Octets 222 2;
      minimum = Absent;
      maximum = Absent;
      access = None;
      factor = None;
      online = Some false;
      step = None;
      stream = None;
    })
    ∷ node (record { parent = None; key = ByPath 237 1; identifier = part 246 1; description = None; root = None; online = None })
    ∷ matrix (record {
      parent = None;
      key = ByPath 255 2;
      identifier = None;
      description = None;
      matrix_type = Some (pos 1);
      mode = None;
      targets = None;
      sources = Some (pos 6);
      total_limit = None;
      target_limit = None;
    })
    ∷ []

-- two stream entries: octets, and the real 3
abbrev pub streams : List ℕ
streams =
    0x60 ∷ 0x22 ∷ 0x65 ∷ 0x20 ∷ 0xA0 ∷ 0x0E ∷ 0x66 ∷ 0x0C ∷ 0xA0 ∷ 0x03 ∷ 0x02 ∷ 0x01 ∷ 0x64 ∷ 0xA1 ∷ 0x05 ∷ 0x04 ∷ 0x03 ∷ 0x01 ∷ 0x02 ∷ 0x03 ∷
    0xA0 ∷ 0x0E ∷ 0x66 ∷ 0x0C ∷ 0xA0 ∷ 0x03 ∷ 0x02 ∷ 0x01 ∷ 0x65 ∷ 0xA1 ∷ 0x05 ∷ 0x09 ∷ 0x03 ∷ 0x80 ∷ 0x00 ∷ 0x03 ∷ []

abbrev pub stream_samples : List Sample
stream_samples =
    stream (record { parent = None; identifier = pos 100; value = Octets 17 3 })
    ∷ stream (record { parent = None; identifier = pos 101; value = Real (fin false 3 (pos 0)) })
    ∷ []

pub elements-read : (r : List ℕ) → ((read_at elements (rows_of r 9)).answer ≡ Read 0 8) × All (read_at elements (rows_of r 9)).rows element_samples
unfolding head_at tag_number long_number stop cut length_at sized horner signed nine_free twos integer integer_at boolean bool_at is_listed kind_at content_at
    arc_is arc_from arc_at arcs_from zero_at closing_at standing_at deep enter_at first_at last_at is_tag skipped cross_at through_by passed_at
    members rule_of requirements required is_set contents_rows contents_of applications holds kind_among kind_in inner_class inner_number collection_of root_of
    expects least most in_range is_letter no_slash is_name all_positive is_path number_leaf text_leaf numbers_at leaf_at blanks with_cell put_cell words overlay
    marked mark due in_order again after_listed after_other column plain_at inner_at listed_at ruled_at member_at kind_of item_at closed members_by items_by
    root_kind top_at finished walk setup read_at int_of int_in number_in number_of flag_of part_of value_of cell_in filled key_of parent_of same read_as
    parameter_row parameter_of parameter_read node_row node_of node_read matrix_row matrix_of matrix_read command_row command_of command_read
    connection_row connection_of connection_read
elements-read r = (refl, (refl, (refl, (refl, (refl, (refl, (refl, (refl, (refl, tt)))))))))

pub streams-read : (r : List ℕ) → ((read_at streams (rows_of r 3)).answer ≡ Read 3 2) × All (read_at streams (rows_of r 3)).rows stream_samples
unfolding head_at tag_number long_number stop cut length_at sized horner signed nine_free twos integer integer_at boolean bool_at is_listed kind_at content_at
    zero_at closing_at standing_at deep enter_at first_at last_at is_tag skipped cross_at through_by passed_at well_formed binary_real non_empty real real_at in_double number
    members rule_of requirements required is_set contents_rows contents_of applications holds kind_among kind_in inner_class inner_number collection_of root_of
    expects least most in_range number_leaf text_leaf numbers_at leaf_at blanks with_cell put_cell words overlay
    marked mark due in_order again after_listed after_other column plain_at inner_at listed_at ruled_at member_at kind_of item_at closed members_by items_by
    root_kind top_at finished walk setup read_at int_of int_in number_in value_of cell_in filled parent_of same read_as stream_row stream_of stream_read
    Ieee.to_bits Ieee.of_bits Ieee.of_fields Ieee.odd Ieee.nan_bits Ieee.is_nan
streams-read r = (refl, (refl, (refl, tt)))
