-- Small desks' sheets, by computation; the decoder of reference/ writes and reads the same.
use Rattle.std.specs.Prelude.{ℕ, ◌≡◌, refl, List, [], ◌∷◌, true, false, Option, Some, None}
use Rattle.ber_integers.specs.Digits.{digits, count_by}
use Rattle.ber_integers.specs.Integer.{shortest, size_by}
use Rattle.ber_integers.specs.Integer as int
use Rattle.ber_tags.specs.Write.{septets, tag_octets, length_octets}
use Rattle.ber_identifiers.specs.Identifier.{oid_octets, arc_is, arc_from, arc_at, arcs_from}
use Rattle.glow_rows.specs.Cell.{numbers}
use Rattle.glow_rows.specs.Kind as kinds
use Rattle.glow_grammar.specs.Grammar.{applications, contents_of, contents_rows}
use Rattle.glow_trees.specs.Content.{Content, Item, item, nothing, bytes, int_of}
use Rattle.glow_trees.specs.Trees.{flat, count}
use Rattle.glow_trees.specs.Legal.{inner}
use Rattle.glow_trees.specs.Written.{message_octets, tagged, spelled, member_octets, members_octets, wrapped, own, trees_octets, root_number}
use Rattle.framing_checksum.specs.Checksum.{table, crc_step, crc_from, checksum}
use Rattle.framing_session.specs.Rules.{begin, inside, part, none, outside, Happening, happens, after}
use Rattle.framing_packets.specs.Written.{escape, escapes, frame, packet}
use Rattle.framing_packets.specs.Read.{happening}
use Rattle.desk_crosspoints.specs.declared.Figures.{Figures}
use Rattle.desk_crosspoints.specs.Figures.{is_count, figures_fit, most_each, most_total}
use Rattle.desk_crosspoints.specs.Crosspoints as crosspoints
use Rattle.desk_crosspoints.specs.Crosspoints.{bit, all_bits, clear, row_at, with_row, holders, taken_from, rows_fit, sources_fit, kind_fits, cells_fit, legal}
use Rattle.desk_crosspoints.specs.Desk.{Desk, desk_at, path_fits, all_numbers, desk_opened}
use Rattle.desk_requests.specs.Request.{marked, named, all_below, replaces, becomes, takes, others, row_after, result_of, many, over_total}
use Rattle.desk_requests.specs.Request.{first_of, checks, judged, asked, requested}
use Rattle.glow_paths.specs.Paths.{numbers_in, is_qualified, path_up, same}
use Rattle.desk_connections.specs.Connections.{ask_of, asks_in}
use Rattle.desk_calls.specs.Calls.{answered, served, handled}
use Rattle.sheet_rules.specs.Sheet.{sources_from, number, left_out, links, sheet_tree, sheet_message, packet_lines}
use Rattle.base_hex.specs.Digits.{digit_of, hex_text}
use Rattle.sheet_rules.specs.Lines.{bad, stream, lines_from, lines_in}
use Rattle.sheet_rules.specs.Reading.{refused, read, first_refused, applied, begun, opens, all_links, of_entries, finished, something_open}
use Rattle.sheet_rules.specs.Reading.{refusal, first_fault, of_events, read_sheet}

abbrev figures : ℕ → ℕ → ℕ → Option ℕ → Option ℕ → Figures
figures kind targets sources total each = record { kind = kind; targets = targets; sources = sources; total = total; each = each }

-- one target, one source, nothing connected, 1:N, path 1
abbrev small : Desk
small = desk_at (figures 0 1 1 None None) (1 ∷ []) (0 ∷ [])

-- two targets, three sources, N:N with the limits 128 and 2, path 1.5; sources 0 and 2 on target 0
abbrev larger : Desk
larger = desk_at (figures 2 2 3 (Some 128) (Some 2)) (1 ∷ 5 ∷ []) (1 ∷ 0 ∷ 1 ∷ 0 ∷ 0 ∷ 0 ∷ [])

abbrev small_message : List ℕ
small_message =
    0x60 ∷ 0x2B ∷ 0x6B ∷ 0x29 ∷ 0xA0 ∷ 0x27 ∷ 0x71 ∷ 0x25 ∷ 0xA0 ∷ 0x03 ∷ 0x0D ∷ 0x01 ∷ 0x01 ∷ 0xA1 ∷ 0x11 ∷ 0x31 ∷ 0x0F ∷ 0xA2 ∷ 0x03 ∷ 0x02 ∷
    0x01 ∷ 0x00 ∷ 0xA4 ∷ 0x03 ∷ 0x02 ∷ 0x01 ∷ 0x01 ∷ 0xA5 ∷ 0x03 ∷ 0x02 ∷ 0x01 ∷ 0x01 ∷ 0xA5 ∷ 0x0B ∷ 0x30 ∷ 0x09 ∷ 0xA0 ∷ 0x07 ∷ 0x70 ∷ 0x05 ∷
    0xA0 ∷ 0x03 ∷ 0x02 ∷ 0x01 ∷ 0x00 ∷ []

abbrev larger_message : List ℕ
larger_message =
    0x60 ∷ 0x46 ∷ 0x6B ∷ 0x44 ∷ 0xA0 ∷ 0x42 ∷ 0x71 ∷ 0x40 ∷ 0xA0 ∷ 0x04 ∷ 0x0D ∷ 0x02 ∷ 0x01 ∷ 0x05 ∷ 0xA1 ∷ 0x1C ∷ 0x31 ∷ 0x1A ∷ 0xA2 ∷ 0x03 ∷
    0x02 ∷ 0x01 ∷ 0x02 ∷ 0xA4 ∷ 0x03 ∷ 0x02 ∷ 0x01 ∷ 0x02 ∷ 0xA5 ∷ 0x03 ∷ 0x02 ∷ 0x01 ∷ 0x03 ∷ 0xA6 ∷ 0x04 ∷ 0x02 ∷ 0x02 ∷ 0x00 ∷ 0x80 ∷ 0xA7 ∷
    0x03 ∷ 0x02 ∷ 0x01 ∷ 0x02 ∷ 0xA5 ∷ 0x1A ∷ 0x30 ∷ 0x18 ∷ 0xA0 ∷ 0x0D ∷ 0x70 ∷ 0x0B ∷ 0xA0 ∷ 0x03 ∷ 0x02 ∷ 0x01 ∷ 0x00 ∷ 0xA1 ∷ 0x04 ∷ 0x0D ∷
    0x02 ∷ 0x00 ∷ 0x02 ∷ 0xA0 ∷ 0x07 ∷ 0x70 ∷ 0x05 ∷ 0xA0 ∷ 0x03 ∷ 0x02 ∷ 0x01 ∷ 0x01 ∷ []

pub v-messages : (sheet_message small ≡ small_message) × (sheet_message larger ≡ larger_message)
unfolding sheet_message sheet_tree links left_out sources_from row_at oid_octets septets
    message_octets tagged spelled member_octets members_octets wrapped own trees_octets root_number inner tag_octets length_octets
    shortest int.octets size_by digits count_by int_of contents_of contents_rows applications
v-messages = (refl, refl)

-- FE000E0001C001021402..3440FF and 0A
abbrev small_sheet : List ℕ
small_sheet =
    70 ∷ 69 ∷ 48 ∷ 48 ∷ 48 ∷ 69 ∷ 48 ∷ 48 ∷ 48 ∷ 49 ∷ 67 ∷ 48 ∷ 48 ∷ 49 ∷ 48 ∷ 50 ∷ 49 ∷ 52 ∷ 48 ∷ 50 ∷ 54 ∷ 48 ∷ 50 ∷ 66 ∷
    54 ∷ 66 ∷ 50 ∷ 57 ∷ 65 ∷ 48 ∷ 50 ∷ 55 ∷ 55 ∷ 49 ∷ 50 ∷ 53 ∷ 65 ∷ 48 ∷ 48 ∷ 51 ∷ 48 ∷ 68 ∷ 48 ∷ 49 ∷ 48 ∷ 49 ∷ 65 ∷ 49 ∷
    49 ∷ 49 ∷ 51 ∷ 49 ∷ 48 ∷ 70 ∷ 65 ∷ 50 ∷ 48 ∷ 51 ∷ 48 ∷ 50 ∷ 48 ∷ 49 ∷ 48 ∷ 48 ∷ 65 ∷ 52 ∷ 48 ∷ 51 ∷ 48 ∷ 50 ∷ 48 ∷ 49 ∷
    48 ∷ 49 ∷ 65 ∷ 53 ∷ 48 ∷ 51 ∷ 48 ∷ 50 ∷ 48 ∷ 49 ∷ 48 ∷ 49 ∷ 65 ∷ 53 ∷ 48 ∷ 66 ∷ 51 ∷ 48 ∷ 48 ∷ 57 ∷ 65 ∷ 48 ∷ 48 ∷ 55 ∷
    55 ∷ 48 ∷ 48 ∷ 53 ∷ 65 ∷ 48 ∷ 48 ∷ 51 ∷ 48 ∷ 50 ∷ 48 ∷ 49 ∷ 48 ∷ 48 ∷ 51 ∷ 52 ∷ 52 ∷ 48 ∷ 70 ∷ 70 ∷ 10 ∷ []

-- FE000E0001C001021402..3924FF and 0A
abbrev larger_sheet : List ℕ
larger_sheet =
    70 ∷ 69 ∷ 48 ∷ 48 ∷ 48 ∷ 69 ∷ 48 ∷ 48 ∷ 48 ∷ 49 ∷ 67 ∷ 48 ∷ 48 ∷ 49 ∷ 48 ∷ 50 ∷ 49 ∷ 52 ∷ 48 ∷ 50 ∷ 54 ∷ 48 ∷ 52 ∷ 54 ∷
    54 ∷ 66 ∷ 52 ∷ 52 ∷ 65 ∷ 48 ∷ 52 ∷ 50 ∷ 55 ∷ 49 ∷ 52 ∷ 48 ∷ 65 ∷ 48 ∷ 48 ∷ 52 ∷ 48 ∷ 68 ∷ 48 ∷ 50 ∷ 48 ∷ 49 ∷ 48 ∷ 53 ∷
    65 ∷ 49 ∷ 49 ∷ 67 ∷ 51 ∷ 49 ∷ 49 ∷ 65 ∷ 65 ∷ 50 ∷ 48 ∷ 51 ∷ 48 ∷ 50 ∷ 48 ∷ 49 ∷ 48 ∷ 50 ∷ 65 ∷ 52 ∷ 48 ∷ 51 ∷ 48 ∷ 50 ∷
    48 ∷ 49 ∷ 48 ∷ 50 ∷ 65 ∷ 53 ∷ 48 ∷ 51 ∷ 48 ∷ 50 ∷ 48 ∷ 49 ∷ 48 ∷ 51 ∷ 65 ∷ 54 ∷ 48 ∷ 52 ∷ 48 ∷ 50 ∷ 48 ∷ 50 ∷ 48 ∷ 48 ∷
    56 ∷ 48 ∷ 65 ∷ 55 ∷ 48 ∷ 51 ∷ 48 ∷ 50 ∷ 48 ∷ 49 ∷ 48 ∷ 50 ∷ 65 ∷ 53 ∷ 49 ∷ 65 ∷ 51 ∷ 48 ∷ 49 ∷ 56 ∷ 65 ∷ 48 ∷ 48 ∷ 68 ∷
    55 ∷ 48 ∷ 48 ∷ 66 ∷ 65 ∷ 48 ∷ 48 ∷ 51 ∷ 48 ∷ 50 ∷ 48 ∷ 49 ∷ 48 ∷ 48 ∷ 65 ∷ 49 ∷ 48 ∷ 52 ∷ 48 ∷ 68 ∷ 48 ∷ 50 ∷ 48 ∷ 48 ∷
    48 ∷ 50 ∷ 65 ∷ 48 ∷ 48 ∷ 55 ∷ 55 ∷ 48 ∷ 48 ∷ 53 ∷ 65 ∷ 48 ∷ 48 ∷ 51 ∷ 48 ∷ 50 ∷ 48 ∷ 49 ∷ 48 ∷ 49 ∷ 51 ∷ 57 ∷ 50 ∷ 52 ∷
    70 ∷ 70 ∷ 10 ∷ []

pub v-lines : (packet_lines 0 true small_message ≡ small_sheet) × (packet_lines 0 true larger_message ≡ larger_sheet)
unfolding packet_lines hex_text packet frame escapes escape checksum crc_from crc_step table
v-lines = (refl, refl)

-- "A line ends at 0A or the input's end and is bad unless it is one or more pairs of hexadecimal digits of either case."
pub v-read-lines :
    -- FE0f, 0A, 10; and with a 0A at its end
    (lines_in (70 ∷ 69 ∷ 48 ∷ 102 ∷ 10 ∷ 49 ∷ 48 ∷ []) ≡ stream (0xFE ∷ 0x0F ∷ 0x10 ∷ [])) ×
    (lines_in (70 ∷ 69 ∷ 48 ∷ 102 ∷ 10 ∷ 49 ∷ 48 ∷ 10 ∷ []) ≡ stream (0xFE ∷ 0x0F ∷ 0x10 ∷ [])) ×
    (lines_in [] ≡ stream []) ×
    -- an empty line, half a pair, 0D, a byte beside the digits
    (lines_in (10 ∷ []) ≡ bad) ×
    (lines_in (70 ∷ 69 ∷ 10 ∷ 10 ∷ []) ≡ bad) ×
    (lines_in (70 ∷ []) ≡ bad) ×
    (lines_in (70 ∷ 10 ∷ 69 ∷ []) ≡ bad) ×
    (lines_in (70 ∷ 69 ∷ 13 ∷ 10 ∷ []) ≡ bad) ×
    (lines_in (47 ∷ 48 ∷ []) ≡ bad) × (lines_in (58 ∷ 48 ∷ []) ≡ bad) × (lines_in (64 ∷ 48 ∷ []) ≡ bad) ×
    (lines_in (71 ∷ 48 ∷ []) ≡ bad) × (lines_in (96 ∷ 48 ∷ []) ≡ bad) × (lines_in (103 ∷ 48 ∷ []) ≡ bad)
unfolding lines_from digit_of
v-read-lines = (refl, refl, refl, refl, refl, refl, refl, refl, refl, refl, refl, refl, refl, refl)

-- "the first event from 10 up", "exactly one message is finished and nothing is open at the end": an unfinished message thrown away by a first piece passes
abbrev event : ℕ → Happening
event n = happening 0 n false (9 ∷ [])

pub v-read-events :
    (first_fault (event 2 ∷ event 3 ∷ event 4 ∷ event 5 ∷ []) ≡ 0) ×
    (first_fault (event 3 ∷ event 16 ∷ event 10 ∷ []) ≡ 16) ×
    (finished (event 4 ∷ event 2 ∷ event 3 ∷ event 5 ∷ []) ≡ (9 ∷ []) ∷ []) ×
    (of_events (event 3 ∷ event 10 ∷ []) (record { place = inside []; message = none }) ≡ refusal 10) ×
    (of_events [] begin ≡ refusal 33) ×
    (of_events (event 3 ∷ event 3 ∷ []) begin ≡ refusal 33) ×
    (of_events (event 3 ∷ []) (record { place = inside []; message = none }) ≡ refusal 33) ×
    (of_events (event 3 ∷ event 2 ∷ []) (record { place = outside; message = part [] }) ≡ refusal 33) ×
    (read_sheet [] ≡ refused 33) ×
    (read_sheet (70 ∷ []) ≡ refused 12)
unfolding first_fault finished something_open of_events read_sheet lines_from digit_of happens after
v-read-events = (refl, refl, refl, refl, refl, refl, refl, refl, refl, refl)

-- the entries of a sheet, and what else may stand there
abbrev matrix_with : List ℕ → List Content → Item
matrix_with path members = item kinds.qualified_matrix 0 (bytes numbers path ∷ nothing ∷ nothing ∷ members)

abbrev matrix : List ℕ → Item
matrix path = matrix_with path (number 2 ∷ nothing ∷ number 2 ∷ number 3 ∷ nothing ∷ number 2 ∷ [])

abbrev link : ℕ → List ℕ → Item
link target sources = item kinds.connection 1 (number target ∷ bytes numbers sources ∷ [])

pub v-read-entries :
    (of_entries (flat 0 0 (sheet_tree larger)) ≡ read larger) ×
    -- missing and repeated targets, sources not ascending: "applies its connections"
    (of_entries (matrix (1 ∷ []) ∷ link 1 (2 ∷ 0 ∷ []) ∷ link 1 (1 ∷ 0 ∷ 1 ∷ []) ∷ [])
    ≡ read (desk_at (figures 2 2 3 None (Some 2)) (1 ∷ []) (0 ∷ 0 ∷ 0 ∷ 1 ∷ 1 ∷ 0 ∷ []))) ×
    -- the first refused connection
    (of_entries (matrix (1 ∷ []) ∷ link 1 (2 ∷ 0 ∷ []) ∷ link 1 (3 ∷ []) ∷ link 2 [] ∷ []) ≡ refused 42) ×
    (of_entries (matrix (1 ∷ []) ∷ link 0 (0 ∷ 1 ∷ 2 ∷ []) ∷ []) ≡ refused 43) ×
    -- 33: no entry, another element first, another after it, two matrices
    (of_entries [] ≡ refused 33) ×
    (of_entries (item kinds.matrix 0 (number 1 ∷ []) ∷ []) ≡ refused 33) ×
    (of_entries (matrix (1 ∷ []) ∷ item kinds.command 1 (number 32 ∷ []) ∷ []) ≡ refused 33) ×
    (of_entries (matrix (1 ∷ []) ∷ link 9 [] ∷ matrix (2 ∷ []) ∷ []) ≡ refused 33) ×
    -- 45 before any connection: a missing count, the mode, a limit of 0, a path
    (of_entries (matrix_with (1 ∷ []) (nothing ∷ nothing ∷ nothing ∷ number 1 ∷ []) ∷ link 9 [] ∷ []) ≡ refused 45) ×
    (of_entries (matrix_with (1 ∷ []) (nothing ∷ nothing ∷ number 1 ∷ []) ∷ []) ≡ refused 45) ×
    (of_entries (matrix_with (1 ∷ []) (nothing ∷ number 1 ∷ number 1 ∷ number 1 ∷ []) ∷ []) ≡ refused 45) ×
    (of_entries (matrix_with (1 ∷ []) (nothing ∷ nothing ∷ number 1 ∷ number 1 ∷ number 0 ∷ []) ∷ []) ≡ refused 45) ×
    (of_entries (matrix [] ∷ link 9 [] ∷ []) ≡ refused 45) ×
    -- no type is 1:N; mode 0 may stand there
    (of_entries (matrix_with (1 ∷ []) (nothing ∷ number 0 ∷ number 1 ∷ number 1 ∷ []) ∷ link 0 (0 ∷ []) ∷ [])
    ≡ read (desk_at (figures 0 1 1 None None) (1 ∷ []) (1 ∷ [])))
unfolding sheet_tree links left_out sources_from oid_octets septets digits count_by flat count
    first_refused applied begun opens all_links of_entries
    is_count figures_fit most_each most_total crosspoints.count
    bit all_bits clear row_at with_row holders taken_from rows_fit sources_fit kind_fits cells_fit legal
    marked named all_below replaces becomes takes others row_after result_of many over_total first_of checks judged asked requested
    arc_is arc_from arc_at arcs_from numbers_in is_qualified path_up ask_of asks_in same answered served handled path_fits all_numbers desk_opened
v-read-entries = (refl, refl, refl, refl, refl, refl, refl, refl, refl, refl, refl, refl, refl, refl)
