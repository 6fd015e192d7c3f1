-- The rules at small streams, by computation: keep-alive, stray bytes, P12's message, connections on a desk of path 1.5.
use Prim.Native.Nat.{ℕ, zero, suc}
use mathlib.Core.Bool.{false}
use mathlib.Core.Path.{◌≡◌, refl}
use mathlib.Core.List.{List, [], ◌∷◌, ◌++◌}
use Rattle.framing_checksum.specs.Checksum.{table, crc_step, crc_from, checksum}
use Rattle.framing_content.specs.Content.{content_of as frame_of, body_of, command_of, packet_of}
use Rattle.framing_session.specs.Rules.{begin, step, in_place, adds, cuts, ends, pieces}
use Rattle.ber_integers.specs.Digits.{horner}
use Rattle.ber_integers.specs.Integer.{signed, nine_free, twos, integer, integer_at}
use Rattle.ber_tags.specs.Tag.{stop, cut, long_number, tag_number, sized, length_at, head_at}
use Rattle.ber_identifiers.specs.Identifier.{arc_is, arc_from, arc_at, arcs_from}
use Rattle.ber_values.specs.Value.{boolean, bool_at, is_listed, kind_at, content_at}
use Rattle.ber_containers.specs.Ends.{zero_at, closing_at, standing_at, deep, enter_at, first_at, last_at, is_tag}
use Rattle.ber_containers.specs.Passing.{skipped, cross_at, through_by, passed_at}
use Rattle.glow_rows.specs.Entry.{blanks, with_cell, put_cell}
use Rattle.glow_grammar.specs.Grammar.{members, rule_of, requirements, required, is_set, contents_rows, contents_of, applications, holds, kind_among, kind_in}
use Rattle.glow_grammar.specs.Grammar.{inner_class, inner_number, collection_of, root_of}
use Rattle.glow_grammar.specs.Leaf.{expects, least, most, in_range, is_letter, no_slash, is_name, all_positive, is_path, number_leaf, text_leaf, numbers_at, leaf_at}
use Rattle.glow_reader.specs.declared.Answer.TheVariants.{Room, Read}
use Rattle.glow_steps.specs.Members.{marked as marked_at, mark, due, in_order, again, after_listed, after_other, column}
use Rattle.glow_steps.specs.Members.{plain_at, inner_at, listed_at, ruled_at, member_at, kind_of, item_at}
use Rattle.glow_walk.specs.Tree.{closed, members_by, items_by}
use Rattle.glow_steps.specs.Root.{root_kind, top_at}
use Rattle.glow_walk.specs.Walk.{finished, walk}
use Rattle.glow_reader.specs.Message.{setup, reply_by}
use Rattle.glow_trees.specs.Content.{Content, nothing as absent, word, bytes, Item, item, content_of, contents_of as contents_in, items_of}
use Rattle.desk_crosspoints.specs.declared.Figures.{Figures}
use Rattle.desk_crosspoints.specs.Crosspoints.{Cells}
use Rattle.desk_crosspoints.specs.Desk.{Desk}
use Rattle.glow_paths.specs.Paths.{numbers_in, is_qualified, path_up, same}
use Rattle.desk_connections.specs.Connections.{ask_of, asks_in}
use Rattle.desk_calls.specs.Calls.{answered, Served, served as served_in, handled}
use Rattle.turn_rules.specs.Rules.{keep, tree_of, Then, nothing, refused, served, follows, Told, tells, after}

abbrev desk : Figures → Cells → Desk
desk f cells = record { figures = f; path = 1 ∷ 5 ∷ []; crosspoints = cells }

abbrev event : ℕ → ℕ → List ℕ → Then → Told
event n number message x = record { offset = n; event = record { number = number; discarded = false; message = message }; after = x }

-- P9 (a keep-alive), then a run of two stray bytes, then an empty frame: whatever the desk, nothing follows
pub v-quiet : (d : Desk)
    → tells 8 (keep begin d) 0 (0xfe ∷ 0x00 ∷ 0x0e ∷ 0x01 ∷ 0x01 ∷ 0x94 ∷ 0xe4 ∷ 0xff ∷ 0x00 ∷ 0x01 ∷ 0xfe ∷ 0xff ∷ [])
    ≡ event 8 4 [] nothing ∷ event 9 10 [] nothing ∷ event 12 15 [] nothing ∷ []
unfolding tells follows step in_place adds ends cuts frame_of body_of command_of checksum crc_from crc_step table
v-quiet d = refl

-- P12's message, and the frame that holds it
abbrev p12 : List ℕ
p12 = 0x60 ∷ 0x0b ∷ 0x6b ∷ 0x09 ∷ 0xa0 ∷ 0x07 ∷ 0x62 ∷ 0x05 ∷ 0xa0 ∷ 0x03 ∷ 0x02 ∷ 0x01 ∷ 0x20 ∷ []

abbrev framed : List ℕ → ℕ → ℕ → List ℕ
framed message low high =
    0xfe ∷ 0x00 ∷ 0x0e ∷ 0x00 ∷ 0x01 ∷ 0xc0 ∷ 0x01 ∷ 0x02 ∷ 0x14 ∷ 0x02 ∷ (message ++ (low ∷ high ∷ 0xff ∷ []))

abbrev none : ℕ → List Content
none zero = []
none (suc n) = absent ∷ none n

-- one entry, no connection and so no answer; with no table 38, one entry told
pub v-command : (d : Desk)
    → (tells 1 (keep begin d) 0 (framed p12 0xb8 0x65)
    ≡ event 26 3 p12 (served (reply_by (Read 0 1)) (item 2 0 (word 2 32 ∷ none 15) ∷ []) 0 []) ∷ [])
    × (tells 0 (keep begin d) 0 (framed p12 0xb8 0x65) ≡ event 26 3 p12 (refused (reply_by (Room 1))) ∷ [])
unfolding tells follows step in_place adds ends cuts pieces frame_of body_of command_of packet_of checksum crc_from crc_step table
    head_at tag_number long_number stop cut length_at sized horner signed nine_free twos integer integer_at boolean bool_at is_listed kind_at content_at
    arc_is arc_from arc_at arcs_from zero_at closing_at standing_at deep enter_at first_at last_at is_tag skipped cross_at through_by passed_at
    members rule_of requirements required is_set contents_rows contents_of applications holds kind_among kind_in inner_class inner_number collection_of root_of
    expects least most in_range is_letter no_slash is_name all_positive is_path number_leaf text_leaf numbers_at leaf_at blanks with_cell put_cell
    marked_at mark due in_order again after_listed after_other column plain_at inner_at listed_at ruled_at member_at kind_of item_at closed members_by items_by
    root_kind top_at finished walk setup content_of contents_in items_of tree_of numbers_in is_qualified path_up ask_of asks_in same answered served_in handled
v-command d = (refl, refl)

-- a qualified matrix of path 1.p with one connection, target t and source 1, and its frame
abbrev asks : ℕ → ℕ → List ℕ
asks p t =
    0x60 ∷ 0x1e ∷ 0x6b ∷ 0x1c ∷ 0xa0 ∷ 0x1a ∷ 0x71 ∷ 0x18 ∷ 0xa0 ∷ 0x04 ∷ 0x0d ∷ 0x02 ∷ 0x01 ∷ p ∷ 0xa5 ∷ 0x10 ∷ 0x30 ∷ 0x0e
    ∷ 0xa0 ∷ 0x0c ∷ 0x70 ∷ 0x0a ∷ 0xa0 ∷ 0x03 ∷ 0x02 ∷ 0x01 ∷ t ∷ 0xa1 ∷ 0x03 ∷ 0x0d ∷ 0x01 ∷ 0x01 ∷ []

abbrev entries_of : ℕ → ℕ → List Item
entries_of p t = item 7 0 (bytes 13 (1 ∷ p ∷ []) ∷ none 15) ∷ item 8 1 (word 2 t ∷ bytes 13 (1 ∷ []) ∷ none 14) ∷ []

-- "40 MATRIX: other path": whatever figures and crosspoints the desk has, they are as they were
pub v-other : (f : Figures) (cells : Cells)
    → (tells 2 (keep begin (desk f cells)) 0 (framed (asks 6 0) 0x3a 0xb6)
    ≡ event 45 3 (asks 6 0) (served (reply_by (Read 0 2)) (entries_of 6 0) 0 (40 ∷ [])) ∷ [])
    × (after 2 (keep begin (desk f cells)) (framed (asks 6 0) 0x3a 0xb6) ≡ keep begin (desk f cells))
unfolding tells after follows step in_place adds ends cuts pieces frame_of body_of command_of packet_of checksum crc_from crc_step table
    head_at tag_number long_number stop cut length_at sized horner signed nine_free twos integer integer_at boolean bool_at is_listed kind_at content_at
    arc_is arc_from arc_at arcs_from zero_at closing_at standing_at deep enter_at first_at last_at is_tag skipped cross_at through_by passed_at
    members rule_of requirements required is_set contents_rows contents_of applications holds kind_among kind_in inner_class inner_number collection_of root_of
    expects least most in_range is_letter no_slash is_name all_positive is_path number_leaf text_leaf numbers_at leaf_at blanks with_cell put_cell
    marked_at mark due in_order again after_listed after_other column plain_at inner_at listed_at ruled_at member_at kind_of item_at closed members_by items_by
    root_kind top_at finished walk setup content_of contents_in items_of tree_of numbers_in is_qualified path_up ask_of asks_in same answered served_in handled
v-other f cells = (refl, refl)

-- Two messages, targets 0 and 2 of this matrix: each is asked of the desk (its answers by computation: crates/desk_calls/proofs/Vectors.antt), which is
-- handed on from message to message.
abbrev done : Figures → ℕ → Cells → Served
done f t cells = handled (desk f cells) (entries_of 5 t)

pub v-on : (f : Figures) (cells : Cells)
    → (tells 2 (keep begin (desk f cells)) 0 (framed (asks 5 0) 0xf0 0x0b ++ framed (asks 5 2) 0xa6 0x03)
    ≡ event 45 3 (asks 5 0) (served (reply_by (Read 0 2)) (entries_of 5 0) 0 (done f 0 cells).answers)
    ∷ event 90 3 (asks 5 2) (served (reply_by (Read 0 2)) (entries_of 5 2) 0 (done f 2 (done f 0 cells).cells).answers) ∷ [])
    × (after 2 (keep begin (desk f cells)) (framed (asks 5 0) 0xf0 0x0b ++ framed (asks 5 2) 0xa6 0x03)
    ≡ keep begin (desk f (done f 2 (done f 0 cells).cells).cells))
unfolding tells after follows step in_place adds ends cuts pieces frame_of body_of command_of packet_of checksum crc_from crc_step table
    head_at tag_number long_number stop cut length_at sized horner signed nine_free twos integer integer_at boolean bool_at is_listed kind_at content_at
    arc_is arc_from arc_at arcs_from zero_at closing_at standing_at deep enter_at first_at last_at is_tag skipped cross_at through_by passed_at
    members rule_of requirements required is_set contents_rows contents_of applications holds kind_among kind_in inner_class inner_number collection_of root_of
    expects least most in_range is_letter no_slash is_name all_positive is_path number_leaf text_leaf numbers_at leaf_at blanks with_cell put_cell
    marked_at mark due in_order again after_listed after_other column plain_at inner_at listed_at ruled_at member_at kind_of item_at closed members_by items_by
    root_kind top_at finished walk setup content_of contents_in items_of tree_of
v-on f cells = (refl, refl)
