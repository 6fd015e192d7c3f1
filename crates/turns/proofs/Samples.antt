-- P1 to P12, one statement, by computation.
use mathlib.Core.Path.{refl}
use mathlib.Core.List.{List}
use Prim.Native.Nat.{ℕ}
use Rattle.ber_integers.specs.Digits.{horner, digits}
use Rattle.ber_integers.specs.Integer.{signed, nine_free, twos, integer, integer_at, size_by, octets, shortest}
use Rattle.framing_checksum.specs.Checksum.{table, crc_step, crc_from, checksum}
use Rattle.framing_content.specs.Content.{content_of as frame_of, body_of, command_of}
use Rattle.framing_session.specs.Rules.{step, in_place, adds, cuts, ends, happens}
use Rattle.framing_packets.specs.Written.{escape, escapes, frame}
use Rattle.ber_tags.specs.Tag.{stop, cut, long_number, tag_number, sized, length_at, head_at}
use Rattle.ber_identifiers.specs.Identifier.{arc_is, arc_from, arc_at, arcs_from}
use Rattle.ber_values.specs.Value.{boolean, bool_at, is_listed, kind_at, content_at}
use Rattle.ber_containers.specs.Ends.{zero_at, closing_at, standing_at, deep, enter_at, first_at, last_at, is_tag}
use Rattle.ber_containers.specs.Passing.{skipped, cross_at, through_by, passed_at}
use Rattle.glow_rows.specs.Entry.{blanks, with_cell, put_cell, words, overlay}
use Rattle.glow_grammar.specs.Grammar.{members, rule_of, requirements, required, is_set, contents_rows, contents_of, applications, holds, kind_among, kind_in}
use Rattle.glow_grammar.specs.Grammar.{inner_class, inner_number, collection_of, root_of}
use Rattle.glow_grammar.specs.Leaf.{expects, least, most, in_range, is_letter, no_slash, is_name, all_positive, is_path, number_leaf, text_leaf, numbers_at, leaf_at}
use Rattle.glow_steps.specs.Members.{marked, mark, due, in_order, again, after_listed, after_other, column}
use Rattle.glow_steps.specs.Members.{plain_at, inner_at, listed_at, ruled_at, member_at, kind_of, item_at}
use Rattle.glow_walk.specs.Tree.{closed, members_by, items_by}
use Rattle.glow_steps.specs.Root.{root_kind, top_at}
use Rattle.glow_walk.specs.Walk.{finished, walk}
use Rattle.glow_reader.specs.Message.{setup, read_at}
use Rattle.turns.specs.Samples.{All, p1-to-p12}

pub samples : All p1-to-p12
unfolding horner digits signed nine_free twos integer integer_at size_by octets shortest
    happens step in_place adds ends cuts frame_of body_of command_of checksum crc_from crc_step table frame escapes escape
    head_at tag_number long_number stop cut length_at sized boolean bool_at is_listed kind_at content_at
    arc_is arc_from arc_at arcs_from zero_at closing_at standing_at deep enter_at first_at last_at is_tag skipped cross_at through_by passed_at
    members rule_of requirements required is_set contents_rows contents_of applications holds kind_among kind_in inner_class inner_number collection_of root_of
    expects least most in_range is_letter no_slash is_name all_positive is_path number_leaf text_leaf numbers_at leaf_at blanks with_cell put_cell words overlay
    marked mark due in_order again after_listed after_other column plain_at inner_at listed_at ruled_at member_at kind_of item_at closed members_by items_by
    root_kind top_at finished walk setup read_at
samples = (
  (refl, refl),
  (
    (refl, refl),
    (
      (refl, refl),
      (
        (refl, refl),
        (
          (refl, refl),
          (
            (refl, refl),
            (
              (refl, refl),
              (refl, (refl, (refl, (refl, ((λ (r q : List ℕ). refl), tt))))),
            ),
          ),
        ),
      ),
    ),
  ),
)
