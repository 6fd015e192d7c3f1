-- Samples, by computation. Document 01's own, P12 among them, are one table: crates/turns/specs/Samples.antt.
use Prim.Native.Nat.{ℕ, zero, suc}
use mathlib.Core.Path.{◌≡◌, refl}
use mathlib.Core.List.{List, [], ◌∷◌}
use Rattle.ber_integers.specs.Digits.{horner}
use Rattle.ber_integers.specs.Integer.{signed, nine_free, twos, integer, integer_at}
use Rattle.ber_tags.specs.Tag.{stop, cut, long_number, tag_number, sized, length_at, head_at}
use Rattle.ber_identifiers.specs.Identifier.{arc_is, arc_from, arc_at, arcs_from}
use Rattle.ber_values.specs.Value.{boolean, bool_at, is_listed, kind_at, content_at}
use Rattle.ber_containers.specs.Ends.{zero_at, closing_at, standing_at, deep, enter_at, first_at, last_at, is_tag}
use Rattle.ber_containers.specs.Passing.{skipped, cross_at, through_by, passed_at}
use Rattle.glow_rows.specs.Cell.{cell}
use Rattle.glow_rows.specs.Entry.{Entry, Entries, Rows, blanks, blank, with_cell, put_cell, words, overlay}
use Rattle.glow_grammar.specs.Grammar.{members, rule_of, requirements, required, is_set, contents_rows, contents_of, applications, holds, kind_among, kind_in}
use Rattle.glow_grammar.specs.Grammar.{inner_class, inner_number, collection_of, root_of}
use Rattle.glow_grammar.specs.Leaf.{expects, least, most, in_range, is_letter, no_slash, is_name, all_positive, is_path, number_leaf, text_leaf, numbers_at, leaf_at}
use Rattle.glow_reader.specs.declared.Answer.{Answer}
use Rattle.glow_reader.specs.declared.Answer.TheVariants.{Setup, Refused as No, Room, Read}
use Rattle.glow_steps.specs.Members.{marked, mark, due, in_order, again, after_listed, after_other, column}
use Rattle.glow_steps.specs.Members.{plain_at, inner_at, listed_at, ruled_at, member_at, kind_of, item_at}
use Rattle.glow_walk.specs.Tree.{closed, members_by, items_by}
use Rattle.glow_steps.specs.Root.{root_kind, top_at}
use Rattle.glow_walk.specs.Walk.{finished, walk}
use Rattle.glow_reader.specs.Message.{setup, read_result, read_at}

-- an entry with a number in cell 0, by kind and parent's place and 1
abbrev one : ℕ → ℕ → ℕ → Entry
one kind parent n = with_cell (blank kind parent) 0 (cell 2 n 0)

-- A message, the count of the table's rows, the answer, and the entries whose rows are the table's first ones after it.
pub record Sample : Type 0 where
  pub message : List ℕ
  pub table : ℕ
  pub answer : Answer
  pub entries : Entries

abbrev sample : List ℕ → ℕ → Answer → Entries → Sample
sample message table answer entries = record { message = message; table = table; answer = answer; entries = entries }

-- containers in each other, passed over: n times A9 80, and their ends
abbrev deeper : ℕ → List ℕ → List ℕ
deeper zero rest = rest
deeper (suc n) rest = 0xA9 ∷ 0x80 ∷ deeper n (0x00 ∷ 0x00 ∷ rest)

-- node 1 in Root, all of indefinite length: four containers, and n more
abbrev nest : ℕ → List ℕ
nest n =
    0x60 ∷ 0x80 ∷ 0x6B ∷ 0x80 ∷ 0xA0 ∷ 0x80 ∷ 0x63 ∷ 0x80 ∷ 0xA0 ∷ 0x03 ∷ 0x02 ∷ 0x01 ∷ 0x01
    ∷ deeper n (0x00 ∷ 0x00 ∷ 0x00 ∷ 0x00 ∷ 0x00 ∷ 0x00 ∷ 0x00 ∷ 0x00 ∷ [])

abbrev pub listed : List Sample
listed =
    -- a stream entry: stream 1, value -1
    sample (0x60 ∷ 0x10 ∷ 0x65 ∷ 0x0E ∷ 0xA0 ∷ 0x0C ∷ 0x66 ∷ 0x0A ∷ 0xA0 ∷ 0x03 ∷ 0x02 ∷ 0x01 ∷ 0x01 ∷ 0xA1 ∷ 0x03 ∷ 0x02 ∷ 0x01 ∷ 0xFF ∷ []) 2
    (Read 3 1) (with_cell (one 9 0 1) 1 (cell 2 18446744073709551615 0) ∷ [])
    -- matrix 1 with node 2, below which command 32, with command 33, and with two connections: each has its parent's place and 1
    ∷ sample (0x60 ∷ 0x44 ∷ 0x6B ∷ 0x42 ∷ 0xA0 ∷ 0x40 ∷ 0x6D ∷ 0x3E ∷ 0xA0 ∷ 0x03 ∷ 0x02 ∷ 0x01 ∷ 0x01 ∷ 0xA2 ∷ 0x21 ∷ 0x64 ∷ 0x1F ∷ 0xA0 ∷ 0x14 ∷ 0x63 ∷ 0x12
    ∷ 0xA0 ∷ 0x03 ∷ 0x02 ∷ 0x01 ∷ 0x02 ∷ 0xA2 ∷ 0x0B ∷ 0x64 ∷ 0x09 ∷ 0xA0 ∷ 0x07 ∷ 0x62 ∷ 0x05 ∷ 0xA0 ∷ 0x03 ∷ 0x02 ∷ 0x01 ∷ 0x20 ∷ 0xA0 ∷ 0x07 ∷
    0x62 ∷ 0x05 ∷ 0xA0 ∷ 0x03 ∷ 0x02 ∷ 0x01 ∷ 0x21 ∷ 0xA5 ∷ 0x14 ∷ 0x30 ∷ 0x12 ∷ 0xA0 ∷ 0x07 ∷ 0x70 ∷ 0x05 ∷ 0xA0 ∷ 0x03 ∷ 0x02 ∷ 0x01 ∷ 0x05 ∷ 0xA0
    ∷ 0x07 ∷ 0x70 ∷ 0x05 ∷ 0xA0 ∷ 0x03 ∷ 0x02 ∷ 0x01 ∷ 0x06 ∷ []) 7
    (Read 0 6) (one 4 0 1 ∷ one 3 1 2 ∷ one 2 2 32 ∷ one 2 1 33 ∷ one 8 1 5 ∷ one 8 1 6 ∷ [])
    -- contents in any order, a member passed over: texts by their place and length
    ∷ sample (0x60 ∷ 0x24 ∷ 0x6B ∷ 0x22 ∷ 0xA0 ∷ 0x20 ∷ 0x63 ∷ 0x1E ∷ 0xA0 ∷ 0x03 ∷ 0x02 ∷ 0x01 ∷ 0x01 ∷ 0xA1 ∷ 0x17 ∷ 0x31 ∷ 0x15 ∷ 0xA1 ∷ 0x03 ∷ 0x0C ∷ 0x01
    ∷ 0x64 ∷ 0xA2 ∷ 0x03 ∷ 0x01 ∷ 0x01 ∷ 0xFF ∷ 0xA0 ∷ 0x03 ∷ 0x0C ∷ 0x01 ∷ 0x6E ∷ 0xA9 ∷ 0x04 ∷ 0x30 ∷ 0x80 ∷ 0x00 ∷ 0x00 ∷ []) 2
    (Read 0 1) (with_cell (with_cell (with_cell (one 3 0 1) 2 (cell 12 21 1)) 3 (cell 1 1 0)) 1 (cell 12 31 1) ∷ [])
    -- 30: a byte left after Root
    ∷ sample (0x60 ∷ 0x02 ∷ 0x6B ∷ 0x00 ∷ 0x05 ∷ []) 2 (No 30 4) []
    -- 31: Root indefinite, its value definite
    ∷ sample (0x60 ∷ 0x80 ∷ 0x6B ∷ 0x00 ∷ 0x00 ∷ 0x00 ∷ []) 2 (No 31 2) []
    -- 64 containers open at once
    ∷ sample (nest 60) 2 (Read 0 1) (one 3 0 1 ∷ [])
    -- 32: a 65th, at its place
    ∷ sample (nest 61) 2 (No 32 133) []
    -- 33: a number missing, at the container's end
    ∷ sample (0x60 ∷ 0x06 ∷ 0x6B ∷ 0x04 ∷ 0xA0 ∷ 0x02 ∷ 0x63 ∷ 0x00 ∷ []) 2 (No 33 8) []
    -- 33: a member of a set twice
    ∷ sample (0x60 ∷ 0x1E ∷ 0x6B ∷ 0x1C ∷ 0xA0 ∷ 0x1A ∷ 0x63 ∷ 0x18 ∷ 0xA0 ∷ 0x03 ∷ 0x02 ∷ 0x01 ∷ 0x01 ∷ 0xA1 ∷ 0x11 ∷ 0x31 ∷ 0x0F ∷ 0xA0 ∷ 0x03 ∷ 0x0C ∷ 0x01
    ∷ 0x41 ∷ 0xA1 ∷ 0x03 ∷ 0x0C ∷ 0x01 ∷ 0x41 ∷ 0xA0 ∷ 0x03 ∷ 0x0C ∷ 0x01 ∷ 0x41 ∷ []) 2 (No 33 27) []
    -- 33: a sequence that does not ascend
    ∷ sample (0x60 ∷ 0x13 ∷ 0x6B ∷ 0x11 ∷ 0xA0 ∷ 0x0F ∷ 0x63 ∷ 0x0D ∷ 0xA0 ∷ 0x03 ∷ 0x02 ∷ 0x01 ∷ 0x01 ∷ 0xA2 ∷ 0x02 ∷ 0x64 ∷ 0x00 ∷ 0xA1 ∷ 0x02 ∷ 0x31 ∷ 0x00
    ∷ []) 2 (No 33 17) []
    -- 34: a number out of its range, before bytes left after Root
    ∷ sample (0x60 ∷ 0x0B ∷ 0x6B ∷ 0x09 ∷ 0xA0 ∷ 0x07 ∷ 0x63 ∷ 0x05 ∷ 0xA0 ∷ 0x03 ∷ 0x02 ∷ 0x01 ∷ 0x00 ∷ 0x00 ∷ 0x00 ∷ []) 2 (No 34 10) []
    -- 36: the identifier "/", before a bad boolean
    ∷ sample (0x60 ∷ 0x1A ∷ 0x6B ∷ 0x18 ∷ 0xA0 ∷ 0x16 ∷ 0x63 ∷ 0x14 ∷ 0xA0 ∷ 0x03 ∷ 0x02 ∷ 0x01 ∷ 0x01 ∷ 0xA1 ∷ 0x0D ∷ 0x31 ∷ 0x0B ∷ 0xA0 ∷ 0x03 ∷ 0x0C ∷ 0x01
    ∷ 0x2F ∷ 0xA2 ∷ 0x04 ∷ 0x01 ∷ 0x02 ∷ 0x00 ∷ 0x00 ∷ []) 2 (No 36 19) []
    -- 37: an empty path, before a tag unexpected
    ∷ sample (0x60 ∷ 0x0C ∷ 0x6B ∷ 0x0A ∷ 0xA0 ∷ 0x08 ∷ 0x6A ∷ 0x06 ∷ 0xA0 ∷ 0x02 ∷ 0x0D ∷ 0x00 ∷ 0xE1 ∷ 0x00 ∷ []) 2 (No 37 10) []
    -- 38: three commands, and a table of two
    ∷ sample (0x60 ∷ 0x1D ∷ 0x6B ∷ 0x1B ∷ 0xA0 ∷ 0x07 ∷ 0x62 ∷ 0x05 ∷ 0xA0 ∷ 0x03 ∷ 0x02 ∷ 0x01 ∷ 0x20 ∷ 0xA0 ∷ 0x07 ∷ 0x62 ∷ 0x05 ∷ 0xA0 ∷ 0x03 ∷ 0x02 ∷ 0x01
    ∷ 0x21 ∷ 0xA0 ∷ 0x07 ∷ 0x62 ∷ 0x05 ∷ 0xA0 ∷ 0x03 ∷ 0x02 ∷ 0x01 ∷ 0x22 ∷ []) 2 (Room 3) []
    -- 1: a table of 257
    ∷ sample [] 257 Setup []
    ∷ []

-- a table of n rows, whatever they hold
abbrev rows_of : List ℕ → ℕ → Rows
rows_of r zero = []
rows_of r (suc n) = r ∷ rows_of r n

abbrev pub All : List ℕ → List Sample → Type 0
All r [] = Unit {0}
All r (p ∷ ps) = (read_at p.message (rows_of r p.table) ≡ read_result p.answer (overlay p.entries (rows_of r p.table))) × All r ps

pub samples : (r : List ℕ) → All r listed
unfolding head_at tag_number long_number stop cut length_at sized horner signed nine_free twos integer integer_at boolean bool_at is_listed kind_at content_at
    arc_is arc_from arc_at arcs_from zero_at closing_at standing_at deep enter_at first_at last_at is_tag skipped cross_at through_by passed_at
    members rule_of requirements required is_set contents_rows contents_of applications holds kind_among kind_in inner_class inner_number collection_of root_of
    expects least most in_range is_letter no_slash is_name all_positive is_path number_leaf text_leaf numbers_at leaf_at blanks with_cell put_cell words overlay
    marked mark due in_order again after_listed after_other column plain_at inner_at listed_at ruled_at member_at kind_of item_at closed members_by items_by
    root_kind top_at finished walk setup read_at
samples r =
    (refl, (refl, (refl, (refl, (refl, (refl, (refl, (refl, (refl, (refl, (refl, (refl, (refl, (refl, (refl, tt)))))))))))))))
