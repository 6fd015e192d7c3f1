-- P12: the tree of one command, 32.
use mathlib.Core.Path.{◌≡◌, refl}
use mathlib.Core.List.{List, [], ◌∷◌}
use mathlib.Core.Bool.{true}
use Rattle.ber_integers.specs.Digits.{digits}
use Rattle.ber_integers.specs.Integer.{shortest, size_by}
use Rattle.ber_integers.specs.Integer as int
use Rattle.ber_tags.specs.Write.{tag_octets, length_octets}
use Rattle.ber_values.specs.Value.{is_listed}
use Rattle.glow_grammar.specs.Grammar.{applications, contents_of, contents_rows, holds, rule_of, members, required, requirements}
use Rattle.glow_grammar.specs.Leaf.{expects, in_range, least, most}
use Rattle.glow_trees.specs.Content.{Content, nothing, word, int_of}
use Rattle.glow_trees.specs.Trees.{Trees, none, tree, among}
use Rattle.glow_trees.specs.Legal.{legal_root, legal, rule_at, suits, suited, word_suits, complete, path_after, empty, inner}
use Rattle.glow_trees.specs.Written.{message_octets, tagged, spelled, member_octets, members_octets, wrapped, own, trees_octets, root_number, written_real}

abbrev pub nothings : List Content
nothings =
    nothing ∷ nothing ∷ nothing ∷ nothing ∷ nothing ∷ nothing ∷ nothing ∷ nothing ∷ nothing ∷ nothing ∷ nothing ∷ nothing ∷ nothing ∷ nothing ∷ nothing ∷ []

abbrev pub p12 : Trees
p12 = tree 2 (word 2 32 ∷ nothings) none none none

pub p12-written : message_octets written_real 0 p12 ≡ 0x60 ∷ 0x0B ∷ 0x6B ∷ 0x09 ∷ 0xA0 ∷ 0x07 ∷ 0x62 ∷ 0x05 ∷ 0xA0 ∷ 0x03 ∷ 0x02 ∷ 0x01 ∷ 0x20 ∷ []
unfolding message_octets tagged spelled member_octets members_octets wrapped own trees_octets root_number inner tag_octets length_octets shortest int.octets
    size_by digits int_of contents_of contents_rows applications
p12-written = refl

pub p12-legal : legal_root 0 p12 ≡ true
unfolding legal_root legal among holds suited suits rule_at rule_of members word_suits expects is_listed in_range least most complete required requirements
    path_after empty inner contents_of contents_rows int_of
p12-legal = refl
