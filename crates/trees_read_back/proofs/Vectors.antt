-- A tree with each part that a tree may have is legal, so that the theorems say something of it; and P12, "one command, 32".
use Prim.Native.Nat.{ℕ, zero, suc, ◌≤◌}
use mathlib.Core.Path.{◌≡◌, refl, ap}
use mathlib.Core.List.{List, [], ◌∷◌}
use mathlib.Core.Bool.{true}
use native.Mathlib.Omega.{arith}
use lib.ListN.{length}
use Rattle.ber_identifiers.specs.Identifier.{arc_is, arc_from, arc_at, arcs_from}
use Rattle.ber_values.specs.Value.{is_listed}
use Rattle.glow_rows.specs.Entry.{Entries, Rows, overlay}
use Rattle.glow_grammar.specs.Grammar.{contents_of, contents_rows, holds, rule_of, members, required, requirements}
use Rattle.glow_grammar.specs.Leaf.{expects, in_range, least, most, is_letter, no_slash, is_name, all_positive, is_path}
use Rattle.glow_reader.specs.declared.Answer.TheVariants.{Read}
use Rattle.glow_reader.specs.Message.{read_result, read_at}
use Rattle.glow_trees.specs.Content.{Content, nothing, word, bytes, int_of, items_of}
use Rattle.glow_trees.specs.Trees.{Trees, none, tree, count, flat, among}
use Rattle.glow_trees.specs.Legal.{legal_root, legal, rule_at, suits, suited, word_suits, part_suits, complete, path_after, empty, inner}
use Rattle.glow_trees.specs.Written.{message_octets, written_real}
use Rattle.glow_trees.proofs.Vectors.{p12, p12-legal, p12-written}
use Rattle.trees_read_back.proofs.ReadBack.{written_back}

-- so many absent members
abbrev absences : ℕ → List Content
absences zero = []
absences (suc n) = nothing ∷ absences n

-- A node by its path, 1, named "n". In it a parameter 1, "p", with the value 300, and a matrix 2, "m", with a connection: target 0, sources 1 and 128.
abbrev link : Trees
link = tree 8 (word 2 0 ∷ bytes 13 (1 ∷ 129 ∷ 0 ∷ []) ∷ word 2 1 ∷ absences 13) none none none

abbrev children : Trees
children =
    tree 1 (word 2 1 ∷ bytes 12 (112 ∷ []) ∷ nothing ∷ word 2 300 ∷ nothing ∷ nothing ∷ word 2 3 ∷ absences 9) none none
    (tree 4 (word 2 2 ∷ bytes 12 (109 ∷ []) ∷ absences 14) none link none)

abbrev pub sample : Trees
sample = tree 6 (bytes 13 (1 ∷ []) ∷ bytes 12 (110 ∷ []) ∷ nothing ∷ word 1 1 ∷ absences 12) children none none

pub sample-legal : legal_root 0 sample ≡ true
unfolding legal_root legal among holds suited suits rule_at rule_of members word_suits part_suits expects is_listed in_range least most is_letter no_slash is_name
    all_positive is_path arc_is arc_from arc_at arcs_from complete required requirements path_after empty inner contents_of contents_rows int_of
sample-legal = refl

pub sample-count : count sample ≡ 4
unfolding count
sample-count = refl

-- P12 is read into a table with a row: its entries are the tree's
p12-few : length (message_octets written_real 0 p12) ≤ 16384
p12-few = let l = ap length p12-written in omega arith

p12-one : count p12 ≡ 1
unfolding count
p12-one = refl

pub p12-back : (rows : Rows) → length rows ≤ 256 → 1 ≤ length rows
    → (es : Entries) × ((read_at (message_octets written_real 0 p12) rows ≡ read_result (Read 0 (count p12)) (overlay es rows))
    × ((items_of (message_octets written_real 0 p12) es ≡ flat 0 0 p12) × (length es ≡ count p12)))
p12-back rows most h = let n = p12-one in written_back 0 p12 p12-legal p12-few rows most (omega arith)
