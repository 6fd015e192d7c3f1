-- The tables and single values, by computation.
use Rattle.std.specs.Prelude.{ℕ, ◌≡◌, refl, List, [], ◌∷◌, map, true, false, length}
use Rattle.std.specs.Int.Count.{count_trailing_zeros}
use Rattle.std.specs.Float.Ieee as Ieee
use Rattle.ber_integers.specs.Digits.{horner}
use Rattle.ber_integers.specs.Integer.{signed, nine_free, twos, integer, integer_at}
use Rattle.ber_reals.specs.Number.{in_double, number}
use Rattle.ber_reals.specs.Real.{well_formed, binary_real, non_empty, real, real_at}
use Rattle.ber_identifiers.specs.Identifier.{arc_is, arc_from, arc_at, arcs_from}
use Rattle.ber_values.specs.Value.{boolean, bool_at, is_listed, kind_at, content_at}
use Rattle.glow_rows.specs.Cell.{cell}
use Rattle.glow_grammar.specs.declared.Leaf.{Leaf}
use Rattle.glow_grammar.specs.declared.Leaf.TheVariants.{Kept, Refused}
use Rattle.glow_grammar.specs.Grammar.{no, name, text, flag, any, step, path, list, from0, int32, to3, to2, to1, links}
use Rattle.glow_grammar.specs.Grammar.{parameter, command, node, matrix, qualified_parameter, qualified_node, qualified_matrix, connection, stream_entry}
use Rattle.glow_grammar.specs.Grammar.{parameter_contents, node_contents, matrix_contents, root_elements, children, connections, streams}
use Rattle.glow_grammar.specs.Grammar.{members, rule_of, requirements, required, is_set, contents_rows, contents_of, applications, holds, kind_among, kind_in}
use Rattle.glow_grammar.specs.Leaf.{expects, least, most, in_range, is_letter, no_slash}
use Rattle.glow_grammar.specs.Leaf.{is_name, all_positive, is_path, number_leaf, text_leaf, numbers_at, leaf_at}

-- "Context numbers"
pub v-rules :
    map (rule_of parameter_contents) (0 ∷ 1 ∷ 2 ∷ 5 ∷ 6 ∷ 8 ∷ 9 ∷ 11 ∷ 14 ∷ 15 ∷ [])
    ≡ name ∷ text ∷ any ∷ to3 ∷ no ∷ int32 ∷ flag ∷ int32 ∷ from0 ∷ no ∷ []
unfolding rule_of members
v-rules = refl

pub v-elements :
    map (λ row. rule_of row 0) (parameter ∷ command ∷ node ∷ matrix ∷ qualified_parameter ∷ qualified_node ∷ qualified_matrix ∷ connection ∷ stream_entry ∷ [])
    ≡ step ∷ int32 ∷ step ∷ step ∷ path ∷ path ∷ path ∷ from0 ∷ from0 ∷ []
unfolding rule_of members
v-elements = refl

-- "matrices also connections 5"
pub v-links : map (λ row. rule_of row 5) (parameter ∷ node ∷ matrix ∷ qualified_matrix ∷ 13 ∷ []) ≡ no ∷ no ∷ links ∷ links ∷ no ∷ []
unfolding rule_of members
v-links = refl

pub v-required : map required (parameter ∷ command ∷ qualified_matrix ∷ connection ∷ stream_entry ∷ node_contents ∷ []) ≡ 1 ∷ 1 ∷ 1 ∷ 1 ∷ 2 ∷ 0 ∷ []
unfolding required requirements
v-required = refl

pub v-contents :
    map contents_of (parameter ∷ command ∷ node ∷ qualified_matrix ∷ connection ∷ [])
    ≡ parameter_contents ∷ 0 ∷ node_contents ∷ matrix_contents ∷ 0 ∷ []
unfolding contents_of contents_rows
v-contents = refl

pub v-set : map is_set (stream_entry ∷ parameter_contents ∷ []) ≡ false ∷ true ∷ []
unfolding is_set
v-set = refl

-- "Application numbers"; "Qualified elements stand only at root level."
pub v-root : map (kind_in root_elements) (0 ∷ 1 ∷ 2 ∷ 3 ∷ 9 ∷ 10 ∷ 13 ∷ 16 ∷ 17 ∷ [])
    ≡ 0 ∷ parameter ∷ command ∷ node ∷ qualified_parameter ∷ qualified_node ∷ matrix ∷ 0 ∷ qualified_matrix ∷ []
unfolding kind_in kind_among holds applications
v-root = refl

pub v-children : map (kind_in children) (1 ∷ 2 ∷ 3 ∷ 9 ∷ 10 ∷ 13 ∷ 17 ∷ []) ≡ parameter ∷ command ∷ node ∷ 0 ∷ 0 ∷ matrix ∷ 0 ∷ []
unfolding kind_in kind_among holds applications
v-children = refl

pub v-others : kind_in connections 16 ∷ kind_in connections 6 ∷ kind_in streams 6 ∷ kind_in streams 16 ∷ kind_in 4 6 ∷ [] ≡ connection ∷ 0 ∷ stream_entry ∷ 0 ∷ 0 ∷ []
unfolding kind_in kind_among holds applications
v-others = refl

-- the octets of one value, from place 2 on, below a path of so many numbers
abbrev one : ℕ → List ℕ → ℕ → ℕ → Leaf
one kind bs what above = leaf_at (kind ∷ length bs ∷ bs) 0 kind 2 (length bs) what above

pub v-numbers :
    one 2 (1 ∷ []) step 15 ∷ one 2 (1 ∷ []) step 16 ∷ one 2 (0 ∷ []) step 16 ∷ one 2 (127 ∷ 255 ∷ 255 ∷ 255 ∷ []) step 0
    ∷ one 2 (0 ∷ 128 ∷ 0 ∷ 0 ∷ 0 ∷ []) step 0 ∷ one 2 (0 ∷ []) from0 3 ∷ one 2 (255 ∷ []) from0 3
    ∷ one 2 (128 ∷ 0 ∷ 0 ∷ 0 ∷ []) int32 3 ∷ one 2 (255 ∷ 127 ∷ 255 ∷ 255 ∷ 255 ∷ []) int32 3
    ∷ one 2 (3 ∷ []) to3 3 ∷ one 2 (4 ∷ []) to3 3 ∷ one 2 (2 ∷ []) to2 3 ∷ one 2 (3 ∷ []) to2 3 ∷ one 2 (1 ∷ []) to1 3 ∷ one 2 (2 ∷ []) to1 3
    ∷ one 2 (0 ∷ 5 ∷ []) from0 3 ∷ one 2 (255 ∷ []) any 3 ∷ []
    ≡ Kept (cell 2 1 0) 16 ∷ Refused 37 0 ∷ Refused 34 0 ∷ Kept (cell 2 2147483647 0) 1
    ∷ Refused 34 0 ∷ Kept (cell 2 0 0) 3 ∷ Refused 34 0
    ∷ Kept (cell 2 18446744071562067968 0) 3 ∷ Refused 34 0
    ∷ Kept (cell 2 3 0) 3 ∷ Refused 34 0 ∷ Kept (cell 2 2 0) 3 ∷ Refused 34 0 ∷ Kept (cell 2 1 0) 3 ∷ Refused 34 0
    ∷ Refused 30 0 ∷ Kept (cell 2 18446744073709551615 0) 3 ∷ []
unfolding leaf_at expects number_leaf in_range least most content_at kind_at is_listed integer_at integer nine_free twos signed horner
v-numbers = refl

-- a_1; an identifier that starts with a digit; a/b; an empty one; texts are free
pub v-texts :
    one 12 (97 ∷ 95 ∷ 49 ∷ []) name 3 ∷ one 12 (95 ∷ []) name 3 ∷ one 12 (49 ∷ 97 ∷ []) name 3 ∷ one 12 (97 ∷ 47 ∷ 98 ∷ []) name 3 ∷ one 12 [] name 3
    ∷ one 12 (47 ∷ []) text 3 ∷ one 12 (47 ∷ []) any 3 ∷ one 4 (47 ∷ []) any 3 ∷ one 4 (97 ∷ []) text 3 ∷ one 2 (1 ∷ []) name 3 ∷ []
    ≡ Kept (cell 12 2 3) 3 ∷ Kept (cell 12 2 1) 3 ∷ Refused 36 0 ∷ Refused 36 0 ∷ Refused 36 0
    ∷ Kept (cell 12 2 1) 3 ∷ Kept (cell 12 2 1) 3 ∷ Kept (cell 4 2 1) 3 ∷ Refused 33 0 ∷ Refused 33 0 ∷ []
unfolding leaf_at expects text_leaf is_name is_letter no_slash content_at kind_at is_listed
v-texts = refl

pub v-flags : one 1 (122 ∷ []) flag 3 ∷ one 1 (0 ∷ []) any 3 ∷ one 1 [] flag 3 ∷ one 2 (1 ∷ []) flag 3 ∷ []
    ≡ Kept (cell 1 1 0) 3 ∷ Kept (cell 1 0 0) 3 ∷ Refused 30 0 ∷ Refused 33 0 ∷ []
unfolding leaf_at expects content_at kind_at is_listed bool_at boolean
v-flags = refl

-- 1.0, and a mantissa of zero
pub v-reals : one 9 (128 ∷ 0 ∷ 1 ∷ []) any 3 ∷ one 9 (128 ∷ 0 ∷ 0 ∷ []) any 3 ∷ []
    ≡ Kept (cell 9 4607182418800017408 0) 3 ∷ Refused 35 0 ∷ []
unfolding leaf_at expects content_at kind_at is_listed real_at real non_empty binary_real well_formed number in_double horner signed count_trailing_zeros
    Ieee.size Ieee.span Ieee.climb Ieee.to_bits Ieee.is_nan
v-reals = refl

-- paths and sources: 1.2; 128; none; a zero; over 2,147,483,647; a number cut off; 16 numbers, and 17
abbrev ones : List ℕ
ones = 1 ∷ 1 ∷ 1 ∷ 1 ∷ 1 ∷ 1 ∷ 1 ∷ 1 ∷ 1 ∷ 1 ∷ 1 ∷ 1 ∷ 1 ∷ 1 ∷ 1 ∷ 1 ∷ []

pub v-paths :
    map (λ bs. one 13 bs path 0)
    ((1 ∷ 2 ∷ []) ∷ (129 ∷ 0 ∷ []) ∷ [] ∷ (1 ∷ 0 ∷ []) ∷ (136 ∷ 128 ∷ 128 ∷ 128 ∷ 0 ∷ []) ∷ (0 ∷ 129 ∷ []) ∷ (128 ∷ 1 ∷ []) ∷ ones ∷ (1 ∷ ones) ∷ [])
    ≡ Kept (cell 13 2 2) 2 ∷ Kept (cell 13 2 2) 1 ∷ Refused 37 0 ∷ Refused 37 0 ∷ Refused 37 0 ∷ Refused 30 0 ∷ Refused 30 0
    ∷ Kept (cell 13 2 16) 16 ∷ Refused 37 0 ∷ []
unfolding leaf_at expects numbers_at is_path all_positive arcs_from arc_at arc_from arc_is
v-paths = refl

pub v-sources :
    map (λ bs. one 13 bs list 4) ([] ∷ (1 ∷ 0 ∷ []) ∷ (136 ∷ 128 ∷ 128 ∷ 128 ∷ 0 ∷ []) ∷ (129 ∷ []) ∷ (1 ∷ ones) ∷ [])
    ≡ Kept (cell 13 2 0) 4 ∷ Kept (cell 13 2 2) 4 ∷ Refused 34 0 ∷ Refused 30 0 ∷ Kept (cell 13 2 17) 4 ∷ []
unfolding leaf_at expects numbers_at arcs_from arc_at arc_from arc_is
v-sources = refl

-- a relative identifier is no value of any kind, and no integer; bytes run out
pub v-refused :
    one 13 (1 ∷ []) any 0 ∷ one 13 (1 ∷ []) step 0 ∷ one 2 (1 ∷ []) path 0
    ∷ leaf_at (2 ∷ 9 ∷ 1 ∷ []) 0 2 2 9 step 0 ∷ leaf_at (13 ∷ 2 ∷ 1 ∷ []) 0 13 2 2 path 0 ∷ []
    ≡ Refused 33 0 ∷ Refused 33 0 ∷ Refused 33 0 ∷ Refused 30 3 ∷ Refused 30 3 ∷ []
unfolding leaf_at expects numbers_at content_at is_listed
v-refused = refl
