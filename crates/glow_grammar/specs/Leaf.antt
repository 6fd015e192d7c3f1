-- One value, judged by what stands at its member. Its tag, at `at`, is a universal primitive one with this number; its len content octets stand at `start`.
-- `above` counts the numbers of the path so far. For other crates: `leaf_at s at number start len what above` is what `read_leaf` of glow_leaves answers.
use Rattle.std.specs.Prelude.{ℕ, ◌+◌, ◌≤◌, ◌≡◌, ◌⊎◌, List, [], ◌∷◌, Bool, true, false, length, take, drop, leb, ltb, eqb, ℤ, pos, negsuc, Option}
use Rattle.base_choices.specs.Choices.{pick, both}
use Rattle.ber_integers.specs.Readings.{Reading, done, refused}
use Rattle.ber_values.specs.declared.Value.{Value}
use Rattle.ber_values.specs.declared.Value.TheVariants.{Absent, Int, Real, Text, Bool as Truth, Octets}
use Rattle.ber_values.specs.declared.Answer.{Answer}
use Rattle.ber_values.specs.Value.{is_listed, content_at, on_number, answer_says}
use Rattle.ber_identifiers.specs.Identifier.{Arcs, bad, over, numbers, arcs, oid_says, judged as oid_of}
use Rattle.ber_identifiers.specs.declared.Oid.{Oid}
use Rattle.glow_rows.specs.declared.Cell.{Cell}
use Rattle.glow_rows.specs.Cell.{cell, cell_of, numbers_cell}
use Rattle.glow_rows.specs.Cell as universal
use Rattle.glow_grammar.specs.declared.Leaf.{Leaf}
use Rattle.glow_grammar.specs.declared.Leaf.TheVariants.{Kept, Refused as Not}
use Rattle.glow_grammar.specs.Grammar.{name, text, flag, any, step, path, list, int32, to3, to2, to1}

-- the universal tag number that a member's value has; any of five for a value of any kind
unfoldable pub expects : ℕ → ℕ → Bool
expects what number =
    pick (eqb what any) (is_listed number)
    (pick (leb what text) (eqb number universal.text)
    (pick (eqb what flag) (eqb number universal.boolean)
    (pick (eqb what path) (eqb number universal.numbers)
    (pick (eqb what list) (eqb number universal.numbers) (eqb number universal.integer)))))

-- "Numbers are 1 to 2,147,483,647; .. start at 0. Type and operation are 0 to 2, mode 0 or 1, access 0 to 3; command, mask, factor and step are
-- signed 32-bit." The least and the greatest number of a member that is not below zero.
unfoldable pub least : ℕ → ℕ
least what = pick (eqb what step) 1 0

unfoldable pub most : ℕ → ℕ
most what = pick (eqb what to3) 3 (pick (eqb what to2) 2 (pick (eqb what to1) 1 2147483647))

-- -1 - n is at least -2,147,483,648 if n is at most 2,147,483,647
unfoldable pub in_range : ℕ → ℤ → Bool
in_range what (pos n) = both (leb (least what) n) (leb n (most what))
in_range what (negsuc n) = both (eqb what int32) (leb n 2147483647)

-- "Identifiers start with a letter or "_" and hold no "/"."
unfoldable pub is_letter : ℕ → Bool
is_letter b = pick (leb 97 b) (leb b 122) (pick (leb 65 b) (pick (leb b 90) true (eqb b 95)) false)

unfoldable pub no_slash : List ℕ → Bool
no_slash [] = true
no_slash (b ∷ bs) = pick (eqb b 47) false (no_slash bs)

unfoldable pub is_name : List ℕ → Bool
is_name [] = false
is_name (b ∷ bs) = both (is_letter b) (no_slash (b ∷ bs))

-- "A full path has 1 to 16 numbers", each at least 1
unfoldable pub all_positive : List ℕ → Bool
all_positive [] = true
all_positive (n ∷ ns) = pick (eqb n 0) false (all_positive ns)

unfoldable pub is_path : List ℕ → Bool
is_path ns = both (ltb 0 (length ns)) (both (leb (length ns) 16) (all_positive ns))

-- "34 NUMBER, .. 37 PATH": a number out of its range, then a path over 16 ("parents counted")
unfoldable pub number_leaf : ℕ → ℕ → ℕ → ℤ → Leaf
number_leaf at what above z =
    pick (eqb what any) (Kept (cell_of (Int z)) above)
    (pick (in_range what z)
    (pick (eqb what step) (pick (leb (above + 1) 16) (Kept (cell_of (Int z)) (above + 1)) (Not 37 at)) (Kept (cell_of (Int z)) above))
    (Not 34 at))

-- "36 NAME": an identifier against its rule
unfoldable pub text_leaf : List ℕ → ℕ → ℕ → ℕ → ℕ → ℕ → Leaf
text_leaf s at what above start len =
    pick (eqb what name)
    (pick (is_name (take len (drop start s))) (Kept (cell_of (Text start len)) above) (Not 36 at))
    (Kept (cell_of (Text start len)) above)

-- a value that was read, by the member's rule
abbrev pub value_leaf : List ℕ → ℕ → ℕ → ℕ → Value → Leaf
value_leaf s at what above Absent = Not 33 at
value_leaf s at what above (Int z) = number_leaf at what above z
value_leaf s at what above (Real x) = Kept (cell_of (Real x)) above
value_leaf s at what above (Text start len) = text_leaf s at what above start len
value_leaf s at what above (Truth b) = Kept (cell_of (Truth b)) above
value_leaf s at what above (Octets start len) = Kept (cell_of (Octets start len)) above

-- what was read, judged on; or the refusal, as the answer says it
abbrev pub on_said : {A : Type 0} → (A → Leaf) → Reading A → Leaf
on_said leaf (done x) = leaf x
on_said leaf (refused number place) = Not number place

abbrev pub judged : List ℕ → ℕ → ℕ → ℕ → Answer → Leaf
judged s at what above a = on_said (λ v. value_leaf s at what above v.0) (answer_says a at)

-- "37 PATH: path empty, over 16 (parents counted) or with a number out of range"; a source out of its range is 34
abbrev pub path_leaf : ℕ → ℕ → ℕ → Arcs → Leaf
path_leaf at start len bad = Not 30 at
path_leaf at start len over = Not 37 at
path_leaf at start len (numbers ns) = pick (is_path ns) (Kept (numbers_cell start len) (length ns)) (Not 37 at)

-- the sources, by what reading their octets answers
abbrev pub oid_leaf : ℕ → ℕ → ℕ → ℕ → Oid → Leaf
oid_leaf at start len above o = on_said (λ count. Kept (numbers_cell start len) above) (oid_says o 34 at)

abbrev pub list_leaf : ℕ → ℕ → ℕ → ℕ → Arcs → Leaf
list_leaf at start len above a = oid_leaf at start len above (oid_of a)

-- a relative identifier: "a value is checked once whole"
unfoldable pub numbers_at : List ℕ → ℕ → ℕ → ℕ → ℕ → ℕ → Leaf
numbers_at s at start len what above =
    pick (leb (start + len) (length s))
    (pick (eqb what path) (path_leaf at start len (arcs s start len)) (list_leaf at start len above (arcs s start len)))
    (Not 30 (length s))

-- "at one tag its own octets (30), then 31 to 33, then its value's, by number"
unfoldable pub leaf_at : List ℕ → ℕ → ℕ → ℕ → ℕ → ℕ → ℕ → Leaf
leaf_at s at number start len what above =
    pick (expects what number)
    (pick (eqb number universal.numbers) (numbers_at s at start len what above) (judged s at what above (content_at s at number start len)))
    (Not 33 at)

-- the same range, by the word of a number (two's complement)
unfoldable pub word_in : ℕ → ℕ → Bool
word_in what w =
    pick (eqb what int32)
    (pick (leb w 2147483647) true (leb 18446744071562067968 w))
    (both (leb (least what) w) (leb w (most what)))

-- the count of a path's numbers is at most 16, or as it was
abbrev pub LeafBounded : ℕ → Leaf → Type 0
LeafBounded above (Kept v n) = (n ≤ 16) ⊎ (n ≡ above)
LeafBounded above (Not number place) = Unit {0}

-- The cell of a value by its universal tag number and its first word: a text's, octets' or numbers' second word is the length.
unfoldable pub cell_by : ℕ → ℕ → ℕ → Cell
cell_by number first len = cell number first (pick (ltb number universal.text) 0 len)

-- a member whose value is a number that the path does not count, or may be
abbrev pub Counted : ℕ → Type 0
Counted what = (expects what universal.integer ≡ true) × (what ≡ step → ⊥)

-- For `word_of` of glow_leaves and its parts: any answer but this is the first word of the cell that is kept.
abbrev pub no_word : ℕ
no_word = 9223372036854775808

abbrev pub NumberTold : ℕ → Option ℤ → ℕ → Type 0
NumberTold what n r = (what ≡ step → ⊥) → (s : List ℕ) (at above next : ℕ)
    → judged s at what above (on_number at next n) ≡ Kept (cell universal.integer r 0) above

abbrev pub ListTold : ℕ → Oid → ℕ → Type 0
ListTold start o r = (at len above : ℕ) → oid_leaf at start len above o ≡ Kept (cell universal.numbers r len) above

abbrev pub LeafTold : List ℕ → ℕ → ℕ → ℕ → ℕ → ℕ → Type 0
LeafTold s number start len what r = (at above : ℕ) → leaf_at s at number start len what above ≡ Kept (cell_by number r len) above
