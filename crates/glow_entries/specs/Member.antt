-- The members of an entry by value, and the cells that keep them.
use Rattle.std.specs.Prelude.{ℕ, ◌+◌, ◌-◌, List, leb, eqb, ℤ, get_or, Bool, Option, Some, None}
use Rattle.base_choices.specs.Choices.{pick}
use Rattle.glow_rows.specs.declared.Cell.{Cell}
use Rattle.glow_rows.specs.Cell.{boolean, integer, cell, absent, word_of, bit_of, numbers_cell, int_of, number_in}
use Rattle.glow_rows.specs.Place as place
use Rattle.glow_rows.specs.Row.{cell_in}
use Rattle.glow_entries.specs.declared.Part.{Part}
use Rattle.glow_entries.specs.declared.Key.{Key}
use Rattle.glow_entries.specs.declared.Key.TheVariants.{Number as ByNumber, Path as ByPath}

-- a member's cell: its universal tag number, and what it holds
abbrev pub number_cell : Option ℤ → Cell
number_cell None = absent
number_cell (Some z) = cell integer (word_of z) 0

abbrev pub flag_cell : Option Bool → Cell
flag_cell None = absent
flag_cell (Some b) = cell boolean (bit_of b) 0

-- a text, or a list of identifier numbers
abbrev pub part : ℕ → ℕ → Option Part
part start len = Some (record { start = start; len = len })

abbrev pub part_cell : ℕ → Option Part → Cell
part_cell tag None = absent
part_cell tag (Some p) = cell tag p.start p.len

abbrev pub key_cell : Key → Cell
key_cell (ByNumber z) = cell integer (word_of z) 0
key_cell (ByPath start len) = numbers_cell start len

-- an element with a path is a qualified one
abbrev pub key_kind : Key → ℕ → ℕ → ℕ
key_kind (ByNumber z) plain qualified = plain
key_kind (ByPath start len) plain qualified = qualified

-- the parent's place and 1; 0 where there is none
abbrev pub parent_word : Option ℕ → ℕ
parent_word None = 0
parent_word (Some i) = i + 1

-- The other way: what a cell or a row stands for. Where it stands for nothing any answer serves: the row made of it is another.
unfoldable pub number_of : Cell → Option ℤ
number_of v = pick (eqb v.kind integer) (pick (eqb v.second 0) (Some (int_of v.first)) None) None

-- a number that is never absent
unfoldable pub int_in : Cell → ℤ
int_in v = int_of (number_in v)

unfoldable pub flag_of : Cell → Option Bool
flag_of v = pick (eqb v.kind boolean) (Some (eqb v.first 1)) None

unfoldable pub part_of : ℕ → Cell → Option Part
part_of tag v = pick (eqb v.kind tag) (part v.first v.second) None

unfoldable pub key_of : ℕ → List ℕ → Key
key_of qualified r =
    pick (eqb (get_or r 0 0) qualified) (ByPath (cell_in r place.key).first (cell_in r place.key).second) (ByNumber (int_in (cell_in r place.key)))

unfoldable pub parent_of : List ℕ → Option ℕ
parent_of r = pick (eqb (get_or r 1 0) 0) None (pick (leb (get_or r 1 0) 0x100000000) (Some (get_or r 1 0 - 1)) None)
