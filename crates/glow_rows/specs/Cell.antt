-- A cell: what an entry keeps of one member, as three words. The first is the universal tag number of the member's value, 0 for an absent one.
-- "Every listed member is kept, an absent one as absent."
use Rattle.std.specs.Prelude.{ℕ, ◌+◌, ◌-◌, Bool, true, false, List, [], leb, ltb, eqb, ℤ, pos, negsuc, length, take, drop}
use Rattle.std.specs.Float.Ieee as Ieee
use Rattle.std.specs.Float.{binary64}
use Rattle.base_choices.specs.Choices.{pick}
use Rattle.ber_values.specs.declared.Value.{Value}
use Rattle.ber_values.specs.declared.Value.TheVariants.{Absent, Int, Real, Text, Bool as Truth, Octets}
use Rattle.glow_rows.specs.declared.Cell.{Cell}

-- universal tag numbers
abbrev pub boolean : ℕ
boolean = 1

abbrev pub integer : ℕ
integer = 2

abbrev pub octets : ℕ
octets = 4

abbrev pub real : ℕ
real = 9

abbrev pub text : ℕ
text = 12

-- a relative identifier
abbrev pub numbers : ℕ
numbers = 13

abbrev pub cell : ℕ → ℕ → ℕ → Cell
cell k a b = record { kind = k; first = a; second = b }

abbrev pub absent : Cell
absent = cell 0 0 0

-- an integer as 64 bits in two's complement
abbrev pub word_of : ℤ → ℕ
word_of (pos n) = n
word_of (negsuc n) = 18446744073709551615 - n

abbrev pub bit_of : Bool → ℕ
bit_of true = 1
bit_of false = 0

-- texts and octets by start and length in the message, a real by its bits; what is no number is no value
abbrev pub cell_of : Value → Cell
cell_of Absent = absent
cell_of (Int z) = cell integer (word_of z) 0
cell_of (Real x) = pick (Ieee.is_nan x) absent (cell real (Ieee.to_bits binary64 x) 0)
cell_of (Text start len) = cell text start len
cell_of (Truth b) = cell boolean (bit_of b) 0
cell_of (Octets start len) = cell octets start len

-- a relative identifier: a path, or the sources of a connection
abbrev pub numbers_cell : ℕ → ℕ → Cell
numbers_cell start len = cell numbers start len

-- The other way: what a word or a cell stands for. Where it stands for nothing any answer serves.
unfoldable pub int_of : ℕ → ℤ
int_of a = pick (ltb a 0x8000000000000000) (pos a) (negsuc (18446744073709551615 - a))

unfoldable pub value_of : Cell → Value
value_of v =
    pick (eqb v.kind integer) (Int (int_of v.first))
    (pick (eqb v.kind real) (pick (Ieee.nan_bits binary64 v.first) Absent (Real (Ieee.of_bits binary64 v.first)))
    (pick (eqb v.kind text) (Text v.first v.second)
    (pick (eqb v.kind boolean) (Truth (eqb v.first 1))
    (pick (eqb v.kind octets) (Octets v.first v.second) Absent))))

-- an integer's word, 0 of any other cell
unfoldable pub number_in : Cell → ℕ
number_in v = pick (eqb v.kind integer) (pick (eqb v.second 0) v.first 0) 0

-- the octets of a relative identifier, with the message beside it; none of any other cell, or where they do not lie in the message
unfoldable pub octets_in : List ℕ → Cell → List ℕ
octets_in s v = pick (eqb v.kind numbers) (pick (leb (v.first + v.second) (length s)) (take v.second (drop v.first s)) []) []
