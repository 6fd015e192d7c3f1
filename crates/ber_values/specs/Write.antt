-- Values written (document 01, Values): shortest tag and length, fewest octets; 46 for what the reader would refuse.
-- For other crates: `put_value src out at v` is what `write_value` answers and leaves.
use Rattle.std.specs.Prelude.{ℕ, ◌+◌, ◌-◌, ◌≤◌, ◌<◌, List, [], ◌∷◌, ◌++◌, Bool, true, false, length, take, drop, set, leb, Option, Some, None}
use Rattle.base_choices.specs.Choices.{pick}
use Rattle.ber_integers.specs.Digits.{Put, put, unchanged, outcome}
use Rattle.ber_integers.specs.Integer.{shortest}
use Rattle.ber_reals.specs.Write.{Form, unwritten, octets, form}
use Rattle.ber_tags.specs.Write.{tag_octets, length_octets}
use Rattle.ber_values.specs.declared.Value.{Value}
use Rattle.ber_values.specs.declared.Value.TheVariants.{Absent, Int, Real, Text, Bool as Truth, Octets}

-- "written FF"
abbrev pub bool_octet : Bool → ℕ
bool_octet true = 0xFF
bool_octet false = 0

-- the octets of a text, which stand in src; a length has four octets at most
unfoldable pub part : List ℕ → ℕ → ℕ → Form
part src start len =
    pick (leb len 4294967295) (pick (leb (start + len) (length src)) (octets (take len (drop start src))) unwritten) unwritten

-- the content octets of a value, where it is written
abbrev pub content_octets : List ℕ → Value → Form
content_octets src Absent = unwritten
content_octets src (Int z) = octets (shortest z)
content_octets src (Real x) = form x
content_octets src (Text start len) = part src start len
content_octets src (Truth b) = octets (bool_octet b ∷ [])
content_octets src (Octets start len) = part src start len

-- the universal tag number
abbrev pub kind_of : Value → ℕ
kind_of Absent = 0
kind_of (Int z) = 2
kind_of (Real x) = 9
kind_of (Text start len) = 12
kind_of (Truth b) = 1
kind_of (Octets start len) = 4

-- a universal primitive tag, the length and the content
unfoldable pub primitive : ℕ → List ℕ → List ℕ
primitive kind bs = tag_octets 0 false kind ++ (length_octets (length bs) ++ bs)

abbrev pub put_primitive : List ℕ → ℕ → ℕ → Form → Put
put_primitive out at kind unwritten = unchanged out
put_primitive out at kind (octets bs) = put out at (primitive kind bs)

-- the value at a position, or 46 and the output as it was
abbrev pub put_value : List ℕ → List ℕ → ℕ → Value → Put
put_value src out at v = put_primitive out at (kind_of v) (content_octets src v)

-- octets of one slice put into another
unfoldable pub put_part : List ℕ → ℕ → ℕ → List ℕ → ℕ → Put
put_part src start len out at = pick (leb (start + len) (length src)) (put out at (take len (drop start src))) (unchanged out)

-- a tag and a short length before content octets that were put
abbrev pub put_head : List ℕ → ℕ → ℕ → Option ℕ → Put
put_head out at kind (Some e) = outcome (Some e) (set (set out (at + 1) (e - (at + 2))) at kind)
put_head out at kind None = unchanged out

abbrev pub Sealable : List ℕ → ℕ → Option ℕ → Type 0
Sealable out at (Some e) = (at + 2 ≤ e) × ((e < at + 130) × (e ≤ length out))
Sealable out at None = Unit {0}
