-- Lines of hexadecimal digits (document 01, "Desk"): "A line ends at 0A or the input's end and is bad unless it is one or more pairs of hexadecimal digits
-- of either case."
use Rattle.std.specs.Prelude.{ℕ, ◌+◌, ◌*◌, Bool, true, false, List, [], ◌∷◌, eqb}
use Rattle.base_choices.specs.Choices.{pick}
use Rattle.base_hex.specs.Digits.{digit_of}

-- All lines, as one stream of bytes; or a bad one among them.
pub data Stream : Type 0 where
  bad : Stream
  stream : List ℕ → Stream

abbrev pub push : ℕ → Stream → Stream
push b bad = bad
push b (stream bs) = stream (b ∷ bs)

-- What has come of a line: nothing, whole pairs, or a first digit too.
pub data Come : Type 0 where
  fresh : Come
  pairs : Come
  half : ℕ → Come

abbrev pub digit_then : ℕ → Stream → Stream
digit_then d x = pick (eqb d 16) bad x

-- There is no line after the last 0A; two 0A in a row hold an empty line, which is bad.
unfoldable pub lines_from : Come → List ℕ → Stream
lines_from fresh [] = stream []
lines_from pairs [] = stream []
lines_from (half d) [] = bad
lines_from fresh (b ∷ bs) =
    let more : Stream = lines_from (half (digit_of b)) bs in
    digit_then (digit_of b) more
lines_from pairs (b ∷ bs) =
    let next : Stream = lines_from fresh bs in
    let more : Stream = lines_from (half (digit_of b)) bs in
    pick (eqb b 10) next (digit_then (digit_of b) more)
lines_from (half d) (b ∷ bs) =
    let more : Stream = lines_from pairs bs in
    digit_then (digit_of b) (push (d * 16 + digit_of b) more)

abbrev pub lines_in : List ℕ → Stream
lines_in text = lines_from fresh text

-- whether there is a bad line
abbrev pub is_bad : Stream → Bool
is_bad bad = true
is_bad (stream bs) = false
