-- What is written: the shortest tags and lengths (document 01, Values; X.690 8.1.2 and 8.1.3).
-- For other crates: `put_tag`, `put_length` and `put out at (septets n)` are what `write_tag`, `write_length` and `write_septets` answer and leave.
use Rattle.std.specs.Prelude.{ℕ, ◌+◌, ◌*◌, ◌/◌, ◌%◌, List, [], ◌∷◌, ◌++◌, Bool, true, false, leb, ltb}
use Rattle.base_choices.specs.Choices.{pick}
use Rattle.ber_integers.specs.Digits.{digits, count, Put, put, unchanged}

-- digits with the top bit set: more follow
abbrev pub marked : List ℕ → List ℕ
marked [] = []
marked (d ∷ ds) = (128 + d) ∷ marked ds

-- a number in groups of seven bits, the fewest, each but the last marked
unfoldable pub septets : ℕ → List ℕ
septets m = marked (digits 128 (count 128 (m / 128)) (m / 128)) ++ ((m % 128) ∷ [])

abbrev pub bit : Bool → ℕ
bit true = 32
bit false = 0

-- "the shortest is written"
unfoldable pub tag_octets : ℕ → Bool → ℕ → List ℕ
tag_octets class constructed number =
    pick (ltb number 31) ((class * 64 + bit constructed + number) ∷ []) ((class * 64 + bit constructed + 31) ∷ septets number)

-- a tag that the reader refuses is not written: 46
unfoldable pub put_tag : List ℕ → ℕ → ℕ → Bool → ℕ → Put
put_tag out at class constructed number =
    pick (leb class 3)
    (pick (leb number 268435455) (put out at (tag_octets class constructed number)) (unchanged out))
    (unchanged out)

-- "definite shortest lengths"
unfoldable pub length_octets : ℕ → List ℕ
length_octets n = pick (ltb n 128) (n ∷ []) ((128 + count 256 n) ∷ digits 256 (count 256 n) n)

-- four octets at most
unfoldable pub put_length : List ℕ → ℕ → ℕ → Put
put_length out at n = pick (leb n 4294967295) (put out at (length_octets n)) (unchanged out)
