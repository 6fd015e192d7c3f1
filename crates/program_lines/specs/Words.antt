-- What a part of a request says, by its bytes.
use Rattle.std.specs.Prelude.{ℕ, ◌+◌, ◌-◌, ◌*◌, min, Bool, true, false, List, [], ◌∷◌, length, slice_index, leb, eqb, Option, Some, None}
use Rattle.base_choices.specs.Choices.{pick, both}

-- nothing but zeros
unfoldable pub clear : List ℕ → Bool
clear [] = true
clear (b ∷ bs) = pick (eqb b 0) (clear bs) false

-- decimal digits after others that gave n; over 64 bits it is the largest number
unfoldable pub digits_after : ℕ → List ℕ → Option ℕ
digits_after n [] = Some (min n 18446744073709551615)
digits_after n (b ∷ bs) = pick (leb 48 b) (pick (leb b 57) (digits_after (n * 10 + (b - 48)) bs) None) None

-- one digit at least
unfoldable pub number_of : List ℕ → Option ℕ
number_of [] = None
number_of (b ∷ bs) = digits_after 0 (b ∷ bs)

-- .. of which the first is 0 only where it is the one digit
abbrev pub plain_number_of : List ℕ → Option ℕ
plain_number_of text = pick (both (leb 2 (length text)) (eqb (slice_index text 0) 48)) None (number_of text)
