-- Lines of hexadecimal digits of either case, read byte by byte.
use Rattle.std.specs.Prelude.{ℕ, ◌+◌, ◌*◌, Bool, true, false, List, [], ◌∷◌, ltb, eqb, set, Option, None, Some}
use Rattle.base_choices.specs.Choices.{pick}
use Rattle.base_hex.specs.Digits.{digit_of}
use Rattle.framing_digits.specs.declared.Scanned.{Scanned}
use Rattle.framing_digits.specs.declared.Stop.{Stop}
use Rattle.framing_digits.specs.declared.Stop.TheVariants.{Input, Line, Fault}

-- What a scan gives, and leaves in the chunk.
pub record Whole : Type 0 where
  pub answer : Scanned
  pub chunk : List ℕ

abbrev pub stops : Stop → ℕ → Option ℕ → Bool → ℕ → Scanned
stops s at high begun n = record { stop = s; next = at; line = record { high = high; begun = begun }; count = n }

-- a line that is not whole pairs, or has none, is bad
abbrev pub line_ends : ℕ → Option ℕ → Bool → ℕ → Scanned
line_ends at None begun n = pick begun (stops Line at None false n) (stops Fault at None false n)
line_ends at (Some h) begun n = stops Fault at None false n

-- a number that is no digit does not count
abbrev pub digit_in : Option ℕ → Option ℕ
digit_in None = None
digit_in (Some h) = pick (ltb h 16) (Some h) None

-- The bytes up to a line's end, a fault or the block's end: `at` bytes of the block were read before, `high` is the first digit
-- of a pair, and the chunk has n bytes.
unfoldable pub scanned : List ℕ → ℕ → Option ℕ → Bool → List ℕ → ℕ → Whole
scanned [] at high begun chunk n = record { answer = stops Input at high begun n; chunk = chunk }
scanned (b ∷ bs) at None begun chunk n =
    pick (eqb b 10) (record { answer = line_ends (at + 1) None begun n; chunk = chunk })
    (pick (eqb (digit_of b) 16) (record { answer = stops Fault (at + 1) None false n; chunk = chunk })
    (scanned bs (at + 1) (Some (digit_of b)) true chunk n))
scanned (b ∷ bs) at (Some h) begun chunk n =
    pick (eqb b 10) (record { answer = line_ends (at + 1) (Some h) begun n; chunk = chunk })
    (pick (eqb (digit_of b) 16) (record { answer = stops Fault (at + 1) None false n; chunk = chunk })
    (scanned bs (at + 1) None true (set chunk n (h * 16 + digit_of b)) (n + 1)))
