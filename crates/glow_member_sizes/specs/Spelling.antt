-- A real's content octets, in each of the two spellings that are measured.
use Rattle.std.specs.Prelude.{ℕ, List, Bool, true, false}
use Rattle.std.specs.Float.Ieee as Ieee
use Rattle.std.specs.Float.{binary64}
use Rattle.ber_real_sizes.specs.Sizes.{least_octets}
use Rattle.glow_trees.specs.Written.{written_real}

-- a real as it is written, or in the fewest octets that are read as it
unfoldable pub least_real : ℕ → List ℕ
least_real w = least_octets (Ieee.of_bits binary64 w)

abbrev pub spelling : Bool → ℕ → List ℕ
spelling true = least_real
spelling false = written_real
