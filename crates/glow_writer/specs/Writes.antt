-- What writing a tree gives.
use Rattle.std.specs.Prelude.{ℕ, List}
use Rattle.base_choices.specs.Choices.{pick}
use Rattle.ber_integers.specs.Digits.{Put, put, unchanged}
use Rattle.glow_trees.specs.Content.{Item}
use Rattle.glow_trees.specs.Written.{written_real}
use Rattle.glow_sizes.specs.Accepted.{octets_of, fits}

-- "46 OUT: output too short, or a value or tree that the reader refuses"; the output as it was
unfoldable pub writes : ℕ → ℕ → ℕ → List Item → List ℕ → Put
writes root rows n es out = pick (fits written_real root rows n es) (put out 0 (octets_of written_real root es)) (unchanged out)
