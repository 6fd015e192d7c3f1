-- Which entries make a tree that the reader accepts, and how long its message is.
use Rattle.std.specs.Prelude.{ℕ, List, [], ◌∷◌, Bool, true, false, length, leb}
use Rattle.base_choices.specs.Choices.{pick, both}
use Rattle.glow_trees.specs.Content.{Item}
use Rattle.glow_trees.specs.Trees.{trees_of}
use Rattle.glow_trees.specs.Legal.{legal_root}
use Rattle.glow_trees.specs.Written.{message_octets}
use Rattle.glow_member_sizes.specs.Spelling.{least_real}
use Rattle.glow_member_sizes.specs.Sizes.{message_limit, no_size}

-- no entry is left over
abbrev pub is_end : List Item → Bool
is_end [] = true
is_end (e ∷ es) = false

-- all entries make one tree of the grammar
unfoldable pub is_whole : ℕ → List Item → Bool
is_whole root es = both (is_end (trees_of root es).rest) (legal_root root (trees_of root es).trees)

-- the octets of its message
unfoldable pub octets_of : (ℕ → List ℕ) → ℕ → List Item → List ℕ
octets_of real root es = message_octets real root (trees_of root es).trees

-- "that make no tree the reader accepts": else some message of at most 16,384 bytes is read as these entries, and the shortest such message shows it
-- (`accepted-exactly`)
unfoldable pub accepted : ℕ → List Item → Bool
accepted root es = both (leb (length es) 256) (both (is_whole root es) (leb (length (octets_of least_real root es)) message_limit))

-- the entries of the first rows, at most 256, make a tree whose message has at most 16,384 octets
unfoldable pub fits : (ℕ → List ℕ) → ℕ → ℕ → ℕ → List Item → Bool
fits real root rows n es =
    both (leb n rows) (both (leb n 256) (both (is_whole root es) (leb (length (octets_of real root es)) message_limit)))

-- how many octets it has; no_size where there is none
unfoldable pub length_of : (ℕ → List ℕ) → ℕ → ℕ → ℕ → List Item → ℕ
length_of real root rows n es = pick (fits real root rows n es) (length (octets_of real root es)) no_size
