-- When the desk's call is no SETUP (document 01, "Numbers answered").
use Rattle.std.specs.Prelude.{ℕ, List, Bool, length, leb}
use Rattle.base_choices.specs.Choices.{both}
use Rattle.glow_rows.specs.Entry.{Rows}
use Rattle.glow_trees.specs.Rows.{items_in}
use Rattle.glow_sizes.specs.Accepted.{accepted}
use Rattle.desk_crosspoints.specs.Desk.{Desk, desk_legal}

-- "1 SETUP, first of all: .. table over 256 entries, message over 16,384 bytes, .. desk not legal, entries handed in .. that make no tree the reader accepts":
-- there are no more entries than rows
unfoldable pub is_ready : Desk → ℕ → Rows → ℕ → List ℕ → Bool
is_ready d root rows n s =
    both (leb (length rows) 256) (both (leb (length s) 16384)
    (both (desk_legal d) (both (leb n (length rows)) (accepted root (items_in s rows n)))))
