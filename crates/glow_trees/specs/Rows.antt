-- The entries that the rows of a table hold, by content.
use Rattle.std.specs.Prelude.{ℕ, List, take}
use Rattle.glow_rows.specs.Entry.{Rows}
pub use Rattle.glow_rows.specs.Row.{cell_at, entry_of}
unfoldable pub use Rattle.glow_rows.specs.Row.{cells_from, entries_of}
use Rattle.glow_trees.specs.Content.{Item, items_of}

-- the first n rows, with the message beside them, by content
unfoldable pub items_in : List ℕ → Rows → ℕ → List Item
items_in s rows n = items_of s (entries_of (take n rows))
