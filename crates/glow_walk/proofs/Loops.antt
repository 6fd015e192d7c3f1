-- What the two loops of the walk keep.
use Prim.Native.Nat.{ℕ, ◌≤◌}
use mathlib.Core.Path.{◌≡◌}
use mathlib.Core.List.{List}
use lib.ListN.{length}
use Rattle.ber_containers.specs.declared.Open.{Open}
use Rattle.glow_rows.specs.Entry.{Entries, Rows, overlay}
use Rattle.glow_walk.specs.declared.Cursor.{Cursor}
use Rattle.glow_walk.specs.Progress.{cursor, Held, MembersLeft, ItemsLeft}

-- what is left of a loop gives what the whole gives, whatever entries the rows held before
pub record ElementLoop (s : List ℕ) (o : Open) (k row me above from n : ℕ) (rows₀ rows : Rows) (at : Cursor) : Type 0 where
  pub onward : from ≤ at.place
  pub enough : at.count ≤ at.place
  pub later : n ≤ at.count
  pub same : length rows ≡ length rows₀
  pub held : (es : Entries) (base : Rows) → length es ≡ n → rows₀ ≡ overlay es base
      → Held (MembersLeft s k o row me (cursor from 0 above n) es) (MembersLeft s k o row me at) base rows at.count

pub record ItemsLoop (s : List ℕ) (o : Open) (k which parent above from n : ℕ) (rows₀ rows : Rows) (at : Cursor) : Type 0 where
  pub onward : from ≤ at.place
  pub enough : at.count ≤ at.place
  pub later : n ≤ at.count
  pub same : length rows ≡ length rows₀
  pub held : (es : Entries) (base : Rows) → length es ≡ n → rows₀ ≡ overlay es base
      → Held (ItemsLeft s k o which parent (cursor from 0 above n) es) (ItemsLeft s k o which parent at) base rows at.count
