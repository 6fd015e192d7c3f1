-- What a row asks as a connection, with the message beside it: its members by content.
use Rattle.std.specs.Prelude.{ℕ, ◌-◌, ◌≤◌, ◌≡◌, List, length, take, drop}
use Rattle.glow_rows.specs.Place as place
use Rattle.glow_rows.specs.Row.{cell_in}
use Rattle.glow_trees.specs.Content.{content_of}
use Rattle.glow_paths.specs.Paths.{number_of, octets_of}
use Rattle.desk_connections.specs.declared.Asked.{Asked}

abbrev pub listed : List ℕ → Asked → List ℕ
listed s a = take (a.end - a.start) (drop a.start s)

pub record Asks (s : List ℕ) (r : List ℕ) (a : Asked) : Type 0 where
  pub target : number_of (content_of s (cell_in r place.target)) ≡ a.target
  pub operation : number_of (content_of s (cell_in r place.operation)) ≡ a.operation
  pub sources : listed s a ≡ octets_of (content_of s (cell_in r place.connection_sources))
  pub within : (a.start ≤ a.end) × (a.end ≤ length s)
