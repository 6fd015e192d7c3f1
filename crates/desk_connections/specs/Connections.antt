-- What a message's connections ask (document 01, "Desk"), from its entries by content, in message order.
use Rattle.std.specs.Prelude.{ℕ, List, [], ◌∷◌, eqb}
use Rattle.base_choices.specs.Choices.{pick}
use Rattle.glow_rows.specs.Kind.{connection}
use Rattle.glow_rows.specs.Place as place
use Rattle.glow_trees.specs.Content.{Item}
use Rattle.glow_paths.specs.Paths.{number_of, octets_of, numbers_in, member_of, full_path}

-- What a connection asks: its matrix, its target, its sources and its operation.
pub record Ask : Type 0 where
  pub matrix : List ℕ
  pub target : ℕ
  pub sources : List ℕ
  pub operation : ℕ

abbrev pub ask : List ℕ → ℕ → List ℕ → ℕ → Ask
ask matrix target sources operation = record { matrix = matrix; target = target; sources = sources; operation = operation }

-- "Connection: target 0, sources 1, operation 2"; "A missing list is empty"; "absolute (0, default)"
unfoldable pub ask_of : List Item → Item → Ask
ask_of es e =
    ask (full_path es e.parent) (number_of (member_of e place.target))
    (numbers_in (octets_of (member_of e place.connection_sources))) (number_of (member_of e place.operation))

-- of the entries that are left those that are connections, in order; no other entry asks anything
unfoldable pub asks_in : List Item → List Item → List Ask
asks_in es [] = []
asks_in es (e ∷ left) =
    let rest : List Ask = asks_in es left in
    pick (eqb e.kind connection) (ask_of es e ∷ rest) rest

abbrev pub asks_of : List Item → List Ask
asks_of es = asks_in es es
