-- What is handed on to a request: each source that a connection names, once.
use Rattle.std.specs.Prelude.{ℕ, ◌≤◌, ◌≡◌, List, length, take}
use Rattle.desk_crosspoints.specs.Figures.{side}
use Rattle.desk_crosspoints.specs.Crosspoints.{Cells, count}
use Rattle.desk_crosspoints.specs.Desk.{Desk}
use Rattle.desk_requests.specs.Request.{request, named, requested}

-- a request with the sources `kept` is the request with the list, on every desk of n sources
abbrev pub Handed : ℕ → List ℕ → List ℕ → Type 0
Handed n list kept =
    (d : Desk) (target operation : ℕ) → d.figures.sources ≡ n → requested d (request target kept operation) ≡ requested d (request target list operation)

-- for the functions of this crate: the first k of `list` are named, each once, and `marks` are their cells
pub record Kept (list : List ℕ) (marks : Cells) (k : ℕ) : Type 0 where
  pub room : side ≤ length list
  pub marked : marks ≡ named side (take k list)
  pub each : count marks ≡ k
