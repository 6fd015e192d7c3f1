-- For the functions of this crate.
use Rattle.std.specs.Prelude.{ℕ, ◌≡◌, List, eqb}
use Rattle.base_choices.specs.Choices.{pick}
use Rattle.desk_crosspoints.specs.declared.Figures.{Figures}
use Rattle.desk_crosspoints.specs.Crosspoints.{Cells}
use Rattle.desk_crosspoints.specs.Desk.{desk_at}
use Rattle.sheet_rules.specs.Reading as reading
use Rattle.sheet_rules.specs.Reading.{refused, read}
use Rattle.sheet_reader.specs.declared.Sheet.{Sheet}
use Rattle.sheet_reader.specs.Calls.{leaves, outcome_of}

-- a desk, or a refusal where the number is one
unfoldable pub sheet_by : ℕ → Figures → List ℕ → Cells → reading.Sheet
sheet_by n f path cells = pick (eqb n 0) (read (desk_at f path cells)) (refused n)

-- what reading gives is outcome_of, whatever the store holds
abbrev pub Tells : reading.Sheet → List ℕ → Cells → Sheet → List ℕ → Cells → Type 0
Tells x path cells r path' cells' = (store : List ℕ) → leaves x store path cells ≡ outcome_of r store path' cells'
