-- For the functions of this crate: parts of a request for a caller that knows the desk to be legal.
use Rattle.std.specs.Prelude.{ℕ, ◌+◌, ◌-◌, ◌≡◌, Bool, Result, Ok, Err, length, leb, ltb, eqb}
use Rattle.base_choices.specs.Choices.{pick, both}
use Rattle.desk_crosspoints.specs.declared.Figures.{Figures}
use Rattle.desk_crosspoints.specs.Figures.{n_to_n, figures_fit, cells_of, most_total}
use Rattle.desk_crosspoints.specs.Crosspoints.{Cells, count}
use Rattle.desk_crosspoints.specs.Desk.{Desk}
use Rattle.desk_requests.specs.declared.Refusal.{Refusal}
use Rattle.desk_requests.specs.declared.Refusal.TheVariants.{Setup, Matrix, Target, Source, Many, Total}
use Rattle.desk_requests.specs.declared.Judged.{Judged}
use Rattle.desk_requests.specs.Request.{Request, disconnect, named, row_before, row_after, first_of, checks_by, judged}

-- n cells and a row of w are those of a desk with these figures
unfoldable pub fits : Figures → ℕ → ℕ → Bool
fits f n w = both (figures_fit f) (both (eqb n (cells_of f)) (eqb w f.sources))

-- The number of the first check that fails, 0 where none does; 1 where the lengths are not the desk's, or the operation is none. Crosspoints are taken as they
-- are, and none is changed.
unfoldable pub told : Desk → Request → Cells → ℕ
told d r row =
    pick (both (fits d.figures (length d.crosspoints) (length row)) (leb r.operation disconnect)) (judged d r) 1

-- ---- the same for a caller that keeps the total from request to request

-- as many crosspoints as the total limit heeds: "only N:N heeds them"
unfoldable pub heeded : Figures → ℕ → ℕ
heeded f n = pick (eqb f.kind n_to_n) n 0

-- the total that crosspoints have
abbrev pub total_of : Figures → Cells → ℕ
total_of f cells = heeded f (count cells)

-- the total after a request: less the target's cells before it, and those after it
unfoldable pub total_after : ℕ → Desk → Request → ℕ
total_after total d r = heeded d.figures (total - count (row_before d r) + count (row_after d r))

unfoldable pub judged_with : ℕ → Desk → Request → ℕ
judged_with total d r = first_of (checks_by (ltb (most_total d.figures) (total_after total d r)) d r)

-- What is told where the caller says how many crosspoints are set; 1 too where that is more than there are.
unfoldable pub told_with : ℕ → Desk → Request → Cells → ℕ
told_with total d r row =
    pick (both (fits d.figures (length d.crosspoints) (length row)) (both (leb total (length d.crosspoints)) (leb r.operation disconnect)))
    (judged_with total d r) 1

-- ---- answers

-- the number of each refusal
abbrev pub number_of : Refusal → ℕ
number_of Setup = 1
number_of Matrix = 40
number_of Target = 41
number_of Source = 42
number_of Many = 43
number_of Total = 44

-- .. and of an answer, 0 where nothing is refused
abbrev pub number_told : {A : Type 0} → Result A Refusal → ℕ
number_told (Ok x) = 0
number_told (Err r) = number_of r

-- how many sources are named, the target's cells after the request, and the total after it
pub record Becomes (total : ℕ) (d : Desk) (r : Request) (j : Judged) (row : Cells) : Type 0 where
  pub ones : count (named d.figures.sources r.sources) ≡ j.ones
  pub row_is : row ≡ row_after d r
  pub total_is : total_after total d r ≡ j.total
