-- A desk's figures (document 01, "Desk"): type, counts and limits.
use Rattle.std.specs.Prelude.{ℕ, ◌*◌, Bool, true, leb, eqb, Option, Some, None}
use Rattle.base_choices.specs.Choices.{pick, both}
use Rattle.desk_crosspoints.specs.declared.Figures.{Figures}

-- "1 to 64 targets, 1 to 64 sources": the most of either
abbrev pub side : ℕ
side = 64

-- the most cells of a desk
abbrev pub most_cells : ℕ
most_cells = side * side

-- the types (001): one_to_n 0, one_to_one 1, n_to_n 2
abbrev pub one_to_n : ℕ
one_to_n = 0

abbrev pub one_to_one : ℕ
one_to_one = 1

abbrev pub n_to_n : ℕ
n_to_n = 2

unfoldable pub is_count : ℕ → Bool
is_count n = both (leb 1 n) (leb n side)

-- "Limits, where given, are at least 1 and kept as given": Glow's numbers, at most 2,147,483,647
abbrev pub is_limit : Option ℕ → Bool
is_limit None = true
is_limit (Some n) = both (leb 1 n) (leb n 2147483647)

-- figures in their ranges
unfoldable pub figures_fit : Figures → Bool
figures_fit f =
    both (leb f.kind n_to_n)
    (both (is_count f.targets)
    (both (is_count f.sources)
    (both (is_limit f.total)
    (is_limit f.each))))

abbrev pub limit_or : Option ℕ → ℕ → ℕ
limit_or None n = n
limit_or (Some m) n = m

-- "only N:N heeds them"; "N:N has a limit per target (default the source count)"; a target of 1:N or 1:1 has one source at most
unfoldable pub most_each : Figures → ℕ
most_each f = pick (eqb f.kind n_to_n) (limit_or f.each f.sources) 1

-- how many cells a desk has: a row for each target, in it a cell for each source
abbrev pub cells_of : Figures → ℕ
cells_of f = f.targets * f.sources

-- .. for a host that is to lend them: 0 where the figures are out of range, which have no size
unfoldable pub size_of : Figures → ℕ
size_of f = pick (figures_fit f) (cells_of f) 0

-- "and in total (default targets times sources)"
unfoldable pub most_total : Figures → ℕ
most_total f = limit_or f.total (f.targets * f.sources)
