-- One request (document 01, "Desk"): a target, a list of sources, an operation. `w` is a row's size: the desk's source count.
use Rattle.std.specs.Prelude.{ℕ, List, [], ◌∷◌, Bool, true, false, not, get_or, set, leb, ltb, eqb}
use Rattle.base_choices.specs.Choices.{pick, both}
use Rattle.desk_crosspoints.specs.declared.Figures.{Figures}
use Rattle.desk_crosspoints.specs.Figures.{one_to_one, n_to_n, most_each, most_total}
use Rattle.desk_crosspoints.specs.Crosspoints.{Cells, count, clear, row_at, with_row, taken_from, legal}
use Rattle.desk_crosspoints.specs.Desk.{Desk, Answer, answer}

pub record Request : Type 0 where
  pub target : ℕ
  pub sources : List ℕ
  pub operation : ℕ

abbrev pub request : ℕ → List ℕ → ℕ → Request
request target sources operation = record { target = target; sources = sources; operation = operation }

-- "Operations: absolute (0, default) .., connect (1) .., disconnect (2)"
abbrev pub absolute : ℕ
absolute = 0

abbrev pub connect : ℕ
connect = 1

abbrev pub disconnect : ℕ
disconnect = 2

-- the sources' cells set to v
unfoldable pub marked : ℕ → Cells → List ℕ → Cells
marked v r [] = r
marked v r (s ∷ ss) = marked v (set r s v) ss

-- the list as a target's cells: "A source named twice counts once. A missing list is empty."
unfoldable pub named : ℕ → List ℕ → Cells
named w sources = marked 1 (clear w) sources

-- every source named is one of the desk's
unfoldable pub all_below : ℕ → List ℕ → Bool
all_below n [] = true
all_below n (s ∷ ss) =
    let rest : Bool = all_below n ss in
    pick (ltb s n) rest false

-- "For 1:N and 1:1, connect with one source replaces (house)"
unfoldable pub replaces : Figures → Cells → Bool
replaces f list = both (ltb f.kind n_to_n) (eqb (count list) 1)

-- The target's cells after it, from those before it: "absolute makes the target's sources the list, connect adds, disconnect removes."
unfoldable pub becomes : Figures → List ℕ → ℕ → Cells → Cells
becomes f sources operation old =
    pick (eqb operation disconnect) (marked 0 old sources)
    (pick (eqb operation connect)
    (pick (replaces f (named f.sources sources)) (named f.sources sources) (marked 1 old sources))
    (named f.sources sources))

-- "for 1:1, absolute or connect with one source takes it from every other target"
unfoldable pub takes : Figures → List ℕ → ℕ → Bool
takes f sources operation = both (eqb f.kind one_to_one) (both (ltb operation disconnect) (eqb (count (named f.sources sources)) 1))

unfoldable pub others : Figures → List ℕ → ℕ → Cells → Cells
others f sources operation cells = pick (takes f sources operation) (taken_from f.sources cells (get_or sources 0 0) f.targets) cells

-- the target's cells before the request
abbrev pub row_before : Desk → Request → Cells
row_before d r = row_at d.figures.sources d.crosspoints r.target

-- .. and after it
unfoldable pub row_after : Desk → Request → Cells
row_after d r = becomes d.figures r.sources r.operation (row_before d r)

-- the crosspoints that the request asks for
unfoldable pub result_of : Desk → Request → Cells
result_of d r =
    with_row d.figures.sources (others d.figures r.sources r.operation d.crosspoints) r.target (row_after d r)

-- ---- the checks, each with its number

pub record Check : Type 0 where
  pub fails : Bool
  pub number : ℕ

abbrev pub check : Bool → ℕ → Check
check b n = record { fails = b; number = n }

-- the number of the first that fails, 0 where none does
unfoldable pub first_of : List Check → ℕ
first_of [] = 0
first_of (c ∷ cs) =
    let rest : ℕ = first_of cs in
    pick c.fails c.number rest

-- "Disconnect never gives 43 or 44."
abbrev pub limited : Request → Bool
limited r = not (eqb r.operation disconnect)

-- "result over the target's .. limit (1:N, 1:1: list over one)"
unfoldable pub many : Desk → Request → Bool
many d r =
    pick (eqb d.figures.kind n_to_n) (ltb (most_each d.figures) (count (row_after d r))) (ltb 1 (count (named d.figures.sources r.sources)))

-- "result over the .. total limit"; "only N:N heeds them"
unfoldable pub over_total : Desk → Request → Bool
over_total d r = both (eqb d.figures.kind n_to_n) (ltb (most_total d.figures) (count (result_of d r)))

-- "Frame, header and desk checks run in table order": 41 TARGET, 42 SOURCE, 43 MANY, 44 TOTAL, where `over` says whether the total limit is passed
abbrev pub checks_by : Bool → Desk → Request → List Check
checks_by over d r =
    check (leb d.figures.targets r.target) 41
    ∷ check (not (all_below d.figures.sources r.sources)) 42
    ∷ check (both (limited r) (many d r)) 43
    ∷ check (both (limited r) over) 44
    ∷ []

unfoldable pub checks : Desk → Request → List Check
checks d r = checks_by (over_total d r) d r

unfoldable pub judged : Desk → Request → ℕ
judged d r = first_of (checks d r)

-- "40 to 44 [leave] the crosspoints as they were"
unfoldable pub asked : Desk → Request → Answer
asked d r = pick (eqb (judged d r) 0) (answer 0 (result_of d r)) (answer (judged d r) d.crosspoints)

-- "1 SETUP, first of all: .. desk not legal", or an operation that is none; everything as it was. Its path is not looked at.
unfoldable pub requested : Desk → Request → Answer
requested d r =
    pick (both (legal d.figures d.crosspoints) (leb r.operation disconnect)) (asked d r) (answer 1 d.crosspoints)
