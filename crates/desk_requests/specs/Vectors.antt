-- Each rule at a small desk, by computation.
use Rattle.std.specs.Prelude.{ℕ, ◌≡◌, refl, List, [], ◌∷◌, Some, None}
use Rattle.desk_crosspoints.specs.declared.Figures.{Figures}
use Rattle.desk_crosspoints.specs.Figures.{is_count, figures_fit, most_each, most_total}
use Rattle.desk_crosspoints.specs.Crosspoints.{Cells, bit, count, all_bits, clear, row_at, with_row, holders, taken_from, rows_fit, sources_fit}
use Rattle.desk_crosspoints.specs.Crosspoints.{kind_fits, cells_fit, legal}
use Rattle.desk_crosspoints.specs.Desk.{desk_at, Answer, answer}
use Rattle.desk_crosspoints.specs.Vectors.{figures, desk, cells6, cells9}
use Rattle.desk_requests.specs.Request.{request, marked, named, all_below, replaces, becomes, takes, others, row_after, result_of}
use Rattle.desk_requests.specs.Request.{first_of, many, over_total, checks, judged, asked, requested}
use Rattle.desk_requests.specs.Steps.{fits, heeded, total_after, judged_with, told_with}

abbrev asking : Figures → Cells → ℕ → List ℕ → ℕ → Answer
asking f cells target sources operation = requested (desk_at f (1 ∷ []) cells) (request target sources operation)

-- "1 SETUP": a desk that is not legal, then an operation that is none.
pub v-refused :
    (asking (desk 0) (cells9 1 1 0 0 0 0 0 0 0) 9 (9 ∷ []) 0 ≡ answer 1 (cells9 1 1 0 0 0 0 0 0 0)) ×
    (asking (desk 0) (cells9 0 0 0 0 0 0 0 0 0) 9 (9 ∷ []) 3 ≡ answer 1 (cells9 0 0 0 0 0 0 0 0 0)) ×
    -- "41 TARGET, 42 SOURCE", in this order, also for disconnect
    (asking (figures 2 2 3 None None) (cells6 1 0 0 0 0 0) 2 (9 ∷ []) 0 ≡ answer 41 (cells6 1 0 0 0 0 0)) ×
    (asking (figures 2 3 2 None None) (cells6 1 0 0 0 0 0) 1 (1 ∷ 2 ∷ []) 0 ≡ answer 42 (cells6 1 0 0 0 0 0)) ×
    (asking (figures 2 3 2 None None) (cells6 1 0 0 0 0 0) 1 (2 ∷ []) 2 ≡ answer 42 (cells6 1 0 0 0 0 0))
unfolding is_count figures_fit most_each most_total
    bit count all_bits clear row_at with_row holders taken_from rows_fit sources_fit kind_fits cells_fit legal
    marked named all_below replaces becomes takes others row_after result_of first_of many over_total checks judged asked requested
v-refused = (refl, refl, refl, refl, refl)

-- N:N: "absolute .. makes the target's sources the list, connect adds, disconnect removes."
pub v-many-sources :
    (asking (desk 2) (cells9 1 1 1 0 1 0 0 0 0) 1 (2 ∷ 0 ∷ []) 0 ≡ answer 0 (cells9 1 1 1 1 0 1 0 0 0)) ×
    (asking (desk 2) (cells9 1 1 1 0 1 0 0 0 0) 1 (2 ∷ 0 ∷ []) 1 ≡ answer 0 (cells9 1 1 1 1 1 1 0 0 0)) ×
    (asking (desk 2) (cells9 1 1 1 0 1 0 0 0 0) 0 (2 ∷ 0 ∷ []) 2 ≡ answer 0 (cells9 0 1 0 0 1 0 0 0 0)) ×
    -- "A missing list is empty."
    (asking (desk 2) (cells9 1 1 1 0 1 0 0 0 0) 0 [] 0 ≡ answer 0 (cells9 0 0 0 0 1 0 0 0 0)) ×
    (asking (desk 2) (cells9 1 1 1 0 1 0 0 0 0) 0 [] 1 ≡ answer 0 (cells9 1 1 1 0 1 0 0 0 0))
unfolding is_count figures_fit most_each most_total
    bit count all_bits clear row_at with_row holders taken_from rows_fit sources_fit kind_fits cells_fit legal
    marked named all_below replaces becomes takes others row_after result_of first_of many over_total checks judged asked requested
v-many-sources = (refl, refl, refl, refl, refl)

-- "43 MANY, 44 TOTAL: .. result over the target's or total limit".
pub v-limits :
    (asking (figures 2 3 3 (Some 3) (Some 2)) (cells9 1 0 0 0 0 0 0 0 0) 0 (1 ∷ 2 ∷ []) 1 ≡ answer 43 (cells9 1 0 0 0 0 0 0 0 0)) ×
    (asking (figures 2 3 3 (Some 3) (Some 2)) (cells9 1 0 0 0 0 0 0 0 0) 0 (0 ∷ 1 ∷ 2 ∷ []) 0 ≡ answer 43 (cells9 1 0 0 0 0 0 0 0 0)) ×
    -- "A source named twice counts once", one that is connected already too
    (asking (figures 2 3 3 (Some 3) (Some 2)) (cells9 1 0 0 0 0 0 0 0 0) 0 (1 ∷ 1 ∷ 0 ∷ []) 1 ≡ answer 0 (cells9 1 1 0 0 0 0 0 0 0)) ×
    -- in total, with the cells that the request takes away not counted
    (asking (figures 2 3 3 (Some 3) (Some 2)) (cells9 1 1 0 0 0 0 1 0 0) 2 (0 ∷ 1 ∷ []) 0 ≡ answer 44 (cells9 1 1 0 0 0 0 1 0 0)) ×
    (asking (figures 2 3 3 (Some 3) (Some 2)) (cells9 1 1 0 0 0 0 1 0 0) 2 (1 ∷ []) 0 ≡ answer 0 (cells9 1 1 0 0 0 0 0 1 0)) ×
    -- 43 before 44
    (asking (figures 2 3 3 (Some 3) (Some 2)) (cells9 1 1 0 0 0 0 1 0 0) 2 (0 ∷ 1 ∷ 2 ∷ []) 0 ≡ answer 43 (cells9 1 1 0 0 0 0 1 0 0))
unfolding is_count figures_fit most_each most_total
    bit count all_bits clear row_at with_row holders taken_from rows_fit sources_fit kind_fits cells_fit legal
    marked named all_below replaces becomes takes others row_after result_of first_of many over_total checks judged asked requested
v-limits = (refl, refl, refl, refl, refl, refl)

-- "For 1:N and 1:1, connect with one source replaces".
pub v-one-source :
    (asking (desk 0) (cells9 0 0 1 1 0 0 0 0 0) 1 (2 ∷ 2 ∷ []) 1 ≡ answer 0 (cells9 0 0 1 0 0 1 0 0 0)) ×
    (asking (desk 0) (cells9 0 0 1 1 0 0 0 0 0) 1 [] 1 ≡ answer 0 (cells9 0 0 1 1 0 0 0 0 0)) ×
    (asking (desk 0) (cells9 0 0 1 1 0 0 0 0 0) 1 [] 0 ≡ answer 0 (cells9 0 0 1 0 0 0 0 0 0)) ×
    -- "(1:N, 1:1: list over one)"
    (asking (desk 0) (cells9 0 0 0 0 0 0 0 0 0) 1 (2 ∷ 1 ∷ []) 1 ≡ answer 43 (cells9 0 0 0 0 0 0 0 0 0)) ×
    (asking (desk 1) (cells9 0 0 0 0 0 0 0 0 0) 1 (2 ∷ 1 ∷ []) 0 ≡ answer 43 (cells9 0 0 0 0 0 0 0 0 0)) ×
    -- "Disconnect never gives 43 or 44."
    (asking (desk 0) (cells9 0 0 1 1 0 0 0 0 0) 0 (0 ∷ 1 ∷ 2 ∷ []) 2 ≡ answer 0 (cells9 0 0 0 1 0 0 0 0 0)) ×
    -- "only N:N heeds them"
    (asking (figures 0 3 3 (Some 1) (Some 1)) (cells9 0 0 1 0 0 0 0 0 0) 1 (2 ∷ []) 1 ≡ answer 0 (cells9 0 0 1 0 0 1 0 0 0))
unfolding is_count figures_fit most_each most_total
    bit count all_bits clear row_at with_row holders taken_from rows_fit sources_fit kind_fits cells_fit legal
    marked named all_below replaces becomes takes others row_after result_of first_of many over_total checks judged asked requested
v-one-source = (refl, refl, refl, refl, refl, refl, refl)

-- "for 1:1, absolute or connect with one source takes it from every other target".
pub v-taken :
    (asking (desk 1) (cells9 0 0 1 1 0 0 0 0 0) 1 (2 ∷ []) 1 ≡ answer 0 (cells9 0 0 0 0 0 1 0 0 0)) ×
    (asking (desk 1) (cells9 0 0 1 1 0 0 0 1 0) 0 (0 ∷ 0 ∷ []) 0 ≡ answer 0 (cells9 1 0 0 0 0 0 0 1 0)) ×
    -- absolute with no source empties this target alone; disconnect takes from this target alone
    (asking (desk 1) (cells9 0 0 1 1 0 0 0 1 0) 0 [] 0 ≡ answer 0 (cells9 0 0 0 1 0 0 0 1 0)) ×
    (asking (desk 1) (cells9 0 0 1 1 0 0 0 1 0) 0 (0 ∷ []) 2 ≡ answer 0 (cells9 0 0 1 1 0 0 0 1 0))
unfolding is_count figures_fit most_each most_total
    bit count all_bits clear row_at with_row holders taken_from rows_fit sources_fit kind_fits cells_fit legal
    marked named all_below replaces becomes takes others row_after result_of first_of many over_total checks judged asked requested
v-taken = (refl, refl, refl, refl)

abbrev telling : ℕ → Figures → Cells → ℕ → List ℕ → ℕ → ℕ
telling total f cells target sources operation =
    told_with total (desk_at f (1 ∷ []) cells) (request target sources operation) (clear 3)

-- a total that the caller keeps: 44 by that total, with the target's cells before the request not counted; 43 before it; disconnect never
pub v-total :
    (telling 3 (figures 2 3 3 (Some 3) (Some 2)) (cells9 1 1 0 0 0 0 1 0 0) 2 (0 ∷ 1 ∷ []) 0 ≡ 44) ×
    (telling 2 (figures 2 3 3 (Some 3) (Some 2)) (cells9 1 1 0 0 0 0 1 0 0) 2 (0 ∷ 1 ∷ []) 0 ≡ 0) ×
    (telling 3 (figures 2 3 3 (Some 3) (Some 2)) (cells9 1 1 0 0 0 0 1 0 0) 2 (1 ∷ []) 0 ≡ 0) ×
    (telling 3 (figures 2 3 3 (Some 3) (Some 2)) (cells9 1 1 0 0 0 0 1 0 0) 2 (0 ∷ 1 ∷ 2 ∷ []) 0 ≡ 43) ×
    (telling 9 (figures 2 3 3 (Some 3) (Some 2)) (cells9 1 1 0 0 0 0 1 0 0) 2 (0 ∷ 1 ∷ 2 ∷ []) 2 ≡ 0) ×
    -- a total over the cells is 1; 1:N does not heed it
    (telling 10 (figures 2 3 3 (Some 3) (Some 2)) (cells9 1 1 0 0 0 0 1 0 0) 2 (1 ∷ []) 0 ≡ 1) ×
    (telling 9 (figures 0 3 3 (Some 1) (Some 1)) (cells9 0 0 1 0 0 0 0 0 0) 1 (2 ∷ []) 1 ≡ 0)
unfolding is_count figures_fit most_each most_total
    bit count all_bits clear row_at with_row holders taken_from rows_fit sources_fit kind_fits cells_fit legal
    marked named all_below replaces becomes takes others row_after result_of first_of many over_total checks judged asked requested
    fits heeded total_after judged_with told_with
v-total = (refl, refl, refl, refl, refl, refl, refl)
