use native.Mathlib.Omega.{arith}
use mathlib.Core.Path.{refl, ◌∙◌}
use Rattle.desk_crosspoints.proofs.Under.{size_small}
use Rattle.desk_requests.proofs.Answers.{row_from, total-is, told-limits}
use Rattle.desk_requests.proofs.Parts.{all_under}
use Rattle.desk_requests.proofs.Steps.{row-there, row-size}
use Rattle.std.proofs.lemmas.Result.{err_from_is_err_and}
use Rattle.desk_requests.proofs.judge_limits.Goals as goal

pub get_row-requires : goal.get_row-requires
get_row-requires c = row-there c.args.f c.args.target _ _ c.requires.row_len c.requires.cells_len c.requires.target_bound

pub become_row-requires : goal.become_row-requires
become_row-requires c =
    let the-get-row = c.get_row in record { row_len = the-get-row.auto.row ∙ c.requires.row_len; sources_value = c.requires.sources_value_2 }

pub total_after-left-requires : goal.total_after-left-requires
total_after-left-requires c =
    let the-get-row = c.get_row in
    let the-become-row = c.become_row in
    let the-count2 = c.count-after in
    let l = the-become-row.auto.row ∙ the-get-row.auto.row ∙ c.requires.row_len in
    let y = all_under _ c.args.f.sources the-count2.result l the-count2.ensures in
    let s = size_small c.args.f.targets c.args.f.sources c.requires.targets_le_side.0 c.requires.targets_le_side.1 in
    (omega (arith, s, c.requires.cells_len, c.requires.total_in_bounds), omega (arith, y, c.requires.targets_le_side.1))

pub returns-in_err-limit_told : goal.returns-in_err-limit_told
returns-in_err-limit_told c =
    let g = row-size _ _ _ _ _ c.requires.row_len c.get_row.ensures in
    let e = row_from _ _ _ _ g c.become_row.ensures in
    let t = total-is _ _ _ _ _ _ _ _ _ _ g c.count-before.ensures e c.count-after.ensures c.total_after-left.ensures refl refl in
    let h = told-limits _ _ _ _ _ _ _ _ _ (omega (arith, c.requires.target_bound)) c.requires.sources_value e c.requires.sources_value_2
    c.count-after.ensures t c.in_err-limit_told.ensures refl in
    let p = err_from_is_err_and c.from_residual.result c.from_residual.ensures.1 in rw (p.1, p.2) (record { operation_value = h; sources_value_3 = tt })

pub returns : goal.returns
returns c =
    let g = row-size _ _ _ _ _ c.requires.row_len c.get_row.ensures in
    let e = row_from _ _ _ _ g c.become_row.ensures in
    let t = total-is _ _ _ _ _ _ _ _ _ _ g c.count-before.ensures e c.count-after.ensures c.total_after-left.ensures refl refl in
    record {
      operation_value = told-limits _ _ _ _ _ _ _ _ _ (omega (arith, c.requires.target_bound)) c.requires.sources_value e c.requires.sources_value_2
          c.count-after.ensures t c.in_ok-limit_told.ensures refl;
      sources_value_3 = record { ones = c.requires.sources_value_2; row_is = e; total_is = t };
    }
