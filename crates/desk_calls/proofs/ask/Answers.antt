use mathlib.Core.Path.{refl, sym, ◌∙◌}
use Rattle.desk_crosspoints.proofs.Legal.{legal-length}
use Rattle.desk_requests.proofs.Steps.{row-there, told_with_lem, told-refused, told-there, told-first, told-done, done-total, refusal-some}
use Rattle.desk_calls.proofs.ask.Goals as goal

pub free-requires : goal.free-requires
free-requires c =
    let j = c.in-Ok.ensures in
    let t = sym (told_with_lem _ _ _ _ c.requires.crosspoints_value_2) ∙ j.row_value in
    let s = told-first _ _ c.requires.crosspoints_value _ c.requires.row_len _ t refl in
    record { cells_len = legal-length _ _ c.requires.crosspoints_value; sources_bound = s; sources_value = j.sources_value.ones }

pub put_row-requires : goal.put_row-requires
put_row-requires c =
    let t = sym (told_with_lem _ _ _ _ c.requires.crosspoints_value_2) ∙ c.in-Ok.ensures.row_value in
    row-there c.args.f c.args.target _ _ (c.judge.auto.row ∙ c.requires.row_len)
    (c.free.auto.cells ∙ legal-length _ _ c.requires.crosspoints_value) (told-there _ _ c.requires.crosspoints_value _ c.requires.row_len _ t refl)

pub returns-in-Ok : goal.returns-in-Ok
returns-in-Ok c =
    let j = c.in-Ok.ensures in
    let t = sym (told_with_lem _ _ _ _ c.requires.crosspoints_value_2) ∙ j.row_value in
    let w = c.judge.auto.row ∙ c.requires.row_len in
    record {
      operation_value = told-done _ _ c.requires.crosspoints_value _ c.requires.row_len _ t refl _ _ _ _ w c.free.ensures j.sources_value.row_is c.put_row.ensures;
      crosspoints_after = done-total _ _ _ _ _ _ _ _ c.requires.crosspoints_value_2 w c.free.ensures j.sources_value.row_is c.put_row.ensures
          j.sources_value.total_is;
    }

pub returns-in-Err : goal.returns-in-Err
returns-in-Err c =
    let t = sym (told_with_lem _ _ _ _ c.requires.crosspoints_value_2) ∙ c.in-Err.ensures.row_value in
    record {
      operation_value = told-refused _ _ c.requires.crosspoints_value _ c.requires.row_len _ t (refusal-some c.in-Err.refusal);
      crosspoints_after = c.requires.crosspoints_value_2;
    }
