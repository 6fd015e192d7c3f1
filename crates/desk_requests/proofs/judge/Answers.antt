use native.Mathlib.Omega.{arith}
use mathlib.Core.Path.{◌∙◌}
use Rattle.desk_crosspoints.proofs.Laws.{fit-targets-le, fit-sources-le}
use Rattle.desk_requests.proofs.Answers.{told-target, told-source}
use Rattle.desk_requests.proofs.Steps.{list_count, fits-fit, fits-cells, fits-row, with-unfit, with-over, with-operation, with-judged}
use Rattle.desk_requests.proofs.judge.Goals as goal

pub returns-then-not-is_fit : goal.returns-then-not-is_fit
returns-then-not-is_fit c = record { row_value = with-unfit _ _ _ _ (c.is_fit.ensures ∙ c.if-not-is_fit.true); sources_value = tt }

pub returns-then-cells-index : goal.returns-then-cells-index
returns-then-cells-index c =
    let h = c.is_fit.ensures ∙ c.if-not-is_fit.false in
    record { row_value = with-over _ _ _ _ h (omega (arith, c.index.ensures, c.if-cells-index.true)); sources_value = tt }

pub returns-then-operation-gt-DISCONNECT : goal.returns-then-operation-gt-DISCONNECT
returns-then-operation-gt-DISCONNECT c =
    let h = c.is_fit.ensures ∙ c.if-not-is_fit.false in
    record { row_value = with-operation _ _ _ _ h (omega (arith, c.index.ensures, c.if-cells-index.false)) (omega arith); sources_value = tt }

pub returns-then-f-target : goal.returns-then-f-target
returns-then-f-target c =
    let h = c.is_fit.ensures ∙ c.if-not-is_fit.false in
    record {
      row_value = with-judged _ _ _ _ h (omega (arith, c.index.ensures, c.if-cells-index.false)) (omega arith) 41 (told-target _ _ _ (omega arith));
      sources_value = tt;
    }

pub returns-then-not-all_below : goal.returns-then-not-all_below
returns-then-not-all_below c =
    let h = c.is_fit.ensures ∙ c.if-not-is_fit.false in
    let b = c.all_below.ensures ∙ c.if-not-all_below.true in
    record {
      row_value = with-judged _ _ _ _ h (omega (arith, c.index.ensures, c.if-cells-index.false)) (omega arith) 42 (told-source _ _ _ (omega arith) b);
      sources_value = tt;
    }

pub judge_limits-requires : goal.judge_limits-requires
judge_limits-requires c =
    let h = c.is_fit.ensures ∙ c.if-not-is_fit.false in
    let k = fits-fit _ _ _ h in
    let w = fits-row _ _ _ h in
    let i = c.index.ensures in
    let t = c.if-cells-index.false in
    record {
      targets_le_side = (fit-targets-le _ k, fit-sources-le _ k);
      cells_len = fits-cells _ _ _ h;
      row_len = c.list_row.auto.row ∙ w;
      target_bound = omega (arith, c.if-f-target.false);
      sources_value = c.all_below.ensures ∙ c.if-not-all_below.false;
      sources_value_2 = list_count _ _ _ _ _ w c.list_row.ensures c.count-ones.ensures;
      total_in_bounds = omega (arith, i, t);
    }

pub returns : goal.returns
returns c =
    let h = c.is_fit.ensures ∙ c.if-not-is_fit.false in
    let j = c.judge_limits.ensures in
    record {
      row_value = with-judged _ _ _ _ h (omega (arith, c.index.ensures, c.if-cells-index.false)) (omega arith) _ j.operation_value;
      sources_value = j.sources_value_3;
    }
