use Rattle.desk_crosspoints.proofs.Legal.{legal-fit}
use Rattle.desk_crosspoints.proofs.Laws.{fit-sources-le}
use lib.Seq.{length-take-le}
use mathlib.Core.Path.{sym, ◌∙◌}
use native.Mathlib.Omega.{arith}
use Rattle.desk_calls.proofs.request_legal.Goals as goal

pub slice_bounds-row-end : goal.slice_bounds-row-end
slice_bounds-row-end c =
    let the-index = c.index-w in
    let k = fit-sources-le _ (legal-fit _ _ c.requires.crosspoints_value) in omega (arith, k, the-index.ensures)

pub slice_bounds-ask-end : goal.slice_bounds-ask-end
slice_bounds-ask-end c =
    let the-index = c.index-w in
    let k = fit-sources-le _ (legal-fit _ _ c.requires.crosspoints_value) in sym (length-take-le the-index.result _ (omega (arith, k, the-index.ensures)))

pub ask-requires : goal.ask-requires
ask-requires c =
    let the-index = c.index-w in
    let k = fit-sources-le _ (legal-fit _ _ c.requires.crosspoints_value) in
    record {
      crosspoints_value = c.requires.crosspoints_value;
      row_len = length-take-le the-index.result _ (omega (arith, k, the-index.ensures)) ∙ the-index.ensures;
      crosspoints_value_2 = c.requires.crosspoints_value_2;
    }
