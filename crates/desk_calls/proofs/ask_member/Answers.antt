use lib.Seq.{length-take-le}
use mathlib.Core.Path.{refl, sym, ◌∙◌}
use native.Mathlib.Omega.{arith}
use Rattle.desk_calls.proofs.ask_member.Goals as goal

pub slice_bounds-request_legal-end : goal.slice_bounds-request_legal-end
slice_bounds-request_legal-end c =
    let the-sources-of = c.sources_of-n in
    sym (length-take-le _ the-sources-of.new.list (omega (arith, the-sources-of.ensures.upper_bound, the-sources-of.auto.list)))

pub returns : goal.returns
returns c =
    let the-sources-of = c.sources_of-n in
    let the-request-legal = c.request_legal in
    record {
      operation_value = sym (the-sources-of.ensures.handed (omega arith) _ _ _ refl) ∙ the-request-legal.ensures.operation_value;
      cells_after = the-request-legal.ensures.crosspoints_after;
    }
