use Rattle.std.proofs.Common.{rules, ◌≡◌, ◌≤◌, ◌↔◌, [], get_or}
use Rattle.std.specs.Prelude.{IsTrue, EachIndex}
use Rattle.sheet_entries.proofs.Members.{some-row, sheet-none, sheet-other, sheet-links, links-is}
use mathlib.Core.Path.{◌∙◌}
use native.Mathlib.Omega.{arith}
use Rattle.sheet_entries.proofs.is_sheet.Goals as goal

pub returns-then-rows-eq0 : goal.returns-then-rows-eq0
returns-then-rows-eq0 c = λ s. sheet-none s _ _ c.if-rows-eq0.true

pub returns-then-rows-ne-QUALIFIED_MATRIX : goal.returns-then-rows-ne-QUALIFIED_MATRIX
returns-then-rows-ne-QUALIFIED_MATRIX c = λ s. sheet-other s _ (omega arith) c.if-rows-ne-QUALIFIED_MATRIX.true

pub returns : goal.returns
returns c =
    let e : IsTrue c.all.result ↔ EachIndex c.args.rows.now (λ k. 1 ≤ k → get_or (get_or c.args.rows.now k []) 0 0 ≡ 8) = search rules in
    λ s. sheet-links s _ (some-row _ c.if-rows-eq0.false) c.if-rows-ne-QUALIFIED_MATRIX.false ∙ links-is s c.args.rows.now c.all.result e
