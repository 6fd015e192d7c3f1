use Rattle.glow_sizes.proofs.Sums.{Summed, Sized, own-over, inner-over, size-over, deep-over, incomplete, path-fits, path-judged}
use Rattle.glow_rows.proofs.Words.{cell_in_lem}
use Rattle.glow_member_sizes.specs.Spelling.{spelling}
use mathlib.Core.Path.{◌∙◌, sym}
use mathlib.Core.List.{[]}
use lib.ListN.{get_or}
use native.Mathlib.Omega.{arith}
use Rattle.glow_sizes.proofs.entry_size.Goals.{After-cells_size-inside, After-path_after-path, After-plus-size}
use Rattle.glow_sizes.proofs.entry_size.Goals as goal

-- both parts are summed
summed : (c : After-cells_size-inside) → Summed (spelling c.args.least) c.args.s.now (get_or c.args.rows.now c.args.i []) c.word_at-kind.result
    c.split_of-split.result c.cells_size-own.result c.cells_size-inside.result
summed c =
    record {
      is = c.word_at-kind.ensures;
      at = c.split_of-split.ensures.kind_value;
      ownly = c.cells_size-own.ensures c.word_at-kind.result c.rules_of-rules.ensures;
      innerly = c.cells_size-inside.ensures c.word_at-kind.result c.rules_of-rules.ensures;
    }

-- their size together
sized : (c : After-plus-size) → Sized c.cells_size-own.result c.cells_size-inside.result c.wrapped_size.result c.plus-size.result
sized c =
    record {
      own-fits = c.if-own-gt-MESSAGE_LIMIT.false;
      inner-fits = c.if-inside-gt-MESSAGE_LIMIT.false;
      wrap = c.wrapped_size.ensures;
      sum = c.plus-size.ensures;
    }

pub cells_size-own-requires : goal.cells_size-own-requires
cells_size-own-requires c = (omega arith, c.split_of-split.ensures.upper_bound)

pub cells_size-inside-requires : goal.cells_size-inside-requires
cells_size-inside-requires c = (c.split_of-split.ensures.upper_bound, omega arith)

pub returns-then-own-gt-MESSAGE_LIMIT : goal.returns-then-own-gt-MESSAGE_LIMIT
returns-then-own-gt-MESSAGE_LIMIT c =
    own-over _ _ _ _ _ (summed (goal.at.returns-then-own-gt-MESSAGE_LIMIT c).After-cells_size-inside) c.if-own-gt-MESSAGE_LIMIT.true
    ∙ sym c.none.ensures

pub returns-then-inside-gt-MESSAGE_LIMIT : goal.returns-then-inside-gt-MESSAGE_LIMIT
returns-then-inside-gt-MESSAGE_LIMIT c =
    inner-over _ _ _ _ _ (summed (goal.at.returns-then-inside-gt-MESSAGE_LIMIT c).After-cells_size-inside) c.if-inside-gt-MESSAGE_LIMIT.true
    ∙ sym c.none-then-inside-gt-MESSAGE_LIMIT.ensures

pub returns-then-size-gt-MESSAGE_LIMIT : goal.returns-then-size-gt-MESSAGE_LIMIT
returns-then-size-gt-MESSAGE_LIMIT c =
    let at = goal.at.returns-then-size-gt-MESSAGE_LIMIT c in
    size-over _ _ _ _ _ (summed at.After-cells_size-inside) (sized at.After-plus-size) c.if-size-gt-MESSAGE_LIMIT.true
    ∙ sym c.none-then-size-gt-MESSAGE_LIMIT.ensures

pub returns-then-not-is_shallow : goal.returns-then-not-is_shallow
returns-then-not-is_shallow c =
    let at = goal.at.returns-then-not-is_shallow c in
    deep-over _ _ _ _ _ (summed at.After-cells_size-inside) (sized at.After-plus-size) (c.is_shallow.ensures ∙ c.if-not-is_shallow.true)
    ∙ sym c.none-then-not-is_shallow.ensures

pub returns-then-not-is_complete : goal.returns-then-not-is_complete
returns-then-not-is_complete c =
    let at = goal.at.returns-then-not-is_complete c in
    incomplete _ _ _ _ _ (summed at.After-cells_size-inside) (sized at.After-plus-size) c.if-size-gt-MESSAGE_LIMIT.false
    (c.is_shallow.ensures ∙ c.if-not-is_shallow.false) (c.is_complete.ensures ∙ c.if-not-is_complete.true)
    ∙ sym c.none-then-not-is_complete.ensures

pub rule_in-requires : goal.rule_in-requires
rule_in-requires c = omega arith

pub path_after-path-requires : goal.path_after-path-requires
path_after-path-requires c =
    let at = goal.at.path_after-path-requires c in
    path-fits _ _ _ c.args.k 0 (summed at.After-cells_size-inside) (sized at.After-plus-size) c.if-size-gt-MESSAGE_LIMIT.false
    (c.is_shallow.ensures ∙ c.if-not-is_shallow.false) (c.is_complete.ensures ∙ c.if-not-is_complete.false)
    (c.rules_of-rules.ensures 0 (omega arith) ∙ c.rule_in.ensures) (c.cell_at.ensures ∙ cell_in_lem _ _ 0 (omega arith))

-- its path is counted
pub returns-then-path-gt-MOST_NUMBERS : goal.returns-then-path-gt-MOST_NUMBERS
returns-then-path-gt-MOST_NUMBERS c =
    let at = goal.at.returns-then-path-gt-MOST_NUMBERS c in
    (path-judged _ _ _ _ _ (summed at.After-cells_size-inside) (sized at.After-plus-size) c.if-size-gt-MESSAGE_LIMIT.false
    (c.is_shallow.ensures ∙ c.if-not-is_shallow.false) (c.is_complete.ensures ∙ c.if-not-is_complete.false)
    (c.rules_of-rules.ensures 0 (omega arith) ∙ c.rule_in.ensures) (c.cell_at.ensures ∙ cell_in_lem _ _ 0 (omega arith)) c.path_after-path.ensures).0
    (omega (arith, c.if-path-gt-MOST_NUMBERS.true))
    ∙ sym c.none-then-path-gt-MOST_NUMBERS.ensures

pub returns : goal.returns
returns c =
    let at = goal.at.returns c in
    (path-judged _ _ _ _ _ (summed at.After-cells_size-inside) (sized at.After-plus-size) c.if-size-gt-MESSAGE_LIMIT.false
    (c.is_shallow.ensures ∙ c.if-not-is_shallow.false) (c.is_complete.ensures ∙ c.if-not-is_complete.false)
    (c.rules_of-rules.ensures 0 (omega arith) ∙ c.rule_in.ensures) (c.cell_at.ensures ∙ cell_in_lem _ _ 0 (omega arith)) c.path_after-path.ensures).1
    (omega (arith, c.if-path-gt-MOST_NUMBERS.false))
