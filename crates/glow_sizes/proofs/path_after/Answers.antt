use Rattle.glow_sizes.proofs.Places.{count_of, kind-present, path-none, path-step-over, path-step, path-counted, path-other, cap-few, cap-many}
use Rattle.glow_sizes.specs.Sizes.{path_cap}
use mathlib.Core.Path.{◌∙◌, ap, sym}
use native.Mathlib.Omega.{arith}
use Rattle.glow_sizes.proofs.path_after.Goals as goal

pub returns-then-v-eq-ABSENT : goal.returns-then-v-eq-ABSENT
returns-then-v-eq-ABSENT c = ap path_cap (path-none _ _ _ _ c.if-v-eq-ABSENT.true c.requires) ∙ c.few.ensures

pub returns-then-above-ge-MOST_NUMBERS : goal.returns-then-above-ge-MOST_NUMBERS
returns-then-above-ge-MOST_NUMBERS c =
    path-step-over _ _ _ _ c.requires (kind-present _ _ 0 c.if-v-eq-ABSENT.false) c.if-what-eq-STEP.true c.if-above-ge-MOST_NUMBERS.true

pub overflow_add-result : goal.overflow_add-result
overflow_add-result c = omega arith

pub returns-then-what-eq-STEP : goal.returns-then-what-eq-STEP
returns-then-what-eq-STEP c = path-step _ _ _ _ c.requires (kind-present _ _ 0 c.if-v-eq-ABSENT.false) c.if-what-eq-STEP.true c.if-above-ge-MOST_NUMBERS.false

pub returns-then-n-le-PATH : goal.returns-then-n-le-PATH
returns-then-n-le-PATH c =
    ap path_cap (path-counted _ _ _ _ c.requires (kind-present _ _ 0 c.if-v-eq-ABSENT.false) c.if-what-eq-PATH.true _ _ _ c.index.ensures
    c.index-then-what-eq-PATH.ensures
    c.read_oid.ensures.is ∙ ap count_of c.in-Numbers.is)
    ∙ cap-few _ c.if-n-le-PATH.true ∙ sym c.word.ensures

pub returns-in-Numbers : goal.returns-in-Numbers
returns-in-Numbers c =
    ap path_cap (path-counted _ _ _ _ c.requires (kind-present _ _ 0 c.if-v-eq-ABSENT.false) c.if-what-eq-PATH.true _ _ _ c.index.ensures
    c.index-then-what-eq-PATH.ensures
    c.read_oid.ensures.is ∙ ap count_of c.in-Numbers.is)
    ∙ cap-many _ c.if-n-le-PATH.false

pub returns-in-Range : goal.returns-in-Range
returns-in-Range c =
    ap path_cap (path-counted _ _ _ _ c.requires (kind-present _ _ 0 c.if-v-eq-ABSENT.false) c.if-what-eq-PATH.true _ _ _ c.index.ensures
    c.index-then-what-eq-PATH.ensures
    c.read_oid.ensures.is ∙ ap count_of c.in-Range.is)
    ∙ cap-few 0 (omega arith)

pub returns-in-Refused : goal.returns-in-Refused
returns-in-Refused c =
    ap path_cap (path-counted _ _ _ _ c.requires (kind-present _ _ 0 c.if-v-eq-ABSENT.false) c.if-what-eq-PATH.true _ _ _ c.index.ensures
    c.index-then-what-eq-PATH.ensures
    c.read_oid.ensures.is ∙ ap count_of c.in-Refused.is)
    ∙ cap-few 0 (omega arith)

pub returns : goal.returns
returns c =
    ap path_cap (path-other _ _ _ _ c.requires (kind-present _ _ 0 c.if-v-eq-ABSENT.false) c.if-what-eq-STEP.false c.if-what-eq-PATH.false) ∙
    c.few-2.ensures
