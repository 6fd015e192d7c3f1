use Rattle.desk_sources.proofs.Sources.{keep-in, keep-stays, keep-fits, keep-more}
use native.Mathlib.Omega.{arith}
use Rattle.desk_sources.proofs.keep.Goals as goal

pub bounds-marks-j : goal.bounds-marks-j
bounds-marks-j c =
    let the-index = c.index-j in
    keep-in _ _ _ _ c.requires.kept c.requires.x_lt_side _ the-index.ensures

pub returns-then-marks-j-ne0 : goal.returns-then-marks-j-ne0
returns-then-marks-j-ne0 c =
    let the-index = c.index-j in
    let the-if1 = c.if-marks-j-ne0 in
    let both = keep-stays _ _ _ _ c.requires.kept c.requires.x_lt_side _ the-index.ensures the-if1.true in
    record { kept_2 = both.0; list_after = both.1 }

pub bounds-marks-j-2 : goal.bounds-marks-j-2
bounds-marks-j-2 c =
    let the-index = c.index-j in
    keep-in _ _ _ _ c.requires.kept c.requires.x_lt_side _ the-index.ensures

pub offset_bounds-list-k : goal.offset_bounds-list-k
offset_bounds-list-k c =
    let the-index = c.index-j in
    let the-if1 = c.if-marks-j-ne0 in
    let k = keep-fits _ _ _ _ c.requires.kept c.requires.x_lt_side _ the-index.ensures the-if1.false in omega arith

pub bounds-list-k : goal.bounds-list-k
bounds-list-k c =
    let the-index = c.index-j in
    let the-if1 = c.if-marks-j-ne0 in
    keep-fits _ _ _ _ c.requires.kept c.requires.x_lt_side _ the-index.ensures the-if1.false

pub overflow_add-result : goal.overflow_add-result
overflow_add-result c =
    let the-index = c.index-j in
    let the-if1 = c.if-marks-j-ne0 in
    let k = keep-fits _ _ _ _ c.requires.kept c.requires.x_lt_side _ the-index.ensures the-if1.false in omega arith

pub returns : goal.returns
returns c =
    let the-index = c.index-j in
    let the-if1 = c.if-marks-j-ne0 in
    let both = keep-more _ _ _ _ c.requires.kept c.requires.x_lt_side _ the-index.ensures the-if1.false in
    record { kept_2 = both.0; list_after = both.1 }
