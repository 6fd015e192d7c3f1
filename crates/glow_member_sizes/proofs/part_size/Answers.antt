use Rattle.glow_member_sizes.proofs.Members.{part_out, part-refused, part-sized}
use mathlib.Core.Path.{◌∙◌}
use native.Mathlib.Omega.{arith}
use Rattle.glow_member_sizes.proofs.part_size.Goals as goal

pub returns-then-total-v : goal.returns-then-total-v
returns-then-total-v c =
    let w = c.word-total.ensures in
    let q = c.requires in
    part_out _ _ _ q.0 q.1.0 q.1.1 (omega arith)

pub returns-then-total-v-2 : goal.returns-then-total-v-2
returns-then-total-v-2 c =
    let w = c.word-total.ensures in
    let q = c.requires in
    part_out _ _ _ q.0 q.1.0 q.1.1 (omega arith)

pub returns-then-not-part_fits : goal.returns-then-not-part_fits
returns-then-not-part_fits c =
    let w = c.word-total.ensures in
    let q = c.requires in
    let k = c.if-total-v-2.false in
    part-refused _ _ _ q.0 q.1.0 q.1.1 _ _ c.index-start.ensures c.index-len.ensures (omega arith)
    (c.part_fits.ensures ∙ c.if-not-part_fits.true)

pub returns : goal.returns
returns c =
    let w = c.word-total.ensures in
    let q = c.requires in
    let k = c.if-total-v-2.false in
    part-sized _ _ _ q.0 q.1.0 q.1.1 _ _ c.index-start.ensures c.index-len.ensures (omega arith)
    (c.part_fits.ensures ∙ c.if-not-part_fits.false) _ _ c.around.ensures c.around-2.ensures
