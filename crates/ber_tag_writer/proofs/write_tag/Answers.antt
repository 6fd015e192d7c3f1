use Prim.Native.Nat.{◌+◌, ◌*◌}
use mathlib.Core.Path.{◌∙◌}
use native.Mathlib.Omega.{arith}
use Rattle.ber_integers.proofs.Laws.{put-out}
use Rattle.ber_integers.proofs.Output.{cons-none, cons-done}
use Rattle.ber_tags.specs.Write.{bit, septets}
use Rattle.ber_tag_writer.proofs.Laws.{tag-class, tag-over, tag-short, tag-long}
use Rattle.ber_tag_writer.proofs.write_tag.Goals as goal

pub returns-then-class-gt3 : goal.returns-then-class-gt3
returns-then-class-gt3 c = tag-class _ _ _ _ _ c.if-class-gt3.true

pub returns-then-number-gt268435455 : goal.returns-then-number-gt268435455
returns-then-number-gt268435455 c = tag-over _ _ _ _ _ c.if-class-gt3.false c.if-number-gt268435455.true

pub returns-then-number-lt31 : goal.returns-then-number-lt31
returns-then-number-lt31 c =
    tag-short _ _ _ _ _ c.if-class-gt3.false
    c.if-number-lt31.true
    ∙ rw c.lead-first.ensures.value at
    c.write_octet.ensures

pub returns-then-out-at : goal.returns-then-out-at
returns-then-out-at c =
    tag-long _ _ _ _ _ c.if-class-gt3.false c.if-number-gt268435455.false c.if-number-lt31.false
    ∙ put-out _ _ _ (omega arith)

pub returns : goal.returns
returns c =
    tag-long _ _ _ _ _ c.if-class-gt3.false
    c.if-number-gt268435455.false
    c.if-number-lt31.false
    ∙ rw c.lead-first.ensures.value
    (cons-done c.args.out.now c.args.at (c.args.class * 64 + bit c.args.constructed + 31) (septets c.args.number) _ _ _
    c.write_septets.ensures c.in_ok-end.was
    c.if-out-at.false)

pub returns-in_err-end : goal.returns-in_err-end
returns-in_err-end c =
    rw c.from_residual.ensures
    (tag-long _ _ _ _ _ c.if-class-gt3.false
    c.if-number-gt268435455.false
    c.if-number-lt31.false
    ∙ cons-none c.args.out.now c.args.at (c.args.class * 64 + bit c.args.constructed + 31) (septets c.args.number) _ _
    c.write_septets.ensures c.in_err-end.was)
