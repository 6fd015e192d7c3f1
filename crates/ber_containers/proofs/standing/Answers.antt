use Rattle.ber_containers.proofs.Laws.{standing-ended, standing-missing, standing-zero, standing_by, standing_here, zero-inside, head-fits, ahead-here, bit-is}
use native.Mathlib.Omega.{arith}
use mathlib.Core.Path.{sym, ◌∙◌}
use Rattle.ber_containers.proofs.standing.Goals as goal

pub returns-then-definite-eq1 : goal.returns-then-definite-eq1
returns-then-definite-eq1 c = record { end_value = standing-ended _ _ _ c.if-p-end.true c.if-definite-eq1.true; onward = omega arith }

pub returns-then-p-end : goal.returns-then-p-end
returns-then-p-end c = record { end_value = standing-missing _ _ _ c.if-p-end.true c.if-definite-eq1.false; onward = tt }

pub closing-requires : goal.closing-requires
closing-requires c = zero-inside _ _ (c.zero_at.ensures ∙ c.if-zero_at.true)

pub returns-then-zero_at : goal.returns-then-zero_at
returns-then-zero_at c =
    record {
      end_value = standing-zero _ _ _ c.if-p-end.false (c.zero_at.ensures ∙ c.if-zero_at.true) ∙ c.closing.ensures.end_value;
      onward = c.closing.ensures.onward;
    }

pub open_of-requires : goal.open_of-requires
open_of-requires c = head-fits _ _ _ _ _ _ _ _ (sym c.read_tag.ensures.is ∙ c.in-Tag.is)

pub returns-in-Refused : goal.returns-in-Refused
returns-in-Refused c =
    record {
      end_value = standing_by _ _ _ c.if-p-end.false (c.zero_at.ensures ∙ c.if-zero_at.false) (sym c.read_tag.ensures.is ∙ c.in-Refused.is);
      onward = tt;
    }

pub returns-in-Tag : goal.returns-in-Tag
returns-in-Tag c =
    let e = sym c.read_tag.ensures.is ∙ c.in-Tag.is in
    record {
      end_value = standing_here _ _ _ e c.from.ensures (bit-is _ ∙ sym c.from-in-Tag.ensures) c.open_of.ensures.length_value c.if-p-end.false
          (c.zero_at.ensures ∙ c.if-zero_at.false);
      onward = ahead-here _ _ _ e c.from.ensures (bit-is _ ∙ sym c.from-in-Tag.ensures) c.open_of.ensures.start_le_end;
    }
