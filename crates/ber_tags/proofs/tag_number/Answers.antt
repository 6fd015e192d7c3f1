use Rattle.std.specs.Prelude.{Err}
use mathlib.Core.Path.{ap, ◌∙◌}
use native.Mathlib.Omega.{arith}
use Rattle.ber_tags.proofs.Laws.{number_cut, number_short, number-cut-long, number-80, number-long}
use Rattle.ber_tags.proofs.tag_number.Goals as goal

pub returns-then-end-at : goal.returns-then-end-at
returns-then-end-at c = record { value = ap Err c.cut_of-place.ensures ∙ number_cut _ _ _ (rw c.stop_of-end.ensures.value at c.if-end-at.true); number_within = tt }

pub returns-then-low-lt31 : goal.returns-then-low-lt31
returns-then-low-lt31 c = record { value = rw c.from.ensures (number_short _ _ _ (omega arith) c.if-low-lt31.true); number_within = (omega arith, omega arith) }

pub returns-then-end-p : goal.returns-then-end-p
returns-then-end-p c =
    record {
      value = ap Err c.cut_of-place.ensures
          ∙ number-cut-long _ _ _ (omega arith) c.if-low-lt31.false
          (rw c.stop_of-end.ensures.value at c.if-end-p.true);
      number_within = tt;
    }

pub returns-then-s-p : goal.returns-then-s-p
returns-then-s-p c =
    record {
      value = number-80 _ _ _ (omega arith) c.if-low-lt31.false
          (rw c.stop_of-end.ensures.value at c.if-end-p.false) (omega arith);
      number_within = tt;
    }

pub returns : goal.returns
returns c =
    record {
      value = c.long_number.ensures.value ∙ number-long _ _ _ (omega arith) c.if-low-lt31.false
          (rw c.stop_of-end.ensures.value at c.if-end-p.false)
          (λ h. omega (arith, h, c.if-s-p.false));
      number_within = c.long_number.ensures.number_within;
    }
