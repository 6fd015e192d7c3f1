use native.Mathlib.Omega.{arith}
use mathlib.Core.Path.{refl, ◌∙◌}
use Rattle.glow_sizes.proofs.Trees.{rows-length, no_size, length-rows, length-many, length-root, length_over, length-left, length-is}
use Rattle.glow_sizes.proofs.Notes.{judged-all}
use Rattle.glow_sizes.proofs.judge.Goals as goal

pub returns-then-rows-count : goal.returns-then-rows-count
returns-then-rows-count c = record { count_value = length-rows _ _ _ _ _ c.if-rows-count.true ∙ no_size; judged = λ h. absurd (omega arith) }

pub returns-then-count-gt-MOST_ENTRIES : goal.returns-then-count-gt-MOST_ENTRIES
returns-then-count-gt-MOST_ENTRIES c =
    record { count_value = length-many _ _ _ _ _ c.if-count-gt-MOST_ENTRIES.true ∙ no_size; judged = λ h. absurd (omega arith) }

pub returns-then-not-is_root : goal.returns-then-not-is_root
returns-then-not-is_root c =
    record { count_value = length-root _ _ _ _ _ _ c.is_root.ensures c.if-not-is_root.true ∙ no_size; judged = λ h. absurd (omega arith) }

pub items-m-requires : goal.items-m-requires
items-m-requires c = let h = c.if-rows-count.false in (omega arith, h)

pub returns-then-m-gt-MESSAGE_LIMIT : goal.returns-then-m-gt-MESSAGE_LIMIT
returns-then-m-gt-MESSAGE_LIMIT c =
    record {
      count_value = length_over _ _ _ _ _ _ c.items-m.ensures.gives c.if-m-gt-MESSAGE_LIMIT.true ∙ no_size;
      judged = λ h. absurd (omega arith);
    }

pub returns-then-m-count : goal.returns-then-m-count
returns-then-m-count c =
    record {
      count_value = length-left _ _ _ _ _ _ c.items-m.ensures.gives c.if-m-gt-MESSAGE_LIMIT.false (rows-length _ _ _ c.if-rows-count.false)
          c.items-m.ensures.next_le_count
          c.if-m-count.true ∙ no_size;
      judged = λ h. absurd (omega arith);
    }

pub returns : goal.returns
returns c =
    record {
      count_value = length-is _ _ _ _ _ _ c.items-m.ensures.gives c.if-m-gt-MESSAGE_LIMIT.false (rows-length _ _ _ c.if-rows-count.false) _ _ _
          c.is_root.ensures
          c.if-not-is_root.false
          c.if-rows-count.false c.if-count-gt-MOST_ENTRIES.false c.if-m-count.false refl refl;
      judged = λ h. judged-all _ _ _ _ _ _ _ _ c.items-m.ensures.gives c.if-m-gt-MESSAGE_LIMIT.false c.if-m-count.false c.items-m.ensures.notes;
    }
