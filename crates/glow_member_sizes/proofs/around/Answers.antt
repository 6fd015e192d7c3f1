use Rattle.glow_member_sizes.proofs.Caps.{tagged-short, tagged-over, tagged_is}
use native.Mathlib.Omega.{arith}
use mathlib.Core.Path.{◌∙◌}
use Rattle.glow_member_sizes.proofs.around.Goals as goal

pub overflow_add-result : goal.overflow_add-result
overflow_add-result c = omega arith

pub returns-then-n-lt128 : goal.returns-then-n-lt128
returns-then-n-lt128 c = tagged-short _ c.if-n-lt128.true

pub returns-then-n-gt-MESSAGE_LIMIT : goal.returns-then-n-gt-MESSAGE_LIMIT
returns-then-n-gt-MESSAGE_LIMIT c = tagged-over _ c.if-n-gt-MESSAGE_LIMIT.true

pub overflow_add-word : goal.overflow_add-word
overflow_add-word c = let e = c.length_size.ensures.upper_bound in let i = c.word.ensures in omega arith

pub overflow_add-word-2 : goal.overflow_add-word-2
overflow_add-word-2 c = let e = c.length_size.ensures.upper_bound in let i = c.word.ensures in omega arith

pub returns : goal.returns
returns c = tagged_is _ _ _ c.length_size.ensures.value (let i = c.word.ensures in omega arith) ∙ c.capped.ensures
