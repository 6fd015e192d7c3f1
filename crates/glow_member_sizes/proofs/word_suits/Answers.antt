use Rattle.glow_member_sizes.proofs.Words.{suits-flag, suits-any, suits-range, suits-real}
use mathlib.Core.Path.{sym, ◌∙◌}
use Rattle.glow_member_sizes.proofs.word_suits.Goals as goal

pub returns-then-kind-eq-BOOLEAN : goal.returns-then-kind-eq-BOOLEAN
returns-then-kind-eq-BOOLEAN c = suits-flag _ _ _ c.if-kind-eq-BOOLEAN.true

pub returns-then-what-eq-ANY : goal.returns-then-what-eq-ANY
returns-then-what-eq-ANY c = suits-any _ _ _ c.if-kind-eq-INTEGER.true c.if-what-eq-ANY.true

pub returns-then-kind-eq-INTEGER : goal.returns-then-kind-eq-INTEGER
returns-then-kind-eq-INTEGER c = suits-range _ _ _ c.ranges.w.fits c.if-kind-eq-INTEGER.true c.if-what-eq-ANY.false ∙ c.in_range.ensures

pub returns : goal.returns
returns c = suits-real _ _ _ c.if-kind-eq-BOOLEAN.false c.if-kind-eq-INTEGER.false ∙ sym c.is_written.ensures
