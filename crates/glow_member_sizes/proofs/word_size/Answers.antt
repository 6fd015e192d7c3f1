use Rattle.glow_member_sizes.proofs.Words.{flag-sized, whole-sized, real-sized}
use Rattle.glow_member_sizes.proofs.word_size.Goals as goal

pub returns-then-kind-eq-BOOLEAN : goal.returns-then-kind-eq-BOOLEAN
returns-then-kind-eq-BOOLEAN c = flag-sized _ _ c.args.least c.if-kind-eq-BOOLEAN.true

pub returns-then-kind-eq-INTEGER : goal.returns-then-kind-eq-INTEGER
returns-then-kind-eq-INTEGER c = whole-sized _ _ c.args.least _ c.if-kind-eq-INTEGER.true c.int_size.ensures

pub returns : goal.returns
returns c = real-sized _ _ c.args.least _ c.if-kind-eq-BOOLEAN.false c.if-kind-eq-INTEGER.false c.real_size.ensures
