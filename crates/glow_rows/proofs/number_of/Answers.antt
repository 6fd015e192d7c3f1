use Rattle.glow_rows.proofs.Values.{number-other, number-long, number_is}
use Rattle.glow_rows.proofs.number_of.Goals as goal
use Rattle.glow_rows.proofs.number_of.Goals.{else-v-eq-INTEGER-via-then-v-eq-INTEGER+else-v-eq0, else-v-eq-INTEGER-via-else-v-eq-INTEGER}

pub returns-then-v-eq0 : goal.returns-then-v-eq0
returns-then-v-eq0 c = number_is _ c.if-v-eq-INTEGER.true c.if-v-eq0.true

pub returns-else-v-eq-INTEGER : goal.returns-else-v-eq-INTEGER
returns-else-v-eq-INTEGER c =
    elim c.else-v-eq-INTEGER.branch [
      | else-v-eq-INTEGER-via-then-v-eq-INTEGER+else-v-eq0 w ↦ number-long _ w.if-v-eq-INTEGER.true w.if-v-eq0.false
      | else-v-eq-INTEGER-via-else-v-eq-INTEGER w ↦ number-other _ w.if-v-eq-INTEGER.false
    ]
