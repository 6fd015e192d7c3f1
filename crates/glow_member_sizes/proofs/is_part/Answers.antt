use Rattle.glow_member_sizes.proofs.Members.{part-four, part-twelve, part-rest}
use Rattle.glow_member_sizes.proofs.is_part.Goals as goal

pub returns-then-kind-eq-OCTETS : goal.returns-then-kind-eq-OCTETS
returns-then-kind-eq-OCTETS c = part-four _ c.if-kind-eq-OCTETS.true

pub returns-then-kind-eq-TEXT : goal.returns-then-kind-eq-TEXT
returns-then-kind-eq-TEXT c = part-twelve _ c.if-kind-eq-TEXT.true

pub returns : goal.returns
returns c = part-rest _ c.if-kind-eq-OCTETS.false c.if-kind-eq-TEXT.false
