use native.Mathlib.Omega.{arith}
use Rattle.ber_tag_writer.proofs.lead.Goals as goal

pub returns-then-constructed : goal.returns-then-constructed
returns-then-constructed c = record { value = rw c.if-constructed.true; upper_bound = omega arith }

pub returns-else-constructed : goal.returns-else-constructed
returns-else-constructed c = record { value = rw c.if-constructed.false (omega arith); upper_bound = omega arith }
