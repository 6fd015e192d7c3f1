use Rattle.std.proofs.Common.{length, ◌-◌, ◌≤◌}
use Rattle.frames.proofs.Stream.take.Given as goal

abbrev pub invariant-loop-from : goal.invariant-loop-from
invariant-loop-from g l = l.from ≤ length l.block

abbrev pub decreases-loop-from : goal.decreases-loop-from
decreases-loop-from g l = length l.block - l.from
