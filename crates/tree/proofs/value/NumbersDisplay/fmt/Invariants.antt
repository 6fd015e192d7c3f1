use Rattle.std.proofs.Common.{◌-◌, length}
use Rattle.tree.proofs.value.NumbersDisplay.fmt.Given as goal

abbrev pub decreases-loop-p : goal.decreases-loop-p
decreases-loop-p g l = length l.octets - l.p
