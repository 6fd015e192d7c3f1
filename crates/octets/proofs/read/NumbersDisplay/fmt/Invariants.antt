use Rattle.std.proofs.Common.{◌-◌}
use Rattle.octets.proofs.read.NumbersDisplay.fmt.Given as goal

abbrev pub decreases-loop-p : goal.decreases-loop-p
decreases-loop-p g l = l.self.end - l.p
