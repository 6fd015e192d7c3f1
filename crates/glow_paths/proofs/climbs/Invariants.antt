use lib.ListN.{length}
use Rattle.glow_paths.proofs.Walk.{Walk}
use Rattle.glow_paths.proofs.climbs.Given as goal

abbrev pub invariant-loop-p : goal.invariant-loop-p
invariant-loop-p l = Walk l.s l.rows l.count l.path l.entry l.left l.p

abbrev pub decreases-loop-p : goal.decreases-loop-p
decreases-loop-p l = length l.left
