use native.Mathlib.Omega.{arith}
use Rattle.glow_paths.proofs.Walk.{has-long, has_all}
use Rattle.glow_paths.proofs.is_path.Goals as goal

pub returns-then-path-le16 : goal.returns-then-path-le16
returns-then-path-le16 c = has_all _ _ _ _ _ _ _ c.if-path-le16.true c.min.ensures c.climbs.ensures

pub returns-else-path-le16 : goal.returns-else-path-le16
returns-else-path-le16 c = has-long _ _ _ (omega arith)
