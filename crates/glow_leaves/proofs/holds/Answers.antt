use borrow.Author.Tests.{lt-leb, le-leb}
use lib.ListN.{length}
use Prim.Native.Nat.{◌≤◌, ◌<◌, ◌+◌}
use native.Mathlib.Omega.{arith}
use Rattle.glow_leaves.proofs.holds.Goals as goal

pub returns-then-s-len : goal.returns-then-s-len
returns-then-s-len c = let h : length c.args.s.now < c.args.start + c.args.len = omega arith in lt-leb _ _ h

pub returns-then-s-len-2 : goal.returns-then-s-len-2
returns-then-s-len-2 c = let h : length c.args.s.now < c.args.start + c.args.len = omega arith in lt-leb _ _ h

pub returns : goal.returns
returns c = let h : c.args.start + c.args.len ≤ length c.args.s.now = omega arith in le-leb _ _ h
