use Rattle.std.specs.Prelude.{Option, Some}
use Prim.Native.Nat.{ℕ}
use mathlib.Core.Path.{◌≡◌, ap, subst}
use mathlib.Core.List.{List}
use native.Mathlib.Omega.{arith}
use lib.ListN.{length-set}
use Rattle.ber_values.specs.Write.{put_head, Sealable}
use Rattle.ber_value_writer.proofs.sealed.Goals as goal

fits : (xs : List ℕ) (at : ℕ) {e : ℕ} {w : Option ℕ} → Sealable xs at w → w ≡ Some e → Sealable xs at (Some e)
fits xs at s e = subst (Sealable xs at) e s

pub overflow_sub-out : goal.overflow_sub-out
overflow_sub-out c = let q = fits c.args.out.now c.args.at c.requires c.in_ok-end.was in omega arith

pub overflow_cast-out : goal.overflow_cast-out
overflow_cast-out c = let q = fits c.args.out.now c.args.at c.requires c.in_ok-end.was in omega arith

pub overflow_add-out : goal.overflow_add-out
overflow_add-out c = let q = fits c.args.out.now c.args.at c.requires c.in_ok-end.was in omega arith

pub overflow_add-out-2 : goal.overflow_add-out-2
overflow_add-out-2 c = let q = fits c.args.out.now c.args.at c.requires c.in_ok-end.was in omega arith

pub bounds-out-at : goal.bounds-out-at
bounds-out-at c = let q = fits c.args.out.now c.args.at c.requires c.in_ok-end.was in omega arith

pub bounds-out-at-2 : goal.bounds-out-at-2
bounds-out-at-2 c = let q = fits c.args.out.now c.args.at c.requires c.in_ok-end.was in simp length-set (omega arith)

pub returns : goal.returns
returns c = ap (put_head c.args.out.now c.args.at c.args.kind) c.in_ok-end.was

pub returns-in_err-end : goal.returns-in_err-end
returns-in_err-end c = rw c.from_residual.ensures (ap (put_head _ _ _) c.in_err-end.was)
