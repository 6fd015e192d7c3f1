use Rattle.std.specs.Prelude.{Some, None}
use mathlib.Core.Path.{◌≡◌}
use native.Mathlib.Omega.{arith}
use Rattle.framing_lines.proofs.put_open.Goals as goal

pub returns-in-None : goal.returns-in-None
returns-in-None c =
    let e : c.args.size ≡ None = c.in-None.is in
    record { size_value = rw e (c.put.ensures.b_value (omega arith)); upper_bound = omega arith }

pub returns-in-Some : goal.returns-in-Some
returns-in-Some c =
    let e : c.args.size ≡ Some c.in-Some.length = c.in-Some.is in
    record { size_value = rw e c.put_decimal.ensures.n_value; upper_bound = omega arith }
