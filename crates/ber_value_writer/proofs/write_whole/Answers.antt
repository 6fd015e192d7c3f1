use mathlib.Core.Path.{◌∙◌}
use native.Mathlib.Omega.{arith}
use mir.Facts.{to_z-of_z}
use Rattle.ber_integers.specs.Integer.{shortest}
use Rattle.ber_reals.specs.Write.{octets}
use Rattle.ber_value_writer.proofs.Heads.{form-none, form-fits, form-put}
use Rattle.ber_values.proofs.Shorts.{int-short}
use Rattle.ber_value_writer.proofs.write_whole.Goals as goal

pub returns-in_err-held : goal.returns-in_err-held
returns-in_err-held c = rw c.from_residual.ensures (form-none _ _ 2 (omega arith) (octets (shortest c.args.x)) (int-short c.args.x c.ranges.x) c.in_err-held.ensures)

pub sealed-requires : goal.sealed-requires
sealed-requires c =
    form-fits c.args.out.now c.args.at 2 (omega arith) (octets (shortest c.args.x)) (int-short c.args.x c.ranges.x) _ _
    (rw (to_z-of_z c.ranges.x) at c.write_int-w.ensures)

pub returns : goal.returns
returns c =
    form-put c.args.out.now c.args.at 2 (omega arith) (octets (shortest c.args.x)) (int-short c.args.x c.ranges.x) _ _
    (rw (to_z-of_z c.ranges.x) at c.write_int-w.ensures) ∙ c.sealed.ensures
