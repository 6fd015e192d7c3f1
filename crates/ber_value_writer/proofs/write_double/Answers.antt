use mathlib.Core.Path.{sym, subst, ◌∙◌}
use native.Mathlib.Omega.{arith}
use lib.Dec.{T}
use lib.Ieee as Ieee
use lib.Ieee.{binary64}
use Rattle.ber_reals.specs.Write.{form}
use Rattle.ber_value_writer.proofs.Heads.{form-none, form-fits, form-put}
use Rattle.ber_values.proofs.Shorts.{real-short}
use Rattle.ber_value_writer.proofs.Laws.{write-form}
use Rattle.ber_value_writer.proofs.write_double.Goals.{Start}
use Rattle.ber_value_writer.proofs.write_double.Goals as goal

double : (c : Start) → T (Ieee.fits binary64 c.args.x)
double c = subst T (sym c.well_formed.0.1) tt

pub returns-in_err-held : goal.returns-in_err-held
returns-in_err-held c = rw c.from_residual.ensures (form-none _ _ 9 (omega arith) (form c.args.x) (real-short c.args.x (double (goal.at.returns-in_err-held c).Start)) c.in_err-held.ensures)

pub sealed-requires : goal.sealed-requires
sealed-requires c =
    form-fits c.args.out.now c.args.at 9 (omega arith) (form c.args.x) (real-short c.args.x (double (goal.at.sealed-requires c).Start)) _ _
    (sym (write-form _ _ _) ∙ c.write_real-w.ensures)

pub returns : goal.returns
returns c =
    form-put c.args.out.now c.args.at 9 (omega arith) (form c.args.x) (real-short c.args.x (double (goal.at.returns c).Start)) _ _
    (sym (write-form _ _ _) ∙ c.write_real-w.ensures) ∙ c.sealed.ensures
