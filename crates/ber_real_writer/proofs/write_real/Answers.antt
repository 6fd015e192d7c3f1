use mathlib.Core.Path.{◌≡◌, sym, ap, ◌∙◌, subst}
use mathlib.Core.Bool.{false, not}
use lib.Dec.{T}
use lib.Ieee as Ieee
use lib.Ieee.{Float, nan, inf, fin, binary64}
use lib.Ieee.Bits.{of_bits-to_bits}
use lib.Ieee.Compare.{differs_from_itself}
use Rattle.ber_reals.specs.Write.{write_at}
use Rattle.ber_real_writer.proofs.WriteLaws.{write-nan}
use Rattle.ber_real_writer.proofs.write_real.Goals as goal

-- `ber_real_writer::write_real` meets its contract. Assumes nothing.
no_nan : (x : Float) → Ieee.ne x x ≡ false → T (not (Ieee.is_nan x))
unfolding Ieee.ne Ieee.is_nan
no_nan nan e = subst T e tt
no_nan (inf s) e = tt
no_nan (fin s m p) e = tt

pub returns-then-x : goal.returns-then-x
returns-then-x c =
    let a = c.args in ap (write_at a.out.now a.at) (differs_from_itself a.x (subst T (sym c.if-x.true) tt))
    ∙ write-nan a.out.now a.at

pub float_to_bits-x : goal.float_to_bits-x
float_to_bits-x c = no_nan c.args.x c.if-x.false

pub returns : goal.returns
returns c =
    let a = c.args in
    ap (write_at a.out.now a.at) (sym (of_bits-to_bits binary64 a.x
    (subst T (sym c.well_formed.0.1) tt))) ∙ c.write_bits.ensures
