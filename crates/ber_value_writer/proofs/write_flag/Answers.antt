use mathlib.Core.Path.{◌∙◌}
use native.Mathlib.Omega.{arith}
use mathlib.Core.List.{[], ◌∷◌}
use Rattle.ber_reals.specs.Write.{octets}
use Rattle.ber_values.specs.Write.{bool_octet}
use Rattle.ber_value_writer.proofs.Heads.{form-none, form-fits, form-put}
use Rattle.ber_value_writer.proofs.Laws.{one-short}
use Rattle.ber_value_writer.proofs.write_flag.Goals as goal

pub returns-in_err-held : goal.returns-in_err-held
returns-in_err-held c = rw c.from_residual.ensures (form-none _ _ 1 (omega arith) (octets (bool_octet c.args.b ∷ [])) (one-short (bool_octet c.args.b)) c.in_err-held.ensures)

pub sealed-requires : goal.sealed-requires
sealed-requires c =
    form-fits c.args.out.now c.args.at 1 (omega arith) (octets (bool_octet c.args.b ∷ [])) (one-short (bool_octet c.args.b)) _ _
    (rw c.bool_octet.ensures at c.write_octet-w.ensures)

pub returns : goal.returns
returns c =
    form-put c.args.out.now c.args.at 1 (omega arith) (octets (bool_octet c.args.b ∷ [])) (one-short (bool_octet c.args.b)) _ _
    (rw c.bool_octet.ensures at
    c.write_octet-w.ensures) ∙ c.sealed.ensures
