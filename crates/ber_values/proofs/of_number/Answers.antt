use mathlib.Core.Path.{◌≡◌, sym, ap}
use mir.Syntax.{w64}
use mir.Val.{to_z, of_z}
use Rattle.ber_values.specs.Value.{on_number}
use borrow.Author.Rules.{rules}
use Rattle.ber_values.proofs.of_number.Goals as goal

pub returns-in-Some : goal.returns-in-Some
returns-in-Some c =
    let z = c.in-Some.x in
    let k : to_z w64 (of_z w64 z) ≡ z = search rules in
    rw k (sym (ap (on_number c.args.at c.args.next) c.in-Some.is))

pub returns-in-None : goal.returns-in-None
returns-in-None c = sym (ap (on_number c.args.at c.args.next) c.in-None.is)
