use mathlib.Core.Path.{ap, subst}
use native.Mathlib.Omega.{arith}
use Rattle.ber_containers.specs.Ends.{open_of}
use Rattle.ber_containers.specs.Progress.{Fits}
use Rattle.ber_containers.proofs.open_of.Goals as goal

pub overflow_add-result : goal.overflow_add-result
overflow_add-result c = let h = subst (Fits _ _) c.in-Definite.is c.requires in omega arith

pub returns-in-Definite : goal.returns-in-Definite
returns-in-Definite c = record { length_value = ap (open_of _ _) c.in-Definite.is; start_le_end = omega arith }

pub returns-in-Indefinite : goal.returns-in-Indefinite
returns-in-Indefinite c = record { length_value = ap (open_of _ _) c.in-Indefinite.is; start_le_end = subst (Fits _ _) c.in-Indefinite.is c.requires }
