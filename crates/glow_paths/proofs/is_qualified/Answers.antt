use native.Mathlib.Omega.{arith}
use Rattle.glow_paths.proofs.Items.{qualified-low, qualified-high, qualified_in}
use Rattle.glow_paths.proofs.is_qualified.Goals as goal

pub returns-in-5-to-7 : goal.returns-in-5-to-7
returns-in-5-to-7 c = qualified_in _ (omega arith) (omega arith)

pub returns-in_default : goal.returns-in_default
returns-in_default c = qualified-low _ (omega arith)

pub returns-in_default-2 : goal.returns-in_default-2
returns-in_default-2 c = qualified-high _ (omega arith)
