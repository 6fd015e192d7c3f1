use Rattle.glow_member_sizes.specs.Sizes.{cap, tagged_size}
use Prim.Native.Nat.{ℕ}
use mathlib.Core.Path.{ap, ◌∙◌}
use Rattle.glow_sizes.proofs.measure.Goals as goal

pub returns : goal.returns
returns c = c.judge.ensures.count_value ∙ ap (λ (x : ℕ). cap (tagged_size x)) c.around.ensures ∙ c.around-2.ensures
