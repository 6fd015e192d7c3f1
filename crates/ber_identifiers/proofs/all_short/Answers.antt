use Prim.Native.Nat.{ℕ}
use mathlib.Core.Path.{refl, sym, ap, ◌∙◌}
use lib.Dec.{ltb}
use lib.Seq.{take_all}
use Rattle.std.specs.List.{list_all}
use Rattle.std.proofs.lemmas.List.Folds.{list_all_more}
use Rattle.ber_identifiers.proofs.Laws.{largest-short}
use Rattle.ber_identifiers.proofs.all_short.Goals as goal

pub loop-b-init : goal.loop-b-init
loop-b-init c = refl

pub loop-b-preserved : goal.loop-b-preserved
loop-b-preserved c =
    list_all_more (λ (b : ℕ). ltb b 128) c.args.octets.now c.loop-b.b-index 0 c.loop-b-test.true
    ∙ largest-short _ _ _ _ c.loop-b.invariant c.max-most.ensures

pub returns : goal.returns
returns c = ap (list_all (λ (b : ℕ). ltb b 128)) (sym (take_all _ _ c.loop-b-test.false)) ∙ c.loop-b.invariant
