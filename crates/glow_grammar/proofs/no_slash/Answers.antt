use Prim.Native.Nat.{ℕ}
use mathlib.Core.Path.{refl, sym, ap, ◌∙◌}
use mathlib.Core.Bool.{Bool, not, ◌||◌}
use lib.Dec.{eqb}
use lib.ListN.{get_or}
use lib.Seq.{take_all}
use Rattle.std.specs.List.{list_any}
use Rattle.std.proofs.lemmas.List.Folds.{list_any_more}
use Rattle.glow_grammar.proofs.Laws.{slash-any}
use Rattle.glow_grammar.proofs.no_slash.Goals as goal

pub loop-b-init : goal.loop-b-init
loop-b-init c = refl

pub loop-b-preserved : goal.loop-b-preserved
loop-b-preserved c =
    list_any_more (λ (b : ℕ). eqb b 47) c.args.text.now c.loop-b.b-index 0 c.loop-b-test.true
    ∙ ap (λ (t : Bool). t || eqb (get_or c.args.text.now c.loop-b.b-index 0) 47) c.loop-b.invariant

pub returns : goal.returns
returns c =
    slash-any c.args.text.now
    ∙ ap not (ap (list_any (λ (b : ℕ). eqb b 47)) (sym (take_all _ _ c.loop-b-test.false)) ∙ c.loop-b.invariant)
