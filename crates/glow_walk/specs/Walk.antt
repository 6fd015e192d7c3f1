-- The walk through a whole message (document 01, "Glow").
use Rattle.ber_containers.specs.declared.No.{No}
use Rattle.ber_containers.specs.declared.Open.{Open}
use Rattle.ber_containers.specs.declared.Tag.{Tag}
use Rattle.std.specs.Prelude.{ℕ, suc, List, [], length, eqb, Result, Ok, Err}
use Rattle.base_choices.specs.Choices.{pick}
use Rattle.ber_containers.specs.Ends.{no}
use Rattle.glow_grammar.specs.Grammar.{in_root, in_collection}
use Rattle.glow_steps.specs.Root.{top_at}
use Rattle.glow_walk.specs.Tree.{Out, out, closed, items_by}

-- "30 BER: .. bytes .. left after Root"
unfoldable pub finished : List ℕ → Result ℕ No → Result ℕ No
finished s (Ok next) = pick (eqb next (length s)) (Ok next) (Err (no 30 next))
finished s (Err e) = Err e

-- Root's collection, and what was read of it
pub record Walk : Type 0 where
  pub which : ℕ
  pub out : Out

abbrev pub walk_of : List ℕ → Result (ℕ × Open × Tag) No → Walk
walk_of s (Ok (which, outer, g)) =
    let x : Out = items_by (suc (length s)) s in_collection g.inner which 0 0 g.start [] in
    record { which = which; out = out (finished s (closed s outer in_root x.answer)) x.entries }
walk_of s (Err e) = record { which = 0; out = out (Err e) [] }

unfoldable pub walk : List ℕ → Walk
walk s = walk_of s (top_at s)
