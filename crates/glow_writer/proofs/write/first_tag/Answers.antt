use Rattle.glow_writer.proofs.Putting.{tag_at, tag-none}
use Rattle.glow_grammar.specs.Grammar.{applications}
use native.Mathlib.Omega.{arith}
use mathlib.Core.Path.{◌≡◌, refl}
use Rattle.glow_writer.proofs.write.first_tag.Goals as goal

pub returns-in-1 : goal.returns-in-1
unfolding applications
returns-in-1 c = let e : c.args.kind ≡ 1 = omega arith in tag_at _ 1 _ e refl

pub returns-in-2 : goal.returns-in-2
unfolding applications
returns-in-2 c = let e : c.args.kind ≡ 2 = omega arith in tag_at _ 2 _ e refl

pub returns-in-3 : goal.returns-in-3
unfolding applications
returns-in-3 c = let e : c.args.kind ≡ 3 = omega arith in tag_at _ 3 _ e refl

pub returns-in-4 : goal.returns-in-4
unfolding applications
returns-in-4 c = let e : c.args.kind ≡ 4 = omega arith in tag_at _ 4 _ e refl

pub returns-in_default : goal.returns-in_default
unfolding applications
returns-in_default c = let q = c.requires in tag-none c.args.kind (λ h k. omega arith)
