use Rattle.glow_writer.proofs.Putting.{tag_at, tag-none}
use Rattle.glow_grammar.specs.Grammar.{applications}
use native.Mathlib.Omega.{arith}
use mathlib.Core.Path.{◌≡◌, refl}
use Rattle.glow_writer.proofs.write.tag_of.Goals as goal

pub first_tag-requires : goal.first_tag-requires
first_tag-requires c = c.if-kind-le-MATRIX.true

pub returns-then-kind-le-MATRIX : goal.returns-then-kind-le-MATRIX
unfolding applications
returns-then-kind-le-MATRIX c = c.first_tag.ensures

pub returns-in-5 : goal.returns-in-5
unfolding applications
returns-in-5 c = let e : c.args.kind ≡ 5 = omega arith in tag_at _ 5 _ e refl

pub returns-in-6 : goal.returns-in-6
unfolding applications
returns-in-6 c = let e : c.args.kind ≡ 6 = omega arith in tag_at _ 6 _ e refl

pub returns-in-7 : goal.returns-in-7
unfolding applications
returns-in-7 c = let e : c.args.kind ≡ 7 = omega arith in tag_at _ 7 _ e refl

pub returns-in-8 : goal.returns-in-8
unfolding applications
returns-in-8 c = let e : c.args.kind ≡ 8 = omega arith in tag_at _ 8 _ e refl

pub returns-in-9 : goal.returns-in-9
unfolding applications
returns-in-9 c = let e : c.args.kind ≡ 9 = omega arith in tag_at _ 9 _ e refl

pub returns-in_default : goal.returns-in_default
unfolding applications
returns-in_default c = let q = c.if-kind-le-MATRIX.false in tag-none c.args.kind (λ h k. omega arith)
