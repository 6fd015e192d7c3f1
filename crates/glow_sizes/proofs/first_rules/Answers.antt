use Rattle.glow_sizes.proofs.Rules.{right, rules-at, rules-none}
use Rattle.glow_grammar.specs.Grammar.{members, rule_of, contents_rows, contents_of}
use Rattle.glow_trees.specs.Legal.{rule_at}
use mathlib.Core.Path.{◌≡◌, refl}
use native.Mathlib.Omega.{arith}
use Rattle.glow_sizes.proofs.first_rules.Goals as goal

pub returns-in-1 : goal.returns-in-1
unfolding right rule_at rule_of members contents_of contents_rows
returns-in-1 c = let e : c.args.kind ≡ 1 = omega arith in rules-at _ 1 _ e refl

pub returns-in-2 : goal.returns-in-2
unfolding right rule_at rule_of members contents_of contents_rows
returns-in-2 c = let e : c.args.kind ≡ 2 = omega arith in rules-at _ 2 _ e refl

pub returns-in-3 : goal.returns-in-3
unfolding right rule_at rule_of members contents_of contents_rows
returns-in-3 c = let e : c.args.kind ≡ 3 = omega arith in rules-at _ 3 _ e refl

pub returns-in-4 : goal.returns-in-4
unfolding right rule_at rule_of members contents_of contents_rows
returns-in-4 c = let e : c.args.kind ≡ 4 = omega arith in rules-at _ 4 _ e refl

pub returns-in-5 : goal.returns-in-5
unfolding right rule_at rule_of members contents_of contents_rows
returns-in-5 c = let e : c.args.kind ≡ 5 = omega arith in rules-at _ 5 _ e refl

pub returns-in-6 : goal.returns-in-6
unfolding right rule_at rule_of members contents_of contents_rows
returns-in-6 c = let e : c.args.kind ≡ 6 = omega arith in rules-at _ 6 _ e refl

pub returns-in_default : goal.returns-in_default
returns-in_default c = let p = c.requires in rules-none c.args.kind (λ h k. omega arith)
