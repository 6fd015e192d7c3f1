use Rattle.glow_sizes.proofs.Rules.{right, rules-at, rules-none}
use Rattle.glow_grammar.specs.Grammar.{members, rule_of, contents_rows, contents_of}
use Rattle.glow_trees.specs.Legal.{rule_at}
use mathlib.Core.Path.{◌≡◌, refl}
use native.Mathlib.Omega.{arith}
use Rattle.glow_sizes.proofs.rules_of.Goals as goal

pub first_rules-requires : goal.first_rules-requires
first_rules-requires c = c.if-kind-le-QUALIFIED_NODE.true

pub returns-then-kind-le-QUALIFIED_NODE : goal.returns-then-kind-le-QUALIFIED_NODE
returns-then-kind-le-QUALIFIED_NODE c = c.first_rules.ensures

pub returns-in-7 : goal.returns-in-7
unfolding right rule_at rule_of members contents_of contents_rows
returns-in-7 c = let e : c.args.kind ≡ 7 = omega arith in rules-at _ 7 _ e refl

pub returns-in-8 : goal.returns-in-8
unfolding right rule_at rule_of members contents_of contents_rows
returns-in-8 c = let e : c.args.kind ≡ 8 = omega arith in rules-at _ 8 _ e refl

pub returns-in-9 : goal.returns-in-9
unfolding right rule_at rule_of members contents_of contents_rows
returns-in-9 c = let e : c.args.kind ≡ 9 = omega arith in rules-at _ 9 _ e refl

pub returns-in-10 : goal.returns-in-10
unfolding right rule_at rule_of members contents_of contents_rows
returns-in-10 c = let e : c.args.kind ≡ 10 = omega arith in rules-at _ 10 _ e refl

pub returns-in-11 : goal.returns-in-11
unfolding right rule_at rule_of members contents_of contents_rows
returns-in-11 c = let e : c.args.kind ≡ 11 = omega arith in rules-at _ 11 _ e refl

pub returns-in-12 : goal.returns-in-12
unfolding right rule_at rule_of members contents_of contents_rows
returns-in-12 c = let e : c.args.kind ≡ 12 = omega arith in rules-at _ 12 _ e refl

pub returns-in_default : goal.returns-in_default
returns-in_default c = let p = c.if-kind-le-QUALIFIED_NODE.false in rules-none c.args.kind (λ h k. omega arith)
