-- In a tree of the grammar each connection's operation is one ("Type and operation are 0 to 2").
use Prim.Native.Nat.{ℕ, ◌-◌, ◌≤◌}
use mathlib.Core.Path.{◌≡◌, refl, sym, ap, ◌∙◌}
use mathlib.Core.List.{List, [], ◌∷◌, ◌++◌}
use mathlib.Core.Bool.{Bool, true, false, true≢false}
use native.Mathlib.Omega.{arith}
use borrow.Author.Tests.{leb-true, eqb-true}
use lib.IntN.{pos, negsuc}
use lib.Dec.{leb, ltb, eqb}
use Rattle.base_choices.specs.Choices.{pick, both}
use Rattle.glow_grammar.specs.Grammar.{members, rule_of, contents_rows, children, connections}
use Rattle.glow_grammar.specs.Grammar as grammar
use Rattle.glow_grammar.specs.Leaf.{least, most, in_range, expects}
use Rattle.glow_trees.specs.Content.{Content, nothing, word, bytes, wrong, int_of, is_word}
use Rattle.glow_trees.specs.Trees.{Trees, none, tree}
use Rattle.glow_trees.specs.Legal.{rule_at, word_suits, suits, suited, path_after, legal, legal_root, is_none, is_root, is_real}
use Rattle.glow_paths.specs.Paths.{number_of, octets_of, numbers_in}
use Rattle.desk_connections.specs.Connections.{Ask, ask}
use Rattle.desk_connections.proofs.Paths.{member_at, own_path, asks_down, right, tests}

abbrev pub Operations : List Ask → Type 0
Operations [] = Unit {0}
Operations (a ∷ later) = (a.operation ≤ 2) × Operations later

operations-append : (a b : List Ask) → Operations a → Operations b → Operations (a ++ b)
operations-append [] b x y = y
operations-append (a ∷ later) b x y = (x.0, operations-append later b x.1 y)

two-word : (w : ℕ) → in_range 11 (int_of w) ≡ true → w ≤ 2
unfolding int_of in_range least most
two-word w h = go (ltb w 9223372036854775808) h
  where
    go : (u : Bool) → in_range 11 (pick u (pos w) (negsuc (18446744073709551615 - w))) ≡ true → w ≤ 2
    go true z = leb-true w 2 (right (leb 0 w) (leb w 2) z)
    go false z = absurd (true≢false (sym z))

two-kind : (kind w : ℕ) → word_suits 11 kind w ≡ true → pick (eqb kind 2) w 0 ≤ 2
unfolding word_suits
two-kind kind w h = go (eqb kind 2) refl (eqb kind 1) refl h
  where
    go : (u : Bool) → eqb kind 2 ≡ u → (v : Bool) → eqb kind 1 ≡ v → pick v (leb w 1) (pick u (in_range 11 (int_of w)) (is_real w)) ≡ true → pick u w 0 ≤ 2
    go false e v d z = omega arith
    go true e false d z = two-word w z
    go true e true d z = absurd (omega (arith, eqb-true kind 2 e, eqb-true kind 1 d))

two-content : (x : Content) → suits 11 x ≡ true → number_of x ≤ 2
unfolding suits
two-content nothing h = omega arith
two-content (word kind w) h =
    two-kind kind w (right (expects 11 kind) _ (right (ltb w 18446744073709551616) _ (right (is_word kind) _ h)))
two-content (bytes kind bs) h = omega arith
two-content wrong h = omega arith

connection-operation : (xs : List Content) → suited 8 0 xs ≡ true → number_of (member_at xs 2) ≤ 2
unfolding suited rule_at rule_of members grammar.contents_of contents_rows
connection-operation [] h = omega arith
connection-operation (a ∷ []) h = omega arith
connection-operation (a ∷ (b ∷ [])) h = omega arith
connection-operation (a ∷ (b ∷ (x ∷ xs))) h =
    two-content x (left (suits 11 x) _ (right (suits (rule_at 8 1) b) _ (right (suits (rule_at 8 0) a) _ h)))
  where
    left : (a b : Bool) → both a b ≡ true → a ≡ true
    left true b h = refl
    left false b h = h

held-operations : (own : List ℕ) (b x : Bool) (t : Trees) → pick b x (is_none t) ≡ true → (x ≡ true → Operations (asks_down own t)) → Operations (asks_down own t)
unfolding asks_down
held-operations own true x t h more = more h
held-operations own false x none h more = tt
held-operations own false x (tree kind xs kids links rest) h more = absurd (true≢false (sym h))

operations-down : (t : Trees) (which k n : ℕ) (above : List ℕ) → legal which k n t ≡ true → Operations (asks_down above t)
unfolding asks_down
operations-down none which k n above h = tt
operations-down (tree kind xs kids links rest) which k n above h =
    let u = tests which k n kind xs kids links rest h in
    let own : List ℕ = own_path kind xs above in
    let below = held-operations own (eqb (rule_of kind 2) 14) _ kids u.below (λ z. operations-down kids children (k - 4) (path_after kind n xs) own z) in
    let beside = held-operations own (eqb (rule_of kind 5) 15) _ links u.beside
    (λ z. operations-down links connections (k - 4) (path_after kind n xs) own z) in
    let after = operations-down rest which k n above u.after in
    go (eqb kind 8) refl u.suit (asks_down own kids ++ (asks_down own links ++ asks_down above rest))
    (operations-append (asks_down own kids) (asks_down own links ++ asks_down above rest) below
    (operations-append (asks_down own links) (asks_down above rest) beside after))
  where
    go : (c : Bool) → eqb kind 8 ≡ c → suited kind 0 xs ≡ true → (later : List Ask) → Operations later
        → Operations
        (pick c (ask above (number_of (member_at xs 0)) (numbers_in (octets_of (member_at xs 1))) (number_of (member_at xs 2)) ∷ later) later)
    go false e s later o = o
    go true e s later o = (connection-operation xs (ap (λ (i : ℕ). suited i 0 xs) (sym (eqb-true kind 8 e)) ∙ s), o)

pub legal-operations : (root : ℕ) (t : Trees) → legal_root root t ≡ true → Operations (asks_down [] t)
unfolding legal_root
legal-operations root t h = operations-down t root 62 0 [] (right (is_root root) (legal root 62 0 t) h)
