-- Of a message that is "one qualified matrix and its connections alone" every connection names that matrix: 40 MATRIX cannot come.
use Prim.Native.Nat.{ℕ, ◌+◌, ◌-◌}
use mathlib.Core.Path.{◌≡◌, refl, sym, ap, subst, ◌∙◌}
use mathlib.Core.List.{List, [], ◌∷◌, ◌++◌}
use mathlib.Core.Bool.{Bool, true, false, true≢false}
use native.Mathlib.Omega.{arith}
use borrow.Author.Tests.{eqb-true, eq-eqb}
use types.Run.{OneOf, miss}
use lib.ListN.{length, get_or, drop}
use lib.Dec.{eqb}
use Rattle.base_choices.specs.Choices.{pick, both}
use Rattle.glow_grammar.specs.Grammar.{members, rule_of, holds, children, connections}
use Rattle.glow_trees.specs.Content.{Content, Item, item}
use Rattle.glow_trees.specs.Trees.{Trees, none, tree, count, flat, among, stands_in}
use Rattle.glow_trees.specs.Legal.{legal, legal_root, is_none, is_root, path_after}
use Rattle.glow_paths.specs.Paths.{octets_of, numbers_in, is_qualified, same}
use Rattle.desk_connections.specs.Connections.{Ask, asks_of}
use Rattle.desk_connections.proofs.Paths.{member_at, own_path, asks_down, asks-down, right, tests}
use Rattle.desk_crosspoints.specs.Desk.{Desk, with_cells}
use Rattle.desk_requests.specs.Request.{Request, requested}
use Rattle.desk_calls.specs.Calls.{request_of, answered, served}
use Rattle.desk_calls.specs.Numbers.{request_numbers}
use Rattle.desk_calls.proofs.Numbers.{request-numbers}
use Rattle.sheet_rules.specs.Reading.{all_links, path_in}

-- each asks of this matrix
abbrev pub Of : List ℕ → List Ask → Type 0
Of path [] = Unit {0}
Of path (a ∷ later) = (a.matrix ≡ path) × Of path later

first-test : (a b : Bool) → both a b ≡ true → a ≡ true
first-test true b h = refl
first-test false b h = h

left : (a b : Bool) → both a b ≡ true → a ≡ true
left true b h = refl
left false b h = h

-- a tree stands where its kind may
stands : (which k n kind : ℕ) (xs : List Content) (kids links rest : Trees) → legal which k n (tree kind xs kids links rest) ≡ true
    → stands_in which kind ≡ true
unfolding legal
stands which k n kind xs kids links rest h = first-test (stands_in which kind) _ h

-- connections stand among connections alone
not-child : (kind : ℕ) → kind ≡ 8 → stands_in children kind ≡ true → ⊥
unfolding among holds
not-child kind e h = true≢false (sym h ∙ ap (λ (i : ℕ). stands_in children i) e)

not_root : (root kind : ℕ) → is_root root ≡ true → kind ≡ 8 → stands_in root kind ≡ true → ⊥
unfolding among holds
not_root root kind r e h = go (eqb root 0) refl (eqb root 3) refl r
  where
    go : (u : Bool) → eqb root 0 ≡ u → (v : Bool) → eqb root 3 ≡ v → pick u true v ≡ true → ⊥
    go true p v q z = true≢false (sym h ∙ ap (λ (i : ℕ). stands_in root i) e ∙ ap (λ (i : ℕ). stands_in i 8) (eqb-true root 0 p))
    go false p true q z = true≢false (sym h ∙ ap (λ (i : ℕ). stands_in root i) e ∙ ap (λ (i : ℕ). stands_in i 8) (eqb-true root 3 q))
    go false p false q z = true≢false (sym z)

is-link : (kind : ℕ) → stands_in connections kind ≡ true → kind ≡ 8
unfolding among holds
is-link kind h = go (eqb 8 kind) refl h
  where
    go : (u : Bool) → eqb 8 kind ≡ u → pick u true false ≡ true → kind ≡ 8
    go true q z = sym (eqb-true 8 kind q)
    go false q z = absurd (true≢false (sym z))

no-trees : (t : Trees) → is_none t ≡ true → t ≡ none
no-trees none h = refl
no-trees (tree kind xs kids links rest) h = absurd (true≢false (sym h))

-- what a list of connections asks: each of the element that holds it
links-of : (t : Trees) (k n : ℕ) (path : List ℕ) → legal connections k n t ≡ true → Of path (asks_down path t)
unfolding asks_down rule_of members
links-of none k n path h = tt
links-of (tree kind xs kids links rest) k n path h =
    let u = tests connections k n kind xs kids links rest h in
    let e = is-link kind (stands connections k n kind xs kids links rest h) in
    go kind e u.below u.beside (links-of rest k n path u.after)
  where
    go : (j : ℕ) → j ≡ 8 → pick (eqb (rule_of j 2) 14) (legal children (k - 4) (path_after j n xs) kids) (is_none kids) ≡ true
        → pick (eqb (rule_of j 5) 15) (legal connections (k - 4) (path_after j n xs) links) (is_none links) ≡ true
        → Of path (asks_down path rest) → Of path (asks_down path (tree j xs kids links rest))
    go j e a b o =
        let x : kids ≡ none =
        no-trees kids (ap (λ (i : ℕ). pick (eqb (rule_of i 2) 14) (legal children (k - 4) (path_after i n xs) kids) (is_none kids)) (sym e) ∙ a) in
        let y : links ≡ none =
        no-trees links (ap (λ (i : ℕ). pick (eqb (rule_of i 5) 15) (legal connections (k - 4) (path_after i n xs) links) (is_none links)) (sym e) ∙ b) in
        subst (λ (i : ℕ). Of path (asks_down path (tree i xs kids links rest))) (sym e)
        (subst (λ (t : Trees). Of path (asks_down path (tree 8 xs t links rest))) (sym x)
        (subst (λ (t : Trees). Of path (asks_down path (tree 8 xs none t rest))) (sym y) (refl, o)))

-- entries that are connections alone, where none may stand, are none
first-link : (p i : ℕ) (t : Trees) (more : List Item) → all_links (flat p i t ++ more) ≡ true → (which k n : ℕ) → legal which k n t ≡ true
    → ((kind : ℕ) → kind ≡ 8 → stands_in which kind ≡ true → ⊥) → t ≡ none
unfolding all_links flat
first-link p i none more h which k n l wrong = refl
first-link p i (tree kind xs kids links rest) more h which k n l wrong =
    absurd (wrong kind (eqb-true kind 8 (left (eqb kind 8) _ h)) (stands which k n kind xs kids links rest l))

links-right : (a b : List Item) → all_links (a ++ b) ≡ true → all_links b ≡ true
unfolding all_links
links-right [] b h = h
links-right (x ∷ a) b h = links-right a b (also (eqb x.kind 8) _ h)
  where
    also : (u v : Bool) → both u v ≡ true → v ≡ true
    also true v z = z
    also false v z = absurd (true≢false (sym z))

append-empty : (l : List Item) → l ++ [] ≡ l
append-empty [] = refl
append-empty (x ∷ l) = ap (λ (y : List Item). x ∷ y) (append-empty l)

of-append : (path : List ℕ) (l : List Ask) → Of path l → Of path (l ++ [])
of-append path [] h = tt
of-append path (a ∷ l) h = (h.0, of-append path l h.1)

-- a qualified matrix, and after it connections alone
module _ (root k : ℕ) (r : is_root root ≡ true) (xs : List Content) (kids links rest : Trees) (i j : ℕ)
    (a : all_links (flat 1 1 kids ++ (flat 1 i links ++ flat 0 j rest)) ≡ true) (l : legal root k 0 (tree 7 xs kids links rest) ≡ true) where
  abbrev path : List ℕ
  path = numbers_in (octets_of (member_at xs 0))

  matrix-of : Of path (asks_down [] (tree 7 xs kids links rest))
  unfolding asks_down own_path is_qualified rule_of members
  matrix-of =
      let u = tests root k 0 7 xs kids links rest l in
      let x : kids ≡ none = first-link 1 1 kids (flat 1 i links ++ flat 0 j rest) a children (k - 4) (path_after 7 0 xs) u.below not-child in
      let b = links-right (flat 1 i links) (flat 0 j rest) (links-right (flat 1 1 kids) (flat 1 i links ++ flat 0 j rest) a) in
      let y : rest ≡ none =
      first-link 0 j rest [] (ap all_links (append-empty (flat 0 j rest)) ∙ b) root k 0 u.after (λ kind e z. not_root root kind r e z) in
      subst (λ (t : Trees). Of path (asks_down [] (tree 7 xs t links rest))) (sym x)
      (subst (λ (t : Trees). Of path (asks_down [] (tree 7 xs none links t))) (sym y)
      (of-append path (asks_down path links) (links-of links (k - 4) (path_after 7 0 xs) path u.beside)))

-- so of entries that are read from a message
pub alone-asks : (root : ℕ) (t : Trees) → legal_root root t ≡ true → (e : Item) (es : List Item) → flat 0 0 t ≡ e ∷ es → e.kind ≡ 7
    → all_links es ≡ true → Of (path_in e) (asks_of (e ∷ es))
unfolding flat legal_root
alone-asks root none h e es q d a = absurd (no q)
  where
    no : ◌≡◌ {A = List Item} [] (e ∷ es) → ⊥
    no z = omega (arith, ap length z)
alone-asks root (tree kind xs kids links rest) h e es q d a =
    let first : item kind 0 xs ≡ e = ap (λ (l : List Item). get_or l 0 e) q in
    let k : kind ≡ 7 = ap (λ (x : Item). x.kind) first ∙ d in
    let more = ap (drop 1) q in
    let o = subst (λ (n : ℕ). (n ≡ kind → legal root 62 0 (tree n xs kids links rest) ≡ true)
    → Of (numbers_in (octets_of (member_at xs 0))) (asks_down [] (tree n xs kids links rest))) (sym k)
    (λ z. matrix-of root 62 (first-test (is_root root) _ h) xs kids links rest (1 + count kids)
    (1 + (count kids + count links)) (ap all_links more ∙ a) (z (sym k)))
    (λ z. right (is_root root) _ h) in
    subst (λ (x : Item). Of (path_in x) (asks_of (e ∷ es))) first
    (subst (λ (l : List Item). Of (numbers_in (octets_of (member_at xs 0))) (asks_of l)) q
    (subst (Of (numbers_in (octets_of (member_at xs 0)))) (sym (asks-down root (tree kind xs kids links rest) h)) o))

-- ---- and so none of the answers is 40

abbrev pub Not40 : List ℕ → Type 0
Not40 [] = Unit {0}
Not40 (n ∷ ns) = (n ≡ 40 → ⊥) × Not40 ns

same_self : (ns : List ℕ) → same ns ns ≡ true
unfolding same
same_self [] = refl
same_self (n ∷ ns) = simp (eq-eqb n n refl) (same_self ns)

request-not-40 : (d : Desk) (r : Request) → (requested d r).number ≡ 40 → ⊥
request-not-40 d r e = miss request_numbers 40 tt (subst (OneOf request_numbers) e (request-numbers d r))

answer-not-40 : (d : Desk) (a : Ask) → a.matrix ≡ d.path → (answered d a).number ≡ 40 → ⊥
unfolding answered
answer-not-40 d a m =
    let s : same a.matrix d.path ≡ true = ap (λ (p : List ℕ). same p d.path) m ∙ same_self d.path in
    rw s (request-not-40 d (request_of a))

pub served-not-40 : (d : Desk) (l : List Ask) → Of d.path l → Not40 (served d l).answers
unfolding served
served-not-40 d [] h = tt
served-not-40 d (a ∷ later) h = (answer-not-40 d a h.0, served-not-40 (with_cells d (answered d a).cells) later h.1)
