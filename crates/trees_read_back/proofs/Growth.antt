-- The trees of a collection are read as the same trees, by induction on them.
use Rattle.std.specs.Prelude.{Ok}
use Prim.Native.Nat.{ℕ, suc, ◌+◌, ◌-◌, ◌≤◌}
use mathlib.Core.Path.{◌≡◌, refl, sym, ap, subst, ◌∙◌}
use mathlib.Core.List.{List, [], ◌∷◌, ◌++◌, append_assoc, append-nil}
use mathlib.Core.Bool.{Bool, true, false}
use mathlib.Core.Logic.{⊎_elim}
use native.Mathlib.Omega.{arith}
use borrow.Author.Tests.{leb-true, le-leb, eqb-true, eq-eqb, ne_eqb}
use lib.ListN.{length, drop, get_or, length-append}
use lib.Dec.{leb, eqb}
use Rattle.base_choices.specs.Choices.{pick}
use Rattle.base_choices.proofs.Laws.{both_left, both_right}
use Rattle.glow_rows.specs.Entry.{Entries}
use Rattle.glow_grammar.specs.Grammar.{rule_of, required, is_set, contents_of, applications}
use Rattle.glow_walk.specs.Tree.{out, ItemsGive}
use Rattle.glow_walk.proofs.Ways.{items-done, element-in}
use Rattle.glow_trees.specs.Content.{Content, Item, item, items_of}
use Rattle.glow_trees.specs.Trees.{Trees, none, tree, count, flat, stands_in}
use Rattle.glow_trees.specs.Legal.{empty, complete, suited, path_of, path_after, inner, is_none, legal}
use Rattle.glow_trees.specs.Written.{outer, member_octets, members_octets, wrapped, own, trees_octets}
use Rattle.trees_read_back.proofs.Bools.{never}
use Rattle.trees_read_back.proofs.Standing.{till, tag_of, Outered, outered}
use Rattle.trees_read_back.proofs.Leaves.{Spells}
use Rattle.trees_read_back.proofs.Turns.{item-done, item-here}
use Rattle.trees_read_back.proofs.Known.{Simple, Full, Known, known-kind}
use Rattle.trees_read_back.proofs.Stages.{Grown, Grows, closes}
use Rattle.trees_read_back.proofs.Elements.{items-append, first-rule, path-first, Body, simple-body, full_body}

-- what is legal of a tree, part by part
pub record Right (which k above kind : ℕ) (members : List Content) (kids links rest : Trees) : Type 0 where
  pub stands : stands_in which kind ≡ true
  pub size : length members ≡ 16
  pub deep : 3 ≤ k
  pub suit : suited kind 0 members ≡ true
  pub all : complete (required kind) members ≡ true
  pub low : path_after kind above members ≤ 16
  pub contents : pick (empty (inner kind members)) true (leb 5 k) ≡ true
  pub below : pick (eqb (rule_of kind 2) 14) (legal 1 (k - 4) (path_after kind above members) kids) (is_none kids) ≡ true
  pub linked : pick (eqb (rule_of kind 5) 15) (legal 2 (k - 4) (path_after kind above members) links) (is_none links) ≡ true
  pub others : legal which k above rest ≡ true

pub right : (which k above kind : ℕ) (members : List Content) (kids links rest : Trees) → legal which k above (tree kind members kids links rest) ≡ true
    → Right which k above kind members kids links rest
unfolding legal
right which k above kind members kids links rest e0 =
    let e1 = both_right (stands_in which kind) _ e0 in
    let e2 = both_right (eqb (length members) 16) _ e1 in
    let e3 = both_right (leb 3 k) _ e2 in
    let e4 = both_right (suited kind 0 members) _ e3 in
    let e5 = both_right (complete (required kind) members) _ e4 in
    let e6 = both_right (leb (path_after kind above members) 16) _ e5 in
    let e7 = both_right (pick (empty (inner kind members)) true (leb 5 k)) _ e6 in
    let e8 = both_right (pick (eqb (rule_of kind 2) 14) (legal 1 (k - 4) (path_after kind above members) kids) (is_none kids)) _ e7 in
    record {
      stands = both_left (stands_in which kind) _ e0;
      size = eqb-true _ _ (both_left (eqb (length members) 16) _ e1);
      deep = leb-true _ _ (both_left (leb 3 k) _ e2);
      suit = both_left (suited kind 0 members) _ e3;
      all = both_left (complete (required kind) members) _ e4;
      low = leb-true _ _ (both_left (leb (path_after kind above members) 16) _ e5);
      contents = both_left (pick (empty (inner kind members)) true (leb 5 k)) _ e6;
      below = both_left (pick (eqb (rule_of kind 2) 14) (legal 1 (k - 4) (path_after kind above members) kids) (is_none kids)) _ e7;
      linked = both_left (pick (eqb (rule_of kind 5) 15) (legal 2 (k - 4) (path_after kind above members) links) (is_none links)) _ e8;
      others = both_right (pick (eqb (rule_of kind 5) 15) (legal 2 (k - 4) (path_after kind above members) links) (is_none links)) _ e8;
    }

-- the octets in an element
abbrev body_octets : (ℕ → List ℕ) → ℕ → List Content → Trees → Trees → List ℕ
body_octets real kind members kids links =
    members_octets real 0 (own kind members)
    ++ (wrapped 1 0 17 (members_octets real 0 (inner kind members)) ++ (wrapped 2 1 4 (trees_octets real kids) ++ wrapped 5 0 16 (trees_octets real links)))

simple-octets : (real : ℕ → List ℕ) (kind : ℕ) (x : Content) (xs : List Content) → contents_of kind ≡ 0
    → body_octets real kind (x ∷ xs) none none ≡ members_octets real 0 (x ∷ xs)
unfolding own inner wrapped trees_octets members_octets
simple-octets real kind x xs z = rw (eq-eqb _ _ z) (append-nil (members_octets real 0 (x ∷ xs)))

full-octets : (real : ℕ → List ℕ) (kind : ℕ) (x : Content) (xs : List Content) (kids links : Trees) → (contents_of kind ≡ 0 → ⊥)
    → body_octets real kind (x ∷ xs) kids links
    ≡ member_octets real 0 x ++ (wrapped 1 0 17 (members_octets real 0 xs) ++ (wrapped 2 1 4 (trees_octets real kids) ++ wrapped 5 0 16 (trees_octets real links)))
unfolding own inner members_octets
full-octets real kind x xs kids links z =
    let others = wrapped 1 0 17 (members_octets real 0 xs) ++ (wrapped 2 1 4 (trees_octets real kids) ++ wrapped 5 0 16 (trees_octets real links)) in
    rw (ne_eqb _ _ z) (ap (λ (l : List ℕ). l ++ others)
    (append-nil (member_octets real 0 x)))

-- four lists, one after another
four : (a b c d rest : List ℕ) → (a ++ (b ++ (c ++ d))) ++ rest ≡ a ++ (b ++ (c ++ (d ++ rest)))
four a b c d rest =
    append_assoc a (b ++ (c ++ d)) rest
    ∙ ap (λ (l : List ℕ). a ++ l) (append_assoc b (c ++ d) rest ∙ ap (λ (l : List ℕ). b ++ l) (append_assoc c d rest))

four-long : (a b c d : List ℕ) → length (a ++ (b ++ (c ++ d))) ≡ length a + (length b + (length c + length d))
four-long a b c d =
    let x = length-append a (b ++ (c ++ d)) in
    let y = length-append b (c ++ d) in
    let z = length-append c d in
    omega arith

inner-full : (kind : ℕ) (x : Content) (xs : List Content) → (contents_of kind ≡ 0 → ⊥) → inner kind (x ∷ xs) ≡ xs
unfolding inner
inner-full kind x xs z = rw (ne_eqb _ _ z)

path-is : (kind above : ℕ) (x : Content) (xs : List Content) → (contents_of kind ≡ 0 → ⊥)
    → path_after kind above (x ∷ xs) ≡ path_of (rule_of kind 0) above (x ∷ xs)
unfolding path_after
path-is kind above x xs z = ap (λ (i : ℕ). path_of i above (x ∷ xs)) (first-rule kind z)

two-less : (b : Bool) (k : ℕ) → pick b true (leb 5 k) ≡ true → pick b true (leb 3 (k - 1 - 1)) ≡ true
two-less true k e = refl
two-less false k e = let h = leb-true 5 k e in let i : 3 ≤ k - 1 - 1 = omega arith in le-leb _ _ i

module _ (real : ℕ → List ℕ) (spells : Spells real) (s : List ℕ) (few : length s ≤ 16384) (which k above kind q p parent : ℕ) (pre : Entries) (others : Trees)
    (rest : List ℕ) where
  simple-case : (members : List Content) (kids links : Trees) → Right which k above kind members kids links others → is_set kind ≡ false → Simple kind
      → is_none kids ≡ true → is_none links ≡ true
      → drop p s ≡ body_octets real kind members kids links ++ rest → p + length (body_octets real kind members kids links) ≡ q
      → Body s (k - 1 - 1) q kind above p parent pre members kids links
  simple-case [] kids links r seq f a b t ends = let z = r.size in absurd (omega arith)
  simple-case (x ∷ xs) (tree kind' members kids links trees) lk r seq f a b t ends = never a
  simple-case (x ∷ xs) none (tree kind' members kids links trees) r seq f a b t ends = never b
  simple-case (x ∷ xs) none none r seq f a b t ends =
      let e = simple-octets real kind x xs f.alone in
      let d = r.deep in
      simple-body real spells s few q (k - 1 - 1) kind (omega arith) pre parent above p rest seq f (x ∷ xs) r.size r.suit r.all
      (t ∙ ap (λ (l : List ℕ). l ++ rest) e) (ap (λ (l : List ℕ). p + length l) (sym e) ∙ ends)

  full-case : (members : List Content) (kids links : Trees) → Right which k above kind members kids links others → is_set kind ≡ false → Full kind
      → Grows real s kids → Grows real s links
      → drop p s ≡ body_octets real kind members kids links ++ rest → p + length (body_octets real kind members kids links) ≡ q
      → Body s (k - 1 - 1) q kind above p parent pre members kids links
  full-case [] kids links r seq f gk gl t ends = let z = r.size in absurd (omega arith)
  full-case (x ∷ xs) kids links r seq f gk gl t ends =
      let z = f.row-some in
      let e = full-octets real kind x xs kids links z in
      let d = r.deep in
      let n = r.size in
      let pa = path-is kind above x xs z in
      let pb : path_after kind above (x ∷ xs) ≡ path_of (rule_of kind 0) above (x ∷ []) = pa ∙ sym (path-first (rule_of kind 0) above x xs) in
      let low : path_of (rule_of kind 0) above (x ∷ xs) ≤ 16 = subst (λ (i : ℕ). i ≤ 16) pa r.low in
      let dp : pick (empty xs) true (leb 5 k) ≡ true =
      subst (λ (l : List Content). pick (empty l) true (leb 5 k) ≡ true) (inner-full kind x xs z) r.contents in
      let i : k - 4 ≡ k - 1 - 1 - 1 - 1 = omega arith in
      let rk : legal 1 (k - 4) (path_after kind above (x ∷ xs)) kids ≡ true =
      subst (λ (v : Bool). pick v (legal 1 (k - 4) (path_after kind above (x ∷ xs)) kids) (is_none kids) ≡ true) (eq-eqb _ _ f.third) r.below in
      let m0 = member_octets real 0 x in
      let w1 = wrapped 1 0 17 (members_octets real 0 xs) in
      let w2 = wrapped 2 1 4 (trees_octets real kids) in
      let w5 = wrapped 5 0 16 (trees_octets real links) in
      full_body real spells s few q (k - 1 - 1) kind (omega arith) pre parent above p rest seq f x xs kids links (omega arith) r.suit r.all low
      (two-less (empty xs) k dp) gk gl
      (subst (λ (j : ℕ). legal 1 j (path_of (rule_of kind 0) above (x ∷ [])) kids ≡ true) i (subst (λ (j : ℕ). legal 1 (k - 4) j kids ≡ true) pb rk))
      (subst (λ (j : ℕ). pick (eqb (rule_of kind 5) 15) (legal 2 j (path_of (rule_of kind 0) above (x ∷ [])) links) (is_none links) ≡ true) i
      (subst (λ (j : ℕ). pick (eqb (rule_of kind 5) 15) (legal 2 (k - 4) j links) (is_none links) ≡ true) pb r.linked))
      (t ∙ ap (λ (l : List ℕ). l ++ rest) e ∙ four m0 w1 w2 w5 rest)
      (ap (λ (n : ℕ). p + n) (sym (four-long m0 w1 w2 w5)) ∙ ap (λ (l : List ℕ). p + length l) (sym e) ∙ ends)

  body-read : (members : List Content) (kids links : Trees) → Right which k above kind members kids links others → Known which kind
      → Grows real s kids → Grows real s links
      → drop p s ≡ body_octets real kind members kids links ++ rest → p + length (body_octets real kind members kids links) ≡ q
      → Body s (k - 1 - 1) q kind above p parent pre members kids links
  body-read members kids links r known gk gl t ends =
      ⊎_elim
      (λ (f : Simple kind).
      simple-case members kids links r known.sequence f
      (subst (λ (v : Bool). pick v (legal 1 (k - 4) (path_after kind above members) kids) (is_none kids) ≡ true) f.no_kids r.below)
      (subst (λ (v : Bool). pick v (legal 2 (k - 4) (path_after kind above members) links) (is_none links) ≡ true) f.no-links r.linked) t ends)
      (λ (f : Full kind). full-case members kids links r known.sequence f gk gl t ends)
      known.shape

-- an item, and the trees after it
module _ (real : ℕ → List ℕ) (s : List ℕ) (k end which parent above p kind : ℕ) (es : Entries) (members : List Content) (kids links others : Trees)
    (rest : List ℕ) (known : Known which kind) (deep : 3 ≤ k)
    (y : Outered s p end 0 1 true (get_or applications kind 0) (body_octets real kind members kids links) (trees_octets real others ++ rest))
    (b : Body s (k - 1 - 1) y.q kind above y.b parent es members kids links) (r : Grown s k end which parent above y.q (es ++ b.more) others) where
  item-gives : ItemsGive s k (till end) which parent above p es (out (Ok end) ((es ++ b.more) ++ r.more))
  item-gives =
      let later = y.later in
      let later' = y.later' in
      let ends = y.ends in
      element-in s k (till end) which parent above p es {g = tag_of 1 1 (get_or applications kind 0) y.b y.q}
      (item-here s p end k which (get_or applications kind 0) kind (body_octets real kind members kids links) (trees_octets real others ++ rest) y (omega arith)
      known.known known.some)
      y.within (omega arith) b.gives (closes s y.q (k - 1)) (omega arith) r.gives

  items-say : items_of s (b.more ++ r.more) ≡ flat parent (length es) (tree kind members kids links others)
  unfolding flat
  items-say =
      let l = length-append es b.more in
      let z = b.sized in
      let i : length (es ++ b.more) ≡ suc (length es) + (count kids + count links) = omega arith in
      items-append s b.more r.more
      ∙ ap (λ (x : List Item). x ++ items_of s r.more) b.says
      ∙ ap (λ (x : List Item). item kind parent members ∷ x)
      (append_assoc (flat (suc (length es)) (suc (length es)) kids) (flat (suc (length es)) (suc (length es) + count kids) links) (items_of s r.more)
      ∙ ap (λ (x : List Item). flat (suc (length es)) (suc (length es)) kids ++ (flat (suc (length es)) (suc (length es) + count kids) links ++ x))
      (r.says ∙ ap (λ (n : ℕ). flat parent n others) i))

  grown : Grown s k end which parent above p es (tree kind members kids links others)
  unfolding count
  grown =
      let l = length-append b.more r.more in
      let z = b.sized in
      let z' = r.sized in
      record {
        more = b.more ++ r.more;
        says = items-say;
        sized = omega arith;
        gives = subst (λ (l : Entries). ItemsGive s k (till end) which parent above p es (out (Ok end) l)) (append_assoc es b.more r.more) item-gives;
      }

module _ (real : ℕ → List ℕ) (spells : Spells real) (s : List ℕ) (few : length s ≤ 16384) where
  none-grows : Grows real s none
  unfolding trees_octets items_of flat count
  none-grows k end which parent above p es rest legal t ends =
      let e : p ≡ end = omega arith in
      record {
        more = [];
        says = refl;
        sized = refl;
        gives = subst (λ (l : Entries). ItemsGive s k (till end) which parent above p es (out (Ok end) l)) (sym (append-nil es))
            (subst (λ (i : ℕ). ItemsGive s k (till end) which parent above p es (out (Ok i) es)) e
            (items-done s k (till end) which parent above p es (item-done s p end k which e)));
      }

  tree-grows : (kind : ℕ) (members : List Content) (kids links others : Trees) → Grows real s kids → Grows real s links → Grows real s others
      → Grows real s (tree kind members kids links others)
  unfolding trees_octets
  tree-grows kind members kids links others gk gl go k end which parent above p es rest e t ends = begin (known-kind which kind r.stands)
    where
      r : Right which k above kind members kids links others
      r = right which k above kind members kids links others e

      number : ℕ
      number = get_or applications kind 0

      inside : List ℕ
      inside = body_octets real kind members kids links

      first : List ℕ
      first = outer 0 1 true (get_or applications kind 0) inside

      long : length (first ++ trees_octets real others) ≡ length first + length (trees_octets real others)
      long = length-append first (trees_octets real others)

      last : (known : Known which kind) (y : Outered s p end 0 1 true number inside (trees_octets real others ++ rest))
          → Body s (k - 1 - 1) y.q kind above y.b parent es members kids links
          → Grown s k end which parent above p es (tree kind members kids links others)
      last known y b =
          let n = y.next in
          let l = long in
          grown real s k end which parent above p kind es members kids links others rest known r.deep y b
          (go k end which parent above y.q (es ++ b.more) rest r.others y.after (omega arith))

      middle : (known : Known which kind) (y : Outered s p end 0 1 true number inside (trees_octets real others ++ rest))
          → Grown s k end which parent above p es (tree kind members kids links others)
      middle known y =
          last known y
          (body-read real spells s few which k above kind y.q y.b parent es others (trees_octets real others ++ rest) members kids links r known gk gl
          y.there y.ends)

      begin : Known which kind → Grown s k end which parent above p es (tree kind members kids links others)
      begin known =
          let l = long in
          middle known
          (outered s few p end 0 1 true number inside (trees_octets real others ++ rest) (omega arith) known.small (omega arith)
          (t ∙ append_assoc first (trees_octets real others) rest) (omega arith))

  pub grows : (t : Trees) → Grows real s t
  grows none = none-grows
  grows (tree kind members kids links others) = tree-grows kind members kids links others (grows kids) (grows links) (grows others)
