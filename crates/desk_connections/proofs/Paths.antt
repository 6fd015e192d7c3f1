-- A second reading of full paths: over the tree that the entries make, paths are handed down from each element to what it holds. For every tree of the grammar
-- the connections ask the same as over the entries, so the levels that `full_path` walks up are enough.
use Prim.Native.Nat.{ℕ, zero, suc, ◌+◌, ◌-◌, ◌≤◌, ◌<◌}
use mathlib.Core.Path.{◌≡◌, refl, sym, ap, subst, ◌∙◌}
use mathlib.Core.List.{List, [], ◌∷◌, ◌++◌}
use mathlib.Core.Bool.{Bool, true, false, true≢false}
use mathlib.Core.Logic.{◌⊎◌, inl, inr, ⊎_elim}
use native.Mathlib.Omega.{arith}
use borrow.Author.Tests.{leb-true, eqb-true}
use lib.ListN.{length, drop, get_or, length-append}
use lib.Seq.{drop-drop}
use lib.Dec.{leb, ltb, eqb}
use Rattle.base_choices.specs.Choices.{pick, both}
use Rattle.ber_identifiers.specs.Identifier.{Arcs, bad, over, numbers, arcs}
use Rattle.glow_grammar.specs.Grammar.{members, rule_of, requirements, required, contents_rows, step, path, children, connections}
use Rattle.glow_grammar.specs.Grammar as grammar
use Rattle.glow_grammar.specs.Leaf.{expects}
use Rattle.glow_trees.specs.Content.{Content, nothing, word, bytes, wrong, is_part, is_word, Item, item}
use Rattle.glow_trees.specs.Trees.{Trees, none, tree, count, flat, stands_in}
use Rattle.glow_trees.specs.Legal.{rule_at, suits, suited, complete, path_of, path_after, length_of, legal, legal_root, is_none, is_root, empty, inner}
use Rattle.glow_paths.specs.Paths.{number_of, octets_of, list_of, numbers_in, is_qualified, nobody, path_up}
use Rattle.desk_connections.specs.Connections.{Ask, ask, ask_of, asks_in, asks_of}
use Rattle.glow_paths.proofs.Items.{up_root, up-qualified, up-number}

abbrev pub member_at : List Content → ℕ → Content
member_at xs c = get_or xs c nothing

-- an element's path, from that of its parent
unfoldable pub own_path : ℕ → List Content → List ℕ → List ℕ
own_path kind xs above =
    pick (is_qualified kind) (numbers_in (octets_of (member_at xs 0))) (above ++ (number_of (member_at xs 0) ∷ []))

-- what the connections of a tree ask, below an element with a path
unfoldable pub asks_down : List ℕ → Trees → List Ask
asks_down above none = []
asks_down above (tree kind xs kids links rest) =
    let later : List Ask = asks_down (own_path kind xs above) kids ++ (asks_down (own_path kind xs above) links ++ asks_down above rest) in
    pick (eqb kind 8) (ask above (number_of (member_at xs 0)) (numbers_in (octets_of (member_at xs 1))) (number_of (member_at xs 2)) ∷ later) later

-- entries that stand from place i on
abbrev Stands : List Item → ℕ → List Item → Type 0
Stands es i xs = (post : List Item) × (drop i es ≡ xs ++ post)

append_assoc : (a b c : List Item) → (a ++ b) ++ c ≡ a ++ (b ++ c)
append_assoc [] b c = refl
append_assoc (x ∷ xs) b c = ap (λ (l : List Item). x ∷ l) (append_assoc xs b c)

drop-front : (a b : List Item) → drop (length a) (a ++ b) ≡ b
drop-front [] b = refl
drop-front (x ∷ xs) b = drop-front xs b

stands-tail : (es : List Item) (i : ℕ) (x : Item) (xs : List Item) → Stands es i (x ∷ xs) → Stands es (suc i) xs
stands-tail es i x xs h =
    let d : suc i ≡ i + 1 = omega arith in
    (h.0, ap (λ (j : ℕ). drop j es) d ∙ sym (drop-drop 1 i es) ∙ ap (drop 1) h.1)

stands-left : (es : List Item) (i : ℕ) (a b : List Item) → Stands es i (a ++ b) → Stands es i a
stands-left es i a b h = (b ++ h.0, h.1 ∙ append_assoc a b h.0)

stands-right : (es : List Item) (i n : ℕ) (a b : List Item) → length a ≡ n → Stands es i (a ++ b) → Stands es (i + n) b
stands-right es i n a b e h = (
  h.0,
  sym (drop-drop n i es) ∙ ap (λ (j : ℕ). drop j (drop i es)) (sym e)
      ∙ ap (drop (length a)) (h.1 ∙ append_assoc a b h.0) ∙ drop-front a (b ++ h.0),
)

at_drop : (es : List Item) (i : ℕ) (x : Item) (xs : List Item) → drop i es ≡ x ∷ xs → (get_or es i nobody ≡ x) × (i < length es)
at_drop [] zero x xs e = absurd (omega (arith, ap length e))
at_drop [] (suc i) x xs e = absurd (omega (arith, ap length e))
at_drop (y ∷ ys) zero x xs e = (ap (λ (l : List Item). get_or l 0 nobody) e, omega arith)
at_drop (y ∷ ys) (suc i) x xs e = let r = at_drop ys i x xs e in (r.0, omega (arith, r.1))

lengths : (a b c : List Item) (l m n : ℕ) → length a ≡ l → length b ≡ m → length c ≡ n → length (a ++ (b ++ c)) ≡ l + (m + n)
lengths a b c l m n x y z = omega (arith, length-append a (b ++ c), length-append b c, x, y, z)

flat-length : (p i : ℕ) (t : Trees) → length (flat p i t) ≡ count t
unfolding flat count
flat-length p i none = refl
flat-length p i (tree kind xs kids links rest) =
    ap suc (lengths (flat (suc i) (suc i) kids) (flat (suc i) (suc i + count kids) links) (flat p (suc i + (count kids + count links)) rest)
    (count kids) (count links) (count rest) (flat-length (suc i) (suc i) kids) (flat-length (suc i) (suc i + count kids) links)
    (flat-length p (suc i + (count kids + count links)) rest))

asks_append : (es a b : List Item) → asks_in es (a ++ b) ≡ asks_in es a ++ asks_in es b
unfolding asks_in
asks_append es [] b = refl
asks_append es (x ∷ xs) b =
    ap (λ (l : List Ask). pick (eqb x.kind 8) (ask_of es x ∷ l) l) (asks_append es xs b) ∙ go (eqb x.kind 8)
  where
    go : (u : Bool)
        → pick u (ask_of es x ∷ (asks_in es xs ++ asks_in es b)) (asks_in es xs ++ asks_in es b) ≡ pick u (ask_of es x ∷ asks_in es xs) (asks_in es xs) ++ asks_in es b
    go true = refl
    go false = refl

-- tests joined
left : (a b : Bool) → both a b ≡ true → a ≡ true
left true b h = refl
left false b h = h

pub right : (a b : Bool) → both a b ≡ true → b ≡ true
right true b h = h
right false b h = absurd (true≢false (sym h))

-- the kinds that hold something have a number or a path, and it is there
record Element (kind : ℕ) : Type 0 where
  pub keyed : required kind ≡ 1
  pub keys : ((is_qualified kind ≡ false) × (rule_at kind 0 ≡ step)) ⊎ ((is_qualified kind ≡ true) × (rule_at kind 0 ≡ path))

none-held : (x y : ℕ) → x < 14 → y < 15 → (x ≡ 14) ⊎ (y ≡ 15) → ⊥
none-held x y a b h = ⊎_elim (λ (e : x ≡ 14). omega (arith, a, e)) (λ (e : y ≡ 15). omega (arith, b, e)) h

holders : (kind : ℕ) → (rule_of kind 2 ≡ 14) ⊎ (rule_of kind 5 ≡ 15) → Element kind
unfolding rule_of members required requirements is_qualified rule_at grammar.contents_of contents_rows
holders zero h = absurd (none-held 0 0 (omega arith) (omega arith) h)
holders (suc zero) h = record { keyed = refl; keys = inl (refl, refl) }
holders (suc (suc zero)) h = absurd (none-held 0 0 (omega arith) (omega arith) h)
holders (suc (suc (suc zero))) h = record { keyed = refl; keys = inl (refl, refl) }
holders (suc (suc (suc (suc zero)))) h = record { keyed = refl; keys = inl (refl, refl) }
holders (suc (suc (suc (suc (suc zero))))) h = record { keyed = refl; keys = inr (refl, refl) }
holders (suc (suc (suc (suc (suc (suc zero)))))) h = record { keyed = refl; keys = inr (refl, refl) }
holders (suc (suc (suc (suc (suc (suc (suc zero))))))) h = record { keyed = refl; keys = inr (refl, refl) }
holders (suc (suc (suc (suc (suc (suc (suc (suc zero)))))))) h = absurd (none-held 11 0 (omega arith) (omega arith) h)
holders (suc (suc (suc (suc (suc (suc (suc (suc (suc zero))))))))) h = absurd (none-held 0 0 (omega arith) (omega arith) h)
holders (suc (suc (suc (suc (suc (suc (suc (suc (suc (suc zero)))))))))) h = absurd (none-held 4 10 (omega arith) (omega arith) h)
holders (suc (suc (suc (suc (suc (suc (suc (suc (suc (suc (suc zero))))))))))) h = absurd (none-held 3 0 (omega arith) (omega arith) h)
holders (suc (suc (suc (suc (suc (suc (suc (suc (suc (suc (suc (suc zero)))))))))))) h = absurd (none-held 11 8 (omega arith) (omega arith) h)
holders (suc (suc (suc (suc (suc (suc (suc (suc (suc (suc (suc (suc (suc n))))))))))))) h = absurd (none-held 0 0 (omega arith) (omega arith) h)

part-two : (k : ℕ) → is_part k ≡ true → k ≡ 2 → ⊥
part-two k h e = true≢false (sym h ∙ ap (λ (m : ℕ). is_part m) e)

word-thirteen : (k : ℕ) → is_word k ≡ true → k ≡ 13 → ⊥
word-thirteen k h e = true≢false (sym h ∙ ap (λ (m : ℕ). is_word m) e)

arcs-length : (a : Arcs) → length_of a ≡ length (list_of a)
arcs-length bad = refl
arcs-length over = refl
arcs-length (numbers ns) = refl

abbrev suited-by : ℕ → List Content → Bool
suited-by what [] = true
suited-by what (x ∷ xs) = suits what x

suited-first : (kind : ℕ) (xs : List Content) → suited kind 0 xs ≡ true → suited-by (rule_at kind 0) xs ≡ true
unfolding suited
suited-first kind [] h = refl
suited-first kind (x ∷ xs) h = left (suits (rule_at kind 0) x) (suited kind 1 xs) h

-- the first member of an element
module _ (kind : ℕ) (xs : List Content) (n : ℕ) (r : required kind ≡ 1) (s : suited kind 0 xs ≡ true) (c : complete (required kind) xs ≡ true) where
  one : complete 1 xs ≡ true
  one = ap (λ (m : ℕ). complete m xs) (sym r) ∙ c

  step-length : rule_at kind 0 ≡ step → path_after kind n xs ≡ suc n
  unfolding suited suits complete path_after expects
  step-length e = rw e (go xs (ap (λ (m : ℕ). suited-by m xs) (sym e) ∙ s') one)
    where
      s' : suited-by (rule_at kind 0) xs ≡ true
      s' = suited-first kind xs s

      go : (ys : List Content) → suited-by step ys ≡ true → complete 1 ys ≡ true → path_of step n ys ≡ suc n
      go [] a b = absurd (true≢false (sym b))
      go (nothing ∷ ys) a b = absurd (true≢false (sym b))
      go (word k w ∷ ys) a b = refl
      go (bytes k bs ∷ ys) a b = absurd (part-two k (left (is_part k) _ a) (eqb-true k 2 (left (eqb k 2) _ (right (is_part k) _ a))))
      go (wrong ∷ ys) a b = absurd (true≢false (sym a))

  path-length : rule_at kind 0 ≡ path → path_after kind n xs ≡ length (numbers_in (octets_of (member_at xs 0)))
  unfolding suited suits complete path_after expects numbers_in
  path-length e = rw e (go xs (ap (λ (m : ℕ). suited-by m xs) (sym e) ∙ s') one)
    where
      s' : suited-by (rule_at kind 0) xs ≡ true
      s' = suited-first kind xs s

      go : (ys : List Content) → suited-by path ys ≡ true → complete 1 ys ≡ true
          → path_of path n ys ≡ length (list_of (arcs (octets_of (member_at ys 0)) 0 (length (octets_of (member_at ys 0)))))
      go [] a b = absurd (true≢false (sym b))
      go (nothing ∷ ys) a b = absurd (true≢false (sym b))
      go (word k w ∷ ys) a b =
          absurd (word-thirteen k (left (is_word k) _ a) (eqb-true k 13 (left (eqb k 13) _ (right (ltb w 18446744073709551616) _ (right (is_word k) _ a)))))
      go (bytes k bs ∷ ys) a b =
          let i : eqb k 13 ≡ true = left (eqb k 13) _ (right (is_part k) _ a) in
          rw i (arcs-length (arcs bs 0 (length bs)))
      go (wrong ∷ ys) a b = absurd (true≢false (sym a))

-- p's path is known, with levels enough
abbrev Known : List Item → ℕ → List ℕ → Type 0
Known es p above = (f : ℕ) → length above < f → path_up f es p ≡ above

snoc-length : (l : List ℕ) (x : ℕ) → length (l ++ (x ∷ [])) ≡ suc (length l)
snoc-length l x = omega (arith, length-append l (x ∷ []))

module _ (es : List Item) (p i kind : ℕ) (xs : List Content) (above : List ℕ) (e : Element kind) where
  own-length : suited kind 0 xs ≡ true → complete (required kind) xs ≡ true → length (own_path kind xs above) ≡ path_after kind (length above) xs
  unfolding own_path
  own-length s c =
      ⊎_elim
      (λ (k : (is_qualified kind ≡ false) × (rule_at kind 0 ≡ step)).
      ap (λ (u : Bool). length (pick u (numbers_in (octets_of (member_at xs 0))) (above ++ (number_of (member_at xs 0) ∷ [])))) k.0
      ∙ snoc-length above (number_of (member_at xs 0)) ∙ sym (step-length kind xs (length above) e.keyed s c k.1))
      (λ (k : (is_qualified kind ≡ true) × (rule_at kind 0 ≡ path)).
      ap (λ (u : Bool). length (pick u (numbers_in (octets_of (member_at xs 0))) (above ++ (number_of (member_at xs 0) ∷ [])))) k.0
      ∙ sym (path-length kind xs (length above) e.keyed s c k.1))
      e.keys

  own-known : get_or es i nobody ≡ item kind p xs → i < length es → Known es p above → Known es (suc i) (own_path kind xs above)
  unfolding own_path
  own-known at there known f h = go f (is_qualified kind) refl h
    where
      at-kind : (get_or es i nobody).kind ≡ kind
      at-kind = ap (λ (x : Item). x.kind) at

      go : (f : ℕ) (u : Bool) → is_qualified kind ≡ u
          → length (pick u (numbers_in (octets_of (member_at xs 0))) (above ++ (number_of (member_at xs 0) ∷ []))) < f
          → path_up f es (suc i) ≡ pick u (numbers_in (octets_of (member_at xs 0))) (above ++ (number_of (member_at xs 0) ∷ []))
      go zero u q k = absurd (omega (arith, k))
      go (suc g) true q k =
          up-qualified g es (suc i) i (omega arith) (omega (arith, there)) (omega arith) (ap is_qualified at-kind ∙ q)
          ∙ ap (λ (x : Item). numbers_in (octets_of (member_at x.members 0))) at
      go (suc g) false q k =
          up-number g es (suc i) i (omega arith) (omega (arith, there)) (omega arith) (ap is_qualified at-kind ∙ q)
          ∙ ap (λ (x : Item). path_up g es x.parent ++ (number_of (member_at x.members 0) ∷ [])) at
          ∙ ap (λ (l : List ℕ). l ++ (number_of (member_at xs 0) ∷ [])) (known g (omega (arith, k, snoc-length above (number_of (member_at xs 0)))))

-- a collection that is empty, or whose trees ask the same
held : (es : List Item) (p j : ℕ) (own : List ℕ) (b x : Bool) (t : Trees) → pick b x (is_none t) ≡ true
    → (b ≡ true → x ≡ true → asks_in es (flat p j t) ≡ asks_down own t) → asks_in es (flat p j t) ≡ asks_down own t
unfolding asks_in flat asks_down
held es p j own true x t h more = more refl h
held es p j own false x none h more = refl
held es p j own false x (tree kind xs kids links rest) h more = absurd (true≢false (sym h))

joined : (es a b c : List Item) (x y z : List Ask) → asks_in es a ≡ x → asks_in es b ≡ y → asks_in es c ≡ z → asks_in es (a ++ (b ++ c)) ≡ x ++ (y ++ z)
joined es a b c x y z h k l = asks_append es a (b ++ c) ∙ rw (asks_append es b c, h, k, l)

-- what the grammar's test tells of a tree
pub record Tests (which k n kind : ℕ) (xs : List Content) (kids links rest : Trees) : Type 0 where
  pub suit : suited kind 0 xs ≡ true
  pub whole : complete (required kind) xs ≡ true
  pub short : path_after kind n xs ≤ 16
  pub below : pick (eqb (rule_of kind 2) 14) (legal children (k - 4) (path_after kind n xs) kids) (is_none kids) ≡ true
  pub beside : pick (eqb (rule_of kind 5) 15) (legal connections (k - 4) (path_after kind n xs) links) (is_none links) ≡ true
  pub after : legal which k n rest ≡ true

pub tests : (which k n kind : ℕ) (xs : List Content) (kids links rest : Trees) → legal which k n (tree kind xs kids links rest) ≡ true
    → Tests which k n kind xs kids links rest
unfolding legal
tests which k n kind xs kids links rest h =
    let a = right (leb 3 k) _ (right (eqb (length xs) 16) _ (right (stands_in which kind) _ h)) in
    let b = right (suited kind 0 xs) _ a in
    let c = right (complete (required kind) xs) _ b in
    let d = right (pick (empty (inner kind xs)) true (leb 5 k)) _ (right (leb (path_after kind n xs) 16) _ c) in
    let e = right (pick (eqb (rule_of kind 2) 14) (legal children (k - 4) (path_after kind n xs) kids) (is_none kids)) _ d in
    record {
      suit = left (suited kind 0 xs) _ a;
      whole = left (complete (required kind) xs) _ b;
      short = leb-true (path_after kind n xs) 16 (left (leb (path_after kind n xs) 16) _ c);
      below = left (pick (eqb (rule_of kind 2) 14) (legal children (k - 4) (path_after kind n xs) kids) (is_none kids)) _ d;
      beside = left (pick (eqb (rule_of kind 5) 15) (legal connections (k - 4) (path_after kind n xs) links) (is_none links)) _ e;
      after = right (pick (eqb (rule_of kind 5) 15) (legal connections (k - 4) (path_after kind n xs) links) (is_none links)) _ e;
    }

-- where the parts of a tree stand
record Places (es : List Item) (p i kind : ℕ) (xs : List Content) (kids links rest : Trees) : Type 0 where
  pub here : get_or es i nobody ≡ item kind p xs
  pub inside : i < length es
  pub at-kids : Stands es (suc i) (flat (suc i) (suc i) kids)
  pub at-links : Stands es (suc i + count kids) (flat (suc i) (suc i + count kids) links)
  pub at_rest : Stands es (suc i + (count kids + count links)) (flat p (suc i + (count kids + count links)) rest)

places : (es : List Item) (p i kind : ℕ) (xs : List Content) (kids links rest : Trees) → Stands es i (flat p i (tree kind xs kids links rest))
    → Places es p i kind xs kids links rest
unfolding flat
places es p i kind xs kids links rest st =
    let K = flat (suc i) (suc i) kids in
    let L = flat (suc i) (suc i + count kids) links in
    let R = flat p (suc i + (count kids + count links)) rest in
    let a = stands-tail es i (item kind p xs) (K ++ (L ++ R)) st in
    let b = stands-right es (suc i) (count kids) K (L ++ R) (flat-length (suc i) (suc i) kids) a in
    let c = stands-right es (suc i + count kids) (count links) L R (flat-length (suc i) (suc i + count kids) links) b in
    let d : suc i + count kids + count links ≡ suc i + (count kids + count links) = omega arith in
    let z = at_drop es i (item kind p xs) _ st.1 in
    record {
      here = z.0;
      inside = z.1;
      at-kids = stands-left es (suc i) K (L ++ R) a;
      at-links = stands-left es (suc i + count kids) L R b;
      at_rest = subst (λ (m : ℕ). Stands es m R) d c;
    }

module _ (es : List Item) (p i which k kind : ℕ) (xs : List Content) (above : List ℕ) (kids links rest : Trees)
    (u : Tests which k (length above) kind xs kids links rest) (q : Places es p i kind xs kids links rest) (known : Known es p above) where
  abbrev own : List ℕ
  own = own_path kind xs above

  module _ (e : Element kind) where
    own_is : length own ≡ path_after kind (length above) xs
    own_is = own-length es p i kind xs above e u.suit u.whole

    own-short : length own ≤ 16
    own-short = omega (arith, own_is, u.short)

    own-there : Known es (suc i) own
    own-there = own-known es p i kind xs above e q.here q.inside known

-- the paths handed down are the full paths
down : (t : Trees) (es : List Item) (p i which k : ℕ) (above : List ℕ) → Stands es i (flat p i t) → legal which k (length above) t ≡ true
    → Known es p above → length above ≤ 16 → asks_in es (flat p i t) ≡ asks_down above t
unfolding asks_in flat asks_down ask_of
down none es p i which k above st le known short = refl
down (tree kind xs kids links rest) es p i which k above st le known short =
    let u = tests which k (length above) kind xs kids links rest le in
    let q = places es p i kind xs kids links rest st in
    let own = own_path kind xs above in
    let later = asks_down own kids ++ (asks_down own links ++ asks_down above rest) in
    let below =
    held es (suc i) (suc i) own (eqb (rule_of kind 2) 14) _ kids u.below
    (λ b x.
    let e = holders kind (inl (eqb-true (rule_of kind 2) 14 b)) in
    down kids es (suc i) (suc i) children (k - 4) own q.at-kids
    (ap (λ (n : ℕ). legal children (k - 4) n kids) (own_is es p i which k kind xs above kids links rest u q known e) ∙ x)
    (own-there es p i which k kind xs above kids links rest u q known e) (own-short es p i which k kind xs above kids links rest u q known e)) in
    let beside =
    held es (suc i) (suc i + count kids) own (eqb (rule_of kind 5) 15) _ links u.beside
    (λ b x.
    let e = holders kind (inr (eqb-true (rule_of kind 5) 15 b)) in
    down links es (suc i) (suc i + count kids) connections (k - 4) own q.at-links
    (ap (λ (n : ℕ). legal connections (k - 4) n links) (own_is es p i which k kind xs above kids links rest u q known e) ∙ x)
    (own-there es p i which k kind xs above kids links rest u q known e) (own-short es p i which k kind xs above kids links rest u q known e)) in
    let after = down rest es p (suc i + (count kids + count links)) which k above q.at_rest u.after known short in
    ap (λ (l : List Ask). pick (eqb kind 8) (ask_of es (item kind p xs) ∷ l) l)
    (joined es (flat (suc i) (suc i) kids) (flat (suc i) (suc i + count kids) links)
    (flat p (suc i + (count kids + count links)) rest) _ _ _ below beside after)
    ∙ ap (λ (m : List ℕ). pick (eqb kind 8) (ask m (number_of (member_at xs 0)) (numbers_in (octets_of (member_at xs 1))) (number_of (member_at xs 2)) ∷ later) later)
    (known 17 (omega (arith, short)))

pub asks-down : (root : ℕ) (t : Trees) → legal_root root t ≡ true → asks_of (flat 0 0 t) ≡ asks_down [] t
unfolding legal_root
asks-down root t h =
    down t (flat 0 0 t) 0 0 root 62 [] ([], sym (append-empty (flat 0 0 t))) (right (is_root root) (legal root 62 0 t) h)
    (λ f k. up_root f (flat 0 0 t) 0 refl) (omega arith)
  where
    append-empty : (l : List Item) → l ++ [] ≡ l
    append-empty [] = refl
    append-empty (x ∷ l) = ap (λ (y : List Item). x ∷ y) (append-empty l)
