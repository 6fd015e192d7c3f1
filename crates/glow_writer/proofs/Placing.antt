-- Trees written one after another: a tree, its children and its connections.
use Prim.Native.Nat.{ℕ, zero, suc, ◌+◌, ◌-◌, ◌*◌, ◌≤◌, ◌<◌}
use mathlib.Core.Path.{◌≡◌, refl, sym, ap, subst, ◌∙◌}
use mathlib.Core.Bool.{Bool, true, false, not}
use mathlib.Core.List.{List, [], ◌∷◌, ◌++◌, append_assoc, append-nil}
use native.Mathlib.Omega.{arith}
use borrow.Author.Tests.{eq-eqb, ne_eqb}
use lib.Dec.{T, leb, eqb}
use lib.ListN.{length, take, drop, get_or, length-append}
use lib.Seq.{length-take-le, drop-drop, get_or-take}
use Rattle.base_choices.specs.Choices.{pick, both}
use Rattle.glow_rows.specs.Entry.{Rows}
use Rattle.glow_grammar.specs.Grammar.{applications, rule_of, required, children, connections}
use Rattle.glow_grammar.specs.Grammar as grammar
use Rattle.glow_grammar.proofs.Tables.{application-short}
use Rattle.glow_trees.specs.Content.{Content, Item, item_of, items_of, contents_of}
use Rattle.glow_trees.specs.Rows.{cells_from, entry_of, entries_of, items_in}
use Rattle.glow_trees.specs.Trees.{Trees, none, tree, stands_in, stands, Taken, taken, taken_by, count}
use Rattle.glow_trees.specs.Legal.{suited, complete, path_after, empty, inner, is_none, legal}
use Rattle.glow_trees.specs.Written.{tagged, members_octets, wrapped, own, trees_octets, written_real}
use Rattle.glow_writer.specs.declared.write.Placed.{Placed}
use Rattle.glow_member_sizes.specs.Sizes.{cap, tagged_size}
use Rattle.glow_sizes.specs.Sizes.{wrapped_size, entry_octets}
use Rattle.glow_sizes.specs.Kept.{trees_at, kids_at, links_at, kind_at, members_at, Packed, Keeps}
use Rattle.glow_writer.specs.Puts.{Puts, heads, entry_part, EntryPuts, one_at, ItemsPut, ItemPuts, InsidePuts}
use Rattle.glow_member_sizes.proofs.Caps.{cap-in, over-tagged}
use Rattle.glow_member_sizes.proofs.Members.{outer-length}
use Rattle.glow_sizes.proofs.Entry.{wrapped-length, tagged-some}
use Rattle.glow_writer.proofs.Putting.{puts_then, puts_none, puts-as, outer-put, wrapped-within, wrapped-empty, wrapped-put}

never : {P : Type 0} → false ≡ true → P
never e = absurd (subst (λ (b : Bool). T (not b)) e tt)

-- ---- the entries of rows
row-item : (s : List ℕ) (rows : Rows) (i : ℕ) → i < length rows
    → drop i (items_of s (entries_of rows)) ≡ item_of s (entry_of (get_or rows i [])) ∷ drop (suc i) (items_of s (entries_of rows))
unfolding items_of entries_of
row-item s [] i h = absurd (omega arith)
row-item s (r ∷ rows) zero h = refl
row-item s (r ∷ rows) (suc i) h = row-item s rows i (omega arith)

rows-length : (s : List ℕ) (rows : Rows) → length (items_of s (entries_of rows)) ≡ length rows
unfolding items_of entries_of
rows-length s [] = refl
rows-length s (r ∷ rows) = ap suc (rows-length s rows)

module _ (s : List ℕ) (rows : Rows) (n : ℕ) (h : n ≤ length rows) where
  pub items-length : length (items_in s rows n) ≡ n
  unfolding items_in
  items-length = rows-length s (take n rows) ∙ length-take-le n rows h

  pub item-at : (i : ℕ) → i < n → drop i (items_in s rows n) ≡ item_of s (entry_of (get_or rows i [])) ∷ drop (suc i) (items_in s rows n)
  unfolding items_in
  item-at i l =
      let m : length (take n rows) ≡ n = length-take-le n rows h in
      let k : i < length (take n rows) = omega arith in
      row-item s (take n rows) i k
      ∙ ap (λ (r : List ℕ). item_of s (entry_of r) ∷ drop (suc i) (items_of s (entries_of (take n rows)))) (get_or-take n rows i [] l)

-- ---- what is taken
drop-end : {A : Type 0} (xs : List A) (i : ℕ) → length xs ≤ i → drop i xs ≡ []
drop-end [] zero h = refl
drop-end [] (suc i) h = refl
drop-end (x ∷ xs) zero h = absurd (omega arith)
drop-end (x ∷ xs) (suc i) h = drop-end xs i (omega arith)

taken-rest : (f which parent i : ℕ) (es : List Item) → (taken_by f which parent i es).rest ≡ drop (count (taken_by f which parent i es).trees) es
unfolding taken_by count
taken-rest zero which parent i es = refl
taken-rest (suc f) which parent i [] = refl
taken-rest (suc f) which parent i (e ∷ es) =
    go (stands which parent e) (taken_by f children (suc i) (suc i) es) (taken-rest f children (suc i) (suc i) es)
    (λ n xs. taken_by f connections (suc i) (suc i + n) xs) (λ n xs. taken-rest f connections (suc i) (suc i + n) xs)
    (λ n xs. taken_by f which parent (suc i + n) xs) (λ n xs. taken-rest f which parent (suc i + n) xs)
  where
    go : (b : Bool) (kids : Taken) → kids.rest ≡ drop (count kids.trees) es
        → (links : ℕ → List Item → Taken) → ((n : ℕ) (xs : List Item) → (links n xs).rest ≡ drop (count (links n xs).trees) xs)
        → (rest : ℕ → List Item → Taken) → ((n : ℕ) (xs : List Item) → (rest n xs).rest ≡ drop (count (rest n xs).trees) xs)
        → let l : Taken = links (count kids.trees) kids.rest in
        let r : Taken = rest (count kids.trees + count l.trees) l.rest in
        let t : Taken = pick b (taken (tree e.kind e.members kids.trees l.trees r.trees) r.rest) (taken none (e ∷ es)) in
        t.rest ≡ drop (count t.trees) (e ∷ es)
    go false kids h links k rest m = refl
    go true kids h links k rest m =
        let l : Taken = links (count kids.trees) kids.rest in
        let r : Taken = rest (count kids.trees + count l.trees) l.rest in
        m (count kids.trees + count l.trees) l.rest
        ∙ ap (drop (count r.trees)) (k (count kids.trees) kids.rest ∙ ap (drop (count l.trees)) h ∙ drop-drop (count l.trees) (count
        kids.trees) es)
        ∙ drop-drop (count r.trees) (count kids.trees + count l.trees) es
        ∙ (let a : count kids.trees + count l.trees + count r.trees ≡ count kids.trees + (count l.trees + count r.trees) = omega arith in
        ap (λ (n : ℕ). drop n es) a)

taken-cons : (f which parent i : ℕ) (e : Item) (es : List Item) → stands which parent e ≡ true → (taken_by (suc f) which parent i (e ∷ es)).trees
    ≡ (let kids : Taken = taken_by f children (suc i) (suc i) es in
    let links : Taken = taken_by f connections (suc i) (suc i + count kids.trees) kids.rest in
    let rest : Taken = taken_by f which parent (suc i + (count kids.trees + count links.trees)) links.rest in
    tree e.kind e.members kids.trees links.trees rest.trees)
unfolding taken_by
taken-cons f which parent i e es h = rw h refl

taken_not : (f which parent i : ℕ) (e : Item) (es : List Item) → stands which parent e ≡ false → (taken_by (suc f) which parent i (e ∷ es)).trees ≡ none
unfolding taken_by
taken_not f which parent i e es h = rw h refl

module _ (es : List Item) (i : ℕ) (e : Item) (d : drop i es ≡ e ∷ drop (suc i) es) where
  -- the entries after those of trees from a place on
  after : (f which parent j : ℕ) → (taken_by f which parent j (drop j es)).rest ≡ drop (j + count (trees_at es f which parent j)) es
  after f which parent j = taken-rest f which parent j (drop j es) ∙ drop-drop (count (trees_at es f which parent j)) j es

  first_taken : (f which parent : ℕ) → stands which parent e ≡ true → trees_at es (suc f) which parent i
      ≡ tree e.kind e.members (kids_at es f i) (links_at es f i)
      (trees_at es f which parent (suc i + (count (kids_at es f i) + count (links_at es f i))))
  first_taken f which parent h =
      let n : ℕ = suc i + count (kids_at es f i) in
      let m : ℕ = suc i + (count (kids_at es f i) + count (links_at es f i)) in
      let a : suc i + count (kids_at es f i) + count (links_at es f i) ≡ suc i + (count (kids_at es f i) + count (links_at es f i)) = omega arith in
      ap (λ (x : List Item). (taken_by (suc f) which parent i x).trees) d
      ∙ taken-cons f which parent i e (drop (suc i) es) h
      ∙ ap (λ (x : List Item).
      tree e.kind e.members (kids_at es f i) (taken_by f connections (suc i) n x).trees
      (taken_by f which parent (suc i + (count (kids_at es f i) + count (taken_by f connections (suc i) n x).trees)) (taken_by f connections
      (suc i) n x).rest).trees)
      (after f children (suc i) (suc i))
      ∙ ap (λ (x : List Item). tree e.kind e.members (kids_at es f i) (links_at es f i) (taken_by f which parent m x).trees)
      (after f connections (suc i) n ∙ ap (λ (x : ℕ). drop x es) a)

  first-none : (f which parent : ℕ) → stands which parent e ≡ false → trees_at es (suc f) which parent i ≡ none
  first-none f which parent h =
      ap (λ (x : List Item). (taken_by (suc f) which parent i x).trees) d ∙ taken_not f which parent i e (drop (suc i) es) h

end_none : (es : List Item) (i f which parent : ℕ) → length es ≤ i → trees_at es (suc f) which parent i ≡ none
unfolding taken_by
end_none es i f which parent h = ap (λ (x : List Item). (taken_by (suc f) which parent i x).trees) (drop-end es i h)

-- ---- what is legal
module _ (which k above kind : ℕ) (xs : List Content) (kids links rest : Trees) where
  abbrev one : Trees
  one = tree kind xs kids links none

  both-all : (a b c d e f g h i j : Bool) → both a (both b (both c (both d (both e (both f (both g (both h (both i j)))))))) ≡ true
      → (both a (both b (both c (both d (both e (both f (both g (both h (both i true)))))))) ≡ true) × (j ≡ true)
  both-all true true true true true true true true true j x = (refl, x)
  both-all true true true true true true true true false j x = never x
  both-all true true true true true true true false i j x = never x
  both-all true true true true true true false h i j x = never x
  both-all true true true true true false g h i j x = never x
  both-all true true true true false f g h i j x = never x
  both-all true true true false e f g h i j x = never x
  both-all true true false d e f g h i j x = never x
  both-all true false c d e f g h i j x = never x
  both-all false b c d e f g h i j x = never x

  legal-split : legal which k above (tree kind xs kids links rest) ≡ true → (legal which k above one ≡ true) × (legal which k above rest ≡ true)
  unfolding legal
  legal-split h =
      both-all (stands_in which kind) (eqb (length xs) 16) (leb 3 k) (suited kind 0 xs) (complete (required kind) xs) (leb (path_after kind above xs) 16)
      (pick (empty (inner kind xs)) true (leb 5 k))
      (pick (eqb (rule_of kind 2) grammar.kids) (legal children (k - 4) (path_after kind above xs) kids) (is_none kids))
      (pick (eqb (rule_of kind 5) grammar.links) (legal connections (k - 4) (path_after kind above xs) links) (is_none links))
      (legal which k above rest) h

  abbrev path : ℕ
  path = path_after kind above xs

  abbrev Facts : Bool → Bool → Bool → Bool → Bool → Bool → Type 0
  Facts d e f g h i = (d ≡ true) × ((e ≡ true) × ((f ≡ true) × ((g ≡ true) × ((h ≡ true) × (i ≡ true)))))

  both_facts : (a b c d e f g h i j : Bool) → both a (both b (both c (both d (both e (both f (both g (both h (both i j)))))))) ≡ true → Facts d e f g h i
  both_facts true true true true true true true true true j x = (refl, (refl, (refl, (refl, (refl, refl)))))
  both_facts true true true true true true true true false j x = never x
  both_facts true true true true true true true false i j x = never x
  both_facts true true true true true true false h i j x = never x
  both_facts true true true true true false g h i j x = never x
  both_facts true true true true false f g h i j x = never x
  both_facts true true true false e f g h i j x = never x
  both_facts true true false d e f g h i j x = never x
  both_facts true false c d e f g h i j x = never x
  both_facts false b c d e f g h i j x = never x

  under : (b : Bool) (w n p : ℕ) (t : Trees) → pick b (legal w n p t) (is_none t) ≡ true → legal w n p t ≡ true
  unfolding legal
  under true w n p t h = h
  under false w n p none h = refl
  under false w n p (tree kind xs kids links rest) h = never h

  legal-facts : legal which k above (tree kind xs kids links rest) ≡ true
      → Facts (suited kind 0 xs) (complete (required kind) xs) (leb path 16) (pick (empty (inner kind xs)) true (leb 5 k)) (legal children
      (k - 4) path kids)
      (legal connections (k - 4) path links)
  unfolding legal
  legal-facts h =
      let x = both_facts (stands_in which kind) (eqb (length xs) 16) (leb 3 k) (suited kind 0 xs) (complete (required kind) xs) (leb
      (path_after kind above xs) 16)
      (pick (empty (inner kind xs)) true (leb 5 k))
      (pick (eqb (rule_of kind 2) grammar.kids) (legal children (k - 4) (path_after kind above xs) kids) (is_none kids))
      (pick (eqb (rule_of kind 5) grammar.links) (legal connections (k - 4) (path_after kind above xs) links) (is_none links))
      (legal which k above rest) h in (
        x.0,
        (
          x.1.0,
          (
            x.1.1.0,
            (
              x.1.1.1.0,
              (
                under (eqb (rule_of kind 2) grammar.kids) children (k - 4) path kids x.1.1.1.1.0,
                under (eqb (rule_of kind 5) grammar.links) connections (k - 4) path links x.1.1.1.1.1,
              ),
            ),
          ),
        ),
      )

-- ---- a collection, one tree after another
module _ (kind : ℕ) (xs : List Content) (kids links : Trees) where
  abbrev body : List ℕ
  body =
      members_octets written_real 0 (own kind xs)
      ++ (wrapped 1 0 17 (members_octets written_real 0 (inner kind xs)) ++ (wrapped 2 1 4 (trees_octets written_real kids) ++ wrapped 5 0 16
      (trees_octets written_real links)))

  abbrev element : List ℕ
  element = tagged 2 true 0 (tagged 1 true (get_or applications kind 0) body)

  octets-first : (rest : Trees) → trees_octets written_real (tree kind xs kids links rest) ≡ element ++ trees_octets written_real rest
  unfolding trees_octets
  octets-first rest = refl

  octets-alone : trees_octets written_real (tree kind xs kids links none) ≡ element
  unfolding trees_octets
  octets-alone = append-nil element

  octets-one : (rest : Trees) → trees_octets written_real (tree kind xs kids links rest) ≡ trees_octets written_real
      (tree kind xs kids links none) ++ trees_octets written_real rest
  octets-one rest = octets-first rest ∙ ap (λ (x : List ℕ). x ++ trees_octets written_real rest) (sym octets-alone)

module _ (es : List Item) (which parent k above i : ℕ) where
  -- nothing stands there
  none-put : (out : List ℕ) (at : ℕ) → ((f : ℕ) → trees_at es (suc f) which parent i ≡ none)
      → ItemsPut es which parent k above i out at (record { next = i; place = at }) out
  unfolding ItemsPut count trees_octets
  none-put out at n zero h g l = absurd (omega arith)
  none-put out at n (suc f) h g l =
      let a : i + 0 ≡ i = omega arith in
      subst (λ (t : Trees). (i + count t ≡ i) × Puts out at (trees_octets written_real t) at out) (sym (n f)) (a, puts_none out at)

  pub end-put : (out : List ℕ) (at : ℕ) → length es ≤ i → ItemsPut es which parent k above i out at (record { next = i; place = at }) out
  end-put out at h = none-put out at (λ f. end_none es i f which parent h)

  module _ (e : Item) (d : drop i es ≡ e ∷ drop (suc i) es) where
    pub stop-put : (out : List ℕ) (at : ℕ) → stands which parent e ≡ false → ItemsPut es which parent k above i out at (record { next = i; place = at }) out
    stop-put out at h = none-put out at (λ f. first-none es i e d f which parent h)

    pub step-put : (out : List ℕ) (at : ℕ) (q : Placed) (o : List ℕ) (r : Placed) (o' : List ℕ) → i < length es → stands which parent e ≡ true
        → ItemPuts es k above i e.kind e.members out at q o → i < q.next → ItemsPut es which parent k above q.next o q.place r o'
        → ItemsPut es which parent k above i out at r o'
    unfolding ItemsPut ItemPuts one_at count
    step-put out at q o r o' b s m a n zero h g l = absurd (omega arith)
    step-put out at q o r o' b s m a n (suc f) h g l =
        let next : ℕ = suc i + (count (kids_at es f i) + count (links_at es f i)) in
        let t = first_taken es i e d f which parent s in
        let y = legal-split which k above e.kind e.members (kids_at es f i) (links_at es f i) (trees_at es f which parent next) (sym (ap
        (legal which k above) t) ∙ g) in
        let u = octets-one e.kind e.members (kids_at es f i) (links_at es f i) (trees_at es f which parent next) in
        let v : length (trees_octets written_real (trees_at es (suc f) which parent i))
        ≡ length (trees_octets written_real (tree e.kind e.members (kids_at es f i) (links_at es f i) none)) + length (trees_octets written_real
        (trees_at es f which parent next)) =
        ap (λ (x : Trees). length (trees_octets written_real x)) t ∙ ap length u
        ∙ length-append (trees_octets written_real (tree e.kind e.members (kids_at es f i) (links_at es f i) none)) (trees_octets written_real
        (trees_at es f which parent next)) in
        let w = m f which (omega arith) y.0 (omega arith) in
        let z : next ≡ q.next = omega arith in
        let n' : length es - next < f → legal which k above (trees_at es f which parent next) ≡ true → length (trees_octets written_real
        (trees_at es f which parent next)) ≤ 16384
        → (next + count (trees_at es f which parent next) ≡ r.next) × Puts o q.place (trees_octets written_real (trees_at es f which parent next))
        r.place o' =
        subst (λ (x : ℕ). length es - x < f → legal which k above (trees_at es f which parent x) ≡ true → length (trees_octets written_real
        (trees_at es f which parent x)) ≤ 16384
        → (x + count (trees_at es f which parent x) ≡ r.next) × Puts o q.place (trees_octets written_real (trees_at es f which parent x))
        r.place o') (sym z) (n f) in
        let p = n' (omega arith) y.1 (omega arith) in
        subst (λ (x : Trees). (i + count x ≡ r.next) × Puts out at (trees_octets written_real x) r.place o') (sym t) (
          omega arith,
          puts-as out at (trees_octets written_real (tree e.kind e.members (kids_at es f i) (links_at es f i) none) ++ trees_octets written_real
              (trees_at es f which parent next))
              (trees_octets written_real (tree e.kind e.members (kids_at es f i) (links_at es f i) (trees_at es f which parent next))) r.place o' (sym u)
              (puts_then out at (trees_octets written_real (tree e.kind e.members (kids_at es f i) (links_at es f i) none)) q.place o
              (trees_octets written_real (trees_at es f which parent next)) r.place o' w.1 p.1),
        )

  -- ---- in its tags
  trees-empty : (t : Trees) → length (trees_octets written_real t) ≡ 0 → count t ≡ 0
  unfolding trees_octets count
  trees-empty none h = refl
  trees-empty (tree kind xs kids links rest) h =
      absurd
      (filled (element kind xs kids links) (trees_octets written_real rest) (tagged-some 2 true 0 (tagged 1 true (get_or applications kind 0)
      (body kind xs kids links))) h)
    where
      filled : (xs ys : List ℕ) → (length xs ≡ 0 → ⊥) → length (xs ++ ys) ≡ 0 → ⊥
      filled [] ys z h = z refl
      filled (x ∷ xs) ys z h = omega arith

  pub inside-none : (number tag size : ℕ) (out : List ℕ) (at : ℕ) → size ≡ 0
      → InsidePuts es which number tag size parent k above i out at (record { next = i; place = at }) out
  unfolding InsidePuts
  inside-none number tag size out at z f class inside h t l g e b =
      let c = trees-empty (trees_at es f which parent i) (e ∙ z) in
      (omega arith, wrapped-empty number class inside size (trees_octets written_real (trees_at es f which parent i)) out at e z)

  pub inside-put : (number tag size : ℕ) (out : List ℕ) (at q : ℕ) (o : List ℕ) (r : Placed) (o' : List ℕ) → number < 31 → (size ≡ 0 → ⊥)
      → (tagged_size size ≤ 16384 → Puts out at (heads number tag size) q o) → ItemsPut es which parent k above i o q r o'
      → InsidePuts es which number tag size parent k above i out at r o'
  unfolding InsidePuts ItemsPut
  inside-put number tag size out at q o r o' m z p n f class inside h t l g e b =
      let y = n f h g (omega arith) in
      (y.0, wrapped-put number class inside size (trees_octets written_real (trees_at es f which parent i)) out at tag q o r.place o' m l t e z p y.1)

-- ---- a tree
two : (P : ℕ → ℕ → Type 0) {a b a' b' : ℕ} → a ≡ a' → b ≡ b' → P a b → P a' b'
two P {a} {b} {a'} {b'} i j p = subst (λ (x : ℕ). P a' x) j (subst (λ (x : ℕ). P x b) i p)

module _ (es : List Item) (k above i kind : ℕ) (xs : List Content) (f which : ℕ) (l : length es - suc i < f)
    (g : legal which k above (one_at es f i kind xs) ≡ true) (b : length (trees_octets written_real (one_at es f i kind xs)) ≤ 16384) where
  abbrev K : Trees
  K = kids_at es f i

  abbrev L : Trees
  L = links_at es f i

  abbrev WK : List ℕ
  WK = wrapped 2 1 4 (trees_octets written_real K)

  abbrev WL : List ℕ
  WL = wrapped 5 0 16 (trees_octets written_real L)

  abbrev B : List ℕ
  B = body kind xs K L

  abbrev P : ℕ
  P = path_after kind above xs

  facts : Facts which k above kind xs K L none (suited kind 0 xs) (complete (required kind) xs) (leb P 16) (pick (empty (inner kind xs)) true (leb 5 k))
      (legal children (k - 4) P K) (legal connections (k - 4) P L)
  unfolding one_at
  facts = legal-facts which k above kind xs K L none g

  body-length : length B ≡ entry_octets written_real kind xs + (length WK + length WL)
  unfolding entry_octets
  body-length =
      let x = length-append (members_octets written_real 0 (own kind xs)) (wrapped 1 0 17 (members_octets written_real 0 (inner kind xs)) ++ (WK ++ WL)) in
      let y = length-append (wrapped 1 0 17 (members_octets written_real 0 (inner kind xs))) (WK ++ WL) in
      let z = length-append WK WL in
      omega arith

  body-small : length B ≤ 16384
  unfolding one_at
  body-small =
      let x : length (trees_octets written_real (one_at es f i kind xs)) ≡ tagged_size (tagged_size (length B)) =
      ap length (octets-alone kind xs K L) ∙ outer-length 0 1 true (get_or applications kind 0) B (omega arith) (application-short kind) in
      let y = over-tagged (length B) in
      let z = over-tagged (tagged_size (length B)) in
      omega arith

  item-core : (size ks ls : ℕ) → size ≡ entry_octets written_real kind xs → ks ≡ length (trees_octets written_real K)
      → ls ≡ length (trees_octets written_real L) → (me n : ℕ) → me ≡ suc i → n ≡ suc i
      → (p q c held : ℕ) → cap (wrapped_size ks) ≡ p → cap (wrapped_size ls) ≡ q → cap (p + q) ≡ c → cap (size + c) ≡ held
      → (tag : ℕ) → tag ≡ 96 + get_or applications kind 0 → (out : List ℕ) (at x : ℕ) (o₁ : List ℕ)
      → (tagged_size held ≤ 16384 → Puts out at (heads 0 tag held) x o₁)
      → (y : ℕ) (o₂ : List ℕ) → (suited kind 0 xs ≡ true → Puts o₁ x (entry_part kind xs) y o₂)
      → (m : Placed) (o₃ : List ℕ) → InsidePuts es 1 2 100 ks me (k - 4) P n o₂ y m o₃
      → (r : Placed) (o₄ : List ℕ) → InsidePuts es 2 5 48 ls me (k - 4) P m.next o₃ m.place r o₄
      → (i + count (one_at es f i kind xs) ≡ r.next) × Puts out at (trees_octets written_real (one_at es f i kind xs)) r.place o₄
  unfolding InsidePuts entry_part one_at count
  item-core size ks ls se hk hl me n em en p q c held hp hq hc hh tag ht out at x o₁ ho y o₂ hn m o₃ h1 r o₄ h2 =
      let bl = body-length in
      let bs = body-small in
      let kw = wrapped-within 2 1 4 (trees_octets written_real K) (omega arith) (omega arith) in
      let lw = wrapped-within 5 0 16 (trees_octets written_real L) (omega arith) (omega arith) in
      let gk : legal children (k - 4) P K ≡ true = facts.1.1.1.1.0 in
      let gl : legal connections (k - 4) P L ≡ true = facts.1.1.1.1.1 in
      let sk : ks ≤ 16384 = omega arith in
      let sl : ls ≤ 16384 = omega arith in
      let ll : length es - (suc i + count K) < f = omega arith in
      let i1 = two (λ a u. InsidePuts es 1 2 100 ks a (k - 4) P u o₂ y m o₃) em en h1 f 1 4 l refl (omega arith) gk (sym hk) sk in
      let i2 = two (λ a u. InsidePuts es 2 5 48 ls a (k - 4) P u o₃ m.place r o₄) em (sym i1.0) h2 f 0 16 ll refl (omega arith) gl (sym hl) sl in
      let wk : wrapped_size ks ≡ length WK =
      ap wrapped_size hk ∙ sym (wrapped-length 2 1 4 (trees_octets written_real K) (omega arith) (omega arith)) in
      let wl : wrapped_size ls ≡ length WL =
      ap wrapped_size hl ∙ sym (wrapped-length 5 0 16 (trees_octets written_real L) (omega arith) (omega arith)) in
      let pk : p ≡ length WK = sym hp ∙ ap cap wk ∙ cap-in (length WK) (omega arith) in
      let ql : q ≡ length WL = sym hq ∙ ap cap wl ∙ cap-in (length WL) (omega arith) in
      let ci : c ≡ p + q = sym hc ∙ cap-in (p + q) (omega arith) in
      let hi : held ≡ size + c = sym hh ∙ cap-in (size + c) (omega arith) in
      let hb : length B ≡ held = omega arith in
      let ti : tag ≡ 1 * 64 + 32 + get_or applications kind 0 = omega arith in
      let mine : List ℕ = members_octets written_real 0 (own kind xs) in
      let held_in : List ℕ = wrapped 1 0 17 (members_octets written_real 0 (inner kind xs)) in
      let wb : Puts o₁ x B r.place o₄ =
      puts-as o₁ x ((mine ++ held_in) ++ (WK ++ WL)) B r.place o₄ (append_assoc mine held_in (WK ++ WL))
      (puts_then o₁ x (mine ++ held_in) y o₂ (WK ++ WL) r.place o₄ (hn facts.0) (puts_then o₂ y WK m.place o₃ WL r.place o₄ i1.1 i2.1)) in
      let n1 = i1.0 in
      let n2 = i2.0 in (
        omega arith,
        puts-as out at (element kind xs K L) (trees_octets written_real (tree kind xs K L none)) r.place o₄ (sym (octets-alone kind xs K L))
            (outer-put out at 1 true (get_or applications kind 0) tag held B x o₁ r.place o₄ (application-short kind) ti hb 0 (omega arith) ho wb),
      )

-- ---- the code's answers
pub item-put : (s : List ℕ) (rows : Rows) (cnt i kind w : ℕ) → kind ≡ kind_at rows i → Keeps written_real s rows cnt i w
    → (size within ks ls : ℕ) → Packed size within ks ls w → (me n : ℕ) → me ≡ suc i → n ≡ suc i
    → (p q c held : ℕ) → cap (wrapped_size ks) ≡ p → cap (wrapped_size ls) ≡ q → cap (p + q) ≡ c → cap (size + c) ≡ held
    → (tag : ℕ) → tag ≡ 96 + get_or applications kind 0 → (out : List ℕ) (at x : ℕ) (o₁ : List ℕ)
    → (tagged_size held ≤ 16384 → Puts out at (heads 0 tag held) x o₁)
    → (y : ℕ) (o₂ : List ℕ) → EntryPuts kind (members_at s rows i) within o₁ x y o₂
    → (m : Placed) (o₃ : List ℕ) → ((k above : ℕ) → InsidePuts (items_in s rows cnt) 1 2 100 ks me k above n o₂ y m o₃)
    → (r : Placed) (o₄ : List ℕ) → ((k above : ℕ) → InsidePuts (items_in s rows cnt) 2 5 48 ls me k above m.next o₃ m.place r o₄)
    → (k above : ℕ) → ItemPuts (items_in s rows cnt) k above i (kind_at rows i) (members_at s rows i) out at r o₄
unfolding ItemPuts
item-put s rows cnt i kind w ek kp size within ks ls pa me n em en p q c held hp hq hc hh tag ht out at x o₁ ho y o₂ hn m o₃ h1 r o₄ h2 k above
    f which l g b =
    let xs : List Content = members_at s rows i in
    let path : ℕ = path_after (kind_at rows i) above (members_at s rows i) in
    item-core (items_in s rows cnt) k above i (kind_at rows i) xs f which l g b size ks ls (sym pa.0 ∙ kp.size)
    (sym pa.1.1.0 ∙ kp.kids f l) (sym pa.1.1.1 ∙ kp.links f l) me n em en p q c held hp hq hc hh tag
    (ht ∙ ap (λ (z : ℕ). 96 + get_or applications z 0) ek) out at x o₁ ho y o₂
    (λ u. subst (λ (z : ℕ). Puts o₁ x (entry_part z xs) y o₂) ek
    (hn (ap (λ (z : ℕ). suited z 0 xs) ek ∙ u)
    (sym pa.1.0 ∙ kp.inside ∙ ap (λ (z : ℕ). length (members_octets written_real 0 (inner z xs))) (sym ek))))
    m o₃ (h1 (k - 4) path) r o₄ (h2 (k - 4) path)

module _ (s : List ℕ) (rows : Rows) (n : ℕ) (h : n ≤ length rows) (which parent k above i : ℕ) where
  abbrev row : List ℕ
  row = get_or rows i []

  abbrev es : List Item
  es = items_in s rows n

  pub rows_end : (out : List ℕ) (at : ℕ) → n ≤ i → ItemsPut es which parent k above i out at (record { next = i; place = at }) out
  rows_end out at l = let e = items-length s rows n h in end-put es which parent k above i out at (omega arith)

  module _ (l : i < n) (w : ℕ) (e : w ≡ get_or row 1 0) where
    pub rows-parent : (out : List ℕ) (at : ℕ) → (w ≡ parent → ⊥) → ItemsPut es which parent k above i out at (record { next = i; place = at }) out
    unfolding stands
    rows-parent out at z =
        let q : get_or row 1 0 ≡ parent → ⊥ = λ y. z (e ∙ y) in
        stop-put es which parent k above i (item_of s (entry_of row)) (item-at s rows n h i l) out at (simp (ne_eqb _ _ q))

    module _ (v : ℕ) (d : v ≡ get_or row 0 0) where
      pub rows-kind : (out : List ℕ) (at : ℕ) → w ≡ parent → stands_in which v ≡ false → ItemsPut es which parent k above i out at
          (record { next = i; place = at }) out
      unfolding stands
      rows-kind out at z y =
          stop-put es which parent k above i (item_of s (entry_of row)) (item-at s rows n h i l) out at
          (simp (eq-eqb _ _ (sym e ∙ z)) (ap (stands_in which) (sym d) ∙ y))

      pub rows_step : (out : List ℕ) (at : ℕ) (q : Placed) (o : List ℕ) → w ≡ parent → stands_in which v ≡ true
          → ItemPuts es k above i (get_or row 0 0) (contents_of s (cells_from 16 0 row)) out at q o → i < q.next
          → (r : Placed) (o' : List ℕ) → ItemsPut es which parent k above q.next o q.place r o' → ItemsPut es which parent k above i out at r o'
      unfolding stands
      rows_step out at q o z y m a r o' g =
          let x = items-length s rows n h in
          let st : stands which parent (item_of s (entry_of row)) ≡ true = simp (eq-eqb _ _ (sym e ∙ z)) (ap (stands_in which) (sym d) ∙ y) in
          step-put es which parent k above i (item_of s (entry_of row)) (item-at s rows n h i l) out at q o r o' (omega arith) st m a g
