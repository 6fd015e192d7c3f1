-- The items of a collection that are read are the entries of legal trees, whose least message has no more octets.
use Rattle.std.specs.Prelude.{Result, Ok, Err}
use Rattle.ber_containers.specs.declared.No.{No}
use Prim.Native.Nat.{ℕ, zero, suc, ◌+◌, ◌-◌, ◌<◌, ◌≤◌}
use mathlib.Core.Path.{◌≡◌, refl, sym, ap, ◌∙◌}
use mathlib.Core.List.{List, [], ◌∷◌, ◌++◌, append_assoc}
use mathlib.Core.Bool.{Bool, true}
use mathlib.Core.Logic.{⊎_elim}
use native.Mathlib.Omega.{arith}
use borrow.Author.Tests.{eq-eqb, le-leb}
use lib.ListN.{length, get_or, length-append}
use lib.Dec.{leb, eqb}
use Rattle.base_choices.specs.Choices.{pick}
use Rattle.base_choices.proofs.Laws.{pick-by, pick_true}
use Rattle.ber_integers.proofs.Radix.{Below}
use Rattle.ber_containers.specs.declared.Open.{Open}
use Rattle.ber_containers.specs.declared.Tag.{Tag}
use Rattle.glow_rows.specs.Entry.{Entries, blank, put_cell}
use Rattle.glow_grammar.specs.Grammar.{rule_of, children, connections, applications}
use Rattle.glow_grammar.specs.Grammar as grammar
use Rattle.glow_steps.specs.Members.{member_at, item_at}
use Rattle.glow_walk.specs.Tree.{Out, then_closed, members_by, items_by}
use Rattle.glow_trees.specs.Content.{Content, Item, item, item_of, items_of, contents_of}
use Rattle.glow_trees.specs.Trees.{Trees, none, tree, count, flat, stands_in}
use Rattle.glow_trees.specs.Legal.{path_after, inner, empty, is_none, legal}
use Rattle.glow_trees.specs.Written.{tagged, members_octets, own, wrapped, trees_octets}
use Rattle.trees_accepted.proofs.Tables.{Kind, application-short, stands-kind}
use Rattle.trees_accepted.proofs.Lists.{size_from, append-none, items-append, items-length, flat-length}
use Rattle.trees_accepted.proofs.Sizes.{around, outer-size}
use Rattle.trees_accepted.proofs.Spans.{Closes}
use Rattle.trees_accepted.proofs.Leaves.{RealsLeast}
use Rattle.trees_accepted.proofs.Turns.{Inside, member-tells, item-tells}
use Rattle.trees_accepted.proofs.Walks.{AnswerTell, OutTell, then-tells, member-walks, item-walks}
use Rattle.trees_accepted.proofs.Sets.{Filled, set_walks}
use Rattle.trees_accepted.proofs.Elements.{ItemsRead, body_size, kids_size, links_size, Shape, Reading, Read}
use Rattle.trees_accepted.proofs.Elements.{over-reading, leaf-reading, op, low, high, contents-filling, contents-reading, items-reading}
use Rattle.trees_accepted.proofs.Elements.{done-reading, begin-reading}

pub tell-map : (C D : ℕ → Entries → Type 0) → ((q : ℕ) (es : Entries) → C q es → D q es) → (x : Out) → OutTell C x → OutTell D x
tell-map C D f x = go x.answer x.entries
  where
    go : (a : Result ℕ No) (es : Entries) → AnswerTell C a es → AnswerTell D a es
    go (Ok q) es c = f q es c
    go (Err e) es c = tt

module _ (s : List ℕ) (octets : Below 256 s) (short : length s ≤ 16384) (least : ℕ → List ℕ) (reals : RealsLeast least) where
  -- the octets of an element and of what comes after it
  tree-size : (kind : ℕ) → Kind kind → (xs : List Content) (kids links rest : Trees)
      → length (trees_octets least (tree kind xs kids links rest))
      ≡ around (around (size_from least 0 (own kind xs)
      + (body_size s octets short least reals kind xs + (kids_size s octets short least reals kids + links_size s octets short least reals links))))
      + length (trees_octets least rest)
  unfolding trees_octets
  tree-size kind kk xs kids links rest =
      let a = members_octets least 0 (own kind xs) in
      let b = wrapped 1 0 17 (members_octets least 0 (inner kind xs)) in
      let c = wrapped 2 1 4 (trees_octets least kids) in
      let d = wrapped 5 0 16 (trees_octets least links) in
      let e : length (a ++ (b ++ (c ++ d))) ≡ length a + (length b + (length c + length d)) =
      length-append a (b ++ (c ++ d)) ∙ ap (λ (n : ℕ). length a + n) (length-append b (c ++ d) ∙ ap (λ (n : ℕ). length b + n) (length-append c d)) in
      let f = outer-size 0 1 true (get_or applications kind 0) (a ++ (b ++ (c ++ d))) (omega arith) (application-short kind kk) in
      length-append (tagged 2 true 0 (tagged 1 true (get_or applications kind 0) (a ++ (b ++ (c ++ d))))) (trees_octets least rest)
      ∙ ap (λ (n : ℕ). n + length (trees_octets least rest)) (f ∙ ap (λ (n : ℕ). around (around n)) e)

  -- an element, and the items after it
  module _ {k : ℕ} {o : Open} {which parent above p : ℕ} {es : Entries} {kind : ℕ} {outer : Open} {g : Tag} {j : ℕ} (kk : Kind kind)
      (stands : stands_in which kind ≡ true) (inside : Inside s octets short least reals p k outer g j) {q n : ℕ} {es₁ : Entries}
      (w : Read s octets short least reals kind kk parent above es (j - 1) g.inner g.start q es₁) (closes : Closes outer q n)
      {q₂ : ℕ} {es₂ : Entries} (r : ItemsRead s octets short least reals k o which parent above n es₁ q₂ es₂) where
    abbrev sh : Shape s octets short least reals kind kk parent above es (j - 1) g.inner g.start es₁
    sh = w.here

    abbrev xs : List Content
    xs = sh.members

    post-length : length sh.post ≡ count sh.kids + count sh.links
    post-length =
        let a = length-append (flat (suc (length es)) (suc (length es)) sh.kids)
        (flat (suc (length es)) (suc (length es) + count sh.kids) sh.links) in
        let b = flat-length (suc (length es)) (suc (length es)) sh.kids in
        let c = flat-length (suc (length es)) (suc (length es) + count sh.kids) sh.links in
        let d = ap length sh.posts in
        let e = items-length s sh.post in
        omega arith

    es₁-length : length es₁ ≡ suc (length es) + (count sh.kids + count sh.links)
    es₁-length =
        let a = ap length sh.is in
        let b = length-append es (sh.entry ∷ sh.post) in
        omega (arith, post-length)

    join-flats : items_of s (sh.entry ∷ (sh.post ++ r.more)) ≡ flat parent (length es) (tree kind xs sh.kids sh.links r.trees)
    unfolding items_of flat
    join-flats =
        let a = flat (suc (length es)) (suc (length es)) sh.kids in
        let b = flat (suc (length es)) (suc (length es) + count sh.kids) sh.links in
        ap (λ (t : List Item). item_of s sh.entry ∷ t)
        (items-append s sh.post r.more
        ∙ ap (λ (t : List Item). t ++ items_of s r.more) sh.posts
        ∙ ap (λ (t : List Item). (a ++ b) ++ t) (r.flats ∙ ap (λ (i : ℕ). flat parent i r.trees) es₁-length)
        ∙ append_assoc a b (flat parent (suc (length es) + (count sh.kids + count sh.links)) r.trees))
        ∙ ap (λ (t : Item). t ∷ (a ++ (b ++ flat parent (suc (length es) + (count sh.kids + count sh.links)) r.trees)))
        (ap (λ (i : ℕ). item i sh.entry.parent (contents_of s sh.entry.cells)) sh.kinds
        ∙ ap (λ (i : ℕ). item kind i (contents_of s sh.entry.cells)) sh.parents
        ∙ ap (item kind parent) sh.cells)

    join-legal : legal which k above (tree kind xs sh.kids sh.links r.trees) ≡ true
    unfolding legal
    join-legal =
        let u = inside.counts in
        let v = inside.allowed in
        let d = w.deep in
        let three : 3 ≤ k = omega arith in
        let z : j - 1 - 2 ≡ k - 4 = omega arith in
        let c1 = stands in
        let c2 : eqb (length xs) 16 ≡ true = eq-eqb _ _ sh.long in
        let c3 : leb 3 k ≡ true = le-leb _ _ three in
        let c6 : leb (path_after kind above xs) 16 ≡ true = le-leb _ _ w.few in
        let c7 : pick (empty (inner kind xs)) true (leb 5 k) ≡ true =
        ⊎_elim (λ (y : empty (inner kind xs) ≡ true). pick_true (empty (inner kind xs)) true (leb 5 k) y)
        (λ (y : 2 < j - 1). let five : 5 ≤ k = omega arith in pick-by (λ (b : Bool). b ≡ true) (empty (inner kind xs)) (λ f. refl) (λ f. le-leb 5 k five))
        sh.inside in
        let c8 : pick (eqb (rule_of kind 2) 14) (legal children (k - 4) (path_after kind above xs) sh.kids) (is_none sh.kids) ≡ true =
        ap (λ (i : ℕ). pick (eqb (rule_of kind 2) 14) (legal children i (path_after kind above xs) sh.kids) (is_none sh.kids)) (sym z) ∙ w.kids-legal in
        let c9 : pick (eqb (rule_of kind 5) 15) (legal connections (k - 4) (path_after kind above xs) sh.links) (is_none sh.links) ≡ true =
        ap (λ (i : ℕ). pick (eqb (rule_of kind 5) 15) (legal connections i (path_after kind above xs) sh.links) (is_none sh.links)) (sym z)
        ∙ w.links-legal in
        rw (c1, c2, c3, sh.suit, w.full, c6, c7, c8, c9) r.legals

    join : ItemsRead s octets short least reals k o which parent above p es q₂ es₂
    join =
        let t = tree-size kind kk xs sh.kids sh.links r.trees in
        let m = size_from least 0 (own kind xs)
        + (body_size s octets short least reals kind xs
        + (kids_size s octets short least reals sh.kids + links_size s octets short least reals sh.links)) in
        let took : p + around (around m) ≤ n = inside.holds m w.last q n w.size w.closes w.ends closes in
        record {
          trees = tree kind xs sh.kids sh.links r.trees;
          more = sh.entry ∷ (sh.post ++ r.more);
          adds = r.adds ∙ ap (λ (l : Entries). l ++ r.more) sh.is ∙ append_assoc es (sh.entry ∷ sh.post) r.more;
          flats = join-flats;
          legals = join-legal;
          last = r.last;
          size = omega (arith, r.size);
          closes = r.closes;
          ends = r.ends;
        }

  -- no item is left
  none_left : {k : ℕ} {o : Open} {which parent above p : ℕ} {es : Entries} {next : ℕ} → Closes o p next → next ≤ length s
      → ItemsRead s octets short least reals k o which parent above p es next es
  unfolding items_of flat legal trees_octets
  none_left {k} {o} {which} {parent} {above} {p} {es} c l =
      record {
        trees = none;
        more = [];
        adds = sym (append-none es);
        flats = refl;
        legals = refl;
        last = p;
        size = omega arith;
        closes = c;
        ends = l;
      }

  abbrev MembersClaim : ℕ → Type 0
  MembersClaim f = (kind : ℕ) (kk : Kind kind) (parent above₀ : ℕ) (base : Entries) (k : ℕ) (o : Open) (start above p before : ℕ) (es : Entries)
      → Reading s octets short least reals kind kk parent above₀ base k o start before above p es
      → OutTell (Read s octets short least reals kind kk parent above₀ base k o start) (members_by f s k o kind (length base) above p before es)

  abbrev ItemsClaim : ℕ → Type 0
  ItemsClaim f = (k : ℕ) (o : Open) (which parent above p : ℕ) (es : Entries) → p ≤ length s → above ≤ 16
      → OutTell (ItemsRead s octets short least reals k o which parent above p es) (items_by f s k o which parent above p es)

  module _ (f : ℕ) (m : MembersClaim f) (i : ItemsClaim f) where
    members_step : MembersClaim (suc f)
    unfolding members_by
    members_step kind kk parent above₀ base k o start above p before es h =
        let D = Read s octets short least reals kind kk parent above₀ base k o start in
        member-walks s octets short least reals p k o D es kind above before (member_at s p o k kind above before)
        (λ before' next. members_by f s k o kind (length base) above next before' es)
        (λ before' c v above' next. members_by f s k o kind (length base) above' next before' (put_cell es (length base) c v))
        (λ before' outer g j.
        then_closed s outer j (members_by f s (j - 1) g.inner (grammar.contents_of kind) (length base) above g.start 0 es)
        (λ next es'. members_by f s k o kind (length base) above next before' es'))
        (λ before' which outer g j.
        then_closed s outer j (items_by f s (j - 1) g.inner which (length base + 1) above g.start es)
        (λ next es'. members_by f s k o kind (length base) above next before' es'))
        (member-tells s octets short least reals p k kind above before h.ends o)
        (λ next c l d. done-reading s octets short least reals kind kk parent above₀ base k o start h c l d)
        (λ after next r. m kind kk parent above₀ base k o start above next after es
        (over-reading s octets short least reals kind kk parent above₀ base k o start h r))
        (λ after c v path next r. m kind kk parent above₀ base k o start path next after (put_cell es (length base) c v)
        (leaf-reading s octets short least reals kind kk parent above₀ base k o start h r))
        (λ after outer g j r e.
        let lo = low s octets short least reals kind kk parent above₀ base k o start h r e in
        let hi = high s octets short least reals kind kk parent above₀ base k o start h r e in
        let x = op s octets short least reals kind kk parent above₀ base k o start h r e in
        then-tells s octets outer j
        (Filled s octets short least reals kind lo hi base h.here.post parent x.first (j - 1) g.inner g.start) D
        (members_by f s (j - 1) g.inner (grammar.contents_of kind) (length base) above g.start 0 es)
        (λ next es'. members_by f s k o kind (length base) above next after es')
        (set_walks s octets short least reals kind lo hi base h.here.post parent x.first (j - 1) g.inner g.start f above g.start 0 es
        (contents-filling s octets short least reals kind kk parent above₀ base k o start h r e))
        (λ q es' c. c.ends)
        (λ q n es' c d l. m kind kk parent above₀ base k o start above n after es'
        (contents-reading s octets short least reals kind kk parent above₀ base k o start h r e c d l)))
        (λ after which outer g j r e w.
        then-tells s octets outer j (ItemsRead s octets short least reals (j - 1) g.inner which (length base + 1) above g.start es) D
        (items_by f s (j - 1) g.inner which (length base + 1) above g.start es)
        (λ next es'. members_by f s k o kind (length base) above next after es')
        (i (j - 1) g.inner which (length base + 1) above g.start es r.inner.starts h.few)
        (λ q es' c. c.ends)
        (λ q n es' c d l. m kind kk parent above₀ base k o start above n after es'
        (items-reading s octets short least reals kind kk parent above₀ base k o start h r e w c d l)))

    items-step : ItemsClaim (suc f)
    unfolding items_by
    items-step k o which parent above p es h few =
        let D = ItemsRead s octets short least reals k o which parent above p es in
        item-walks s octets short least reals p k o D es which (item_at s p o k which)
        (λ kind outer g j.
        then_closed s outer j (members_by f s (j - 1) g.inner kind (length es) above g.start 0 (es ++ (blank kind parent ∷ [])))
        (λ next es'. items_by f s k o which parent above next es'))
        (item-tells s octets short least reals p k which h o)
        (λ next c l. none_left c l)
        (λ kind outer g j stands inside.
        let kk = stands-kind which kind stands in
        then-tells s octets outer j (Read s octets short least reals kind kk parent above es (j - 1) g.inner g.start) D
        (members_by f s (j - 1) g.inner kind (length es) above g.start 0 (es ++ (blank kind parent ∷ [])))
        (λ next es'. items_by f s k o which parent above next es')
        (m kind kk parent above es (j - 1) g.inner g.start above g.start 0 (es ++ (blank kind parent ∷ []))
        (begin-reading s octets short least reals kind kk parent above es (j - 1) g.inner g.start few inside.starts))
        (λ q es' c. c.ends)
        (λ q n es₁ w d l.
        tell-map (ItemsRead s octets short least reals k o which parent above n es₁) D (λ q₂ es₂ r. join kk stands inside w d r)
        (items_by f s k o which parent above n es₁) (i k o which parent above n es₁ l few)))

  members-zero : MembersClaim zero
  unfolding members_by
  members-zero kind kk parent above₀ base k o start above p before es h = tt

  items-zero : ItemsClaim zero
  unfolding items_by
  items-zero k o which parent above p es h few = tt

  both-claims : (f : ℕ) → MembersClaim f × ItemsClaim f
  both-claims zero = (members-zero, items-zero)
  both-claims (suc f) = let r = both-claims f in (members_step f r.0 r.1, items-step f r.0 r.1)

  -- the items of a collection: legal trees, and no octets less
  pub items-walk : (f : ℕ) → ItemsClaim f
  items-walk f = (both-claims f).1
