-- An element, a connection or a stream entry while its members are read: one lemma for each way on and for its end.
use Prim.Native.Nat.{ℕ, zero, suc, ◌+◌, ◌-◌, ◌<◌, ◌≤◌}
use mathlib.Core.Path.{◌≡◌, refl, sym, ap, subst, ◌∙◌}
use mathlib.Core.List.{List, [], ◌∷◌, ◌++◌, append_assoc}
use mathlib.Core.Bool.{Bool, true, false}
use mathlib.Core.Logic.{◌⊎◌, inl, inr, ⊎_elim}
use native.Mathlib.Omega.{arith}
use borrow.Author.Tests.{eq-eqb, eqb-true, eqb-false}
use lib.ListN.{length, get_or, set, length-set, length-append}
use lib.Dec.{eqb}
use Rattle.base_choices.specs.Choices.{pick}
use Rattle.base_choices.proofs.Laws.{pick-by, pick_true, both_left, both_right, both-make}
use Rattle.ber_integers.proofs.Radix.{Below, lt-or-le, none_or_some}
use Rattle.ber_containers.specs.declared.Open.{Open}
use Rattle.ber_containers.specs.declared.Tag.{Tag}
use Rattle.glow_rows.specs.declared.Cell.{Cell}
use Rattle.glow_rows.specs.Entry.{Entry, Entries, blank, blanks, with_cell, put_cell}
use Rattle.glow_grammar.specs.Grammar.{rule_of, required, collection_of, children, connections}
use Rattle.glow_grammar.specs.Grammar as grammar
use Rattle.glow_steps.specs.Members.{due}
use Rattle.glow_trees.specs.Content.{Content, nothing, content_of, contents_of, Item, items_of}
use Rattle.glow_trees.specs.Trees.{Trees, none, count, flat}
use Rattle.glow_trees.specs.Legal.{suits, suited, present, complete, path_after, path_of, rule_at, inner, empty, is_none, legal}
use Rattle.glow_trees.specs.Written.{members_octets, own, wrapped, trees_octets}
use Rattle.trees_accepted.proofs.Tables.{home_of, Kind, plain_at, body_at, kids-at, links-at, rules-end, required-some}
use Rattle.trees_accepted.proofs.Lists.{get_set, get_other, append-none, suited-set, size_from, complete-by, with-contents, with-kind, put-at}
use Rattle.trees_accepted.proofs.Lists.{nothings, blank-contents, nothings-suited, nothings-get, nothings-length, nothings-empty, nothings-size}
use Rattle.trees_accepted.proofs.Lists.{items-append, items-length, flat-length}
use Rattle.trees_accepted.proofs.Sizes.{around, wrapped-size}
use Rattle.trees_accepted.proofs.Spans.{Closes}
use Rattle.trees_accepted.proofs.Leaves.{RealsLeast}
use Rattle.trees_accepted.proofs.Turns.{LeafRead, OverRead, InnerRead}
use Rattle.trees_accepted.proofs.Sets.{Cells, Filling, Filled}
use Rattle.trees_accepted.proofs.Parts.{path-still, after_tail, after_none, after-set, after-put, own_first, inner-all, inner-set, own-set}
use Rattle.trees_accepted.proofs.Parts.{blank-inner, blank-own, blank-body}
use Rattle.trees_accepted.proofs.Parts.{home-inner, home-low, all_nothing, seq-after, seq-other, seq-column, seq-done, seq-order, came, came-all, begun}

module _ (s : List ℕ) (octets : Below 256 s) (short : length s ≤ 16384) (least : ℕ → List ℕ) (reals : RealsLeast least) where
  -- what the items of a collection give
  pub record ItemsRead (k : ℕ) (o : Open) (which parent above p : ℕ) (es : Entries) (q : ℕ) (es' : Entries) : Type 0 where
    pub trees : Trees
    pub more : Entries
    pub adds : es' ≡ es ++ more
    pub flats : items_of s more ≡ flat parent (length es) trees
    pub legals : legal which k above trees ≡ true
    pub last : ℕ
    pub size : p + length (trees_octets least trees) ≤ last
    pub closes : Closes o last q
    pub ends : q ≤ length s

  -- what an element holds takes so many octets
  abbrev pub body_size : ℕ → List Content → ℕ
  body_size kind xs = length (wrapped 1 0 17 (members_octets least 0 (inner kind xs)))

  abbrev pub kids_size : Trees → ℕ
  kids_size t = length (wrapped 2 1 4 (trees_octets least t))

  abbrev pub links_size : Trees → ℕ
  links_size t = length (wrapped 5 0 16 (trees_octets least t))

  module _ (kind : ℕ) (kk : Kind kind) (parent above₀ : ℕ) (base : Entries) (k : ℕ) (o : Open) (start : ℕ) where
    abbrev me : ℕ
    me = suc (length base)

    -- the entry, its cells, and the entries behind it: its children's, then its connections'
    pub record Shape (es : Entries) : Type 0 where
      pub entry : Entry
      pub post : Entries
      pub members : List Content
      pub kids : Trees
      pub links : Trees
      pub is : es ≡ base ++ (entry ∷ post)
      pub kinds : entry.kind ≡ kind
      pub parents : entry.parent ≡ parent
      pub cells : contents_of s entry.cells ≡ members
      pub posts : items_of s post ≡ flat (suc (length base)) (suc (length base)) kids
          ++ flat (suc (length base)) (suc (length base) + count kids) links
      pub long : length members ≡ 16
      pub suit : suited kind 0 members ≡ true
      pub inside : (empty (inner kind members) ≡ true) ⊎ (2 < k)

    pub record Reading (before above p : ℕ) (es : Entries) : Type 0 where
      pub here : Shape es
      pub gaps : (c : ℕ) → before ≤ home_of kind c → get_or here.members c nothing ≡ nothing
      pub there : (i : ℕ) → i < before → i < required kind → present (get_or here.members i nothing) ≡ true
      pub paths : above ≡ path_after kind above₀ here.members
      pub few : above ≤ 16
      pub deep : 0 < before → 0 < k
      pub no_kids : before ≤ 2 → here.kids ≡ none
      pub no-links : before ≤ 5 → here.links ≡ none
      pub kids-legal : legal children (k - 2) above here.kids ≡ true
      pub links-legal : legal connections (k - 2) above here.links ≡ true
      pub kids-rule : (here.kids ≡ none) ⊎ (rule_of kind 2 ≡ 14)
      pub links-rule : (here.links ≡ none) ⊎ (rule_of kind 5 ≡ 15)
      pub size : start + (size_from least 0 (own kind here.members)
          + (body_size kind here.members + (kids_size here.kids + links_size here.links))) ≤ p
      pub ends : p ≤ length s

    pub record Read (q : ℕ) (es : Entries) : Type 0 where
      pub here : Shape es
      pub full : complete (required kind) here.members ≡ true
      pub few : path_after kind above₀ here.members ≤ 16
      pub deep : 0 < k
      pub kids-legal : pick (eqb (rule_of kind 2) 14) (legal children (k - 2) (path_after kind above₀ here.members) here.kids) (is_none here.kids) ≡ true
      pub links-legal : pick (eqb (rule_of kind 5) 15) (legal connections (k - 2) (path_after kind above₀ here.members) here.links)
          (is_none here.links) ≡ true
      pub last : ℕ
      pub size : start + (size_from least 0 (own kind here.members)
          + (body_size kind here.members + (kids_size here.kids + links_size here.links))) ≤ last
      pub closes : Closes o last q
      pub ends : q ≤ length s

    legal-none : (which j above : ℕ) (t : Trees) → t ≡ none → legal which j above t ≡ true
    unfolding legal
    legal-none which j above t e = ap (legal which j above) e

    -- a member passed over
    pub over-reading : {before above p after next : ℕ} {es : Entries} → Reading before above p es
        → OverRead s octets short least reals p k kind above before after next → Reading after above next es
    over-reading {before} {above} {p} {after} {next} {es} h r =
        let e : after ≡ r.n + 1 = r.afters ∙ seq-other kind kk before r.n in
        let b : before ≤ r.n = (seq-order kind kk before r.n r.order).0 in
        record {
          here = h.here;
          gaps = λ c l. h.gaps c (omega arith);
          there = λ i l m. h.there i (came-all kind kk before r.n r.order (inl r.rule) i (omega arith) m) m;
          paths = h.paths;
          few = h.few;
          deep = λ l. h.deep (begun kind kk before r.n r.order (inl r.rule));
          no_kids = λ l. h.no_kids (omega arith);
          no-links = λ l. h.no-links (omega arith);
          kids-legal = h.kids-legal;
          links-legal = h.links-legal;
          kids-rule = h.kids-rule;
          links-rule = h.links-rule;
          size = omega (arith, h.size, r.later);
          ends = r.ends;
        }

    -- a value kept
    put-shape : {es : Entries} (h : Shape es) (n : ℕ) (v : Cell) → n < 16 → suits (rule_at kind n) (content_of s v) ≡ true
        → (grammar.contents_of kind ≡ 0) ⊎ (n ≡ 0) → Shape (put_cell es (length base) n v)
    put-shape {es} h n v l a alone =
        let w = with-kind h.entry n v l in
        let z : 0 + n ≡ n = omega arith in
        let i : inner kind (set h.members n (content_of s v)) ≡ inner kind h.members = inner-set kind n h.members (content_of s v) alone in
        record {
          entry = with_cell h.entry n v;
          post = h.post;
          members = set h.members n (content_of s v);
          kids = h.kids;
          links = h.links;
          is = ap (λ (t : Entries). put_cell t (length base) n v) h.is ∙ put-at base h.entry h.post n v;
          kinds = w.0 ∙ h.kinds;
          parents = w.1 ∙ h.parents;
          cells = with-contents s h.entry n v l ∙ ap (λ (t : List Content). set t n (content_of s v)) h.cells;
          posts = h.posts;
          long = length-set h.members n (content_of s v) ∙ h.long;
          suit = suited-set kind 0 h.members n (content_of s v) h.suit (ap (λ (m : ℕ). suits (rule_at kind m) (content_of s v)) z ∙ a);
          inside = ⊎_elim (λ (y : empty (inner kind h.members) ≡ true). inl (ap empty i ∙ y)) (λ (y : 2 < k). inr y) h.inside;
        }

    -- the path after a value
    leaf-path : (above n : ℕ) (xs : List Content) (x : Content) {path : ℕ} → length xs ≡ 16 → above ≡ path_after kind above₀ xs
        → get_or xs n nothing ≡ nothing → path ≡ path_of (rule_of kind n) above (x ∷ []) → rule_at kind n ≡ rule_of kind n
        → (0 < n → (rule_of kind n ≡ 5 → ⊥) × (rule_of kind n ≡ 6 → ⊥))
        → (path ≡ path_after kind above₀ (set xs n x)) × ((0 < n) → path ≡ above)
    leaf-path above zero xs x l e g p r d =
        let a : above ≡ above₀ = e ∙ after_none kind above₀ xs g in
        let m : 0 < length xs = omega arith in (
          p
              ∙ ap (λ (b : ℕ). path_of (rule_of kind 0) b (x ∷ [])) a
              ∙ ap (λ (w : ℕ). path_of w above₀ (x ∷ [])) (sym r)
              ∙ sym (after-put kind above₀ xs x m),
          λ z. absurd (omega arith),
        )
    leaf-path above (suc n) xs x l e g p r d =
        let z : 0 < suc n = omega arith in
        let q = p ∙ path-still (rule_of kind (suc n)) above x [] (d z).0 (d z).1 in
        (q ∙ e ∙ sym (after-set kind above₀ (suc n) xs x z), λ y. q)

    pub leaf-reading : {before above p after c : ℕ} {v : Cell} {path next : ℕ} {es : Entries} → Reading before above p es
        → LeafRead s octets short least reals p k kind above before after c v path next → Reading after path next (put_cell es (length base) c v)
    unfolding put-shape
    leaf-reading {before} {above} {p} {after} {c} {v} {path} {next} {es} h r =
        let n = r.n in
        let x = content_of s v in
        let pl = plain_at kind kk n r.listed r.plain in
        let e : after ≡ n + 1 = r.afters ∙ seq-after kind kk before n in
        let b : before ≤ n = (seq-order kind kk before n r.order).0 in
        let home : before ≤ home_of kind n = omega (arith, pl.home) in
        let absent : get_or h.here.members n nothing ≡ nothing = h.gaps n home in
        let low : n < length h.here.members = omega (arith, pl.low, h.here.long) in
        let sh : Shape (put_cell es (length base) n v) =
        put-shape h.here n v pl.low (ap (λ (w : ℕ). suits w x) pl.rule ∙ r.suit) pl.alone in
        let pa = leaf-path above n h.here.members x h.here.long h.paths absent r.paths pl.rule pl.later in
        let grown = own-set kind least n h.here.members x pl.alone low absent in
        let same : body_size kind (set h.here.members n x) ≡ body_size kind h.here.members =
        ap (λ (l : List Content). length (wrapped 1 0 17 (members_octets least 0 l))) (inner-set kind n h.here.members x pl.alone) in
        let sz = r.size (omega (arith, pl.low)) in
        let col : c ≡ n = r.cells ∙ seq-column kind kk before n in
        let keep : (which : ℕ) (t : Trees) → legal which (k - 2) above t ≡ true → (before ≡ 0 → t ≡ none) → legal which (k - 2) path t ≡ true =
        λ which t y z.
        ⊎_elim (λ (q : n ≡ 0). legal-none which (k - 2) path t (z (omega arith)))
        (λ (q : 0 < n). ap (λ (j : ℕ). legal which (k - 2) j t) (pa.1 q) ∙ y) (none_or_some n) in
        subst (λ (j : ℕ). Reading after path next (put_cell es (length base) j v)) (sym col)
        (record {
          here = sh;
          gaps = λ d l.
              let ne : n ≡ d → ⊥ = λ q. let w : home_of kind n ≡ home_of kind d = ap (home_of kind) q in omega (arith, pl.home) in
              get_other h.here.members n d x nothing ne ∙ h.gaps d (omega arith);
          there = λ i l m. present-at h.here.members i n r.there low
              (λ ne. h.there i (came kind kk before n r.order i (omega arith) m ne) m);
          paths = pa.0;
          few = r.few h.few;
          deep = λ l. r.deep;
          no_kids = λ l. h.no_kids (omega arith);
          no-links = λ l. h.no-links (omega arith);
          kids-legal = keep children h.here.kids h.kids-legal (λ q. h.no_kids (omega arith));
          links-legal = keep connections h.here.links h.links-legal (λ q. h.no-links (omega arith));
          kids-rule = h.kids-rule;
          links-rule = h.links-rule;
          size = omega (arith, h.size, grown, same, sz);
          ends = r.ends;
        })
      where
        present-at : (xs : List Content) (i n : ℕ) → present (content_of s v) ≡ true → n < length xs
            → ((i ≡ n → ⊥) → present (get_or xs i nothing) ≡ true) → present (get_or (set xs n (content_of s v)) i nothing) ≡ true
        present-at xs i n a l f = go (eqb i n) refl
          where
            go : (b : Bool) → eqb i n ≡ b → present (get_or (set xs n (content_of s v)) i nothing) ≡ true
            go true q = ap (λ (j : ℕ). present (get_or (set xs n (content_of s v)) j nothing)) (eqb-true i n q)
                ∙ ap present (get_set xs n (content_of s v) nothing l) ∙ a
            go false q =
                let ne : i ≡ n → ⊥ = eqb-false i n q in
                ap present (get_other xs n i (content_of s v) nothing (λ e. ne (sym e))) ∙ f ne

    -- contents, gone into: the first member and no other cell is there
    pub record Opened (es : Entries) (members : List Content) : Type 0 where
      pub first : Content
      pub rest : List Content
      pub parts : members ≡ first ∷ rest
      pub long : length rest ≡ 15
      pub suit : suited kind 1 rest ≡ true

    opened : {es : Entries} (h : Shape es) → Opened es h.members
    unfolding suited
    opened {es} h = go h.members h.long h.suit
      where
        go : (xs : List Content) → length xs ≡ 16 → suited kind 0 xs ≡ true → Opened es xs
        go [] l e = absurd (omega arith)
        go (x ∷ xs) l e = record { first = x; rest = xs; parts = refl; long = omega arith; suit = both_right (suits (rule_at kind 0) x) (suited kind 1 xs) e }

    module _ {before above p after : ℕ} {outer : Open} {g : Tag} {j : ℕ} {es : Entries} (h : Reading before above p es)
        (r : InnerRead s octets short least reals p k kind above before after outer g j) (body : rule_of kind r.n ≡ 13) where
      pub op : Opened es h.here.members
      op = opened h.here

      pub low : 10 ≤ grammar.contents_of kind
      low = (body_at kind kk r.n body).1.0

      pub high : grammar.contents_of kind ≤ 12
      high = (body_at kind kk r.n body).1.1

      some : grammar.contents_of kind ≡ 0 → ⊥
      some e = omega (arith, low)

      number : r.n ≡ 1
      number = (body_at kind kk r.n body).0

      before-one : (before ≤ 1) × (0 < before)
      before-one =
          let a = (seq-order kind kk before r.n r.order).0 in
          (omega (arith, number), begun kind kk before r.n r.order (inr r.rule))

      was-nothing : (n : ℕ) → get_or op.rest n nothing ≡ nothing
      was-nothing n =
          ap (λ (l : List Content). get_or l (suc n) nothing) (sym op.parts)
          ∙ h.gaps (suc n) (omega (arith, before-one.0, home-inner kind some n))

      rest-none : op.rest ≡ nothings 15
      rest-none = all_nothing op.rest was-nothing ∙ ap nothings op.long

      pub contents-filling :
          Filling s octets short least reals kind low high base h.here.post parent op.first (j - 1) g.inner g.start 0 g.start es
      contents-filling =
          let z : size_from least 0 op.rest ≡ 0 = ap (size_from least 0) rest-none ∙ nothings-size least 0 15 in
          record {
            here = record {
              entry = h.here.entry;
              inner = op.rest;
              is = h.here.is;
              kinds = h.here.kinds;
              parents = h.here.parents;
              cells = h.here.cells ∙ op.parts;
              long = op.long;
              suit = op.suit;
              deep = inl (ap empty rest-none ∙ nothings-empty 15);
            };
            gaps = λ n q. was-nothing n;
            size = omega arith;
            ends = r.inner.starts;
          }

      module _ {q n : ℕ} {es' : Entries}
          (c : Filled s octets short least reals kind low high base h.here.post parent op.first (j - 1) g.inner g.start q es')
          (closes : Closes outer q n) (ends : n ≤ length s) where
        cs : Cells s octets short least reals kind low high base h.here.post parent op.first (j - 1) g.inner g.start es'
        cs = c.here

        abbrev now : List Content
        now = op.first ∷ cs.inner

        filled-shape : Shape es'
        unfolding suited
        filled-shape =
            let first-suits : suits (rule_at kind 0) op.first ≡ true =
            both_left (suits (rule_at kind 0) op.first) (suited kind 1 op.rest) (ap (suited kind 0) (sym op.parts) ∙ h.here.suit) in
            let u = r.inner.counts in
            let i : inner kind now ≡ cs.inner = inner-all kind op.first cs.inner some in
            record {
              entry = cs.entry;
              post = h.here.post;
              members = now;
              kids = h.here.kids;
              links = h.here.links;
              is = cs.is;
              kinds = cs.kinds;
              parents = cs.parents;
              cells = cs.cells;
              posts = h.here.posts;
              long = ap suc cs.long;
              suit = both-make (suits (rule_at kind 0) op.first) (suited kind 1 cs.inner) first-suits cs.suit;
              inside = ⊎_elim (λ (y : empty cs.inner ≡ true). inl (ap empty i ∙ y)) (λ (y : 0 < j - 1). inr (omega arith)) cs.deep;
            }

        pub contents-reading : Reading after above n es'
        unfolding filled-shape cs
        contents-reading =
            let e : after ≡ r.n + 1 = r.afters ∙ seq-after kind kk before r.n in
            let f : after ≡ 2 = omega (arith, number) in
            let one = before-one in
            let m = size_from least 0 cs.inner in
            let w = wrapped-size 1 0 17 (members_octets least 0 cs.inner) (omega arith) (omega arith) in
            let took : p + around (around m) ≤ n = r.inner.holds m c.last q n c.size c.closes c.ends closes in
            let body-now : body_size kind now ≡ length (wrapped 1 0 17 (members_octets least 0 cs.inner)) =
            ap (λ (l : List Content). length (wrapped 1 0 17 (members_octets least 0 l))) (inner-all kind op.first cs.inner some) in
            let own-now : size_from least 0 (own kind now) ≡ size_from least 0 (own kind h.here.members) =
            ap (size_from least 0)
            (own_first kind op.first cs.inner some ∙ sym (own_first kind op.first op.rest some) ∙ ap (own kind) (sym op.parts)) in
            record {
              here = filled-shape;
              gaps = λ d l. absurd (omega (arith, home-low kind some d));
              there = λ i l m. let lt = came-all kind kk before r.n r.order (inr r.rule) i (omega arith) m in
                  kept i (omega arith) (h.there i lt m);
              paths = h.paths ∙ ap (path_after kind above₀) op.parts ∙ after_tail kind above₀ op.first op.rest cs.inner;
              few = h.few;
              deep = λ l. let a = r.inner.allowed in omega arith;
              no_kids = λ l. h.no_kids (omega arith);
              no-links = λ l. h.no-links (omega arith);
              kids-legal = h.kids-legal;
              links-legal = h.links-legal;
              kids-rule = h.kids-rule;
              links-rule = h.links-rule;
              size = omega (arith, h.size, own-now, body-now, w, took);
              ends = ends;
            }
          where
            kept : (i : ℕ) → i < 1 → present (get_or h.here.members i nothing) ≡ true → present (get_or now i nothing) ≡ true
            kept zero l y = ap (λ (t : List Content). present (get_or t 0 nothing)) (sym op.parts) ∙ y
            kept (suc i) l y = absurd (omega arith)

    -- children and connections, gone into
    module _ {before above p after which : ℕ} {outer : Open} {g : Tag} {j : ℕ} {es : Entries} (h : Reading before above p es)
        (r : InnerRead s octets short least reals p k kind above before after outer g j) (inner' : rule_of kind r.n ≡ 13 → ⊥)
        (kept : which ≡ collection_of (rule_of kind r.n)) {q n : ℕ} {es' : Entries}
        (c : ItemsRead (j - 1) g.inner which (length base + 1) above g.start es q es')
        (closes : Closes outer q n) (ends : n ≤ length s) where
      le : before ≤ r.n
      le = (seq-order kind kk before r.n r.order).0

      next-is : after ≡ r.n + 1
      next-is = r.afters ∙ seq-after kind kk before r.n

      took : p + around (around (length (trees_octets least c.trees))) ≤ n
      took = r.inner.holds (length (trees_octets least c.trees)) c.last q n c.size c.closes c.ends closes

      grown-is : es' ≡ base ++ (h.here.entry ∷ (h.here.post ++ c.more))
      grown-is =
          c.adds ∙ ap (λ (t : Entries). t ++ c.more) h.here.is ∙ append_assoc base (h.here.entry ∷ h.here.post) c.more

      es-length : length es ≡ suc (length base) + length h.here.post
      es-length =
          let a = ap length h.here.is in
          let b = length-append base (h.here.entry ∷ h.here.post) in
          omega arith

      more-is : {i : ℕ} → length es ≡ i → items_of s c.more ≡ flat (suc (length base)) i c.trees
      more-is {i} e =
          let z : length base + 1 ≡ suc (length base) = omega arith in
          c.flats ∙ ap (λ (t : ℕ). flat t (length es) c.trees) z ∙ ap (λ (t : ℕ). flat (suc (length base)) t c.trees) e

      legal-now : {w : ℕ} → which ≡ w → legal w (k - 2) above c.trees ≡ true
      legal-now {w} e =
          let z : j - 1 ≡ k - 2 = omega (arith, r.inner.counts) in
          ap (λ (t : ℕ). legal t (k - 2) above c.trees) (sym e) ∙ ap (λ (t : ℕ). legal which t above c.trees) (sym z) ∙ c.legals

      there-still : (i : ℕ) → i < after → i < required kind → present (get_or h.here.members i nothing) ≡ true
      there-still i l m = h.there i (came-all kind kk before r.n r.order (inr r.rule) i (omega (arith, next-is)) m) m

      posts-length : (a b : Trees) → h.here.kids ≡ a → h.here.links ≡ b → length h.here.post ≡ count a + count b
      posts-length a b e f =
          let x = h.here.posts ∙ ap (λ (t : Trees). flat me me t ++ flat me (me + count t) h.here.links) e
          ∙ ap (λ (t : Trees). flat me me a ++ flat me (me + count a) t) f in
          sym (items-length s h.here.post) ∙ ap length x ∙ length-append (flat me me a) (flat me (me + count a) b)
          ∙ ap (λ (t : ℕ). t + length (flat me (me + count a) b)) (flat-length me me a)
          ∙ ap (λ (t : ℕ). count a + t) (flat-length me (me + count a) b)

      -- the first, children
      module _ (rule : rule_of kind r.n ≡ 14) where
        two : r.n ≡ 2
        two = kids-at kind kk r.n rule

        kids-none : h.here.kids ≡ none
        kids-none = h.no_kids (omega (arith, le, two))

        links-none : h.here.links ≡ none
        links-none = h.no-links (omega (arith, le, two))

        is-children : which ≡ 1
        unfolding collection_of
        is-children = kept ∙ ap collection_of rule

        kids-shape : Shape es'
        unfolding flat count
        kids-shape =
            let pl = posts-length none none kids-none links-none in
            let el : length es ≡ suc (length base) = omega (arith, es-length) in
            record {
              entry = h.here.entry;
              post = h.here.post ++ c.more;
              members = h.here.members;
              kids = c.trees;
              links = none;
              is = grown-is;
              kinds = h.here.kinds;
              parents = h.here.parents;
              cells = h.here.cells;
              posts =
                  items-append s h.here.post c.more
                  ∙ ap (λ (t : List Item). t ++ items_of s c.more)
                  (h.here.posts ∙ ap (λ (t : Trees). flat me me t ++ flat me (me + count t) h.here.links) kids-none ∙ ap (flat me (me + 0)) links-none)
                  ∙ more-is el ∙ sym (append-none (flat me me c.trees));
              long = h.here.long;
              suit = h.here.suit;
              inside = h.here.inside;
            }

        kids-reading : Reading after above n es'
        unfolding kids-shape wrapped trees_octets
        kids-reading =
            let w = wrapped-size 2 1 4 (trees_octets least c.trees) (omega arith) (omega arith) in
            record {
              here = kids-shape;
              gaps = λ d l. h.gaps d (omega (arith, le, next-is));
              there = there-still;
              paths = h.paths;
              few = h.few;
              deep = λ l. let a = r.inner.allowed in omega arith;
              no_kids = λ l. absurd (omega (arith, next-is, two));
              no-links = λ l. refl;
              kids-legal = legal-now is-children;
              links-legal = legal-none connections (k - 2) above none refl;
              kids-rule = inr (ap (rule_of kind) (sym two) ∙ rule);
              links-rule = inl refl;
              size = omega (arith, h.size, w, took);
              ends = ends;
            }

      -- the last, connections
      module _ (rule : rule_of kind r.n ≡ 15) where
        five : r.n ≡ 5
        five = links-at kind kk r.n rule

        links-gone : h.here.links ≡ none
        links-gone = h.no-links (omega (arith, le, five))

        is-connections : which ≡ 2
        unfolding collection_of
        is-connections = kept ∙ ap collection_of rule

        links-shape : Shape es'
        unfolding flat count
        links-shape =
            let pl = posts-length h.here.kids none refl links-gone in
            let el : length es ≡ suc (length base) + count h.here.kids = omega (arith, es-length) in
            record {
              entry = h.here.entry;
              post = h.here.post ++ c.more;
              members = h.here.members;
              kids = h.here.kids;
              links = c.trees;
              is = grown-is;
              kinds = h.here.kinds;
              parents = h.here.parents;
              cells = h.here.cells;
              posts =
                  items-append s h.here.post c.more
                  ∙ ap (λ (t : List Item). t ++ items_of s c.more)
                  (h.here.posts ∙ ap (λ (t : Trees). flat me me h.here.kids ++ flat me (me + count h.here.kids) t) links-gone
                  ∙ append-none (flat me me h.here.kids))
                  ∙ ap (λ (t : List Item). flat me me h.here.kids ++ t) (more-is el);
              long = h.here.long;
              suit = h.here.suit;
              inside = h.here.inside;
            }

        links-reading : Reading after above n es'
        unfolding links-shape
        links-reading =
            let w = wrapped-size 5 0 16 (trees_octets least c.trees) (omega arith) (omega arith) in
            record {
              here = links-shape;
              gaps = λ d l. h.gaps d (omega (arith, le, next-is));
              there = there-still;
              paths = h.paths;
              few = h.few;
              deep = λ l. let a = r.inner.allowed in omega arith;
              no_kids = λ l. absurd (omega (arith, next-is, five));
              no-links = λ l. absurd (omega (arith, next-is, five));
              kids-legal = h.kids-legal;
              links-legal = legal-now is-connections;
              kids-rule = h.kids-rule;
              links-rule = inr (ap (rule_of kind) (sym five) ∙ rule);
              size = omega (arith, h.size, w, took);
              ends = ends;
            }

      pub items-reading : Reading after above n es'
      items-reading =
          let a = r.rule in
          let b = rules-end kind kk r.n in
          ⊎_elim (λ (l : rule_of kind r.n < 15).
          ⊎_elim (λ (m : rule_of kind r.n < 14). let e : rule_of kind r.n ≡ 13 = omega arith in absurd (inner' e))
          (λ (m : 14 ≤ rule_of kind r.n). kids-reading (omega arith)) (lt-or-le (rule_of kind r.n) 14))
          (λ (l : 15 ≤ rule_of kind r.n). links-reading (omega arith)) (lt-or-le (rule_of kind r.n) 15)

    -- its end
    pub done-reading : {before above p : ℕ} {es : Entries} {q : ℕ} → Reading before above p es → Closes o p q → q ≤ length s
        → due kind before 268435456 ≡ false → Read q es
    done-reading {before} {above} {p} {es} {q} h closes ends due' =
        let full = seq-done kind kk before 0 due' in
        let rs = required-some kind kk in
        let al = h.paths in
        record {
          here = h.here;
          full = complete-by (required kind) h.here.members (omega (arith, h.here.long, rs.1)) (λ i l. h.there i (omega arith) l);
          few = omega (arith, h.few);
          deep = h.deep (omega (arith, rs.0));
          kids-legal = held children (rule_of kind 2) 14 h.here.kids (ap (λ (t : ℕ). legal children (k - 2) t h.here.kids) (sym al) ∙ h.kids-legal)
              h.kids-rule;
          links-legal = held connections (rule_of kind 5) 15 h.here.links
              (ap (λ (t : ℕ). legal connections (k - 2) t h.here.links) (sym al) ∙ h.links-legal) h.links-rule;
          last = p;
          size = h.size;
          closes = closes;
          ends = ends;
        }
      where
        held : (which a b : ℕ) (t : Trees) → legal which (k - 2) (path_after kind above₀ h.here.members) t ≡ true → (t ≡ none) ⊎ (a ≡ b)
            → pick (eqb a b) (legal which (k - 2) (path_after kind above₀ h.here.members) t) (is_none t) ≡ true
        held which a b t e (inl f) =
            pick-by (λ (x : Bool). x ≡ true) (eqb a b) (λ z. e) (λ z. ap is_none f)
        held which a b t e (inr f) = pick_true (eqb a b) _ _ (eq-eqb a b f) ∙ e

    -- its beginning
    pub begin-reading : above₀ ≤ 16 → start ≤ length s → Reading 0 above₀ start (base ++ (blank kind parent ∷ []))
    unfolding flat count items_of legal wrapped trees_octets
    begin-reading few ends =
        let e : contents_of s (blanks 16) ≡ nothings 16 = blank-contents s 16 in
        let a = blank-own kind least in
        let b = blank-body kind least in
        record {
          here = record {
            entry = blank kind parent;
            post = [];
            members = nothings 16;
            kids = none;
            links = none;
            is = refl;
            kinds = refl;
            parents = refl;
            cells = e;
            posts = refl;
            long = nothings-length 16;
            suit = nothings-suited kind 0 16;
            inside = inl (blank-inner kind);
          };
          gaps = λ c l. nothings-get 16 c;
          there = λ i l m. absurd (omega arith);
          paths = sym (after_none kind above₀ (nothings 16) (nothings-get 16 0));
          few = few;
          deep = λ l. absurd (omega arith);
          no_kids = λ l. refl;
          no-links = λ l. refl;
          kids-legal = refl;
          links-legal = refl;
          kids-rule = inl refl;
          links-rule = inl refl;
          size = omega arith;
          ends = ends;
        }
