-- The contents of an element, a set: each member that is read fills a cell that was absent.
use Prim.Native.Nat.{ℕ, zero, suc, ◌+◌, ◌-◌, ◌<◌, ◌≤◌}
use mathlib.Core.Path.{◌≡◌, sym, ap, subst, ◌∙◌}
use mathlib.Core.List.{List, ◌∷◌, ◌++◌}
use mathlib.Core.Bool.{true, false}
use mathlib.Core.Logic.{◌⊎◌, inr}
use native.Mathlib.Omega.{arith}
use lib.ListN.{length, get_or, set, length-set}
use Rattle.ber_integers.proofs.Radix.{Below}
use Rattle.ber_containers.specs.declared.Open.{Open}
use Rattle.ber_containers.specs.declared.Tag.{Tag}
use Rattle.glow_rows.specs.declared.Cell.{Cell}
use Rattle.glow_rows.specs.Entry.{Entry, Entries, with_cell, put_cell}
use Rattle.glow_grammar.specs.Grammar.{rule_of, is_set}
use Rattle.glow_grammar.specs.Grammar as grammar
use Rattle.glow_steps.specs.Members.{marked, mark, again, after_listed, after_other, column, member_at}
use Rattle.glow_walk.specs.Tree.{then_closed, members_by, items_by}
use Rattle.glow_steps.proofs.Marks.{marked-own, marked_other}
use Rattle.glow_trees.specs.Content.{Content, nothing, content_of, contents_of}
use Rattle.glow_trees.specs.Legal.{suits, suited, empty, rule_at}
use Rattle.glow_trees.specs.Written.{member_octets}
use Rattle.trees_accepted.proofs.Bools.{never}
use Rattle.trees_accepted.proofs.Tables.{is-set, inner-rule, inner-cell}
use Rattle.trees_accepted.proofs.Lists.{get_other, suited-set, size_from, size-set, with-contents, with-kind, put-at}
use Rattle.trees_accepted.proofs.Spans.{Closes}
use Rattle.trees_accepted.proofs.Leaves.{RealsLeast}
use Rattle.trees_accepted.proofs.Turns.{LeafRead, OverRead, InnerRead, member-tells}
use Rattle.trees_accepted.proofs.Walks.{OutTell, member-walks}

-- a set
module _ (row : ℕ) (set' : is_set row ≡ true) (before n : ℕ) where
  set-again : again row before n ≡ marked before n
  unfolding again
  set-again = rw set'

  set_after : after_listed row before n ≡ mark before n
  unfolding after_listed
  set_after = rw set'

  set_other : after_other row before n ≡ before
  unfolding after_other
  set_other = rw set'

  set-column : column row n ≡ suc n
  unfolding column
  set-column = rw set' (omega arith)

module _ (s : List ℕ) (octets : Below 256 s) (short : length s ≤ 16384) (least : ℕ → List ℕ) (reals : RealsLeast least)
    (kind : ℕ) (low : 10 ≤ grammar.contents_of kind) (high : grammar.contents_of kind ≤ 12)
    (base post : Entries) (parent : ℕ) (first : Content) (k : ℕ) (o : Open) (start : ℕ) where
  -- the entry and its cells, the first of them as it was
  pub record Cells (es : Entries) : Type 0 where
    pub entry : Entry
    pub inner : List Content
    pub is : es ≡ base ++ (entry ∷ post)
    pub kinds : entry.kind ≡ kind
    pub parents : entry.parent ≡ parent
    pub cells : contents_of s entry.cells ≡ first ∷ inner
    pub long : length inner ≡ 15
    pub suit : suited kind 1 inner ≡ true
    pub deep : (empty inner ≡ true) ⊎ (0 < k)

  pub record Filling (before p : ℕ) (es : Entries) : Type 0 where
    pub here : Cells es
    pub gaps : (n : ℕ) → marked before n ≡ false → get_or here.inner n nothing ≡ nothing
    pub size : start + size_from least 0 here.inner ≤ p
    pub ends : p ≤ length s

  pub record Filled (q : ℕ) (es : Entries) : Type 0 where
    pub here : Cells es
    pub last : ℕ
    pub size : start + size_from least 0 here.inner ≤ last
    pub closes : Closes o last q
    pub ends : q ≤ length s

  abbrev row : ℕ
  row = grammar.contents_of kind

  sets : is_set row ≡ true
  sets = is-set row low high

  -- a member put
  put-cells : {es : Entries} (h : Cells es) (n : ℕ) (v : Cell) → n < 15 → suits (rule_of row n) (content_of s v) ≡ true → 0 < k
      → Cells (put_cell es (length base) (suc n) v)
  put-cells {es} h n v l a b =
      let c : suc n < 16 = omega arith in
      let w = with-kind h.entry (suc n) v c in
      let e : rule_at kind (1 + n) ≡ rule_of row n =
      let q : 1 + n ≡ suc n = omega arith in ap (rule_at kind) q ∙ inner-cell kind n (λ z. omega arith) in
      record {
        entry = with_cell h.entry (suc n) v;
        inner = set h.inner n (content_of s v);
        is = ap (λ (t : Entries). put_cell t (length base) (suc n) v) h.is ∙ put-at base h.entry post (suc n) v;
        kinds = w.0 ∙ h.kinds;
        parents = w.1 ∙ h.parents;
        cells = with-contents s h.entry (suc n) v c ∙ ap (λ (t : List Content). set t (suc n) (content_of s v)) h.cells;
        long = length-set h.inner n (content_of s v) ∙ h.long;
        suit = suited-set kind 1 h.inner n (content_of s v) h.suit (ap (λ (r : ℕ). suits r (content_of s v)) e ∙ a);
        deep = inr b;
      }

  leaf-filling : {before p : ℕ} {es : Entries} (above : ℕ) {after c : ℕ} {v : Cell} {path next : ℕ} → Filling before p es
      → LeafRead s octets short least reals p k row above before after c v path next → Filling after next (put_cell es (length base) c v)
  unfolding put-cells
  leaf-filling {before} {p} {es} above {after} {c} {v} {path} {next} h r =
      let n = r.n in
      let x = content_of s v in
      let i = inner-rule row low high n r.listed in
      let l : n < 15 = i.1.0 in
      let cs : Cells (put_cell es (length base) (suc n) v) = put-cells h.here n v l r.suit r.deep in
      let absent : get_or h.here.inner n nothing ≡ nothing = h.gaps n (sym (set-again row sets before n) ∙ r.fresh) in
      let m : n < length h.here.inner = omega (arith, h.here.long) in
      let z : 0 + n ≡ n = omega arith in
      let grown : size_from least 0 (set h.here.inner n x) ≡ size_from least 0 h.here.inner + length (member_octets least n x) =
      size-set least 0 h.here.inner n x m absent ∙ ap (λ (j : ℕ). size_from least 0 h.here.inner + length (member_octets least j x)) z in
      let col : c ≡ suc n = r.cells ∙ set-column row sets before n in
      let aft : after ≡ mark before n = r.afters ∙ set_after row sets before n in
      let sz = r.size (omega arith) in
      subst (λ (j : ℕ). Filling after next (put_cell es (length base) j v)) (sym col)
      (record {
        here = cs;
        gaps = λ j q. still h.here.inner j h.gaps (ap (λ (b : ℕ). marked b j) (sym aft) ∙ q);
        size = omega (arith, h.size, grown, sz);
        ends = r.ends;
      })
    where
      still : (ys : List Content) (j : ℕ) → ((n : ℕ) → marked before n ≡ false → get_or ys n nothing ≡ nothing) → marked (mark before r.n) j ≡ false
          → get_or (set ys r.n (content_of s v)) j nothing ≡ nothing
      still ys j g q =
          let d : j ≡ r.n → ⊥ = λ e. never (sym q ∙ ap (marked (mark before r.n)) e ∙ marked-own before r.n) in
          let d' : r.n ≡ j → ⊥ = λ e. d (sym e) in
          get_other ys r.n j (content_of s v) nothing d' ∙ g j (sym (marked_other before r.n j d) ∙ q)

  over-filling : {before p : ℕ} {es : Entries} (above : ℕ) {after next : ℕ} → Filling before p es
      → OverRead s octets short least reals p k row above before after next → Filling after next es
  over-filling {before} {p} {es} above {after} {next} h r =
      let e : after ≡ before = r.afters ∙ set_other row sets before r.n in
      record {
        here = h.here;
        gaps = λ n q. h.gaps n (ap (λ (b : ℕ). marked b n) (sym e) ∙ q);
        size = omega (arith, h.size, r.later);
        ends = r.ends;
      }

  no_inner : {before p above after : ℕ} {outer : Open} {g : Tag} {j : ℕ} (r : InnerRead s octets short least reals p k row above before after outer g j) → ⊥
  no_inner r =
      let u = r.rule in
      let i = inner-rule row low high r.n (λ z. omega arith) in
      omega (arith, i.0)

  pub set_walks : (f above p before : ℕ) (es : Entries) → Filling before p es
      → OutTell Filled (members_by f s k o row (length base) above p before es)
  unfolding members_by
  set_walks zero above p before es h = tt
  set_walks (suc f) above p before es h =
      member-walks s octets short least reals p k o Filled es row above before (member_at s p o k row above before)
      (λ before' next. members_by f s k o row (length base) above next before' es)
      (λ before' c v above' next. members_by f s k o row (length base) above' next before' (put_cell es (length base) c v))
      (λ before' outer g j.
      then_closed s outer j (members_by f s (j - 1) g.inner (grammar.contents_of row) (length base) above g.start 0 es)
      (λ next es'. members_by f s k o row (length base) above next before' es'))
      (λ before' which outer g j.
      then_closed s outer j (items_by f s (j - 1) g.inner which (length base + 1) above g.start es)
      (λ next es'. members_by f s k o row (length base) above next before' es'))
      (member-tells s octets short least reals p k row above before h.ends o)
      (λ next c l d. record { here = h.here; last = p; size = h.size; closes = c; ends = l })
      (λ after next r. set_walks f above next after es (over-filling above h r))
      (λ after c v path next r. set_walks f path next after (put_cell es (length base) c v) (leaf-filling above h r))
      (λ after outer g j r e. absurd (no_inner r))
      (λ after which outer g j r e w. absurd (no_inner r))
