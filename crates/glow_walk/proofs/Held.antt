-- One turn, as the code makes it: the rows are those of some entries, and what is left gives what the whole gives.
use Rattle.std.specs.Prelude.{Result, Ok, Err}
use Prim.Native.Nat.{ℕ, ◌+◌, ◌-◌, ◌≤◌, ◌<◌}
use mathlib.Core.Path.{◌≡◌, refl, ap, sym, subst, ◌∙◌}
use mathlib.Core.Bool.{true, false}
use mathlib.Core.List.{List, [], ◌∷◌, ◌++◌}
use native.Mathlib.Omega.{arith}
use lib.ListN.{length, length-append}
use Rattle.base_choices.proofs.Laws.{pick-by}
use Rattle.ber_containers.specs.declared.No.{No}
use Rattle.ber_containers.specs.declared.Open.{Open}
use Rattle.ber_containers.specs.declared.Tag.{Tag}
use Rattle.ber_containers.specs.declared.Stands.TheVariants.{Ended as HasEnded}
use Rattle.ber_containers.specs.Ends.{no, enter_at}
use Rattle.glow_rows.specs.declared.Cell.{Cell}
use Rattle.glow_rows.specs.Entry.{Entries, Rows, blank, put_cell, overlay}
use Rattle.glow_rows.specs.Row.{cell_put, blanked}
use Rattle.glow_rows.proofs.Laws.{overlay-put, overlay-new, length-put}
use Rattle.glow_grammar.specs.Grammar.{contents_of}
use Rattle.glow_steps.specs.declared.Member.TheVariants.{Done, Over, Leaf, Contents, Items, Refused as NoMember}
use Rattle.glow_steps.specs.declared.Item.TheVariants.{Done as NoMore, Element, Refused as NoItem}
use Rattle.glow_walk.specs.declared.Cursor.{Cursor}
use Rattle.glow_walk.specs.declared.Turn.{Turn}
use Rattle.glow_walk.specs.declared.Turn.TheVariants.{On, Read as Ended, Refused as NoTurn}
use Rattle.glow_steps.specs.Members.{due, member_at, item_at}
use Rattle.glow_steps.proofs.Laws.{member-due, member-done}
use Rattle.glow_walk.specs.Tree.{Out, out, closed, MembersGive, ItemsGive}
use Rattle.glow_walk.specs.Progress.{cursor, onward_of, ended_of, WalkedOnward, TurnOnward, Closes, Fills, FillsIn, Held, Turns}
use Rattle.glow_walk.specs.Progress.{MembersLeft, ItemsLeft, MembersFill, ItemsFill, ContentsFill, ListFill, EntryFill, MembersTurn, ItemsTurn}
use Rattle.glow_walk.proofs.Ways.{members-done, members-no, members-over, members-leaf, contents-no, contents-in, list-no, list-in}
use Rattle.glow_walk.proofs.Ways.{items-done, items-no, element-no, element-in, counted-no, counted-read}

-- what was gone into, closed
module _ {Inner : Out → Type 0} {base rows' : Rows} {v : Result (ℕ × ℕ) No} (s : List ℕ) (outer : Open) (j : ℕ) (f : FillsIn s outer j Inner base rows' v) where
  closed-no : {e : No} → v ≡ Err e → closed s outer j f.given.answer ≡ Err e
  closed-no q = counted-no _ _ (f.answers ∙ q)

  closed_in : {next n : ℕ} → v ≡ Ok (next, n) → (closed s outer j f.given.answer ≡ Ok next) × (length f.given.entries ≡ n)
  closed_in q = counted-read _ _ (f.answers ∙ q)

module _ {All : Out → Type 0} {base : Rows} {rows : Rows} {count : ℕ} where
  module _ (s : List ℕ) (k : ℕ) (o : Open) (row me above p before : ℕ) (h : Held All (MembersGive s k o row me above p before) base rows count) where
    held-done : {next : ℕ} → member_at s p o k row above before ≡ Done next → Fills All base rows (Ok (next, count))
    held-done {next} e = record {
      given = out (Ok next) h.es;
      gives = h.gives _ (members-done s k o row me above p before h.es e);
      answers = ap (λ n. Ok (next, n)) h.counts;
      holds = h.holds;
    }

    held-no : {e : No} → member_at s p o k row above before ≡ NoMember e → Fills All base rows (Err e)
    held-no {e} q = record {
      given = out (Err e) h.es;
      gives = h.gives _ (members-no s k o row me above p before h.es q);
      answers = refl;
      holds = h.holds;
    }

    held-over : {after next : ℕ} → member_at s p o k row above before ≡ Over after next → p < length s → p < next
        → Held All (MembersGive s k o row me above next after) base rows count
    held-over e w l = record {
      es = h.es;
      counts = h.counts;
      holds = h.holds;
      gives = λ x g. h.gives x (members-over s k o row me above p before h.es e w l g);
    }

    held-leaf : {after c path next : ℕ} {v : Cell} {rows' : Rows} → member_at s p o k row above before ≡ Leaf after c v path next
        → p < length s → p < next → me < count → rows' ≡ cell_put rows me c v
        → Held All (MembersGive s k o row me path next after) base rows' count
    held-leaf {c = c} {v = v} e w l m r = record {
      es = put_cell h.es me c v;
      counts = length-put h.es me c v ∙ h.counts;
      holds = r ∙ ap (λ t. cell_put t me c v) h.holds ∙ sym (overlay-put h.es base me c v (subst (λ n. me < n) (sym h.counts) m));
      gives = λ x g. h.gives x (members-leaf s k o row me above p before h.es e w l g);
    }

    module _ {after j : ℕ} {outer : Open} {g : Tag} {rows' : Rows} {v : Result (ℕ × ℕ) No}
        (e : member_at s p o k row above before ≡ Contents after outer g j) (w : p < length s) (l : p < g.start)
        (f : FillsIn s outer j (MembersGive s (j - 1) g.inner (contents_of row) me above g.start 0 h.es) base rows' v) where
      held-contents-no : {r : No} → v ≡ Err r → Fills All base rows' (Err r)
      held-contents-no {r} q = record {
        given = out (Err r) f.given.entries;
        gives = h.gives _ (contents-no s k o row me above p before h.es e w l f.gives (closed-no s outer j f q));
        answers = refl;
        holds = f.holds;
      }

      held-contents : {next n : ℕ} → v ≡ Ok (next, n) → p < next → Held All (MembersGive s k o row me above next after) base rows' n
      held-contents q m = record {
        es = f.given.entries;
        counts = (closed_in s outer j f q).1;
        holds = f.holds;
        gives = λ y d. h.gives y (contents-in s k o row me above p before h.es e w l f.gives (closed_in s outer j f q).0 m d);
      }

    module _ {after j which : ℕ} {outer : Open} {g : Tag} {rows' : Rows} {v : Result (ℕ × ℕ) No}
        (e : member_at s p o k row above before ≡ Items after which outer g j) (w : p < length s) (l : p < g.start)
        (f : FillsIn s outer j (ItemsGive s (j - 1) g.inner which (me + 1) above g.start h.es) base rows' v) where
      held-list-no : {r : No} → v ≡ Err r → Fills All base rows' (Err r)
      held-list-no {r} q = record {
        given = out (Err r) f.given.entries;
        gives = h.gives _ (list-no s k o row me above p before h.es e w l f.gives (closed-no s outer j f q));
        answers = refl;
        holds = f.holds;
      }

      held-list : {next n : ℕ} → v ≡ Ok (next, n) → p < next → Held All (MembersGive s k o row me above next after) base rows' n
      held-list q m = record {
        es = f.given.entries;
        counts = (closed_in s outer j f q).1;
        holds = f.holds;
        gives = λ y d. h.gives y (list-in s k o row me above p before h.es e w l f.gives (closed_in s outer j f q).0 m d);
      }

  module _ (s : List ℕ) (k : ℕ) (o : Open) (which parent above p : ℕ) (h : Held All (ItemsGive s k o which parent above p) base rows count) where
    item-held-done : {next : ℕ} → item_at s p o k which ≡ NoMore next → Fills All base rows (Ok (next, count))
    item-held-done {next} e = record {
      given = out (Ok next) h.es;
      gives = h.gives _ (items-done s k o which parent above p h.es e);
      answers = ap (λ n. Ok (next, n)) h.counts;
      holds = h.holds;
    }

    item-held-no : {e : No} → item_at s p o k which ≡ NoItem e → Fills All base rows (Err e)
    item-held-no {e} q = record {
      given = out (Err e) h.es;
      gives = h.gives _ (items-no s k o which parent above p h.es q);
      answers = refl;
      holds = h.holds;
    }

    module _ {kind j : ℕ} {outer : Open} {g : Tag} {rows' : Rows} {v : Result (ℕ × ℕ) No}
        (e : item_at s p o k which ≡ Element kind outer g j) (w : p < length s) (l : p < g.start)
        (f : FillsIn s outer j (MembersGive s (j - 1) g.inner kind (length h.es) above g.start 0
        (h.es ++ (blank kind parent ∷ []))) base rows' v) where
      item-held-element-no : {z : No} → v ≡ Err z → Fills All base rows' (Err z)
      item-held-element-no {z} q = record {
        given = out (Err z) f.given.entries;
        gives = h.gives _ (element-no s k o which parent above p h.es e w l f.gives (closed-no s outer j f q));
        answers = refl;
        holds = f.holds;
      }

      item-held-element : {next n : ℕ} → v ≡ Ok (next, n) → p < next → Held All (ItemsGive s k o which parent above next) base rows' n
      item-held-element q m = record {
        es = f.given.entries;
        counts = (closed_in s outer j f q).1;
        holds = f.holds;
        gives = λ y d. h.gives y (element-in s k o which parent above p h.es e w l f.gives (closed_in s outer j f q).0 m d);
      }

-- at the turn's beginning the rows hold the entries that they are given with
abbrev here : (Left : Cursor → Entries → Out → Type 0) (at : Cursor) {rows : Rows} (es : Entries) (base : Rows) → length es ≡ at.count
    → rows ≡ overlay es base → Held (Left at es) (Left at) base rows at.count
here Left at es base e h = record { es = es; counts = e; holds = h; gives = λ x g. g }

-- a turn after what was held
module _ (Left : Cursor → Entries → Out → Type 0) {All : Out → Type 0} {base rows rows' : Rows} (at : Cursor)
    (h : Held All (Left at) base rows at.count) where
  then-on : {c : Cursor} → Turns Left at rows rows' (On c) → Held All (Left c) base rows' c.count
  then-on t =
      let u = t h.es base h.counts h.holds in
      record { es = u.es; counts = u.counts; holds = u.holds; gives = λ x g. h.gives x (u.gives x g) }

  then-end : {r : Result (ℕ × ℕ) No} → Fills (Left at h.es) base rows' r → Fills All base rows' r
  then-end f = record { given = f.given; gives = h.gives _ f.gives; answers = f.answers; holds = f.holds }

-- how far on a turn is
pub on-onward : (s : List ℕ) (p n : ℕ) {next before above : ℕ} {r : Turn} → On (cursor next before above n) ≡ r → p < length s → p < next → n ≤ p
    → TurnOnward s p n r
on-onward s p n e w l m = subst (TurnOnward s p n) e (w, (l, (omega arith, omega arith)))

-- .. after what an outer tag holds
inside-onward : (s : List ℕ) (p start n before above : ℕ) (v : Result (ℕ × ℕ) No) {r : Turn} → onward_of before above v ≡ r → p < length s → p < start
    → WalkedOnward start n v → TurnOnward s p n r
unfolding onward_of
inside-onward s p start n before above v t w l u = subst (TurnOnward s p n) t (go v u)
  where
    go : (v : Result (ℕ × ℕ) No) → WalkedOnward start n v → TurnOnward s p n (onward_of before above v)
    go (Ok (next, count)) y = (w, (omega (arith, y.0), (y.1.0, y.1.1)))
    go (Err e) y = tt

pub onward-no : (before above : ℕ) {w : Result (ℕ × ℕ) No} {e : No} → w ≡ Err e → onward_of before above w ≡ NoTurn e
unfolding onward_of
onward-no before above q = rw q

pub onward-read : (before above : ℕ) {w : Result (ℕ × ℕ) No} {next n : ℕ} {r : Turn} → w ≡ Ok (next, n) → On (cursor next before above n) ≡ r
    → onward_of before above w ≡ r
unfolding onward_of
onward-read before above q e = rw q e

pub ended-due : (row : ℕ) (at : Cursor) (next : ℕ) → due row at.before 268435456 ≡ true → ended_of row at next ≡ Err (no 33 at.place)
unfolding ended_of
ended-due row at next d = rw d

pub ended-read : (row : ℕ) (at : Cursor) (next : ℕ) → due row at.before 268435456 ≡ false → ended_of row at next ≡ Ok (next, at.count)
unfolding ended_of
ended-read row at next d = rw d

pub ended-onward : (row : ℕ) (at : Cursor) (next from n : ℕ) {r : Result (ℕ × ℕ) No} → ended_of row at next ≡ r → from ≤ at.place → at.place ≤ next
    → at.count ≤ at.place → n ≤ at.count → WalkedOnward from n r
unfolding ended_of
ended-onward row at next from n e l h m w =
    subst (WalkedOnward from n) e
    (pick-by (WalkedOnward from n) (due row at.before 268435456) (λ d. tt) (λ d. (omega arith, (omega arith, omega arith))))

module _ (s : List ℕ) (k : ℕ) (o : Open) (row me : ℕ) (at : Cursor) {rows : Rows} where
  pub members-on : {All : Out → Type 0} {base rows' : Rows} {r : Turn} {c : Cursor} → Held All (MembersLeft s k o row me at) base rows at.count
      → MembersTurn s k o row me at rows rows' r → r ≡ On c → Held All (MembersLeft s k o row me c) base rows' c.count
  members-on {rows' = rows'} {c = c} h t e = then-on (MembersLeft s k o row me) at h {c = c}
      (subst (Turns (MembersLeft s k o row me) at rows rows') e t.turned)

  pub members-end : {All : Out → Type 0} {base rows' : Rows} {r : Turn} {next n : ℕ} → Held All (MembersLeft s k o row me at) base rows at.count
      → MembersTurn s k o row me at rows rows' r → r ≡ Ended next n → Fills All base rows' (Ok (next, n))
  members-end {base = base} {rows' = rows'} h t e =
      then-end (MembersLeft s k o row me) at h
      (subst (Turns (MembersLeft s k o row me) at rows rows') e t.turned h.es base h.counts h.holds)

  pub members-stop : {All : Out → Type 0} {base rows' : Rows} {r : Turn} {e : No} → Held All (MembersLeft s k o row me at) base rows at.count
      → MembersTurn s k o row me at rows rows' r → r ≡ NoTurn e → Fills All base rows' (Err e)
  members-stop {base = base} {rows' = rows'} h t e =
      then-end (MembersLeft s k o row me) at h
      (subst (Turns (MembersLeft s k o row me) at rows rows') e t.turned h.es base h.counts h.holds)

  pub turn-done : {next : ℕ} → member_at s at.place o k row at.above at.before ≡ Done next
      → MembersTurn s k o row me at rows rows (Ended next at.count)
  turn-done q = record {
    turned = λ es base e h. held-done s k o row me at.above at.place at.before
        (here (MembersLeft s k o row me) at es base e h) q;
  }

  pub turn-no : {x : No} → member_at s at.place o k row at.above at.before ≡ NoMember x → MembersTurn s k o row me at rows rows (NoTurn x)
  turn-no q = record { turned = λ es base e h. held-no s k o row me at.above at.place at.before (here (MembersLeft s k o row me) at es base e h) q }

  pub members-ended : {All : Out → Type 0} {base : Rows} {next : ℕ} {r : Result (ℕ × ℕ) No} → Held All (MembersLeft s k o row me at) base rows at.count
      → enter_at s at.place o k ≡ HasEnded next → ended_of row at next ≡ r → Fills All base rows r
  unfolding ended_of
  members-ended {All} {base} h q e =
      subst (Fills All base rows) e
      (pick-by (Fills All base rows) (due row at.before 268435456)
      (λ d. held-no s k o row me at.above at.place at.before h (member-due s at.place o k row at.above at.before q d))
      (λ d. held-done s k o row me at.above at.place at.before h (member-done s at.place o k row at.above at.before q d)))

  pub turn-over : {after next : ℕ} {r : Turn} → member_at s at.place o k row at.above at.before ≡ Over after next → at.place < length s
      → at.place < next → at.count ≤ at.place → On (cursor next after at.above at.count) ≡ r
      → MembersTurn s k o row me at rows rows r × TurnOnward s at.place at.count r
  turn-over q w l m x = (
    subst (MembersTurn s k o row me at rows rows) x
        (record {
          turned = λ es base e h. held-over s k o row me at.above at.place at.before
              (here (MembersLeft s k o row me) at es base e h) q w l;
        }),
    on-onward s at.place at.count x w l m,
  )

  pub turn-leaf : {after c above next : ℕ} {v : Cell} {rows' : Rows} {r : Turn}
      → member_at s at.place o k row at.above at.before ≡ Leaf after c v above next → at.place < length s → at.place < next
      → me < at.count → at.count ≤ at.place → rows' ≡ cell_put rows me c v → On (cursor next after above at.count) ≡ r
      → MembersTurn s k o row me at rows rows' r × TurnOnward s at.place at.count r
  turn-leaf {rows' = rows'} q w l m b d x = (
    subst (MembersTurn s k o row me at rows rows') x
        (record {
          turned = λ es base e h. held-leaf s k o row me at.above at.place at.before
              (here (MembersLeft s k o row me) at es base e h) q w l m d;
        }),
    on-onward s at.place at.count x w l b,
  )

  module _ {after j : ℕ} {outer : Open} {g : Tag} {rows' : Rows} {v : Result (ℕ × ℕ) No} {r : Turn}
      (q : member_at s at.place o k row at.above at.before ≡ Contents after outer g j) (w : at.place < length s) (l : at.place < g.start)
      (f : ContentsFill s g.inner outer j row me at.above g.start at.count rows rows' v) (u : WalkedOnward g.start at.count v)
      (t : onward_of after at.above v ≡ r) where
    pub turn-contents : MembersTurn s k o row me at rows rows' r × TurnOnward s at.place at.count r
    unfolding onward_of
    turn-contents = (
      subst (MembersTurn s k o row me at rows rows') t (record { turned = go v f.filled u }),
      inside-onward s at.place g.start at.count after at.above v t w l u,
    )
      where
        go : (v : Result (ℕ × ℕ) No)
            → ((es : Entries) (base : Rows) → length es ≡ at.count → rows ≡ overlay es base
            → FillsIn s outer j (MembersGive s (j - 1) g.inner (contents_of row) me at.above g.start 0 es) base rows' v)
            → WalkedOnward g.start at.count v → Turns (MembersLeft s k o row me) at rows rows' (onward_of after at.above v)
        go (Ok (next, n)) f u es base e h =
            held-contents s k o row me at.above at.place at.before (here (MembersLeft s k o row me) at es base e h) q w l (f es base e h) refl
            (omega (arith, u.0))
        go (Err z) f u es base e h =
            held-contents-no s k o row me at.above at.place at.before (here (MembersLeft s k o row me) at es base e h) q w l (f es base e h) refl

  module _ {after j which : ℕ} {outer : Open} {g : Tag} {rows' : Rows} {v : Result (ℕ × ℕ) No} {r : Turn}
      (q : member_at s at.place o k row at.above at.before ≡ Items after which outer g j) (w : at.place < length s) (l : at.place < g.start)
      (f : ListFill s g.inner outer j which (me + 1) at.above g.start at.count rows rows' v) (u : WalkedOnward g.start at.count v)
      (t : onward_of after at.above v ≡ r) where
    pub turn-items : MembersTurn s k o row me at rows rows' r × TurnOnward s at.place at.count r
    unfolding onward_of
    turn-items = (
      subst (MembersTurn s k o row me at rows rows') t (record { turned = go v f.filled u }),
      inside-onward s at.place g.start at.count after at.above v t w l u,
    )
      where
        go : (v : Result (ℕ × ℕ) No)
            → ((es : Entries) (base : Rows) → length es ≡ at.count → rows ≡ overlay es base
            → FillsIn s outer j (ItemsGive s (j - 1) g.inner which (me + 1) at.above g.start es) base rows' v)
            → WalkedOnward g.start at.count v → Turns (MembersLeft s k o row me) at rows rows' (onward_of after at.above v)
        go (Ok (next, n)) f u es base e h =
            held-list s k o row me at.above at.place at.before (here (MembersLeft s k o row me) at es base e h) q w l (f es base e h) refl
            (omega (arith, u.0))
        go (Err z) f u es base e h =
            held-list-no s k o row me at.above at.place at.before (here (MembersLeft s k o row me) at es base e h) q w l (f es base e h) refl

fewer : (p n : ℕ) (v : Result (ℕ × ℕ) No) → WalkedOnward p (n + 1) v → WalkedOnward p n v
fewer p n (Ok (next, count)) h = (h.0, (h.1.0, omega (arith, h.1.1)))
fewer p n (Err e) h = tt

module _ (s : List ℕ) (k : ℕ) (o : Open) (which parent : ℕ) (at : Cursor) {rows : Rows} where
  pub items-on : {All : Out → Type 0} {base rows' : Rows} {r : Turn} {c : Cursor} → Held All (ItemsLeft s k o which parent at) base rows at.count
      → ItemsTurn s k o which parent at rows rows' r → r ≡ On c → Held All (ItemsLeft s k o which parent c) base rows' c.count
  items-on {rows' = rows'} {c = c} h t e = then-on (ItemsLeft s k o which parent) at h {c = c}
      (subst (Turns (ItemsLeft s k o which parent) at rows rows') e t.turned)

  pub items-end : {All : Out → Type 0} {base rows' : Rows} {r : Turn} {next n : ℕ} → Held All (ItemsLeft s k o which parent at) base rows at.count
      → ItemsTurn s k o which parent at rows rows' r → r ≡ Ended next n → Fills All base rows' (Ok (next, n))
  items-end {base = base} {rows' = rows'} h t e =
      then-end (ItemsLeft s k o which parent) at h
      (subst (Turns (ItemsLeft s k o which parent) at rows rows') e t.turned h.es base h.counts h.holds)

  pub items-stop : {All : Out → Type 0} {base rows' : Rows} {r : Turn} {e : No} → Held All (ItemsLeft s k o which parent at) base rows at.count
      → ItemsTurn s k o which parent at rows rows' r → r ≡ NoTurn e → Fills All base rows' (Err e)
  items-stop {base = base} {rows' = rows'} h t e =
      then-end (ItemsLeft s k o which parent) at h
      (subst (Turns (ItemsLeft s k o which parent) at rows rows') e t.turned h.es base h.counts h.holds)

  pub item-turn-done : {next : ℕ} → item_at s at.place o k which ≡ NoMore next → ItemsTurn s k o which parent at rows rows (Ended next at.count)
  item-turn-done q = record {
    turned = λ es base e h. item-held-done s k o which parent at.above at.place
        (here (ItemsLeft s k o which parent) at es base e h) q;
  }

  pub item-turn-no : {x : No} → item_at s at.place o k which ≡ NoItem x → ItemsTurn s k o which parent at rows rows (NoTurn x)
  item-turn-no q = record {
    turned = λ es base e h. item-held-no s k o which parent at.above at.place
        (here (ItemsLeft s k o which parent) at es base e h) q;
  }

  module _ {kind j : ℕ} {outer : Open} {g : Tag} {rows' : Rows} {v : Result (ℕ × ℕ) No} {r : Turn}
      (q : item_at s at.place o k which ≡ Element kind outer g j) (w : at.place < length s) (l : at.place < g.start)
      (f : EntryFill s g.inner outer j kind parent at.above g.start at.count rows rows' v)
      (u : WalkedOnward g.start (at.count + 1) v) (t : onward_of 0 at.above v ≡ r) where
    pub turn-element : ItemsTurn s k o which parent at rows rows' r × TurnOnward s at.place at.count r
    unfolding onward_of
    turn-element = (
      subst (ItemsTurn s k o which parent at rows rows') t (record { turned = go v f.filled (fewer g.start at.count v u) }),
      inside-onward s at.place g.start at.count 0 at.above v t w l (fewer g.start at.count v u),
    )
      where
        go : (v : Result (ℕ × ℕ) No)
            → ((es : Entries) (base : Rows) → length es ≡ at.count → rows ≡ overlay es base
            → FillsIn s outer j (MembersGive s (j - 1) g.inner kind (length es) at.above g.start 0 (es ++ (blank kind parent ∷ []))) base rows' v)
            → WalkedOnward g.start at.count v → Turns (ItemsLeft s k o which parent) at rows rows' (onward_of 0 at.above v)
        go (Ok (next, n)) f u es base e h =
            item-held-element s k o which parent at.above at.place (here (ItemsLeft s k o which parent) at es base e h) q w l (f es base e h) refl
            (omega (arith, u.0))
        go (Err z) f u es base e h =
            item-held-element-no s k o which parent at.above at.place (here (ItemsLeft s k o which parent) at es base e h) q w l (f es base e h) refl

-- what an outer tag holds, by what was read in it and closed
fills-in : {s : List ℕ} {outer : Open} {j : ℕ} {Gives : Out → Type 0} {base rows : Rows} {x v : Result (ℕ × ℕ) No} → Fills Gives base rows x
    → Closes s outer j x v → FillsIn s outer j Gives base rows v
fills-in f c = record { given = f.given; gives = f.gives; answers = c _ _ f.answers; holds = f.holds }

module _ (s : List ℕ) (o outer : Open) {j k : ℕ} (above from n : ℕ) {rows rows' : Rows} {x v : Result (ℕ × ℕ) No} (ek : k ≡ j - 1) where
  pub contents-fill : {row row' me : ℕ} → contents_of row ≡ row' → MembersFill s k o row' me above from n rows rows' x → Closes s outer j x v
      → ContentsFill s o outer j row me above from n rows rows' v
  contents-fill er f c = record { filled = λ es base e h. fills-in (rw (er, ← ek) (f.filled es base e h)) c }

  pub list-fill : {which parent : ℕ} → ItemsFill s k o which parent above from n rows rows' x → Closes s outer j x v
      → ListFill s o outer j which parent above from n rows rows' v
  list-fill f c = record { filled = λ es base e h. fills-in (rw (← ek) (f.filled es base e h)) c }

  pub entry-fill : {kind parent parent' : ℕ} {rows₁ : Rows} → parent' ≡ parent → rows₁ ≡ blanked rows n kind parent'
      → MembersFill s k o kind n above from (n + 1) rows₁ rows' x → Closes s outer j x v
      → EntryFill s o outer j kind parent above from n rows rows' v
  entry-fill {kind = kind} {parent = parent} {rows₁ = rows₁} ep b f c = record {
    filled = λ es base e h.
        let m : length (es ++ (blank kind parent ∷ [])) ≡ n + 1 = length-append es (blank kind parent ∷ []) ∙ ap (λ (i : ℕ). i + 1) e in
        let d : rows₁ ≡ overlay (es ++ (blank kind parent ∷ [])) base = b ∙ rw (ep, h, ← e) (sym (overlay-new es base kind parent)) in
        fills-in (rw (e, ← ek) (f.filled (es ++ (blank kind parent ∷ [])) base m d)) c;
  }

-- where a loop begins
pub members-begin : (s : List ℕ) (k : ℕ) (o : Open) (row me above from n : ℕ) {at : Cursor} {rows : Rows} (es : Entries) (base : Rows)
    → cursor from 0 above n ≡ at → length es ≡ n → rows ≡ overlay es base
    → Held (MembersLeft s k o row me (cursor from 0 above n) es) (MembersLeft s k o row me at) base rows at.count
members-begin s k o row me above from n {at} {rows} es base b e h =
    subst (λ (c : Cursor). Held (MembersLeft s k o row me (cursor from 0 above n) es) (MembersLeft s k o row me c) base rows c.count) b
    (here (MembersLeft s k o row me) (cursor from 0 above n) es base e h)

pub items-begin : (s : List ℕ) (k : ℕ) (o : Open) (which parent above from n : ℕ) {at : Cursor} {rows : Rows} (es : Entries) (base : Rows)
    → cursor from 0 above n ≡ at → length es ≡ n → rows ≡ overlay es base
    → Held (ItemsLeft s k o which parent (cursor from 0 above n) es) (ItemsLeft s k o which parent at) base rows at.count
items-begin s k o which parent above from n {at} {rows} es base b e h =
    subst (λ (c : Cursor). Held (ItemsLeft s k o which parent (cursor from 0 above n) es) (ItemsLeft s k o which parent c) base rows c.count) b
    (here (ItemsLeft s k o which parent) (cursor from 0 above n) es base e h)
