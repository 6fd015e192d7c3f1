-- The walk keeps to the message: every place that it tells lies in it, and every text, octets, path and sources that an entry keeps. It refuses with the
-- numbers of refusals alone, since its fuel, which is more than what is left of the message, never runs out.
use Rattle.std.specs.Prelude.{Result, Ok, Err}
use Rattle.ber_containers.specs.declared.No.{No}
use Prim.Native.Nat.{ℕ, zero, suc, ◌+◌, ◌-◌, ◌≤◌, ◌<◌}
use mathlib.Core.Path.{◌≡◌, subst}
use mathlib.Core.List.{List, [], ◌∷◌, ◌++◌}
use mathlib.Core.Bool.{true, false}
use native.Mathlib.Omega.{arith}
use lib.ListN.{length, get_or, set}
use lib.Dec.{ltb, eqb}
use types.Run.{miss}
use Rattle.ber_containers.specs.declared.Open.{Open}
use Rattle.ber_containers.specs.declared.Tag.{Tag}
use Rattle.ber_containers.specs.declared.Stands.{Stands}
use Rattle.ber_containers.specs.declared.Stands.TheVariants.{Ended, Here, Refused}
use Rattle.ber_containers.specs.Ends.{no, enter_at, first_at, last_at, is_tag}
use Rattle.base_choices.proofs.Laws.{pick-by}
use Rattle.glow_rows.specs.declared.Cell.{Cell}
use Rattle.glow_rows.specs.Entry.{Entry, Entries, blanks, blank, with_cell, put_cell}
use Rattle.glow_grammar.specs.Grammar.{contents_of}
use Rattle.glow_steps.specs.declared.Member.{Member}
use Rattle.glow_steps.specs.declared.Member.TheVariants.{Done, Over, Leaf, Contents, Items, Refused as NoMember}
use Rattle.glow_steps.specs.declared.Item.{Item}
use Rattle.glow_steps.specs.declared.Item.TheVariants.{Done as NoMore, Element, Refused as NoItem}
use Rattle.glow_steps.specs.Members.{member_at, item_at}
use Rattle.glow_walk.specs.Tree.{Out, closed, on_next, then_closed, on_member, on_item, members_by, items_by}
use Rattle.glow_steps.specs.Root.{unbounded, root_kind, root_in, top_of, top_at}
use Rattle.glow_walk.specs.Walk.{finished, walk_of, walk}
use Rattle.glow_reader.specs.Message.{refusals}
use Rattle.glow_reader.proofs.Places.{NoIn, StandsIn, FoundIn, OntoIn, CellIn, MemberIn, ItemIn, is-30, is-33, onto-earlier, enter-in, first-in, last-in}
use Rattle.glow_reader.proofs.Places.{member-in, item_in}

module _ (s : List ℕ) where
  -- all cells of all entries
  abbrev pub CellsIn : List Cell → Type 0
  CellsIn [] = Unit {0}
  CellsIn (v ∷ vs) = CellIn s v × CellsIn vs

  abbrev pub EntriesIn : Entries → Type 0
  EntriesIn [] = Unit {0}
  EntriesIn (e ∷ es) = CellsIn e.cells × EntriesIn es

  never : {A : Type 0} → false ≡ true → A
  never e = let z : ◌≡◌ {A = ℕ} 0 1 = cc in absurd (omega arith)

  blanks-in : (n : ℕ) → CellsIn (blanks n)
  unfolding blanks
  blanks-in zero = tt
  blanks-in (suc n) = (never, blanks-in n)

  set-in : (vs : List Cell) (c : ℕ) (v : Cell) → CellIn s v → CellsIn vs → CellsIn (set vs c v)
  set-in [] c v i h = tt
  set-in (w ∷ vs) zero v i h = (i, h.1)
  set-in (w ∷ vs) (suc c) v i h = (h.0, set-in vs c v i h.1)

  with_in : (e : Entry) (c : ℕ) (v : Cell) → CellIn s v → CellsIn e.cells → CellsIn (with_cell e c v).cells
  unfolding with_cell
  with_in e c v i h = pick-by (λ (x : Entry). CellsIn x.cells) (ltb c 16) (λ q. set-in e.cells c v i h) (λ q. h)

  at_in : (es : Entries) (i : ℕ) → EntriesIn es → CellsIn (get_or es i (blank 0 0)).cells
  at_in [] i h = blanks-in 16
  at_in (e ∷ es) zero h = h.0
  at_in (e ∷ es) (suc i) h = at_in es i h.1

  change-in : (es : Entries) (i : ℕ) (e : Entry) → CellsIn e.cells → EntriesIn es → EntriesIn (set es i e)
  change-in [] i e k h = tt
  change-in (x ∷ es) zero e k h = (k, h.1)
  change-in (x ∷ es) (suc i) e k h = (h.0, change-in es i e k h.1)

  put_in : (es : Entries) (i c : ℕ) (v : Cell) → CellIn s v → EntriesIn es → EntriesIn (put_cell es i c v)
  unfolding put_cell
  put_in es i c v k h = change-in es i (with_cell (get_or es i (blank 0 0)) c v) (with_in (get_or es i (blank 0 0)) c v k (at_in es i h)) h

  new_in : (es : Entries) (kind parent : ℕ) → EntriesIn es → EntriesIn (es ++ (blank kind parent ∷ []))
  new_in [] kind parent h = (blanks-in 16, tt)
  new_in (e ∷ es) kind parent h = (h.0, new_in es kind parent h.1)

  -- the walk, from the place p on
  abbrev pub OutIn : ℕ → Out → Type 0
  OutIn p x = OntoIn s p x.answer × EntriesIn x.entries

  out-earlier : {p q : ℕ} → p ≤ q → (x : Out) → OutIn q x → OutIn p x
  out-earlier h x w = (onto-earlier s h x.answer w.0, w.1)

  closed_in : (q : ℕ) (outer : Open) (k : ℕ) (a : Result ℕ No) → OntoIn s q a → OntoIn s q (closed s outer k a)
  unfolding closed
  closed_in q outer k (Ok n) w = onto-earlier s w.0 (last_at s n outer k) (last-in s n w.1 outer k)
  closed_in q outer k (Err e) w = w

  module _ (p : ℕ) where
    on-next : {q : ℕ} → p < q → (a : Result ℕ No) (es : Entries) (go : ℕ → Entries → Out) → OntoIn s q a → EntriesIn es
        → ((n : ℕ) (es' : Entries) → p < n → n ≤ length s → EntriesIn es' → OutIn p (go n es')) → OutIn p (on_next a es go)
    on-next l (Ok n) es go w h f = f n es (omega (arith, l, w.0)) w.1 h
    on-next l (Err e) es go w h f = (w, h)

    then-closed : {q : ℕ} → p < q → (outer : Open) (k : ℕ) (x : Out) (go : ℕ → Entries → Out) → OutIn q x
        → ((n : ℕ) (es : Entries) → p < n → n ≤ length s → EntriesIn es → OutIn p (go n es)) → OutIn p (then_closed s outer k x go)
    then-closed {q} l outer k x go w f = on-next l (closed s outer k x.answer) x.entries go (closed_in q outer k x.answer w.0) w.1 f

    on-member : (m : Member) (es : Entries) (over : ℕ → ℕ → Out) (leaf : ℕ → ℕ → Cell → ℕ → ℕ → Out) (contents : ℕ → Open → Tag → ℕ → Out)
        (items : ℕ → ℕ → Open → Tag → ℕ → Out) → MemberIn s p m → EntriesIn es
        → ((before n : ℕ) → p < n → n ≤ length s → OutIn p (over before n))
        → ((before c : ℕ) (v : Cell) (above n : ℕ) → p < n → n ≤ length s → CellIn s v → OutIn p (leaf before c v above n))
        → ((before : ℕ) (outer : Open) (g : Tag) (k : ℕ) → p < g.start → g.start ≤ length s → OutIn p (contents before outer g k))
        → ((before which : ℕ) (outer : Open) (g : Tag) (k : ℕ) → p < g.start → g.start ≤ length s → OutIn p (items before which outer g k))
        → OutIn p (on_member m es over leaf contents items)
    on-member (Done next) es over leaf contents items w h a b c d = (w, h)
    on-member (Over before next) es over leaf contents items w h a b c d = a before next w.0 w.1
    on-member (Leaf before n v above next) es over leaf contents items w h a b c d = b before n v above next w.0 w.1.0 w.1.1
    on-member (Contents before outer g k) es over leaf contents items w h a b c d = c before outer g k w.0 w.1
    on-member (Items before which outer g k) es over leaf contents items w h a b c d = d before which outer g k w.0 w.1
    on-member (NoMember e) es over leaf contents items w h a b c d = (w, h)

    on-item : (m : Item) (es : Entries) (element : ℕ → Open → Tag → ℕ → Out) → ItemIn s p m → EntriesIn es
        → ((kind : ℕ) (outer : Open) (g : Tag) (k : ℕ) → p < g.start → g.start ≤ length s → OutIn p (element kind outer g k)) → OutIn p (on_item m es element)
    on-item (NoMore next) es element w h a = (w, h)
    on-item (Element kind outer g k) es element w h a = a kind outer g k w.0 w.1
    on-item (NoItem e) es element w h a = (w, h)

  -- for every place, with a fuel that is more than what is left of the message
  abbrev MembersIn : ℕ → Type 0
  MembersIn f = (k : ℕ) (o : Open) (row me above p before : ℕ) (es : Entries) → p ≤ length s → length s - p < f → EntriesIn es
      → OutIn p (members_by f s k o row me above p before es)

  abbrev ItemsIn : ℕ → Type 0
  ItemsIn f = (k : ℕ) (o : Open) (which parent above p : ℕ) (es : Entries) → p ≤ length s → length s - p < f → EntriesIn es
      → OutIn p (items_by f s k o which parent above p es)

  module _ (f : ℕ) (m : MembersIn f) (i : ItemsIn f) where
    module _ (p : ℕ) (l : length s - p < suc f) where
      -- one fuel less is enough from a later place on
      less : {n : ℕ} → p < n → n ≤ length s → length s - n < f
      less a b = omega (arith, a, b, l)

      members-on : (k : ℕ) (o : Open) (row me above n before : ℕ) (es : Entries) → p < n → n ≤ length s → EntriesIn es
          → OutIn p (members_by f s k o row me above n before es)
      members-on k o row me above n before es a b w =
          out-earlier (omega arith) (members_by f s k o row me above n before es) (m k o row me above n before es b (less a b) w)

      items-on : (k : ℕ) (o : Open) (which parent above n : ℕ) (es : Entries) → p < n → n ≤ length s → EntriesIn es
          → OutIn p (items_by f s k o which parent above n es)
      items-on k o which parent above n es a b w =
          out-earlier (omega arith) (items_by f s k o which parent above n es) (i k o which parent above n es b (less a b) w)

    members_step : MembersIn (suc f)
    unfolding members_by
    members_step k o row me above p before es h l w =
        on-member p (member_at s p o k row above before) es
        (λ before' next. members_by f s k o row me above next before' es)
        (λ before' c v above' next. members_by f s k o row me above' next before' (put_cell es me c v))
        (λ before' outer g j.
        then_closed s outer j (members_by f s (j - 1) g.inner (contents_of row) me above g.start 0 es)
        (λ next es'. members_by f s k o row me above next before' es'))
        (λ before' which outer g j.
        then_closed s outer j (items_by f s (j - 1) g.inner which (me + 1) above g.start es)
        (λ next es'. members_by f s k o row me above next before' es'))
        (member-in s p h k o row above before) w
        (λ before' next a q. members-on p l k o row me above next before' es a q w)
        (λ before' c v above' next a q r. members-on p l k o row me above' next before' (put_cell es me c v) a q (put_in es me c v r w))
        (λ before' outer g j a q.
        then-closed p a outer j (members_by f s (j - 1) g.inner (contents_of row) me above g.start 0 es)
        (λ next es'. members_by f s k o row me above next before' es')
        (m (j - 1) g.inner (contents_of row) me above g.start 0 es q (less p l a q) w)
        (λ next es' a q r. members-on p l k o row me above next before' es' a q r))
        (λ before' which outer g j a q.
        then-closed p a outer j (items_by f s (j - 1) g.inner which (me + 1) above g.start es)
        (λ next es'. members_by f s k o row me above next before' es')
        (i (j - 1) g.inner which (me + 1) above g.start es q (less p l a q) w)
        (λ next es' a q r. members-on p l k o row me above next before' es' a q r))

    items-step : ItemsIn (suc f)
    unfolding items_by
    items-step k o which parent above p es h l w =
        on-item p (item_at s p o k which) es
        (λ kind outer g j.
        then_closed s outer j (members_by f s (j - 1) g.inner kind (length es) above g.start 0 (es ++ (blank kind parent ∷ [])))
        (λ next es'. items_by f s k o which parent above next es'))
        (item_in s p h k o which) w
        (λ kind outer g j a q.
        then-closed p a outer j (members_by f s (j - 1) g.inner kind (length es) above g.start 0 (es ++ (blank kind parent ∷ [])))
        (λ next es'. items_by f s k o which parent above next es')
        (m (j - 1) g.inner kind (length es) above g.start 0 (es ++ (blank kind parent ∷ [])) q (less p l a q) (new_in es kind parent w))
        (λ next es' a q r. items-on p l k o which parent above next es' a q r))

  members-none : MembersIn zero
  members-none k o row me above p before es h l w = absurd (omega arith)

  items-none : ItemsIn zero
  items-none k o which parent above p es h l w = absurd (omega arith)

  both-in : (f : ℕ) → MembersIn f × ItemsIn f
  both-in zero = (members-none, items-none)
  both-in (suc f) = let r = both-in f in (members_step f r.0 r.1, items-step f r.0 r.1)

  -- the whole message
  abbrev TopIn : Result (ℕ × Open × Tag) No → Type 0
  TopIn (Ok (which, outer, g)) = g.start ≤ length s
  TopIn (Err e) = NoIn s e

  root_in_lem : (t : Tag) → t.start ≤ length s → (x : Result Tag No) → FoundIn s t.start x → TopIn (root_in t x)
  root_in_lem t h (Ok g) w = pick-by TopIn (eqb (root_kind g) 4) (λ e. (h, is-33)) (λ e. w.1)
  root_in_lem t h (Err e) w = w

  top-of : (x : Stands) → StandsIn s 0 x → TopIn (top_of s x)
  top-of (Ended n) w = (omega arith, is-33)
  top-of (Here t) w =
      pick-by TopIn (is_tag t 1 1 0) (λ e. root_in_lem t w.1 (first_at s t.start t.inner 63) (first-in s t.start w.1 t.inner 63))
      (λ e. (omega arith, is-33))
  top-of (Refused e) w = w

  top_in : TopIn (top_at s)
  unfolding top_at
  top_in = top-of (enter_at s 0 unbounded 64) (enter-in s 0 (omega arith) unbounded 64)

  finished-in : (p : ℕ) (a : Result ℕ No) → OntoIn s p a → OntoIn s p (finished s a)
  unfolding finished
  finished-in p (Ok n) w = pick-by (OntoIn s p) (eqb n (length s)) (λ e. w) (λ e. (w.1, is-30))
  finished-in p (Err e) w = w

  walk-of : (x : Result (ℕ × Open × Tag) No) → TopIn x → OutIn 0 (walk_of s x).out
  walk-of (Ok (which, outer, g)) w =
      let r = (both-in (suc (length s))).1 62 g.inner which 0 0 g.start [] w (omega arith) tt in
      let x : Out = items_by (suc (length s)) s 62 g.inner which 0 0 g.start [] in
      out-earlier (omega arith) (walk_of s (Ok (which, outer, g))).out
      (finished-in g.start (closed s outer 63 x.answer) (closed_in g.start outer 63 x.answer r.0), r.1)
  walk-of (Err e) w = (w, tt)

  pub walk-in : OutIn 0 (walk s).out
  unfolding walk
  walk-in = walk-of (top_at s) top_in

  -- The fuel that the walk is given never runs out: that would be a refusal of number 0.
  pub fuel-enough : {place : ℕ} → (walk s).out.answer ≡ Err (no 0 place) → ⊥
  fuel-enough e = miss refusals 0 tt (subst (OntoIn s 0) e walk-in.0).1
