-- Whatever message the reader accepts, its entries are those of a legal tree (`is-legal`) and make it (`makes-tree`), and it is no shorter than the least
-- message of that tree (`is-least`, `no-shorter`).
use Rattle.std.specs.Prelude.{Result, Ok, Err}
use Rattle.ber_containers.specs.declared.No.{No}
use Prim.Native.Nat.{ℕ, suc, ◌+◌, ◌≤◌}
use mathlib.Core.Path.{◌≡◌, refl, sym, ap, subst, ◌∙◌}
use mathlib.Core.List.{List, []}
use mathlib.Core.Bool.{Bool, true, false}
use native.Mathlib.Omega.{arith}
use borrow.Author.Tests.{eqb-true, eqb-false}
use lib.ListN.{length}
use lib.Dec.{eqb}
use Rattle.base_choices.specs.Choices.{pick}
use Rattle.base_choices.proofs.Laws.{pick-by, both-make}
use Rattle.ber_integers.proofs.Radix.{Below}
use Rattle.ber_containers.specs.declared.Open.{Open}
use Rattle.ber_containers.specs.declared.Tag.{Tag}
use Rattle.ber_containers.specs.declared.Stands.{Stands}
use Rattle.ber_containers.specs.declared.Stands.TheVariants.{Ended, Here, Refused}
use Rattle.ber_containers.specs.Ends.{enter_at, first_at, last_at, is_tag}
use Rattle.glow_rows.specs.Entry.{Entries}
use Rattle.glow_grammar.specs.Grammar.{root_of}
use Rattle.glow_grammar.proofs.Tables.{root_by, root-short}
use Rattle.glow_walk.specs.Tree.{Out, closed, items_by}
use Rattle.glow_steps.specs.Root.{unbounded, root_kind, root_in, top_of, top_at}
use Rattle.glow_walk.specs.Walk.{finished, walk_of, walk}
use Rattle.glow_trees.specs.Content.{items_of}
use Rattle.glow_trees.specs.Trees.{Trees, flat, taken, trees_of}
use Rattle.glow_trees.specs.Legal.{is_root, legal, legal_root}
use Rattle.glow_trees.specs.Written.{tagged, trees_octets, root_number, message_octets}
use Rattle.trees_accepted.proofs.Sizes.{around, tagged-size}
use Rattle.trees_accepted.proofs.Spans.{Closes, Begins, EnterTell, FirstTell, LastTell, enter-tells, first-tells, last-tells}
use Rattle.trees_accepted.proofs.Leaves.{RealsLeast}
use Rattle.trees_accepted.proofs.Turns.{Inside, inside_of, tag-form}
use Rattle.trees_accepted.proofs.Walks.{AnswerTell}
use Rattle.trees_accepted.proofs.Elements.{ItemsRead}
use Rattle.trees_accepted.proofs.Accepts.{items-walk}
use Rattle.trees_accepted.proofs.Once.{made_again, once}

-- the entries of a message are those of a legal tree, and the tree's least message is no longer
pub record Tree (s : List ℕ) (least : ℕ → List ℕ) (which : ℕ) (es : Entries) : Type 0 where
  pub tree : Trees
  pub legals : legal_root which tree ≡ true
  pub entries : items_of s es ≡ flat 0 0 tree
  pub size : length (message_octets least which tree) ≤ length s

module _ (s : List ℕ) (octets : Below 256 s) (short : length s ≤ 16384) (least : ℕ → List ℕ) (reals : RealsLeast least) where
  abbrev TopTell : Result (ℕ × Open × Tag) No → Type 0
  TopTell (Ok (which, outer, g)) = (is_root which ≡ true) × Inside s octets short least reals 0 64 outer g 63
  TopTell (Err e) = Unit {0}

  root_is : (number : ℕ) → (root_of number ≡ 4 → ⊥) → is_root (root_of number) ≡ true
  root_is number = root_by (λ (which : ℕ). (which ≡ 4 → ⊥) → is_root which ≡ true) number (λ e n. refl) (λ e n. refl) (λ n. absurd (n refl))

  root-kind : (g : Tag) → (root_kind g ≡ 4 → ⊥) → (is_root (root_kind g) ≡ true) × (g.constructed ≡ 1)
  unfolding root_kind
  root-kind g = go (is_tag g 1 1 g.number) refl
    where
      go : (b : Bool) → is_tag g 1 1 g.number ≡ b → (pick b (root_of g.number) 4 ≡ 4 → ⊥)
          → (is_root (pick b (root_of g.number) 4) ≡ true) × (g.constructed ≡ 1)
      go true e n = (root_is g.number n, tag-form g 1 1 g.number e)
      go false e n = absurd (n refl)

  root_in_lem : (t : Tag) (b : Begins s 0 t) (x : Result Tag No) → FirstTell s octets t.start b.within t.inner 63 x → TopTell (root_in t x)
  root_in_lem t b (Ok g) w =
      pick-by TopTell (eqb (root_kind g) 4) (λ e. tt)
      (λ e. let r = root-kind g (eqb-false (root_kind g) 4 e) in (r.0, inside_of s octets short least reals 0 64 t g b w.0 (omega arith) (omega arith)))
  root_in_lem t b (Err e) w = tt

  begins : 0 ≤ length s
  begins = omega arith

  top-of : (x : Stands) → EnterTell s octets 0 begins unbounded 64 x → TopTell (top_of s x)
  top-of (Ended n) w = tt
  top-of (Here t) w =
      pick-by TopTell (is_tag t 1 1 0)
      (λ e. root_in_lem t w.0 (first_at s t.start t.inner 63) (first-tells s octets t.start w.0.within t.inner 63)) (λ e. tt)
  top-of (Refused e) w = tt

  top-tells : TopTell (top_at s)
  unfolding top_at
  top-tells = top-of (enter_at s 0 unbounded 64) (enter-tells s octets 0 begins unbounded 64)

  message-size : (which : ℕ) (t : Trees) → length (message_octets least which t) ≡ around (around (length (trees_octets least t)))
  unfolding message_octets
  message-size which t =
      tagged-size 1 true 0 (tagged 1 true (root_number which) (trees_octets least t)) (omega arith)
      ∙ ap around (tagged-size 1 true (root_number which) (trees_octets least t) (root-short which))

  module _ (which : ℕ) (outer : Open) (g : Tag) (root : is_root which ≡ true) (inside : Inside s octets short least reals 0 64 outer g 63) where
    abbrev Claim : ℕ → Entries → Type 0
    Claim n es = Tree s least which es

    whole : {q n : ℕ} {es : Entries} → ItemsRead s octets short least reals 62 g.inner which 0 0 g.start [] q es → Closes outer q n
        → n ≡ length s → Tree s least which es
    unfolding legal_root
    whole {q} {n} {es} r c e =
        let m = length (trees_octets least r.trees) in
        let took : 0 + around (around m) ≤ n = inside.holds m r.last q n r.size r.closes r.ends c in
        record {
          tree = r.trees;
          legals = both-make (is_root which) (legal which 62 0 r.trees) root r.legals;
          entries = ap (items_of s) r.adds ∙ r.flats;
          size = omega (arith, message-size which r.trees);
        }

    finish-tells : (q : ℕ) (es : Entries) → ItemsRead s octets short least reals 62 g.inner which 0 0 g.start [] q es
        → (h : q ≤ length s) (a : Result ℕ No) → LastTell s octets q h outer a → AnswerTell Claim (finished s a) es
    unfolding finished
    finish-tells q es r h (Ok n) w =
        pick-by (λ (a : Result ℕ No). AnswerTell Claim a es) (eqb n (length s)) (λ e. whole r w.0 (eqb-true n (length s) e)) (λ e. tt)
    finish-tells q es r h (Err e) w = tt

    closed-tells : (a : Result ℕ No) (es : Entries) → AnswerTell (ItemsRead s octets short least reals 62 g.inner which 0 0 g.start []) a es
        → AnswerTell Claim (finished s (closed s outer 63 a)) es
    unfolding closed finished
    closed-tells (Ok q) es r = finish-tells q es r r.ends (last_at s q outer 63) (last-tells s octets q r.ends outer 63)
    closed-tells (Err e) es r = tt

  walk-of : (x : Result (ℕ × Open × Tag) No) → TopTell x → AnswerTell (λ n es. Tree s least (walk_of s x).which es) (walk_of s x).out.answer (walk_of s x).out.entries
  walk-of (Ok (which, outer, g)) w =
      let x : Out = items_by (suc (length s)) s 62 g.inner which 0 0 g.start [] in
      closed-tells which outer g w.0 w.1 x.answer x.entries
      (items-walk s octets short least reals (suc (length s)) 62 g.inner which 0 0 g.start [] w.1.starts (omega arith))
  walk-of (Err e) w = tt

  -- Whatever message the reader accepts: its entries are those of a legal tree, and the tree's least message is no longer.
  pub is-least : {n : ℕ} → (walk s).out.answer ≡ Ok n → Tree s least (walk s).which (walk s).out.entries
  unfolding walk
  is-least e = subst (λ (a : Result ℕ No). AnswerTell (λ n es. Tree s least (walk s).which es) a (walk s).out.entries) e (walk-of (top_at s) top-tells)

  -- Of all messages with the entries of a legal tree that the reader accepts, none is shorter than the tree's least.
  pub no-shorter : {n : ℕ} → (walk s).out.answer ≡ Ok n → (t : Trees) → legal_root (walk s).which t ≡ true
      → items_of s (walk s).out.entries ≡ flat 0 0 t → length (message_octets least (walk s).which t) ≤ length s
  no-shorter e t l q =
      let r = is-least e in
      subst (λ (u : Trees). length (message_octets least (walk s).which u) ≤ length s) (once (walk s).which r.tree t r.legals l (sym r.entries ∙ q))
      r.size

-- Whatever message the reader accepts, its entries are those of a legal tree.
pub is-legal : (s : List ℕ) → Below 256 s → length s ≤ 16384 → {n : ℕ} → (walk s).out.answer ≡ Ok n
    → (t : Trees) × ((legal_root (walk s).which t ≡ true) × (items_of s (walk s).out.entries ≡ flat 0 0 t))
is-legal s octets short e =
    let r = is-least s octets short (λ w. []) (λ bs x b q. omega arith) e in
    (r.tree, (r.legals, r.entries))

-- .. and they make that tree.
pub makes-tree : (s : List ℕ) → Below 256 s → length s ≤ 16384 → {n : ℕ} → (walk s).out.answer ≡ Ok n
    → (t : Trees) × ((legal_root (walk s).which t ≡ true) × (trees_of (walk s).which (items_of s (walk s).out.entries) ≡ taken t []))
makes-tree s octets short e =
    let r = is-legal s octets short e in
    (r.0, (r.1.0, ap (trees_of (walk s).which) r.1.1 ∙ made_again (walk s).which r.0 r.1.0))
