-- The walk by its answers: a fact about what it gives, from a fact for each way on.
use Rattle.std.specs.Prelude.{Result, Ok, Err}
use Rattle.ber_containers.specs.declared.No.{No}
use Prim.Native.Nat.{ℕ, ◌≤◌}
use mathlib.Core.Path.{◌≡◌}
use mathlib.Core.List.{List}
use mathlib.Core.Bool.{true, false}
use lib.ListN.{length}
use Rattle.ber_integers.proofs.Radix.{Below}
use Rattle.ber_containers.specs.declared.Open.{Open}
use Rattle.ber_containers.specs.declared.Tag.{Tag}
use Rattle.ber_containers.specs.Ends.{last_at}
use Rattle.glow_rows.specs.declared.Cell.{Cell}
use Rattle.glow_rows.specs.Entry.{Entries}
use Rattle.glow_grammar.specs.Grammar.{rule_of, collection_of}
use Rattle.glow_steps.specs.declared.Member.{Member}
use Rattle.glow_steps.specs.declared.Member.TheVariants.{Done, Over, Leaf, Contents, Items, Refused as NoMember}
use Rattle.glow_steps.specs.declared.Item.{Item}
use Rattle.glow_steps.specs.declared.Item.TheVariants.{Done as NoMore, Element, Refused as NoItem}
use Rattle.glow_steps.specs.Members.{due}
use Rattle.glow_walk.specs.Tree.{Out, closed, on_next, then_closed, on_member, on_item}
use Rattle.glow_trees.specs.Trees.{stands_in}
use Rattle.trees_accepted.proofs.Spans.{Closes, LastTell, last-tells}
use Rattle.trees_accepted.proofs.Leaves.{RealsLeast}
use Rattle.trees_accepted.proofs.Turns.{Inside, LeafRead, OverRead, InnerRead, MemberTell, ItemTell}

-- what is claimed of the place and the entries where the walk goes on, and nothing where it stops
abbrev pub AnswerTell : (ℕ → Entries → Type 0) → Result ℕ No → Entries → Type 0
AnswerTell C (Ok q) es = C q es
AnswerTell C (Err e) es = Unit {0}

abbrev pub OutTell : (ℕ → Entries → Type 0) → Out → Type 0
OutTell C x = AnswerTell C x.answer x.entries

module _ (s : List ℕ) (octets : Below 256 s) where
  closed-tells : (outer : Open) (j q : ℕ) → q ≤ length s → (D : ℕ → Entries → Type 0) (go : ℕ → Entries → Out) (es : Entries)
      → ((n : ℕ) → Closes outer q n → n ≤ length s → OutTell D (go n es)) → OutTell D (on_next (last_at s q outer j) es go)
  closed-tells outer j q h D go es f = by (last_at s q outer j) (last-tells s octets q h outer j)
    where
      by : (a : Result ℕ No) → LastTell s octets q h outer a → OutTell D (on_next a es go)
      by (Ok n) w = f n w.0 w.1
      by (Err e) w = tt

  -- what was read inside an outer tag, and what comes after it
  pub then-tells : (outer : Open) (j : ℕ) (C D : ℕ → Entries → Type 0) (x : Out) (go : ℕ → Entries → Out) → OutTell C x
      → ((q : ℕ) (es : Entries) → C q es → q ≤ length s)
      → ((q n : ℕ) (es : Entries) → C q es → Closes outer q n → n ≤ length s → OutTell D (go n es)) → OutTell D (then_closed s outer j x go)
  unfolding closed
  then-tells outer j C D x go w h f = by x.answer x.entries w
    where
      by : (a : Result ℕ No) (es : Entries) → AnswerTell C a es → OutTell D (on_next (closed s outer j a) es go)
      by (Ok q) es c = closed-tells outer j q (h q es c) D go es (λ n d l. f q n es c d l)
      by (Err e) es c = tt

  module _ (short : length s ≤ 16384) (least : ℕ → List ℕ) (reals : RealsLeast least) (p k : ℕ) (o : Open) (D : ℕ → Entries → Type 0) (es : Entries) where
    module _ (row above before : ℕ) where
      pub member-walks : (m : Member) (over : ℕ → ℕ → Out) (leaf : ℕ → ℕ → Cell → ℕ → ℕ → Out) (contents : ℕ → Open → Tag → ℕ → Out)
          (items : ℕ → ℕ → Open → Tag → ℕ → Out) → MemberTell s octets short least reals p k row above before o m
          → ((next : ℕ) → Closes o p next → next ≤ length s → due row before 268435456 ≡ false → D next es)
          → ((after next : ℕ) → OverRead s octets short least reals p k row above before after next → OutTell D (over after next))
          → ((after c : ℕ) (v : Cell) (path next : ℕ) → LeafRead s octets short least reals p k row above before after c v path next
          → OutTell D (leaf after c v path next))
          → ((after : ℕ) (outer : Open) (g : Tag) (j : ℕ) (r : InnerRead s octets short least reals p k row above before after outer g j)
          → rule_of row r.n ≡ 13 → OutTell D (contents after outer g j))
          → ((after which : ℕ) (outer : Open) (g : Tag) (j : ℕ) (r : InnerRead s octets short least reals p k row above before after outer g j)
          → (rule_of row r.n ≡ 13 → ⊥) → which ≡ collection_of (rule_of row r.n) → OutTell D (items after which outer g j))
          → OutTell D (on_member m es over leaf contents items)
      member-walks (Done next) over leaf contents items w a b c d e = a next w.0.0 w.0.1 w.1
      member-walks (Over after next) over leaf contents items w a b c d e = b after next w
      member-walks (Leaf after n v path next) over leaf contents items w a b c d e = c after n v path next w
      member-walks (Contents after outer g j) over leaf contents items w a b c d e = d after outer g j w.0 w.1
      member-walks (Items after which outer g j) over leaf contents items w a b c d e = e after which outer g j w.0 w.1.0 w.1.1
      member-walks (NoMember x) over leaf contents items w a b c d e = tt

    module _ (which : ℕ) where
      pub item-walks : (m : Item) (element : ℕ → Open → Tag → ℕ → Out) → ItemTell s octets short least reals p k which o m
          → ((next : ℕ) → Closes o p next → next ≤ length s → D next es)
          → ((kind : ℕ) (outer : Open) (g : Tag) (j : ℕ) → stands_in which kind ≡ true → Inside s octets short least reals p k outer g j
          → OutTell D (element kind outer g j))
          → OutTell D (on_item m es element)
      item-walks (NoMore next) element w a b = a next w.0 w.1
      item-walks (Element kind outer g j) element w a b = b kind outer g j w.0 w.1
      item-walks (NoItem e) element w a b = tt
