-- What the answer 0 says of a message: its entries are those of a legal tree, and they stand in the table's first rows.
use Rattle.std.specs.Prelude.{Ok, Err, Result as Fallible}
use Rattle.ber_containers.specs.declared.No.{No}
use Prim.Native.Nat.{ℕ, ◌≤◌}
use mathlib.Core.Path.{◌≡◌, refl, sym, ap, subst, ◌∙◌}
use mathlib.Core.List.{List}
use mathlib.Core.Bool.{Bool, true, false}
use native.Mathlib.Omega.{arith}
use borrow.Author.Tests.{ltb-false}
use lib.ListN.{length}
use lib.Dec.{ltb}
use Rattle.base_choices.specs.Choices.{pick}
use Rattle.base_choices.proofs.Laws.{pick-by}
use Rattle.ber_integers.proofs.Radix.{Below}
use Rattle.glow_rows.specs.Entry.{Entries, Rows, overlay}
use Rattle.glow_reader.specs.declared.Answer.{Answer}
use Rattle.glow_reader.specs.declared.Answer.TheVariants.{Read}
use Rattle.glow_walk.specs.Walk.{walk}
use Rattle.glow_reader.specs.Message.{reply_by, Result, read_of, read_at, setup}
use Rattle.glow_reader.proofs.Answers.{is_read}
use Rattle.glow_trees.specs.Rows.{items_in}
use Rattle.glow_trees.specs.Trees.{Trees, flat}
use Rattle.glow_trees.specs.Legal.{legal_root}
use Rattle.glow_trees.specs.Written.{message_octets}
use Rattle.trees_read_back.proofs.Bools.{never}
use Rattle.trees_accepted.proofs.Message.{Tree, is-least}
use Rattle.glow_member_sizes.specs.Spelling.{least_real}
use Rattle.trees_round_trip.proofs.Reals.{reals-least}
use Rattle.trees_round_trip.proofs.Rows.{rows-items, tree-sixteen}

-- the walk of a message that is read, and the table after it
pub record Walked (s : List ℕ) (table : Rows) (root count : ℕ) (rows' : Rows) : Type 0 where
  pub few : length s ≤ 16384
  pub most : length table ≤ 256
  pub next : ℕ
  pub answer : (walk s).out.answer ≡ Ok next
  pub which : (walk s).which ≡ root
  pub counts : length (walk s).out.entries ≡ count
  pub room : count ≤ length table
  pub holds : rows' ≡ overlay (walk s).out.entries table

module _ (s : List ℕ) (table : Rows) (root count : ℕ) where
  abbrev Says : Result → Type 0
  Says x = x.answer ≡ Read root count → Walked s table root count x.rows

  of-walk : length s ≤ 16384 → length table ≤ 256 → (a : Fallible ℕ No) → (walk s).out.answer ≡ a → Says (read_of table (walk s).which (walk s).out.entries a)
  of-walk f m (Ok next) q =
      pick-by Says (ltb (length table) (length (walk s).out.entries)) (λ e h. never (ap is_read h))
      (λ e h.
      let c : length (walk s).out.entries ≡ count = ap (λ (x : Answer). (reply_by x).count) h in
      let l = ltb-false (length table) (length (walk s).out.entries) e in
      record {
        few = f;
        most = m;
        next = next;
        answer = q;
        which = ap (λ (x : Answer). (reply_by x).root) h;
        counts = c;
        room = omega arith;
        holds = refl;
      })
  of-walk f m (Err e) q = λ h. never (ap is_read h)

  bounds : setup (length s) (length table) ≡ false → (length s ≤ 16384) × (length table ≤ 256)
  unfolding setup
  bounds = go (ltb 256 (length table)) refl
    where
      go : (b : Bool) → ltb 256 (length table) ≡ b → pick b true (ltb 16384 (length s)) ≡ false → (length s ≤ 16384) × (length table ≤ 256)
      go true e h = never (sym h)
      go false e h = (ltb-false _ _ h, ltb-false _ _ e)

  pub read_walk : (read_at s table).answer ≡ Read root count → Walked s table root count (read_at s table).rows
  unfolding read_at
  read_walk =
      pick-by Says (setup (length s) (length table)) (λ e h. never (ap is_read h))
      (λ e. let b = bounds e in of-walk b.0 b.1 (walk s).out.answer refl)

-- the tree that is read: its entries are what the rows hold, and its least message is no longer than the one read
pub record ReadTree (s : List ℕ) (root count : ℕ) (rows' : Rows) : Type 0 where
  pub tree : Trees
  pub legals : legal_root root tree ≡ true
  pub items : items_in s rows' count ≡ flat 0 0 tree
  pub size : length (message_octets least_real root tree) ≤ 16384

pub tree-read : (s : List ℕ) → Below 256 s → (table : Rows) (root count : ℕ) → (read_at s table).answer ≡ Read root count
    → ReadTree s root count (read_at s table).rows
tree-read s octets table root count e =
    let w = read_walk s table root count e in
    let es : Entries = (walk s).out.entries in
    let t : Tree s least_real root es =
    subst (λ (i : ℕ). Tree s least_real i es) w.which (is-least s octets w.few least_real reals-least w.answer) in
    let n = w.counts in
    let r = w.room in
    let f = w.few in
    let z = t.size in
    let l : length es ≤ length table = omega arith in
    record {
      tree = t.tree;
      legals = t.legals;
      items =
          ap (λ (x : Rows). items_in s x count) w.holds
          ∙ ap (items_in s (overlay es table)) (sym n)
          ∙ rows-items s es table (tree-sixteen s es root t.tree t.legals t.entries) l
          ∙ t.entries;
      size = omega arith;
    }
