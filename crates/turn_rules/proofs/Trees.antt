-- The tree reader's answer and the entries in the table, by the bytes and the table's length.
use Rattle.std.specs.Prelude.{Result, Ok, Err}
use Rattle.ber_containers.specs.declared.No.{No}
use Prim.Native.Nat.{ℕ, ◌≤◌}
use mathlib.Core.Bool.{Bool, true, false}
use mathlib.Core.List.{List}
use mathlib.Core.Path.{◌≡◌, refl, sym, ap, ◌∙◌}
use native.Mathlib.Omega.{arith}
use lib.Dec.{ltb}
use lib.ListN.{length}
use Rattle.base_choices.specs.Choices.{pick}
use Rattle.ber_integers.proofs.Radix.{Below}
use Rattle.glow_rows.specs.Entry.{Entries, Rows, overlay}
use Rattle.glow_reader.specs.declared.Answer.{Answer}
use Rattle.glow_reader.specs.declared.Answer.TheVariants.{Setup, Refused, Room, Read}
use Rattle.glow_walk.specs.Walk.{walk}
use Rattle.glow_reader.specs.Message.{reply_by, read_result, read_of, read_at, setup}
use Rattle.glow_trees.specs.Content.{Item, items_of}
use Rattle.glow_trees.specs.Rows.{items_in}
use Rattle.trees_accepted.proofs.Lists.{items-length}
use Rattle.trees_accepted.proofs.Message.{is-legal}
use Rattle.trees_round_trip.proofs.Rows.{rows-items, tree-sixteen}
use Rattle.trees_round_trip.proofs.Reading.{Walked, read_walk}
use Rattle.turn_rules.specs.Rules.{Tree, entries, refusal, tree_by, tree_of}
use Rattle.turn_rules.specs.Turns.{is_read}

-- by the answer
abbrev tree_for : Answer → List Item → Tree
tree_for Setup es = refusal (reply_by Setup)
tree_for (Refused number place) es = refusal (reply_by (Refused number place))
tree_for (Room count) es = refusal (reply_by (Room count))
tree_for (Read root count) es = entries (reply_by (Read root count)) es

for-by : (s : List ℕ) (table : Rows) (which : ℕ) (es : Entries) (a : Result ℕ No)
    → tree_by (length table) which (items_of s es) a ≡ tree_for (read_of table which es a).answer (items_of s es)
for-by s table which es (Ok next) = rw (items-length s es) (go (ltb (length table) (length es)))
  where
    go : (u : Bool)
        → pick u (refusal (reply_by (Room (length es)))) (entries (reply_by (Read which (length es))) (items_of s es))
        ≡ tree_for (pick u (read_result (Room (length es)) table) (read_result (Read which (length es)) (overlay es table))).answer (items_of s es)
    go true = refl
    go false = refl
for-by s table which es (Err e) = refl

tree-for : (s : List ℕ) (table : Rows) → tree_of s (length table) ≡ tree_for (read_at s table).answer (items_of s (walk s).out.entries)
unfolding tree_of read_at
tree-for s table = go (setup (length s) (length table))
  where
    go : (u : Bool)
        → pick u (refusal (reply_by Setup)) (tree_by (length table) (walk s).which (items_of s (walk s).out.entries) (walk s).out.answer)
        ≡ tree_for (pick u (read_result Setup table) (read_of table (walk s).which (walk s).out.entries (walk s).out.answer)).answer
        (items_of s (walk s).out.entries)
    go true = refl
    go false = for-by s table (walk s).which (walk s).out.entries (walk s).out.answer

-- another answer than 0
refused-for : (a : Answer) (es : List Item) → is_read a ≡ false → tree_for a es ≡ refusal (reply_by a)
refused-for Setup es h = refl
refused-for (Refused number place) es h = refl
refused-for (Room count) es h = refl
refused-for (Read root count) es h = let z : ◌≡◌ {A = ℕ} 0 1 = cc in absurd (omega arith)

pub tree-refused : (s : List ℕ) (table : Rows) (a : Answer) → (read_at s table).answer ≡ a → is_read a ≡ false → tree_of s (length table) ≡ refusal (reply_by a)
tree-refused s table a e h = tree-for s table ∙ ap (λ (x : Answer). tree_for x (items_of s (walk s).out.entries)) e ∙ refused-for a _ h

-- .. and after 0 the entries are those in the table's first rows
module _ (s : List ℕ) (octets : Below 256 s) (table : Rows) (root count : ℕ) (h : (read_at s table).answer ≡ Read root count) where
  w : Walked s table root count (read_at s table).rows
  w = read_walk s table root count h

  abbrev es : Entries
  es = (walk s).out.entries

  in_rows : items_in s (read_at s table).rows count ≡ items_of s es
  in_rows =
      let l = is-legal s octets w.few w.answer in
      let n = w.counts in
      let r = w.room in
      let k : length es ≤ length table = omega arith in
      ap (λ (x : Rows). items_in s x count) w.holds
      ∙ ap (items_in s (overlay es table)) (sym w.counts)
      ∙ rows-items s es table (tree-sixteen s es (walk s).which l.0 l.1.0 l.1.1) k

  pub tree-read : tree_of s (length table) ≡ entries (reply_by (Read root count)) (items_in s (read_at s table).rows count)
  tree-read =
      tree-for s table
      ∙ ap (λ (x : Answer). tree_for x (items_of s es)) h
      ∙ ap (entries (reply_by (Read root count))) (sym in_rows)
