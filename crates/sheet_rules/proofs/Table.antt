-- "the tree's": what a sheet's message gives is what the tree reader answers with a table of 256 entries, whatever the table held.
use Rattle.ber_containers.specs.declared.No.{No as Refusal}
use Rattle.std.specs.Prelude.{Result, Ok, Err}
use Prim.Native.Nat.{ℕ, ◌≤◌}
use mathlib.Core.Path.{◌≡◌, refl, ap}
use mathlib.Core.List.{List}
use mathlib.Core.Bool.{Bool, true, false}
use native.Mathlib.Omega.{arith}
use borrow.Author.Tests.{le-ltb, ltb-false}
use lib.ListN.{length}
use lib.Dec.{ltb}
use Rattle.base_choices.specs.Choices.{pick}
use Rattle.ber_integers.proofs.Radix.{Below}
use Rattle.glow_rows.specs.Entry.{Entries, Rows, overlay}
use Rattle.glow_reader.specs.declared.Answer.{Answer}
use Rattle.glow_reader.specs.declared.Answer.TheVariants.{Setup, Refused as No, Room, Read}
use Rattle.glow_walk.specs.Walk.{walk}
use Rattle.glow_reader.specs.Message.{read_result, read_of, read_at, setup}
use Rattle.glow_trees.specs.Content.{items_of}
use Rattle.glow_trees.specs.Rows.{items_in}
use Rattle.trees_accepted.proofs.Message.{is-least}
use Rattle.glow_member_sizes.specs.Spelling.{least_real}
use Rattle.trees_round_trip.proofs.Reals.{reals-least}
use Rattle.trees_round_trip.proofs.Rows.{rows-items, tree-sixteen}
use Rattle.sheet_rules.specs.Reading.{Sheet, refused, of_entries, of_answer, of_message}

-- what follows from the tree reader's answer, with the table after it
abbrev pub of_table : List ℕ → Rows → Answer → Sheet
of_table m rows Setup = refused 1
of_table m rows (No number place) = refused number
of_table m rows (Room count) = refused 38
of_table m rows (Read root count) = of_entries (items_in m rows count)

module _ (m : List ℕ) (octets : Below 256 m) (few : length m ≤ 16384) (table : Rows) (long : length table ≡ 256) where
  abbrev es : Entries
  es = (walk m).out.entries

  not-setup : setup (length m) (length table) ≡ false
  unfolding setup
  not-setup = let l : length table ≤ 256 = omega arith in rw (le-ltb _ _ l, le-ltb _ _ few) refl

  by-walk : (a : Result ℕ Refusal) → (walk m).out.answer ≡ a
      → of_table m (read_of table (walk m).which es a).rows (read_of table (walk m).which es a).answer ≡ of_answer m es a
  by-walk (Err e) q = refl
  by-walk (Ok n) q = rw long (go (ltb 256 (length es)) refl)
    where
      go : (u : Bool) → ltb 256 (length es) ≡ u
          → of_table m (pick u (read_result (Room (length es)) table) (read_result (Read (walk m).which (length es)) (overlay es table))).rows
          (pick u (read_result (Room (length es)) table) (read_result (Read (walk m).which (length es)) (overlay es table))).answer
          ≡ pick u (refused 38) (of_entries (items_of m es))
      go true h = refl
      go false h =
          let t = is-least m octets few least_real reals-least q in
          let l = ltb-false 256 (length es) h in
          let k : length es ≤ length table = omega arith in
          ap of_entries (rows-items m es table (tree-sixteen m es (walk m).which t.tree t.legals t.entries) k)

  pub table-answer : of_table m (read_at m table).rows (read_at m table).answer ≡ of_message m
  unfolding read_at of_message
  table-answer = rw not-setup (by-walk (walk m).out.answer refl)
