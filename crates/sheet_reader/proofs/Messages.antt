-- From a message to its entries, as they stand in the table's first rows.
use Rattle.std.specs.Prelude.{Ok, Err, Result as Fallible}
use Rattle.ber_containers.specs.declared.No.{No}
use Prim.Native.Nat.{ℕ, suc, ◌≤◌, ◌<◌}
use mathlib.Core.Path.{◌≡◌, refl, sym, ap, subst, ◌∙◌}
use mathlib.Core.List.{List, [], ◌∷◌}
use mathlib.Core.Bool.{Bool, true, false}
use native.Mathlib.Omega.{arith}
use borrow.Author.Tests.{le-ltb}
use lib.Dec.{ltb}
use lib.ListN.{length, get_or}
use Rattle.base_choices.specs.Choices.{pick}
use Rattle.ber_integers.proofs.Radix.{Below}
use Rattle.glow_rows.specs.Entry.{Entries, Rows, overlay}
use Rattle.glow_reader.specs.declared.Answer.{Answer}
use Rattle.glow_reader.specs.declared.Answer.TheVariants as glow
use Rattle.glow_walk.specs.Walk.{walk}
use Rattle.glow_reader.specs.Message.{Result, read_result, read_of, read_at, setup}
use Rattle.glow_reader.proofs.Answers.{rows-kept}
use Rattle.glow_trees.specs.Content.{items_of}
use Rattle.glow_trees.specs.Rows.{items_in}
use Rattle.glow_sizes.specs.Accepted.{accepted}
use Rattle.trees_accepted.proofs.Message.{is-legal}
use Rattle.trees_round_trip.proofs.Rows.{rows-items, tree-sixteen}
use Rattle.trees_round_trip.proofs.Reading.{read_walk}
use Rattle.trees_round_trip.proofs.Rewriting.{in_rows}
use Rattle.trees_round_trip.proofs.Theorems.{read-accepted}
use Rattle.sheet_rules.specs.Reading as reading
use Rattle.sheet_rules.specs.Reading.{refused, of_entries, of_answer, of_message}
use Rattle.sheet_reader.specs.declared.Sheet.{Sheet}
use Rattle.sheet_reader.specs.declared.Sheet.TheVariants.{Refused}
use Rattle.sheet_reader.specs.Calls.{leaves}
use Rattle.sheet_reader.specs.Steps.{Tells}

-- the bytes of a slice are octets
pub octets-all : (s : List ℕ) → ((i : ℕ) → get_or s i 0 < 256) → Below 256 s
octets-all [] h = tt
octets-all (x ∷ xs) h = (h 0, octets-all xs (λ i. h (suc i)))

module _ (m : List ℕ) (table : Rows) (few : length m ≤ 16384) (sized : length table ≡ 256) where
  -- by the tree reader's answer
  abbrev sheet_for : Answer → Entries → reading.Sheet
  sheet_for glow.Setup es = refused 1
  sheet_for (glow.Refused number place) es = refused number
  sheet_for (glow.Room count) es = refused 38
  sheet_for (glow.Read root count) es = of_entries (items_of m es)

  for-answer : (which : ℕ) (es : Entries) (a : Fallible ℕ No) → of_answer m es a ≡ sheet_for (read_of table which es a).answer es
  for-answer which es (Ok next) = rw sized (go (ltb 256 (length es)))
    where
      go : (u : Bool) → pick u (refused 38) (of_entries (items_of m es))
          ≡ sheet_for (pick u (read_result (glow.Room (length es)) table) (read_result (glow.Read which (length es)) (overlay es table))).answer es
      go true = refl
      go false = refl
  for-answer which es (Err e) = refl

  not-setup : setup (length m) (length table) ≡ false
  unfolding setup
  not-setup = let l : length table ≤ 256 = omega arith in rw (le-ltb _ _ l, le-ltb _ _ few)

  read_is : read_at m table ≡ read_of table (walk m).which (walk m).out.entries (walk m).out.answer
  unfolding read_at
  read_is = rw not-setup

  by_answer : (a : Answer) (after : Rows) → read_at m table ≡ read_result a after → of_message m ≡ sheet_for a (walk m).out.entries
  unfolding of_message
  by_answer a after q =
      for-answer (walk m).which (walk m).out.entries (walk m).out.answer
      ∙ ap (λ (x : Result). sheet_for x.answer (walk m).out.entries) (sym read_is ∙ q)

  -- 1 is not answered
  is_setup : Answer → ℕ
  is_setup glow.Setup = 1
  is_setup (glow.Refused number place) = 0
  is_setup (glow.Room count) = 0
  is_setup (glow.Read root count) = 0

  read-ready : (which : ℕ) (es : Entries) (a : Fallible ℕ No) → is_setup (read_of table which es a).answer ≡ 0
  unfolding is_setup
  read-ready which es (Ok next) = go (ltb (length table) (length es))
    where
      go : (u : Bool) → is_setup (pick u (read_result (glow.Room (length es)) table) (read_result (glow.Read which (length es)) (overlay es table))).answer ≡ 0
      go true = refl
      go false = refl
  read-ready which es (Err e) = refl

  pub never-setup : (a : Answer) (after : Rows) → read_at m table ≡ read_result a after → a ≡ glow.Setup → ⊥
  unfolding is_setup
  never-setup a after q h =
      let r = read-ready (walk m).which (walk m).out.entries (walk m).out.answer in
      let z : ◌≡◌ {A = ℕ} 0 1 =
      sym r ∙ ap (λ (x : Result). is_setup x.answer) (sym read_is ∙ q) ∙ ap is_setup h in
      omega arith

  module _ (a : Answer) (after : Rows) (q : read_at m table ≡ read_result a after) (path cells : List ℕ) where
    pub tells-refused : (number place : ℕ) → a ≡ glow.Refused number place → Tells (of_message m) path cells (Refused number) path cells
    tells-refused number place h store =
        ap (λ (x : reading.Sheet). leaves x store path cells) (by_answer a after q ∙ ap (λ (x : Answer). sheet_for x (walk m).out.entries) h)

    pub tells-room : (count : ℕ) → a ≡ glow.Room count → Tells (of_message m) path cells (Refused 38) path cells
    tells-room count h store =
        ap (λ (x : reading.Sheet). leaves x store path cells) (by_answer a after q ∙ ap (λ (x : Answer). sheet_for x (walk m).out.entries) h)

    -- after 0 the entries are those in the first rows
    module _ (root count : ℕ) (h : a ≡ glow.Read root count) (octets : Below 256 m) where
      answers : (read_at m table).answer ≡ glow.Read root count
      answers = ap (λ (x : Result). x.answer) q ∙ h

      rows_are : (read_at m table).rows ≡ after
      rows_are = ap (λ (x : Result). x.rows) q

      entries-in : items_in m after count ≡ items_of m (walk m).out.entries
      entries-in =
          let k = read_walk m table root count answers in
          let l = is-legal m octets k.few k.answer in
          let n = k.counts in
          let r = k.room in
          let es = (walk m).out.entries in
          let j : length es ≤ length table = omega arith in
          ap (λ (x : Rows). items_in m x count) (sym rows_are ∙ k.holds)
          ∙ ap (items_in m (overlay es table)) (sym k.counts)
          ∙ rows-items m es table (tree-sixteen m es (walk m).which l.0 l.1.0 l.1.1) j

      pub entries-accepted : accepted root (items_in m after count) ≡ true
      entries-accepted = subst (λ (x : Rows). accepted root (items_in m x count) ≡ true) rows_are (read-accepted m octets table root count answers)

      pub entries-few : count ≤ length after
      entries-few = subst (λ (x : Rows). count ≤ length x) rows_are (in_rows m table answers).0

      pub rows_few : length after ≤ 256
      rows_few = let l : length after ≡ length table = ap length (sym rows_are) ∙ rows-kept m table in omega (arith, l, sized)

      pub tells-entries : (x : Sheet) (path' cells' : List ℕ) → Tells (of_entries (items_in m after count)) path cells x path' cells'
          → Tells (of_message m) path cells x path' cells'
      tells-entries x path' cells' t store =
          ap (λ (y : reading.Sheet). leaves y store path cells)
          (by_answer a after q ∙ ap (λ (y : Answer). sheet_for y (walk m).out.entries) h ∙ ap of_entries (sym entries-in))
          ∙ t store
