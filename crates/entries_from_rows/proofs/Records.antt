-- The row of an entry whose cells suit the rules of its kind is read by the struct of that kind as this entry.
use Rattle.std.specs.Prelude.{Some}
use Prim.Native.Nat.{ℕ, zero, suc, ◌≤◌}
use mathlib.Core.Path.{◌≡◌, refl, sym, ap, ◌∙◌}
use mathlib.Core.List.{List, [], ◌∷◌}
use mathlib.Core.Bool.{Bool, true, false}
use native.Mathlib.Omega.{arith}
use lib.ListN.{length, get_or}
use Rattle.base_choices.specs.Choices.{pick}
use Rattle.glow_rows.specs.declared.Cell.{Cell}
use Rattle.glow_rows.specs.Cell.{absent}
use Rattle.glow_rows.specs.Entry.{Entry, blanks, row}
use Rattle.glow_grammar.specs.Grammar.{members, rule_of, contents_rows, contents_of}
use Rattle.glow_grammar.specs.Leaf.{expects}
use Rattle.glow_trees.specs.Legal.{rule_at}
use Rattle.glow_entries.specs.declared.Key.{Key}
use Rattle.glow_entries.specs.declared.Key.TheVariants.{Number as ByNumber, Path as ByPath}
use Rattle.glow_entries.specs.declared.Parameter.{Parameter}
use Rattle.glow_entries.specs.declared.Node.{Node}
use Rattle.glow_entries.specs.declared.Matrix.{Matrix}
use Rattle.glow_entries.specs.declared.Command.{Command}
use Rattle.glow_entries.specs.declared.Connection.{Connection}
use Rattle.glow_entries.specs.declared.Stream.{Stream}
use Rattle.glow_entries.specs.Held.{HeldKey, HeldParameter, HeldNode, HeldMatrix, HeldCommand, HeldConnection, HeldStream}
use Rattle.glow_entries.specs.Member.{key_cell, key_kind}
use Rattle.glow_entries.specs.Record.{parameter_row, parameter_read, node_row, node_read, matrix_row, matrix_read}
use Rattle.glow_entries.specs.Record.{command_row, command_read, connection_row, connection_read, stream_row, stream_read}
use Rattle.glow_entries.proofs.Cells.{entry, parameter_cells, parameter-cells, node_cells, node-cells, matrix_cells, matrix-cells}
use Rattle.glow_entries.proofs.Cells.{command_cells, command-cells, connection_cells, connection-cells, stream_cells, stream-cells}
use Rattle.glow_entries.proofs.RoundTrip.{parameter-back, node-back, matrix-back, command-back, connection-back, stream-back}
use Rattle.entries_from_rows.specs.Told.{key_kept, by_path, IsParameter, IsNode, IsMatrix, IsCommand, IsConnection, IsStream, Told}
use Rattle.entries_from_rows.specs.Told.{parameter, command, node, matrix, qualified_parameter, qualified_node, qualified_matrix, connection, stream_entry}
use Rattle.entries_from_rows.proofs.Cells.{Shape, NumberIn, IntIn, number_in, some_number, FlagIn, flag-in, PartIn, part_in, text-kept, list-kept}
use Rattle.entries_from_rows.proofs.Cells.{PathIn, some-path, nothing-in, value_in, some-value, ParentIn, parent_in}

-- ---- a list by its places

unfoldable from : ℕ → ℕ → List Cell → List Cell
from zero c vs = []
from (suc n) c vs = get_or vs c absent ∷ from n (suc c) vs

from_on : (n c : ℕ) (v : Cell) (vs : List Cell) → from n (suc c) (v ∷ vs) ≡ from n c vs
unfolding from
from_on zero c v vs = refl
from_on (suc n) c v vs = ap (λ (l : List Cell). get_or vs c absent ∷ l) (from_on n (suc c) v vs)

from_all : (vs : List Cell) → from (length vs) 0 vs ≡ vs
unfolding from
from_all [] = refl
from_all (v ∷ vs) = ap (λ (l : List Cell). v ∷ l) (from_on (length vs) 0 v vs ∙ from_all vs)

on : {x y : Cell} {l m : List Cell} → x ≡ y → l ≡ m → x ∷ l ≡ y ∷ m
on {x} {y} {l} {m} e f = ap (λ (t : List Cell). x ∷ t) f ∙ ap (λ (t : Cell). t ∷ m) e

same_row : {k k' p p' : ℕ} {l m : List Cell} → k ≡ k' → p ≡ p' → l ≡ m → row (entry k p l) ≡ row (entry k' p' m)
same_row {k} {k'} {p} {p'} {l} {m} a b c =
    ap (λ (i : ℕ). row (entry i p l)) a ∙ ap (λ (i : ℕ). row (entry k' i l)) b ∙ ap (λ (t : List Cell). row (entry k' p' t)) c

-- ---- the rules, by what a cell of theirs is

module _ (v : Cell) where
  name_in : Shape 1 v → PartIn 12 v
  unfolding expects
  name_in h = part_in 12 1 v refl (λ k. refl) h

  text_in : Shape 2 v → PartIn 12 v
  unfolding expects
  text_in h = part_in 12 2 v refl (λ k. refl) h

  bool-in : Shape 3 v → FlagIn v
  unfolding expects
  bool-in h = flag-in 3 v (λ k. refl) h

  step_in : Shape 5 v → NumberIn v
  unfolding expects
  step_in h = number_in 5 v (λ k. refl) h

  path-in : Shape 6 v → PartIn 13 v
  unfolding expects
  path-in h = part_in 13 6 v refl (λ k. refl) h

  list-in : Shape 7 v → PartIn 13 v
  unfolding expects
  list-in h = part_in 13 7 v refl (λ k. refl) h

  from0-in : Shape 8 v → NumberIn v
  unfolding expects
  from0-in h = number_in 8 v (λ k. refl) h

  int32-in : Shape 9 v → NumberIn v
  unfolding expects
  int32-in h = number_in 9 v (λ k. refl) h

  to3-in : Shape 10 v → NumberIn v
  unfolding expects
  to3-in h = number_in 10 v (λ k. refl) h

  to2-in : Shape 11 v → NumberIn v
  unfolding expects
  to2-in h = number_in 11 v (λ k. refl) h

  to1-in : Shape 12 v → NumberIn v
  unfolding expects
  to1-in h = number_in 12 v (λ k. refl) h

-- a key: a number or a path
record KeyIn (v : Cell) (path : Bool) : Type 0 where
  pub member : Key
  pub cells : v ≡ key_cell member
  pub kept : key_kept member ≡ v
  pub held : HeldKey member
  pub sort : by_path member ≡ path

number-key : {v : Cell} → IntIn v → KeyIn v false
number-key r = record { member = ByNumber r.member; cells = r.cells; kept = sym r.cells; held = r.held; sort = refl }

path-key : {v : Cell} → PathIn v → KeyIn v true
path-key r = record { member = ByPath r.start r.len; cells = r.cells; kept = sym r.cells; held = tt; sort = refl }

kind-by : (plain qualified : ℕ) (k : Key) (b : Bool) → by_path k ≡ b → pick b qualified plain ≡ key_kind k plain qualified
kind-by plain qualified (ByNumber z) b e = ap (λ (c : Bool). pick c qualified plain) (sym e)
kind-by plain qualified (ByPath start len) b e = ap (λ (c : Bool). pick c qualified plain) (sym e)

-- ---- an entry of sixteen cells, at a parent's place

module _ (p : ℕ) (low : p ≤ 256) (vs : List Cell) (size : length vs ≡ 16) where
  abbrev v : ℕ → Cell
  v c = get_or vs c absent

  abbrev up : ParentIn p
  up = parent_in p low

  listed : vs ≡ from 16 0 vs
  listed = sym (from_all vs) ∙ ap (λ (n : ℕ). from n 0 vs) size

  -- n cells from c on that no member has
  abbrev Off : ℕ → ℕ → Type 0
  Off zero c = Unit {0}
  Off (suc n) c = Shape 0 (v c) × Off n (suc c)

  off-blank : (n c : ℕ) → Off n c → from n c vs ≡ blanks n
  unfolding from blanks
  off-blank zero c h = refl
  off-blank (suc n) c h = on (nothing-in (v c) h.0) (off-blank n (suc c) h.1)

  module _ (kind : ℕ) where
    abbrev e : Entry
    e = entry kind p vs

    parameter-by : {b : Bool} (key : KeyIn (v 0) b) → kind ≡ pick b 5 1 → Shape 1 (v 1) → Shape 2 (v 2) → Shape 4 (v 3) → Shape 4 (v 4) → Shape 4 (v 5)
        → Shape 10 (v 6) → Shape 0 (v 7) → Shape 0 (v 8) → Shape 9 (v 9) → Shape 3 (v 10) → Shape 0 (v 11) → Shape 9 (v 12) → Shape 0 (v 13)
        → Shape 0 (v 14) → Shape 8 (v 15) → (x : Parameter) × ((by_path x.key ≡ b) × ((parameter_read (row e) ≡ Some x) × IsParameter e x))
    unfolding from
    parameter-by {b} key k s1 s2 s3 s4 s5 s6 s7 s8 s9 s10 s11 s12 s13 s14 s15 =
        let m1 = name_in (v 1) s1 in
        let m2 = text_in (v 2) s2 in
        let m3 = value_in (v 3) s3 in
        let m4 = value_in (v 4) s4 in
        let m5 = value_in (v 5) s5 in
        let m6 = to3-in (v 6) s6 in
        let m9 = int32-in (v 9) s9 in
        let m10 = bool-in (v 10) s10 in
        let m12 = int32-in (v 12) s12 in
        let m15 = from0-in (v 15) s15 in
        let x : Parameter = record {
          parent = up.member;
          key = key.member;
          identifier = m1.member;
          description = m2.member;
          value = m3.member;
          minimum = m4.member;
          maximum = m5.member;
          access = m6.member;
          factor = m9.member;
          online = m10.member;
          step = m12.member;
          stream = m15.member;
        } in
        let cs : vs ≡ parameter_cells x =
        listed
        ∙ on key.cells (on m1.cells (on m2.cells (on m3.cells (on m4.cells (on m5.cells (on m6.cells
        (on (nothing-in _ s7) (on (nothing-in _ s8) (on m9.cells (on m10.cells (on (nothing-in _ s11) (on m12.cells
        (on (nothing-in _ s13) (on (nothing-in _ s14) (on m15.cells refl))))))))))))))) in
        let held : HeldParameter x = record {
          parent = up.held;
          key = key.held;
          value = m3.held;
          minimum = m4.held;
          maximum = m5.held;
          access = m6.held;
          factor = m9.held;
          step = m12.held;
          stream = m15.held;
        } in
        let same : row e ≡ parameter_row x = same_row (k ∙ kind-by 1 5 key.member b key.sort) up.words cs ∙ sym (parameter-cells x) in (
          x,
          (
            key.sort,
            (
              ap parameter_read same ∙ parameter-back x held,
              record {
                held = held;
                parent = up.kept;
                key = key.kept;
                identifier = text-kept m1.member m1.cells;
                description = text-kept m2.member m2.cells;
                value = sym m3.cells;
                minimum = sym m4.cells;
                maximum = sym m5.cells;
                access = m6.kept;
                factor = m9.kept;
                online = m10.kept;
                step = m12.kept;
                stream = m15.kept;
              },
            ),
          ),
        )

    node_by : {b : Bool} (key : KeyIn (v 0) b) → kind ≡ pick b 6 3 → Shape 1 (v 1) → Shape 2 (v 2) → Shape 3 (v 3) → Shape 3 (v 4)
        → Off 11 5 → (x : Node) × ((by_path x.key ≡ b) × ((node_read (row e) ≡ Some x) × IsNode e x))
    unfolding from blanks
    node_by {b} key k s1 s2 s3 s4 off =
        let m1 = name_in (v 1) s1 in
        let m2 = text_in (v 2) s2 in
        let m3 = bool-in (v 3) s3 in
        let m4 = bool-in (v 4) s4 in
        let x : Node = record {
          parent = up.member;
          key = key.member;
          identifier = m1.member;
          description = m2.member;
          root = m3.member;
          online = m4.member;
        } in
        let cs : vs ≡ node_cells x =
        listed
        ∙ on key.cells (on m1.cells (on m2.cells (on m3.cells (on m4.cells (off-blank 11 5 off))))) in
        let held : HeldNode x = record {
          parent = up.held;
          key = key.held;
        } in
        let same : row e ≡ node_row x = same_row (k ∙ kind-by 3 6 key.member b key.sort) up.words cs ∙ sym (node-cells x) in (
          x,
          (
            key.sort,
            (
              ap node_read same ∙ node-back x held,
              record {
                held = held;
                parent = up.kept;
                key = key.kept;
                identifier = text-kept m1.member m1.cells;
                description = text-kept m2.member m2.cells;
                root = m3.kept;
                online = m4.kept;
              },
            ),
          ),
        )

    matrix-by : {b : Bool} (key : KeyIn (v 0) b) → kind ≡ pick b 7 4 → Shape 1 (v 1) → Shape 2 (v 2) → Shape 11 (v 3) → Shape 12 (v 4) → Shape 8 (v 5)
        → Shape 8 (v 6) → Shape 8 (v 7) → Shape 8 (v 8) → Off 7 9
        → (x : Matrix) × ((by_path x.key ≡ b) × ((matrix_read (row e) ≡ Some x) × IsMatrix e x))
    unfolding from blanks
    matrix-by {b} key k s1 s2 s3 s4 s5 s6 s7 s8 off =
        let m1 = name_in (v 1) s1 in
        let m2 = text_in (v 2) s2 in
        let m3 = to2-in (v 3) s3 in
        let m4 = to1-in (v 4) s4 in
        let m5 = from0-in (v 5) s5 in
        let m6 = from0-in (v 6) s6 in
        let m7 = from0-in (v 7) s7 in
        let m8 = from0-in (v 8) s8 in
        let x : Matrix = record {
          parent = up.member;
          key = key.member;
          identifier = m1.member;
          description = m2.member;
          matrix_type = m3.member;
          mode = m4.member;
          targets = m5.member;
          sources = m6.member;
          total_limit = m7.member;
          target_limit = m8.member;
        } in
        let cs : vs ≡ matrix_cells x =
        listed
        ∙ on key.cells (on m1.cells (on m2.cells (on m3.cells (on m4.cells (on m5.cells (on m6.cells (on m7.cells (on m8.cells
        (off-blank 7 9 off))))))))) in
        let held : HeldMatrix x = record {
          parent = up.held;
          key = key.held;
          matrix_type = m3.held;
          mode = m4.held;
          targets = m5.held;
          sources = m6.held;
          total_limit = m7.held;
          target_limit = m8.held;
        } in
        let same : row e ≡ matrix_row x = same_row (k ∙ kind-by 4 7 key.member b key.sort) up.words cs ∙ sym (matrix-cells x) in (
          x,
          (
            key.sort,
            (
              ap matrix_read same ∙ matrix-back x held,
              record {
                held = held;
                parent = up.kept;
                key = key.kept;
                identifier = text-kept m1.member m1.cells;
                description = text-kept m2.member m2.cells;
                matrix_type = m3.kept;
                mode = m4.kept;
                targets = m5.kept;
                sources = m6.kept;
                total_limit = m7.kept;
                target_limit = m8.kept;
              },
            ),
          ),
        )

  command-by : IntIn (v 0) → Shape 9 (v 1) → Off 14 2
      → (x : Command) × ((command_read (row (entry 2 p vs)) ≡ Some x) × IsCommand (entry 2 p vs) x)
  unfolding from blanks
  command-by m0 s1 off =
      let m1 = int32-in (v 1) s1 in
      let x : Command = record { parent = up.member; number = m0.member; mask = m1.member } in
      let cs : vs ≡ command_cells x =
      listed
      ∙ on m0.cells (on m1.cells (off-blank 14 2 off)) in
      let held : HeldCommand x = record {
        parent = up.held;
        number = m0.held;
        mask = m1.held;
      } in
      let same : row (entry 2 p vs) ≡ command_row x = same_row refl up.words cs ∙ sym (command-cells x) in (
        x,
        (
          ap command_read same ∙ command-back x held,
          record { held = held; parent = up.kept; number = sym m0.cells; mask = m1.kept },
        ),
      )

  connection-by : IntIn (v 0) → Shape 7 (v 1) → Shape 11 (v 2) → Off 13 3
      → (x : Connection) × ((connection_read (row (entry 8 p vs)) ≡ Some x) × IsConnection (entry 8 p vs) x)
  unfolding from blanks
  connection-by m0 s1 s2 off =
      let m1 = list-in (v 1) s1 in
      let m2 = to2-in (v 2) s2 in
      let x : Connection = record { parent = up.member; target = m0.member; sources = m1.member; operation = m2.member } in
      let cs : vs ≡ connection_cells x =
      listed
      ∙ on m0.cells (on m1.cells (on m2.cells (off-blank 13 3 off))) in
      let held : HeldConnection x = record {
        parent = up.held;
        target = m0.held;
        operation = m2.held;
      } in
      let same : row (entry 8 p vs) ≡ connection_row x = same_row refl up.words cs ∙ sym (connection-cells x) in (
        x,
        (
          ap connection_read same ∙ connection-back x held,
          record { held = held; parent = up.kept; target = sym m0.cells; sources = list-kept m1.member m1.cells; operation = m2.kept },
        ),
      )

  stream-by : IntIn (v 0) → Shape 4 (v 1) → (v 1 ≡ absent → ⊥) → Off 14 2
      → (x : Stream) × ((stream_read (row (entry 9 p vs)) ≡ Some x) × IsStream (entry 9 p vs) x)
  unfolding from blanks
  stream-by m0 s1 there off =
      let m1 = value_in (v 1) s1 in
      let x : Stream = record { parent = up.member; identifier = m0.member; value = m1.member } in
      let cs : vs ≡ stream_cells x =
      listed
      ∙ on m0.cells (on m1.cells (off-blank 14 2 off)) in
      let held : HeldStream x = record {
        parent = up.held;
        identifier = m0.held;
        value = m1.held;
        present = some-value m1.member m1.cells there;
      } in
      let same : row (entry 9 p vs) ≡ stream_row x = same_row refl up.words cs ∙ sym (stream-cells x) in (
        x,
        (
          ap stream_read same
              ∙ stream-back x held,
          record { held = held; parent = up.kept; identifier = sym m0.cells; value = sym m1.cells },
        ),
      )

  -- ---- by the kind: its rules are the grammar's rows

  module _ (first : v 0 ≡ absent → ⊥) where
    abbrev Suited : ℕ → Type 0
    Suited kind = (c : ℕ) → Shape (rule_at kind c) (v c)

    abbrev Tells : ℕ → Type 0
    Tells kind = Told (row (entry kind p vs)) (entry kind p vs)

    told-1 : Suited 1 → Tells 1
    unfolding rule_at rule_of members contents_rows contents_of
    told-1 h =
        let r = parameter-by 1 (number-key (some_number (step_in (v 0) (h 0)) first)) refl (h 1) (h 2) (h 3) (h 4) (h 5) (h 6) (h 7) (h 8) (h 9) (h 10) (h 11)
        (h 12) (h 13) (h 14) (h 15) in
        parameter r.0 refl r.1.0 r.1.1.0 r.1.1.1

    told-2 : Suited 2 → Tells 2
    unfolding rule_at rule_of members contents_rows contents_of
    told-2 h =
        let r = command-by (some_number (int32-in (v 0) (h 0)) first) (h 1)
        (h 2, (h 3, (h 4, (h 5, (h 6, (h 7, (h 8, (h 9, (h 10, (h 11, (h 12, (h 13, (h 14, (h 15, tt)))))))))))))) in
        command r.0 refl r.1.0 r.1.1

    told-3 : Suited 3 → Tells 3
    unfolding rule_at rule_of members contents_rows contents_of
    told-3 h =
        let r = node_by 3 (number-key (some_number (step_in (v 0) (h 0)) first)) refl (h 1) (h 2) (h 3) (h 4)
        (h 5, (h 6, (h 7, (h 8, (h 9, (h 10, (h 11, (h 12, (h 13, (h 14, (h 15, tt))))))))))) in
        node r.0 refl r.1.0 r.1.1.0 r.1.1.1

    told-4 : Suited 4 → Tells 4
    unfolding rule_at rule_of members contents_rows contents_of
    told-4 h =
        let r = matrix-by 4 (number-key (some_number (step_in (v 0) (h 0)) first)) refl (h 1) (h 2) (h 3) (h 4) (h 5) (h 6) (h 7) (h 8)
        (h 9, (h 10, (h 11, (h 12, (h 13, (h 14, (h 15, tt))))))) in
        matrix r.0 refl r.1.0 r.1.1.0 r.1.1.1

    told-5 : Suited 5 → Tells 5
    unfolding rule_at rule_of members contents_rows contents_of
    told-5 h =
        let r = parameter-by 5 (path-key (some-path (path-in (v 0) (h 0)) first)) refl (h 1) (h 2) (h 3) (h 4) (h 5) (h 6) (h 7) (h 8) (h 9) (h 10) (h 11)
        (h 12) (h 13) (h 14) (h 15) in
        qualified_parameter r.0 refl r.1.0 r.1.1.0 r.1.1.1

    told-6 : Suited 6 → Tells 6
    unfolding rule_at rule_of members contents_rows contents_of
    told-6 h =
        let r = node_by 6 (path-key (some-path (path-in (v 0) (h 0)) first)) refl (h 1) (h 2) (h 3) (h 4)
        (h 5, (h 6, (h 7, (h 8, (h 9, (h 10, (h 11, (h 12, (h 13, (h 14, (h 15, tt))))))))))) in
        qualified_node r.0 refl r.1.0 r.1.1.0 r.1.1.1

    told-7 : Suited 7 → Tells 7
    unfolding rule_at rule_of members contents_rows contents_of
    told-7 h =
        let r = matrix-by 7 (path-key (some-path (path-in (v 0) (h 0)) first)) refl (h 1) (h 2) (h 3) (h 4) (h 5) (h 6) (h 7) (h 8)
        (h 9, (h 10, (h 11, (h 12, (h 13, (h 14, (h 15, tt))))))) in
        qualified_matrix r.0 refl r.1.0 r.1.1.0 r.1.1.1

    told-8 : Suited 8 → Tells 8
    unfolding rule_at rule_of members contents_rows contents_of
    told-8 h =
        let r = connection-by (some_number (from0-in (v 0) (h 0)) first) (h 1) (h 2)
        (h 3, (h 4, (h 5, (h 6, (h 7, (h 8, (h 9, (h 10, (h 11, (h 12, (h 13, (h 14, (h 15, tt))))))))))))) in
        connection r.0 refl r.1.0 r.1.1

    told-9 : (v 1 ≡ absent → ⊥) → Suited 9 → Tells 9
    unfolding rule_at rule_of members contents_rows contents_of
    told-9 second h =
        let r = stream-by (some_number (from0-in (v 0) (h 0)) first) (h 1) second
        (h 2, (h 3, (h 4, (h 5, (h 6, (h 7, (h 8, (h 9, (h 10, (h 11, (h 12, (h 13, (h 14, (h 15, tt)))))))))))))) in
        stream_entry r.0 refl r.1.0 r.1.1

    pub told-kind : (kind : ℕ) → (1 ≤ kind) × (kind ≤ 9) → (kind ≡ 9 → v 1 ≡ absent → ⊥) → Suited kind → Tells kind
    told-kind zero k n h = absurd (omega arith)
    told-kind (suc zero) k n h = told-1 h
    told-kind (suc (suc zero)) k n h = told-2 h
    told-kind (suc (suc (suc zero))) k n h = told-3 h
    told-kind (suc (suc (suc (suc zero)))) k n h = told-4 h
    told-kind (suc (suc (suc (suc (suc zero))))) k n h = told-5 h
    told-kind (suc (suc (suc (suc (suc (suc zero)))))) k n h = told-6 h
    told-kind (suc (suc (suc (suc (suc (suc (suc zero))))))) k n h = told-7 h
    told-kind (suc (suc (suc (suc (suc (suc (suc (suc zero)))))))) k n h = told-8 h
    told-kind (suc (suc (suc (suc (suc (suc (suc (suc (suc zero))))))))) k n h = told-9 (n refl) h
    told-kind (suc (suc (suc (suc (suc (suc (suc (suc (suc (suc m)))))))))) k n h = absurd (omega arith)
