-- With which numbers a sheet is read: 0, 1, the events' from 10 up, 30 to 38, and 41 to 45. 40 cannot come (Alone.antt).
use Rattle.std.specs.Prelude.{Result, Ok, Err}
use Rattle.ber_containers.specs.declared.No.{No}
use Prim.Native.Nat.{ℕ, ◌≤◌}
use mathlib.Core.Path.{◌≡◌, refl, sym, ap, subst, ◌∙◌}
use mathlib.Core.List.{List, [], ◌∷◌}
use mathlib.Core.Bool.{Bool, true, false}
use mathlib.Core.Logic.{inl, inr, ⊎_elim}
use borrow.Author.Tests.{eqb-true, eqb-false, eq-eqb}
use types.Run.{OneOf, hit}
use lib.Dec.{ltb, eqb}
use lib.ListN.{length}
use Rattle.base_choices.specs.Choices.{pick, both}
use Rattle.base_choices.proofs.Laws.{pick-by, both_left, both_right}
use Rattle.ber_integers.proofs.Radix.{Below}
use Rattle.ber_integers.proofs.Numbers.{widen}
use Rattle.glow_walk.specs.Walk.{walk}
use Rattle.glow_reader.specs.Message.{refusals}
use Rattle.glow_reader.proofs.Places.{OntoIn}
use Rattle.glow_reader.proofs.Within.{walk-in}
use Rattle.glow_trees.specs.Content.{Item, items_of}
use Rattle.glow_trees.specs.Trees.{Trees, flat}
use Rattle.glow_trees.specs.Legal.{legal_root}
use Rattle.trees_accepted.proofs.Message.{is-legal}
use Rattle.desk_crosspoints.specs.declared.Figures.{Figures}
use Rattle.desk_crosspoints.specs.Figures.{figures_fit, cells_of}
use Rattle.desk_crosspoints.specs.Crosspoints.{Cells, clear}
use Rattle.desk_crosspoints.specs.Desk.{Desk, with_cells, path_fits, desk_legal, answer, desk_opened}
use Rattle.desk_crosspoints.proofs.Counts.{clear-length}
use Rattle.desk_crosspoints.proofs.Paths.{desk-legal}
use Rattle.desk_crosspoints.proofs.Opened.{open-legal}
use Rattle.desk_connections.specs.Connections.{asks_of}
use Rattle.desk_connections.proofs.Paths.{asks-down}
use Rattle.desk_connections.proofs.Operations.{Operations, legal-operations}
use Rattle.desk_calls.specs.Calls.{handled}
use Rattle.desk_calls.specs.Numbers.{answer_numbers, AllOneOf}
use Rattle.desk_calls.proofs.Numbers.{served-numbers}
use Rattle.sheet_rules.specs.Lines.{lines_in}
use Rattle.sheet_rules.specs.Reading as reading
use Rattle.sheet_rules.specs.Reading.{Held, refusal, message, refused, first_refused, applied, begun, empty_desk, opens}
use Rattle.sheet_rules.specs.Reading.{figures_in, path_in, mode_in, all_links, of_entries}
use Rattle.sheet_rules.specs.Reading.{of_answer, of_message, held_in, of_held, read_sheet}
use Rattle.sheet_stream.specs.Finding.{held_numbers, store_after}
use Rattle.sheet_stream.proofs.Messages.{held-short, held-octets}
use Rattle.sheet_stream.proofs.Numbers.{held-numbers}
use Rattle.sheet_stream.proofs.Numbers as stream
use Rattle.sheet_reader.proofs.Alone.{Of, Not40, alone-asks, served-not-40}
use Rattle.sheet_reader.specs.Calls.{Outcome, leaves, is_ready, sheet_read, refused_numbers, sheet_numbers}

-- ---- what reading gives

abbrev pub Numbered : reading.Sheet → Type 0
Numbered (refused n) = OneOf refused_numbers n
Numbered (reading.read d) = Unit {0}

-- the desk's answers, with no 40 among them: the first that is not 0
first-refused : (ns : List ℕ) → AllOneOf answer_numbers ns → Not40 ns → (first_refused ns ≡ 0 → ⊥) → OneOf (41 ∷ 42 ∷ 43 ∷ 44 ∷ []) (first_refused ns)
unfolding first_refused
first-refused [] h m z = absurd (z refl)
first-refused (n ∷ ns) h m z = go (eqb n 0) z (first-refused ns h.1 m.1)
  where
    go : (u : Bool) → (pick u (first_refused ns) n ≡ 0 → ⊥) → ((first_refused ns ≡ 0 → ⊥) → OneOf (41 ∷ 42 ∷ 43 ∷ 44 ∷ []) (first_refused ns))
        → OneOf (41 ∷ 42 ∷ 43 ∷ 44 ∷ []) (pick u (first_refused ns) n)
    go true g f = f g
    go false g f =
        ⊎_elim (λ (d : n ≡ 0). absurd (g d))
        (λ (r : OneOf (40 ∷ 41 ∷ 42 ∷ 43 ∷ 44 ∷ []) n).
        ⊎_elim (λ (d : n ≡ 40). absurd (m.0 d)) (λ (q : OneOf (41 ∷ 42 ∷ 43 ∷ 44 ∷ []) n). q) r)
        h.0

-- opening an empty desk: 0 or 45
open-number : (f : Figures) (path : List ℕ) (mode : ℕ) → ((desk_opened (empty_desk f path) mode).number ≡ 0 → ⊥)
    → (desk_opened (empty_desk f path) mode).number ≡ 45
unfolding desk_opened
open-number f path mode = rw (eq-eqb _ _ (clear-length (cells_of f))) (go (figures_fit f) (both (eqb mode 0) (path_fits path)))
  where
    x : Cells
    x = clear (cells_of f)

    go : (u v : Bool) → ((pick u (pick v (answer 0 x) (answer 45 x)) (answer 45 x)).number ≡ 0 → ⊥)
        → (pick u (pick v (answer 0 x) (answer 45 x)) (answer 45 x)).number ≡ 45
    go true true z = absurd (z refl)
    go true false z = refl
    go false v z = refl

module _ (es : List Item) (operations : Operations (asks_of es)) where
  applied-numbers : (d : Desk) → desk_legal d ≡ true → Of d.path (asks_of es) → (e : Desk) → Numbered (applied e (handled d es))
  unfolding applied handled
  applied-numbers d h one e =
      let ns = (handled d es).answers in
      let k = served-numbers d (asks_of es) (desk-legal d h) operations in
      let m = served-not-40 d (asks_of es) one in
      pick-by Numbered (eqb (first_refused ns) 0) (λ e. tt)
      (λ e. widen (41 ∷ 42 ∷ 43 ∷ 44 ∷ []) refused_numbers _ refl (first-refused ns k m (eqb-false (first_refused ns) 0 e)))

  opens-numbers : (f : Figures) (path : List ℕ) (mode : ℕ) → Of path (asks_of es) → Numbered (opens f path mode es)
  unfolding opens begun
  opens-numbers f path mode one =
      let d = empty_desk f path in
      let a = desk_opened d mode in
      pick-by Numbered (eqb a.number 0)
      (λ e. applied-numbers (with_cells d a.cells) (open-legal d mode (eqb-true a.number 0 e)) one d)
      (λ e. subst (OneOf refused_numbers) (sym (open-number f path mode (eqb-false a.number 0 e))) (hit refused_numbers 45 tt))

-- the entries of a legal tree
entries-numbers : (root : ℕ) (t : Trees) → legal_root root t ≡ true → (es : List Item) → flat 0 0 t ≡ es → Operations (asks_of es)
    → Numbered (of_entries es)
unfolding of_entries
entries-numbers root t l [] q o = hit refused_numbers 33 tt
entries-numbers root t l (e ∷ es) q o =
    pick-by Numbered (both (eqb e.kind 7) (all_links es))
    (λ h.
    let k = eqb-true e.kind 7 (both_left (eqb e.kind 7) (all_links es) h) in
    let m = alone-asks root t l e es q k (both_right (eqb e.kind 7) (all_links es) h) in
    opens-numbers (e ∷ es) o (figures_in e) (path_in e) (mode_in e) m)
    (λ h. hit refused_numbers 33 tt)

-- "Type and operation are 0 to 2": so are those of a message that is read
answer-numbers : (m : List ℕ) → Below 256 m → length m ≤ 16384 → (a : Result ℕ No) → (walk m).out.answer ≡ a → OntoIn m 0 a
    → Numbered (of_answer m (walk m).out.entries a)
answer-numbers m octets short (Ok next) e w =
    let l = is-legal m octets short e in
    let k : asks_of (items_of m (walk m).out.entries) ≡ _ = ap asks_of l.1.1 ∙ asks-down (walk m).which l.0 l.1.0 in
    let o = subst Operations (sym k) (legal-operations (walk m).which l.0 l.1.0) in
    pick-by Numbered (ltb 256 (length (walk m).out.entries)) (λ h. hit refused_numbers 38 tt)
    (λ h. entries-numbers (walk m).which l.0 l.1.0 (items_of m (walk m).out.entries) (sym l.1.1) o)
answer-numbers m octets short (Err x) e w = widen refusals refused_numbers _ refl w.1

read-numbers : (text : List ℕ) → Numbered (read_sheet text)
unfolding read_sheet of_message
read-numbers text = go (held_in (lines_in text)) refl (held-numbers (lines_in text))
  where
    go : (h : Held) → held_in (lines_in text) ≡ h → stream.Numbered h → Numbered (of_held h)
    go (refusal n) e k = widen held_numbers refused_numbers n refl k
    go (message m) e k = answer-numbers m (held-octets text m e) (held-short text m e) (walk m).out.answer refl (walk-in m).0

-- THEOREM: whatever is lent, the call answers with one of document 01's numbers.
leaves-number : (x : reading.Sheet) (store path : List ℕ) (cells : Cells) → Numbered x → OneOf sheet_numbers (leaves x store path cells).number
leaves-number (refused n) store path cells k = inr (inr k)
leaves-number (reading.read d) store path cells k = inl refl

pub sheet-numbers : (text store path : List ℕ) (cells : Cells) → OneOf sheet_numbers (sheet_read text store path cells).number
unfolding sheet_read
sheet-numbers text store path cells =
    pick-by (λ (o : Outcome). OneOf sheet_numbers o.number) (is_ready store path cells)
    (λ h. leaves-number (read_sheet text) (store_after (lines_in text) store) path cells (read-numbers text)) (λ h. inr (inl refl))
