-- With which numbers the desk's call and a turn answer.
use Prim.Native.Nat.{ℕ, zero, suc, ◌-◌, ◌≤◌}
use mathlib.Core.Path.{◌≡◌, refl, sym, ap, subst, ◌∙◌}
use mathlib.Core.List.{List, [], ◌∷◌, ◌++◌}
use mathlib.Core.Bool.{Bool, true, false, true≢false}
use mathlib.Core.Logic.{inl, inr, ⊎_elim}
use borrow.Author.Tests.{eqb-false, le-ltb}
use types.Run.{OneOf, hit, miss}
use lib.ListN.{length, take}
use lib.Dec.{leb}
use Rattle.base_choices.specs.Choices.{both}
use Rattle.framing_session.specs.declared.Event.{Event}
use Rattle.framing_session.specs.Session.{said_by}
use Rattle.glow_rows.specs.Entry.{Rows}
use Rattle.glow_reader.specs.declared.Answer.{Answer}
use Rattle.glow_reader.specs.declared.Answer.TheVariants.{Setup, Refused, Room, Read}
use Rattle.glow_reader.specs.Message.{refusals, Result, Reply, setup, read_at, reply_by as tree_said}
use Rattle.glow_reader.proofs.Answers.{said-is, refusal-numbers, read-numbers, read-setup}
use Rattle.glow_trees.specs.Content.{Item}
use Rattle.glow_trees.specs.Rows.{items_in}
use Rattle.glow_trees.specs.Trees.{trees_of}
use Rattle.glow_sizes.specs.Accepted.{accepted, is_whole}
use Rattle.trees_round_trip.proofs.Writing.{made}
use Rattle.desk_crosspoints.specs.Crosspoints.{clear}
use Rattle.desk_crosspoints.specs.Desk.{Desk}
use Rattle.desk_connections.specs.Connections.{asks_of}
use Rattle.desk_connections.proofs.Paths.{right, asks-down}
use Rattle.desk_connections.proofs.Operations.{Operations, legal-operations}
use Rattle.desk_calls.specs.Calls.{Outcome, Served, handled, filled, laid, called}
use Rattle.desk_setup.specs.Ready.{is_ready}
use Rattle.desk_calls.specs.Numbers.{call_numbers, answer_numbers, AllOneOf}
use Rattle.desk_crosspoints.proofs.Paths.{desk-legal}
use Rattle.desk_calls.proofs.Setup.{called-not, called-ready}
use Rattle.desk_setup.proofs.Laws.{ready-tells}
use Rattle.desk_calls.proofs.Numbers.{served-numbers, call-numbers}
use Rattle.turn_rules.specs.Turns.{Later, none, read, desk, is_read, Comes, ends, reads, serves}
use Rattle.turns.specs.Whole.{answer_to, read_to}

left : (a b : Bool) → both a b ≡ true → a ≡ true
left true b h = refl
left false b h = h

-- entries that make a tree the reader accepts ask for operations 0 to 2 alone
accepted-operations : (root : ℕ) (es : List Item) → accepted root es ≡ true → Operations (asks_of es)
unfolding accepted
accepted-operations root es h =
    let m = made root es (left (is_whole root es) _ (right (leb (length es) 256) _ h)) in
    let t = (trees_of root es).trees in
    subst Operations (sym (asks-down root t m.legals) ∙ ap asks_of m.entries) (legal-operations root t m.legals)

-- the rows of "Numbers answered" for the tree in a turn: 0 done, 38 ROOM, and the refusals; 1 SETUP is none of them
abbrev pub refused_numbers : List ℕ
refused_numbers = 38 ∷ refusals

abbrev pub tree_numbers : List ℕ
tree_numbers = 0 ∷ refused_numbers

module _ (m : List ℕ) (table : Rows) (few : length table ≤ 256) (short : length m ≤ 16384) where
  not-setup : setup (length m) (length table) ≡ false
  unfolding setup
  not-setup = rw (le-ltb _ _ few, le-ltb _ _ short) refl

  pub tree-number : OneOf tree_numbers (read_at m table).said.number
  tree-number =
      let one : (read_at m table).said.number ≡ 1 → ⊥ = eqb-false _ 1 (read-setup m table ∙ not-setup) in
      ⊎_elim (λ e. inl e) (λ r. ⊎_elim (λ e. absurd (one e)) (λ q. inr q) r) (read-numbers m table)

  -- an answer other than 0 is a refusal
  pub refused-number : (a : Answer) → (read_at m table).answer ≡ a → is_read a ≡ false → OneOf refused_numbers (tree_said a).number
  refused-number Setup e h =
      absurd (miss tree_numbers 1 tt (subst (OneOf tree_numbers) (ap (λ (x : Reply). x.number) (said-is m table) ∙ ap (λ (x : Answer). (tree_said x).number) e)
      tree-number))
  refused-number (Refused number place) e h = inr (refusal-numbers m table e)
  refused-number (Room count) e h = hit refused_numbers 38 tt
  refused-number (Read root count) e h = absurd (true≢false h)

-- ---- the answers

pub all-clear : (n : ℕ) → AllOneOf answer_numbers (clear n)
unfolding clear
all-clear zero = tt
all-clear (suc n) = (hit answer_numbers 0 tt, all-clear n)

all_append : (xs ys : List ℕ) → AllOneOf answer_numbers xs → AllOneOf answer_numbers ys → AllOneOf answer_numbers (xs ++ ys)
all_append [] ys h k = k
all_append (x ∷ xs) ys h k = (h.0, all_append xs ys h.1 k)

laid-answers : (z : Served) → AllOneOf answer_numbers z.answers → AllOneOf answer_numbers (laid z).answers
unfolding laid filled
laid-answers z h = all_append z.answers (clear (256 - length z.answers)) h (all-clear (256 - length z.answers))

module _ (d : Desk) (root : ℕ) (rows : Rows) (n : ℕ) (s : List ℕ) where
  abbrev done : Outcome
  done = called d root rows n s

  abbrev es : List Item
  es = items_in s rows n

  handled-numbers : is_ready d root rows n s ≡ true → AllOneOf answer_numbers (handled d es).answers
  unfolding handled
  handled-numbers h =
      let r = ready-tells d root rows n s h in
      served-numbers d (asks_of es) (desk-legal d r.0) (accepted-operations root es r.1)

  -- "call": each of the 256 answers is 0 or 40 to 44 (its number: `call-numbers`)
  pub call-answers : AllOneOf answer_numbers done.answers
  call-answers = go (is_ready d root rows n s) refl
    where
      go : (u : Bool) → is_ready d root rows n s ≡ u → AllOneOf answer_numbers done.answers
      go true e =
          subst (λ (o : Outcome). AllOneOf answer_numbers o.answers) (sym (called-ready d root rows n s e))
          (laid-answers (handled d es) (handled-numbers e))
      go false e = subst (λ (o : Outcome). AllOneOf answer_numbers o.answers) (sym (called-not d root rows n s e)) (all-clear 256)

-- of what came after a session's call: the tree's number where it is not 0, the desk's, and the answers
abbrev pub Numbered : Later → Type 0
Numbered none = Unit {0}
Numbered (read a table) = OneOf refused_numbers (tree_said a).number
Numbered (desk root count table o) = OneOf call_numbers o.number × AllOneOf answer_numbers o.answers

-- "turn": neither table nor message is over its limit, so the tree's number is 30 to 38, or 0 and then the desk's is 0 or 1; each answer is 0 or 40 to 44
pub turn-numbers : {rows : ℕ} {e : Event} {t : List ℕ} {d d' : Desk} {x : Later} → Comes rows e t d x d' → rows ≤ 256
    → length (said_by e t).message ≤ 16384 → Numbered x
turn-numbers (ends h) few short = tt
turn-numbers {t = t} (reads {n = n} table a table' k q h) few short =
    refused-number (take n t) table (subst (λ (i : ℕ). i ≤ 256) (sym k) few) short a (ap (λ (x : Result). x.answer) q) h
turn-numbers {t = t} {d = d} (serves {n = n} table root count table' r cells' k q p) few short =
    subst (λ (o : Outcome). OneOf call_numbers o.number × AllOneOf answer_numbers o.answers) p
    (call-numbers d root table' count (take n t), call-answers d root table' count (take n t))

-- ---- the same of what one function gives (`read_to`): the tree's number and the desk's, 0 where they were not called, and the answers

abbrev pub tree_number : Later → ℕ
tree_number none = 0
tree_number (read a table) = (tree_said a).number
tree_number (desk root count table o) = 0

abbrev pub desk_number : Later → ℕ
desk_number none = 0
desk_number (read a table) = 0
desk_number (desk root count table o) = o.number

module _ (d : Desk) (m : List ℕ) where
  answer-tree : (a : Answer) (table' : Rows) → tree_number (answer_to d m a table').later ≡ (tree_said a).number
  answer-tree Setup table' = refl
  answer-tree (Refused number place) table' = refl
  answer-tree (Room count) table' = refl
  answer-tree (Read root count) table' = refl

  answer-desk : (a : Answer) (table' : Rows) → OneOf call_numbers (desk_number (answer_to d m a table').later)
  answer-desk Setup table' = hit call_numbers 0 tt
  answer-desk (Refused number place) table' = hit call_numbers 0 tt
  answer-desk (Room count) table' = hit call_numbers 0 tt
  answer-desk (Read root count) table' = call-numbers d root table' count m

  answer-answers : (a : Answer) (table' : Rows) → AllOneOf answer_numbers (answer_to d m a table').answers
  answer-answers Setup table' = all-clear 256
  answer-answers (Refused number place) table' = all-clear 256
  answer-answers (Room count) table' = all-clear 256
  answer-answers (Read root count) table' = call-answers d root table' count m

  module _ (table : Rows) where
    pub later-tree : length table ≤ 256 → length m ≤ 16384 → OneOf tree_numbers (tree_number (read_to d m table).later)
    unfolding read_to
    later-tree few short =
        subst (OneOf tree_numbers) (ap (λ (x : Reply). x.number) (said-is m table) ∙ sym (answer-tree (read_at m table).answer (read_at m table).rows))
        (tree-number m table few short)

    pub later-desk : OneOf call_numbers (desk_number (read_to d m table).later)
    unfolding read_to
    later-desk = answer-desk (read_at m table).answer (read_at m table).rows

    pub later-answers : AllOneOf answer_numbers (read_to d m table).answers
    unfolding read_to
    later-answers = answer-answers (read_at m table).answer (read_at m table).rows
