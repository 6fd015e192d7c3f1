-- With which numbers `ember_desk_is_legal` and the words of `ember_turn` answer, where the turn does not answer 1: word 3 is the tree's number, word 7 the
-- desk's, and the 256 bytes are answers.
use Prim.Native.Nat.{ℕ, ◌+◌, ◌≤◌}
use mathlib.Core.Path.{◌≡◌, refl, sym}
use mathlib.Core.List.{List, [], ◌∷◌}
use mathlib.Core.Bool.{Bool, true, false, true≢false}
use native.Mathlib.Omega.{arith}
use borrow.Author.Tests.{eqb-true, leb-true}
use types.Run.{OneOf, hit}
use lib.Dec.{leb, eqb}
use lib.ListN.{length, get_or, take, length-take}
use Rattle.base_choices.specs.Choices.{pick, both}
use Rattle.base_choices.proofs.Laws.{pick-by, both_left, both_right}
use Rattle.framing_session.specs.declared.Session.{Session}
use Rattle.framing_content.specs.Numbers.{message_limit}
use Rattle.framing_session.specs.Rules.{State, step}
use Rattle.framing_session.specs.Session.{state_of, Legal, legal, Whole, run, feeds, kept}
use Rattle.framing_session.proofs.Laws.{Bounded, within_step, bounded-next, bounded-state, true-legal, legal-true}
use Rattle.sheet_stream.proofs.Ways.{said-short}
use Rattle.framing_words.specs.Words.{session_at, is_session}
use Rattle.framing_answers.specs.Answers.{accepts}
use Rattle.framing_c.specs.Calls.{Called, called_of as framed, calls}
use Rattle.glow_rows.specs.Entry.{Rows}
use Rattle.desk_crosspoints.specs.Figures.{size_of}
use Rattle.desk_crosspoints.specs.Crosspoints.{Cells}
use Rattle.desk_crosspoints.specs.Desk.{Desk, desk_legal}
use Rattle.desk_calls.specs.Numbers.{call_numbers, answer_numbers, AllOneOf}
use Rattle.turn_rules.specs.Turns.{Later, none, read, desk}
use Rattle.turns.specs.Whole.{Left, left, unasked, read_to}
use Rattle.turns.proofs.Numbers.{tree_numbers, tree_number, desk_number, all-clear, later-tree, later-desk, later-answers}
use Rattle.desk_words.specs.Words.{figures_at, desk_in, is_figures}
use Rattle.ember_answers.specs.Answers.{lengths_fit, later_words, next}
use Rattle.ember.specs.Calls.{legals, Turned, turn, turn_of, turn_after, turned, turns}

-- `ember_desk_is_legal`: no, or yes
abbrev pub legal_numbers : List ℕ
legal_numbers = 0 ∷ 1 ∷ []

pub desk-legal-numbers : (fs path : List ℕ) (cells : Cells) → OneOf legal_numbers (legals fs path cells)
unfolding legals
desk-legal-numbers fs path cells =
    pick-by (OneOf legal_numbers) (both (is_figures fs) (desk_legal (desk_in fs path cells))) (λ e. hit legal_numbers 1 tt) (λ e. hit legal_numbers 0 tt)

-- ---- a message that a session's call finished has at most 16,384 bytes

run_short : (c : List ℕ) (s : State) (t : List ℕ) (i : ℕ) → Bounded s → (run c s t i).said.number ≡ 3 → length (run c s t i).said.message ≤ message_limit
unfolding run
run_short [] s t i h = λ e. omega arith
run_short (b ∷ bs) s t i h =
    let o = step s b in
    pick-by (λ (x : Whole). x.said.number ≡ 3 → length x.said.message ≤ message_limit) (eqb o.said.number 0)
    (λ e. run_short bs o.next (kept o t) (i + 1) (bounded-next o (within_step s b h))) (λ e q. said-short s b h q)

pub feed-short : (s : Session) (t c : List ℕ) → Legal s t → (feeds s t c).said.number ≡ 3 → length (feeds s t c).said.message ≤ message_limit
unfolding feeds
feed-short s t c l = rw (true-legal s t l) (run_short c (state_of s t) t 0 (bounded-state s t l.room l.frame l.message))

-- ---- the words

-- what a turn's call leaves: six words after three, and the answers
pub record Words (x : Turned) : Type 0 where
  pub tree : OneOf tree_numbers (get_or x.answer 3 0)
  pub desk : OneOf call_numbers (get_or x.answer 7 0)
  pub answers : AllOneOf answer_numbers x.answers

later-words : (w : Whole) (y : Left) → OneOf tree_numbers (tree_number y.later) → OneOf call_numbers (desk_number y.later)
    → AllOneOf answer_numbers y.answers → Words (turn_of (framed w) y)
unfolding framed
later-words w y a b c = record { tree = three y.later a; desk = seven y.later b; answers = c }
  where
    three : (x : Later) → OneOf tree_numbers (tree_number x) → OneOf tree_numbers (get_or (later_words x) 0 0)
    three none h = h
    three (read a table) h = h
    three (desk root count table o) h = h

    seven : (x : Later) → OneOf call_numbers (desk_number x) → OneOf call_numbers (get_or (later_words x) 4 0)
    seven none h = h
    seven (read a table) h = h
    seven (desk root count table o) h = h

module _ (w : Whole) (short : w.said.number ≡ 3 → length w.said.message ≤ message_limit) (d : Desk) (table : Rows) (rows : length table ≤ 256) where
  next-words : Words (turn_of (framed w) (next w.said.number (take (length w.said.message) w.store) d table))
  unfolding next
  next-words = go (eqb w.said.number 3) refl
    where
      m : List ℕ
      m = take (length w.said.message) w.store

      go : (u : Bool) → eqb w.said.number 3 ≡ u
          → Words (turn_of (framed w) (pick u (read_to d m table) (unasked none table d.crosspoints)))
      go true e =
          let s = short (eqb-true _ 3 e) in
          let l = length-take (length w.said.message) w.store in
          later-words w (read_to d m table) (later-tree d m table rows (omega arith)) (later-desk d m table) (later-answers d m table)
      go false e =
          later-words w (unasked none table d.crosspoints) (hit tree_numbers 0 tt) (hit call_numbers 0 tt) (all-clear 256)

module _ (ws t c : List ℕ) (table : Rows) (fs path : List ℕ) (cells : Cells) (lent a : List ℕ) where
  abbrev d : Desk
  d = desk_in fs path cells

  after-words : (w : Whole) → (w.said.number ≡ 3 → length w.said.message ≤ message_limit) → length table ≤ 256
      → ((turn_after (framed w) d table lent a).number ≡ 1 → ⊥) → Words (turn_after (framed w) d table lent a)
  unfolding framed
  after-words w short rows n = go (eqb w.said.number 1) refl n
    where
      go : (u : Bool) → eqb w.said.number 1 ≡ u
          → ((pick u (turn (framed w) (left none lent table cells) a)
          (turn_of (framed w) (next w.said.number (take (length w.said.message) w.store) d table))).number ≡ 1 → ⊥)
          → Words (pick u (turn (framed w) (left none lent table cells) a)
          (turn_of (framed w) (next w.said.number (take (length w.said.message) w.store) d table)))
      go true e k = absurd (k (eqb-true _ 1 e))
      go false e k = next-words w short d table rows

  legal-words : accepts ws (length t) 3 ≡ true → Legal (session_at ws) t
  unfolding accepts
  legal-words h = legal-true (session_at ws) t (go (is_session ws) h)
    where
      go : (b : Bool) → pick b (legal (session_at ws) (length t)) false ≡ true → legal (session_at ws) (length t) ≡ true
      go true k = k
      go false k = absurd (true≢false (sym k))

  turned-words : length table ≤ 256 → ((turned ws t c d table lent a).number ≡ 1 → ⊥) → Words (turned ws t c d table lent a)
  unfolding turned calls
  turned-words rows n = go (accepts ws (length t) 3) refl n
    where
      no : Called
      no = record { number = 1; session = ws; store = t; answer = 0 ∷ 0 ∷ 0 ∷ [] }

      go : (u : Bool) → accepts ws (length t) 3 ≡ u → ((turn_after (pick u (framed (feeds (session_at ws) t c)) no) d table lent a).number ≡ 1 → ⊥)
          → Words (turn_after (pick u (framed (feeds (session_at ws) t c)) no) d table lent a)
      go true e k = after-words (feeds (session_at ws) t c) (feed-short (session_at ws) t c (legal-words e)) rows k
      go false e k = absurd (k refl)

  rows_fit : (size : ℕ) → lengths_fit (length table) size (length cells) (length path) (length a) ≡ true → length table ≤ 256
  unfolding lengths_fit
  rows_fit size h = leb-true _ _ (both_left (leb (length table) 256) _ (both_right (eqb (length a) 9) _ h))

  -- `ember_turn`: the tree's word is 0 or 30 to 38, the desk's 0 or 1, and each answer 0 or 40 to 44
  pub turn-words : ((turns ws t c table fs path cells lent a).number ≡ 1 → ⊥) → Words (turns ws t c table fs path cells lent a)
  unfolding turns
  turn-words n = go (both (is_figures fs) (lengths_fit (length table) (size_of (figures_at fs)) (length cells) (length path) (length a))) refl n
    where
      go : (u : Bool) → both (is_figures fs) (lengths_fit (length table) (size_of (figures_at fs)) (length cells) (length path) (length a)) ≡ u
          → ((pick u (turned ws t c d table lent a)
          (record { number = 1; session = ws; store = t; table = table; crosspoints = cells; answers = lent; answer = a })).number ≡ 1 → ⊥)
          → Words (pick u (turned ws t c d table lent a)
          (record { number = 1; session = ws; store = t; table = table; crosspoints = cells; answers = lent; answer = a }))
      go true e k = turned-words (rows_fit _ (both_right (is_figures fs) _ e)) k
      go false e k = absurd (k refl)
