-- With which numbers the calls of the desk, of a turn and of route sheets answer, whatever is lent. (Session, frames and tree have the contracts of
-- framing_c and glow_c: `feed-numbers` and so on, crates/framing_c/proofs/Calls.antt, crates/glow_c/proofs/Numbers.antt.)
use Prim.Native.Nat.{ℕ}
use mathlib.Core.Path.{◌≡◌, refl, sym, subst}
use mathlib.Core.List.{List, [], ◌∷◌}
use mathlib.Core.Bool.{Bool, true, false}
use types.Run.{OneOf, hit}
use lib.Dec.{eqb}
use lib.ListN.{length, get_or, take}
use Rattle.base_choices.specs.Choices.{pick, both}
use Rattle.base_choices.proofs.Laws.{pick-by}
use Rattle.glow_rows.specs.Entry.{Rows}
use Rattle.framing_content.specs.Numbers.{feed_numbers}
use Rattle.framing_c.specs.Calls.{Called, calls}
use Rattle.framing_c.proofs.Calls.{feed-numbers}
use Rattle.desk_crosspoints.specs.Figures.{size_of}
use Rattle.desk_crosspoints.specs.Crosspoints.{Cells}
use Rattle.desk_crosspoints.specs.Desk.{Desk, Answer}
use Rattle.desk_requests.specs.Request.{request}
use Rattle.desk_calls.specs.Calls.{Outcome, called}
use Rattle.desk_calls.specs.Numbers.{open_numbers, request_numbers, call_numbers}
use Rattle.desk_calls.proofs.Numbers.{open-numbers, request-numbers, call-numbers}
use Rattle.turn_rules.specs.Turns.{none}
use Rattle.turns.specs.Whole.{left}
use Rattle.sheet_writer.specs.Numbers.{sheet_put_numbers}
use Rattle.sheet_writer.proofs.Numbers.{sheet-put-numbers}
use Rattle.sheet_reader.specs.Calls.{sheet_numbers}
use Rattle.sheet_reader.proofs.Numbered.{sheet-numbers}
use Rattle.desk_words.specs.Words.{figures_at, desk_in, is_figures}
use Rattle.ember_answers.specs.Answers.{DeskCall, counted, lengths_fit, next}
use Rattle.ember.specs.Calls.{opens, requests, desk_calls, Turned, turn, turn_of, turn_after, turned, turns}
use Rattle.ember.specs.Calls.{SheetPut, measured, sheet_writes, SheetCall, given, sheet_reads}

-- `ember_desk_open`: 0, 1, 45
pub desk-open-numbers : (fs path : List ℕ) (mode : ℕ) (cells : Cells) → OneOf open_numbers (opens fs path mode cells).number
unfolding opens
desk-open-numbers fs path mode cells =
    pick-by (λ (x : Answer). OneOf open_numbers x.number) (is_figures fs) (λ e. open-numbers (desk_in fs path cells) mode) (λ e. hit open_numbers 1 tt)

-- `ember_desk_request`: 0, 1, 41 to 44
pub desk-request-numbers : (fs : List ℕ) (target : ℕ) (sources : List ℕ) (operation : ℕ) (cells : Cells)
    → OneOf request_numbers (requests fs target sources operation cells).number
unfolding requests
desk-request-numbers fs target sources operation cells =
    pick-by (λ (x : Answer). OneOf request_numbers x.number) (is_figures fs)
    (λ e. request-numbers (desk_in fs [] cells) (request target sources operation)) (λ e. hit request_numbers 1 tt)

-- `ember_desk_call`: 0 or 1
counted-numbers : (o : Outcome) (lent words : List ℕ) → OneOf call_numbers o.number → OneOf call_numbers (counted o lent words).number
unfolding counted
counted-numbers o lent words h = pick-by (λ (x : DeskCall). OneOf call_numbers x.number) (eqb o.number 0) (λ e. hit call_numbers 0 tt) (λ e. h)

pub desk-call-numbers : (fs path : List ℕ) (root : ℕ) (rows : Rows) (n : ℕ) (s lent : List ℕ) (cells : Cells) (words : List ℕ)
    → OneOf call_numbers (desk_calls fs path root rows n s lent cells words).number
unfolding desk_calls
desk-call-numbers fs path root rows n s lent cells words =
    pick-by (λ (x : DeskCall). OneOf call_numbers x.number) (both (is_figures fs) (eqb (length words) 1))
    (λ e.
    counted-numbers (called (desk_in fs path cells) root rows n s) lent words (call-numbers (desk_in fs path cells) root rows n s))
    (λ e. hit call_numbers 1 tt)

-- `ember_turn`: the numbers of a session's call
after-number : (r : Called) (d : Desk) (table : Rows) (lent a : List ℕ) → (turn_after r d table lent a).number ≡ r.number
after-number r d table lent a = go (eqb r.number 1)
  where
    go : (b : Bool)
        → (pick b (turn r (left none lent table d.crosspoints) a) (turn_of r (next r.number (take (get_or r.answer 2 0) r.store) d table))).number
        ≡ r.number
    go true = refl
    go false = refl

pub turn-numbers : (ws t c : List ℕ) (table : Rows) (fs path : List ℕ) (cells : Cells) (lent a : List ℕ)
    → OneOf feed_numbers (turns ws t c table fs path cells lent a).number
unfolding turns turned
turn-numbers ws t c table fs path cells lent a =
    pick-by (λ (x : Turned). OneOf feed_numbers x.number)
    (both (is_figures fs) (lengths_fit (length table) (size_of (figures_at fs)) (length cells) (length path) (length a)))
    (λ e.
    subst (OneOf feed_numbers) (sym (after-number (calls ws t c (0 ∷ 0 ∷ 0 ∷ [])) (desk_in fs path cells) table lent a))
    (feed-numbers ws t c (0 ∷ 0 ∷ 0 ∷ [])))
    (λ e. hit feed_numbers 1 tt)

-- `ember_sheet_read`: those of reading a sheet
pub sheet-read-numbers : (text store fs path : List ℕ) (cells : Cells) (words : List ℕ) → OneOf sheet_numbers (sheet_reads text store fs path cells words).number
unfolding sheet_reads given
sheet-read-numbers text store fs path cells words =
    pick-by (λ (x : SheetCall). OneOf sheet_numbers x.number) (both (eqb (length fs) 7) (eqb (length words) 1))
    (λ e. sheet-numbers text store path cells) (λ e. hit sheet_numbers 1 tt)

-- `ember_sheet_write`: 0, 1, 46
pub sheet-write-numbers : (fs path : List ℕ) (cells : Cells) (out words : List ℕ) → OneOf sheet_put_numbers (sheet_writes fs path cells out words).number
unfolding sheet_writes measured
sheet-write-numbers fs path cells out words =
    pick-by (λ (x : SheetPut). OneOf sheet_put_numbers x.number) (both (is_figures fs) (eqb (length words) 1))
    (λ e. sheet-put-numbers (desk_in fs path cells) out) (λ e. hit sheet_put_numbers 1 tt)
