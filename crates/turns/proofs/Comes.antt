-- What the three calls give, one after another, is a turn: for calls made one by one and for the function `turn`.
use Rattle.std.specs.Prelude.{Ok, Err, Result as Fallible}
use Rattle.ber_containers.specs.declared.No.{No}
use Prim.Native.Nat.{ℕ}
use mathlib.Core.Bool.{Bool}
use mathlib.Core.List.{List, ◌∷◌, ◌++◌}
use mathlib.Core.Path.{◌≡◌, refl, ap, subst, ◌∙◌}
use lib.Dec.{ltb}
use lib.ListN.{length, take, drop}
use Rattle.base_choices.proofs.Laws.{pick-by}
use Rattle.framing_session.specs.declared.Event.{Event}
use Rattle.framing_session.specs.declared.Event.TheVariants as ev
use Rattle.framing_session.specs.declared.Session.{Session}
use Rattle.framing_session.specs.Session.{answers, feeds}
use Rattle.glow_rows.specs.Entry.{Entries, Rows}
use Rattle.glow_reader.specs.declared.Answer.{Answer}
use Rattle.glow_reader.specs.declared.Answer.TheVariants.{Setup, Refused, Room, Read}
use Rattle.glow_walk.specs.Walk.{walk}
use Rattle.glow_reader.specs.Message.{Result, read_result, read_of, read_at, setup}
use Rattle.desk_crosspoints.specs.Crosspoints.{Cells}
use Rattle.desk_crosspoints.specs.Desk.{Desk, with_cells}
use Rattle.desk_calls.specs.declared.Called.{Called}
use Rattle.desk_calls.specs.Calls.{Outcome, called}
use Rattle.turns.specs.declared.Turned.{Turned}
use Rattle.turns.specs.declared.After.{After}
use Rattle.turns.specs.declared.After.TheVariants as after
use Rattle.turn_rules.specs.Turns.{Turn, Comes, ends, reads, serves, Turns, turn}
use Rattle.turns.specs.Whole.{Left, later_of, gave, answer_to, read_to, later_at}

-- what a result says is what its answer says
abbrev Whole : Result → Type 0
Whole x = x ≡ read_result x.answer x.rows

whole_by : (table : Rows) (which : ℕ) (es : Entries) (a : Fallible ℕ No) → Whole (read_of table which es a)
whole_by table which es (Ok next) = pick-by Whole (ltb (length table) (length es)) (λ e. refl) (λ e. refl)
whole_by table which es (Err e) = refl

whole : (s : List ℕ) (table : Rows) → Whole (read_at s table)
unfolding read_at
whole s table =
    pick-by Whole (setup (length s) (length table)) (λ e. refl) (λ e. whole_by table (walk s).which (walk s).out.entries (walk s).out.answer)

-- what the desk's call gives is what some answer says
abbrev answer_of : Outcome → Called
answer_of o = record { number = o.number; count = o.count; answers = o.answers }

module _ (rows : ℕ) (d : Desk) (t : List ℕ) (table : Rows) (sized : length table ≡ rows) where
  module _ (n : ℕ) (b : Bool) where
    abbrev m : List ℕ
    m = take n t

    abbrev x : Result
    x = read_at m table

    abbrev After-3 : Left → Type 0
    After-3 y = Comes rows (ev.Message n b) t d y.later (with_cells d y.crosspoints)

    is-result : (a : Answer) → x.answer ≡ a → x ≡ read_result a x.rows
    is-result a h = whole m table ∙ ap (λ (z : Answer). read_result z x.rows) h

    by_answer : (a : Answer) → x.answer ≡ a → After-3 (answer_to d m a x.rows)
    by_answer Setup h = reads table Setup x.rows sized (is-result Setup h) refl
    by_answer (Refused number place) h = reads table (Refused number place) x.rows sized (is-result (Refused number place) h) refl
    by_answer (Room count) h = reads table (Room count) x.rows sized (is-result (Room count) h) refl
    by_answer (Read root count) h =
        let o = called d root x.rows count m in
        serves table root count x.rows (answer_of o) o.cells sized (is-result (Read root count) h) refl

    after-message : After-3 (read_to d m table)
    unfolding read_to
    after-message = by_answer x.answer refl

  -- What comes after an event, whichever it is.
  pub comes-at : (e : Event) → Comes rows e t d (later_at d e t table).later (with_cells d (later_at d e t table).crosspoints)
  comes-at ev.More = ends refl
  comes-at ev.Setup = ends refl
  comes-at (ev.Piece b) = ends refl
  comes-at (ev.Message n b) = after-message n b
  comes-at ev.Request = ends refl
  comes-at ev.Response = ends refl
  comes-at (ev.Refused f b) = ends refl

-- What the calls give, some case of the function's answer says.
module _ (d : Desk) where
  abbrev Said : Left → Type 0
  Said y = (x : After) × (y ≡ gave x y.answers y.table y.crosspoints)

  answer-said : (m : List ℕ) (a : Answer) (table : Rows) → Said (answer_to d m a table)
  answer-said m Setup table = (after.Refused Setup, refl)
  answer-said m (Refused number place) table = (after.Refused (Refused number place), refl)
  answer-said m (Room count) table = (after.Refused (Room count), refl)
  answer-said m (Read root count) table =
      let o = called d root table count m in
      (after.Served root count o.number o.count, refl)

  read-said : (m : List ℕ) (table : Rows) → Said (read_to d m table)
  unfolding read_to
  read-said m table = answer-said m (read_at m table).answer (read_at m table).rows

  pub said_at : (e : Event) (t : List ℕ) (table : Rows) → Said (later_at d e t table)
  said_at ev.More t table = (after.Nothing, refl)
  said_at ev.Setup t table = (after.Nothing, refl)
  said_at (ev.Piece b) t table = (after.Nothing, refl)
  said_at (ev.Message n b) t table = read-said (take n t) table
  said_at ev.Request t table = (after.Nothing, refl)
  said_at ev.Response t table = (after.Nothing, refl)
  said_at (ev.Refused f b) t table = (after.Nothing, refl)

-- What the function `turn` gives, by the two equations of its contract, is a turn: before any other turns it makes a list of turns.
pub function-turn : {rows : ℕ} {s s'' : Session} {t t' t'' : List ℕ} {d d'' : Desk} {rest'' : List ℕ} {ts : List Turn} (c later : List ℕ) (table : Rows)
    (r : Turned) (table' : Rows) (cells' : Cells) → length table ≡ rows → feeds s t c ≡ answers r.fed t'
    → later_at d r.fed.event t' table ≡ gave r.after r.answers table' cells'
    → Turns rows r.fed.session t' (with_cells d cells') (drop r.fed.consumed (c ++ later)) ts s'' t'' d'' rest''
    → Turns rows s t d (c ++ later)
    (record { offered = c; fed = r.fed; store = t'; later = later_of r.after r.answers table' cells' } ∷ ts) s'' t'' d'' rest''
function-turn {rows} {t' = t'} {d = d} c later table r table' cells' sized e q more =
    turn c later r.fed (later_of r.after r.answers table' cells') e
    (subst (λ (y : Left). Comes rows r.fed.event t' d y.later (with_cells d y.crosspoints)) q (comes-at rows d t' table sized r.fed.event))
    more
