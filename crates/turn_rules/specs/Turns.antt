-- Turns (document 01, "Contracts"): "A turn is a session call, offered 0 or more bytes from the first not yet consumed; if it gives 3, then the tree
-- reader's call on that message; if that gives 0, then the desk's call on those entries, as read."
-- What a call gives is what its contract says: `feeds` (framing::feed), `read_at` (glow_reader::read), `called` (desk_calls::call).
use Rattle.std.specs.Prelude.{ℕ, ◌+◌, ◌≤◌, Bool, true, false, List, [], ◌∷◌, ◌++◌, ◌≡◌, length, take, drop}
use Rattle.framing_session.specs.declared.Event.{Event}
use Rattle.framing_session.specs.declared.Event.TheVariants as ev
use Rattle.framing_session.specs.declared.Fed.{Fed}
use Rattle.framing_session.specs.declared.Session.{Session}
use Rattle.framing_session.specs.Rules.{State}
use Rattle.framing_session.specs.Session.{said_by, state_of, Legal, answers, feeds}
use Rattle.framing.specs.Offers as offers
use Rattle.glow_rows.specs.Entry.{Rows}
use Rattle.glow_reader.specs.declared.Answer.{Answer}
use Rattle.glow_reader.specs.declared.Answer.TheVariants.{Setup, Refused, Room, Read}
use Rattle.glow_reader.specs.Message.{read_result, read_at, reply_by as tree_said}
use Rattle.glow_trees.specs.Rows.{items_in}
use Rattle.desk_crosspoints.specs.Crosspoints.{Cells}
use Rattle.desk_crosspoints.specs.Desk.{Desk, with_cells, desk_legal}
use Rattle.desk_calls.specs.declared.Called.{Called}
use Rattle.desk_calls.specs.Calls.{Outcome, called, outcome_of as answered}
use Rattle.turn_rules.specs.Rules.{keep, Then, nothing, refused, served, Told, noted, tells, after}

-- What came after the session's call: nothing; the tree reader's answer, other than 0, and the table after it; its answer 0 (Root's kind and how many
-- entries), the table after it, and the desk's answer with the crosspoints after it.
pub data Later : Type 0 where
  none : Later
  read : Answer → Rows → Later
  desk : ℕ → ℕ → Rows → Outcome → Later

-- A turn: what was offered, what the session's call gave, the store as it left it, and what came after.
pub record Turn : Type 0 where
  pub offered : List ℕ
  pub fed : Fed
  pub store : List ℕ
  pub later : Later

-- the session's 3
abbrev pub is_message : Event → Bool
is_message ev.More = false
is_message ev.Setup = false
is_message (ev.Piece d) = false
is_message (ev.Message n d) = true
is_message ev.Request = false
is_message ev.Response = false
is_message (ev.Refused f d) = false

-- the tree reader's 0
abbrev pub is_read : Answer → Bool
is_read Setup = false
is_read (Refused number place) = false
is_read (Room count) = false
is_read (Read root count) = true

-- What comes after an event that left the store t, on the desk d, with a table of `rows` entries, whatever they hold, and the desk after it.
pub data Comes (rows : ℕ) : Event → List ℕ → Desk → Later → Desk → Type 0 where
  -- nothing, unless the session gave 3
  ends : {e : Event} {t : List ℕ} {d : Desk} → is_message e ≡ false → Comes rows e t d none d
  -- the tree reader's call on the message, which is the store's first bytes; it gives another number than 0
  reads : {t : List ℕ} {d : Desk} {n : ℕ} {b : Bool} (table : Rows) (a : Answer) (table' : Rows) → length table ≡ rows
      → read_at (take n t) table ≡ read_result a table' → is_read a ≡ false → Comes rows (ev.Message n b) t d (read a table') d
  -- it gives 0, and then the desk's call on those entries, as read, the message beside them
  serves : {t : List ℕ} {d : Desk} {n : ℕ} {b : Bool} (table : Rows) (root count : ℕ) (table' : Rows) (r : Called) (cells' : Cells)
      → length table ≡ rows → read_at (take n t) table ≡ read_result (Read root count) table'
      → called d root table' count (take n t) ≡ answered r cells'
      → Comes rows (ev.Message n b) t d (desk root count table' (answered r cells')) (with_cells d cells')

-- A list of turns from the session s, the store t and the desk d, with the bytes rest yet to come. Each turn takes the session, the store and the desk that
-- the turn before it left; the table's content may be any at each.
pub data Turns (rows : ℕ) : Session → List ℕ → Desk → List ℕ → List Turn → Session → List ℕ → Desk → List ℕ → Type 0 where
  none : {s : Session} {t : List ℕ} {d : Desk} {rest : List ℕ} → Turns rows s t d rest [] s t d rest
  turn : {s s'' : Session} {t t' t'' : List ℕ} {d d' d'' : Desk} {rest'' : List ℕ} {ts : List Turn} (c later : List ℕ) (r : Fed) (x : Later)
      → feeds s t c ≡ answers r t' → Comes rows r.event t' d x d'
      → Turns rows r.session t' d' (drop r.consumed (c ++ later)) ts s'' t'' d'' rest''
      → Turns rows s t d (c ++ later) (record { offered = c; fed = r; store = t'; later = x } ∷ ts) s'' t'' d'' rest''

-- the session calls alone
abbrev pub call_of : Turn → offers.Turn
call_of x = record { offered = x.offered; fed = x.fed; store = x.store }

abbrev pub calls : List Turn → List offers.Turn
calls [] = []
calls (x ∷ xs) = call_of x ∷ calls xs

-- What came after, told as the rules tell it. The message m is the store's first bytes; the entries are those that stand in the table's first rows; the
-- desk's number is 0 or 1, and its answers are the first bytes of those that it gave.
abbrev pub then_of : Later → List ℕ → Then
then_of none m = nothing
then_of (read a table') m = refused (tree_said a)
then_of (desk root count table' o) m = served (tree_said (Read root count)) (items_in m table' count) o.number (take o.count o.answers)

-- What the turns told, in order, with the number of bytes consumed by then.
abbrev pub told : List Turn → ℕ → List Told
told [] n = []
told (x ∷ xs) n =
    let e = said_by x.fed.event x.store in
    noted e (then_of x.later e.message) (n + x.fed.consumed) (told xs (n + x.fed.consumed))

-- What holds of a list of turns from a state of the stream and a desk.
pub record AsRules (rows : ℕ) (s : State) (d : Desk) (n : ℕ) (ts : List Turn) (s'' : Session) (t'' : List ℕ) (d'' : Desk) (bytes rest : List ℕ) : Type 0 where
  -- what the turns told is what the rules tell for the bytes consumed
  pub tells : told ts n ≡ tells rows (keep s d) n (offers.eaten (calls ts))
  -- what session and store hold, and the whole desk, are what the rules keep
  pub keeps : keep (state_of s'' t'') d'' ≡ after rows (keep s d) (offers.eaten (calls ts))
  -- the bytes consumed are the first of those to come
  pub bytes-are : offers.eaten (calls ts) ++ rest ≡ bytes
  -- a session call that gave no event consumed all it was offered
  pub counted : offers.Counted (calls ts)
  -- one that gave an event consumed the bytes up to and including that event's
  pub stops : offers.Stops s (calls ts)
  -- what the turns leave is fit for others
  pub legal : desk_legal d'' ≡ true
  pub session-legal : Legal s'' t''

-- Some list of turns, from the session s, the store t and the desk d, offers these chunks, each until it is consumed, and consumes them whole.
pub record Consumed (rows : ℕ) (s : Session) (t : List ℕ) (d : Desk) (chunks : List (List ℕ)) : Type 0 where
  pub turns : List Turn
  pub session : Session
  pub store : List ℕ
  pub desk : Desk
  pub made : Turns rows s t d (offers.joined chunks) turns session store desk []
  pub served : offers.Serves chunks (calls turns)
