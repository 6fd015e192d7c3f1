-- Turns made call by call (document 01, "Contracts"): calls of `framing::feed`, `glow_reader::read` and `desk_calls::call`, each by what its contract has it
-- ensure. The claim is stated over these (proofs/Functions.antt); they are turns, and every list of turns can be made so (proofs/Calls.antt).
use Rattle.std.specs.Prelude.{ℕ, Bool, false, List, [], ◌∷◌, ◌++◌, ◌≡◌, length, take, drop}
use contract.Lifetimes.{Lfts}
use denote.Triple.Clauses as Clauses
use borrow.Fn.World as World
use borrow.Fn.Kinds as K
use Rattle.framing_session.specs.declared.Event.{Event}
use Rattle.framing_session.specs.declared.Event.TheVariants as ev
use Rattle.framing_session.specs.declared.Fed.{Fed}
use Rattle.framing_session.specs.declared.Session.{Session}
use Rattle.framing.proofs.Calls as framing
use Rattle.glow_rows.specs.Entry.{Rows}
use Rattle.glow_reader.specs.declared.Answer.{Answer}
use Rattle.glow_reader.specs.declared.Answer.TheVariants.{Read}
use Rattle.glow_reader.specs.contracts.read
use Rattle.glow_reader.proofs.read.Kinds as read-kinds
use Rattle.glow_reader.proofs.read.Reads as read-reads
use Rattle.desk_crosspoints.specs.Crosspoints.{Cells}
use Rattle.desk_crosspoints.specs.Desk.{Desk, with_cells}
use Rattle.desk_calls.specs.declared.Called.{Called}
use Rattle.desk_calls.specs.Calls.{outcome_of as answered}
use Rattle.desk_calls.specs.contracts.call
use Rattle.desk_calls.proofs.call.Kinds as call-kinds
use Rattle.desk_calls.proofs.call.Reads as call-reads
use Rattle.turn_rules.specs.Turns as turns
use Rattle.turn_rules.specs.Turns.{Later, Turn, is_message, is_read}

-- `glow_reader::read` was called with the message s and the table, gave a, and left the table': what its contract has it ensure.
pub record ReadCall (s : List ℕ) (table : Rows) (a : Answer) (table' : Rows) : Type 0 where
  pub κs : Lfts 2
  pub args : World.ArgsD read.signature κs
  pub exits : Clauses.AtExit (K.ended_of 2 read-kinds.ps read-kinds.r) κs
  pub message-is : args.0.now ≡ s
  pub table_is : args.1.0.now ≡ table
  pub left_is : exits.1.0.now ≡ table'
  pub ensured : read-reads.Post κs args a exits

-- `desk_calls::call` was called with the desk d and the first n rows, the message s beside them, gave r, and left the crosspoints cells'.
pub record DeskCall (d : Desk) (rows : Rows) (n root : ℕ) (s : List ℕ) (r : Called) (cells' : Cells) : Type 0 where
  pub κs : Lfts 4
  pub args : World.ArgsD call.signature κs
  pub exits : Clauses.AtExit (K.ended_of 4 call-kinds.ps call-kinds.r) κs
  pub figures-are : args.0 ≡ d.figures
  pub path-is : args.1.0.now ≡ d.path
  pub rows_are : args.1.1.0.now ≡ rows
  pub count-is : args.1.1.1.0 ≡ n
  pub root_is : args.1.1.1.1.0 ≡ root
  pub message-is : args.1.1.1.1.1.0.now ≡ s
  pub cells_are : args.1.1.1.1.1.1.0.now ≡ d.crosspoints
  pub cells_left : exits.1.1.1.1.1.1.0.now ≡ cells'
  pub ensured : call-reads.Post κs args r exits

-- What comes after an event, call by call: the tree reader's call on the message, and after its 0 the desk's on those entries.
pub data CallsCome (rows : ℕ) : Event → List ℕ → Desk → Later → Desk → Type 0 where
  ends : {e : Event} {t : List ℕ} {d : Desk} → is_message e ≡ false → CallsCome rows e t d turns.none d
  reads : {t : List ℕ} {d : Desk} {n : ℕ} {b : Bool} (table : Rows) (a : Answer) (table' : Rows) → length table ≡ rows
      → ReadCall (take n t) table a table' → is_read a ≡ false → CallsCome rows (ev.Message n b) t d (turns.read a table') d
  serves : {t : List ℕ} {d : Desk} {n : ℕ} {b : Bool} (table : Rows) (root count : ℕ) (table' : Rows) (r : Called) (cells' : Cells)
      → length table ≡ rows → ReadCall (take n t) table (Read root count) table' → DeskCall d table' count root (take n t) r cells'
      → CallsCome rows (ev.Message n b) t d (turns.desk root count table' (answered r cells')) (with_cells d cells')

-- A list of turns, as `Turns` (crates/turn_rules/specs/Turns.antt), of such calls.
pub data CallByCall (rows : ℕ) : Session → List ℕ → Desk → List ℕ → List Turn → Session → List ℕ → Desk → List ℕ → Type 0 where
  end : {s : Session} {t : List ℕ} {d : Desk} {rest : List ℕ} → CallByCall rows s t d rest [] s t d rest
  next : {s s'' : Session} {t t' t'' : List ℕ} {d d' d'' : Desk} {rest'' : List ℕ} {ts : List Turn} (c later : List ℕ) (r : Fed) (x : Later)
      → framing.Call s t c r t' → CallsCome rows r.event t' d x d'
      → CallByCall rows r.session t' d' (drop r.consumed (c ++ later)) ts s'' t'' d'' rest''
      → CallByCall rows s t d (c ++ later) (record { offered = c; fed = r; store = t'; later = x } ∷ ts) s'' t'' d'' rest''
