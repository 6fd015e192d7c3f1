-- Calls of the functions: their contracts say what the claim speaks of. (framing::feed: crates/framing/proofs/Calls.antt.)
use Prim.Native.Nat.{ℕ, suc}
use mathlib.Core.List.{List, [], ◌∷◌, ◌++◌}
use mathlib.Core.Path.{◌≡◌, refl, ap}
use contract.Lifetimes.{Lfts}
use denote.Ref.{Bor, MutBor}
use denote.Triple.Clauses as Clauses
use borrow.Fn.World as World
use borrow.Fn.Kinds as K
use lib.ListN.{length, take, drop}
use Rattle.framing_session.specs.declared.Event.{Event}
use Rattle.framing_session.specs.declared.Session.{Session}
use Rattle.framing_session.specs.Session.{answers, feeds}
use Rattle.framing.specs.Offers as offers
use Rattle.framing.proofs.Calls as framing
use Rattle.glow_rows.specs.Entry.{Rows}
use Rattle.glow_reader.specs.declared.Answer.{Answer}
use Rattle.glow_reader.specs.declared.Answer.TheVariants.{Read}
use Rattle.glow_reader.specs.Message.{read_result, read_at}
use Rattle.desk_crosspoints.specs.Crosspoints.{Cells}
use Rattle.desk_crosspoints.specs.Desk.{Desk, desk_at, with_cells}
use Rattle.desk_calls.specs.declared.Called.{Called}
use Rattle.desk_calls.specs.Calls.{called, outcome_of as answered}
use Rattle.turns.specs.declared.Turned.{Turned}
use Rattle.turn_rules.specs.Turns as turns
use Rattle.turn_rules.specs.Turns.{Later, Turn, Comes, Turns, calls}
use Rattle.turns.specs.Calls.{ReadCall, DeskCall, CallsCome, ends, reads, serves, CallByCall, end, next}
use Rattle.turns.specs.Whole.{later_of, gave, later_at}
use Rattle.turns.proofs.Comes.{said_at, function-turn}
use Rattle.turns.specs.contracts.turn
use Rattle.turns.proofs.turn.Kinds as turn-kinds
use Rattle.turns.proofs.turn.Reads as turn-reads

-- a lent slice that holds xs
lent_slice : {A : Type 0} → List A → Bor (List A)
lent_slice xs = record { ref_ptr = (0, 0); now = xs }

-- the same, lent to be written
lent_out : {A : Type 0} → List A → MutBor (List A)
lent_out xs = record { ref_ptr = (0, 0); ghost_name = 0; now = xs }

pub read-says : {s : List ℕ} {table : Rows} {a : Answer} {table' : Rows} → ReadCall s table a table' → read_at s table ≡ read_result a table'
read-says k = cc k.ensured

pub read-called : {s : List ℕ} {table : Rows} (a : Answer) {table' : Rows} → read_at s table ≡ read_result a table' → ReadCall s table a table'
unfolding lent_slice lent_out
read-called {s} {table} a {table'} e =
    record {
      κs = ([], ([], tt));
      args = (lent_slice s, (lent_out table, tt));
      exits = (lent_slice s, (lent_out table', tt));
      message-is = refl;
      table_is = refl;
      left_is = refl;
      ensured = e;
    }

pub call-says : {d : Desk} {rows : Rows} {n root : ℕ} {s : List ℕ} {r : Called} {cells' : Cells} → DeskCall d rows n root s r cells'
    → called d root rows n s ≡ answered r cells'
call-says {d} {rows} {n} {root} {s} {r} {cells'} k =
    let e : called (desk_at d.figures d.path d.crosspoints) root rows n s ≡ answered r cells' = cc k.ensured in e

module _ (d : Desk) (rows : Rows) (n root : ℕ) (s : List ℕ) (r : Called) (cells' : Cells) where
  pub desk-called : called d root rows n s ≡ answered r cells' → DeskCall d rows n root s r cells'
  unfolding lent_slice lent_out
  desk-called e =
      record {
        κs = ([], ([], ([], ([], tt))));
        args = (d.figures, (lent_slice d.path, (lent_slice rows, (n, (root, (lent_slice s, (lent_out d.crosspoints, tt)))))));
        exits = (d.figures, (lent_slice d.path, (lent_slice rows, (n, (root, (lent_slice s, (lent_out cells', tt)))))));
        figures-are = refl;
        path-is = refl;
        rows_are = refl;
        count-is = refl;
        root_is = refl;
        message-is = refl;
        cells_are = refl;
        cells_left = refl;
        ensured = e;
      }

calls-come : {rows : ℕ} {e : Event} {t : List ℕ} {d d' : Desk} {x : Later} → CallsCome rows e t d x d' → Comes rows e t d x d'
calls-come (ends h) = turns.ends h
calls-come (reads table a table' k c h) = turns.reads table a table' k (read-says c) h
calls-come (serves table root count table' r cells' k c y) = turns.serves table root count table' r cells' k (read-says c) (call-says y)

come-calls : {rows : ℕ} {e : Event} {t : List ℕ} {d d' : Desk} {x : Later} → Comes rows e t d x d' → CallsCome rows e t d x d'
come-calls (turns.ends h) = ends h
come-calls (turns.reads table a table' k q h) = reads table a table' k (read-called a q) h
come-calls {d = d} (turns.serves {t = t} {n = n} table root count table' r cells' k q p) =
    serves table root count table' r cells' k (read-called (Read root count) q)
    (desk-called d table' count root (take n t) r cells' p)

-- They are turns, and every list of turns can be made so.
pub calls-turns : {rows : ℕ} {s s'' : Session} {t t'' : List ℕ} {d d'' : Desk} {rest rest'' : List ℕ} {ts : List Turn}
    → CallByCall rows s t d rest ts s'' t'' d'' rest'' → Turns rows s t d rest ts s'' t'' d'' rest''
calls-turns end = turns.none
calls-turns (next c later r x call come more) = turns.turn c later r x (framing.says call) (calls-come come) (calls-turns more)

pub turns-calls : {rows : ℕ} {s s'' : Session} {t t'' : List ℕ} {d d'' : Desk} {rest rest'' : List ℕ} {ts : List Turn}
    → Turns rows s t d rest ts s'' t'' d'' rest'' → CallByCall rows s t d rest ts s'' t'' d'' rest''
turns-calls turns.none = end
turns-calls (turns.turn c later r x e come more) = next c later r x (framing.called r e) (come-calls come) (turns-calls more)

-- `turn`
pub record TurnCall (s : Session) (t c : List ℕ) (table : Rows) (d : Desk) (r : Turned) (t' : List ℕ) (table' : Rows) (cells' : Cells) : Type 0 where
  pub κs : Lfts 5
  pub args : World.ArgsD turn.signature κs
  pub exits : Clauses.AtExit (K.ended_of 5 turn-kinds.ps turn-kinds.r) κs
  pub session-is : args.0 ≡ s
  pub store_is : args.1.0.now ≡ t
  pub chunk-is : args.1.1.0.now ≡ c
  pub table_is : args.1.1.1.0.now ≡ table
  pub figures-are : args.1.1.1.1.0 ≡ d.figures
  pub path-is : args.1.1.1.1.1.0.now ≡ d.path
  pub cells_are : args.1.1.1.1.1.1.0.now ≡ d.crosspoints
  pub store-left : exits.1.0.now ≡ t'
  pub table-left : exits.1.1.1.0.now ≡ table'
  pub cells_left : exits.1.1.1.1.1.1.0.now ≡ cells'
  pub ensured : turn-reads.Post κs args r exits

module _ {s : Session} {t c : List ℕ} {table : Rows} {d : Desk} {r : Turned} {t' : List ℕ} {table' : Rows} {cells' : Cells}
    (k : TurnCall s t c table d r t' table' cells') where
  pub turn-feeds : feeds s t c ≡ answers r.fed t'
  turn-feeds = cc k.ensured.0

  pub turn-later : later_at d r.fed.event t' table ≡ gave r.after r.answers table' cells'
  turn-later =
      let e : later_at (desk_at d.figures d.path d.crosspoints) r.fed.event t' table ≡ gave r.after r.answers table' cells' =
      cc k.ensured.1 in e

  -- A call of `turn` is a turn: before any other turns it makes a list of turns, and the claim speaks of it.
  pub turn-made : {rows : ℕ} {s'' : Session} {t'' : List ℕ} {d'' : Desk} {rest'' : List ℕ} {ts : List Turn} (later : List ℕ) → length table ≡ rows
      → Turns rows r.fed.session t' (with_cells d cells') (drop r.fed.consumed (c ++ later)) ts s'' t'' d'' rest''
      → Turns rows s t d (c ++ later)
      (record { offered = c; fed = r.fed; store = t'; later = later_of r.after r.answers table' cells' } ∷ ts) s'' t'' d'' rest''
  turn-made later sized more = function-turn c later table r table' cells' sized turn-feeds turn-later more

module _ (s : Session) (t c : List ℕ) (table : Rows) (d : Desk) (r : Turned) (t' : List ℕ) (table' : Rows) (cells' : Cells) where
  pub turn-called : feeds s t c ≡ answers r.fed t' → later_at d r.fed.event t' table ≡ gave r.after r.answers table' cells'
      → TurnCall s t c table d r t' table' cells'
  unfolding lent_slice lent_out
  turn-called e q =
      record {
        κs = ([], ([], ([], ([], ([], tt)))));
        args = (s, (lent_out t, (lent_slice c, (lent_out table, (d.figures, (lent_slice d.path, (lent_out d.crosspoints, tt)))))));
        exits = (s, (lent_out t', (lent_slice c, (lent_out table', (d.figures, (lent_slice d.path, (lent_out cells', tt)))))));
        session-is = refl;
        store_is = refl;
        chunk-is = refl;
        table_is = refl;
        figures-are = refl;
        path-is = refl;
        cells_are = refl;
        store-left = refl;
        table-left = refl;
        cells_left = refl;
        ensured = (e, q);
      }

-- A list of calls of `turn`: each takes the session, the store and the desk that the call before it left, and is offered bytes from the first not yet consumed.
-- The table's content may be any at each.
pub data Made (rows : ℕ) : Session → List ℕ → Desk → List ℕ → List Turn → Session → List ℕ → Desk → List ℕ → Type 0 where
  none : {s : Session} {t : List ℕ} {d : Desk} {rest : List ℕ} → Made rows s t d rest [] s t d rest
  made : {s s'' : Session} {t t' t'' : List ℕ} {d d'' : Desk} {rest'' : List ℕ} {ts : List Turn} (c later : List ℕ) (table : Rows)
      (r : Turned) (table' : Rows) (cells' : Cells) → TurnCall s t c table d r t' table' cells' → length table ≡ rows
      → Made rows r.fed.session t' (with_cells d cells') (drop r.fed.consumed (c ++ later)) ts s'' t'' d'' rest''
      → Made rows s t d (c ++ later)
      (record { offered = c; fed = r.fed; store = t'; later = later_of r.after r.answers table' cells' } ∷ ts) s'' t'' d'' rest''

-- It is a list of turns.
pub made-turns : {rows : ℕ} {s s'' : Session} {t t'' : List ℕ} {d d'' : Desk} {rest rest'' : List ℕ} {ts : List Turn}
    → Made rows s t d rest ts s'' t'' d'' rest'' → Turns rows s t d rest ts s'' t'' d'' rest''
made-turns none = turns.none
made-turns (made c later table r table' cells' k sized more) = turn-made k later sized (made-turns more)

-- There are such calls: session calls, made calls of `turn`, the i-th with the i-th table.
module _ (rows : ℕ) (tables : ℕ → Rows) (sized : (i : ℕ) → length (tables i) ≡ rows) where
  pub record SomeMade (s : Session) (t : List ℕ) (d : Desk) (rest : List ℕ) (cs : List offers.Turn) (s'' : Session) (t'' rest'' : List ℕ) : Type 0 where
    pub turns : List Turn
    pub desk : Desk
    pub calls-made : Made rows s t d rest turns s'' t'' desk rest''
    pub same : calls turns ≡ cs

  pub some-made : {s s'' : Session} {t t'' rest rest'' : List ℕ} {cs : List offers.Turn} (i : ℕ) (d : Desk) → offers.Turns s t rest cs s'' t'' rest''
      → SomeMade s t d rest cs s'' t'' rest''
  some-made i d offers.none = record { turns = []; desk = d; calls-made = none; same = refl }
  some-made {s} {t = t} i d (offers.turn {t' = t'} c later r e more) =
      let x = said_at d r.event t' (tables i) in
      let y = later_at d r.event t' (tables i) in
      let k = some-made (suc i) (with_cells d y.crosspoints) more in
      let w : Turned = record { fed = r; after = x.0; answers = y.answers } in
      let g = turn-called s t c (tables i) d w t' y.table y.crosspoints e x.1 in
      record {
        turns = record { offered = c; fed = r; store = t'; later = later_of x.0 y.answers y.table y.crosspoints } ∷ k.turns;
        desk = k.desk;
        calls-made = made c later (tables i) w y.table y.crosspoints g (sized i) k.calls-made;
        same = ap (λ (xs : List offers.Turn). record { offered = c; fed = r; store = t' } ∷ xs) k.same;
      }
