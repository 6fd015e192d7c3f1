-- Calls of `ember_turn`: its contract says what the claim speaks of. And of `ember_feed`: its contract is that of `framing_feed`, so that what crates/framing_c
-- proves of every list of those calls holds of its own.
use Prim.Native.Nat.{ℕ}
use mathlib.Core.List.{List, [], ◌∷◌}
use mathlib.Core.Path.{◌≡◌, refl, ap, ◌∙◌}
use contract.Lifetimes.{Lfts}
use denote.Ref.{Bor, MutBor}
use denote.Triple.Clauses as Clauses
use borrow.Fn.World as World
use borrow.Fn.Kinds as K
use lib.ListN.{take}
use Rattle.glow_rows.specs.Entry.{Rows}
use Rattle.desk_crosspoints.specs.Crosspoints.{Cells}
use Rattle.framing_c.specs.Calls.{Called, calls}
use Rattle.ember.specs.Calls.{Turned, turns}
use Rattle.ember.specs.Rounds.{Round, Rounds, round, refused}
use Rattle.ember.specs.contracts.ember_feed
use Rattle.ember.proofs.ember_feed.Kinds as feed-kinds
use Rattle.ember.proofs.ember_feed.Reads as feed-reads
use Rattle.ember.specs.contracts.ember_turn
use Rattle.ember.proofs.ember_turn.Kinds as turn-kinds
use Rattle.ember.proofs.ember_turn.Reads as turn-reads

-- a lent slice that holds xs
lent_slice : {A : Type 0} → List A → Bor (List A)
lent_slice xs = record { ref_ptr = (0, 0); now = xs }

-- the same, lent to be written
lent_out : {A : Type 0} → List A → MutBor (List A)
lent_out xs = record { ref_ptr = (0, 0); ghost_name = 0; now = xs }

-- `ember_feed`
pub record FeedCall (ws t c a : List ℕ) (r : Called) : Type 0 where
  pub κs : Lfts 4
  pub args : World.ArgsD ember_feed.signature κs
  pub exits : Clauses.AtExit (K.ended_of 4 feed-kinds.ps feed-kinds.r) κs
  pub session-is : args.0.now ≡ ws
  pub store_is : args.1.0.now ≡ t
  pub chunk-is : args.1.1.0.now ≡ c
  pub answer-is : args.1.1.1.0.now ≡ a
  pub session-left : exits.0.now ≡ r.session
  pub store-left : exits.1.0.now ≡ r.store
  pub answer-left : exits.1.1.1.0.now ≡ r.answer
  pub ensured : feed-reads.Post κs args r.number exits

fed-again : {y : Called} (r : Called) {ws t a : List ℕ} → y ≡ record { number = r.number; session = ws; store = t; answer = a } → ws ≡ r.session
    → t ≡ r.store → a ≡ r.answer → y ≡ r
fed-again r {ws} {t} {a} e p q o =
    e
    ∙ ap (λ (v : List ℕ). record { number = r.number; session = v; store = t; answer = a }) p
    ∙ ap (λ (v : List ℕ). record { number = r.number; session = r.session; store = v; answer = a }) q
    ∙ ap (λ (v : List ℕ). record { number = r.number; session = r.session; store = r.store; answer = v }) o

pub feed-says : {ws t c a : List ℕ} {r : Called} → FeedCall ws t c a r → calls ws t c a ≡ r
feed-says {ws} {t} {c} {a} {r} k =
    let e : calls ws t c a ≡ record { number = r.number; session = k.exits.0.now; store = k.exits.1.0.now; answer = k.exits.1.1.1.0.now } =
    cc k.ensured in
    fed-again r e k.session-left k.store-left k.answer-left

pub feed-called : (ws t c a : List ℕ) (r : Called) → calls ws t c a ≡ r → FeedCall ws t c a r
unfolding lent_slice lent_out
feed-called ws t c a r e =
    record {
      κs = ([], ([], ([], ([], tt))));
      args = (lent_out ws, (lent_out t, (lent_slice c, (lent_out a, tt))));
      exits = (lent_out r.session, (lent_out r.store, (lent_slice c, (lent_out r.answer, tt))));
      session-is = refl;
      store_is = refl;
      chunk-is = refl;
      answer-is = refl;
      session-left = refl;
      store-left = refl;
      answer-left = refl;
      ensured = e;
    }

-- `ember_turn` was called with these words, bytes and rows, answered x .number and left the rest of x: what its contract has it ensure.
pub record Call (ws t c : List ℕ) (table : Rows) (fs path : List ℕ) (cells : Cells) (lent a : List ℕ) (x : Turned) : Type 0 where
  pub κs : Lfts 9
  pub args : World.ArgsD ember_turn.signature κs
  pub exits : Clauses.AtExit (K.ended_of 9 turn-kinds.ps turn-kinds.r) κs
  pub session-is : args.0.now ≡ ws
  pub store_is : args.1.0.now ≡ t
  pub chunk-is : args.1.1.0.now ≡ c
  pub table_is : args.1.1.1.0.now ≡ table
  pub figures-are : args.1.1.1.1.0.now ≡ fs
  pub path-is : args.1.1.1.1.1.0.now ≡ path
  pub cells_are : args.1.1.1.1.1.1.0.now ≡ cells
  pub lent_is : args.1.1.1.1.1.1.1.0.now ≡ lent
  pub answer-is : args.1.1.1.1.1.1.1.1.0.now ≡ a
  pub session-left : exits.0.now ≡ x.session
  pub store-left : exits.1.0.now ≡ x.store
  pub table-left : exits.1.1.1.0.now ≡ x.table
  pub cells_left : exits.1.1.1.1.1.1.0.now ≡ x.crosspoints
  pub answers-left : exits.1.1.1.1.1.1.1.0.now ≡ x.answers
  pub answer-left : exits.1.1.1.1.1.1.1.1.0.now ≡ x.answer
  pub ensured : turn-reads.Post κs args x.number exits

abbrev whole : ℕ → List ℕ → List ℕ → Rows → Cells → List ℕ → List ℕ → Turned
whole n ws t table cells answers a =
    record { number = n; session = ws; store = t; table = table; crosspoints = cells; answers = answers; answer = a }

turn-again : {y : Turned} (x : Turned) {ws t : List ℕ} {table : Rows} {cells : Cells} {answers a : List ℕ} → y ≡ whole x.number ws t table cells answers a
    → ws ≡ x.session → t ≡ x.store → table ≡ x.table → cells ≡ x.crosspoints → answers ≡ x.answers → a ≡ x.answer → y ≡ x
turn-again x {ws} {t} {table} {cells} {answers} {a} e p q o m l k =
    e
    ∙ ap (λ (v : List ℕ). whole x.number v t table cells answers a) p
    ∙ ap (λ (v : List ℕ). whole x.number x.session v table cells answers a) q
    ∙ ap (λ (v : Rows). whole x.number x.session x.store v cells answers a) o
    ∙ ap (λ (v : Cells). whole x.number x.session x.store x.table v answers a) m
    ∙ ap (λ (v : List ℕ). whole x.number x.session x.store x.table x.crosspoints v a) l
    ∙ ap (λ (v : List ℕ). whole x.number x.session x.store x.table x.crosspoints x.answers v) k

-- What a call gives is what `turns` says, and nothing else.
pub turn-says : {ws t c : List ℕ} {table : Rows} {fs path : List ℕ} {cells : Cells} {lent a : List ℕ} {x : Turned}
    → Call ws t c table fs path cells lent a x → turns ws t c table fs path cells lent a ≡ x
turn-says {ws} {t} {c} {table} {fs} {path} {cells} {lent} {a} {x} k =
    let e : turns ws t c table fs path cells lent a
    ≡ whole x.number k.exits.0.now k.exits.1.0.now k.exits.1.1.1.0.now k.exits.1.1.1.1.1.1.0.now
    k.exits.1.1.1.1.1.1.1.0.now k.exits.1.1.1.1.1.1.1.1.0.now = cc k.ensured in
    turn-again x e k.session-left k.store-left k.table-left k.cells_left k.answers-left k.answer-left

module _ (ws t c : List ℕ) (table : Rows) (fs path : List ℕ) (cells : Cells) (lent a : List ℕ) (x : Turned) where
  pub turn-called : turns ws t c table fs path cells lent a ≡ x → Call ws t c table fs path cells lent a x
  unfolding lent_slice lent_out
  turn-called e =
      record {
        κs = ([], ([], ([], ([], ([], ([], ([], ([], ([], tt)))))))));
        args = (
          lent_out ws,
          (
            lent_out t,
            (
              lent_slice c,
              (
                lent_out table,
                (
                  lent_slice fs,
                  (
                    lent_slice path,
                    (
                      lent_out cells,
                      (
                        lent_out lent,
                        (lent_out a, tt),
                      ),
                    ),
                  ),
                ),
              ),
            ),
          ),
        );
        exits = (
          lent_out x.session,
          (
            lent_out x.store,
            (
              lent_slice c,
              (
                lent_out x.table,
                (
                  lent_slice fs,
                  (
                    lent_slice path,
                    (lent_out x.crosspoints, (lent_out x.answers, (lent_out x.answer, tt))),
                  ),
                ),
              ),
            ),
          ),
        );
        session-is = refl;
        store_is = refl;
        chunk-is = refl;
        table_is = refl;
        figures-are = refl;
        path-is = refl;
        cells_are = refl;
        lent_is = refl;
        answer-is = refl;
        session-left = refl;
        store-left = refl;
        table-left = refl;
        cells_left = refl;
        answers-left = refl;
        answer-left = refl;
        ensured = e;
      }

-- a call that was offered and left what a round says
pub record CallOf (r : Round) : Type 0 where
  pub session : List ℕ
  pub store : List ℕ
  pub table : Rows
  pub figures : List ℕ
  pub path : List ℕ
  pub cells : Cells
  pub lent : List ℕ
  pub answer : List ℕ
  pub call : Call session store r.offered table figures path cells lent answer r.left

call-of : {ws t c : List ℕ} {table : Rows} {fs path : List ℕ} {cells : Cells} {lent a : List ℕ} {x : Turned} → Call ws t c table fs path cells lent a x
    → CallOf (record { offered = c; left = x })
call-of {ws} {t} {c} {table} {fs} {path} {cells} {lent} {a} k =
    record { session = ws; store = t; table = table; figures = fs; path = path; cells = cells; lent = lent; answer = a; call = k }

-- Each of a list of calls is a call of `ember_turn`, the refused ones too.
pub round-is-call : {rows : ℕ} {fs path ws t : List ℕ} {cells : Cells} {rest : List ℕ} {r : Round} {xs : List Round} {ws'' t'' : List ℕ} {cells'' : Cells}
    {rest'' : List ℕ} → Rounds rows fs path ws t cells rest (r ∷ xs) ws'' t'' cells'' rest'' → CallOf r
round-is-call {fs = fs} {path} {ws} {t} {cells} (round c later table lent a x e n sized more) = call-of (turn-called ws t c table fs path cells lent a x e)
round-is-call {ws = ws} {t} {cells} (refused i j k c later table figures numbers lent a x e n more) =
    call-of (turn-called (take i ws) (take j t) c table figures numbers (take k cells) lent a x e)
