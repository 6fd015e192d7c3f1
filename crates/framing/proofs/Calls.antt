-- Calls of `start` and `feed`. Their contracts say what the claim over every list of offers speaks of; and the claim speaks of something: there is a call for
-- every session, store and chunk, and a list of calls for every stream and every way to cut it.
use Prim.Native.Nat.{ℕ, zero, suc, ◌+◌, ◌≤◌, ◌<◌}
use mathlib.Core.Bool.{Bool, true, false, not}
use mathlib.Core.Path.{◌≡◌, refl, sym, ap, subst, ◌∙◌}
use mathlib.Core.List.{List, [], ◌∷◌, append-nil}
use native.Mathlib.Omega.{arith}
use borrow.Author.Tests.{eqb-true, eqb-false}
use contract.Lifetimes.{Lfts}
use denote.Ref.{Bor, MutBor}
use denote.Triple.Clauses as Clauses
use borrow.Fn.World as World
use borrow.Fn.Kinds as K
use lib.Dec.{eqb}
use lib.ListN.{length, take, drop, length-drop}
use types.Run.{OneOf}
use lib.Seq.{drop-append-le, drop_at}
use Rattle.framing.specs.contracts.feed
use Rattle.framing.proofs.feed.Kinds as feed-kinds
use Rattle.framing.proofs.feed.Reads as feed-reads
use Rattle.framing_session.specs.contracts.start
use Rattle.framing_session.proofs.start.Kinds as start-kinds
use Rattle.framing_session.proofs.start.Reads as start-reads
use Rattle.framing_session.specs.declared.Event.TheVariants as ev
use Rattle.framing_session.specs.declared.Fed.{Fed}
use Rattle.framing_session.specs.declared.Session.{Session}
use Rattle.base_choices.specs.Choices.{pick}
use Rattle.base_choices.proofs.Laws.{pick-by}
use Rattle.framing_content.specs.Numbers.{store_length, feed_numbers}
use Rattle.framing_session.specs.Rules.{State, Said, begin, Happening, noted, happens, after}
use Rattle.framing_session.specs.Session.{said_by, state_of, session_of, legal, Legal, Whole, answers, run, feeds}
use Rattle.framing.specs.Offers.{Turn, Turns, none, turn, eaten, told, joined, done, whole, part, Consumed}
use Rattle.framing_session.proofs.Laws.{legal-true, bounded-state, event-numbered}
use Rattle.framing.proofs.OneCall.{Ran}
use Rattle.framing.proofs.Sayable.{Sayable, run-sayable, run-other}
use Rattle.framing.proofs.Chunks.{call-ran, as-rules, fresh-legal}

-- ---- the contracts

-- `start` gave s: what its contract has it ensure.
pub record Started (s : Session) : Type 0 where
  pub κs : Lfts 0
  pub args : World.ArgsD start.signature κs
  pub exits : Clauses.AtExit (K.ended_of 0 start-kinds.ps start-kinds.r) κs
  pub ensured : start-reads.Post κs args s exits

-- `feed` was called with the session s, the store t and the chunk c, gave r, and left the store t': what its contract has it ensure.
pub record Call (s : Session) (t c : List ℕ) (r : Fed) (t' : List ℕ) : Type 0 where
  pub κs : Lfts 2
  pub args : World.ArgsD feed.signature κs
  pub exits : Clauses.AtExit (K.ended_of 2 feed-kinds.ps feed-kinds.r) κs
  pub session-is : args.0 ≡ s
  pub store_is : args.1.0.now ≡ t
  pub chunk-is : args.1.1.0.now ≡ c
  pub left_is : exits.1.0.now ≡ t'
  pub ensured : feed-reads.Post κs args r exits

-- a lent slice that holds xs
lent : List ℕ → Bor (List ℕ)
lent xs = record { ref_ptr = (0, 0); now = xs }

-- .. and one that is lent to be written
lent_out : List ℕ → MutBor (List ℕ)
lent_out xs = record { ref_ptr = (0, 0); ghost_name = 0; now = xs }

-- What `start` gives is the fresh session, and nothing else.
pub begins : {s : Session} → Started s → s ≡ session_of begin
begins k = k.ensured

pub started : Started (session_of begin)
started = record { κs = tt; args = tt; exits = tt; ensured = refl }

-- What a call of `feed` gives is what `feeds` says, and nothing else.
pub says : {s : Session} {t c : List ℕ} {r : Fed} {t' : List ℕ} → Call s t c r t' → feeds s t c ≡ answers r t'
says k = cc k.ensured

pub called : {s : Session} {t c : List ℕ} (r : Fed) {t' : List ℕ} → feeds s t c ≡ answers r t' → Call s t c r t'
unfolding lent lent_out
called {s} {t} {c} r {t'} e =
    record {
      κs = ([], ([], tt));
      args = (s, (lent_out t, (lent c, tt)));
      exits = (s, (lent_out t', (lent c, tt)));
      session-is = refl;
      store_is = refl;
      chunk-is = refl;
      left_is = refl;
      ensured = e;
    }

-- A turn is a call of `feed`.
pub turn-is-call : {s s'' : Session} {t t'' rest rest'' : List ℕ} {x : Turn} {ts : List Turn} → Turns s t rest (x ∷ ts) s'' t'' rest''
    → Call s t x.offered x.fed x.store
turn-is-call (turn c later r e more) = called r e

-- ---- there is a call

-- what `feeds` says, some answer of `feed` says
answer : (s : Session) (t c : List ℕ) → Sayable (feeds s t c).said (feeds s t c).store
unfolding feeds
answer s t c =
    pick-by (λ (w : Whole). Sayable w.said w.store) (legal s (length t))
    (λ e. let l = legal-true s t e in run-sayable c (state_of s t) t 0 l.room (bounded-state s t l.room l.frame l.message))
    (λ e. (ev.Setup, refl))

-- FOR EVERY session, store and chunk there is a call of `feed`, and `feeds` says what it gives.
pub some-call : (s : Session) (t c : List ℕ) → (r : Fed) × ((t' : List ℕ) × (Call s t c r t' × (feeds s t c ≡ answers r t')))
some-call s t c =
    let k = answer s t c in
    let w = feeds s t c in
    let r : Fed = record { event = k.0; consumed = w.consumed; session = w.session } in
    let e : w ≡ answers r w.store =
    ap (λ (x : Said). record { said = x; consumed = w.consumed; session = w.session; store = w.store }) (sym k.1) in
    (r, (w.store, (called r e, e)))

-- ---- with which numbers

-- A session call answers with one of document 01's numbers, whatever is handed in ..
pub feed-numbers : (s : Session) (t c : List ℕ) → OneOf feed_numbers (feeds s t c).said.number
feed-numbers s t c = let k = answer s t c in subst (λ (e : Said). OneOf feed_numbers e.number) k.1 (event-numbered k.0 (feeds s t c).store)

pub call-numbers : {s : Session} {t c : List ℕ} {r : Fed} {t' : List ℕ} → Call s t c r t' → OneOf feed_numbers (said_by r.event t').number
call-numbers {s} {t} {c} k = subst (λ (w : Whole). OneOf feed_numbers w.said.number) (says k) (feed-numbers s t c)

-- .. and with 1 exactly where store or session are not as they must be.
pub feed-setup : (s : Session) (t c : List ℕ) → eqb (feeds s t c).said.number 1 ≡ not (legal s (length t))
unfolding feeds
feed-setup s t c = go (legal s (length t))
  where
    go : (u : Bool)
        → eqb (pick u (run c (state_of s t) t 0) (record { said = said_by ev.Setup t; consumed = 0; session = s; store = t })).said.number 1 ≡ not u
    go true = run-other c (state_of s t) t 0
    go false = refl

-- ---- there are calls for every stream

not_so : (u : Bool) → (u ≡ true → ⊥) → u ≡ false
not_so true h = absurd (h refl)
not_so false h = refl

-- a call that leaves bytes took one at least
some-taken : (c : List ℕ) (s : State) (e : Said) (d : ℕ) → eqb e.number 0 ≡ false → happens s 0 (take d c) ≡ noted e (0 + d) [] → 1 ≤ d
unfolding happens
some-taken c s e zero q told = let z : ◌≡◌ {A = ℕ} 0 1 = ap (λ (hs : List Happening). length hs) (rw q at told) in absurd (omega arith)
some-taken c s e (suc d) q told = omega arith

module _ (cs : List (List ℕ)) (s : Session) (t c : List ℕ) (r : Fed) (t' : List ℕ) (e : feeds s t c ≡ answers r t') where
  abbrev x : Turn
  x = record { offered = c; fed = r; store = t' }

  -- the chunk c is consumed, and others come
  whole_chunk : r.consumed ≡ length c → Consumed r.session t' cs → Consumed s t (c ∷ cs)
  whole_chunk h f =
      record {
        turns = x ∷ f.turns;
        session = f.session;
        store = f.store;
        made =
            turn c (joined cs) r e
            (subst (λ (rest : List ℕ). Turns r.session t' rest f.turns f.session f.store [])
            (sym (drop_at c (joined cs) r.consumed (sym h))) f.made);
        served = whole x h f.served;
      }

  -- a part of it is consumed, and its rest comes
  part-chunk : r.consumed < length c → Consumed r.session t' (drop r.consumed c ∷ cs) → Consumed s t (c ∷ cs)
  part-chunk h f =
      record {
        turns = x ∷ f.turns;
        session = f.session;
        store = f.store;
        made =
            turn c (joined cs) r e
            (subst (λ (rest : List ℕ). Turns r.session t' rest f.turns f.session f.store [])
            (sym (drop-append-le r.consumed c (joined cs) (omega arith))) f.made);
        served = part x h f.served;
      }

module _ (cs : List (List ℕ)) (later : (s : Session) (t : List ℕ) → Legal s t → Consumed s t cs) where
  -- the chunk c, if what a call leaves of it is consumed
  begun : (c : List ℕ) (s : Session) (t : List ℕ) → Legal s t
      → ((d : ℕ) → 1 ≤ d → d < length c → (s' : Session) (t' : List ℕ) → Legal s' t' → Consumed s' t' (drop d c ∷ cs)) → Consumed s t (c ∷ cs)
  begun c s t l rest =
      let made = some-call s t c in
      let r = made.0 in
      let e = made.1.1.1 in
      let k = call-ran r e l in
      let d : r.consumed ≡ k.d = omega (arith, k.counted) in
      let o : k.d ≤ length c = k.offered in
      go r made.1.0 e k d (eqb r.consumed (length c)) refl
    where
      go : (r : Fed) (t' : List ℕ) → feeds s t c ≡ answers r t' → (k : Ran c (state_of s t) 0 (answers r t')) → r.consumed ≡ k.d
          → (u : Bool) → eqb r.consumed (length c) ≡ u → Consumed s t (c ∷ cs)
      go r t' e k d true q = whole_chunk cs s t c r t' e (eqb-true _ _ q) (later r.session t' k.legal)
      go r t' e k d false q =
          let n : r.consumed ≡ length c → ⊥ = eqb-false _ _ q in
          let o : k.d ≤ length c = k.offered in
          let b : r.consumed < length c = omega arith in
          let z : eqb (said_by r.event t').number 0 ≡ false = not_so _ (λ a. n (d ∙ k.all a)) in
          let m : 1 ≤ k.d = some-taken c (state_of s t) (said_by r.event t') k.d z (k.told 0) in
          part-chunk cs s t c r t' e b (rest r.consumed (omega arith) b r.session t' k.legal)

  -- the chunk c, of n bytes at most
  chunk : (n : ℕ) (c : List ℕ) → length c ≤ n → (s : Session) (t : List ℕ) → Legal s t → Consumed s t (c ∷ cs)
  chunk zero c h s t l = begun c s t l (λ d a b s' t' l'. absurd (omega arith))
  chunk (suc n) c h s t l = begun c s t l (λ d a b s' t' l'. chunk n (drop d c) (simp length-drop (omega arith)) s' t' l')

-- FOR EVERY way to cut a stream into chunks there is a list of turns that offers them, each until it is consumed, from any legal session.
pub some-turns : (chunks : List (List ℕ)) (s : Session) (t : List ℕ) → Legal s t → Consumed s t chunks
some-turns [] s t l = record { turns = []; session = s; store = t; made = none; served = done }
some-turns (c ∷ cs) s t l = chunk cs (some-turns cs) (length c) c (omega arith) s t l

-- .. and whatever turns consume it, they tell exactly what the rules give for the stream.
pub told-whole : {s s' : Session} {t t' bytes : List ℕ} {ts : List Turn} (n : ℕ) → Legal s t → Turns s t bytes ts s' t' []
    → (told ts n ≡ happens (state_of s t) n bytes) × (state_of s' t' ≡ after (state_of s t) bytes)
told-whole {s} {s'} {t} {t'} {bytes} {ts} n l turns =
    let f = as-rules turns n l in
    let b : eaten ts ≡ bytes = sym (append-nil (eaten ts)) ∙ f.bytes-are in
    (f.events ∙ ap (λ (x : List ℕ). happens (state_of s t) n x) b, f.state ∙ ap (λ (x : List ℕ). after (state_of s t) x) b)

-- THE CLAIM, with nothing left open. For every stream, every way to cut it into chunks and every store of the right length there is a list of calls that
-- offers the chunks to a fresh session, each until it is consumed; it tells exactly the events that the rules give for the stream, and at the end
-- session and store hold the rules' state.
pub every-cut : (bytes : List ℕ) (chunks : List (List ℕ)) → joined chunks ≡ bytes → (t : List ℕ) → length t ≡ store_length
    → (k : Consumed (session_of begin) t chunks) × ((told k.turns 0 ≡ happens begin 0 bytes) × (state_of k.session k.store ≡ after begin bytes))
every-cut bytes chunks e t room =
    let k = some-turns chunks (session_of begin) t (fresh-legal room) in
    (k, told-whole 0 (fresh-legal room) (subst (λ (bs : List ℕ). Turns (session_of begin) t bs k.turns k.session k.store []) e k.made))
