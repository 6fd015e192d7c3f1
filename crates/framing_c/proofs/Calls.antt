-- Calls of the C functions. Their contracts say what the claim speaks of (Claim.antt), and with which numbers they answer; and the claim speaks of
-- something: there is a list of calls for every stream and every way to cut it.
use Prim.Native.Nat.{ℕ, ◌≤◌}
use mathlib.Core.Bool.{Bool, true, false, not}
use mathlib.Core.List.{List, [], ◌∷◌, ◌++◌, append-nil}
use mathlib.Core.Path.{◌≡◌, refl, sym, ap, subst, ◌∙◌}
use native.Mathlib.Omega.{arith}
use borrow.Author.Tests.{eq-eqb}
use contract.Lifetimes.{Lfts}
use denote.Ref.{Bor, MutBor}
use denote.Triple.Clauses as Clauses
use borrow.Fn.World as World
use borrow.Fn.Kinds as K
use lib.Dec.{eqb}
use lib.ListN.{length, take, drop, take-append-drop, drop_of_length-le}
use lib.Seq.{take_all}
use types.Run.{OneOf, hit}
use Rattle.framing_session.specs.declared.Fed.{Fed}
use Rattle.framing_session.specs.declared.Session.{Session}
use Rattle.base_choices.specs.Choices.{pick}
use Rattle.base_choices.proofs.Laws.{pick-by}
use Rattle.framing_content.specs.Numbers.{store_length, message_limit, feed_numbers}
use Rattle.framing.specs.Offers as offers
use Rattle.framing_session.specs.Rules.{begin, happens, after}
use Rattle.framing_session.specs.Session.{said_by, state_of, session_of, Legal, Whole, answers, feeds}
use Rattle.framing_session.proofs.Laws.{true-legal}
use Rattle.framing.proofs.Sayable.{legal-answered}
use Rattle.framing.proofs.Chunks as chunks
use Rattle.framing.proofs.Calls as framing
use Rattle.framing_packets.specs.Written.{body_limit, frame, request_body, response_body, Outcome, write_numbers, into, frame_into, message_into}
use Rattle.framing_packets.specs.Written.{frame_room, message_room}
use Rattle.framing_read_back.proofs.Calls as writer
use Rattle.framing_packets.proofs.Sizes.{frame-fits, message-fits}
use Rattle.framing_words.specs.Words.{words_of, session_at}
use Rattle.framing_answers.specs.Answers.{accepts}
use Rattle.framing_c.specs.Calls.{Started, starts, Called, called_of as told_by, calls, Put, puts}
use Rattle.framing_c.specs.Offers.{start_numbers, Turn, consumed, Turns, none, turn, eaten, told, Serves, done, whole, part}
use Rattle.framing_answers.proofs.Laws.{accepts-legal}
use Rattle.framing_c.proofs.Laws.{calls-setup, calls-words}
use Rattle.framing_c.proofs.Claim.{as-rules}
use Rattle.framing_c.specs.contracts.framing_start
use Rattle.framing_c.proofs.framing_start.Kinds as start-kinds
use Rattle.framing_c.proofs.framing_start.Reads as start-reads
use Rattle.framing_c.specs.contracts.framing_feed
use Rattle.framing_c.proofs.framing_feed.Kinds as feed-kinds
use Rattle.framing_c.proofs.framing_feed.Reads as feed-reads
use Rattle.framing_c.specs.contracts.framing_write_frame
use Rattle.framing_c.proofs.framing_write_frame.Kinds as frame-kinds
use Rattle.framing_c.proofs.framing_write_frame.Reads as frame-reads
use Rattle.framing_c.specs.contracts.framing_write_request
use Rattle.framing_c.proofs.framing_write_request.Kinds as request-kinds
use Rattle.framing_c.proofs.framing_write_request.Reads as request-reads
use Rattle.framing_c.proofs.framing_write_response.Reads as response-reads
use Rattle.framing_c.proofs.framing_write_message.Reads as message-reads

-- ---- the contracts

-- framing_start was called with the words ws, answered n and left ws': what its contract has it ensure.
pub record Start (ws : List ℕ) (n : ℕ) (ws' : List ℕ) : Type 0 where
  pub κs : Lfts 1
  pub args : World.ArgsD framing_start.signature κs
  pub exits : Clauses.AtExit (K.ended_of 1 start-kinds.ps start-kinds.r) κs
  pub words_are : args.0.now ≡ ws
  pub left-are : exits.0.now ≡ ws'
  pub ensured : start-reads.Post κs args n exits

-- framing_feed was called with the words ws, the store t, the chunk c and the answer a, and answered and left r.
pub record Feed (ws t c a : List ℕ) (r : Called) : Type 0 where
  pub κs : Lfts 4
  pub args : World.ArgsD framing_feed.signature κs
  pub exits : Clauses.AtExit (K.ended_of 4 feed-kinds.ps feed-kinds.r) κs
  pub words_are : args.0.now ≡ ws
  pub store_is : args.1.0.now ≡ t
  pub chunk-is : args.1.1.0.now ≡ c
  pub answer-is : args.1.1.1.0.now ≡ a
  pub words_left : exits.0.now ≡ r.session
  pub store-left : exits.1.0.now ≡ r.store
  pub answer-left : exits.1.1.1.0.now ≡ r.answer
  pub ensured : feed-reads.Post κs args r.number exits

-- What framing_write_frame and framing_write_message ensure, of their arguments, number and what is left; what framing_write_request and
-- framing_write_response do.
abbrev WriteEnsures : Type 1
WriteEnsures =
    (κs : Lfts 3) → World.ArgsD framing_write_frame.signature κs → ℕ → Clauses.AtExit (K.ended_of 3 frame-kinds.ps frame-kinds.r) κs → Type 0

abbrev KeepAliveEnsures : Type 1
KeepAliveEnsures =
    (κs : Lfts 2) → World.ArgsD framing_write_request.signature κs → ℕ → Clauses.AtExit (K.ended_of 2 request-kinds.ps request-kinds.r) κs → Type 0

-- A call of framing_write_frame or framing_write_message, by what its contract ensures: xs, the output and the count handed in, and what it answered and left.
pub record Write (Post : WriteEnsures) (xs out : List ℕ) (count : ℕ) (r : Put) : Type 0 where
  pub κs : Lfts 3
  pub args : World.ArgsD framing_write_frame.signature κs
  pub exits : Clauses.AtExit (K.ended_of 3 frame-kinds.ps frame-kinds.r) κs
  pub given_is : args.0.now ≡ xs
  pub output-is : args.1.0.now ≡ out
  pub count-is : args.1.1.0.now ≡ count
  pub output-left : exits.1.0.now ≡ r.output
  pub count_left : exits.1.1.0.now ≡ r.count
  pub ensured : Post κs args r.number exits

-- The same of framing_write_request or framing_write_response, which are handed the output and the count alone.
pub record KeepAlive (Post : KeepAliveEnsures) (out : List ℕ) (count : ℕ) (r : Put) : Type 0 where
  pub κs : Lfts 2
  pub args : World.ArgsD framing_write_request.signature κs
  pub exits : Clauses.AtExit (K.ended_of 2 request-kinds.ps request-kinds.r) κs
  pub output-is : args.0.now ≡ out
  pub count-is : args.1.0.now ≡ count
  pub output-left : exits.0.now ≡ r.output
  pub count_left : exits.1.0.now ≡ r.count
  pub ensured : Post κs args r.number exits

abbrev pub FrameWrite : List ℕ → List ℕ → ℕ → Put → Type 0
FrameWrite xs out count r = Write frame-reads.Post xs out count r

abbrev pub MessageWrite : List ℕ → List ℕ → ℕ → Put → Type 0
MessageWrite m out count r = Write message-reads.Post m out count r

abbrev pub RequestWrite : List ℕ → ℕ → Put → Type 0
RequestWrite out count r = KeepAlive request-reads.Post out count r

abbrev pub ResponseWrite : List ℕ → ℕ → Put → Type 0
ResponseWrite out count r = KeepAlive response-reads.Post out count r

-- a lent slice or word that holds x
lent : {A : Type 0} → A → Bor A
lent x = record { ref_ptr = (0, 0); now = x }

-- .. and one that is lent to be written
lent_out : {A : Type 0} → A → MutBor A
lent_out x = record { ref_ptr = (0, 0); ghost_name = 0; now = x }

-- What the calls give is what `starts` and `calls` say, and nothing else.
pub start-says : {ws : List ℕ} {n : ℕ} {ws' : List ℕ} → Start ws n ws' → starts ws ≡ record { number = n; session = ws' }
start-says k = cc k.ensured

pub start-called : (ws : List ℕ) {n : ℕ} {ws' : List ℕ} → starts ws ≡ record { number = n; session = ws' } → Start ws n ws'
unfolding lent lent_out
start-called ws {n} {ws'} e =
    record { κs = ([], tt); args = (lent_out ws, tt); exits = (lent_out ws', tt); words_are = refl; left-are = refl; ensured = e }

pub feed-says : {ws t c a : List ℕ} {r : Called} → Feed ws t c a r → calls ws t c a ≡ r
feed-says {ws} {t} {c} {a} {r} k =
    let e : calls ws t c a ≡ record { number = r.number; session = r.session; store = r.store; answer = r.answer } = cc k.ensured in
    e

pub feed-called : (ws t c a : List ℕ) {r : Called} → calls ws t c a ≡ r → Feed ws t c a r
unfolding lent lent_out
feed-called ws t c a {r} e =
    record {
      κs = ([], ([], ([], ([], tt))));
      args = (lent_out ws, (lent_out t, (lent c, (lent_out a, tt))));
      exits = (lent_out r.session, (lent_out r.store, (lent c, (lent_out r.answer, tt))));
      words_are = refl;
      store_is = refl;
      chunk-is = refl;
      answer-is = refl;
      words_left = refl;
      store-left = refl;
      answer-left = refl;
      ensured = e;
    }

-- a record, its parts written out
abbrev parts : Put → Put
parts r = record { number = r.number; output = r.output; count = r.count }

module _ {out : List ℕ} {count : ℕ} {r : Put} where
  pub frame-says : {xs : List ℕ} → FrameWrite xs out count r → puts (frame_into xs out) count ≡ r
  frame-says {xs} k = let e : puts (frame_into xs out) count ≡ parts r = cc k.ensured in e

  pub message-says : {m : List ℕ} → MessageWrite m out count r → puts (message_into m out) count ≡ r
  message-says {m} k = let e : puts (message_into m out) count ≡ parts r = cc k.ensured in e

  pub request-says : RequestWrite out count r → puts (into (frame request_body) out) count ≡ r
  request-says k = let e : puts (into (frame request_body) out) count ≡ parts r = cc k.ensured in e

  pub response-says : ResponseWrite out count r → puts (into (frame response_body) out) count ≡ r
  response-says k = let e : puts (into (frame response_body) out) count ≡ parts r = cc k.ensured in e

-- There is such a call for everything that can be handed in.
module _ (out : List ℕ) (count : ℕ) where
  pub some-frame-write : (xs : List ℕ) → FrameWrite xs out count (puts (frame_into xs out) count)
  unfolding lent lent_out
  some-frame-write xs =
      let r = puts (frame_into xs out) count in
      record {
        κs = ([], ([], ([], tt)));
        args = (lent xs, (lent_out out, (lent_out count, tt)));
        exits = (lent xs, (lent_out r.output, (lent_out r.count, tt)));
        given_is = refl;
        output-is = refl;
        count-is = refl;
        output-left = refl;
        count_left = refl;
        ensured = refl;
      }

  pub some-message-write : (m : List ℕ) → MessageWrite m out count (puts (message_into m out) count)
  unfolding lent lent_out
  some-message-write m =
      let r = puts (message_into m out) count in
      record {
        κs = ([], ([], ([], tt)));
        args = (lent m, (lent_out out, (lent_out count, tt)));
        exits = (lent m, (lent_out r.output, (lent_out r.count, tt)));
        given_is = refl;
        output-is = refl;
        count-is = refl;
        output-left = refl;
        count_left = refl;
        ensured = refl;
      }

-- A turn is a call of framing_feed, lent some counts of the words and of the store.
pub turn-is-call : {ws t bytes ws'' t'' rest'' : List ℕ} {x : Turn} {xs : List Turn} → Turns ws t bytes (x ∷ xs) ws'' t'' rest''
    → (i : ℕ) × ((j : ℕ) × ((a : List ℕ) × Feed (take i ws) (take j t) x.offered a x.called))
turn-is-call {ws} {t} (turn i j a c later r e more) = (i, (j, (a, feed-called (take i ws) (take j t) c a e)))

-- ---- with which numbers, whatever is handed in

pub start-numbers : (ws : List ℕ) → OneOf start_numbers (starts ws).number
unfolding starts
start-numbers ws =
    pick-by (λ (x : Started). OneOf start_numbers x.number) (eqb (length ws) 4) (λ e. hit start_numbers 0 tt) (λ e. hit start_numbers 1 tt)

pub feed-numbers : (ws t c a : List ℕ) → OneOf feed_numbers (calls ws t c a).number
unfolding calls told_by
feed-numbers ws t c a =
    pick-by (λ (x : Called). OneOf feed_numbers x.number) (accepts ws (length t) (length a)) (λ e. framing.feed-numbers (session_at ws) t c)
    (λ e. hit feed_numbers 1 tt)

-- .. and 1 exactly where a length is wrong or the words are no legal session's
pub feed-setup : (ws t c a : List ℕ) → eqb (calls ws t c a).number 1 ≡ not (accepts ws (length t) (length a))
unfolding calls told_by
feed-setup ws t c a = go (accepts ws (length t) (length a)) refl
  where
    go : (u : Bool) → accepts ws (length t) (length a) ≡ u
        → eqb (pick u (told_by (feeds (session_at ws) t c)) (record { number = 1; session = ws; store = t; answer = a })).number 1 ≡ not u
    go true h = framing.feed-setup (session_at ws) t c ∙ ap not (accepts-legal ws (length t) (length a) h)
    go false h = refl

-- what a writer's call answers is the writer's own number: framing_write_frame, _request, _response, _message
puts-number : (o : Outcome) (count : ℕ) → (puts o count).number ≡ o.number
unfolding puts
puts-number o count = refl

module _ (count : ℕ) where
  numbered : (o : Outcome) → OneOf write_numbers o.number → OneOf write_numbers (puts o count).number
  numbered o h = subst (OneOf write_numbers) (sym (puts-number o count)) h

  pub frame-numbers : (xs out : List ℕ) → OneOf write_numbers (puts (frame_into xs out) count).number
  frame-numbers xs out = numbered _ (writer.frame-numbers xs out)

  pub request-numbers : (out : List ℕ) → OneOf write_numbers (puts (into (frame request_body) out) count).number
  request-numbers out = numbered _ (writer.request-numbers out)

  pub response-numbers : (out : List ℕ) → OneOf write_numbers (puts (into (frame response_body) out) count).number
  response-numbers out = numbered _ (writer.response-numbers out)

  pub message-numbers : (m out : List ℕ) → OneOf write_numbers (puts (message_into m out) count).number
  message-numbers m out = numbered _ (writer.message-numbers m out)

  -- Room that is always enough: content of at most 1,022 bytes in 2,050 bytes, a message of at most 16,384 bytes in 34,850 bytes.
  pub frame-enough : (xs out : List ℕ) → length xs ≤ body_limit → frame_room ≤ length out → (puts (frame_into xs out) count).number ≡ 0
  frame-enough xs out h r = puts-number (frame_into xs out) count ∙ ap (λ (o : Outcome). o.number) (frame-fits xs out h r)

  pub message-enough : (m out : List ℕ) → length m ≤ message_limit → message_room ≤ length out → (puts (message_into m out) count).number ≡ 0
  message-enough m out h r = puts-number (message_into m out) count ∙ ap (λ (o : Outcome). o.number) (message-fits m out h r)

-- .. so no call of framing_write_frame or framing_write_message answers 46 with that much room.
pub frame-done : {xs out : List ℕ} {count : ℕ} {r : Put} → FrameWrite xs out count r → length xs ≤ body_limit → frame_room ≤ length out → r.number ≡ 0
frame-done {xs} {out} {count} k h room = ap (λ (x : Put). x.number) (sym (frame-says k)) ∙ frame-enough count xs out h room

pub message-done : {m out : List ℕ} {count : ℕ} {r : Put} → MessageWrite m out count r → length m ≤ message_limit → message_room ≤ length out → r.number ≡ 0
message-done {m} {out} {count} k h room = ap (λ (x : Put). x.number) (sym (message-says k)) ∙ message-enough count m out h room

-- ---- there are calls for every stream

-- A refused call may stand before any list of calls, whatever it is lent and offered.
pub refused-before : {ws t ws'' t'' rest'' : List ℕ} {xs : List Turn} (i j : ℕ) (a c later : List ℕ) → accepts (take i ws) (length (take j t)) (length a) ≡ false
    → Turns ws t (c ++ later) xs ws'' t'' rest''
    → Turns ws t (c ++ later) (record { offered = c; called = record { number = 1; session = take i ws; store = take j t; answer = a } } ∷ xs) ws'' t'' rest''
refused-before {ws} {t} {ws''} {t''} {rest''} {xs} i j a c later h more =
    turn i j a c later (record { number = 1; session = take i ws; store = take j t; answer = a }) (calls-setup (take i ws) (take j t) c a h)
    (subst (λ (v : List ℕ). Turns v (take j t ++ drop j t) (c ++ later) xs ws'' t'' rest'') (sym (take-append-drop i ws))
    (subst (λ (u : List ℕ). Turns ws u (c ++ later) xs ws'' t'' rest'') (sym (take-append-drop j t)) more))

-- calls lent the four words, the whole store and three words for the answer, for turns of framing's claim
pub record Lifted (s : Session) (t bytes : List ℕ) (us : List offers.Turn) (s'' : Session) (t'' rest'' : List ℕ) : Type 0 where
  pub turns : List Turn
  pub made : Turns (words_of s) t bytes turns (words_of s'') t'' rest''
  pub served : (cs : List (List ℕ)) → offers.Serves cs us → Serves cs turns

module _ (a : List ℕ) (three : length a ≡ 3) where
  module _ (s : Session) (t c : List ℕ) (l : Legal s t) (f : Fed) (t' : List ℕ) (e : feeds s t c ≡ answers f t') where
    abbrev r : Called
    r = told_by (answers f t')

    abbrev x : Turn
    x = record { offered = c; called = r }

    not-setup : eqb (said_by f.event t').number 1 ≡ false
    not-setup = subst (λ (v : Whole). eqb v.said.number 1 ≡ false) e (legal-answered s t c l)

    is_call : calls (take 4 (words_of s)) (take store_length t) c a ≡ r
    is_call =
        ap (λ (v : List ℕ). calls (words_of s) v c a) (take_all store_length t (omega (arith, l.room)))
        ∙ calls-words s t c a (true-legal s t l) three ∙ ap told_by e

    same-consumed : consumed r ≡ f.consumed
    unfolding told_by
    same-consumed = rw not-setup refl

    lift-turn : (later : List ℕ) {us : List offers.Turn} {s'' : Session} {t'' rest'' : List ℕ}
        → Lifted f.session t' (drop f.consumed (c ++ later)) us s'' t'' rest''
        → Lifted s t (c ++ later) (record { offered = c; fed = f; store = t' } ∷ us) s'' t'' rest''
    unfolding told_by
    lift-turn later {us} {s''} {t''} {rest''} u =
        record {
          turns = x ∷ u.turns;
          made =
              turn 4 store_length a c later r is_call
              (subst (λ (v : List ℕ). Turns (words_of f.session) v (drop (consumed r) (c ++ later)) u.turns (words_of s'') t'' rest'')
              (sym (ap (λ (q : List ℕ). t' ++ q) (drop_of_length-le t {i = store_length} (omega (arith, l.room))) ∙ append-nil t'))
              (subst (λ (d : ℕ). Turns (words_of f.session) t' (drop d (c ++ later)) u.turns (words_of s'') t'' rest'') (sym same-consumed) u.made));
          served = served;
        }
      where
        served : (cs : List (List ℕ)) → offers.Serves cs (record { offered = c; fed = f; store = t' } ∷ us) → Serves cs (x ∷ u.turns)
        served _ (offers.whole _ h more) = whole x (same-consumed ∙ h) (u.served _ more)
        served _ (offers.part {cs = cs} _ h more) =
            part x (omega (arith, same-consumed, h))
            (subst (λ (d : ℕ). Serves (drop d c ∷ cs) u.turns) (sym same-consumed) (u.served _ more))

  lift : {s s'' : Session} {t t'' bytes rest'' : List ℕ} {us : List offers.Turn} → offers.Turns s t bytes us s'' t'' rest'' → Legal s t
      → Lifted s t bytes us s'' t'' rest''
  lift offers.none l = record { turns = []; made = none; served = nothing }
    where
      nothing : (cs : List (List ℕ)) → offers.Serves cs [] → Serves cs []
      nothing _ offers.done = done
  lift {s} {t = t} (offers.turn {t' = t'} c later f e more) l = lift-turn s t c l f t' e later (lift more (chunks.call-ran f e l).legal)

  -- THE CLAIM, with nothing left open. For every stream, every way to cut it into chunks, every store of the right length and every three words for the
  -- answer there is a list of calls of framing_feed, from the words that framing_start makes, that offers the chunks, each until it is consumed; it tells
  -- exactly the events that the rules give for the stream, and at the end words and store hold the rules' state.
  pub every-cut : (ws₀ : List ℕ) → length ws₀ ≡ 4 → (chunks : List (List ℕ)) (t : List ℕ) → length t ≡ store_length
      → (ws : List ℕ) × (Start ws₀ 0 ws
      × ((xs : List Turn) × ((ws'' : List ℕ) × ((t'' : List ℕ)
      × (Turns ws t (offers.joined chunks) xs ws'' t'' []
      × (Serves chunks xs × ((told xs 0 ≡ happens begin 0 (offers.joined chunks)) × (state_of (session_at ws'') t'' ≡ after begin (offers.joined chunks)))))))))
  unfolding starts
  every-cut ws₀ four cuts t room =
      let l = chunks.fresh-legal room in
      let k = framing.some-turns cuts (session_of begin) t l in
      let u = lift k.made l in
      let f = as-rules u.made 0 (session_of begin) refl l in
      let b : eaten u.turns ≡ offers.joined cuts = sym (append-nil (eaten u.turns)) ∙ f.bytes-are in (
        words_of (session_of begin),
        (
          start-called ws₀ (rw (eq-eqb _ _ four) refl),
          (
            u.turns,
            (
              words_of k.session,
              (
                k.store,
                (
                  u.made,
                  (
                    u.served cuts k.served,
                    (f.events ∙ ap (λ (v : List ℕ). happens begin 0 v) b, f.state ∙ ap (λ (v : List ℕ). after begin v) b),
                  ),
                ),
              ),
            ),
          ),
        ),
      )
