-- Freedom from chunks: whatever is offered, call by call, the events and the bytes consumed are those of the rules. It speaks of calls by what
-- `feeds` says, which is the contract of `feed`.
use Prim.Native.Nat.{ℕ, ◌+◌}
use mathlib.Core.Bool.{false}
use mathlib.Core.Path.{◌≡◌, refl, sym, ap, subst, ◌∙◌}
use mathlib.Core.List.{List, [], ◌∷◌, ◌++◌, append_assoc}
use native.Mathlib.Omega.{arith}
use lib.Dec.{eqb}
use lib.ListN.{length, take, drop, take-append-drop}
use lib.Seq.{length-take-le, drop-append-le}
use Rattle.framing_session.specs.declared.Fed.{Fed}
use Rattle.framing_session.specs.declared.Session.{Session}
use Rattle.framing_content.specs.Numbers.{store_length}
use Rattle.framing_session.specs.Rules.{State, Said, begin, Happening, noted, happens, after}
use Rattle.framing_session.specs.Session.{said_by, state_of, session_of, Legal, Whole, answers, run, feeds}
use Rattle.framing.specs.Offers.{Turn, Turns, none, turn, eaten, told, EndsWith, Stops, AsRules}
use Rattle.framing_session.proofs.Laws.{true-legal, bounded-state, session-back}
use Rattle.framing_session.proofs.Stream.{noted-append, happens-append, after-append}
use Rattle.framing.proofs.OneCall.{Ran, ran}

-- the run that a call with a legal session makes
pub call-ran : {s : Session} {t c : List ℕ} (r : Fed) {t' : List ℕ} → feeds s t c ≡ answers r t' → Legal s t
    → Ran c (state_of s t) 0 (answers r t')
unfolding feeds
call-ran {s} {t} {c} r {t'} k l =
    let e : run c (state_of s t) t 0 ≡ answers r t' =
    rw (true-legal s t l) at k in
    subst (λ (w : Whole). Ran c (state_of s t) 0 w) e
    (ran c (state_of s t) t 0 l.room (bounded-state s t l.room l.frame l.message) (ap (λ (x : Session). state_of x t) (session-back s t l)))

-- a turn before other turns
module _ (c later : List ℕ) (r : Fed) (t' : List ℕ) (s : State) (n : ℕ)
    (k : Ran c s 0 (answers r t')) where
  abbrev x : List ℕ
  x = take r.consumed c

  abbrev e : Said
  e = said_by r.event t'

  d-is : k.d ≡ r.consumed
  d-is = omega (arith, k.counted)

  x-length : length x ≡ r.consumed
  x-length = length-take-le r.consumed c (omega (arith, d-is, k.offered))

  x-told : happens s n x ≡ noted e (n + r.consumed) []
  x-told = subst (λ (d : ℕ). happens s n (take d c) ≡ noted e (n + d) []) d-is (k.told n)

  x-held : state_of r.session t' ≡ after s x
  x-held = subst (λ (d : ℕ). state_of r.session t' ≡ after s (take d c)) d-is k.held

  x-stops : eqb e.number 0 ≡ false → EndsWith s x e
  x-stops q = subst (λ (d : ℕ). EndsWith s (take d c) e) d-is (k.stops q)

  module _ (us : List Turn) (s'' : Session) (t'' rest'' : List ℕ)
      (f : AsRules (state_of r.session t') (n + r.consumed) us s'' t'' (drop r.consumed (c ++ later)) rest'') where
    turn-events : noted e (n + r.consumed) (told us (n + r.consumed)) ≡ happens s n (x ++ eaten us)
    turn-events =
        ap (λ (hs : List Happening). noted e (n + r.consumed) hs) f.events
        ∙ noted-append e (n + r.consumed) [] (happens (state_of r.session t') (n + r.consumed) (eaten us))
        ∙ ap (λ (hs : List Happening). hs ++ happens (state_of r.session t') (n + r.consumed) (eaten us)) (sym x-told)
        ∙ ap (λ (q : State). happens s n x ++ happens q (n + r.consumed) (eaten us)) x-held
        ∙ ap (λ (m : ℕ). happens s n x ++ happens (after s x) (n + m) (eaten us)) (sym x-length)
        ∙ sym (happens-append x (eaten us) s n)

    turn-state : state_of s'' t'' ≡ after s (x ++ eaten us)
    turn-state = f.state ∙ ap (λ (q : State). after q (eaten us)) x-held ∙ sym (after-append x (eaten us) s)

    turn-bytes : (x ++ eaten us) ++ rest'' ≡ c ++ later
    turn-bytes =
        append_assoc x (eaten us) rest''
        ∙ ap (λ (q : List ℕ). x ++ q) (f.bytes-are ∙ drop-append-le r.consumed c later (omega (arith, d-is, k.offered)))
        ∙ sym (append_assoc x (drop r.consumed c) later)
        ∙ ap (λ (q : List ℕ). q ++ later) (take-append-drop r.consumed c)

    turn-as-rules : AsRules s n (record { offered = c; fed = r; store = t' } ∷ us) s'' t'' (c ++ later) rest''
    turn-as-rules =
        record {
          events = turn-events;
          state = turn-state;
          bytes-are = turn-bytes;
          counted = ((omega (arith, d-is, k.offered), λ q. sym d-is ∙ k.all q), f.counted);
          stops = (x-stops, subst (λ (q : State). Stops q us) x-held f.stops);
          legal = f.legal;
        }

-- from any legal session
pub as-rules : {s s'' : Session} {t t'' rest rest'' : List ℕ} {ts : List Turn} → Turns s t rest ts s'' t'' rest'' → (n : ℕ) → Legal s t
    → AsRules (state_of s t) n ts s'' t'' rest rest''
unfolding happens after
as-rules none n l = record { events = refl; state = refl; bytes-are = refl; counted = tt; stops = tt; legal = l }
as-rules {s} {s''} {t} {t''} (turn {t' = t'} {rest'' = rest''} {ts = us} c later r call more) n l =
    let k = call-ran r call l in
    turn-as-rules c later r t' (state_of s t) n k us s'' t'' rest'' (as-rules more (n + r.consumed) k.legal)

-- a fresh session is legal, with any store of the right length
pub fresh-legal : {t : List ℕ} → length t ≡ store_length → Legal (session_of begin) t
fresh-legal room = record { room = room; frame = omega arith; message = omega arith }

-- THE THEOREM. From a fresh session and any store of the right length, for every list of offers: the events, each with its offset, its discard and its
-- message's bytes as they stand in the store, are those that the rules give for the bytes consumed so far; so is the state that session and store hold at
-- the end; the bytes consumed are the stream's first; each call without an event consumed all it was offered (`counted`), and each with one exactly the
-- bytes up to and including the one that makes it by the rules (`stops`). (That these are the calls of `start` and `feed`, and that every stream has such
-- a list however it is cut: Calls.antt.)
pub chunk-free : {s : Session} {t t' bytes rest : List ℕ} {ts : List Turn} → length t ≡ store_length
    → Turns (session_of begin) t bytes ts s t' rest → AsRules begin 0 ts s t' bytes rest
chunk-free room turns = as-rules turns 0 (fresh-legal room)
