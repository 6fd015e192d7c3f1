-- Calls of the writer's functions. Their contracts say what the claims of Chunks.antt speak of; and the claims speak of something: there is a call for
-- everything that can be handed in, and what fits is written, and read back by calls of the session however it is cut, with nothing left open.
use Rattle.std.specs.Prelude.{Option, Some, None}
use Prim.Native.Nat.{ℕ, ◌+◌, ◌≤◌}
use mathlib.Core.Bool.{false}
use mathlib.Core.List.{List, [], ◌∷◌, ◌++◌}
use mathlib.Core.Path.{◌≡◌, refl, sym, subst, ◌∙◌}
use native.Mathlib.Nat.{zero-add}
use denote.Ref.{Bor, MutBor}
use lib.Dec.{leb}
use lib.ListN.{length, drop}
use types.Run.{OneOf, hit}
use Rattle.framing_content.specs.Numbers.{message_limit, store_length}
use Rattle.framing_session.specs.Rules.{none, State, Said, Happening, begin, ends}
use Rattle.framing_session.specs.Session.{session_of}
use Rattle.framing.specs.Offers.{Turns, joined, Consumed}
use Rattle.base_choices.proofs.Laws.{pick-by}
use Rattle.framing.proofs.Chunks.{fresh-legal}
use Rattle.framing.proofs.Calls.{some-turns}
use Rattle.framing_packets.specs.Written.{sealed, frame, body_limit, request_body, response_body, in_packets}
use Rattle.framing_packets.specs.Written.{Outcome, outcome, write_numbers, into, limited, frame_into, message_into}
use Rattle.framing_packets.proofs.Laws.{limited-fits}
use Rattle.framing_packets.proofs.Sizes.{into-fits}
use Rattle.framing_packets.specs.Read.{Bytes, Gives, happening, message_events}
use Rattle.framing_read_back.proofs.Chunks.{fresh-opens, in-chunks, written-frame, written-message, written-request, written-response}
use Rattle.framing_read_back.specs.Calls.{ReadAs, FrameCall, MessageCall, RequestCall, ResponseCall, WrittenRead}

-- ---- the contracts

-- a lent slice that holds xs
lent : List ℕ → Bor (List ℕ)
lent xs = record { ref_ptr = (0, 0); now = xs }

-- .. and one that is lent to be written
lent_out : List ℕ → MutBor (List ℕ)
lent_out xs = record { ref_ptr = (0, 0); ghost_name = 0; now = xs }

-- What a call gives is what its function's definition says, and nothing else.
module _ {o : List ℕ} (r : Option ℕ) {p : List ℕ} where
  module _ (xs : List ℕ) where
    pub frame-says : FrameCall xs o r p → frame_into xs o ≡ outcome r p
    frame-says c = cc c.ensured

    pub frame-called : frame_into xs o ≡ outcome r p → FrameCall xs o r p
    unfolding lent lent_out
    frame-called e =
        record {
          κs = ([], ([], tt));
          args = (lent xs, (lent_out o, tt));
          exits = (lent xs, (lent_out p, tt));
          given_is = refl;
          output-is = refl;
          left_is = refl;
          ensured = e;
        }

    pub message-says : MessageCall xs o r p → message_into xs o ≡ outcome r p
    message-says c = cc c.ensured

    pub message-called : message_into xs o ≡ outcome r p → MessageCall xs o r p
    unfolding lent lent_out
    message-called e =
        record {
          κs = ([], ([], tt));
          args = (lent xs, (lent_out o, tt));
          exits = (lent xs, (lent_out p, tt));
          given_is = refl;
          output-is = refl;
          left_is = refl;
          ensured = e;
        }

  pub request-says : RequestCall o r p → into (frame request_body) o ≡ outcome r p
  request-says c = cc c.ensured

  pub request-called : into (frame request_body) o ≡ outcome r p → RequestCall o r p
  unfolding lent lent_out
  request-called e =
      record { κs = ([], tt); args = (lent_out o, tt); exits = (lent_out p, tt); output-is = refl; left_is = refl; ensured = e }

  pub response-says : ResponseCall o r p → into (frame response_body) o ≡ outcome r p
  response-says c = cc c.ensured

  pub response-called : into (frame response_body) o ≡ outcome r p → ResponseCall o r p
  unfolding lent lent_out
  response-called e =
      record { κs = ([], tt); args = (lent_out o, tt); exits = (lent_out p, tt); output-is = refl; left_is = refl; ensured = e }

-- ---- there is a call

-- an answer of the enum, with an output, that says this
abbrev Answered : Outcome → Type 0
Answered w = (r : Option ℕ) × ((p : List ℕ) × (w ≡ outcome r p))

into-answered : (bs o : List ℕ) → Answered (into bs o)
unfolding into
into-answered bs o =
    pick-by Answered (leb (length bs) (length o)) (λ e. (Some (length bs), (bs ++ drop (length bs) o, refl))) (λ e. (None, (o, refl)))

limited-answered : (n limit : ℕ) (bs o : List ℕ) → Answered (limited n limit bs o)
unfolding limited
limited-answered n limit bs o = pick-by Answered (leb n limit) (λ e. into-answered bs o) (λ e. (None, (o, refl)))

-- FOR EVERYTHING that can be handed in there is a call.
pub some-frame-call : (xs o : List ℕ) → (r : Option ℕ) × ((p : List ℕ) × FrameCall xs o r p)
some-frame-call xs o = let k = limited-answered (length xs) body_limit (frame xs) o in (k.0, (k.1.0, frame-called k.0 xs k.1.1))

pub some-message-call : (m o : List ℕ) → (r : Option ℕ) × ((p : List ℕ) × MessageCall m o r p)
some-message-call m o =
    let k = limited-answered (length m) message_limit (in_packets m) o in (k.0, (k.1.0, message-called k.0 m k.1.1))

pub some-request-call : (o : List ℕ) → (r : Option ℕ) × ((p : List ℕ) × RequestCall o r p)
some-request-call o = let k = into-answered (frame request_body) o in (k.0, (k.1.0, request-called k.0 k.1.1))

pub some-response-call : (o : List ℕ) → (r : Option ℕ) × ((p : List ℕ) × ResponseCall o r p)
some-response-call o = let k = into-answered (frame response_body) o in (k.0, (k.1.0, response-called k.0 k.1.1))

-- ---- with which numbers: 0 or 46, whatever is handed in

answer-numbered : (r : Option ℕ) (p : List ℕ) → OneOf write_numbers (outcome r p).number
answer-numbered (Some n) p = hit write_numbers 0 tt
answer-numbered None p = hit write_numbers 46 tt

said-numbered : (w : Outcome) → Answered w → OneOf write_numbers w.number
said-numbered w k = subst (λ (x : Outcome). OneOf write_numbers x.number) (sym k.1.1) (answer-numbered k.0 k.1.0)

pub frame-numbers : (xs o : List ℕ) → OneOf write_numbers (frame_into xs o).number
frame-numbers xs o = said-numbered _ (limited-answered (length xs) body_limit (frame xs) o)

pub message-numbers : (m o : List ℕ) → OneOf write_numbers (message_into m o).number
message-numbers m o = said-numbered _ (limited-answered (length m) message_limit (in_packets m) o)

pub request-numbers : (o : List ℕ) → OneOf write_numbers (into (frame request_body) o).number
request-numbers o = said-numbered _ (into-answered (frame request_body) o)

pub response-numbers : (o : List ℕ) → OneOf write_numbers (into (frame response_body) o).number
response-numbers o = said-numbered _ (into-answered (frame response_body) o)

-- ---- the claims, with nothing left open

-- an event at n bytes from the beginning
from_zero : {bytes : List ℕ} {n : ℕ} {x : Said} {e : State} → Gives begin 0 bytes (record { offset = 0 + n; said = x } ∷ []) e
    → Gives begin 0 bytes (record { offset = n; said = x } ∷ []) e
from_zero {bytes} {n} {x} {e} g = subst (λ (k : ℕ). Gives begin 0 bytes (record { offset = k; said = x } ∷ []) e) (zero-add n) g

module _ (o t : List ℕ) (room : length t ≡ store_length) where
  read-any : {bytes : List ℕ} {hs : List Happening} {e : State} → Gives begin 0 bytes hs e → (chunks : List (List ℕ)) → joined chunks ≡ bytes
      → (k : Consumed (session_of begin) t chunks) × ReadAs 0 k.turns k.session k.store hs e
  read-any g chunks e =
      let k = some-turns chunks (session_of begin) t (fresh-legal room) in
      (k, in-chunks (fresh-legal room) 0 g (subst (λ (bs : List ℕ). Turns (session_of begin) t bs k.turns k.session k.store []) e k.made))

  -- every message of at most 16,384 bytes whose packets fit: 2 for each packet but the last, then 3 with these very bytes
  pub message-written-read : (m : List ℕ) → Bytes m → length m ≤ message_limit → length (in_packets m) ≤ length o
      → WrittenRead (MessageCall m o) t (message_events false m 0) begin
  message-written-read m b l f =
      let e = limited-fits (length m) message_limit (in_packets m) o l ∙ into-fits (in_packets m) o f in
      record { count = _; output = _; call = message-called _ m e; read = read-any (written-message o _ _ begin (fresh-opens t) 0 m e b) }

  -- every body of at most 1,022 bytes whose frame fits: one event, at its last byte, which its content decides
  pub frame-written-read : (xs : List ℕ) → Bytes xs → length xs ≤ body_limit → length (frame xs) ≤ length o
      → WrittenRead (FrameCall xs o) t (record { offset = length (frame xs); said = (ends (sealed xs) none).said } ∷ []) (ends (sealed xs) none).next
  frame-written-read xs b l f =
      let e = limited-fits (length xs) body_limit (frame xs) o l ∙ into-fits (frame xs) o f in
      record { count = _; output = _; call = frame-called _ xs e; read = read-any (from_zero (written-frame o _ _ begin (fresh-opens t) 0 xs e b)) }

  -- the keep-alives: 4 and 5
  pub request-written-read : length (frame request_body) ≤ length o
      → WrittenRead (RequestCall o) t (happening (length (frame request_body)) 4 false [] ∷ []) begin
  request-written-read f =
      let e = into-fits (frame request_body) o f in
      record { count = _; output = _; call = request-called _ e; read = read-any (from_zero (written-request o _ _ begin (fresh-opens t) 0 e)) }

  pub response-written-read : length (frame response_body) ≤ length o
      → WrittenRead (ResponseCall o) t (happening (length (frame response_body)) 5 false [] ∷ []) begin
  response-written-read f =
      let e = into-fits (frame response_body) o f in
      record { count = _; output = _; call = response-called _ e; read = read-any (from_zero (written-response o _ _ begin (fresh-opens t) 0 e)) }
