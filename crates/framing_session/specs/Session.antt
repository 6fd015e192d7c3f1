-- The session and the lent store (document 01, "Framing" and "Numbers answered"): which state of the rules they hold, and what a call gives.
use Rattle.std.specs.Prelude.{ℕ, ◌+◌, ◌≤◌, Bool, false, List, [], ◌∷◌, ◌≡◌, leb, eqb, length, take, drop, Option, Some, None}
use Rattle.std.proofs.lemmas.List.Edits.{sets}
use Rattle.framing_session.specs.declared.Event.{Event}
use Rattle.framing_session.specs.declared.Event.TheVariants as ev
use Rattle.framing_session.specs.declared.Fed.{Fed}
use Rattle.framing_session.specs.declared.Frame.{Frame}
use Rattle.framing_session.specs.declared.Frame.TheVariants.{Outside, Stray, Inside, Escaped, BadByte, TooLong}
use Rattle.framing_session.specs.declared.Session.{Session}
use Rattle.base_choices.specs.Choices.{pick}
use Rattle.framing_content.specs.Numbers.{content_limit, message_limit, store_length, content_start, number}
use Rattle.framing_session.specs.Rules.{Place, outside, stray, inside, escaped, bad_byte, too_long, Message, none, part, State, Said, Step, quiet, step}

-- For each case of the event enum: its number and values. The message is the store's first bytes.
abbrev pub said_by : Event → List ℕ → Said
said_by ev.More t = quiet
said_by ev.Setup t = record { number = 1; discarded = false; message = [] }
said_by (ev.Piece d) t = record { number = 2; discarded = d; message = [] }
said_by (ev.Message n d) t = record { number = 3; discarded = d; message = take n t }
said_by ev.Request t = record { number = 4; discarded = false; message = [] }
said_by ev.Response t = record { number = 5; discarded = false; message = [] }
said_by (ev.Refused f d) t = record { number = number f; discarded = d; message = [] }

-- "message bytes from 0, frame content from 16,384"
abbrev pub content_in : ℕ → List ℕ → List ℕ
content_in n t = take n (drop content_start t)

abbrev pub place_of : Frame → List ℕ → Place
place_of Outside t = outside
place_of Stray t = stray
place_of (Inside n) t = inside (content_in n t)
place_of (Escaped n) t = escaped (content_in n t)
place_of (BadByte n) t = bad_byte (content_in n t)
place_of (TooLong n) t = too_long (content_in n t)

abbrev pub message_of : Option ℕ → List ℕ → Message
message_of None t = none
message_of (Some n) t = part (take n t)

-- The state that a session and a store hold, and the session of a state.
abbrev pub state_of : Session → List ℕ → State
state_of s t = record { place = place_of s.frame t; message = message_of s.message t }

abbrev pub frame_of : Place → Frame
frame_of outside = Outside
frame_of stray = Stray
frame_of (inside xs) = Inside (length xs)
frame_of (escaped xs) = Escaped (length xs)
frame_of (bad_byte xs) = BadByte (length xs)
frame_of (too_long xs) = TooLong (length xs)

abbrev pub pending_of : Message → Option ℕ
pending_of none = None
pending_of (part xs) = Some (length xs)

abbrev pub session_of : State → Session
session_of s = record { frame = frame_of s.place; message = pending_of s.message }

-- 1 SETUP: "store not 17,408 bytes, .. a session's frame length over 1,024 or message length over 16,384"
abbrev pub frame_length : Frame → ℕ
frame_length Outside = 0
frame_length Stray = 0
frame_length (Inside n) = n
frame_length (Escaped n) = n
frame_length (BadByte n) = n
frame_length (TooLong n) = n

abbrev pub message_length : Option ℕ → ℕ
message_length None = 0
message_length (Some n) = n

abbrev pub legal : Session → ℕ → Bool
legal s n =
    pick (eqb n store_length)
    (pick (leb (frame_length s.frame) content_limit) (leb (message_length s.message) message_limit) false)
    false

-- what SETUP does not refuse
pub record Legal (s : Session) (t : List ℕ) : Type 0 where
  pub room : length t ≡ store_length
  pub frame : frame_length s.frame ≤ content_limit
  pub message : message_length s.message ≤ message_limit

-- the content so far
abbrev pub content : Place → List ℕ
content outside = []
content stray = []
content (inside xs) = xs
content (escaped xs) = xs
content (bad_byte xs) = xs
content (too_long xs) = xs

-- the unfinished message, else the finished one
abbrev pub held : Message → List ℕ → List ℕ
held none ys = ys
held (part xs) ys = xs

-- What stands in the store after a byte: the message from 0, the content from 16,384. "Bytes that no rule writes stay." "The message is copied there at the
-- valid end of its frame and stays until the next call."
unfoldable pub kept : Step → List ℕ → List ℕ
kept o t = sets (sets t 0 (held o.next.message o.said.message)) content_start (content o.next.place)

-- What a byte gives, and leaves in the store.
pub record Kept : Type 0 where
  pub said : Said
  pub session : Session
  pub store : List ℕ

abbrev pub keeps : Step → List ℕ → Kept
keeps o t = record { said = o.said; session = session_of o.next; store = kept o t }

-- What a call gives, and leaves in the store.
pub record Whole : Type 0 where
  pub said : Said
  pub consumed : ℕ
  pub session : Session
  pub store : List ℕ

abbrev pub whole : Said → ℕ → State → List ℕ → Whole
whole e n s t = record { said = e; consumed = n; session = session_of s; store = t }

-- What a call answers beside the store that it leaves.
abbrev pub answers : Fed → List ℕ → Whole
answers r t = record { said = said_by r.event t; consumed = r.consumed; session = r.session; store = t }

-- "A call consumes bytes up to and including the one that makes an event, or all of them."
unfoldable pub run : List ℕ → State → List ℕ → ℕ → Whole
run [] s t n = whole quiet n s t
run (b ∷ bs) s t n =
    let o = step s b in
    pick (eqb o.said.number 0) (run bs o.next (kept o t) (n + 1)) (whole o.said (n + 1) o.next (kept o t))

-- "1 leaves everything as it was, 0 consumed"
unfoldable pub feeds : Session → List ℕ → List ℕ → Whole
feeds s t bytes =
    pick (legal s (length t)) (run bytes (state_of s t) t 0)
    (record { said = said_by ev.Setup t; consumed = 0; session = s; store = t })
