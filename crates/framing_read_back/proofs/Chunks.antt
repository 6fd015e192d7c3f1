-- What is written, a session reads back in any chunks: what the writer's functions say (`message_into` and the like, their contracts), the rules, and
-- framing's claim over every list of offers, joined. The session is any legal one where BOF opens a frame, a fresh one among them.
use Rattle.std.specs.Prelude.{Some}
use Prim.Native.Nat.{ℕ, ◌+◌, ◌≤◌}
use mathlib.Core.Bool.{false}
use mathlib.Core.List.{List, [], ◌∷◌}
use mathlib.Core.Path.{◌≡◌, refl, ◌∙◌}
use lib.ListN.{length, take}
use Rattle.framing_session.specs.declared.Session.{Session}
use Rattle.framing_content.specs.Numbers.{BOF}
use Rattle.framing_session.specs.Rules.{outside, inside, none, State, Happening, begin, is_open, ends}
use Rattle.framing_session.specs.Session.{state_of, session_of, Legal}
use Rattle.framing.specs.Offers.{Turn, Turns}
use Rattle.framing.proofs.Calls.{told-whole}
use Rattle.framing_packets.specs.Written.{escapes, sealed, frame, body_limit, request_body, response_body, outcome, into, frame_into, message_into}
use Rattle.framing_packets.proofs.Laws.{into_back, limited-done}
use Rattle.framing_packets.specs.Read.{Bytes, Opens, Gives, happening, message_events}
use Rattle.framing_read_back.specs.Calls.{ReadAs}
use Rattle.framing_packets.proofs.Reading.{state, opens-outside}
use Rattle.framing_packets.proofs.Back.{content-back, frame_back, request-back, response-back, message-back}

-- in a fresh session BOF opens a frame
pub fresh-opens : (t : List ℕ) → Opens (state_of (session_of begin) t)
fresh-opens t = opens-outside none

-- ---- what was answered as done, the rules read back

module _ (o p : List ℕ) (n : ℕ) (s : State) (opens : Opens s) (k : ℕ) where
  pub written-frame : (xs : List ℕ) → frame_into xs o ≡ outcome (Some n) p → Bytes xs
      → Gives s k (take n p) (record { offset = k + length (frame xs); said = (ends (sealed xs) s.message).said } ∷ []) (ends (sealed xs) s.message).next
  written-frame xs c h = let d = limited-done _ _ _ _ c in rw d.1 (frame_back xs h d.0 s opens k refl)

  pub written-message : (m : List ℕ) → message_into m o ≡ outcome (Some n) p → Bytes m
      → Gives s k (take n p) (message_events (is_open s.message) m k) begin
  written-message m c h = let d = limited-done _ _ _ _ c in rw d.1 (message-back m h d.0 s opens k)

  pub written-request : into (frame request_body) o ≡ outcome (Some n) p
      → Gives s k (take n p) (happening (k + length (frame request_body)) 4 false [] ∷ []) (state outside s.message)
  written-request c = rw (into_back (frame request_body) o p n c) (request-back s opens k)

  pub written-response : into (frame response_body) o ≡ outcome (Some n) p
      → Gives s k (take n p) (happening (k + length (frame response_body)) 5 false [] ∷ []) (state outside s.message)
  written-response c = rw (into_back (frame response_body) o p n c) (response-back s opens k)

-- ---- .. and a session, whatever the offers

module _ {s s'' : Session} {t t'' : List ℕ} {ts : List Turn} (legal : Legal s t) (k : ℕ) where
  -- a stream that is consumed whole
  pub in-chunks : {bytes : List ℕ} {hs : List Happening} {e : State} → Gives (state_of s t) k bytes hs e → Turns s t bytes ts s'' t'' [] → ReadAs k ts s'' t'' hs e
  in-chunks g turns = let f = told-whole k legal turns in record { events = f.0 ∙ g.events; state-is = f.1 ∙ g.state }

  module _ (opens : Opens (state_of s t)) where
    -- up to its EOF, a frame of the body xs: no event, and session and store hold the same content, with its CRC
    pub content-in-chunks : (xs : List ℕ) → Bytes xs → length xs ≤ body_limit → Turns s t (BOF ∷ escapes (sealed xs)) ts s'' t'' []
        → ReadAs k ts s'' t'' [] (state (inside (sealed xs)) (state_of s t).message)
    content-in-chunks xs h l = in-chunks (content-back xs h l (state_of s t) opens k)

    module _ (o p : List ℕ) (n : ℕ) (turns : Turns s t (take n p) ts s'' t'' []) where
      -- a frame: one event, at its last byte, which its content decides
      pub frame-in-chunks : (xs : List ℕ) → frame_into xs o ≡ outcome (Some n) p → Bytes xs
          → ReadAs k ts s'' t'' (record { offset = k + length (frame xs); said = (ends (sealed xs) (state_of s t).message).said } ∷ [])
          (ends (sealed xs) (state_of s t).message).next
      frame-in-chunks xs c h = in-chunks (written-frame o p n (state_of s t) opens k xs c h) turns

      -- a message: 2 for each packet but the last, then 3 with these very bytes
      pub message-in-chunks : (m : List ℕ) → message_into m o ≡ outcome (Some n) p → Bytes m
          → ReadAs k ts s'' t'' (message_events (is_open (state_of s t).message) m k) begin
      message-in-chunks m c h = in-chunks (written-message o p n (state_of s t) opens k m c h) turns

      -- the keep-alives: 4 and 5, and the open message stays
      pub request-in-chunks : into (frame request_body) o ≡ outcome (Some n) p
          → ReadAs k ts s'' t'' (happening (k + length (frame request_body)) 4 false [] ∷ []) (state outside (state_of s t).message)
      request-in-chunks c = in-chunks (written-request o p n (state_of s t) opens k c) turns

      pub response-in-chunks : into (frame response_body) o ≡ outcome (Some n) p
          → ReadAs k ts s'' t'' (happening (k + length (frame response_body)) 5 false [] ∷ []) (state outside (state_of s t).message)
      response-in-chunks c = in-chunks (written-response o p n (state_of s t) opens k c) turns
