-- The first half of reading a route sheet (document 01, "Desk"): from its text to the one finished message, or the first refusal: "12 for any bad line, the
-- first event from 10 up, 33 unless exactly one message is finished and nothing is open at the end" (`held_in`, crates/sheet_rules/specs/Reading.antt).
use Rattle.std.specs.Prelude.{ℕ, List, [], ◌∷◌, length, take, leb, eqb}
use Rattle.base_choices.specs.Choices.{pick}
use Rattle.framing_content.specs.Numbers.{store_length, fault_numbers}
use Rattle.framing_session.specs.Rules.{State, Step, begin, step}
use Rattle.framing_session.specs.Session.{kept}
use Rattle.sheet_rules.specs.Lines.{Stream, bad, stream, lines_in}
use Rattle.sheet_rules.specs.Reading.{Held, refusal, message, held_in}
use Rattle.sheet_stream.specs.declared.Found.{Found}
use Rattle.sheet_stream.specs.declared.Found.TheVariants.{Setup, Refused, Message}

-- The rows of "Numbers answered" that refuse a text: 33, and the events from 10 up, 12 for a bad line among them (`held-numbers`, proofs/Numbers.antt).
abbrev pub held_numbers : List ℕ
held_numbers = 33 ∷ fault_numbers

-- What stands in the store after the bytes, up to and including that of the first event from 10 up, or all of them: what a session leaves that is fed them
-- (`kept`, crates/framing_session/specs/Session.antt, says it of one byte; `stored-by-calls`, proofs/Stores.antt, of calls on any chunks).
unfoldable pub store_from : State → List ℕ → List ℕ → List ℕ
store_from s t [] = t
store_from s t (b ∷ bs) =
    let o : Step = step s b in
    let on : List ℕ = store_from o.next (kept o t) bs in
    pick (leb 10 o.said.number) (kept o t) on

-- these bytes
unfoldable pub up_to_fault : State → List ℕ → List ℕ
up_to_fault s [] = []
up_to_fault s (b ∷ bs) =
    let o : Step = step s b in
    let on : List ℕ = up_to_fault o.next bs in
    pick (leb 10 o.said.number) (b ∷ []) (b ∷ on)

-- The lines' bytes from the beginning. Of lines with a bad one no byte is taken.
abbrev pub store_after : Stream → List ℕ → List ℕ
store_after bad t = t
store_after (stream bs) t = store_from begin t bs

-- What a call gives: SETUP, or what the lines hold; and the store that it leaves.
pub data Outcome : Type 0 where
  setup : List ℕ → Outcome
  holds : Held → List ℕ → Outcome

-- "1 SETUP: first of all: store not 17,408 bytes", which leaves the store as it was
unfoldable pub finds : List ℕ → List ℕ → Outcome
finds text t = pick (eqb (length t) store_length) (holds (held_in (lines_in text)) (store_after (lines_in text) t)) (setup t)

-- What an answer says, beside the store that the call leaves: "message bytes from 0".
abbrev pub found_by : Found → List ℕ → Outcome
found_by Setup t = setup t
found_by (Refused n) t = holds (refusal n) t
found_by (Message n) t = holds (message (take n t)) t
