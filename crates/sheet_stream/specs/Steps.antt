-- For the functions of this crate.
use Rattle.std.specs.Prelude.{ℕ, ◌+◌, ◌*◌, ◌≤◌, ◌≡◌, Bool, true, false, List, [], ◌∷◌, length, take, leb, eqb, Option, Some, None}
use Rattle.base_choices.specs.Choices.{pick}
use Rattle.framing_session.specs.declared.Frame.{Frame}
use Rattle.framing_session.specs.declared.Frame.TheVariants.{Outside, Stray, Inside, Escaped, BadByte, TooLong}
use Rattle.framing_session.specs.declared.Session.{Session}
use Rattle.framing_content.specs.Numbers.{message_limit}
use Rattle.framing_session.specs.Rules.{State, Step, step}
use Rattle.framing_session.specs.Session.{state_of, legal}
use Rattle.base_hex.specs.Digits.{digit_of}
use Rattle.sheet_rules.specs.Reading.{Held, refusal, message, something_open}
use Rattle.sheet_stream.specs.declared.Tally.{Tally}
use Rattle.sheet_stream.specs.Finding.{store_from}

-- the bytes that the digits of a text are, h the first digit of a pair or 16; other bytes are passed over. Where no line is bad these are its lines' bytes.
unfoldable pub bytes_from : ℕ → List ℕ → List ℕ
bytes_from h [] = []
bytes_from h (b ∷ bs) =
    let passed : List ℕ = bytes_from h bs in
    let first : List ℕ = bytes_from (digit_of b) bs in
    let later : List ℕ = bytes_from 16 bs in
    pick (eqb (digit_of b) 16) passed (pick (eqb h 16) first ((h * 16 + digit_of b) ∷ later))

-- whether a frame or a message is open, by the session
abbrev pub frame_open : Frame → Bool
frame_open Outside = false
frame_open Stray = false
frame_open (Inside n) = true
frame_open (Escaped n) = true
frame_open (BadByte n) = true
frame_open (TooLong n) = true

abbrev pub part_open : Option ℕ → Bool
part_open None = false
part_open (Some n) = true

abbrev pub open_in : Session → Bool
open_in s = pick (frame_open s.frame) true (part_open s.message)

-- one message more, 2 for all counts over 1
abbrev pub another : ℕ → ℕ
another k = pick (eqb k 0) 1 2

-- byte by byte, k messages finished before and m the last of them: what the bytes hold
unfoldable pub collects : ℕ → List ℕ → State → List ℕ → Held
collects k m s [] = pick (something_open s) (refusal 33) (pick (eqb k 1) (message m) (refusal 33))
collects k m s (b ∷ bs) =
    let o : Step = step s b in
    let on : Held = collects k m o.next bs in
    let more : Held = collects (another k) o.said.message o.next bs in
    pick (leb 10 o.said.number) (refusal o.said.number) (pick (eqb o.said.number 3) more on)

-- what the bytes left give, after those that gave r and left the store t
unfoldable pub left : Tally → List ℕ → List ℕ → Held
left r t bs = pick (eqb r.refused 0) (collects r.messages (take r.length t) (state_of r.session t) bs) (refusal r.refused)

-- what then stands in the store
unfoldable pub stored : Tally → List ℕ → List ℕ → List ℕ
stored r t bs = pick (eqb r.refused 0) (store_from (state_of r.session t) t bs) t

-- what a session and a store must be for the next byte
pub record Sound (r : Tally) (t : List ℕ) : Type 0 where
  pub legal : legal r.session (length t) ≡ true
  pub short : r.length ≤ message_limit

-- one byte taken
pub record Taken (r : Tally) (t : List ℕ) (b : ℕ) (r' : Tally) (t' : List ℕ) : Type 0 where
  pub same : (bs : List ℕ) → left r t (b ∷ bs) ≡ left r' t' bs
  pub stores : (bs : List ℕ) → stored r t (b ∷ bs) ≡ stored r' t' bs
  pub sound : Sound r' t'
