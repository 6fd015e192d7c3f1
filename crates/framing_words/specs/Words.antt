-- A session as four words, and back: where the stream stands, the length of the open frame's content, whether a message is open,
-- and its length.
use Rattle.std.specs.Prelude.{ℕ, Bool, false, List, [], ◌∷◌, leb, ltb, eqb, length, get_or, Option, Some, None}
use Rattle.framing_session.specs.declared.Frame.{Frame}
use Rattle.framing_session.specs.declared.Frame.TheVariants.{Outside, Stray, Inside, Escaped, BadByte, TooLong}
use Rattle.framing_session.specs.declared.Session.{Session}
use Rattle.base_choices.specs.Choices.{pick}
use Rattle.framing_session.specs.Session.{frame_length, message_length}

abbrev pub place_word : Frame → ℕ
place_word Outside = 0
place_word Stray = 1
place_word (Inside n) = 2
place_word (Escaped n) = 3
place_word (BadByte n) = 4
place_word (TooLong n) = 5

abbrev pub open_word : Option ℕ → ℕ
open_word None = 0
open_word (Some n) = 1

abbrev pub words_of : Session → List ℕ
words_of s = place_word s.frame ∷ frame_length s.frame ∷ open_word s.message ∷ message_length s.message ∷ []

-- A session put into a lent slice: of four words, else it stays as it was.
unfoldable pub session_put : List ℕ → Session → List ℕ
session_put ws s = pick (eqb (length ws) 4) (words_of s) ws

unfoldable pub frame_at : ℕ → ℕ → Frame
frame_at p n =
    pick (eqb p 0) Outside
    (pick (eqb p 1) Stray
    (pick (eqb p 2) (Inside n)
    (pick (eqb p 3) (Escaped n)
    (pick (eqb p 4) (BadByte n)
    (TooLong n)))))

unfoldable pub pending_at : ℕ → ℕ → Option ℕ
pending_at o n = pick (eqb o 0) None (Some n)

abbrev pub session_at : List ℕ → Session
session_at ws = record { frame = frame_at (get_or ws 0 0) (get_or ws 1 0); message = pending_at (get_or ws 2 0) (get_or ws 3 0) }

-- Words that are a session's: 0 to 5, and no length where no frame is open; 0 or 1, and no length where no message is open.
unfoldable pub is_frame : ℕ → ℕ → Bool
is_frame p n = pick (ltb p 2) (eqb n 0) (leb p 5)

unfoldable pub is_pending : ℕ → ℕ → Bool
is_pending o n = pick (eqb o 0) (eqb n 0) (eqb o 1)

unfoldable pub is_session : List ℕ → Bool
is_session ws =
    pick (eqb (length ws) 4)
    (pick (is_frame (get_or ws 0 0) (get_or ws 1 0)) (is_pending (get_or ws 2 0) (get_or ws 3 0)) false)
    false
