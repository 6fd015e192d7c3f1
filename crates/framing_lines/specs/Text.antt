-- The lines for a stream's events: what the program prints.
use Rattle.std.specs.Prelude.{ℕ, zero, suc, ◌+◌, ◌/◌, ◌%◌, Bool, cond, List, [], ◌∷◌, ◌++◌, ltb, leb, eqb, length, Option, Some, None}
use Rattle.framing_session.specs.declared.Event.{Event}
use Rattle.framing_session.specs.declared.Frame.{Frame}
use Rattle.framing_session.specs.declared.Frame.TheVariants.{Outside, Stray, Inside, Escaped, BadByte, TooLong}
use Rattle.framing_session.specs.declared.Session.{Session}
use Rattle.base_choices.specs.Choices.{pick}
use Rattle.base_hex.specs.Digits.{hex_text}
use Rattle.base_output.specs.Output.{Wrote, wrote}
use Rattle.framing_content.specs.Numbers.{store_length}
use Rattle.framing_session.specs.Rules.{Said}
use Rattle.framing_session.specs.Session.{said_by}

-- more than any line has
abbrev pub line_room : ℕ
line_room = 35000

-- A line is put where there is room for any line. Elsewhere nothing is put.
unfoldable pub wrote_line : List ℕ → ℕ → List ℕ → Wrote
wrote_line o at text = pick (leb (at + line_room) (length o)) (wrote o at text) (record { next = at; output = o })

-- the text's own bytes: 0A, space, '-'
abbrev pub newline : List ℕ
newline = 10 ∷ []

abbrev pub space : List ℕ
space = 32 ∷ []

abbrev pub dash : List ℕ
dash = 45 ∷ []

-- ".. or `-` if it has no bytes"
unfoldable pub word_text : List ℕ → List ℕ
word_text bs = pick (eqb (length bs) 0) dash (hex_text bs)

-- n in decimal digits, without zeros in front: its last k at most
unfoldable pub decimal_text : ℕ → ℕ → List ℕ
decimal_text zero n = []
decimal_text (suc k) n = pick (ltb n 10) ((48 + n) ∷ []) (decimal_text k (n / 10) ++ ((48 + n % 10) ∷ []))

-- a number of 64 bits, whole
abbrev pub number_text : ℕ → List ℕ
number_text n = decimal_text 20 n

-- "`OFFSET NUMBER DISCARDED` .. (.. DISCARDED: 1 or 0)"
unfoldable pub head_text : ℕ → ℕ → Bool → List ℕ
head_text offset number discarded = number_text offset ++ (space ++ (number_text number ++ (space ++ (cond discarded 49 48 ∷ []))))

-- ".. and, for 3, a fourth word: the message"
unfoldable pub event_text : ℕ → Said → List ℕ
event_text offset e =
    head_text offset e.number e.discarded ++ pick (eqb e.number 3) ((space ++ word_text e.message) ++ newline) newline

-- .. whose bytes stand in a store that is no longer than a session's. With a longer one nothing is put.
unfoldable pub wrote_event : List ℕ → ℕ → ℕ → Event → List ℕ → Wrote
wrote_event o at offset e store =
    pick (leb (length store) store_length) (wrote_line o at (event_text offset (said_by e store))) (record { next = at; output = o })

-- "the count of content bytes of the open frame or `-` if none is open"
abbrev pub frame_text : Frame → List ℕ
frame_text Outside = dash
frame_text Stray = dash
frame_text (Inside n) = number_text n
frame_text (Escaped n) = number_text n
frame_text (BadByte n) = number_text n
frame_text (TooLong n) = number_text n

-- "the length of the open message or `-`"
abbrev pub pending_text : Option ℕ → List ℕ
pending_text None = dash
pending_text (Some n) = number_text n

-- "`end BYTES FRAME MESSAGE`"
unfoldable pub end_text : ℕ → Session → List ℕ
end_text offset s =
    (101 ∷ 110 ∷ 100 ∷ 32 ∷ []) ++ (number_text offset ++ (space ++ (frame_text s.frame ++ (space ++ (pending_text s.message ++ newline)))))

abbrev pub bad_line_text : List ℕ
bad_line_text = 98 ∷ 97 ∷ 100 ∷ 32 ∷ 108 ∷ 105 ∷ 110 ∷ 101 ∷ 10 ∷ []
