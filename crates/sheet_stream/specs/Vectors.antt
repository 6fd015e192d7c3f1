-- Small texts, by computation.
use Rattle.std.specs.Prelude.{ℕ, ◌≡◌, refl, List, [], ◌∷◌, ◌++◌}
use Rattle.framing_checksum.specs.Checksum.{table, crc_step, crc_from, checksum}
use Rattle.framing_content.specs.Content.{content_of, body_of, command_of, packet_of}
use Rattle.framing_session.specs.Rules.{step, in_place, adds, cuts, ends, pieces, faulted, happens, after}
use Rattle.base_hex.specs.Digits.{digit_of}
use Rattle.sheet_rules.specs.Lines.{lines_from, lines_in}
use Rattle.sheet_rules.specs.Reading.{Held, refusal, message, finished, something_open, first_fault, of_events, held_in}
use Rattle.framing_session.specs.Session.{kept}
use Rattle.sheet_stream.specs.Finding.{setup, store_from, store_after, finds}

abbrev held : List ℕ → Held
held text = held_in (lines_in text)

-- P9 as a line: "FE 00 0E 01 01 94 E4 FF gives 4"
abbrev alive : List ℕ
alive = 70 ∷ 69 ∷ 48 ∷ 48 ∷ 48 ∷ 69 ∷ 48 ∷ 49 ∷ 48 ∷ 49 ∷ 57 ∷ 52 ∷ 69 ∷ 52 ∷ 70 ∷ 70 ∷ 10 ∷ []

-- FE 00 0E 00 01 C0 01 02 14 02 60 7B A4 FF: a message of the one byte 60
abbrev sixty : List ℕ
sixty =
    70 ∷ 69 ∷ 48 ∷ 48 ∷ 48 ∷ 69 ∷ 48 ∷ 48 ∷ 48 ∷ 49 ∷ 67 ∷ 48 ∷ 48 ∷ 49 ∷ 48 ∷ 50 ∷ 49 ∷ 52 ∷ 48 ∷ 50 ∷ 54 ∷ 48 ∷ 55 ∷ 66 ∷ 65 ∷ 52 ∷ 70 ∷ 70 ∷ 10 ∷ []

-- one message, keep-alives "passed over"; none, two, a frame left open; the first event from 10 up, also after a message; a bad line, wherever it stands
pub v-held :
    (held sixty ≡ message (0x60 ∷ [])) ×
    (held (alive ++ (sixty ++ alive)) ≡ message (0x60 ∷ [])) ×
    (held alive ≡ refusal 33) ×
    (held (sixty ++ sixty) ≡ refusal 33) ×
    (held (sixty ++ (70 ∷ 101 ∷ [])) ≡ refusal 33) ×
    (held (sixty ++ (48 ∷ 48 ∷ 10 ∷ [])) ≡ refusal 10) ×
    (held (102 ∷ 102 ∷ 10 ∷ sixty) ≡ refusal 10) ×
    (held (48 ∷ 48 ∷ 10 ∷ 10 ∷ sixty) ≡ refusal 12)
unfolding lines_from digit_of happens after step in_place adds cuts ends pieces content_of body_of command_of packet_of
    checksum crc_from crc_step table finished something_open first_fault of_events
v-held = (refl, refl, refl, refl, refl, refl, refl, refl)

-- "nothing is open at the end": a frame with content, after CE, after an escaped byte, past a fault, after it, after CE and a fault
pub v-open-frame :
    (held (sixty ++ (70 ∷ 69 ∷ 48 ∷ 49 ∷ 10 ∷ [])) ≡ refusal 33) ×
    (held (sixty ++ (70 ∷ 69 ∷ 70 ∷ 68 ∷ 10 ∷ [])) ≡ refusal 33) ×
    (held (sixty ++ (70 ∷ 69 ∷ 48 ∷ 49 ∷ 70 ∷ 68 ∷ 10 ∷ [])) ≡ refusal 33) ×
    (held (sixty ++ (70 ∷ 69 ∷ 48 ∷ 49 ∷ 70 ∷ 68 ∷ 68 ∷ 56 ∷ 10 ∷ [])) ≡ refusal 33) ×
    (held (sixty ++ (70 ∷ 69 ∷ 70 ∷ 56 ∷ 10 ∷ [])) ≡ refusal 33) ×
    (held (sixty ++ (70 ∷ 69 ∷ 48 ∷ 49 ∷ 70 ∷ 56 ∷ 48 ∷ 50 ∷ 10 ∷ [])) ≡ refusal 33) ×
    (held (sixty ++ (70 ∷ 69 ∷ 70 ∷ 68 ∷ 48 ∷ 48 ∷ 10 ∷ [])) ≡ refusal 33)
unfolding lines_from digit_of happens after step in_place adds cuts ends pieces faulted content_of body_of command_of packet_of
    checksum crc_from crc_step table finished something_open first_fault of_events
v-open-frame = (refl, refl, refl, refl, refl, refl, refl)

-- .. FE 00 0E 00 01 80 01 02 14 02 60 AA A6 FF: a piece that only opens a message, of the one byte 60; FE 00 0E 00 01 A0 01 02 14 02 E5 17 FF: of none
abbrev piece : List ℕ
piece =
    70 ∷ 69 ∷ 48 ∷ 48 ∷ 48 ∷ 69 ∷ 48 ∷ 48 ∷ 48 ∷ 49 ∷ 56 ∷ 48 ∷ 48 ∷ 49 ∷ 48 ∷ 50 ∷ 49 ∷ 52 ∷ 48 ∷ 50 ∷ 54 ∷ 48 ∷ 65 ∷ 65 ∷ 65 ∷ 54 ∷ 70 ∷ 70 ∷ 10 ∷ []

abbrev nothing : List ℕ
nothing =
    70 ∷ 69 ∷ 48 ∷ 48 ∷ 48 ∷ 69 ∷ 48 ∷ 48 ∷ 48 ∷ 49 ∷ 65 ∷ 48 ∷ 48 ∷ 49 ∷ 48 ∷ 50 ∷ 49 ∷ 52 ∷ 48 ∷ 50 ∷ 69 ∷ 53 ∷ 49 ∷ 55 ∷ 70 ∷ 70 ∷ 10 ∷ []

pub v-open-message :
    (held (sixty ++ piece) ≡ refusal 33) ×
    (held (sixty ++ nothing) ≡ refusal 33) ×
    (held (sixty ++ (nothing ++ alive)) ≡ refusal 33)
unfolding lines_from digit_of happens after step in_place adds cuts ends pieces content_of body_of command_of packet_of
    checksum crc_from crc_step table finished something_open first_fault of_events
v-open-message = (refl, refl, refl)

-- a store of another length, as it was, before any line is looked at
pub v-setup : finds (48 ∷ []) (5 ∷ 6 ∷ []) ≡ setup (5 ∷ 6 ∷ [])
unfolding finds
v-setup = refl

-- the store after them, here of three bytes: a message's byte from 0; a bad line takes nothing; nor is a byte taken after the first event from 10 up
abbrev left : List ℕ → List ℕ
left text = store_after (lines_in text) (1 ∷ 2 ∷ 3 ∷ [])

pub v-store :
    (left sixty ≡ 0x60 ∷ 2 ∷ 3 ∷ []) ×
    (left (alive ++ (sixty ++ (48 ∷ 48 ∷ 10 ∷ []))) ≡ 0x60 ∷ 2 ∷ 3 ∷ []) ×
    (left alive ≡ 1 ∷ 2 ∷ 3 ∷ []) ×
    (left (sixty ++ (10 ∷ [])) ≡ 1 ∷ 2 ∷ 3 ∷ []) ×
    (left (48 ∷ 48 ∷ 10 ∷ sixty) ≡ 1 ∷ 2 ∷ 3 ∷ [])
unfolding lines_from digit_of store_from kept step in_place adds cuts ends pieces content_of body_of command_of packet_of checksum crc_from crc_step table
v-store = (refl, refl, refl, refl, refl)
