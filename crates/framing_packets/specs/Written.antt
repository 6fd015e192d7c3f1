-- What the writer writes (document 01, "Framing", "Desk" and "Numbers answered").
use Rattle.std.specs.Prelude.{ℕ, zero, suc, ◌+◌, ◌-◌, ◌/◌, Bool, true, false, List, [], ◌∷◌, ◌++◌, leb, eqb, length, take, drop, Option, Some, None}
use Rattle.std.specs.Int.Bits.{bit_xor}
use Rattle.framing_checksum.specs.Checksum.{checksum, octets_of}
use Rattle.base_choices.specs.Choices.{pick}
use Rattle.framing_content.specs.Numbers.{BOF, EOF, CE, content_limit, message_limit}

-- "Data bytes F8 and above (001's table, not its sentence) are sent as CE and the byte XOR 20."
unfoldable pub escape : ℕ → List ℕ
escape b = pick (leb 0xf8 b) (CE ∷ bit_xor b 0x20 ∷ []) (b ∷ [])

unfoldable pub escapes : List ℕ → List ℕ
escapes [] = []
escapes (b ∷ bs) = escape b ++ escapes bs

-- "Every frame ends with a 16-bit CRC over the unescaped data: .. low byte first, itself escaped."
abbrev pub sealed : List ℕ → List ℕ
sealed xs = xs ++ octets_of (checksum xs)

-- A frame around content without its CRC. "A frame opens at BOF and ends at the next EOF or BOF."
unfoldable pub frame : List ℕ → List ℕ
frame xs = BOF ∷ (escapes (sealed xs) ++ EOF ∷ [])

-- "Its content is the unescaped bytes, CRC included, at most 1,024 (house)."
abbrev pub body_limit : ℕ
body_limit = content_limit - 2

-- "Content without CRC: slot 00, type 0E, command, version 01. Commands 01 and 02 are keep-alive request and response, exactly four bytes."
abbrev pub request_body : List ℕ
request_body = 0x00 ∷ 0x0e ∷ 0x01 ∷ 0x01 ∷ []

abbrev pub response_body : List ℕ
response_body = 0x00 ∷ 0x0e ∷ 0x02 ∷ 0x01 ∷ []

-- "Flags: 80 first, 40 last, 20 empty, exactly when there is no payload (house); the low five bits are zero." Of a payload of n bytes.
abbrev pub flags : Bool → Bool → ℕ → ℕ
flags first last n = pick first 0x80 0 + pick last 0x40 0 + pick (eqb n 0) 0x20 0

-- "Command 00 goes on with flags, DTD 01, count of application bytes 02, minor version, major version 02, payload."
-- "minor version hex 14"
abbrev pub header : ℕ → List ℕ
header f = 0x00 ∷ 0x0e ∷ 0x00 ∷ 0x01 ∷ f ∷ 0x01 ∷ 0x02 ∷ 0x14 ∷ 0x02 ∷ []

abbrev pub packet_body : Bool → Bool → List ℕ → List ℕ
packet_body first last p = header (flags first last (length p)) ++ p

unfoldable pub packet : Bool → Bool → List ℕ → List ℕ
packet first last p = frame (packet_body first last p)

-- "The writer fills each packet to 1,013 payload bytes before the next".
abbrev pub payload_limit : ℕ
payload_limit = 1013

-- n full packets, and the last one with the rest
unfoldable pub packets : ℕ → Bool → List ℕ → List ℕ
packets zero first m = packet first true m
packets (suc n) first m = packet first false (take payload_limit m) ++ packets n false (drop payload_limit m)

-- how many packets of a message of n bytes come before the last: one packet at least, and no empty one after a full one
abbrev pub earlier : ℕ → ℕ
earlier n = (n - 1) / payload_limit

-- A message as packets.
abbrev pub in_packets : List ℕ → List ℕ
in_packets m = packets (earlier (length m)) true m

-- What a call answers, and leaves in the output. For each case of the answer its number and values: 0 done, and how many bytes; 46 OUT.
pub record Outcome : Type 0 where
  pub number : ℕ
  pub count : ℕ
  pub output : List ℕ

abbrev pub outcome : Option ℕ → List ℕ → Outcome
outcome (Some n) o = record { number = 0; count = n; output = o }
outcome None o = record { number = 46; count = 0; output = o }

-- The rows of "Numbers answered" that a writer's call may give.
abbrev pub write_numbers : List ℕ
write_numbers = 0 ∷ 46 ∷ []

-- "46 OUT: writer: output too short", which leaves the output as it was. Bytes past the written ones stay.
unfoldable pub into : List ℕ → List ℕ → Outcome
into bs o = pick (leb (length bs) (length o)) (outcome (Some (length bs)) (bs ++ drop (length bs) o)) (outcome None o)

-- .. and where the body or message, of n bytes, is over its limit: a body that no frame holds, a message over 16,384 bytes
unfoldable pub limited : ℕ → ℕ → List ℕ → List ℕ → Outcome
limited n limit bs o = pick (leb n limit) (into bs o) (outcome None o)

-- What each function gives: a frame around content, a message as packets.
abbrev pub frame_into : List ℕ → List ℕ → Outcome
frame_into xs o = limited (length xs) body_limit (frame xs) o

abbrev pub message_into : List ℕ → List ℕ → Outcome
message_into m o = limited (length m) message_limit (in_packets m) o

-- An output that is always long enough: for a frame, and for the 17 frames of the longest message.
abbrev pub frame_room : ℕ
frame_room = 2050

abbrev pub message_room : ℕ
message_room = 34850
