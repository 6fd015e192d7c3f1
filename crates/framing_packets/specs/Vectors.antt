-- The two keep-alives of document 01's listing, and where a message is cut, by computation. P8 is in one table with the other samples:
-- crates/turns/specs/Samples.antt.
use Rattle.std.specs.Prelude.{true, ◌≡◌, refl, [], ◌∷◌, map}
use Rattle.framing_checksum.specs.Checksum.{table, crc_step, crc_from, checksum}
use Rattle.framing_packets.specs.Written.{escape, escapes, frame, request_body, response_body, header, packet_body, earlier}

-- "FE000E010194E4FF" and "FE000E0201FDDCCEFF", the listing program's input
pub request-bytes : frame request_body ≡ 0xfe ∷ 0x00 ∷ 0x0e ∷ 0x01 ∷ 0x01 ∷ 0x94 ∷ 0xe4 ∷ 0xff ∷ []
unfolding frame escapes escape checksum crc_from crc_step table
request-bytes = refl

pub response-bytes : frame response_body ≡ 0xfe ∷ 0x00 ∷ 0x0e ∷ 0x02 ∷ 0x01 ∷ 0xfd ∷ 0xdc ∷ 0xce ∷ 0xff ∷ []
unfolding frame escapes escape checksum crc_from crc_step table
response-bytes = refl

-- An empty message is one packet with flags E0; one that fills its packets has no empty one after them.
pub empty-body : packet_body true true [] ≡ header 0xe0
empty-body = refl

pub cuts-at : map earlier (0 ∷ 1 ∷ 1013 ∷ 1014 ∷ 2026 ∷ 2027 ∷ 16384 ∷ []) ≡ 0 ∷ 0 ∷ 0 ∷ 1 ∷ 1 ∷ 2 ∷ 16 ∷ []
cuts-at = refl
