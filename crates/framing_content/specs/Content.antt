-- What a frame's content is (document 01, "Framing"; the checks in the order of "Numbers answered"). A name stands before its use, so the last check comes
-- first here: read from `content_of` upwards.
use Rattle.std.specs.Prelude.{ℕ, ◌+◌, ◌-◌, ◌*◌, ◌/◌, ◌%◌, Bool, List, ltb, eqb, length, get_or, take, drop, Result, Ok, Err}
use Rattle.framing_content.specs.declared.Fault.{Fault}
use Rattle.framing_content.specs.declared.Fault.TheVariants.{Short, Crc, Header, Flags, Dtd}
use Rattle.framing_content.specs.declared.Content.{Content}
use Rattle.framing_content.specs.declared.Content.TheVariants.{Request, Response, Piece}
use Rattle.framing_checksum.specs.Checksum.{checksum}
use Rattle.base_choices.specs.Choices.{pick, unless}

-- "Flags: 80 first, 40 last, 20 empty, .. the low five bits are zero."
abbrev pub is_first : ℕ → Bool
is_first f = eqb (f / 128) 1

abbrev pub is_last : ℕ → Bool
is_last f = eqb (f / 64 % 2) 1

-- 1 where a body of n bytes has no payload, else 0
abbrev pub empty_bit : ℕ → ℕ
empty_bit n = pick (eqb n 9) 1 0

-- "Command 00 goes on with flags, DTD 01, count of application bytes 02, minor version, major version 02, payload."
-- "20 empty, exactly when there is no payload (house)"
unfoldable pub packet_of : List ℕ → Result Content Fault
packet_of ys =
    pick (ltb (length ys) 9) (Err Header)
    (unless (eqb (get_or ys 4 0 % 32) 0) (Err Flags)
    (unless (eqb (get_or ys 4 0 / 32 % 2) (empty_bit (length ys))) (Err Flags)
    (unless (eqb (get_or ys 5 0) 1) (Err Dtd)
    (unless (eqb (get_or ys 6 0) 2) (Err Dtd)
    (unless (eqb (get_or ys 8 0) 2) (Err Dtd)
    (Ok (Piece (is_first (get_or ys 4 0)) (is_last (get_or ys 4 0)))))))))

-- "Commands 01 and 02 are keep-alive request and response, exactly four bytes."
unfoldable pub command_of : List ℕ → Result Content Fault
command_of ys =
    pick (eqb (get_or ys 2 0) 0) (packet_of ys)
    (unless (eqb (length ys) 4) (Err Header)
    (pick (eqb (get_or ys 2 0) 1) (Ok Request)
    (pick (eqb (get_or ys 2 0) 2) (Ok Response)
    (Err Header))))

-- "Content without CRC: slot 00, type 0E, command, version 01."
unfoldable pub body_of : List ℕ → Result Content Fault
body_of ys =
    unless (eqb (get_or ys 0 0) 0) (Err Header)
    (unless (eqb (get_or ys 1 0) 0x0e) (Err Header)
    (unless (eqb (get_or ys 3 0) 1) (Err Header)
    (command_of ys)))

-- the content without its checksum
abbrev pub body : List ℕ → List ℕ
body xs = take (length xs - 2) xs

-- "Every frame ends with a 16-bit CRC .., low byte first"
abbrev pub crc_of : List ℕ → ℕ
crc_of xs = get_or xs (length xs - 2) 0 + get_or xs (length xs - 1) 0 * 256

-- 15 SHORT: "content under 6"; 16 CRC: "CRC wrong"; then the header
unfoldable pub content_of : List ℕ → Result Content Fault
content_of xs =
    pick (ltb (length xs) 6) (Err Short)
    (pick (eqb (crc_of xs) (checksum (body xs))) (body_of (body xs)) (Err Crc))

-- the payload of a piece: what follows the nine bytes up to the major version
abbrev pub payload : List ℕ → List ℕ
payload xs = drop 9 (body xs)
