-- The special bytes, the limits and the numbers of refusals (document 01, "Framing" and "Numbers answered").
use Rattle.std.specs.Prelude.{ℕ, List, [], ◌∷◌}
use Rattle.framing_content.specs.declared.Fault.{Fault}
use Rattle.framing_content.specs.declared.Fault.TheVariants.{Stray, Cut, Byte, Long, Escape, Short, Crc, Header, Flags, Dtd, Orphan, Big}

-- "BOF is FE, EOF is FF, CE is FD."
abbrev pub BOF : ℕ
BOF = 0xfe

abbrev pub EOF : ℕ
EOF = 0xff

abbrev pub CE : ℕ
CE = 0xfd

-- "Its content is the unescaped bytes, CRC included, at most 1,024 (house)."
abbrev pub content_limit : ℕ
content_limit = 1024

-- "A message holds at most 16,384 bytes."
abbrev pub message_limit : ℕ
message_limit = 16384

-- "The lent store is exactly 17,408 bytes: message bytes from 0, frame content from 16,384."
abbrev pub store_length : ℕ
store_length = 17408

abbrev pub content_start : ℕ
content_start = 16384

-- "Numbers answered": 10 to 24.
abbrev pub number : Fault → ℕ
number Stray = 10
number Cut = 11
number Byte = 12
number Long = 13
number Escape = 14
number Short = 15
number Crc = 16
number Header = 20
number Flags = 21
number Dtd = 22
number Orphan = 23
number Big = 24

-- The rows of "Numbers answered" that a session call may give. Of faults: 10 STRAY to 16 CRC, 20 HEADER to 24 BIG.
abbrev pub fault_numbers : List ℕ
fault_numbers = 10 ∷ 11 ∷ 12 ∷ 13 ∷ 14 ∷ 15 ∷ 16 ∷ 20 ∷ 21 ∷ 22 ∷ 23 ∷ 24 ∷ []

-- "0: done, or more bytes needed"; "1 SETUP"; "2, 3, 4, 5: piece, message, keep-alive request, response"; and the faults
abbrev pub feed_numbers : List ℕ
feed_numbers = 0 ∷ 1 ∷ 2 ∷ 3 ∷ 4 ∷ 5 ∷ fault_numbers
