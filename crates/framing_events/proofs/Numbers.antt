-- A stream for each number of a session call, by computation: with `numbers` (Said.antt) these are the numbers that are given, and no other. (1: the
-- vectors `setup-..`, crates/framing_session/specs/Vectors.antt.)
use Prim.Native.Nat.{ℕ, ◌+◌, ◌≤◌, ◌<◌}
use mathlib.Core.Bool.{Bool, true, false}
use mathlib.Core.List.{List, [], ◌∷◌, ◌++◌, map}
use mathlib.Core.Path.{◌≡◌, refl}
use native.Mathlib.Omega.{arith}
use borrow.Author.Tests.{le-leb, lt-leb, lt-ltb, le-ltb}
use lib.ListN.{length}
use Rattle.framing_checksum.specs.Checksum.{table, crc_step, crc_from, checksum}
use Rattle.framing_content.specs.Content.{packet_of, command_of, body_of, content_of}
use Rattle.framing_content.specs.Numbers.{EOF, content_limit, message_limit}
use Rattle.framing_session.specs.Rules.{inside, too_long, Message, part, Happening, begin, adds, pieces, ends, faulted, cuts, in_place, step, happens}

abbrev numbers_of : List ℕ → List ℕ
numbers_of bytes = map (λ (h : Happening). h.said.number) (happens begin 0 bytes)

pub each_number : map numbers_of
    (
    -- an open frame; a piece of a message, and one that is a message; the two keep-alives
    (0xfe ∷ [])
    ∷ (0xfe ∷ 0x00 ∷ 0x0e ∷ 0x00 ∷ 0x01 ∷ 0x80 ∷ 0x01 ∷ 0x02 ∷ 0x14 ∷ 0x02 ∷ 0xaa ∷ 0xfd ∷ 0xdc ∷ 0xcf ∷ 0xff ∷ [])
    ∷ (0xfe ∷ 0x00 ∷ 0x0e ∷ 0x00 ∷ 0x01 ∷ 0xc0 ∷ 0x01 ∷ 0x02 ∷ 0x14 ∷ 0x02 ∷ 0xaa ∷ 0x2d ∷ 0xcd ∷ 0xff ∷ [])
    ∷ (0xfe ∷ 0x00 ∷ 0x0e ∷ 0x01 ∷ 0x01 ∷ 0x94 ∷ 0xe4 ∷ 0xff ∷ [])
    ∷ (0xfe ∷ 0x00 ∷ 0x0e ∷ 0x02 ∷ 0x01 ∷ 0xfd ∷ 0xdc ∷ 0xce ∷ 0xff ∷ [])
    -- STRAY, CUT, BYTE; ESCAPE, SHORT, CRC
    ∷ (0x00 ∷ 0xff ∷ [])
    ∷ (0xfe ∷ 0x00 ∷ 0xfe ∷ [])
    ∷ (0xfe ∷ 0xf8 ∷ 0xff ∷ [])
    ∷ (0xfe ∷ 0xfd ∷ 0xff ∷ [])
    ∷ (0xfe ∷ 0xff ∷ [])
    ∷ (0xfe ∷ 0x00 ∷ 0x0e ∷ 0x01 ∷ 0x01 ∷ 0x94 ∷ 0xe5 ∷ 0xff ∷ [])
    -- HEADER (slot 01), FLAGS (C1), DTD (02), ORPHAN (a last piece alone)
    ∷ (0xfe ∷ 0x01 ∷ 0x0e ∷ 0x01 ∷ 0x01 ∷ 0x2f ∷ 0xfd ∷ 0xd8 ∷ 0xff ∷ [])
    ∷ (0xfe ∷ 0x00 ∷ 0x0e ∷ 0x00 ∷ 0x01 ∷ 0xc1 ∷ 0x01 ∷ 0x02 ∷ 0x14 ∷ 0x02 ∷ 0xaa ∷ 0x06 ∷ 0xc9 ∷ 0xff ∷ [])
    ∷ (0xfe ∷ 0x00 ∷ 0x0e ∷ 0x00 ∷ 0x01 ∷ 0xc0 ∷ 0x02 ∷ 0x02 ∷ 0x14 ∷ 0x02 ∷ 0xaa ∷ 0xe1 ∷ 0xd0 ∷ 0xff ∷ [])
    ∷ (0xfe ∷ 0x00 ∷ 0x0e ∷ 0x00 ∷ 0x01 ∷ 0x40 ∷ 0x01 ∷ 0x02 ∷ 0x14 ∷ 0x02 ∷ 0xaa ∷ 0x8f ∷ 0xc8 ∷ 0xff ∷ [])
    ∷ [])
    ≡ [] ∷ (2 ∷ []) ∷ (3 ∷ []) ∷ (4 ∷ []) ∷ (5 ∷ []) ∷ (10 ∷ []) ∷ (11 ∷ []) ∷ (12 ∷ []) ∷ (14 ∷ []) ∷ (15 ∷ []) ∷ (16 ∷ []) ∷ (20 ∷ []) ∷ (21 ∷ [])
    ∷ (22 ∷ []) ∷ (23 ∷ []) ∷ []
unfolding happens step in_place adds pieces ends faulted cuts content_of body_of command_of packet_of checksum crc_from crc_step table
each_number = refl

-- 13 LONG: "content over 1,024", whatever the bytes
module _ (xs : List ℕ) (m : Message) where
  pub long-next : length xs ≡ content_limit → (step (record { place = inside xs; message = m }) 0).next.place ≡ too_long xs
  unfolding step in_place adds
  long-next h = rw (le-ltb (length xs) 1024 (omega (arith, h)))

  pub not-long : length xs < content_limit → (step (record { place = inside xs; message = m }) 0).next.place ≡ inside (xs ++ 0 ∷ [])
  unfolding step in_place adds
  not-long h = rw (lt-ltb (length xs) 1024 h)

  pub long-number : (step (record { place = too_long xs; message = m }) EOF).said.number ≡ 13
  unfolding step in_place faulted
  long-number = refl

-- 24 BIG: "over 16,384"
module _ (xs p : List ℕ) where
  pub big-number : (last : Bool) → message_limit < length xs + length p → (pieces false last p (part xs)).said.number ≡ 24
  unfolding pieces
  big-number last h = rw (lt-leb (length xs + length p) 16384 h)

  pub not-big : length xs + length p ≤ message_limit → (pieces false true p (part xs)).said.message ≡ xs ++ p
  unfolding pieces
  not-big h = rw (le-leb (length xs + length p) 16384 h)
