-- Document 01, "Samples": "P marks cases to be proved"; "P1 to P12 form one table, proved by one statement" (`samples`, proofs/Samples.antt).
use Rattle.std.specs.Prelude.{ℕ, ◌≡◌, List, [], ◌∷◌, map, ℤ, pos, negsuc, length, Some}
use Rattle.ber_integers.specs.Integer.{integer, shortest}
use Rattle.framing_session.specs.Rules.{Happening, begin, happens}
use Rattle.framing_packets.specs.Written.{frame}
use Rattle.glow_reader.specs.declared.Answer.TheVariants.{Read}
use Rattle.glow_reader.specs.Message.{read_result, read_at}
use Rattle.glow_rows.specs.Cell.{cell}
use Rattle.glow_rows.specs.Entry.{Entry, Entries, blank, with_cell, overlay}

pub data Sample : Type 0 where
  -- an integer, and its content octets
  content : ℤ → List ℕ → Sample
  -- data, and its frame
  framed : List ℕ → List ℕ → Sample
  -- a stream, and the numbers of its events
  gives : List ℕ → List ℕ → Sample
  -- a message, and its entries
  tree : List ℕ → Entries → Sample

abbrev number_of : Happening → ℕ
number_of h = h.said.number

-- What a sample says, in the words of the functions' contracts. An integer is written so and read from it; a stream gives these events and no other, by the
-- rules that the claim ties to the session (`every-cut`); a message is read into a table of two rows, whatever they hold, as these entries, and a row past
-- them is as it was.
abbrev pub Holds : Sample → Type 0
Holds (content z bs) = (shortest z ≡ bs) × (integer bs ≡ Some z)
Holds (framed xs bs) = frame xs ≡ bs
Holds (gives bs ns) = map number_of (happens begin 0 bs) ≡ ns
Holds (tree m es) = (r q : List ℕ) → read_at m (r ∷ q ∷ []) ≡ read_result (Read 0 (length es)) (overlay es (r ∷ q ∷ []))

abbrev pub All : List Sample → Type 0
All [] = Unit {0}
All (p ∷ ps) = Holds p × All ps

-- a command (kind 2) in Root: its number, an integer (universal 2), is its first member
abbrev pub command : ℕ → Entry
command n = with_cell (blank 2 0) 0 (cell 2 n 0)

abbrev pub p1-to-p12 : List Sample
p1-to-p12 =
    -- P1 to P7: "1 is 01; -1 is FF; 127 is 7F; 128 is 00 80; 255 is 00 FF; -128 is 80; -32768 is 80 00"
    content (pos 1) (0x01 ∷ [])
    ∷ content (negsuc 0) (0xFF ∷ [])
    ∷ content (pos 127) (0x7F ∷ [])
    ∷ content (pos 128) (0x00 ∷ 0x80 ∷ [])
    ∷ content (pos 255) (0x00 ∷ 0xFF ∷ [])
    ∷ content (negsuc 127) (0x80 ∷ [])
    ∷ content (negsuc 32767) (0x80 ∷ 0x00 ∷ [])
    -- P8: "data FF 00 F9 01 frames as FE FD DF 00 FD D9 01 95 83 FF"
    ∷ framed (0xFF ∷ 0x00 ∷ 0xF9 ∷ 0x01 ∷ []) (0xFE ∷ 0xFD ∷ 0xDF ∷ 0x00 ∷ 0xFD ∷ 0xD9 ∷ 0x01 ∷ 0x95 ∷ 0x83 ∷ 0xFF ∷ [])
    -- P9: "FE 00 0E 01 01 94 E4 FF gives 4"
    ∷ gives (0xFE ∷ 0x00 ∷ 0x0E ∷ 0x01 ∷ 0x01 ∷ 0x94 ∷ 0xE4 ∷ 0xFF ∷ []) (4 ∷ [])
    -- P10: "with E5 for E4 it gives 16"
    ∷ gives (0xFE ∷ 0x00 ∷ 0x0E ∷ 0x01 ∷ 0x01 ∷ 0x94 ∷ 0xE5 ∷ 0xFF ∷ []) (16 ∷ [])
    -- P11: "FE FE FF gives only 15"
    ∷ gives (0xFE ∷ 0xFE ∷ 0xFF ∷ []) (15 ∷ [])
    -- P12: "60 0B 6B 09 A0 07 62 05 A0 03 02 01 20 is one command, 32"
    ∷ tree (0x60 ∷ 0x0B ∷ 0x6B ∷ 0x09 ∷ 0xA0 ∷ 0x07 ∷ 0x62 ∷ 0x05 ∷ 0xA0 ∷ 0x03 ∷ 0x02 ∷ 0x01 ∷ 0x20 ∷ []) (command 32 ∷ [])
    ∷ []
