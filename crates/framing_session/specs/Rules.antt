-- The rules of the stream, byte by byte (document 01, "Framing"). They know no chunk, no session and no store. A name stands before its use: pieces and
-- messages, then frames, then the stream.
use Rattle.std.specs.Prelude.{ℕ, ◌+◌, Bool, true, false, List, [], ◌∷◌, ◌++◌, leb, ltb, eqb, length, Result, Ok, Err}
use Rattle.std.specs.Int.Bits.{bit_xor}
use Rattle.framing_content.specs.declared.Fault.{Fault}
use Rattle.framing_content.specs.declared.Fault.TheVariants.{Stray, Cut, Byte, Long, Escape, Orphan, Big}
use Rattle.framing_content.specs.declared.Content.{Content}
use Rattle.framing_content.specs.declared.Content.TheVariants.{Request, Response, Piece}
use Rattle.framing_content.specs.Content.{content_of, payload}
use Rattle.base_choices.specs.Choices.{pick}
use Rattle.framing_content.specs.Numbers.{BOF, EOF, CE, content_limit, message_limit, number}

-- Where the stream stands. In a frame: its content so far, and whether CE came last or what its first fault was.
pub data Place : Type 0 where
  outside : Place
  stray : Place
  inside : List ℕ → Place
  escaped : List ℕ → Place
  bad_byte : List ℕ → Place
  too_long : List ℕ → Place

-- The unfinished message.
pub data Message : Type 0 where
  none : Message
  part : List ℕ → Message

pub record State : Type 0 where
  pub place : Place
  pub message : Message

-- What an event says: its number, whether an unfinished message was thrown away, and for 3 the message's bytes.
pub record Said : Type 0 where
  pub number : ℕ
  pub discarded : Bool
  pub message : List ℕ

pub record Step : Type 0 where
  pub next : State
  pub said : Said

-- "They start outside frames, no message open".
abbrev pub begin : State
begin = record { place = outside; message = none }

abbrev pub is_open : Message → Bool
is_open none = false
is_open (part xs) = true

-- 0: "done, or more bytes needed"
abbrev pub quiet : Said
quiet = record { number = 0; discarded = false; message = [] }

abbrev pub makes : Place → Message → ℕ → Bool → List ℕ → Step
makes p m n d ys = record { next = record { place = p; message = m }; said = record { number = n; discarded = d; message = ys } }

-- no event
abbrev pub goes : Place → Message → Step
goes p m = makes p m 0 false []

-- "Events 10 to 24 throw away the unfinished message; each event says whether one was."
abbrev pub refuses : Fault → Place → Message → Step
refuses f p m = makes p none (number f) (is_open m) []

-- a content byte: 13 LONG for the one past the limit
unfoldable pub adds : List ℕ → ℕ → Message → Step
adds xs x m = pick (ltb (length xs) content_limit) (goes (inside (xs ++ x ∷ [])) m) (goes (too_long xs) m)

-- A message that ys continue or finish: "the one marked last finishes it".
abbrev pub joins : Bool → Bool → List ℕ → Step
joins false d ys = makes outside (part ys) 2 d []
joins true d ys = makes outside none 3 d ys

-- "A piece marked first opens a message and throws away an unfinished one. Later pieces add to it".
-- 23 ORPHAN: "no open message"; 24 BIG: "over 16,384".
unfoldable pub pieces : Bool → Bool → List ℕ → Message → Step
pieces true last p m = joins last (is_open m) p
pieces false last p none = refuses Orphan outside none
pieces false last p (part xs) =
    pick (leb (length xs + length p) message_limit) (joins last false (xs ++ p)) (refuses Big outside (part xs))

-- "A keep-alive disturbs nothing."
abbrev pub reads : Result Content Fault → List ℕ → Message → Step
reads (Err f) p m = refuses f outside m
reads (Ok Request) p m = makes outside m 4 false []
reads (Ok Response) p m = makes outside m 5 false []
reads (Ok (Piece first last)) p m = pieces first last p m

-- EOF ends a frame that has no fault: what its content is decides.
unfoldable pub ends : List ℕ → Message → Step
ends xs m = reads (content_of xs) (payload xs) m

-- "The first fault counts; later bytes of that frame are neither counted nor stored. A frame has one event, made at the EOF or BOF that ends it."
-- "The ending BOF opens the next frame."
unfoldable pub faulted : Fault → Place → Message → ℕ → Step
faulted f p m b = pick (eqb b BOF) (refuses f (inside []) m) (pick (eqb b EOF) (refuses f outside m) (goes p m))

-- "One ended by BOF without an earlier fault is CUT, or has no event if that BOF directly follows the opening one."
unfoldable pub cuts : List ℕ → Message → Step
cuts xs m = pick (eqb (length xs) 0) (goes (inside []) m) (refuses Cut (inside []) m)

unfoldable pub in_place : Place → Message → ℕ → Step
-- "Bytes outside frames give one STRAY event at the first byte of each run, EOF included."
in_place outside m b = pick (eqb b BOF) (goes (inside []) m) (refuses Stray stray m)
in_place stray m b = pick (eqb b BOF) (goes (inside []) m) (goes stray m)
-- "A frame opens at BOF and ends at the next EOF or BOF. .. Inside it, F8 to FC unescaped .. is a fault (house)."
in_place (inside xs) m b =
    pick (eqb b BOF) (cuts xs m)
    (pick (eqb b EOF) (ends xs m)
    (pick (eqb b CE) (goes (escaped xs) m)
    (pick (leb 0xf8 b) (goes (bad_byte xs) m)
    (adds xs b m))))
-- ".. or a byte after CE other than D8 to DF, BOF or EOF, is a fault (house)." 14 ESCAPE: "EOF after CE".
-- "sent as CE and the byte XOR 20"
in_place (escaped xs) m b =
    pick (eqb b BOF) (refuses Cut (inside []) m)
    (pick (eqb b EOF) (refuses Escape outside m)
    (pick (ltb b 0xd8) (goes (bad_byte xs) m)
    (pick (ltb 0xdf b) (goes (bad_byte xs) m)
    (adds xs (bit_xor b 0x20) m))))
in_place (bad_byte xs) m b = faulted Byte (bad_byte xs) m b
in_place (too_long xs) m b = faulted Long (too_long xs) m b

-- What a byte does.
unfoldable pub step : State → ℕ → Step
step s b = in_place s.place s.message b

-- An event of the stream: how many bytes had come, its own byte included, and what it says.
pub record Happening : Type 0 where
  pub offset : ℕ
  pub said : Said

-- the happening of a byte, if it makes an event, before the later ones
abbrev pub noted : Said → ℕ → List Happening → List Happening
noted e n hs = pick (eqb e.number 0) hs (record { offset = n; said = e } ∷ hs)

-- All that happens over the bytes, n bytes having come before them.
unfoldable pub happens : State → ℕ → List ℕ → List Happening
happens s n [] = []
happens s n (b ∷ bs) = let o = step s b in noted o.said (n + 1) (happens o.next (n + 1) bs)

-- The state after the bytes.
unfoldable pub after : State → List ℕ → State
after s [] = s
after s (b ∷ bs) = after (step s b).next bs
