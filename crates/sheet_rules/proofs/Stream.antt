-- Lines of either case are read as their frames, those of a message as its packets, and these by the rules as exactly that message.
use Prim.Native.Nat.{ℕ, zero, suc, ◌+◌, ◌-◌, ◌*◌, ◌/◌, ◌%◌, ◌≤◌, ◌<◌}
use mathlib.Core.Path.{◌≡◌, refl, sym, ap, subst, ◌∙◌}
use mathlib.Core.List.{List, [], ◌∷◌, ◌++◌, append_assoc, append-nil}
use mathlib.Core.Bool.{Bool, true, false}
use mathlib.Core.Logic.{⊎_elim}
use native.Mathlib.Omega.{arith}
use borrow.Author.Tests.{ne_eqb}
use lib.ListN.{length, take, drop}
use lib.Bits.{bit_xor, xor_block, xor_zero_r}
use lib.Dec.{eqb}
use Rattle.base_choices.specs.Choices.{pick}
use Rattle.base_hex.specs.Digits.{digit_of, glyph_of, hex_text}
use Rattle.base_hex.proofs.Laws.{glyph-read}
use Rattle.ber_integers.proofs.Radix.{lt-or-le}
use Rattle.framing_content.specs.Numbers.{message_limit}
use Rattle.framing_checksum.specs.Checksum.{checksum, octets_of}
use Rattle.framing.specs.Offers.{joined}
use Rattle.framing_session.specs.Rules.{none, State, begin, after, Happening}
use Rattle.framing_packets.specs.Written.{escape, escapes, sealed, frame, flags, header, packet_body, packet, packets}
use Rattle.framing_packets.specs.Written.{payload_limit, earlier, in_packets}
use Rattle.framing_packets.proofs.Laws.{escape-plain, escape-high}
use Rattle.framing_packets.specs.Read.{Bytes, packet_events, message_events}
use Rattle.framing_packets.proofs.Reading.{opens-outside}
use Rattle.framing_packets.proofs.Back.{message-back}
use Rattle.sheet_rules.specs.Sheet.{line_of, packet_lines, message_lines}
use Rattle.sheet_rules.specs.Lines.{Stream, bad, stream, push, fresh, pairs, half, lines_from, lines_in}
use Rattle.sheet_rules.specs.KeepAlives.{Digits, nothing, pair, Lines, over, line, last, packet_frames}
use Rattle.sheet_rules.specs.Reading.{finished, something_open, first_fault, of_message, of_events, held_in, of_held}

-- ---- lines as bytes

abbrev pushes : List ℕ → Stream → Stream
pushes [] x = x
pushes (b ∷ bs) x = push b (pushes bs x)

pushes-stream : (bs cs : List ℕ) → pushes bs (stream cs) ≡ stream (bs ++ cs)
pushes-stream [] cs = refl
pushes-stream (b ∷ bs) cs = ap (push b) (pushes-stream bs cs)

-- ---- lines of either case

module _ (high low : ℕ) (h : digit_of high < 16) (l : digit_of low < 16) (rest : List ℕ) where
  abbrev said : ℕ
  said = digit_of high * 16 + digit_of low

  half-read : lines_from (half (digit_of high)) (low ∷ rest) ≡ push said (lines_from pairs rest)
  unfolding lines_from
  half-read = rw (ne_eqb (digit_of low) 16 (λ q. omega arith)) refl

  digit-read : pick (eqb (digit_of high) 16) bad (lines_from (half (digit_of high)) (low ∷ rest)) ≡ push said (lines_from pairs rest)
  digit-read = rw (ne_eqb (digit_of high) 16 (λ q. omega arith)) half-read

  fresh-read : lines_from fresh (high ∷ low ∷ rest) ≡ push said (lines_from pairs rest)
  unfolding lines_from
  fresh-read = digit-read

  -- 0A is no digit
  no_line : high ≡ 10 → ⊥
  unfolding digit_of
  no_line q = let e : digit_of high ≡ 16 = ap digit_of q in omega arith

  pairs-read : lines_from pairs (high ∷ low ∷ rest) ≡ push said (lines_from pairs rest)
  unfolding lines_from
  pairs-read = rw (ne_eqb high 10 no_line) digit-read

digits-read : {bs text : List ℕ} → Digits bs text → (rest : List ℕ) → lines_from pairs (text ++ rest) ≡ pushes bs (lines_from pairs rest)
digits-read nothing rest = refl
digits-read (pair {b} {bs} {text} high low h l e d) rest =
    pairs-read high low h l (text ++ rest) ∙ ap (λ (n : ℕ). push n (lines_from pairs (text ++ rest))) e ∙ ap (push b) (digits-read d rest)

-- a line that holds something
abbrev pub Some : List ℕ → Type 0
Some [] = ⊥
Some (b ∷ bs) = Unit {0}

line-digits : {f digits : List ℕ} → Some f → Digits f digits → (rest : List ℕ) → lines_from fresh (digits ++ rest) ≡ pushes f (lines_from pairs rest)
line-digits s nothing rest = absurd s
line-digits s (pair {b} {bs} {text} high low h l e d) rest =
    fresh-read high low h l (text ++ rest) ∙ ap (λ (n : ℕ). push n (lines_from pairs (text ++ rest))) e ∙ ap (push b) (digits-read d rest)

abbrev pub AllSome : List (List ℕ) → Type 0
AllSome [] = Unit {0}
AllSome (f ∷ fs) = Some f × AllSome fs

pub lines-read : {fs : List (List ℕ)} {text : List ℕ} → AllSome fs → Lines fs text → lines_in text ≡ stream (joined fs)
unfolding lines_from
lines-read s over = refl
lines-read s (line {f} {fs} {digits} {text} d l) =
    line-digits s.0 d (10 ∷ text) ∙ ap (pushes f) (lines-read s.1 l) ∙ pushes-stream f (joined fs)
lines-read s (last {f} {digits} d) =
    ap (lines_from fresh) (sym (append-nil digits)) ∙ line-digits s.0 d [] ∙ pushes-stream f []

-- ---- packets are bytes

pub bytes-append : (xs ys : List ℕ) → Bytes xs → Bytes ys → Bytes (xs ++ ys)
bytes-append [] ys h k = k
bytes-append (x ∷ xs) ys h k = (h.0, bytes-append xs ys h.1 k)

pub bytes_take : (n : ℕ) (xs : List ℕ) → Bytes xs → Bytes (take n xs)
bytes_take zero xs h = tt
bytes_take (suc n) [] h = tt
bytes_take (suc n) (x ∷ xs) h = (h.0, bytes_take n xs h.1)

pub bytes_drop : (n : ℕ) (xs : List ℕ) → Bytes xs → Bytes (drop n xs)
bytes_drop zero xs h = h
bytes_drop (suc n) [] h = tt
bytes_drop (suc n) (x ∷ xs) h = bytes_drop n xs h.1

escape-bytes : (b : ℕ) → b < 256 → Bytes (escape b)
escape-bytes b h =
    ⊎_elim (λ (k : b < 0xf8). subst Bytes (sym (escape-plain b k)) (h, tt))
    (λ (k : 0xf8 ≤ b).
    let e : b ≡ 0xf8 + (b - 0xf8) = omega arith in
    let d : bit_xor b 0x20 ≡ 0xd8 + (b - 0xf8) =
    ap (λ (x : ℕ). bit_xor x 0x20) e ∙ xor_block 3 31 4 (b - 0xf8) 0 (omega arith) (omega arith)
    ∙ ap (λ (x : ℕ). 0xd8 + x) (xor_zero_r (b - 0xf8)) in
    subst Bytes (sym (escape-high b k)) (omega arith, (omega arith, tt)))
    (lt-or-le b 0xf8)

escapes-bytes : (xs : List ℕ) → Bytes xs → Bytes (escapes xs)
unfolding escapes
escapes-bytes [] h = tt
escapes-bytes (x ∷ xs) h = bytes-append (escape x) (escapes xs) (escape-bytes x h.0) (escapes-bytes xs h.1)

pub checksum-small : (xs : List ℕ) → checksum xs ≤ 0xffff
unfolding checksum
checksum-small xs = omega arith

frame-tail : (xs : List ℕ) → Bytes xs → Bytes (escapes (sealed xs) ++ 255 ∷ [])
frame-tail xs h =
    let c = checksum-small xs in
    bytes-append (escapes (sealed xs)) (255 ∷ [])
    (escapes-bytes (sealed xs) (bytes-append xs (octets_of (checksum xs)) h (omega arith, (omega arith, tt)))) (omega arith, tt)

pub frame-bytes : (xs : List ℕ) → Bytes xs → Bytes (frame xs)
unfolding frame
frame-bytes xs h = (omega arith, frame-tail xs h)

pub flags-small : (a b e : Bool) → pick a 0x80 0 + pick b 0x40 0 + pick e 0x20 0 < 256
flags-small true true true = omega arith
flags-small true true false = omega arith
flags-small true false true = omega arith
flags-small true false false = omega arith
flags-small false true true = omega arith
flags-small false true false = omega arith
flags-small false false true = omega arith
flags-small false false false = omega arith

-- ---- the lines that the writer writes

hex-digits : (bs : List ℕ) → Bytes bs → Digits bs (hex_text bs)
unfolding hex_text
hex-digits [] h = nothing
hex-digits (b ∷ bs) h =
    let x = h.0 in
    let hi = glyph-read (b / 16) (omega arith) in
    let lo = glyph-read (b % 16) (omega arith) in
    let e : digit_of (glyph_of (b / 16)) * 16 + digit_of (glyph_of (b % 16)) ≡ b = omega arith in
    pair (glyph_of (b / 16)) (glyph_of (b % 16)) (omega arith) (omega arith) e (hex-digits bs h.1)

pub line-of : {f : List ℕ} {fs : List (List ℕ)} {text : List ℕ} → Bytes f → Lines fs text → Lines (f ∷ fs) (line_of f ++ text)
line-of {f} {fs} {text} h l = subst (Lines (f ∷ fs)) (sym (append_assoc (hex_text f) (10 ∷ []) text)) (line (hex-digits f h) l)

packet-bytes : (first last' : Bool) (p : List ℕ) → Bytes p → Bytes (packet first last' p)
unfolding packet
packet-bytes first last' p h =
    let f = flags-small first last' (eqb (length p) 0) in
    let b : Bytes (header (flags first last' (length p))) = omega arith in
    frame-bytes (packet_body first last' p) (bytes-append (header (flags first last' (length p))) p b h)

pub packets-lines : (k : ℕ) (first : Bool) (m : List ℕ) → Bytes m → Lines (packet_frames k first m) (packet_lines k first m)
unfolding packet_frames packet_lines
packets-lines zero first m h =
    let p = packet first true m in
    subst (Lines (p ∷ [])) (append-nil (line_of p)) (line-of (packet-bytes first true m h) over)
packets-lines (suc k) first m h =
    line-of (packet-bytes first false (take payload_limit m) (bytes_take payload_limit m h))
    (packets-lines k false (drop payload_limit m) (bytes_drop payload_limit m h))

packets-some : (k : ℕ) (first : Bool) (m : List ℕ) → AllSome (packet_frames k first m)
unfolding packet_frames packet frame
packets-some zero first m = (tt, tt)
packets-some (suc k) first m = (tt, packets-some k false (drop payload_limit m))

packets-joined : (k : ℕ) (first : Bool) (m : List ℕ) → joined (packet_frames k first m) ≡ packets k first m
unfolding packet_frames packets
packets-joined zero first m = append-nil (packet first true m)
packets-joined (suc k) first m =
    ap (λ (l : List ℕ). packet first false (take payload_limit m) ++ l) (packets-joined k false (drop payload_limit m))

packets-read : (k : ℕ) (first : Bool) (m : List ℕ) → Bytes m → lines_in (packet_lines k first m) ≡ stream (packets k first m)
packets-read k first m h = lines-read (packets-some k first m) (packets-lines k first m h) ∙ ap stream (packets-joined k first m)

-- ---- the events of a message: no fault, and that message alone

events-right : (k : ℕ) (first d : Bool) (m w : List ℕ) (n : ℕ) → first_fault (packet_events k first d m w n) ≡ 0
unfolding packet_events first_fault
events-right zero first d m w n = refl
events-right (suc k) first d m w n = events-right k false false (drop payload_limit m) w _

events-one : (k : ℕ) (first d : Bool) (m w : List ℕ) (n : ℕ) → finished (packet_events k first d m w n) ≡ w ∷ []
unfolding packet_events finished
events-one zero first d m w n = refl
events-one (suc k) first d m w n = events-one k false false (drop payload_limit m) w _

-- The sheet of a message is read as the message.
pub message-read : (m : List ℕ) → Bytes m → length m ≤ message_limit → of_held (held_in (lines_in (message_lines m))) ≡ of_message m
unfolding of_events something_open
message-read m h l =
    let g = message-back m h l begin (opens-outside none) 0 in
    let a = events-right (earlier (length m)) true false m m 0 in
    let b = events-one (earlier (length m)) true false m m 0 in
    ap (λ (x : Stream). of_held (held_in x)) (packets-read (earlier (length m)) true m h)
    ∙ ap (λ (hs : List Happening). of_held (of_events hs (after begin (in_packets m)))) g.events
    ∙ ap (λ (s : State). of_held (of_events (message_events false m 0) s)) g.state
    ∙ rw (a, b) refl
