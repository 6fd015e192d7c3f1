-- How long frames and messages are at most, and the room that is always enough.
use Rattle.std.specs.Prelude.{Some}
use Prim.Native.Nat.{ℕ, zero, suc, ◌+◌, ◌*◌, ◌≤◌}
use mathlib.Core.Bool.{Bool, true, false}
use mathlib.Core.List.{List, [], ◌∷◌, ◌++◌}
use mathlib.Core.Path.{◌≡◌, ap, ◌∙◌}
use native.Mathlib.Omega.{arith}
use borrow.Author.Tests.{le-leb}
use lib.Bits.{bit_xor}
use lib.Dec.{leb}
use lib.ListN.{length, take, drop, length-append, take-append-drop}
use Rattle.framing_checksum.specs.Checksum.{checksum, octets_of}
use Rattle.base_choices.specs.Choices.{pick}
use Rattle.framing_content.specs.Numbers.{EOF, CE, message_limit}
use Rattle.framing_packets.specs.Written.{escape, escapes, sealed, frame, body_limit, request_body, response_body, packet_body, packet, packets, payload_limit}
use Rattle.framing_packets.specs.Written.{earlier, in_packets, outcome, into, frame_into, message_into, frame_room, message_room}
use Rattle.framing_packets.proofs.Laws.{limited-fits}

-- ---- two bytes for each at most, and six more a frame

escape-two : (b : ℕ) → length (escape b) ≤ 2
unfolding escape
escape-two b = go (leb 0xf8 b)
  where
    go : (u : Bool) → length (pick u (CE ∷ bit_xor b 0x20 ∷ []) (b ∷ [])) ≤ 2
    go true = omega arith
    go false = omega arith

escapes-double : (xs : List ℕ) → length (escapes xs) ≤ 2 * length xs
unfolding escapes
escapes-double [] = omega arith
escapes-double (x ∷ xs) = omega (arith, length-append (escape x) (escapes xs), escape-two x, escapes-double xs)

pub frame-length : (xs : List ℕ) → length (frame xs) ≤ 6 + 2 * length xs
unfolding frame
frame-length xs =
    let a = escapes-double (sealed xs) in
    let b = length-append xs (octets_of (checksum xs)) in
    let c = length-append (escapes (sealed xs)) (EOF ∷ []) in
    omega (arith, a, b, c)

pub packet-length : (first last : Bool) (p : List ℕ) → length (packet first last p) ≤ 24 + 2 * length p
unfolding packet
packet-length first last p = omega (arith, frame-length (packet_body first last p))

pub packets-length : (n : ℕ) (first : Bool) (m : List ℕ) → length (packets n first m) ≤ 24 * suc n + 2 * length m
unfolding packets
packets-length zero first m = packet-length first true m
packets-length (suc n) first m =
    let t = take payload_limit m in
    let d = drop payload_limit m in
    let a = packet-length first false t in
    let b = packets-length n false d in
    let c = length-append (packet first false t) (packets n false d) in
    let e = length-append t d in
    let g = ap length (take-append-drop payload_limit m) in
    omega (arith, a, b, c, e, g)

pub message-length : (m : List ℕ) → length m ≤ message_limit → length (in_packets m) ≤ message_room
message-length m h =
    let a = packets-length (earlier (length m)) true m in
    let b : earlier (length m) ≤ 16 = omega arith in
    omega (arith, a, b, h)

-- ---- room that is always enough: the writer is done, and never answers 46

pub into-fits : (bs o : List ℕ) → length bs ≤ length o → into bs o ≡ outcome (Some (length bs)) (bs ++ drop (length bs) o)
unfolding into
into-fits bs o h = simp (le-leb _ _ h)

-- content of at most 1,022 bytes, in 2,050 bytes of output
pub frame-fits : (xs o : List ℕ) → length xs ≤ body_limit → frame_room ≤ length o
    → frame_into xs o ≡ outcome (Some (length (frame xs))) (frame xs ++ drop (length (frame xs)) o)
frame-fits xs o h r = limited-fits _ _ _ _ h ∙ into-fits (frame xs) o (omega (arith, frame-length xs))

-- a message of at most 16,384 bytes, in 34,850 bytes of output
pub message-fits : (m o : List ℕ) → length m ≤ message_limit → message_room ≤ length o
    → message_into m o ≡ outcome (Some (length (in_packets m))) (in_packets m ++ drop (length (in_packets m)) o)
message-fits m o h r = limited-fits _ _ _ _ h ∙ into-fits (in_packets m) o (omega (arith, message-length m h))

-- a keep-alive, in 14 bytes
pub request-fits : (o : List ℕ) → 14 ≤ length o
    → into (frame request_body) o ≡ outcome (Some (length (frame request_body))) (frame request_body ++ drop (length (frame request_body)) o)
request-fits o r = into-fits (frame request_body) o (omega (arith, frame-length request_body))

pub response-fits : (o : List ℕ) → 14 ≤ length o
    → into (frame response_body) o ≡ outcome (Some (length (frame response_body))) (frame response_body ++ drop (length (frame response_body)) o)
response-fits o r = into-fits (frame response_body) o (omega (arith, frame-length response_body))
