-- Frames, one after another, have one EOF each, their last byte: so a line break after each EOF makes a line of each frame.
use Prim.Native.Nat.{ℕ, zero, suc, ◌+◌, ◌-◌, ◌≤◌, ◌<◌}
use mathlib.Core.Path.{◌≡◌, refl, sym, ap, subst, ◌∙◌}
use mathlib.Core.List.{List, [], ◌∷◌, ◌++◌, append_assoc, append-nil}
use mathlib.Core.Bool.{Bool, true, false}
use mathlib.Core.Logic.{⊎_elim}
use native.Mathlib.Omega.{arith}
use borrow.Author.Tests.{ne_eqb}
use lib.Bits.{bit_xor, xor_block, xor_zero_r}
use lib.ListN.{length, take, drop}
use lib.Dec.{eqb}
use Rattle.base_hex.specs.Digits.{hex_text}
use Rattle.ber_integers.proofs.Radix.{lt-or-le}
use Rattle.framing_checksum.specs.Checksum.{checksum, octets_of}
use Rattle.framing_packets.specs.Written.{escape, escapes, sealed, frame, flags, header, packet_body, packet, packets, payload_limit, earlier, in_packets}
use Rattle.framing_packets.specs.Read.{Bytes}
use Rattle.framing_packets.proofs.Laws.{escape-plain, escape-high}
use Rattle.sheet_rules.specs.Sheet.{broken, breaks, line_of, packet_lines, message_lines}
use Rattle.sheet_rules.proofs.Stream.{bytes-append, bytes_take, bytes_drop, checksum-small, flags-small}

-- bytes below EOF
abbrev Inner : List ℕ → Type 0
Inner [] = Unit {0}
Inner (x ∷ xs) = (x < 255) × Inner xs

inner-append : (xs ys : List ℕ) → Inner xs → Inner ys → Inner (xs ++ ys)
inner-append [] ys h k = k
inner-append (x ∷ xs) ys h k = (h.0, inner-append xs ys h.1 k)

escape-inner : (b : ℕ) → b < 256 → Inner (escape b)
escape-inner b h =
    ⊎_elim (λ (k : b < 0xf8). subst Inner (sym (escape-plain b k)) (omega arith, tt))
    (λ (k : 0xf8 ≤ b).
    let e : b ≡ 0xf8 + (b - 0xf8) = omega arith in
    let d : bit_xor b 0x20 ≡ 0xd8 + (b - 0xf8) =
    ap (λ (x : ℕ). bit_xor x 0x20) e ∙ xor_block 3 31 4 (b - 0xf8) 0 (omega arith) (omega arith)
    ∙ ap (λ (x : ℕ). 0xd8 + x) (xor_zero_r (b - 0xf8)) in
    subst Inner (sym (escape-high b k)) (omega arith, (omega arith, tt)))
    (lt-or-le b 0xf8)

escapes-inner : (xs : List ℕ) → Bytes xs → Inner (escapes xs)
unfolding escapes
escapes-inner [] h = tt
escapes-inner (x ∷ xs) h = inner-append (escape x) (escapes xs) (escape-inner x h.0) (escapes-inner xs h.1)

-- bytes below EOF, then EOF, are a line
line-break : (xs rest : List ℕ) → Inner xs → breaks (xs ++ (255 ∷ rest)) ≡ hex_text (xs ++ (255 ∷ [])) ++ (10 ∷ breaks rest)
unfolding breaks broken hex_text
line-break [] rest h = refl
line-break (x ∷ xs) rest h = rw (ne_eqb x 255 (λ q. omega (arith, h.0, q)), line-break xs rest h.1) refl

frame-break : (xs : List ℕ) → Bytes xs → (rest : List ℕ) → breaks (frame xs ++ rest) ≡ line_of (frame xs) ++ breaks rest
unfolding frame
frame-break xs h rest =
    let c = checksum-small xs in
    let s = escapes (sealed xs) in
    let i = escapes-inner (sealed xs) (bytes-append xs (octets_of (checksum xs)) h (omega arith, (omega arith, tt))) in
    ap (λ (ys : List ℕ). breaks (254 ∷ ys)) (append_assoc s (255 ∷ []) rest)
    ∙ line-break (254 ∷ s) rest (omega arith, i)
    ∙ sym (append_assoc (hex_text (254 ∷ (s ++ (255 ∷ [])))) (10 ∷ []) (breaks rest))

packet-break : (first last : Bool) (p : List ℕ) → Bytes p → (rest : List ℕ) → breaks (packet first last p ++ rest) ≡ line_of (packet first last p) ++ breaks rest
unfolding packet
packet-break first last p h rest =
    let f = flags-small first last (eqb (length p) 0) in
    let b : Bytes (header (flags first last (length p))) = omega arith in
    frame-break (packet_body first last p) (bytes-append (header (flags first last (length p))) p b h) rest

packets-break : (k : ℕ) (first : Bool) (m : List ℕ) → Bytes m → breaks (packets k first m) ≡ packet_lines k first m
unfolding packet_lines packets breaks
packets-break zero first m h =
    ap breaks (sym (append-nil (packet first true m))) ∙ packet-break first true m h [] ∙ append-nil (line_of (packet first true m))
packets-break (suc k) first m h =
    packet-break first false (take payload_limit m) (bytes_take payload_limit m h) (packets k false (drop payload_limit m))
    ∙ ap (λ (ys : List ℕ). line_of (packet first false (take payload_limit m)) ++ ys) (packets-break k false (drop payload_limit m) (bytes_drop payload_limit m h))

-- A message's packets are written as its lines.
pub message-break : (m : List ℕ) → Bytes m → breaks (in_packets m) ≡ message_lines m
message-break m h = packets-break (earlier (length m)) true m h
