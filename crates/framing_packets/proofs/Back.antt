-- What is written is read back, by the rules of framing: a frame, the keep-alives, a message.
use Prim.Native.Nat.{ℕ, zero, suc, ◌+◌, ◌-◌, ◌*◌, ◌/◌, ◌%◌, ◌≤◌, ◌<◌}
use mathlib.Core.Bool.{Bool, true, false}
use mathlib.Core.List.{List, [], ◌∷◌, ◌++◌, append_assoc}
use mathlib.Core.Path.{◌≡◌, refl, sym, ap, subst, ◌∙◌}
use native.Mathlib.Omega.{arith}
use borrow.Author.Tests.{lt-ltb, le-ltb, le-leb, eq-eqb, ne_eqb}
use lib.Dec.{leb, eqb}
use lib.ListN.{length, get_or, take, drop, length-append, length-take, length-drop, take-append-drop}
use lib.Seq.{take_at, get_or_at, get_or-append-add}
use Rattle.framing_content.specs.declared.Content.{Content}
use Rattle.framing_content.specs.declared.Content.TheVariants.{Request, Response, Piece}
use Rattle.std.specs.Prelude.{Result, Ok, Err}
use Rattle.framing_content.specs.declared.Fault.{Fault}
use Rattle.framing_content.specs.declared.Fault.TheVariants.{Short, Big}
use Rattle.framing_session.proofs.Laws.{number-not-zero}
use Rattle.framing_checksum.specs.Checksum.{checksum, octets_of}
use Rattle.framing_content.specs.Content.{is_first, is_last, empty_bit, packet_of, command_of, body_of, body, crc_of, content_of, payload}
use Rattle.base_choices.specs.Choices.{pick}
use Rattle.framing_content.specs.Numbers.{BOF, EOF, message_limit}
use Rattle.framing_session.specs.Rules.{outside, inside, Message, none, part, State, Step, begin, is_open, refuses, joins, pieces, reads, ends}
use Rattle.framing_packets.specs.Written.{escapes, sealed, frame, body_limit, request_body, response_body, flags, header, packet_body, packet}
use Rattle.framing_packets.specs.Written.{packets, payload_limit, earlier, in_packets}
use Rattle.framing_packets.specs.Read.{Bytes, Opens, Gives, happening, packet_events, message_events}
use Rattle.framing_packets.proofs.Reading.{state, gives_then, gives-quiet, gives-event, opens_at, opens-outside, step_end, escapes-back}

-- ---- bytes

bytes-append : (xs ys : List ℕ) → Bytes xs → Bytes ys → Bytes (xs ++ ys)
bytes-append [] ys h k = k
bytes-append (x ∷ xs) ys h k = (h.0, bytes-append xs ys h.1 k)

bytes_take : (n : ℕ) (xs : List ℕ) → Bytes xs → Bytes (take n xs)
bytes_take zero xs h = tt
bytes_take (suc n) [] h = tt
bytes_take (suc n) (x ∷ xs) h = (h.0, bytes_take n xs h.1)

bytes_drop : (n : ℕ) (xs : List ℕ) → Bytes xs → Bytes (drop n xs)
bytes_drop zero xs h = h
bytes_drop (suc n) [] h = tt
bytes_drop (suc n) (x ∷ xs) h = bytes_drop n xs h.1

module _ (xs : List ℕ) where
  checksum-small : checksum xs ≤ 0xffff
  unfolding checksum
  checksum-small = omega arith

  bytes-sealed : Bytes xs → Bytes (sealed xs)
  bytes-sealed h =
      let c = checksum-small in
      bytes-append xs (octets_of (checksum xs)) h (omega arith, (omega arith, tt))

  sealed-length : length (sealed xs) ≡ length xs + 2
  sealed-length = length-append xs (octets_of (checksum xs))

  -- ---- what the content with its CRC is

  sealed-body : body (sealed xs) ≡ xs
  sealed-body = let e = sealed-length in take_at xs (octets_of (checksum xs)) (length (sealed xs) - 2) (omega arith)

  sealed-crc : crc_of (sealed xs) ≡ checksum xs
  sealed-crc =
      let e = sealed-length in
      let l : length (sealed xs) - 2 ≡ length xs = omega arith in
      let h : length (sealed xs) - 1 ≡ length xs + 1 = omega arith in
      let low : get_or (sealed xs) (length (sealed xs) - 2) 0 ≡ checksum xs % 256 = get_or_at xs _ _ 0 _ (sym l) in
      let high : get_or (sealed xs) (length (sealed xs) - 1) 0 ≡ checksum xs / 256 =
      ap (λ (k : ℕ). get_or (sealed xs) k 0) h ∙ get_or-append-add xs (octets_of (checksum xs)) 1 0 in
      omega arith

  -- the checksum is right, so the content is what the body says
  pub content-read : 4 ≤ length xs → content_of (sealed xs) ≡ body_of xs
  unfolding content_of
  content-read h =
      let e = sealed-length in
      let l : 6 ≤ length (sealed xs) = omega arith in
      let b = sealed-body in
      let q : crc_of (sealed xs) ≡ checksum (body (sealed xs)) = sealed-crc ∙ ap checksum (sym b) in
      simp (le-ltb _ _ l, eq-eqb _ _ q) (ap body_of b)

  pub content-short : length xs < 4 → content_of (sealed xs) ≡ Err Short
  unfolding content_of
  content-short h = let e = sealed-length in let l : length (sealed xs) < 6 = omega arith in simp (lt-ltb _ _ l)

-- ---- every frame that EOF ends has an event, and leaves the stream outside frames

abbrev Ended : Step → Type 0
Ended o = (eqb o.said.number 0 ≡ false) × (o.next.place ≡ outside)

refuses-ended : (f : Fault) (m : Message) → Ended (refuses f outside m)
refuses-ended f m = (number-not-zero f, refl)

joins-ended : (last d : Bool) (ys : List ℕ) → Ended (joins last d ys)
joins-ended true d ys = (refl, refl)
joins-ended false d ys = (refl, refl)

pieces-ended : (first last : Bool) (p : List ℕ) (m : Message) → Ended (pieces first last p m)
unfolding pieces
pieces-ended true last p m = joins-ended last (is_open m) p
pieces-ended false last p none = (refl, refl)
pieces-ended false last p (part xs) = either (leb (length xs + length p) message_limit)
  where
    either : (t : Bool) → Ended (pick t (joins last false (xs ++ p)) (refuses Big outside (part xs)))
    either true = joins-ended last false (xs ++ p)
    either false = (refl, refl)

reads-ended : (c : Result Content Fault) (p : List ℕ) (m : Message) → Ended (reads c p m)
reads-ended (Err f) p m = refuses-ended f m
reads-ended (Ok Request) p m = (refl, refl)
reads-ended (Ok Response) p m = (refl, refl)
reads-ended (Ok (Piece first last)) p m = pieces-ended first last p m

module _ (xs : List ℕ) (m : Message) where
  ended : Ended (ends xs m)
  unfolding ends
  ended = reads-ended (content_of xs) (payload xs) m

  -- so that the next frame opens
  pub opens-next : Opens (ends xs m).next
  opens-next = opens_at (ends xs m).next ended.1

-- ---- a frame

module _ (xs : List ℕ) (h : Bytes xs) (l : length xs ≤ body_limit) (s : State) (o : Opens s) (n : ℕ) where
  -- up to its EOF, the content inside the frame is the content that was framed, with its CRC
  pub content-back : Gives s n (BOF ∷ escapes (sealed xs)) [] (state (inside (sealed xs)) s.message)
  content-back =
      let e = sealed-length xs in
      gives_then (BOF ∷ []) (escapes (sealed xs)) (gives-quiet s n BOF o)
      (escapes-back s.message (sealed xs) (bytes-sealed xs h) [] _ (omega arith))

  -- exactly one event, at its last byte: what `content_of` says of its content
  pub frame_back : {t : Step} → ends (sealed xs) s.message ≡ t
      → Gives s n (frame xs) (record { offset = n + length (frame xs); said = t.said } ∷ []) t.next
  unfolding frame
  frame_back {t} q =
      let e : n + length (BOF ∷ escapes (sealed xs)) + 1 ≡ n + length (frame xs) = simp length-append (omega arith) in
      subst (λ (k : ℕ). Gives s n (frame xs) (record { offset = k; said = t.said } ∷ []) t.next) e
      (gives_then (BOF ∷ escapes (sealed xs)) (EOF ∷ []) content-back
      (gives-event _ _ EOF (step_end (sealed xs) s.message ∙ q) (ap (λ (u : Step). eqb u.said.number 0) (sym q) ∙ (ended (sealed xs) s.message).0)))

  -- .. which from four bytes on is what its body says
  pub body_back : {c : Result Content Fault} {t : Step} → 4 ≤ length xs → body_of xs ≡ c → reads c (payload (sealed xs)) s.message ≡ t
      → Gives s n (frame xs) (record { offset = n + length (frame xs); said = t.said } ∷ []) t.next
  unfolding ends
  body_back k e q =
      frame_back (ap (λ (c : Result Content Fault). reads c (payload (sealed xs)) s.message) (content-read xs k ∙ e) ∙ q)

-- ---- the keep-alives

-- 4 and 5; "A keep-alive disturbs nothing."
module _ (s : State) (o : Opens s) (n : ℕ) where
  pub request-back : Gives s n (frame request_body) (happening (n + length (frame request_body)) 4 false [] ∷ []) (state outside s.message)
  unfolding body_of command_of
  request-back = body_back request_body (omega arith) (omega arith) s o n (omega arith) refl refl

  pub response-back : Gives s n (frame response_body) (happening (n + length (frame response_body)) 5 false [] ∷ []) (state outside s.message)
  unfolding body_of command_of
  response-back = body_back response_body (omega arith) (omega arith) s o n (omega arith) refl refl

-- ---- a message

-- what the rules take from the flags of three answers
flags-read : (a b e : Bool) {f : ℕ} → f ≡ pick a 0x80 0 + pick b 0x40 0 + pick e 0x20 0
    → (f < 256) × ((f % 32 ≡ 0) × ((f / 32 % 2 ≡ pick e 1 0) × ((is_first f ≡ a) × (is_last f ≡ b))))
flags-read true true true q = rw q (omega arith, (refl, (refl, (refl, refl))))
flags-read true true false q = rw q (omega arith, (refl, (refl, (refl, refl))))
flags-read true false true q = rw q (omega arith, (refl, (refl, (refl, refl))))
flags-read true false false q = rw q (omega arith, (refl, (refl, (refl, refl))))
flags-read false true true q = rw q (omega arith, (refl, (refl, (refl, refl))))
flags-read false true false q = rw q (omega arith, (refl, (refl, (refl, refl))))
flags-read false false true q = rw q (omega arith, (refl, (refl, (refl, refl))))
flags-read false false false q = rw q (omega arith, (refl, (refl, (refl, refl))))

empty-read : (n k : ℕ) → n ≡ 9 + k → empty_bit n ≡ pick (eqb k 0) 1 0
empty-read n zero e = ap (λ (t : Bool). pick {X = ℕ} t 1 0) (eq-eqb n 9 (omega arith))
empty-read n (suc k) e =
    ap (λ (t : Bool). pick {X = ℕ} t 1 0) (ne_eqb n 9 (λ q. omega arith) ∙ sym (ne_eqb (suc k) 0 (λ q. omega arith)))

module _ (first last : Bool) (p : List ℕ) where
  piece-read : body_of (packet_body first last p) ≡ Ok (Piece first last)
  unfolding body_of command_of packet_of
  piece-read =
      let r = flags-read first last (eqb (length p) 0) {f = flags first last (length p)} refl in
      let e = empty-read (length (packet_body first last p)) (length p) (omega arith) in
      let l : 9 ≤ length (packet_body first last p) = omega arith in
      simp (le-ltb _ _ l, eq-eqb _ _ r.1.0, eq-eqb _ _ (r.1.1.0 ∙ sym e))
      (ap (λ (a : Bool). Ok (Piece a (is_last (flags first last (length p))))) r.1.1.1.0 ∙ ap (λ (b : Bool). Ok (Piece first b)) r.1.1.1.1)

  payload-read : payload (sealed (packet_body first last p)) ≡ p
  payload-read = ap (λ (ys : List ℕ). drop 9 ys) (sealed-body (packet_body first last p))

  -- a packet is read as the piece that it is
  packet-back : Bytes p → length p ≤ payload_limit → (s : State) → Opens s → (n : ℕ) {t : Step} → pieces first last p s.message ≡ t
      → Gives s n (packet first last p) (record { offset = n + length (packet first last p); said = t.said } ∷ []) t.next
  unfolding packet
  packet-back h l s o n q =
      let f = (flags-read first last (eqb (length p) 0) {f = flags first last (length p)} refl).0 in
      let b : Bytes (header (flags first last (length p))) = omega arith in
      body_back (packet_body first last p) (bytes-append (header (flags first last (length p))) p b h) (omega arith) s o n (omega arith) piece-read
      (ap (λ (ys : List ℕ). pieces first last ys s.message) payload-read ∙ q)

-- pieces that add to the bytes xs
adds-to : (xs : List ℕ) (last : Bool) (p : List ℕ) → length xs + length p ≤ message_limit → pieces false last p (part xs) ≡ joins last false (xs ++ p)
unfolding pieces
adds-to xs last p h = simp (le-leb _ _ h)

-- the packets that carry m, read where the bytes xs have come of the message: each piece continues or finishes it
packets-back : (k : ℕ) (first d : Bool) (m xs : List ℕ) → Bytes m → length m ≤ payload_limit * (k + 1) → length xs + length m ≤ message_limit
    → (s : State) → Opens s → ((last : Bool) (p : List ℕ) → length xs + length p ≤ message_limit → pieces first last p s.message ≡ joins last d (xs ++ p))
    → (n : ℕ) → Gives s n (packets k first m) (packet_events k first d m (xs ++ m) n) begin
unfolding packets packet_events
packets-back zero first d m xs h l b s o q n = packet-back first true m h (omega arith) s o n (q true m b)
packets-back (suc k) first d m xs h l b s o q n =
    let t = length-take payload_limit m in
    let r = length-drop payload_limit m in
    let ys = xs ++ take payload_limit m in
    let a = length-append xs (take payload_limit m) in
    let e : ys ++ drop payload_limit m ≡ xs ++ m = append_assoc xs (take payload_limit m) (drop payload_limit m)
    ∙ ap (λ (zs : List ℕ). xs ++ zs) (take-append-drop payload_limit m) in
    gives_then (packet first false (take payload_limit m)) (packets k false (drop payload_limit m))
    (packet-back first false (take payload_limit m) (bytes_take payload_limit m h) (omega arith) s o n (q false (take payload_limit m) (omega arith)))
    (rw (← e) (packets-back k false false (drop payload_limit m) ys (bytes_drop payload_limit m h) (omega arith) (omega arith) (state outside (part ys))
    (opens-outside (part ys)) (adds-to ys) _))

-- 2 for each packet but the last, then 3 with exactly these bytes; a message that was open is thrown away at the first piece
pub message-back : (m : List ℕ) → Bytes m → length m ≤ message_limit → (s : State) → Opens s → (n : ℕ)
    → Gives s n (in_packets m) (message_events (is_open s.message) m n) begin
unfolding pieces
message-back m h l s o n =
    packets-back (earlier (length m)) true (is_open s.message) m [] h (omega arith) (omega arith) s o (λ last p b. refl) n
