-- Keep-alives among the lines of frames change nothing of what reading gives.
use Prim.Native.Nat.{ℕ, zero, suc, ◌+◌, ◌*◌, ◌≤◌}
use mathlib.Core.Path.{◌≡◌, refl, sym, ap, subst, ◌∙◌}
use mathlib.Core.List.{List, [], ◌∷◌, ◌++◌}
use mathlib.Core.Bool.{Bool, true, false}
use native.Mathlib.Omega.{arith}
use lib.ListN.{length, take, drop, length-take, length-drop}
use lib.Dec.{leb, eqb}
use Rattle.base_choices.specs.Choices.{pick}
use Rattle.framing_content.specs.declared.Fault.TheVariants.{Big}
use Rattle.framing_content.specs.declared.Content.{Content}
use Rattle.framing_content.specs.declared.Fault.{Fault}
use Rattle.framing_content.specs.declared.Content.TheVariants.{Request, Response, Piece}
use Rattle.std.specs.Prelude.{Result, Ok, Err}
use Rattle.framing_content.specs.Content.{content_of, payload}
use Rattle.framing_content.specs.Numbers.{message_limit}
use Rattle.framing.specs.Offers.{joined}
use Rattle.framing_session.specs.Rules.{outside, Message, none, part, State, Said, Step, Happening, refuses, joins, pieces, reads, ends, happens, after}
use Rattle.framing_session.proofs.Stream.{happens-append, after-append}
use Rattle.framing_packets.specs.Read.{Bytes, Gives, happening}
use Rattle.framing_packets.specs.Written.{sealed, frame, request_body, response_body, flags, header, packet_body, packet, payload_limit}
use Rattle.framing_packets.proofs.Reading.{state, opens-outside}
use Rattle.framing_packets.proofs.Back.{frame_back, request-back, response-back}
use Rattle.sheet_rules.specs.Lines.{Stream}
use Rattle.sheet_rules.specs.Reading.{finished, first_fault, of_events, held_in, of_held, read_sheet}
use Rattle.sheet_rules.specs.KeepAlives.{Lines}
use Rattle.sheet_rules.specs.KeepAlives.{WithAlives, end, own, request, response, Framed, AllFramed, packet_frames}
use Rattle.sheet_rules.proofs.Stream.{Some, AllSome, lines-read, bytes-append, bytes_take, bytes_drop, flags-small}

-- ---- a frame makes one event, and the stream is outside frames after it

abbrev Out : Step → Type 0
Out o = o.next.place ≡ outside

joins-out : (last' d : Bool) (ys : List ℕ) → Out (joins last' d ys)
joins-out true d ys = refl
joins-out false d ys = refl

pieces-out : (first last' : Bool) (p : List ℕ) (m : Message) → Out (pieces first last' p m)
unfolding pieces
pieces-out true last' p none = joins-out last' false p
pieces-out true last' p (part xs) = joins-out last' true p
pieces-out false last' p none = refl
pieces-out false last' p (part xs) = either (leb (length xs + length p) message_limit)
  where
    either : (t : Bool) → Out (pick t (joins last' false (xs ++ p)) (refuses Big outside (part xs)))
    either true = joins-out last' false (xs ++ p)
    either false = refl

reads-out : (c : Result Content Fault) (p : List ℕ) (m : Message) → Out (reads c p m)
reads-out (Err f) p m = refl
reads-out (Ok Request) p m = refl
reads-out (Ok Response) p m = refl
reads-out (Ok (Piece first last')) p m = pieces-out first last' p m

ends-out : (xs : List ℕ) (m : Message) → Out (ends xs m)
unfolding ends
ends-out xs m = reads-out (content_of xs) (payload xs) m

-- the event's number and message, and the message that is open after it, do not depend on the place
record Once (m : Message) (f : List ℕ) (e : Said) (m' : Message) : Type 0 where
  pub gives : (n : ℕ) → Gives (state outside m) n f (record { offset = n + length f; said = e } ∷ []) (state outside m')

framed-once : {f : List ℕ} → Framed f → (m : Message) → (e : Said) × ((m' : Message) × Once m f e m')
framed-once {f} r m =
    let t : Step = ends (sealed r.body) m in (
      t.said,
      (
        t.next.message,
        record {
          gives = λ n.
              subst (λ (g : List ℕ). Gives (state outside m) n g (record { offset = n + length g; said = t.said } ∷ []) (state outside t.next.message))
              (sym r.is)
              (subst (λ (s : State). Gives (state outside m) n (frame r.body) (record { offset = n + length (frame r.body); said = t.said } ∷ []) s)
              (ap (λ p. state p t.next.message) (ends-out (sealed r.body) m))
              (frame_back r.body r.bytes r.fits (state outside m) (opens-outside m) n refl));
        },
      ),
    )

-- ---- what counts of the events: the first fault, the messages finished, and the state at the end

pub record Same (hs : List Happening) (s : State) (ks : List Happening) (t : State) : Type 0 where
  pub faults : first_fault hs ≡ first_fault ks
  pub messages : finished hs ≡ finished ks
  pub states : s ≡ t

module _ (m : Message) (n : ℕ) (f : List ℕ) {h : Happening} {m' : Message} (g : Gives (state outside m) n f (h ∷ []) (state outside m')) (rest : List ℕ) where
  events-then : happens (state outside m) n (f ++ rest) ≡ h ∷ happens (state outside m') (n + length f) rest
  events-then =
      happens-append f rest (state outside m) n
      ∙ ap (λ (hs : List Happening). hs ++ happens (after (state outside m) f) (n + length f) rest) g.events
      ∙ ap (λ (s : State). h ∷ happens s (n + length f) rest) g.state

  after_then : after (state outside m) (f ++ rest) ≡ after (state outside m') rest
  after_then = after-append f rest (state outside m) ∙ ap (λ (s : State). after s rest) g.state

-- the same event before both, wherever it stands
same_then : {e : Said} {i j : ℕ} {hs ks : List Happening} {s t : State} → Same hs s ks t
    → Same (record { offset = i; said = e } ∷ hs) s (record { offset = j; said = e } ∷ ks) t
unfolding first_fault finished
same_then r = record { faults = rw r.faults refl; messages = rw r.messages refl; states = r.states }

-- a keep-alive before the second
same-request : {i : ℕ} {hs ks : List Happening} {s t : State} → Same hs s ks t → Same hs s (happening i 4 false [] ∷ ks) t
unfolding first_fault finished
same-request r = record { faults = r.faults; messages = r.messages; states = r.states }

same-response : {i : ℕ} {hs ks : List Happening} {s t : State} → Same hs s ks t → Same hs s (happening i 5 false [] ∷ ks) t
unfolding first_fault finished
same-response r = record { faults = r.faults; messages = r.messages; states = r.states }

same_by : {hs hs' ks ks' : List Happening} {s s' t t' : State} → hs ≡ hs' → s ≡ s' → ks ≡ ks' → t ≡ t' → Same hs' s' ks' t' → Same hs s ks t
same_by a b c d r =
    record {
      faults = ap first_fault a ∙ r.faults ∙ ap first_fault (sym c);
      messages = ap finished a ∙ r.messages ∙ ap finished (sym c);
      states = b ∙ r.states ∙ sym d;
    }

abbrev pub Alike : Message → ℕ → ℕ → List (List ℕ) → List (List ℕ) → Type 0
Alike m n k fs gs =
    Same (happens (state outside m) n (joined fs)) (after (state outside m) (joined fs)) (happens (state outside m) k (joined gs))
    (after (state outside m) (joined gs))

pub alike : {fs gs : List (List ℕ)} → AllFramed fs → WithAlives fs gs → (m : Message) (n k : ℕ) → Alike m n k fs gs
unfolding happens after first_fault finished
alike r end m n k = record { faults = refl; messages = refl; states = refl }
alike r (own {fs} {gs} f w) m n k =
    let o = framed-once r.0 m in
    let m' = o.1.0 in
    let g = o.1.1.gives n in
    let g' = o.1.1.gives k in
    same_by (events-then m n f g (joined fs)) (after_then m n f g (joined fs)) (events-then m k f g' (joined gs)) (after_then m k f g' (joined gs))
    (same_then (alike r.1 w m' (n + length f) (k + length f)))
alike {fs} r (request {gs = gs} w) m n k =
    let g = request-back (state outside m) (opens-outside m) k in
    same_by refl refl (events-then m k (frame request_body) g (joined gs)) (after_then m k (frame request_body) g (joined gs))
    (same-request (alike r w m n (k + length (frame request_body))))
alike {fs} r (response {gs = gs} w) m n k =
    let g = response-back (state outside m) (opens-outside m) k in
    same_by refl refl (events-then m k (frame response_body) g (joined gs)) (after_then m k (frame response_body) g (joined gs))
    (same-response (alike r w m n (k + length (frame response_body))))

-- ---- so reading gives the same

framed-some : {f : List ℕ} → Framed f → Some f
unfolding frame
framed-some r = subst Some (sym r.is) tt

pub framed-all : (fs : List (List ℕ)) → AllFramed fs → AllSome fs
framed-all [] r = tt
framed-all (f ∷ fs) r = (framed-some r.0, framed-all fs r.1)

alives-some : {fs gs : List (List ℕ)} → AllSome fs → WithAlives fs gs → AllSome gs
unfolding frame
alives-some s end = tt
alives-some s (own f w) = (s.0, alives-some s.1 w)
alives-some s (request w) = (tt, alives-some s w)
alives-some s (response w) = (tt, alives-some s w)

pub passed : {fs gs : List (List ℕ)} {text text' : List ℕ} → AllFramed fs → WithAlives fs gs → Lines fs text → Lines gs text'
    → read_sheet text' ≡ read_sheet text
unfolding read_sheet of_events
passed {fs} {gs} r a l l' =
    let s = framed-all fs r in
    let e = alike r a none 0 0 in
    ap (λ (x : Stream). of_held (held_in x)) (lines-read (alives-some s a) l')
    ∙ rw (e.faults, e.messages, e.states) refl
    ∙ ap (λ (x : Stream). of_held (held_in x)) (sym (lines-read s l))

-- ---- the frames of a message

packet-framed : (first last' : Bool) (p : List ℕ) → Bytes p → length p ≤ payload_limit → Framed (packet first last' p)
unfolding packet
packet-framed first last' p h l =
    let f = flags-small first last' (eqb (length p) 0) in
    let b : Bytes (header (flags first last' (length p))) = omega arith in
    record {
      body = packet_body first last' p;
      is = refl;
      bytes = bytes-append (header (flags first last' (length p))) p b h;
      fits = omega arith;
    }

pub packets-framed : (k : ℕ) (first : Bool) (m : List ℕ) → Bytes m → length m ≤ payload_limit * (k + 1) → AllFramed (packet_frames k first m)
unfolding packet_frames
packets-framed zero first m h l = (packet-framed first true m h (omega arith), tt)
packets-framed (suc k) first m h l =
    let t = length-take payload_limit m in
    let r = length-drop payload_limit m in (
      packet-framed first false (take payload_limit m) (bytes_take payload_limit m h) (omega arith),
      packets-framed k false (drop payload_limit m) (bytes_drop payload_limit m h) (omega arith),
    )

-- ---- with none put in

pub without : (fs : List (List ℕ)) → WithAlives fs fs
without [] = end
without (f ∷ fs) = own f (without fs)
