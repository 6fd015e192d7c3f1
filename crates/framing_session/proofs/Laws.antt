-- Laws of the rules and of what the store keeps, at plain variables.
use Rattle.std.specs.Prelude.{Option, Some, None}
use Prim.Native.Nat.{ℕ, ◌+◌, ◌-◌, ◌≤◌, ◌<◌}
use mathlib.Core.Bool.{Bool, true, false}
use mathlib.Core.Path.{◌≡◌, refl, sym, ap, subst, ◌∙◌}
use mathlib.Core.List.{List, [], ◌∷◌, ◌++◌}
use mathlib.Core.Logic.{inr, ⊎_elim}
use native.Mathlib.Omega.{arith}
use native.Mathlib.Numerals.{add-one}
use borrow.Author.Tests.{eqb-true, ltb-true, leb-true, leb-false, eq-eqb, ne_eqb, lt-ltb, le-ltb, le-leb, lt-leb}
use lib.Bits.{bit_xor}
use lib.Dec.{leb, ltb, eqb}
use lib.ListN.{length, take, drop, set, get_or, length-append, length-take, length-drop, drop_of_length-le}
use lib.Seq.{sets, length-sets, length-take-le, take-take, drop-drop, drop-cons}
use types.Run.{OneOf, hit}
use Rattle.framing_session.specs.declared.Event.{Event}
use Rattle.framing_session.specs.declared.Event.TheVariants as ev
use Rattle.framing_content.specs.declared.Fault.{Fault}
use Rattle.framing_content.specs.declared.Fault.TheVariants.{Cut, Byte, Long, Escape, Short, Crc, Header, Flags, Dtd, Orphan, Big}
use Rattle.framing_content.specs.declared.Content.{Content}
use Rattle.framing_content.specs.declared.Content.TheVariants.{Request, Response, Piece}
use Rattle.std.specs.Prelude.{Result, Ok, Err}
use Rattle.framing_session.specs.declared.Frame.{Frame}
use Rattle.framing_session.specs.declared.Frame.TheVariants.{Outside, Stray, Inside, Escaped, BadByte, TooLong}
use Rattle.framing_session.specs.declared.Session.{Session}
use Rattle.framing_session.specs.declared.Stepped.{Stepped}
use Rattle.framing_session.proofs.Lists.{sets-append, length_part, sets_same, take-sets-le, part-sets, drop-take}
use Rattle.base_choices.specs.Choices.{pick}
use Rattle.base_choices.proofs.Laws.{pick-by}
use Rattle.framing_content.specs.Numbers.{BOF, EOF, CE, content_limit, message_limit, store_length, content_start, number, fault_numbers, feed_numbers}
use Rattle.framing_session.specs.Rules.{Place, outside, stray, inside, escaped, bad_byte, too_long, Message, none, part, State, Said, Step, begin}
use Rattle.framing_session.specs.Rules.{quiet, makes, goes, refuses, adds, joins, pieces, reads, ends, cuts, faulted, in_place, step, is_open}
use Rattle.framing_content.specs.Content.{packet_of, command_of, body_of, content_of, body, crc_of, payload}
use Rattle.framing_checksum.specs.Checksum.{checksum}
use Rattle.framing_session.specs.Session.{said_by, content_in, place_of, message_of, state_of, frame_of, pending_of, session_of, frame_length}
use Rattle.framing_session.specs.Session.{message_length, legal, Legal, content, held, kept, Kept, keeps, whole, run}
use Rattle.framing_session.specs.Steps.{gives, is_part, going, refusing, joining, past_fault, unless_setup, Reaches, Stays}

-- ---- a test and its two answers

pub gives_same : {r r' : Stepped} {t t' : List ℕ} → r ≡ r' → t ≡ t' → gives r t ≡ gives r' t'
gives_same {r' = r'} {t = t} e f = ap (λ (x : Stepped). gives x t) e ∙ ap (λ (u : List ℕ). gives r' u) f

-- ---- what a store of the right length holds

module _ (t : List ℕ) (room : length t ≡ store_length) where
  pub content-length : (n : ℕ) → n ≤ content_limit → length (content_in n t) ≡ n
  content-length n h = length_part n content_start t (omega arith)

  pub message-length : (n : ℕ) → n ≤ message_limit → length (take n t) ≡ n
  message-length n h = length-take-le n t (omega arith)

  pub open-part : (m : Option ℕ) → is_open (message_of m t) ≡ is_part m
  open-part None = refl
  open-part (Some n) = refl

  content-place : (f : Frame) → content (place_of f t) ≡ content_in (frame_length f) t
  content-place Outside = refl
  content-place Stray = refl
  content-place (Inside n) = refl
  content-place (Escaped n) = refl
  content-place (BadByte n) = refl
  content-place (TooLong n) = refl

  held-message : (m : Option ℕ) → held (message_of m t) [] ≡ take (message_length m) t
  held-message None = refl
  held-message (Some n) = refl

  frame-place : (f : Frame) → frame_length f ≤ content_limit → frame_of (place_of f t) ≡ f
  frame-place Outside h = refl
  frame-place Stray h = refl
  frame-place (Inside n) h = ap Inside (content-length n h)
  frame-place (Escaped n) h = ap Escaped (content-length n h)
  frame-place (BadByte n) h = ap BadByte (content-length n h)
  frame-place (TooLong n) h = ap TooLong (content-length n h)

  pending-message : (m : Option ℕ) → message_length m ≤ message_limit → pending_of (message_of m t) ≡ m
  pending-message None h = refl
  pending-message (Some n) h = ap Some (message-length n h)

  same-content : (f : Frame) → frame_length f ≤ content_limit → sets t content_start (content (place_of f t)) ≡ t
  same-content f h =
      ap (λ (xs : List ℕ). sets t content_start xs) (content-place f) ∙ sets_same (frame_length f) content_start t (omega arith)

  same-message : (m : Option ℕ) → message_length m ≤ message_limit → sets t 0 (held (message_of m t) []) ≡ t
  same-message m h =
      ap (λ (xs : List ℕ). sets t 0 xs) (held-message m) ∙ sets_same (message_length m) 0 t (omega arith)

  module _ (f : Frame) (m : Option ℕ) (hf : frame_length f ≤ content_limit) (hm : message_length m ≤ message_limit) where
    -- an event that leaves message and frame as they are, or none
    pub keeps_same : (k : ℕ) → keeps (makes (place_of f t) (message_of m t) k false []) t
        ≡ record { said = record { number = k; discarded = false; message = [] }; session = record { frame = f; message = m }; store = t }
    unfolding kept
    keeps_same k = rw (same-message m hm, same-content f hf, frame-place f hf, pending-message m hm)

    pub keeps-goes : keeps (goes (place_of f t) (message_of m t)) t ≡ gives (going f m) t
    keeps-goes = keeps_same 0

    -- a refusal, which leaves the stream at f
    pub keeps-refuses : (x : Fault) → keeps (refuses x (place_of f t) (message_of m t)) t ≡ gives (refusing x f m) t
    unfolding kept
    keeps-refuses x = rw (same-content f hf, frame-place f hf, open-part m)

  module _ (n x : ℕ) (m : Option ℕ) (hn : n ≤ content_limit) (hm : message_length m ≤ message_limit) where
    -- a content byte that has room
    pub keeps-adds : n < content_limit → keeps (adds (content_in n t) x (message_of m t)) t ≡ gives (going (Inside (n + 1)) m) (set t (content_start + n) x)
    unfolding kept adds
    keeps-adds h =
        let e : length (content_in n t) ≡ n = content-length n hn in
        let l : length (content_in n t ++ x ∷ []) ≡ n + 1 = length-append (content_in n t) (x ∷ []) ∙ ap (λ (k : ℕ). k + 1) e in
        let s : sets t content_start (content_in n t ++ x ∷ []) ≡ set t (content_start + n) x =
        sets-append (content_in n t) (x ∷ []) t content_start
        ∙ ap (λ (r : List ℕ). set r (content_start + length (content_in n t)) x) (sets_same n content_start t (omega arith))
        ∙ ap (λ (k : ℕ). set t (content_start + k) x) e in
        rw (lt-ltb (length (content_in n t)) content_limit (omega arith), same-message m hm, s, l, pending-message m hm)

    -- one that has none
    pub keeps-over : content_limit ≤ n → keeps (adds (content_in n t) x (message_of m t)) t ≡ gives (going (TooLong n) m) t
    unfolding adds
    keeps-over h =
        rw (le-ltb (length (content_in n t)) content_limit (omega (arith, content-length n hn))) (keeps-goes (TooLong n) m hn hm)

  -- a message that goes on or is finished
  pub keeps-joins : (last d : Bool) (ys : List ℕ) → length ys ≤ message_limit → keeps (joins last d ys) t ≡ gives (joining last d (length ys)) (sets t 0 ys)
  unfolding kept
  keeps-joins false d ys h = refl
  keeps-joins true d ys h = rw (part-sets ys t 0 (omega arith))

  -- a piece whose payload is the n bytes after the header
  module _ (last : Bool) (n : ℕ) (hn : n + 11 ≤ content_limit) where
    abbrev p : List ℕ
    p = take n (drop (content_start + 9) t)

    p-length : length p ≡ n
    p-length = length_part n (content_start + 9) t (omega arith)

    pub keeps-first : (m : Option ℕ) → keeps (pieces true last p (message_of m t)) t ≡ gives (joining last (is_part m) n) (sets t 0 p)
    unfolding pieces
    keeps-first m =
        keeps-joins last (is_open (message_of m t)) p (omega (arith, p-length))
        ∙ ap (λ (d : Bool). gives (joining last d (length p)) (sets t 0 p)) (open-part m)
        ∙ ap (λ (k : ℕ). gives (joining last (is_part m) k) (sets t 0 p)) p-length

    pub keeps-orphan : keeps (pieces false last p none) t ≡ gives (refusing Orphan Outside None) t
    unfolding pieces kept
    keeps-orphan = refl

    module _ (k : ℕ) (hk : k ≤ message_limit) where
      total : length (take k t) + length p ≡ k + n
      total = omega (arith, p-length, message-length k hk)

      pub keeps-later : k + n ≤ message_limit → keeps (pieces false last p (part (take k t))) t ≡ gives (joining last false (k + n)) (sets t k p)
      unfolding pieces
      keeps-later h =
          let l : length (take k t ++ p) ≡ k + n = length-append (take k t) p ∙ total in
          let s : sets t 0 (take k t ++ p) ≡ sets t k p =
          sets-append (take k t) p t 0
          ∙ ap (λ (r : List ℕ). sets r (0 + length (take k t)) p) (sets_same k 0 t (omega arith))
          ∙ ap (λ (i : ℕ). sets t i p) (omega (arith, message-length k hk)) in
          rw (le-leb (length (take k t) + length p) message_limit (omega (arith, total)))
          (keeps-joins last false (take k t ++ p) (omega (arith, l))
          ∙ ap (λ (i : ℕ). gives (joining last false i) (sets t 0 (take k t ++ p))) l
          ∙ ap (λ (r : List ℕ). gives (joining last false (k + n)) r) s)

      pub keeps-big : message_limit < k + n → keeps (pieces false last p (part (take k t))) t ≡ gives (refusing Big Outside (Some k)) t
      unfolding pieces
      keeps-big h =
          rw (lt-leb (length (take k t) + length p) message_limit (omega (arith, total))) (keeps-refuses Outside (Some k) (omega arith) hk Big)

  -- the rest of a frame that has a fault
  pub keeps-faulted : (x : Fault) (f : Frame) (b : ℕ) (m : Option ℕ) → frame_length f ≤ content_limit → message_length m ≤ message_limit
      → keeps (faulted x (place_of f t) (message_of m t) b) t ≡ gives (past_fault x f b m) t
  unfolding faulted past_fault
  keeps-faulted x f b m hf hm = go (eqb b BOF) (eqb b EOF)
    where
      go : (u v : Bool)
          → keeps (pick u (refuses x (inside []) (message_of m t)) (pick v (refuses x outside (message_of m t)) (goes (place_of f t) (message_of m t)))) t
          ≡ gives (pick u (refusing x (Inside 0) m) (pick v (refusing x Outside m) (going f m))) t
      go true true = keeps-refuses (Inside 0) m (omega arith) hm x
      go true false = keeps-refuses (Inside 0) m (omega arith) hm x
      go false true = keeps-refuses Outside m (omega arith) hm x
      go false false = keeps-goes f m hf hm

  -- the payload of the content in the store
  pub payload-in : (n : ℕ) → n ≤ content_limit → payload (content_in n t) ≡ take (n - 11) (drop (content_start + 9) t)
  payload-in n h =
      let e : length (content_in n t) - 2 ≡ n - 2 = ap (λ (i : ℕ). i - 2) (content-length n h) in
      let f : n - 2 - 9 ≡ n - 11 = omega arith in
      ap (λ (i : ℕ). drop 9 (take i (content_in n t))) e
      ∙ ap (λ (r : List ℕ). drop 9 r) (take-take (n - 2) n (drop content_start t) (omega arith))
      ∙ drop-take 9 (n - 2) (drop content_start t)
      ∙ ap (λ (i : ℕ). take i (drop 9 (drop content_start t))) f
      ∙ ap (λ (r : List ℕ). take (n - 11) r) (drop-drop 9 content_start t)

-- ---- a piece has its header and checksum whole

NotPiece : Result Content Fault → Type 0
NotPiece (Err f) = Unit {0}
NotPiece (Ok Request) = Unit {0}
NotPiece (Ok Response) = Unit {0}
NotPiece (Ok (Piece f l)) = ⊥

no-piece : (xs : List ℕ) → length xs < 11 → NotPiece (content_of xs)
unfolding content_of body_of command_of packet_of NotPiece
no-piece xs h =
    let e : length (body xs) < 9 = simp length-take (omega arith) in
    pick-by NotPiece (ltb (length xs) 6) (λ t. tt)
    (λ t. pick-by NotPiece (eqb (crc_of xs) (checksum (body xs)))
    (λ t. pick-by NotPiece (eqb (get_or (body xs) 0 0) 0)
    (λ t. pick-by NotPiece (eqb (get_or (body xs) 1 0) 0x0e)
    (λ t. pick-by NotPiece (eqb (get_or (body xs) 3 0) 1)
    (λ t. pick-by NotPiece (eqb (get_or (body xs) 2 0) 0)
    (λ t. rw (lt-ltb (length (body xs)) 9 e) tt)
    (λ t. pick-by NotPiece (eqb (length (body xs)) 4)
    (λ t. pick-by NotPiece (eqb (get_or (body xs) 2 0) 1) (λ t. tt)
    (λ t. pick-by NotPiece (eqb (get_or (body xs) 2 0) 2) (λ t. tt) (λ t. tt)))
    (λ t. tt)))
    (λ t. tt)) (λ t. tt)) (λ t. tt)) (λ t. tt))

pub piece-long : (xs : List ℕ) (first last : Bool) → content_of xs ≡ Ok (Piece first last) → 11 ≤ length xs
unfolding NotPiece
piece-long xs first last e = go (leb 11 (length xs)) refl
  where
    go : (u : Bool) → leb 11 (length xs) ≡ u → 11 ≤ length xs
    go true h = leb-true 11 (length xs) h
    go false h = absurd (subst NotPiece e (no-piece xs (leb-false 11 (length xs) h)))

-- ---- a turn of a call

-- each event has one of document 01's numbers
fault-numbered : (f : Fault) → OneOf fault_numbers (number f)
fault-numbered Fault.Stray = hit fault_numbers (number Fault.Stray) tt
fault-numbered Cut = hit fault_numbers (number Cut) tt
fault-numbered Byte = hit fault_numbers (number Byte) tt
fault-numbered Long = hit fault_numbers (number Long) tt
fault-numbered Escape = hit fault_numbers (number Escape) tt
fault-numbered Short = hit fault_numbers (number Short) tt
fault-numbered Crc = hit fault_numbers (number Crc) tt
fault-numbered Header = hit fault_numbers (number Header) tt
fault-numbered Flags = hit fault_numbers (number Flags) tt
fault-numbered Dtd = hit fault_numbers (number Dtd) tt
fault-numbered Orphan = hit fault_numbers (number Orphan) tt
fault-numbered Big = hit fault_numbers (number Big) tt

pub event-numbered : (e : Event) (t : List ℕ) → OneOf feed_numbers (said_by e t).number
event-numbered ev.More t = hit feed_numbers 0 tt
event-numbered ev.Setup t = hit feed_numbers 1 tt
event-numbered (ev.Piece d) t = hit feed_numbers 2 tt
event-numbered (ev.Message n d) t = hit feed_numbers 3 tt
event-numbered ev.Request t = hit feed_numbers 4 tt
event-numbered ev.Response t = hit feed_numbers 5 tt
event-numbered (ev.Refused f d) t = inr (inr (inr (inr (inr (inr (fault-numbered f))))))

-- numbers from n up
abbrev all_from : ℕ → List ℕ → Bool
all_from n [] = true
all_from n (k ∷ ks) = pick (leb n k) (all_from n ks) false

one_from : (n : ℕ) (ks : List ℕ) (x : ℕ) → all_from n ks ≡ true → OneOf ks x → n ≤ x
one_from n [] x h o = absurd o
one_from n (k ∷ []) x h e = go (leb n k) refl h
  where
    go : (u : Bool) → leb n k ≡ u → pick u true false ≡ true → n ≤ x
    go true l h = omega (arith, leb-true n k l, e)
    go false l h = let z : ◌≡◌ {A = ℕ} 0 1 = cc in absurd (omega arith)
one_from n (k ∷ j ∷ ks) x h o = go (leb n k) refl h (one_from n (j ∷ ks) x)
  where
    go : (u : Bool) → leb n k ≡ u → pick u (all_from n (j ∷ ks)) false ≡ true → (all_from n (j ∷ ks) ≡ true → OneOf (j ∷ ks) x → n ≤ x) → n ≤ x
    go true l h more = ⊎_elim (λ (e : x ≡ k). omega (arith, leb-true n k l, e)) (λ (r : OneOf (j ∷ ks) x). more h r) o
    go false l h more = let z : ◌≡◌ {A = ℕ} 0 1 = cc in absurd (omega arith)

-- refusals are numbered from 10 up
pub number-high : (f : Fault) → 10 ≤ number f
number-high f = one_from 10 fault_numbers (number f) refl (fault-numbered f)

-- .. so that none is the number of another event
pub number-apart : (f : Fault) {n : ℕ} → n < 10 → eqb (number f) n ≡ false
number-apart f {n} h = ne_eqb (number f) n (λ e. omega (arith, h, number-high f, e))

pub number-not-zero : (f : Fault) → eqb (number f) 0 ≡ false
number-not-zero f = number-apart f (omega arith)

module _ (c : List ℕ) (i : ℕ) (s : State) (t : List ℕ) where
  module _ (h : i < length c) where
    pub run_more : eqb (step s (get_or c i 0)).said.number 0 ≡ true
        → run (drop i c) s t i ≡ run (drop (i + 1) c) (step s (get_or c i 0)).next (kept (step s (get_or c i 0)) t) (i + 1)
    unfolding run
    run_more e = rw (drop-cons c i 0 h, e, add-one i)

    pub run-event : eqb (step s (get_or c i 0)).said.number 0 ≡ false
        → run (drop i c) s t i ≡ whole (step s (get_or c i 0)).said (i + 1) (step s (get_or c i 0)).next (kept (step s (get_or c i 0)) t)
    unfolding run
    run-event e = rw (drop-cons c i 0 h, e)

  pub run_end : length c ≤ i → run (drop i c) s t i ≡ whole quiet i s t
  unfolding run
  run_end h = rw (drop_of_length-le c h)

-- ---- the rules keep within the limits

-- a state within the limits
pub record Bounded (s : State) : Type 0 where
  pub frame : length (content s.place) ≤ content_limit
  pub message : length (held s.message []) ≤ message_limit

-- what a step leaves to be stored, within the limits
pub record Within (o : Step) : Type 0 where
  pub frame : length (content o.next.place) ≤ content_limit
  pub message : length (held o.next.message o.said.message) ≤ message_limit

pub bounded-begin : Bounded begin
bounded-begin = record { frame = omega arith; message = omega arith }

-- the state after a step
pub bounded-next : (o : Step) → Within o → Bounded o.next
bounded-next o w = record { frame = w.frame; message = go o.next.message w.message }
  where
    go : (m : Message) → length (held m o.said.message) ≤ message_limit → length (held m []) ≤ message_limit
    go none h = omega arith
    go (part xs) h = h

-- the state that a session and a store hold
pub bounded-state : (s : Session) (t : List ℕ) → length t ≡ store_length → frame_length s.frame ≤ content_limit → message_length s.message ≤ message_limit
    → Bounded (state_of s t)
bounded-state s t room hf hm =
    record {
      frame =
          let e : length (content (place_of s.frame t)) ≡ frame_length s.frame = ap length (content-place t room s.frame)
          ∙ content-length t room (frame_length s.frame) hf in
          omega arith;
      message =
          let e : length (held (message_of s.message t) []) ≡ message_length s.message = ap length (held-message t room s.message)
          ∙ message-length t room (message_length s.message) hm in
          omega arith;
    }

module _ (m : Message) (hm : length (held m []) ≤ message_limit) where
  within-makes : (p : Place) (k : ℕ) → length (content p) ≤ content_limit → Within (makes p m k false [])
  within-makes p k h = record { frame = h; message = hm }

  within-refuses : (x : Fault) (p : Place) → length (content p) ≤ content_limit → Within (refuses x p m)
  within-refuses x p h = record { frame = h; message = omega arith }

  within-adds : (xs : List ℕ) (x : ℕ) → length xs ≤ content_limit → Within (adds xs x m)
  unfolding adds
  within-adds xs x h =
      pick-by Within (ltb (length xs) content_limit)
      (λ t. within-makes (inside (xs ++ x ∷ [])) 0 (simp length-append (omega (arith, ltb-true (length xs) content_limit t))))
      (λ t. within-makes (too_long xs) 0 h)

  within-faulted : (x : Fault) (p : Place) (b : ℕ) → length (content p) ≤ content_limit → Within (faulted x p m b)
  unfolding faulted
  within-faulted x p b h =
      pick-by Within (eqb b BOF)
      (λ t. within-refuses x (inside []) (omega arith))
      (λ t. pick-by Within (eqb b EOF) (λ t. within-refuses x outside (omega arith)) (λ t. within-makes p 0 h))

  within-cuts : (xs : List ℕ) → Within (cuts xs m)
  unfolding cuts
  within-cuts xs =
      pick-by Within (eqb (length xs) 0)
      (λ t. within-makes (inside []) 0 (omega arith))
      (λ t. within-refuses Cut (inside []) (omega arith))

within-joins : (last d : Bool) (ys : List ℕ) → length ys ≤ message_limit → Within (joins last d ys)
within-joins false d ys h = record { frame = omega arith; message = h }
within-joins true d ys h = record { frame = omega arith; message = h }

within-pieces : (first last : Bool) (p : List ℕ) (m : Message) → length p ≤ content_limit → length (held m []) ≤ message_limit → Within (pieces first last p m)
unfolding pieces
within-pieces true last p m hp hm = within-joins last (is_open m) p (omega arith)
within-pieces false last p none hp hm = within-refuses none hm Orphan outside (omega arith)
within-pieces false last p (part xs) hp hm =
    pick-by Within (leb (length xs + length p) message_limit)
    (λ t. within-joins last false (xs ++ p) (simp length-append (leb-true (length xs + length p) message_limit t)))
    (λ t. within-refuses (part xs) hm Big outside (omega arith))

within-reads : (c : Result Content Fault) (p : List ℕ) (m : Message) → length p ≤ content_limit → length (held m []) ≤ message_limit → Within (reads c p m)
within-reads (Err f) p m hp hm = within-refuses m hm f outside (omega arith)
within-reads (Ok Request) p m hp hm = within-makes m hm outside 4 (omega arith)
within-reads (Ok Response) p m hp hm = within-makes m hm outside 5 (omega arith)
within-reads (Ok (Piece first last)) p m hp hm = within-pieces first last p m hp hm

within-place : (p : Place) (m : Message) (b : ℕ) → length (content p) ≤ content_limit → length (held m []) ≤ message_limit → Within (in_place p m b)
unfolding in_place ends
within-place outside m b hp hm =
    pick-by Within (eqb b BOF) (λ t. within-makes m hm (inside []) 0 (omega arith)) (λ t. within-refuses m hm Fault.Stray stray (omega arith))
within-place stray m b hp hm =
    pick-by Within (eqb b BOF) (λ t. within-makes m hm (inside []) 0 (omega arith)) (λ t. within-makes m hm stray 0 (omega arith))
within-place (inside xs) m b hp hm =
    let e : length (payload xs) ≤ content_limit = simp (length-take, length-drop) (omega arith) in
    pick-by Within (eqb b BOF) (λ t. within-cuts m hm xs)
    (λ t. pick-by Within (eqb b EOF) (λ t. within-reads (content_of xs) (payload xs) m e hm)
    (λ t. pick-by Within (eqb b CE) (λ t. within-makes m hm (escaped xs) 0 hp)
    (λ t. pick-by Within (leb 0xf8 b) (λ t. within-makes m hm (bad_byte xs) 0 hp)
    (λ t. within-adds m hm xs b hp))))
within-place (escaped xs) m b hp hm =
    pick-by Within (eqb b BOF) (λ t. within-refuses m hm Cut (inside []) (omega arith))
    (λ t. pick-by Within (eqb b EOF) (λ t. within-refuses m hm Escape outside (omega arith))
    (λ t. pick-by Within (ltb b 0xd8) (λ t. within-makes m hm (bad_byte xs) 0 hp)
    (λ t. pick-by Within (ltb 0xdf b) (λ t. within-makes m hm (bad_byte xs) 0 hp)
    (λ t. within-adds m hm xs (bit_xor b 0x20) hp))))
within-place (bad_byte xs) m b hp hm = within-faulted m hm Byte (bad_byte xs) b hp
within-place (too_long xs) m b hp hm = within-faulted m hm Long (too_long xs) b hp

pub within_step : (s : State) (b : ℕ) → Bounded s → Within (step s b)
unfolding step
within_step s b h = within-place s.place s.message b h.frame h.message

-- ---- what the store keeps is the state

place-back : (p : Place) (t : List ℕ) → content_in (length (content p)) t ≡ content p → place_of (frame_of p) t ≡ p
place-back outside t h = refl
place-back stray t h = refl
place-back (inside xs) t h = ap inside h
place-back (escaped xs) t h = ap escaped h
place-back (bad_byte xs) t h = ap bad_byte h
place-back (too_long xs) t h = ap too_long h

message-back : (m : Message) (ys t : List ℕ) → take (length (held m ys)) t ≡ held m ys → message_of (pending_of m) t ≡ m
message-back none ys t h = refl
message-back (part xs) ys t h = ap part h

module _ (o : Step) (t : List ℕ) (room : length t ≡ store_length) (w : Within o) where
  abbrev ys : List ℕ
  ys = held o.next.message o.said.message

  abbrev xs : List ℕ
  xs = content o.next.place

  pub kept-length : length (kept o t) ≡ store_length
  unfolding kept
  kept-length = length-sets (sets t 0 ys) content_start xs ∙ length-sets t 0 ys ∙ room

  -- the message stands in the store from 0
  pub kept-message : take (length ys) (kept o t) ≡ ys
  unfolding kept
  kept-message = take-sets-le xs (sets t 0 ys) content_start (length ys) w.message ∙ part-sets ys t 0 (omega (arith, w.message))

  -- the next session and the store hold the next state
  pub kept-state : state_of (session_of o.next) (kept o t) ≡ o.next
  unfolding kept
  kept-state =
      let l : length (sets t 0 ys) ≡ store_length = length-sets t 0 ys ∙ room in
      let e : content_in (length xs) (kept o t) ≡ xs = part-sets xs (sets t 0 ys) content_start (omega (arith, w.frame)) in
      ap (λ (p : Place). record { place = p; message = message_of (pending_of o.next.message) (kept o t) }) (place-back o.next.place (kept o t) e)
      ∙ ap (λ (m : Message). record { place = o.next.place; message = m }) (message-back o.next.message o.said.message (kept o t) kept-message)

-- ---- the session of a bounded state is legal

frame-content : (p : Place) → frame_length (frame_of p) ≡ length (content p)
frame-content outside = refl
frame-content stray = refl
frame-content (inside xs) = refl
frame-content (escaped xs) = refl
frame-content (bad_byte xs) = refl
frame-content (too_long xs) = refl

message-held : (m : Message) → message_length (pending_of m) ≡ length (held m [])
message-held none = refl
message-held (part xs) = refl

module _ (s : State) (h : Bounded s) where
  pub frame_bound : frame_length (session_of s).frame ≤ content_limit
  frame_bound = omega (arith, frame-content s.place, h.frame)

  pub message-bound : message_length (session_of s).message ≤ message_limit
  message-bound = omega (arith, message-held s.message, h.message)

-- ---- a turn of the loop over a chunk

pub legal-true : (s : Session) (t : List ℕ) → legal s (length t) ≡ true → Legal s t
legal-true s t h =
    go (eqb (length t) store_length) refl (leb (frame_length s.frame) content_limit) refl (leb (message_length s.message) message_limit) refl h
  where
    go : (u : Bool) → eqb (length t) store_length ≡ u → (v : Bool) → leb (frame_length s.frame) content_limit ≡ v
        → (w : Bool) → leb (message_length s.message) message_limit ≡ w → pick u (pick v w false) false ≡ true → Legal s t
    go true a true b true d e = record { room = eqb-true _ _ a; frame = leb-true _ _ b; message = leb-true _ _ d }
    go true a true b false d e = let z : ◌≡◌ {A = ℕ} 0 1 = cc in absurd (omega arith)
    go true a false b w d e = let z : ◌≡◌ {A = ℕ} 0 1 = cc in absurd (omega arith)
    go false a v b w d e = let z : ◌≡◌ {A = ℕ} 0 1 = cc in absurd (omega arith)

pub true-legal : (s : Session) (t : List ℕ) → Legal s t → legal s (length t) ≡ true
true-legal s t h = rw (eq-eqb (length t) store_length h.room, le-leb _ _ h.frame, le-leb _ _ h.message)

-- what SETUP does not refuse
pub unless-legal : (s : Session) (t : List ℕ) {k x : Kept} → Legal s t → unless_setup s t k ≡ x → k ≡ x
unfolding unless_setup
unless-legal s t {k} l e =
    sym (ap (λ (u : Bool). pick u k (record { said = said_by ev.Setup t; session = s; store = t })) (true-legal s t l)) ∙ e

-- after a step, the next session and the store are legal
pub legal-next : (o : Step) (t : List ℕ) → length t ≡ store_length → Within o → Legal (session_of o.next) (kept o t)
legal-next o t room w =
    record {
      room = kept-length o t room w;
      frame = frame_bound o.next (bounded-next o w);
      message = message-bound o.next (bounded-next o w);
    }

module _ (c : List ℕ) (i : ℕ) (s : Session) (t : List ℕ) (r : Stepped) (t' : List ℕ) (l : Legal s t) (h : i < length c)
    (k : keeps (step (state_of s t) (get_or c i 0)) t ≡ gives r t') where
  abbrev o : Step
  o = step (state_of s t) (get_or c i 0)

  within : Within o
  within = within_step (state_of s t) (get_or c i 0) (bounded-state s t l.room l.frame l.message)

  says : o.said ≡ said_by r.event t'
  says = ap (λ (x : Kept). x.said) k

  stands : session_of o.next ≡ r.session
  stands = ap (λ (x : Kept). x.session) k

  stored : kept o t ≡ t'
  stored = ap (λ (x : Kept). x.store) k

  pub turn-legal : Legal r.session t'
  turn-legal = subst (λ (u : List ℕ). Legal r.session u) stored (subst (λ (x : Session). Legal x (kept o t)) stands (legal-next o t l.room within))

  held_next : state_of r.session t' ≡ o.next
  held_next =
      ap (λ (x : Session). state_of x t') (sym stands) ∙ ap (λ (u : List ℕ). state_of (session_of o.next) u) (sym stored) ∙ kept-state o t l.room within

  -- no event: the rest of the chunk goes on from here
  pub turn_more : r.event ≡ ev.More → run (drop i c) (state_of s t) t i ≡ run (drop (i + 1) c) (state_of r.session t') t' (i + 1)
  turn_more e =
      let q : o.said ≡ quiet = says ∙ ap (λ (x : Event). said_by x t') e in
      run_more c i (state_of s t) t h (ap (λ (x : Said). eqb x.number 0) q)
      ∙ ap (λ (x : State). run (drop (i + 1) c) x (kept o t) (i + 1)) (sym held_next)
      ∙ ap (λ (u : List ℕ). run (drop (i + 1) c) (state_of r.session t') u (i + 1)) stored

  -- an event ends the call
  pub turn-event : eqb (said_by r.event t').number 0 ≡ false
      → run (drop i c) (state_of s t) t i ≡ record { said = said_by r.event t'; consumed = i + 1; session = r.session; store = t' }
  turn-event e =
      run-event c i (state_of s t) t h (ap (λ (x : Said). eqb x.number 0) says ∙ e)
      ∙ ap (λ (x : Said). whole x (i + 1) o.next (kept o t)) says
      ∙ ap (λ (x : Session). record { said = said_by r.event t'; consumed = i + 1; session = x; store = kept o t }) stands
      ∙ ap (λ (u : List ℕ). record { said = said_by r.event t'; consumed = i + 1; session = r.session; store = u }) stored

-- the session of the state that it holds
pub session-back : (s : Session) (t : List ℕ) → Legal s t → session_of (state_of s t) ≡ s
session-back s t l =
    ap (λ (f : Frame). record { frame = f; message = pending_of (message_of s.message t) }) (frame-place t l.room s.frame l.frame)
    ∙ ap (λ (m : Option ℕ). record { frame = s.frame; message = m }) (pending-message t l.room s.message l.message)

-- a chunk that is used up
pub turn_end : (c : List ℕ) (i : ℕ) (s : Session) (t : List ℕ) → Legal s t → length c ≤ i
    → run (drop i c) (state_of s t) t i ≡ record { said = quiet; consumed = i; session = s; store = t }
turn_end c i s t l h =
    run_end c i (state_of s t) t h ∙ ap (λ (x : Session). record { said = quiet; consumed = i; session = x; store = t }) (session-back s t l)

pub reaches_here : (c : List ℕ) (i : ℕ) (s : Session) (t : List ℕ) → Legal s t → i ≤ length c → Reaches c i s t i s t
reaches_here c i s t l h = record { legal = l; forward = omega arith; inside = h; rest = refl }

pub reaches-on : {c : List ℕ} {i : ℕ} {s : Session} {t : List ℕ} {j : ℕ} {s' : Session} {t' : List ℕ} {k : ℕ} {s'' : Session} {t'' : List ℕ}
    → Reaches c i s t j s' t' → Reaches c j s' t' k s'' t'' → Reaches c i s t k s'' t''
reaches-on a b = record { legal = b.legal; forward = omega (arith, a.forward, b.forward); inside = b.inside; rest = a.rest ∙ b.rest }

-- a byte that makes no event
pub reaches_more : (c : List ℕ) (i : ℕ) (s : Session) (t : List ℕ) (r : Stepped) (t' : List ℕ) → Legal s t → i < length c
    → keeps (step (state_of s t) (get_or c i 0)) t ≡ gives r t' → r.event ≡ ev.More → Reaches c i s t (i + 1) r.session t'
reaches_more c i s t r t' l h k e =
    record { legal = turn-legal c i s t r t' l h k; forward = omega arith; inside = omega arith; rest = turn_more c i s t r t' l h k e }

-- a byte of content that needs no escape
pub reaches-ordinary : (c : List ℕ) (i n : ℕ) (m : Option ℕ) (t : List ℕ) → Legal (record { frame = Inside n; message = m }) t → i < length c
    → n < content_limit → get_or c i 0 < 0xf8
    → Reaches c i (record { frame = Inside n; message = m }) t (i + 1) (record { frame = Inside (n + 1); message = m }) (set t (content_start + n) (get_or c i 0))
unfolding step in_place
reaches-ordinary c i n m t l h hn hb =
    reaches_more c i (record { frame = Inside n; message = m }) t (going (Inside (n + 1)) m) (set t (content_start + n) (get_or c i 0)) l h
    (simp (
      ne_eqb (get_or c i 0) BOF (λ e. omega arith),
      ne_eqb (get_or c i 0) EOF (λ e. omega arith),
      ne_eqb (get_or c i 0) CE (λ e. omega arith),
      lt-leb 0xf8 (get_or c i 0) hb,
    )
    (keeps-adds t l.room n (get_or c i 0) m l.frame l.message hn))
    refl

-- .. and one that is escaped: CE and a byte D8 to DF
pub reaches-escape : (c : List ℕ) (i n : ℕ) (m : Option ℕ) (t : List ℕ) → Legal (record { frame = Inside n; message = m }) t → i + 1 < length c
    → n < content_limit → get_or c i 0 ≡ CE → 0xd8 ≤ get_or c (i + 1) 0 → get_or c (i + 1) 0 ≤ 0xdf
    → Reaches c i (record { frame = Inside n; message = m }) t (i + 1 + 1) (record { frame = Inside (n + 1); message = m })
    (set t (content_start + n) (bit_xor (get_or c (i + 1) 0) 0x20))
unfolding step in_place
reaches-escape c i n m t l h hn e lo hi =
    let begun : Reaches c i (record { frame = Inside n; message = m }) t (i + 1) (record { frame = Escaped n; message = m }) t =
    reaches_more c i (record { frame = Inside n; message = m }) t (going (Escaped n) m) t l (omega arith)
    (rw e (keeps-goes t l.room (Escaped n) m l.frame l.message)) refl in
    reaches-on begun
    (reaches_more c (i + 1) (record { frame = Escaped n; message = m }) t (going (Inside (n + 1)) m) (set t (content_start + n) (bit_xor (get_or c (i + 1) 0) 0x20))
    begun.legal h
    (simp (
      ne_eqb (get_or c (i + 1) 0) BOF (λ q. omega arith),
      ne_eqb (get_or c (i + 1) 0) EOF (λ q. omega arith),
      le-ltb (get_or c (i + 1) 0) 0xd8 lo,
      le-ltb 0xdf (get_or c (i + 1) 0) hi,
    )
    (keeps-adds t l.room n (bit_xor (get_or c (i + 1) 0) 0x20) m l.frame l.message hn))
    refl)

pub reaches-past : (c : List ℕ) (i other : ℕ) (s : Session) (t : List ℕ) → Stays s other → Legal s t → i < length c
    → (get_or c i 0 ≡ BOF → ⊥) → (get_or c i 0 ≡ other → ⊥) → Reaches c i s t (i + 1) s t
unfolding Stays
reaches-past c i other s t stays l h p q = reaches_more c i s t (going s.frame s.message) t l h (stays (get_or c i 0) t p q l) refl

-- a stray run, and the rest of a frame that has a fault
module _ (s : Session) where
  pub stays-stray : s.frame ≡ Stray → Stays s BOF
  unfolding Stays step in_place
  stays-stray e b t p q l =
      ap (λ (f : Frame). keeps (in_place (place_of f t) (message_of s.message t) b) t) e
      ∙ simp (ne_eqb b BOF p) (keeps-goes t l.room Stray s.message (omega arith) l.message)
      ∙ ap (λ (f : Frame). gives (going f s.message) t) (sym e)

  pub stays-fault : (x : Fault) (f : Frame) → s.frame ≡ f
      → ((t : List ℕ) (b : ℕ) → in_place (place_of f t) (message_of s.message t) b ≡ faulted x (place_of f t) (message_of s.message t) b) → Stays s EOF
  unfolding Stays step faulted
  stays-fault x f e i b t p q l =
      ap (λ (g : Frame). keeps (in_place (place_of g t) (message_of s.message t) b) t) e
      ∙ ap (λ (o : Step). keeps o t) (i t b)
      ∙ simp (ne_eqb b BOF p, ne_eqb b EOF q) (keeps-goes t l.room f s.message (omega (arith, ap frame_length e, l.frame)) l.message)
      ∙ ap (λ (g : Frame). gives (going g s.message) t) (sym e)
