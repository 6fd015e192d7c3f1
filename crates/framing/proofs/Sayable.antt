-- Whatever the rules say at a byte, some case of the event enum says: no call is left without an answer. No rule says 1: that is for what SETUP refuses alone.
use Prim.Native.Nat.{ℕ, ◌+◌}
use mathlib.Core.Bool.{Bool, true, false}
use mathlib.Core.List.{List, [], ◌∷◌, ◌++◌}
use mathlib.Core.Path.{◌≡◌, refl, ap}
use native.Mathlib.Omega.{arith}
use lib.Bits.{bit_xor}
use lib.Dec.{leb, ltb, eqb}
use lib.ListN.{length, take}
use Rattle.framing_content.specs.declared.Content.{Content}
use Rattle.framing_content.specs.declared.Content.TheVariants.{Request, Response, Piece}
use Rattle.std.specs.Prelude.{Result, Ok, Err}
use Rattle.framing_session.specs.declared.Event.{Event}
use Rattle.framing_session.specs.declared.Event.TheVariants as ev
use Rattle.framing_content.specs.declared.Fault.{Fault}
use Rattle.framing_session.specs.declared.Session.{Session}
use Rattle.framing_content.specs.declared.Fault.TheVariants.{Stray, Cut, Byte, Long, Escape, Orphan, Big}
use Rattle.framing_content.specs.Content.{content_of, payload}
use Rattle.base_choices.proofs.Laws.{pick-by}
use Rattle.framing_content.specs.Numbers.{BOF, EOF, CE, content_limit, message_limit, store_length}
use Rattle.framing_session.specs.Rules.{Place, outside, stray, inside, escaped, bad_byte, too_long, Message, none, part, is_open, State, Said, Step}
use Rattle.framing_session.specs.Rules.{goes, refuses, adds, joins, pieces, reads, ends, faulted, cuts, in_place, step}
use Rattle.framing_session.specs.Session.{said_by, state_of, held, kept, Legal, Whole, run, feeds}
use Rattle.framing_session.proofs.Laws.{number-apart, true-legal, Bounded, within_step, bounded-next, kept-length, kept-message}

-- the message that a step leaves, or has finished
abbrev message_after : Step → List ℕ
message_after o = held o.next.message o.said.message

-- an event that says what the step says, in any store where that message stands; and that this is not 1
record Says (o : Step) : Type 0 where
  pub event : Event
  pub says : (u : List ℕ) → take (length (message_after o)) u ≡ message_after o → said_by event u ≡ o.said
  pub other : eqb o.said.number 1 ≡ false

says-goes : (p : Place) (m : Message) → Says (goes p m)
says-goes p m = record { event = ev.More; says = λ u h. refl; other = refl }

says-refuses : (f : Fault) (p : Place) (m : Message) → Says (refuses f p m)
says-refuses f p m = record { event = ev.Refused f (is_open m); says = λ u h. refl; other = number-apart f (omega arith) }

says-adds : (xs : List ℕ) (x : ℕ) (m : Message) → Says (adds xs x m)
unfolding adds
says-adds xs x m = pick-by Says (ltb (length xs) content_limit) (λ t. says-goes (inside (xs ++ x ∷ [])) m) (λ t. says-goes (too_long xs) m)

says-joins : (last d : Bool) (ys : List ℕ) → Says (joins last d ys)
says-joins false d ys = record { event = ev.Piece d; says = λ u h. refl; other = refl }
says-joins true d ys =
    record {
      event = ev.Message (length ys) d;
      says = λ u h. ap (λ (zs : List ℕ). record { number = 3; discarded = d; message = zs }) h;
      other = refl;
    }

says-pieces : (first last : Bool) (p : List ℕ) (m : Message) → Says (pieces first last p m)
unfolding pieces
says-pieces true last p m = says-joins last (is_open m) p
says-pieces false last p none = says-refuses Orphan outside none
says-pieces false last p (part xs) =
    pick-by Says (leb (length xs + length p) message_limit) (λ t. says-joins last false (xs ++ p)) (λ t. says-refuses Big outside (part xs))

says-reads : (c : Result Content Fault) (p : List ℕ) (m : Message) → Says (reads c p m)
says-reads (Err f) p m = says-refuses f outside m
says-reads (Ok Request) p m = record { event = ev.Request; says = λ u h. refl; other = refl }
says-reads (Ok Response) p m = record { event = ev.Response; says = λ u h. refl; other = refl }
says-reads (Ok (Piece first last)) p m = says-pieces first last p m

says-faulted : (f : Fault) (p : Place) (m : Message) (b : ℕ) → Says (faulted f p m b)
unfolding faulted
says-faulted f p m b =
    pick-by Says (eqb b BOF) (λ t. says-refuses f (inside []) m)
    (λ t. pick-by Says (eqb b EOF) (λ t. says-refuses f outside m) (λ t. says-goes p m))

says-cuts : (xs : List ℕ) (m : Message) → Says (cuts xs m)
unfolding cuts
says-cuts xs m = pick-by Says (eqb (length xs) 0) (λ t. says-goes (inside []) m) (λ t. says-refuses Cut (inside []) m)

says-place : (p : Place) (m : Message) (b : ℕ) → Says (in_place p m b)
unfolding in_place ends
says-place outside m b = pick-by Says (eqb b BOF) (λ t. says-goes (inside []) m) (λ t. says-refuses Stray stray m)
says-place stray m b = pick-by Says (eqb b BOF) (λ t. says-goes (inside []) m) (λ t. says-goes stray m)
says-place (inside xs) m b =
    pick-by Says (eqb b BOF) (λ t. says-cuts xs m)
    (λ t. pick-by Says (eqb b EOF) (λ t. says-reads (content_of xs) (payload xs) m)
    (λ t. pick-by Says (eqb b CE) (λ t. says-goes (escaped xs) m)
    (λ t. pick-by Says (leb 0xf8 b) (λ t. says-goes (bad_byte xs) m)
    (λ t. says-adds xs b m))))
says-place (escaped xs) m b =
    pick-by Says (eqb b BOF) (λ t. says-refuses Cut (inside []) m)
    (λ t. pick-by Says (eqb b EOF) (λ t. says-refuses Escape outside m)
    (λ t. pick-by Says (ltb b 0xd8) (λ t. says-goes (bad_byte xs) m)
    (λ t. pick-by Says (ltb 0xdf b) (λ t. says-goes (bad_byte xs) m)
    (λ t. says-adds xs (bit_xor b 0x20) m))))
says-place (bad_byte xs) m b = says-faulted Byte (bad_byte xs) m b
says-place (too_long xs) m b = says-faulted Long (too_long xs) m b

-- an event that says a thing, in a store
abbrev pub Sayable : Said → List ℕ → Type 0
Sayable e u = (x : Event) × (said_by x u ≡ e)

pub step-sayable : (s : State) (b : ℕ) (t : List ℕ) → length t ≡ store_length → Bounded s → Sayable (step s b).said (kept (step s b) t)
unfolding step
step-sayable s b t room h =
    let k = says-place s.place s.message b in
    (k.event, k.says (kept (step s b) t) (kept-message (step s b) t room (within_step s b h)))

-- what a run says, in the store that it leaves
pub run-sayable : (c : List ℕ) (s : State) (t : List ℕ) (i : ℕ) → length t ≡ store_length → Bounded s → Sayable (run c s t i).said (run c s t i).store
unfolding run
run-sayable [] s t i room h = (ev.More, refl)
run-sayable (b ∷ bs) s t i room h =
    let o = step s b in
    let w = within_step s b h in
    pick-by (λ (x : Whole). Sayable x.said x.store) (eqb o.said.number 0)
    (λ e. run-sayable bs o.next (kept o t) (i + 1) (kept-length o t room w) (bounded-next o w))
    (λ e. step-sayable s b t room h)

-- A call with a legal session is not answered with 1.
pub run-other : (c : List ℕ) (s : State) (t : List ℕ) (i : ℕ) → eqb (run c s t i).said.number 1 ≡ false
unfolding run step
run-other [] s t i = refl
run-other (b ∷ bs) s t i =
    let o = step s b in
    pick-by (λ (x : Whole). eqb x.said.number 1 ≡ false) (eqb o.said.number 0) (λ e. run-other bs o.next (kept o t) (i + 1))
    (λ e. (says-place s.place s.message b).other)

pub legal-answered : (s : Session) (t c : List ℕ) → Legal s t → eqb (feeds s t c).said.number 1 ≡ false
unfolding feeds
legal-answered s t c l = rw (true-legal s t l) (run-other c (state_of s t) t 0)
