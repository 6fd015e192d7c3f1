-- A stream of octets has messages of octets: a content byte is one of the stream's, or one of them XOR 20.
use Prim.Native.Nat.{ℕ, ◌+◌, ◌-◌, ◌<◌}
use mathlib.Core.Bool.{Bool, true, false}
use mathlib.Core.List.{List, [], ◌∷◌, ◌++◌}
use native.Mathlib.Omega.{arith}
use lib.Bits.{bit_xor, xor_lt}
use lib.Dec.{leb, ltb, eqb}
use lib.ListN.{length}
use Rattle.ber_integers.proofs.Radix.{Below}
use Rattle.ber_integers.proofs.Signs.{below-take, below-drop}
use Rattle.framing_content.specs.declared.Content.{Content}
use Rattle.framing_content.specs.declared.Content.TheVariants.{Request, Response, Piece}
use Rattle.std.specs.Prelude.{Result, Ok, Err}
use Rattle.framing_session.specs.declared.Event.{Event}
use Rattle.framing_session.specs.declared.Event.TheVariants as ev
use Rattle.framing_content.specs.declared.Fault.{Fault}
use Rattle.framing_content.specs.declared.Fault.TheVariants.{Stray, Cut, Byte, Long, Escape, Orphan, Big}
use Rattle.framing_content.specs.Content.{content_of, body, payload}
use Rattle.base_choices.specs.Choices.{pick}
use Rattle.base_choices.proofs.Laws.{pick-by}
use Rattle.framing_content.specs.Numbers.{BOF, EOF, CE, content_limit, message_limit}
use Rattle.framing_session.specs.Rules.{Place, outside, stray, inside, escaped, bad_byte, too_long, Message, none, part, is_open, State, Said, Step, begin}
use Rattle.framing_session.specs.Rules.{makes, refuses, adds, joins, pieces, reads, ends, faulted, cuts, in_place, step, Happening, noted, happens}
use Rattle.framing_session.specs.Session.{content, held, said_by}

pub below-append : (xs ys : List ℕ) → Below 256 xs → Below 256 ys → Below 256 (xs ++ ys)
below-append [] ys h k = k
below-append (x ∷ xs) ys h k = (h.0, below-append xs ys h.1 k)

-- the state's bytes, and a step's, are octets
pub record Octets (s : State) : Type 0 where
  pub frame : Below 256 (content s.place)
  pub message : Below 256 (held s.message [])

record After (o : Step) : Type 0 where
  pub next : Octets o.next
  pub told : Below 256 o.said.message

module _ (m : Message) (hm : Below 256 (held m [])) where
  o-makes : (p : Place) (n : ℕ) → Below 256 (content p) → After (makes p m n false [])
  o-makes p n h = record { next = record { frame = h; message = hm }; told = tt }

  o-refuses : (f : Fault) (p : Place) → Below 256 (content p) → After (refuses f p m)
  o-refuses f p h = record { next = record { frame = h; message = tt }; told = tt }

  o-adds : (xs : List ℕ) (x : ℕ) → Below 256 xs → x < 256 → After (adds xs x m)
  unfolding adds
  o-adds xs x h k =
      pick-by After (ltb (length xs) content_limit) (λ t. o-makes (inside (xs ++ x ∷ [])) 0 (below-append xs (x ∷ []) h (k, tt)))
      (λ t. o-makes (too_long xs) 0 h)

  o-faulted : (f : Fault) (p : Place) (b : ℕ) → Below 256 (content p) → After (faulted f p m b)
  unfolding faulted
  o-faulted f p b h =
      pick-by After (eqb b BOF) (λ t. o-refuses f (inside []) tt)
      (λ t. pick-by After (eqb b EOF) (λ t. o-refuses f outside tt) (λ t. o-makes p 0 h))

  o-cuts : (xs : List ℕ) → After (cuts xs m)
  unfolding cuts
  o-cuts xs = pick-by After (eqb (length xs) 0) (λ t. o-makes (inside []) 0 tt) (λ t. o-refuses Cut (inside []) tt)

o-joins : (last d : Bool) (ys : List ℕ) → Below 256 ys → After (joins last d ys)
o-joins false d ys h = record { next = record { frame = tt; message = h }; told = tt }
o-joins true d ys h = record { next = record { frame = tt; message = tt }; told = h }

o-pieces : (first last : Bool) (p : List ℕ) (m : Message) → Below 256 p → Below 256 (held m []) → After (pieces first last p m)
unfolding pieces
o-pieces true last p m hp hm = o-joins last (is_open m) p hp
o-pieces false last p none hp hm = o-refuses none hm Orphan outside tt
o-pieces false last p (part xs) hp hm =
    pick-by After (leb (length xs + length p) message_limit) (λ t. o-joins last false (xs ++ p) (below-append xs p hm hp))
    (λ t. o-refuses (part xs) hm Big outside tt)

o-reads : (c : Result Content Fault) (p : List ℕ) (m : Message) → Below 256 p → Below 256 (held m []) → After (reads c p m)
o-reads (Err f) p m hp hm = o-refuses m hm f outside tt
o-reads (Ok Request) p m hp hm = o-makes m hm outside 4 tt
o-reads (Ok Response) p m hp hm = o-makes m hm outside 5 tt
o-reads (Ok (Piece first last)) p m hp hm = o-pieces first last p m hp hm

o-place : (p : Place) (m : Message) (b : ℕ) → Below 256 (content p) → Below 256 (held m []) → b < 256 → After (in_place p m b)
unfolding in_place ends
o-place outside m b hp hm hb = pick-by After (eqb b BOF) (λ t. o-makes m hm (inside []) 0 tt) (λ t. o-refuses m hm Stray stray tt)
o-place stray m b hp hm hb = pick-by After (eqb b BOF) (λ t. o-makes m hm (inside []) 0 tt) (λ t. o-makes m hm stray 0 tt)
o-place (inside xs) m b hp hm hb =
    pick-by After (eqb b BOF) (λ t. o-cuts m hm xs)
    (λ t. pick-by After (eqb b EOF)
    (λ t. o-reads (content_of xs) (payload xs) m (below-drop 256 9 (body xs) (below-take 256 (length xs - 2) xs hp)) hm)
    (λ t. pick-by After (eqb b CE) (λ t. o-makes m hm (escaped xs) 0 hp)
    (λ t. pick-by After (leb 0xf8 b) (λ t. o-makes m hm (bad_byte xs) 0 hp)
    (λ t. o-adds m hm xs b hp hb))))
o-place (escaped xs) m b hp hm hb =
    pick-by After (eqb b BOF) (λ t. o-refuses m hm Cut (inside []) tt)
    (λ t. pick-by After (eqb b EOF) (λ t. o-refuses m hm Escape outside tt)
    (λ t. pick-by After (ltb b 0xd8) (λ t. o-makes m hm (bad_byte xs) 0 hp)
    (λ t. pick-by After (ltb 0xdf b) (λ t. o-makes m hm (bad_byte xs) 0 hp)
    (λ t. o-adds m hm xs (bit_xor b 0x20) hp (xor_lt 8 b 0x20 hb (omega arith))))))
o-place (bad_byte xs) m b hp hm hb = o-faulted m hm Byte (bad_byte xs) b hp
o-place (too_long xs) m b hp hm hb = o-faulted m hm Long (too_long xs) b hp

o-step : (s : State) (b : ℕ) → Octets s → b < 256 → After (step s b)
unfolding step
o-step s b h k = o-place s.place s.message b h.frame h.message k

-- every message of the events is octets
abbrev pub OctetsIn : List Happening → Type 0
OctetsIn [] = Unit {0}
OctetsIn (h ∷ hs) = Below 256 h.said.message × OctetsIn hs

in-noted : (e : Said) (n : ℕ) (hs : List Happening) → Below 256 e.message → OctetsIn hs → OctetsIn (noted e n hs)
in-noted e n hs h k = pick-by OctetsIn (eqb e.number 0) (λ t. k) (λ t. (h, k))

pub happens-octets : (bs : List ℕ) (s : State) (n : ℕ) → Octets s → Below 256 bs → OctetsIn (happens s n bs)
unfolding happens
happens-octets [] s n h k = tt
happens-octets (b ∷ bs) s n h k =
    let a = o-step s b h k.0 in
    in-noted (step s b).said (n + 1) (happens (step s b).next (n + 1) bs) a.told (happens-octets bs (step s b).next (n + 1) a.next k.1)

pub begin-octets : Octets begin
begin-octets = record { frame = tt; message = tt }

-- of an event and of those after it
pub octets-here : (e : Event) (t : List ℕ) (n : ℕ) (hs : List Happening) → OctetsIn (noted (said_by e t) n hs) → Below 256 (said_by e t).message
octets-here ev.More t n hs h = tt
octets-here ev.Setup t n hs h = tt
octets-here (ev.Piece d) t n hs h = tt
octets-here (ev.Message k d) t n hs h = h.0
octets-here ev.Request t n hs h = tt
octets-here ev.Response t n hs h = tt
octets-here (ev.Refused f d) t n hs h = tt

pub octets-rest : (e : Said) (n : ℕ) (hs : List Happening) → OctetsIn (noted e n hs) → OctetsIn hs
octets-rest e n hs = go (eqb e.number 0)
  where
    go : (u : Bool) → OctetsIn (pick u hs (record { offset = n; said = e } ∷ hs)) → OctetsIn hs
    go true h = h
    go false h = h.1
