-- A message that a sheet holds has at most 16,384 bytes, and they are octets.
use Prim.Native.Nat.{ℕ, ◌+◌, ◌*◌, ◌≤◌, ◌<◌}
use mathlib.Core.Path.{◌≡◌, refl, sym, subst}
use mathlib.Core.List.{List, [], ◌∷◌}
use mathlib.Core.Bool.{Bool, true, false}
use native.Mathlib.Omega.{arith}
use borrow.Author.Tests.{eqb-true, eqb-false}
use lib.Dec.{eqb}
use lib.ListN.{length}
use Rattle.base_choices.specs.Choices.{pick}
use Rattle.base_hex.specs.Digits.{digit_of}
use Rattle.base_hex.proofs.Laws.{digit-small}
use Rattle.ber_integers.proofs.Radix.{Below}
use Rattle.framing_content.specs.Numbers.{message_limit}
use Rattle.framing_session.specs.Rules.{State, begin, step, Happening, noted, happens, after}
use Rattle.framing_session.proofs.Laws.{Bounded, bounded-begin, bounded-next, within_step}
use Rattle.turn_rules.proofs.Octets.{OctetsIn, happens-octets, begin-octets}
use Rattle.sheet_rules.specs.Lines.{Stream, bad, stream, push, Come, fresh, pairs, half, lines_from, lines_in}
use Rattle.sheet_rules.specs.Reading.{Held, refusal, message, finished, first_fault, something_open, one_of, of_events, held_in}
use Rattle.sheet_stream.proofs.Events.{finished-here, finished-later}
use Rattle.sheet_stream.proofs.Ways.{said-short}

-- what is so of every message that is finished is so of the one that is held
module _ (P : List ℕ → Type 0) where
  abbrev Each : List (List ℕ) → Type 0
  Each [] = Unit {0}
  Each (m ∷ ms) = P m × Each ms

  abbrev Holding : Held → Type 0
  Holding (refusal n) = Unit {0}
  Holding (message m) = P m

  holding-one : (ms : List (List ℕ)) → Each ms → Holding (one_of ms)
  holding-one [] h = tt
  holding-one (m ∷ []) h = h.0
  holding-one (m ∷ later ∷ ms) h = tt

  holding : (hs : List Happening) (end : State) → Each (finished hs) → Holding (of_events hs end)
  unfolding of_events
  holding hs end h = go (eqb (first_fault hs) 0) (something_open end)
    where
      go : (u v : Bool) → Holding (pick u (pick v (refusal 33) (one_of (finished hs))) (refusal (first_fault hs)))
      go true true = tt
      go true false = holding-one (finished hs) h
      go false v = tt

-- ---- lengths

abbrev Short : List ℕ → Type 0
Short m = length m ≤ message_limit

finished-short : (bs : List ℕ) (s : State) (n : ℕ) → Bounded s → Each Short (finished (happens s n bs))
unfolding happens finished
finished-short [] s n h = tt
finished-short (b ∷ bs) s n h =
    go (eqb (step s b).said.number 3) refl (finished-short bs (step s b).next (n + 1) (bounded-next (step s b) (within_step s b h)))
  where
    go : (u : Bool) → eqb (step s b).said.number 3 ≡ u → Each Short (finished (happens (step s b).next (n + 1) bs))
        → Each Short (finished (noted (step s b).said (n + 1) (happens (step s b).next (n + 1) bs)))
    go true q r =
        subst (Each Short) (sym (finished-here (step s b).said (n + 1) (happens (step s b).next (n + 1) bs) q)) (said-short s b h (eqb-true _ 3 q), r)
    go false q r = subst (Each Short) (sym (finished-later (step s b).said (n + 1) (happens (step s b).next (n + 1) bs) q)) r

stream-short : (x : Stream) → Holding Short (held_in x)
stream-short bad = tt
stream-short (stream bs) = holding Short (happens begin 0 bs) (after begin bs) (finished-short bs begin 0 bounded-begin)

-- "A message holds at most 16,384 bytes."
pub held-short : (text m : List ℕ) → held_in (lines_in text) ≡ message m → length m ≤ message_limit
held-short text m e = subst (Holding Short) e (stream-short (lines_in text))

-- ---- octets

finished-octets : (hs : List Happening) → OctetsIn hs → Each (Below 256) (finished hs)
unfolding finished
finished-octets [] h = tt
finished-octets (x ∷ hs) h = go (eqb x.said.number 3) (finished-octets hs h.1)
  where
    go : (u : Bool) → Each (Below 256) (finished hs) → Each (Below 256) (pick u (x.said.message ∷ finished hs) (finished hs))
    go true r = (h.0, r)
    go false r = r

-- pairs of digits are octets
abbrev OctetsOf : Stream → Type 0
OctetsOf bad = Unit {0}
OctetsOf (stream bs) = Below 256 bs

abbrev Digit : Come → Type 0
Digit fresh = Unit {0}
Digit pairs = Unit {0}
Digit (half d) = d < 16

digit-right : (b : ℕ) → eqb (digit_of b) 16 ≡ false → digit_of b < 16
digit-right b q = let k = digit-small b in let n = eqb-false (digit_of b) 16 q in omega (arith, k, n)

push-octets : (b : ℕ) (x : Stream) → b < 256 → OctetsOf x → OctetsOf (push b x)
push-octets b bad h k = tt
push-octets b (stream bs) h k = (h, k)

-- a digit before what it makes
digit-octets : (b : ℕ) (x : Stream) → (digit_of b < 16 → OctetsOf x) → OctetsOf (pick (eqb (digit_of b) 16) bad x)
digit-octets b x f = go (eqb (digit_of b) 16) refl
  where
    go : (u : Bool) → eqb (digit_of b) 16 ≡ u → OctetsOf (pick u bad x)
    go true q = tt
    go false q = f (digit-right b q)

lines-octets : (c : Come) (bs : List ℕ) → Digit c → OctetsOf (lines_from c bs)
unfolding lines_from
lines-octets fresh [] h = tt
lines-octets pairs [] h = tt
lines-octets (half d) [] h = tt
lines-octets fresh (b ∷ bs) h = digit-octets b (lines_from (half (digit_of b)) bs) (lines-octets (half (digit_of b)) bs)
lines-octets pairs (b ∷ bs) h = go (eqb b 10) (lines-octets fresh bs tt) (digit-octets b (lines_from (half (digit_of b)) bs) (lines-octets (half (digit_of b)) bs))
  where
    go : (u : Bool) → OctetsOf (lines_from fresh bs) → OctetsOf (pick (eqb (digit_of b) 16) bad (lines_from (half (digit_of b)) bs))
        → OctetsOf (pick u (lines_from fresh bs) (pick (eqb (digit_of b) 16) bad (lines_from (half (digit_of b)) bs)))
    go true f g = f
    go false f g = g
lines-octets (half d) (b ∷ bs) h =
    digit-octets b (push (d * 16 + digit_of b) (lines_from pairs bs))
    (λ k. push-octets (d * 16 + digit_of b) (lines_from pairs bs) (omega (arith, h, k)) (lines-octets pairs bs tt))

stream-octets : (x : Stream) → OctetsOf x → Holding (Below 256) (held_in x)
stream-octets bad h = tt
stream-octets (stream bs) h =
    holding (Below 256) (happens begin 0 bs) (after begin bs) (finished-octets (happens begin 0 bs) (happens-octets bs begin 0 begin-octets h))

pub held-octets : (text m : List ℕ) → held_in (lines_in text) ≡ message m → Below 256 m
held-octets text m e = subst (Holding (Below 256)) e (stream-octets (lines_in text) (lines-octets fresh text tt))
