-- What a byte does to the unfinished message. So a finished message stays in the store until a piece comes; and a piece leaves a message open until another
-- is finished or a fault throws it away.
use Prim.Native.Nat.{ℕ, ◌+◌, ◌≤◌}
use mathlib.Core.Path.{◌≡◌, refl, sym, ap, subst, ◌∙◌}
use mathlib.Core.List.{List, [], ◌∷◌, ◌++◌}
use mathlib.Core.Bool.{Bool, true, false, true≢false}
use native.Mathlib.Omega.{arith}
use borrow.Author.Tests.{le-leb, eq-eqb}
use lib.Bits.{bit_xor}
use lib.Dec.{leb, ltb, eqb}
use lib.ListN.{length}
use Rattle.base_choices.specs.Choices.{pick}
use Rattle.base_choices.proofs.Laws.{pick-by}
use Rattle.framing_content.specs.declared.Content.{Content}
use Rattle.framing_content.specs.declared.Content.TheVariants.{Request, Response, Piece}
use Rattle.std.specs.Prelude.{Result, Ok, Err}
use Rattle.framing_content.specs.declared.Fault.{Fault}
use Rattle.framing_content.specs.declared.Fault.TheVariants.{Stray, Cut, Byte, Long, Escape, Orphan, Big}
use Rattle.framing_content.specs.Content.{content_of, payload}
use Rattle.framing_content.specs.Numbers.{BOF, EOF, CE, content_limit, message_limit}
use Rattle.framing_session.specs.Rules.{Place, outside, stray, inside, escaped, bad_byte, too_long, Message, none, part, is_open, State, Step}
use Rattle.framing_session.specs.Rules.{makes, refuses, adds, joins, pieces, reads, ends, faulted, cuts, in_place, step}
use Rattle.framing_session.specs.Session.{held}
use Rattle.framing_session.proofs.Laws.{number-high, Bounded, within_step}
use Rattle.sheet_rules.specs.Reading.{refusal, message, in_frame, something_open}
use Rattle.sheet_stream.specs.Steps.{another, collects}

-- an event from 10 up; a message finished; one left open; or all as it was, m
pub data Way (m : Message) (o : Step) : Type 0 where
  high : 10 ≤ o.said.number → Way m o
  done : o.said.number ≡ 3 → o.next.message ≡ none → Way m o
  opens : o.said.number ≡ 2 → is_open o.next.message ≡ true → Way m o
  stays : o.next.message ≡ m → o.said.message ≡ [] → Way m o

module _ (m : Message) where
  w-makes : (p : Place) (n : ℕ) → Way m (makes p m n false [])
  w-makes p n = stays refl refl

  w-refuses : (f : Fault) (p : Place) → Way m (refuses f p m)
  w-refuses f p = high (number-high f)

  w-adds : (xs : List ℕ) (x : ℕ) → Way m (adds xs x m)
  unfolding adds
  w-adds xs x = pick-by (Way m) (ltb (length xs) content_limit) (λ t. w-makes (inside (xs ++ x ∷ [])) 0) (λ t. w-makes (too_long xs) 0)

  w-faulted : (f : Fault) (p : Place) (b : ℕ) → Way m (faulted f p m b)
  unfolding faulted
  w-faulted f p b =
      pick-by (Way m) (eqb b BOF) (λ t. w-refuses f (inside [])) (λ t. pick-by (Way m) (eqb b EOF) (λ t. w-refuses f outside) (λ t. w-makes p 0))

  w-cuts : (xs : List ℕ) → Way m (cuts xs m)
  unfolding cuts
  w-cuts xs = pick-by (Way m) (eqb (length xs) 0) (λ t. w-makes (inside []) 0) (λ t. w-refuses Cut (inside []))

  w-joins : (last d : Bool) (ys : List ℕ) → Way m (joins last d ys)
  w-joins false d ys = opens refl refl
  w-joins true d ys = done refl refl

w-pieces : (first last : Bool) (p : List ℕ) (m : Message) → Way m (pieces first last p m)
unfolding pieces
w-pieces true last p m = w-joins m last (is_open m) p
w-pieces false last p none = w-refuses none Orphan outside
w-pieces false last p (part xs) =
    pick-by (Way (part xs)) (leb (length xs + length p) message_limit) (λ t. w-joins (part xs) last false (xs ++ p)) (λ t. w-refuses (part xs) Big outside)

w-reads : (c : Result Content Fault) (p : List ℕ) (m : Message) → Way m (reads c p m)
w-reads (Err f) p m = w-refuses m f outside
w-reads (Ok Request) p m = w-makes m outside 4
w-reads (Ok Response) p m = w-makes m outside 5
w-reads (Ok (Piece first last)) p m = w-pieces first last p m

w-place : (p : Place) (m : Message) (b : ℕ) → Way m (in_place p m b)
unfolding in_place ends
w-place outside m b = pick-by (Way m) (eqb b BOF) (λ t. w-makes m (inside []) 0) (λ t. w-refuses m Stray stray)
w-place stray m b = pick-by (Way m) (eqb b BOF) (λ t. w-makes m (inside []) 0) (λ t. w-makes m stray 0)
w-place (inside xs) m b =
    pick-by (Way m) (eqb b BOF) (λ t. w-cuts m xs)
    (λ t. pick-by (Way m) (eqb b EOF) (λ t. w-reads (content_of xs) (payload xs) m)
    (λ t. pick-by (Way m) (eqb b CE) (λ t. w-makes m (escaped xs) 0)
    (λ t. pick-by (Way m) (leb 0xf8 b) (λ t. w-makes m (bad_byte xs) 0)
    (λ t. w-adds m xs b))))
w-place (escaped xs) m b =
    pick-by (Way m) (eqb b BOF) (λ t. w-refuses m Cut (inside []))
    (λ t. pick-by (Way m) (eqb b EOF) (λ t. w-refuses m Escape outside)
    (λ t. pick-by (Way m) (ltb b 0xd8) (λ t. w-makes m (bad_byte xs) 0)
    (λ t. pick-by (Way m) (ltb 0xdf b) (λ t. w-makes m (bad_byte xs) 0)
    (λ t. w-adds m xs (bit_xor b 0x20)))))
w-place (bad_byte xs) m b = w-faulted m Byte (bad_byte xs) b
w-place (too_long xs) m b = w-faulted m Long (too_long xs) b

pub way : (s : State) (b : ℕ) → Way s.message (step s b)
unfolding step
way s b = w-place s.place s.message b

-- a finished message is short
pub said-short : (s : State) (b : ℕ) → Bounded s → (step s b).said.number ≡ 3 → length (step s b).said.message ≤ message_limit
said-short s b h i = go (way s b)
  where
    go : Way s.message (step s b) → length (step s b).said.message ≤ message_limit
    go (high k) = absurd (omega (arith, i, k))
    go (done k j) = subst (λ (x : Message). length (held x (step s b).said.message) ≤ message_limit) j (within_step s b h).message
    go (opens k j) = absurd (omega (arith, i, k))
    go (stays k j) = subst (λ (x : List ℕ). length x ≤ message_limit) (sym j) (omega arith)

-- ---- where the last message finished is not the answer, it may be any

abbrev pub loose : ℕ → State → Bool
loose k s = pick (eqb k 1) (is_open s.message) true

pub loose_open : (k : ℕ) (s : State) → is_open s.message ≡ true → loose k s ≡ true
loose_open k s h = go (eqb k 1)
  where
    go : (u : Bool) → pick u (is_open s.message) true ≡ true
    go true = h
    go false = refl

loose-next : (k : ℕ) (s : State) (b : ℕ) → leb 10 (step s b).said.number ≡ false → eqb (step s b).said.number 3 ≡ false → loose k s ≡ true
    → loose k (step s b).next ≡ true
loose-next k s b p q h = go (way s b)
  where
    go : Way s.message (step s b) → loose k (step s b).next ≡ true
    go (high g) = absurd (true≢false (sym (le-leb _ _ g) ∙ p))
    go (done g e) = absurd (true≢false (sym (eq-eqb _ _ g) ∙ q))
    go (opens e g) = loose_open k (step s b).next g
    go (stays g e) = ap (λ (x : Message). pick (eqb k 1) (is_open x) true) g ∙ h

loose-end : (k : ℕ) (m m' : List ℕ) (s : State) → loose k s ≡ true → collects k m s [] ≡ collects k m' s []
unfolding collects something_open
loose-end k m m' s h = go (eqb k 1) h (in_frame s.place)
  where
    go : (u : Bool) → pick u (is_open s.message) true ≡ true → (v : Bool)
        → pick (pick v true (is_open s.message)) (refusal 33) (pick u (message m) (refusal 33))
        ≡ pick (pick v true (is_open s.message)) (refusal 33) (pick u (message m') (refusal 33))
    go true g true = refl
    go true g false = rw g refl
    go false g v = refl

pub collects-any : (bs : List ℕ) (k : ℕ) (m m' : List ℕ) (s : State) → loose k s ≡ true → collects k m s bs ≡ collects k m' s bs
unfolding collects
collects-any [] k m m' s h = loose-end k m m' s h
collects-any (b ∷ bs) k m m' s h = go (leb 10 (step s b).said.number) (eqb (step s b).said.number 3) refl refl (collects-any bs k m m' (step s b).next)
  where
    go : (u v : Bool) → leb 10 (step s b).said.number ≡ u → eqb (step s b).said.number 3 ≡ v
        → (loose k (step s b).next ≡ true → collects k m (step s b).next bs ≡ collects k m' (step s b).next bs)
        → pick u (refusal (step s b).said.number)
        (pick v (collects (another k) (step s b).said.message (step s b).next bs) (collects k m (step s b).next bs))
        ≡ pick u (refusal (step s b).said.number)
        (pick v (collects (another k) (step s b).said.message (step s b).next bs) (collects k m' (step s b).next bs))
    go true v p q f = refl
    go false true p q f = refl
    go false false p q f = f (loose-next k s b p q h)
