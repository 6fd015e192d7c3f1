-- Laws for the functions: one byte offered to the session is one step of the rules, and leaves what the bytes give.
use Rattle.std.specs.Prelude.{Option, Some, None}
use Prim.Native.Nat.{ℕ, ◌≤◌, ◌<◌}
use mathlib.Core.Path.{◌≡◌, refl, sym, ap, subst, ◌∙◌}
use mathlib.Core.List.{List, [], ◌∷◌}
use mathlib.Core.Bool.{Bool, true, false, true≢false}
use native.Mathlib.Omega.{arith}
use borrow.Author.Tests.{eqb-true, eq-eqb, ne_eqb, le-leb, lt-leb}
use lib.ListN.{length, take, length-take}
use lib.Seq.{sets}
use lib.Dec.{leb, eqb}
use Rattle.framing_session.specs.declared.Event.{Event}
use Rattle.framing_session.specs.declared.Event.TheVariants as ev
use Rattle.framing_session.specs.declared.Fed.{Fed}
use Rattle.framing_session.specs.declared.Frame.{Frame}
use Rattle.framing_session.specs.declared.Frame.TheVariants.{Outside, Stray, Inside, Escaped, BadByte, TooLong}
use Rattle.framing_session.specs.declared.Session.{Session}
use Rattle.base_choices.specs.Choices.{pick}
use Rattle.framing_content.specs.Numbers.{store_length, message_limit, content_start}
use Rattle.framing_session.specs.Rules.{Message, none, part, is_open, State, Step, begin, step, happens, after}
use Rattle.framing_session.specs.Session.{said_by, place_of, message_of, state_of, session_of, legal, Legal, content, held, kept, Whole, whole, answers, run, feeds}
use Rattle.framing_session.proofs.Lists.{take-sets-le}
use Rattle.framing_session.proofs.Laws.{legal-true, true-legal, Bounded, bounded-state, Within, within_step, kept-state, legal-next, number-high}
use Rattle.sheet_rules.specs.Lines.{Stream, lines_in}
use Rattle.sheet_rules.specs.Reading.{Held, refusal, message, in_frame, something_open, of_events, held_in}
use Rattle.sheet_rules.specs.Lines.{is_bad}
use Rattle.sheet_stream.specs.declared.Tally.{Tally}
use Rattle.sheet_stream.specs.declared.Found.{Found}
use Rattle.sheet_stream.specs.Finding.{setup, holds, store_from, store_after, finds, found_by}
use Rattle.sheet_stream.specs.Steps.{frame_open, part_open, open_in, bytes_from, another, collects, left, stored, Sound, Taken}
use Rattle.framing.proofs.Chunks.{fresh-legal}
use Rattle.sheet_stream.proofs.Lines.{lines-bytes, lines-bad}
use Rattle.sheet_stream.proofs.Events.{collects-all}
use Rattle.sheet_stream.proofs.Ways.{Way, high, done, opens, stays, way, said-short, loose_open, collects-any}

-- an event's number does not depend on the store
said-any : (e : Event) (t : List ℕ) → (said_by e []).number ≡ (said_by e t).number
said-any ev.More t = refl
said-any ev.Setup t = refl
said-any (ev.Piece d) t = refl
said-any (ev.Message n d) t = refl
said-any ev.Request t = refl
said-any ev.Response t = refl
said-any (ev.Refused f d) t = refl

-- the `else` of a `let .. else`
pub no-message : (e : Event) → ((n : ℕ) (d : Bool) → e ≡ ev.Message n d → ⊥) → (said_by e []).number < 10 → eqb (said_by e []).number 3 ≡ false
no-message ev.More k h = refl
no-message ev.Setup k h = refl
no-message (ev.Piece d) k h = refl
no-message (ev.Message n d) k h = absurd (k n d refl)
no-message ev.Request k h = refl
no-message ev.Response k h = refl
no-message (ev.Refused f d) k h = absurd (omega (arith, number-high f, h))

module _ (r : Tally) (t : List ℕ) (b : ℕ) (l : Sound r t) (z : r.refused ≡ 0) (f : Fed) (t' : List ℕ)
    (e : feeds r.session t (b ∷ []) ≡ answers f t') where
  abbrev o : Step
  o = step (state_of r.session t) b

  abbrev n : ℕ
  n = o.said.number

  lawful : Legal r.session t
  lawful = legal-true r.session t l.legal

  bounded : Bounded (state_of r.session t)
  bounded = bounded-state r.session t lawful.room lawful.frame lawful.message

  within : Within o
  within = within_step (state_of r.session t) b bounded

  one-run : run (b ∷ []) (state_of r.session t) t 0 ≡ answers f t'
  unfolding feeds
  one-run = rw l.legal at e

  -- what is told, and the session and the store that are left
  told : ((said_by f.event t').number ≡ n) × ((n ≡ 3 → (said_by f.event t').message ≡ o.said.message)
      × ((f.session ≡ session_of o.next) × (t' ≡ kept o t)))
  unfolding run
  told = go (eqb n 0) refl one-run
    where
      go : (u : Bool) → eqb n 0 ≡ u → pick u (run [] o.next (kept o t) 1) (whole o.said 1 o.next (kept o t)) ≡ answers f t'
          → ((said_by f.event t').number ≡ n)
          × ((n ≡ 3 → (said_by f.event t').message ≡ o.said.message) × ((f.session ≡ session_of o.next) × (t' ≡ kept o t)))
      go true q k =
          let a = eqb-true n 0 q in (
            sym (ap (λ (x : Whole). x.said.number) k) ∙ sym a,
            (λ g. absurd (omega (arith, a, g)), (sym (ap (λ (x : Whole). x.session) k), sym (ap (λ (x : Whole). x.store) k))),
          )
      go false q k = (
        sym (ap (λ (x : Whole). x.said.number) k),
        (λ g. sym (ap (λ (x : Whole). x.said.message) k), (sym (ap (λ (x : Whole). x.session) k), sym (ap (λ (x : Whole). x.store) k))),
      )

  number_is : (said_by f.event []).number ≡ n
  number_is = said-any f.event t' ∙ told.0

  state-is : state_of f.session t' ≡ o.next
  state-is =
      ap (λ (s : Session). state_of s t') told.1.1.0 ∙ ap (λ (x : List ℕ). state_of (session_of o.next) x) told.1.1.1
      ∙ kept-state o t lawful.room within

  lawful-next : legal f.session (length t') ≡ true
  lawful-next =
      ap (λ (s : Session). legal s (length t')) told.1.1.0 ∙ ap (λ (x : List ℕ). legal (session_of o.next) (length x)) told.1.1.1
      ∙ true-legal (session_of o.next) (kept o t) (legal-next o t lawful.room within)

  -- what the bytes give, by what this one makes
  left_is : (bs : List ℕ) → left r t (b ∷ bs) ≡ collects r.messages (take r.length t) (state_of r.session t) (b ∷ bs)
  unfolding left
  left_is bs = rw (eq-eqb _ _ z) refl

  stored_is : (bs : List ℕ) → stored r t (b ∷ bs) ≡ pick (leb 10 n) (kept o t) (store_from o.next (kept o t) bs)
  unfolding stored store_from
  stored_is bs = rw (eq-eqb _ _ z) refl

  -- the bytes after one that is no event from 10 up go on
  stored_on : n < 10 → (x : Tally) → x.session ≡ f.session → x.refused ≡ 0 → (bs : List ℕ) → stored r t (b ∷ bs) ≡ stored x t' bs
  unfolding stored
  stored_on h x q k bs =
      stored_is bs ∙ rw (lt-leb 10 n h) refl
      ∙ ap (λ (s : List ℕ). store_from o.next s bs) (sym told.1.1.1)
      ∙ ap (λ (s : State). store_from s t' bs) (sym state-is)
      ∙ ap (λ (s : Session). store_from (state_of s t') t' bs) (sym q)
      ∙ rw (eq-eqb _ _ k) refl

  pub taken-high : (x : ℕ) → x ≡ (said_by f.event []).number → 10 ≤ x
      → Taken r t b (record { session = f.session; messages = r.messages; length = r.length; refused = x }) t'
  unfolding left collects stored
  taken-high x q h =
      let i : x ≡ n = q ∙ number_is in
      record {
        same = λ bs. left_is bs ∙ rw (le-leb 10 n (omega (arith, i, h)), ne_eqb x 0 (λ g. omega (arith, g, h))) (ap refusal (sym i));
        stores = λ bs. stored_is bs ∙ rw (le-leb 10 n (omega (arith, i, h)), ne_eqb x 0 (λ g. omega (arith, g, h))) (sym told.1.1.1);
        sound = record { legal = lawful-next; short = l.short };
      }

  -- the message that is in the store stays, or is not the answer
  stays-there : n < 10 → eqb n 3 ≡ false → (bs : List ℕ)
      → collects r.messages (take r.length t) o.next bs ≡ collects r.messages (take r.length t') o.next bs
  unfolding kept
  stays-there h g bs = go (is_open o.next.message) refl
    where
      open-way : Way (state_of r.session t).message o → is_open o.next.message ≡ false → held o.next.message o.said.message ≡ []
      open-way (high k) q = absurd (omega (arith, h, k))
      open-way (done k j) q = absurd (true≢false (sym (eq-eqb _ _ k) ∙ g))
      open-way (opens j k) q = absurd (true≢false (sym k ∙ q))
      open-way (stays k j) q = by-message o.next.message o.said.message q j
        where
          by-message : (m : Message) (ys : List ℕ) → is_open m ≡ false → ys ≡ [] → held m ys ≡ []
          by-message none ys a c = c
          by-message (part xs) ys a c = absurd (true≢false a)

      go : (u : Bool) → is_open o.next.message ≡ u
          → collects r.messages (take r.length t) o.next bs ≡ collects r.messages (take r.length t') o.next bs
      go true q = collects-any bs r.messages (take r.length t) (take r.length t') o.next (loose_open r.messages o.next q)
      go false q =
          let ys = held o.next.message o.said.message in
          let i : take r.length (kept o t) ≡ take r.length t =
          take-sets-le (content o.next.place) (sets t 0 ys) content_start r.length l.short
          ∙ ap (λ (x : List ℕ). take r.length (sets t 0 x)) (open-way (way (state_of r.session t) b) q) in
          ap (λ (x : List ℕ). collects r.messages x o.next bs) (sym i ∙ ap (λ (x : List ℕ). take r.length x) (sym told.1.1.1))

  pub taken-on : (said_by f.event []).number < 10 → eqb (said_by f.event []).number 3 ≡ false
      → Taken r t b (record { session = f.session; messages = r.messages; length = r.length; refused = 0 }) t'
  unfolding left collects
  taken-on h g =
      let i = number_is in
      let j : n < 10 = omega (arith, i, h) in
      let k : eqb n 3 ≡ false = ap (λ (x : ℕ). eqb x 3) (sym i) ∙ g in
      record {
        same = λ bs. left_is bs ∙ rw (lt-leb 10 n j, k, state-is) (stays-there j k bs);
        stores = stored_on j (record { session = f.session; messages = r.messages; length = r.length; refused = 0 }) refl refl;
        sound = record { legal = lawful-next; short = l.short };
      }

  pub taken-message : (k : ℕ) (d : Bool) → f.event ≡ ev.Message k d → (x : ℕ) → another r.messages ≡ x
      → Taken r t b (record { session = f.session; messages = x; length = k; refused = 0 }) t'
  unfolding left collects
  taken-message k d q x c =
      let i : 3 ≡ n = ap (λ (x : Event). (said_by x []).number) (sym q) ∙ number_is in
      let j : take k t' ≡ o.said.message = ap (λ (x : Event). (said_by x t').message) (sym q) ∙ told.1.0 (sym i) in
      let s : length (take k t') ≤ message_limit = subst (λ (x : List ℕ). length x ≤ message_limit) (sym j)
      (said-short (state_of r.session t) b bounded (sym i)) in
      let a = length-take k t' in
      let room = (legal-true f.session t' lawful-next).room in
      record {
        same = λ bs. left_is bs ∙ rw (lt-leb 10 n (omega (arith, i)), eq-eqb n 3 (sym i), state-is, j, c) refl;
        stores = stored_on (omega (arith, i)) (record { session = f.session; messages = x; length = k; refused = 0 }) refl refl;
        sound = record { legal = lawful-next; short = omega (arith, s, a, room) };
      }

-- ---- the beginning

pub sound-start : (s : Session) (t : List ℕ) → s ≡ session_of begin → length t ≡ store_length
    → Sound (record { session = s; messages = 0; length = 0; refused = 0 }) t
sound-start s t e h =
    record { legal = ap (λ (x : Session). legal x (length t)) e ∙ true-legal (session_of begin) t (fresh-legal h); short = omega arith }

left-start : (s : Session) (t bs : List ℕ) → s ≡ session_of begin
    → of_events (happens begin 0 bs) (after begin bs) ≡ left (record { session = s; messages = 0; length = 0; refused = 0 }) t bs
unfolding left
left-start s t bs e = collects-all bs ∙ ap (λ (x : Session). collects 0 [] (state_of x t) bs) (sym e)

stored-start : (s : Session) (t bs : List ℕ) → s ≡ session_of begin
    → store_from begin t bs ≡ stored (record { session = s; messages = 0; length = 0; refused = 0 }) t bs
unfolding stored
stored-start s t bs e = ap (λ (x : Session). store_from (state_of x t) t bs) (sym e)

-- ---- the end

open-frame : (f : Frame) (t : List ℕ) → in_frame (place_of f t) ≡ frame_open f
open-frame Outside t = refl
open-frame Stray t = refl
open-frame (Inside n) t = refl
open-frame (Escaped n) t = refl
open-frame (BadByte n) t = refl
open-frame (TooLong n) t = refl

open-part : (m : Option ℕ) (t : List ℕ) → is_open (message_of m t) ≡ part_open m
open-part None t = refl
open-part (Some n) t = refl

open_is : (s : Session) (t : List ℕ) → something_open (state_of s t) ≡ open_in s
unfolding something_open
open_is s t = rw (open-frame s.frame t, open-part s.message t) refl

module _ (r : Tally) (t : List ℕ) where
  pub left-refused : (bs : List ℕ) → (r.refused ≡ 0 → ⊥) → left r t bs ≡ refusal r.refused
  unfolding left
  left-refused bs h = rw (ne_eqb _ _ h) refl

  -- what is left makes no difference then
  left-none : (bs : List ℕ) → (r.refused ≡ 0 → ⊥) → left r t bs ≡ left r t []
  left-none bs h = left-refused bs h ∙ sym (left-refused [] h)

  stored_refused : (bs : List ℕ) → (r.refused ≡ 0 → ⊥) → stored r t bs ≡ t
  unfolding stored
  stored_refused bs h = rw (ne_eqb _ _ h) refl

  stored-end : r.refused ≡ 0 → stored r t [] ≡ t
  unfolding stored store_from
  stored-end h = rw (eq-eqb _ _ h) refl

  module _ (z : r.refused ≡ 0) where
    pub left_open : open_in r.session ≡ true → left r t [] ≡ refusal 33
    unfolding left collects
    left_open h = rw (eq-eqb _ _ z, open_is r.session t, h) refl

    module _ (h : open_in r.session ≡ false) where
      pub left_one : r.messages ≡ 1 → left r t [] ≡ message (take r.length t)
      unfolding left collects
      left_one k = rw (eq-eqb _ _ z, open_is r.session t, h, eq-eqb _ _ k) refl

      pub left-many : (r.messages ≡ 1 → ⊥) → left r t [] ≡ refusal 33
      unfolding left collects
      left-many k = rw (eq-eqb _ _ z, open_is r.session t, h, ne_eqb _ _ k) refl

-- ---- from the beginning to here

-- the bytes left, after those that gave r and left the store t, give what all of them give, and leave what they leave
pub record Goes (all t₀ : List ℕ) (r : Tally) (t bs : List ℕ) : Type 0 where
  pub held-is : of_events (happens begin 0 all) (after begin all) ≡ left r t bs
  pub store_is : store_from begin t₀ all ≡ stored r t bs

pub goes-start : (s : Session) (t bs : List ℕ) → s ≡ session_of begin → Goes bs t (record { session = s; messages = 0; length = 0; refused = 0 }) t bs
goes-start s t bs e = record { held-is = left-start s t bs e; store_is = stored-start s t bs e }

module _ {all t₀ : List ℕ} {r : Tally} {t : List ℕ} where
  pub goes-as : {bs bs' : List ℕ} → Goes all t₀ r t bs → bs ≡ bs' → Goes all t₀ r t bs'
  goes-as g e = subst (Goes all t₀ r t) e g

  pub goes-byte : {b : ℕ} {bs : List ℕ} {r' : Tally} {t' : List ℕ} → Goes all t₀ r t (b ∷ bs) → Taken r t b r' t' → Goes all t₀ r' t' bs
  goes-byte {bs = bs} g k = record { held-is = g.held-is ∙ k.same bs; store_is = g.store_is ∙ k.stores bs }

  pub goes-refused : {bs : List ℕ} → Goes all t₀ r t bs → (r.refused ≡ 0 → ⊥)
      → (of_events (happens begin 0 all) (after begin all) ≡ left r t []) × (store_from begin t₀ all ≡ t)
  goes-refused {bs} g h = (g.held-is ∙ left-none r t bs h, g.store_is ∙ stored_refused r t bs h)

  pub goes_end : Goes all t₀ r t [] → r.refused ≡ 0 → (of_events (happens begin 0 all) (after begin all) ≡ left r t []) × (store_from begin t₀ all ≡ t)
  goes_end g h = (g.held-is, g.store_is ∙ stored-end r t h)

-- ---- the whole

module _ (text t : List ℕ) where
  pub finds-setup : (length t ≡ store_length → ⊥) → finds text t ≡ setup t
  unfolding finds
  finds-setup h = rw (ne_eqb _ _ h) refl

  pub finds-bad : length t ≡ store_length → is_bad (lines_in text) ≡ true → finds text t ≡ holds (refusal 12) t
  unfolding finds
  finds-bad h k = rw (eq-eqb _ _ h) (ap (λ (x : Stream). holds (held_in x) (store_after x t)) (lines-bad (lines_in text) k))

  finds-lines : length t ≡ store_length → is_bad (lines_in text) ≡ false
      → finds text t ≡ holds (of_events (happens begin 0 (bytes_from 16 text)) (after begin (bytes_from 16 text))) (store_from begin t (bytes_from 16 text))
  unfolding finds
  finds-lines h k = rw (eq-eqb _ _ h) (ap (λ (x : Stream). holds (held_in x) (store_after x t)) (lines-bytes text k))

  pub finds-end : length t ≡ store_length → is_bad (lines_in text) ≡ false → (r : Tally) (t' : List ℕ)
      → of_events (happens begin 0 (bytes_from 16 text)) (after begin (bytes_from 16 text)) ≡ left r t' [] → store_from begin t (bytes_from 16 text) ≡ t'
      → (f : Found) → holds (left r t' []) t' ≡ found_by f t' → finds text t ≡ found_by f t'
  finds-end h k r t' a b f e = finds-lines h k ∙ ap (λ (x : Held). holds x (store_from begin t (bytes_from 16 text))) a ∙ ap (holds (left r t' [])) b ∙ e
