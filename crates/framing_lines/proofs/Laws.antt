-- Laws of the definitions, at plain variables.
use Prim.Native.Nat.{ℕ, zero, suc, ◌+◌, ◌-◌, ◌/◌, ◌%◌, ◌≤◌, ◌<◌, min}
use mathlib.Core.Path.{◌≡◌, refl, ap, ◌∙◌}
use mathlib.Core.Bool.{Bool, true, false}
use mathlib.Core.List.{List, [], ◌∷◌, ◌++◌}
use native.Mathlib.Omega.{arith}
use borrow.Author.Tests.{lt-ltb, le-ltb, le-leb, lt-leb, eq-eqb, ne_eqb}
use lib.Dec.{leb}
use lib.ListN.{length, take}
use Rattle.framing_session.specs.declared.Event.{Event}
use Rattle.framing_events.specs.Events.{length_of}
use Rattle.framing_events.proofs.Said.{said-is}
use Rattle.framing_content.specs.Numbers.{store_length}
use Rattle.framing_session.specs.Session.{said_by}
use Rattle.base_hex.specs.Digits.{hex_text}
use Rattle.base_output.specs.Output.{Wrote, wrote}
use Rattle.framing_lines.specs.Text.{line_room, wrote_line, wrote_event, space, newline, word_text, dash, decimal_text, head_text, event_text}

-- ---- text put into an output

-- a line is put, or nothing is
module _ (o : List ℕ) (at : ℕ) (text : List ℕ) (room : Bool) (is : room ≡ leb (at + line_room) (length o)) where
  pub line-put : room ≡ true → {w : Wrote} → wrote o at text ≡ w → wrote_line o at text ≡ w
  unfolding wrote_line
  line-put h e = rw (← is, h) e

  pub line-not : room ≡ false → wrote_line o at text ≡ record { next = at; output = o }
  unfolding wrote_line
  line-not h = rw (← is, h)

-- .. of an event
module _ (o : List ℕ) (at offset : ℕ) (e : Event) (store : List ℕ) where
  pub store-fits : length store ≤ store_length → wrote_event o at offset e store ≡ wrote_line o at (event_text offset (said_by e store))
  unfolding wrote_event
  store-fits h = simp (le-leb _ _ h)

  pub store_long : store_length < length store → wrote_event o at offset e store ≡ record { next = at; output = o }
  unfolding wrote_event
  store_long h = simp (lt-leb _ _ h)

-- .. with room, and a store that is not too long
module _ (o : List ℕ) (at : ℕ) (room : at + line_room ≤ length o) where
  pub line-whole : (text : List ℕ) → wrote_line o at text ≡ wrote o at text
  unfolding wrote_line
  line-whole text = simp (le-leb _ _ room)

  pub event-whole : (offset : ℕ) (e : Event) (store : List ℕ)
      → length store ≤ store_length
      → wrote_event o at offset e store ≡ wrote o at (event_text offset (said_by e store))
  event-whole offset e store h = store-fits o at offset e store h ∙ line-whole _

-- ---- words and numbers

pub word_none : (s : List ℕ) → length s ≡ 0 → word_text s ≡ dash
unfolding word_text
word_none s h = simp (eq-eqb _ _ h)

pub word_some : (s : List ℕ) → (length s ≡ 0 → ⊥) → word_text s ≡ hex_text s
unfolding word_text
word_some s h = simp (ne_eqb _ _ h)

pub decimal-none : (k n : ℕ) → k ≡ 0 → decimal_text k n ≡ []
unfolding decimal_text
decimal-none zero n h = refl
decimal-none (suc k) n h = absurd (omega arith)

pub decimal-one : (k n : ℕ) → (k ≡ 0 → ⊥) → n < 10 → decimal_text k n ≡ (48 + n) ∷ []
unfolding decimal_text
decimal-one zero n h l = absurd (h refl)
decimal-one (suc k) n h l = simp (lt-ltb _ _ l)

pub decimal-more : (k n : ℕ) → (k ≡ 0 → ⊥) → 10 ≤ n → decimal_text k n ≡ decimal_text (k - 1) (n / 10) ++ ((48 + n % 10) ∷ [])
unfolding decimal_text
decimal-more zero n h l = absurd (h refl)
decimal-more (suc k) n h l = let e : suc k - 1 ≡ k = omega arith in rw e (simp (le-ltb _ _ l))

-- ---- events

-- what is past the end is not taken
pub take-least : (n : ℕ) (t : List ℕ) → take (min n (length t)) t ≡ take n t
take-least zero t = let e : min 0 (length t) ≡ 0 = omega arith in rw e
take-least (suc n) [] = let e : min (suc n) 0 ≡ 0 = omega arith in rw e
take-least (suc n) (x ∷ t) =
    let e : min (suc n) (suc (length t)) ≡ suc (min n (length t)) = omega arith in
    rw e (ap (λ (r : List ℕ). x ∷ r) (take-least n t))

-- n and d are the event's number and discarded bit, as the code has them
module _ (o : ℕ) (e : Event) (t : List ℕ) (n : ℕ) (d : Bool) (is_number : n ≡ (said_by e []).number) (is_bit : d ≡ (said_by e []).discarded) where
  pub event-plain : (n ≡ 3 → ⊥) → event_text o (said_by e t) ≡ head_text o n d ++ newline
  unfolding event_text
  event-plain h = rw (said-is e t, ← is_number, ← is_bit) (simp (ne_eqb _ _ h))

  pub event-message : n ≡ 3 → event_text o (said_by e t) ≡ head_text o n d ++ ((space ++ word_text (take (length_of e) t)) ++ newline)
  unfolding event_text
  event-message h = rw (said-is e t, ← is_number, ← is_bit) (simp (eq-eqb _ _ h))
