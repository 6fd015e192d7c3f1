-- Laws of the definitions, at plain variables; and that words and sessions are each other's.
use Rattle.std.specs.Prelude.{Option, Some, None}
use Prim.Native.Nat.{ℕ}
use mathlib.Core.Path.{◌≡◌, refl}
use mathlib.Core.Bool.{Bool, true, false}
use mathlib.Core.List.{List}
use native.Mathlib.Omega.{arith}
use borrow.Author.Tests.{eqb-true, eq-eqb}
use lib.Dec.{eqb}
use lib.ListN.{length, get_or}
use Rattle.framing_session.specs.declared.Frame.{Frame}
use Rattle.framing_session.specs.declared.Frame.TheVariants.{Outside, Stray, Inside, Escaped, BadByte, TooLong}
use Rattle.framing_session.specs.declared.Session.{Session}
use Rattle.base_choices.specs.Choices.{pick}
use Rattle.framing_session.specs.Session.{frame_length, message_length}
use Rattle.framing_words.specs.Words.{place_word, open_word, words_of, frame_at, pending_at, session_at, is_frame, is_pending, is_session, session_put}

-- ---- sessions and words

-- a session's words are words of a session, and are that session's
pub frame_back : (f : Frame) → frame_at (place_word f) (frame_length f) ≡ f
unfolding frame_at
frame_back Outside = refl
frame_back Stray = refl
frame_back (Inside n) = refl
frame_back (Escaped n) = refl
frame_back (BadByte n) = refl
frame_back (TooLong n) = refl

pub pending-back : (m : Option ℕ) → pending_at (open_word m) (message_length m) ≡ m
unfolding pending_at
pending-back None = refl
pending-back (Some n) = refl

is-frame : (f : Frame) → is_frame (place_word f) (frame_length f) ≡ true
unfolding is_frame
is-frame Outside = refl
is-frame Stray = refl
is-frame (Inside n) = refl
is-frame (Escaped n) = refl
is-frame (BadByte n) = refl
is-frame (TooLong n) = refl

is-pending : (m : Option ℕ) → is_pending (open_word m) (message_length m) ≡ true
unfolding is_pending
is-pending None = refl
is-pending (Some n) = refl

pub words_back : (s : Session) → session_at (words_of s) ≡ s
words_back s = rw (frame_back s.frame, pending-back s.message)

pub words-session : (s : Session) → is_session (words_of s) ≡ true
unfolding is_session
words-session s = rw (is-frame s.frame) (is-pending s.message)

never : false ≡ true → ⊥
never g = let z : ◌≡◌ {A = ℕ} 0 1 = cc in omega arith

pub session-length : (ws : List ℕ) → is_session ws ≡ true → length ws ≡ 4
unfolding is_session
session-length ws h = by (eqb (length ws) 4) refl h
  where
    by : (t : Bool) → eqb (length ws) 4 ≡ t → pick t (pick (is_frame (get_or ws 0 0) (get_or ws 1 0)) (is_pending (get_or ws 2 0) (get_or ws 3 0)) false) false
        ≡ true → length ws ≡ 4
    by true e g = eqb-true _ _ e
    by false e g = absurd (never g)

-- ---- words of a lent slice

pub put_four : (ws : List ℕ) (s : Session) → length ws ≡ 4 → session_put ws s ≡ words_of s
unfolding session_put
put_four ws s h = rw (eq-eqb _ _ h)
