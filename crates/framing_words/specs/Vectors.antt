-- Words of sessions, and words of none, by computation: a line of the header each.
use Rattle.std.specs.Prelude.{ℕ, true, false, ◌≡◌, refl, List, [], ◌∷◌, map, Option, Some, None}
use Rattle.framing_session.specs.declared.Frame.{Frame}
use Rattle.framing_session.specs.declared.Frame.TheVariants.{Outside, Stray, Inside, Escaped, BadByte, TooLong}
use Rattle.framing_session.specs.declared.Session.{Session}
use Rattle.framing_words.specs.Words.{words_of, session_put, frame_at, pending_at, session_at, is_frame, is_pending, is_session}

abbrev at : Frame → Option ℕ → Session
at f m = record { frame = f; message = m }

abbrev four : ℕ → ℕ → ℕ → ℕ → List ℕ
four a b c d = a ∷ b ∷ c ∷ d ∷ []

-- Where the stream stands, 0 to 5, its length, and whether a message is open, with its length.
pub v-frames : map (λ (f : Frame). words_of (at f None)) (Outside ∷ Stray ∷ Inside 6 ∷ Escaped 7 ∷ BadByte 8 ∷ TooLong 1024 ∷ [])
    ≡ four 0 0 0 0 ∷ four 1 0 0 0 ∷ four 2 6 0 0 ∷ four 3 7 0 0 ∷ four 4 8 0 0 ∷ four 5 1024 0 0 ∷ []
v-frames = refl

pub v-messages : map (λ (m : Option ℕ). words_of (at (Inside 6) m)) (None ∷ Some 0 ∷ Some 9 ∷ []) ≡ four 2 6 0 0 ∷ four 2 6 1 0 ∷ four 2 6 1 9 ∷ []
v-messages = refl

-- .. and back.
pub v-back : map session_at (four 0 0 0 0 ∷ four 1 0 1 0 ∷ four 2 6 1 9 ∷ four 3 7 0 0 ∷ four 4 8 1 1 ∷ four 5 1024 0 0 ∷ [])
    ≡ at Outside None ∷ at Stray (Some 0) ∷ at (Inside 6) (Some 9) ∷ at (Escaped 7) None ∷ at (BadByte 8) (Some 1) ∷ at (TooLong 1024) None ∷ []
unfolding frame_at pending_at
v-back = refl

-- No length where no frame is open; no place over 5.
pub v-is-frame : map (λ (p : ℕ). is_frame p 0) (0 ∷ 1 ∷ 2 ∷ 3 ∷ 4 ∷ 5 ∷ 6 ∷ 7 ∷ []) ≡ true ∷ true ∷ true ∷ true ∷ true ∷ true ∷ false ∷ false ∷ []
unfolding is_frame
v-is-frame = refl

pub v-is-frame-long : map (λ (p : ℕ). is_frame p 1) (0 ∷ 1 ∷ 2 ∷ 3 ∷ 4 ∷ 5 ∷ 6 ∷ 7 ∷ [])
    ≡ false ∷ false ∷ true ∷ true ∷ true ∷ true ∷ false ∷ false ∷ []
unfolding is_frame
v-is-frame-long = refl

-- No length where no message is open; no count of open messages over 1.
pub v-is-pending : map (λ (o : ℕ). is_pending o 0) (0 ∷ 1 ∷ 2 ∷ 3 ∷ 255 ∷ []) ≡ true ∷ true ∷ false ∷ false ∷ false ∷ []
unfolding is_pending
v-is-pending = refl

pub v-is-pending-long : map (λ (o : ℕ). is_pending o 9) (0 ∷ 1 ∷ 2 ∷ 3 ∷ 255 ∷ []) ≡ false ∷ true ∷ false ∷ false ∷ false ∷ []
unfolding is_pending
v-is-pending-long = refl

-- Four words, and each right.
pub v-is-session : map is_session (four 0 0 0 0 ∷ four 5 9 1 9 ∷ four 6 9 1 9 ∷ four 0 9 1 9 ∷ four 5 9 2 9 ∷ four 5 9 2 0 ∷ four 5 9 0 9 ∷ [])
    ≡ true ∷ true ∷ false ∷ false ∷ false ∷ false ∷ false ∷ []
unfolding is_frame is_pending is_session
v-is-session = refl

pub v-is-session-count : map is_session ([] ∷ (0 ∷ 0 ∷ 0 ∷ []) ∷ (0 ∷ 0 ∷ 0 ∷ 0 ∷ 0 ∷ []) ∷ []) ≡ false ∷ false ∷ false ∷ []
unfolding is_session
v-is-session-count = refl

pub v-put : map (λ (ws : List ℕ). session_put ws (at (Escaped 7) (Some 9))) (four 8 8 8 8 ∷ (8 ∷ 8 ∷ 8 ∷ []) ∷ (8 ∷ 8 ∷ 8 ∷ 8 ∷ 8 ∷ []) ∷ [])
    ≡ four 3 7 1 9 ∷ (8 ∷ 8 ∷ 8 ∷ []) ∷ (8 ∷ 8 ∷ 8 ∷ 8 ∷ 8 ∷ []) ∷ []
unfolding session_put
v-put = refl
