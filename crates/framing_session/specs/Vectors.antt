-- Where 1 SETUP is answered, by computation. Document 01's samples are one table: crates/turns/specs/Samples.antt.
use Rattle.std.specs.Prelude.{ℕ, Bool, true, false, ◌≡◌, refl, List, [], ◌∷◌, map, Option, Some, None}
use Rattle.framing_session.specs.declared.Frame.{Frame}
use Rattle.framing_session.specs.declared.Frame.TheVariants.{Outside, Inside, Escaped, BadByte, TooLong}
use Rattle.framing_session.specs.declared.Session.{Session}
use Rattle.framing_session.specs.Session.{legal, feeds}

-- 1 SETUP: "store not 17,408 bytes, .. a session's frame length over 1,024 or message length over 16,384"
abbrev lawful : Frame → Option ℕ → ℕ → Bool
lawful f m n = legal (record { frame = f; message = m }) n

pub setup-stores : map (lawful Outside None) (0 ∷ 17407 ∷ 17408 ∷ 17409 ∷ []) ≡ false ∷ false ∷ true ∷ false ∷ []
setup-stores = refl

pub setup-messages : map (λ (m : ℕ). lawful Outside (Some m) 17408) (0 ∷ 16384 ∷ 16385 ∷ []) ≡ true ∷ true ∷ false ∷ []
setup-messages = refl

abbrev lawful_frames : List Bool → List Bool → Type 0
lawful_frames full over =
    (map (λ (f : Frame). lawful f None 17408) (Inside 1024 ∷ Escaped 1024 ∷ BadByte 1024 ∷ TooLong 1024 ∷ []) ≡ full)
    × (map (λ (f : Frame). lawful f None 17408) (Inside 1025 ∷ Escaped 1025 ∷ BadByte 1025 ∷ TooLong 1025 ∷ []) ≡ over)

pub setup-frames : lawful_frames (true ∷ true ∷ true ∷ true ∷ []) (false ∷ false ∷ false ∷ false ∷ [])
setup-frames = (refl, refl)

-- "1 leaves everything as it was, 0 consumed"
abbrev nine : Session
nine = record { frame = Outside; message = Some 9 }

pub setup-answers : feeds nine (5 ∷ 6 ∷ []) (0xfe ∷ [])
    ≡ record { said = record { number = 1; discarded = false; message = [] }; consumed = 0; session = nine; store = 5 ∷ 6 ∷ [] }
unfolding feeds
setup-answers = refl
