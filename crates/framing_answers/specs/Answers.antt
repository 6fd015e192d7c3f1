-- Which calls from C are no SETUP, and what they answer in numbers.
use Rattle.std.specs.Prelude.{ℕ, min, Bool, false, cond, List, [], ◌∷◌, eqb, length, Option, Some, None}
use Rattle.base_choices.specs.Choices.{pick}
use Rattle.framing_session.specs.declared.Event.{Event}
use Rattle.framing_session.specs.Session.{said_by, legal}
use Rattle.framing_events.specs.Events.{length_of}
use Rattle.framing_words.specs.Words.{session_at, is_session}

-- 1 SETUP: words that are no session's, lengths over their limits, a store that is not 17,408 bytes, an answer that is not three words
unfoldable pub accepts : List ℕ → ℕ → ℕ → Bool
accepts ws n k = pick (eqb k 3) (pick (is_session ws) (legal (session_at ws) n) false) false

-- The answer: whether an unfinished message was thrown away, the bytes consumed, and the length of a finished message, which is the first bytes of a
-- store of m.
abbrev pub answer_of : Event → ℕ → ℕ → List ℕ
answer_of e n m = cond (said_by e []).discarded 1 0 ∷ n ∷ min (length_of e) m ∷ []

unfoldable pub answer_put : List ℕ → Event → ℕ → ℕ → List ℕ
answer_put a e n m = pick (eqb (length a) 3) (answer_of e n m) a

-- For each case of the writer's answer: its number, and the count of bytes, which 46 leaves as it was.
pub record Told : Type 0 where
  pub number : ℕ
  pub count : ℕ

abbrev pub tells : Option ℕ → ℕ → Told
tells (Some n) count = record { number = 0; count = n }
tells None count = record { number = 46; count = count }
