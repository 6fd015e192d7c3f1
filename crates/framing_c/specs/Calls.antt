-- What each call from C answers and leaves, for all lent slices.
use Rattle.std.specs.Prelude.{ℕ, cond, List, [], ◌∷◌, eqb, length}
use Rattle.base_choices.specs.Choices.{pick}
use Rattle.framing_session.specs.Rules.{begin}
use Rattle.framing_session.specs.Session.{Whole, session_of, feeds}
use Rattle.framing_packets.specs.Written.{Outcome}
use Rattle.framing_words.specs.Words.{words_of, session_at}
use Rattle.framing_answers.specs.Answers.{accepts}

-- The number, and the session's words.
pub record Started : Type 0 where
  pub number : ℕ
  pub session : List ℕ

-- 1 SETUP for a session that has not four words
unfoldable pub starts : List ℕ → Started
starts ws = pick (eqb (length ws) 4) (record { number = 0; session = words_of (session_of begin) }) (record { number = 1; session = ws })

-- The number, the session's words, the store, and the three words of the answer.
pub record Called : Type 0 where
  pub number : ℕ
  pub session : List ℕ
  pub store : List ℕ
  pub answer : List ℕ

-- the answer: whether an unfinished message was thrown away, the bytes consumed, the length of a finished message
unfoldable pub called_of : Whole → Called
called_of w =
    record {
      number = w.said.number;
      session = words_of w.session;
      store = w.store;
      answer = cond w.said.discarded 1 0 ∷ w.consumed ∷ length w.said.message ∷ [];
    }

-- "1 leaves everything as it was"
unfoldable pub calls : List ℕ → List ℕ → List ℕ → List ℕ → Called
calls ws t bytes a =
    pick (accepts ws (length t) (length a)) (called_of (feeds (session_at ws) t bytes)) (record { number = 1; session = ws; store = t; answer = a })

-- What a call of the writer answers, and leaves in the output and the count.
pub record Put : Type 0 where
  pub number : ℕ
  pub output : List ℕ
  pub count : ℕ

unfoldable pub puts : Outcome → ℕ → Put
puts o count = record { number = o.number; output = o.output; count = pick (eqb o.number 0) o.count count }
