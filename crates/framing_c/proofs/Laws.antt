-- Laws of the definitions, at plain variables.
use Rattle.std.specs.Prelude.{Option, Some, None}
use Prim.Native.Nat.{ℕ}
use mathlib.Core.Path.{◌≡◌, sym, ap, subst, ◌∙◌}
use mathlib.Core.Bool.{true, false}
use mathlib.Core.List.{List, []}
use lib.ListN.{length, length-take}
use Rattle.framing_session.specs.declared.Fed.{Fed}
use Rattle.framing_session.specs.declared.Session.{Session}
use Rattle.framing_session.specs.Session.{said_by, answers, legal, feeds}
use Rattle.framing_packets.specs.Written.{Outcome, outcome}
use Rattle.framing_events.specs.Events.{length_of}
use Rattle.framing_events.proofs.Said.{said-is}
use Rattle.framing_words.specs.Words.{words_of, session_at, session_put}
use Rattle.framing_words.proofs.Laws.{words_back, put_four}
use Rattle.framing_answers.specs.Answers.{Told, accepts, answer_of, answer_put, tells}
use Rattle.framing_answers.proofs.Laws.{accepts-session, accepts-answer, accepts-words, put_three}
use Rattle.framing_c.specs.Calls.{called_of, calls, puts}

-- ---- calls

pub calls-setup : (ws t bs a : List ℕ) → accepts ws (length t) (length a) ≡ false → calls ws t bs a ≡ record { number = 1; session = ws; store = t; answer = a }
unfolding calls
calls-setup ws t bs a h = rw h

-- with the words of a legal session, and three words for the answer
pub calls-words : (s : Session) (t bs a : List ℕ) → legal s (length t) ≡ true → length a ≡ 3 → calls (words_of s) t bs a ≡ called_of (feeds s t bs)
unfolding calls
calls-words s t bs a h three =
    let e : accepts (words_of s) (length t) (length a) ≡ true =
    subst (λ (k : ℕ). accepts (words_of s) (length t) k ≡ true) (sym three) (accepts-words s (length t) h) in
    rw e (ap (λ (q : Session). called_of (feeds q t bs)) (words_back s))

-- what the code makes of framing's answer r, and leaves in the words, the store and the answer
module _ (ws t bs a : List ℕ) (s : Session) (r : Fed) (ws' t' a' : List ℕ) where
  pub calls-taken : accepts ws (length t) (length a) ≡ true
      → s ≡ session_at ws
      → feeds s t bs ≡ answers r t'
      → ws' ≡ session_put ws r.session
      → a' ≡ answer_put a r.event r.consumed (length t')
      → calls ws t bs a ≡ record { number = (said_by r.event []).number; session = ws'; store = t'; answer = a' }
  unfolding calls called_of
  calls-taken h i e w q =
      let p : a' ≡ answer_of r.event r.consumed (length t') = q ∙ put_three a r.event r.consumed (length t') (accepts-answer ws _ _ h) in
      rw (h, ← i, e, w, put_four ws r.session (accepts-session ws _ _ h), p, said-is r.event t', length-take (length_of r.event) t')

-- ---- the writer

pub puts-told : (o : Outcome) (w : Option ℕ) (out : List ℕ) (k : ℕ) {t : Told} → o ≡ outcome w out → tells w k ≡ t → puts o k
    ≡ record { number = t.number; output = out; count = t.count }
unfolding puts
puts-told o (Some n) out k e f = rw (e, ← f)
puts-told o None out k e f = rw (e, ← f)
