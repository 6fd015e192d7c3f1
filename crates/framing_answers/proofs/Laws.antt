-- Laws of the definitions, at plain variables.
use Prim.Native.Nat.{ℕ}
use mathlib.Core.Path.{◌≡◌, refl, sym, subst}
use mathlib.Core.Bool.{Bool, true, false}
use mathlib.Core.List.{List}
use native.Mathlib.Omega.{arith}
use borrow.Author.Tests.{eqb-true, eq-eqb}
use lib.Dec.{eqb}
use lib.ListN.{length}
use Rattle.base_choices.specs.Choices.{pick}
use Rattle.framing_session.specs.declared.Event.{Event}
use Rattle.framing_session.specs.declared.Session.{Session}
use Rattle.framing_session.specs.Session.{legal}
use Rattle.framing_words.specs.Words.{words_of, session_at, is_session}
use Rattle.framing_words.proofs.Laws.{words_back, words-session, session-length}
use Rattle.framing_answers.specs.Answers.{accepts, answer_of, answer_put}

never : false ≡ true → ⊥
never g = let z : ◌≡◌ {A = ℕ} 0 1 = cc in omega arith

-- ---- SETUP

-- a call that is accepted has a session of four words and an answer of three
pub accepts-session : (ws : List ℕ) (n k : ℕ) → accepts ws n k ≡ true → length ws ≡ 4
unfolding accepts
accepts-session ws n k h = by (eqb k 3) h
  where
    inner : (t : Bool) → is_session ws ≡ t → pick t (legal (session_at ws) n) false ≡ true → length ws ≡ 4
    inner true e g = session-length ws e
    inner false e g = absurd (never g)

    by : (t : Bool) → pick t (pick (is_session ws) (legal (session_at ws) n) false) false ≡ true → length ws ≡ 4
    by true g = inner (is_session ws) refl g
    by false g = absurd (never g)

-- .. and is of a legal session
pub accepts-legal : (ws : List ℕ) (n k : ℕ) → accepts ws n k ≡ true → legal (session_at ws) n ≡ true
unfolding accepts
accepts-legal ws n k h = by (eqb k 3) (is_session ws) h
  where
    by : (u v : Bool) → pick u (pick v (legal (session_at ws) n) false) false ≡ true → legal (session_at ws) n ≡ true
    by true true g = g
    by true false g = absurd (never g)
    by false v g = absurd (never g)

pub accepts-words : (s : Session) (n : ℕ) → legal s n ≡ true → accepts (words_of s) n 3 ≡ true
unfolding accepts
accepts-words s n h = rw (words-session s) (subst (λ (q : Session). legal q n ≡ true) (sym (words_back s)) h)

pub accepts-answer : (ws : List ℕ) (n k : ℕ) → accepts ws n k ≡ true → k ≡ 3
unfolding accepts
accepts-answer ws n k h = by (eqb k 3) refl h
  where
    by : (t : Bool) → eqb k 3 ≡ t → pick t (pick (is_session ws) (legal (session_at ws) n) false) false ≡ true → k ≡ 3
    by true e g = eqb-true _ _ e
    by false e g = absurd (never g)

-- ---- the answer

pub put_three : (a : List ℕ) (e : Event) (n m : ℕ) → length a ≡ 3 → answer_put a e n m ≡ answer_of e n m
unfolding answer_put
put_three a e n m h = rw (eq-eqb (length a) 3 h)
