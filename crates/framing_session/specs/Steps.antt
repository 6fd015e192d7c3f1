-- What a byte gives, and what bytes without an event do: for the functions below a call.
use Rattle.std.specs.Prelude.{ℕ, ◌≤◌, Bool, true, false, List, ◌≡◌, eqb, length, drop, Option, Some, None}
use Rattle.framing_session.specs.declared.Event.{Event}
use Rattle.framing_session.specs.declared.Event.TheVariants as ev
use Rattle.framing_content.specs.declared.Fault.{Fault}
use Rattle.framing_session.specs.declared.Frame.{Frame}
use Rattle.framing_session.specs.declared.Frame.TheVariants.{Outside, Inside}
use Rattle.framing_session.specs.declared.Session.{Session}
use Rattle.framing_session.specs.declared.Stepped.{Stepped}
use Rattle.base_choices.specs.Choices.{pick}
use Rattle.framing_content.specs.Numbers.{BOF, EOF}
use Rattle.framing_session.specs.Rules.{step}
use Rattle.framing_session.specs.Session.{Kept, said_by, state_of, legal, Legal, keeps, run}

-- what an answer says beside the store that it leaves
abbrev pub gives : Stepped → List ℕ → Kept
gives r t = record { said = said_by r.event t; session = r.session; store = t }

abbrev pub is_part : Option ℕ → Bool
is_part None = false
is_part (Some n) = true

abbrev pub going : Frame → Option ℕ → Stepped
going f m = record { event = ev.More; session = record { frame = f; message = m } }

abbrev pub staying : Event → Option ℕ → Stepped
staying e m = record { event = e; session = record { frame = Outside; message = m } }

abbrev pub refusing : Fault → Frame → Option ℕ → Stepped
refusing x f m = record { event = ev.Refused x (is_part m); session = record { frame = f; message = None } }

abbrev pub joining : Bool → Bool → ℕ → Stepped
joining true d n = record { event = ev.Message n d; session = record { frame = Outside; message = None } }
joining false d n = record { event = ev.Piece d; session = record { frame = Outside; message = Some n } }

unfoldable pub past_fault : Fault → Frame → ℕ → Option ℕ → Stepped
past_fault x f b m = pick (eqb b BOF) (refusing x (Inside 0) m) (pick (eqb b EOF) (refusing x Outside m) (going f m))

-- in a frame that has no fault and no escape begun
abbrev pub inside_of : ℕ → Option ℕ → Session
inside_of n m = record { frame = Inside n; message = m }

-- 1 SETUP: what it refuses is left as it was.
unfoldable pub unless_setup : Session → List ℕ → Kept → Kept
unless_setup s t k = pick (legal s (length t)) k (record { said = said_by ev.Setup t; session = s; store = t })

-- From byte i of a chunk, the session s and the store t, a call comes to byte j, s' and t' with no event: what is left gives the same.
pub record Reaches (c : List ℕ) (i : ℕ) (s : Session) (t : List ℕ) (j : ℕ) (s' : Session) (t' : List ℕ) : Type 0 where
  pub legal : Legal s' t'
  pub forward : i ≤ j
  pub inside : j ≤ length c
  pub rest : run (drop i c) (state_of s t) t i ≡ run (drop j c) (state_of s' t') t' j

-- Any byte but BOF and another leaves the session and the store as they are.
unfoldable pub Stays : Session → ℕ → Type 0
Stays s other = (b : ℕ) (t : List ℕ) → (b ≡ BOF → ⊥) → (b ≡ other → ⊥) → Legal s t → keeps (step (state_of s t) b) t ≡ gives (going s.frame s.message) t
