-- The words of the promise (document 02, request 01), over every list of showings.
use Rattle.std.specs.Prelude.{◌≡◌, ℕ, ◌+◌, ◌%◌, ◌≤◌, Bool, true, false, List, [], ◌∷◌}
use Rattle.base_choices.specs.Choices.{pick}
use Rattle.supervision.specs.declared.Answer.{Answer}
use Rattle.supervision.specs.declared.Answer.TheVariants as say
use Rattle.supervision.specs.declared.Happened.{Happened}
use Rattle.supervision.specs.declared.Happened.TheVariants.{Nothing, Event, Request}
use Rattle.supervision.specs.declared.Link.{Link}
use Rattle.supervision.specs.declared.Shown.{Shown}
use Rattle.supervision.specs.Rules.{Showing, begins, answers}
use Rattle.supervision.specs.Supervisor.{wrap, shows}

-- ---- "if its state comes back as left, every event is shown with its tick, the tick never goes back but at its wrap, and it is shown at least once in every
-- 1,000 ms"

-- The tick at a true time: it counts milliseconds, and stood at o at the time 0.
abbrev pub tick_at : ℕ → ℕ → ℕ
tick_at o time = (o + time) % wrap

-- Showings from the time a up to the time z, which is the present: time does not go back, and no more than 1,000 ms pass without one.
pub data Often : ℕ → List Showing → ℕ → Type 0 where
  last : {a z : ℕ} → a ≤ z → z ≤ a + 1000 → Often a [] z
  next : {a z : ℕ} {xs : List Showing} (x : Showing) → a ≤ x.time → x.time ≤ a + 1000 → Often x.time xs z → Often a (x ∷ xs) z

-- Calls one after another, each with the state that the one before it left, and with the tick of what it shows. What a call gives is what `shows` says: the
-- contract of `show`.
pub data Calls : ℕ → Link → List Showing → List Answer → Link → Type 0 where
  none : {o : ℕ} {l : Link} → Calls o l [] [] l
  call : {o : ℕ} {l l' : Link} {xs : List Showing} {rs : List Answer} (x : Showing) (r : Shown)
      → r ≡ shows l (tick_at o x.time) x.happened → Calls o r.link xs rs l' → Calls o l (x ∷ xs) (r.answer ∷ rs) l'

-- ---- "then, counting the start as an event, a link with no events is declared dead no later than 12,000 ms after its last event, and a link with an event
-- in every 4,000 ms never is"

-- what counts as an event: a request too
abbrev pub is_event : Happened → Bool
is_event Nothing = false
is_event Event = true
is_event Request = true

-- the time of the last event, if that before the showing was at e
abbrev pub event_at : ℕ → Showing → ℕ
event_at e x = pick (is_event x.happened) x.time e

-- the time of the last event of all
abbrev pub last_event : ℕ → List Showing → ℕ
last_event e [] = e
last_event e (x ∷ xs) = last_event (event_at e x) xs

-- A showing no later than the time t is answered with dead.
pub data DeadBy (t : ℕ) : List Showing → List Answer → Type 0 where
  here : {x : Showing} {xs : List Showing} {rs : List Answer} → x.time ≤ t → DeadBy t (x ∷ xs) (say.Dead ∷ rs)
  later : {x : Showing} {xs : List Showing} {r : Answer} {rs : List Answer} → DeadBy t xs rs → DeadBy t (x ∷ xs) (r ∷ rs)

-- "an event in every 4,000 ms": no showing comes more than 4,000 ms after the last event before it, which was at e.
abbrev pub Lively : ℕ → List Showing → Type 0
Lively e [] = Unit {0}
Lively e (x ∷ xs) = (x.time ≤ e + 4000) × Lively (event_at e x) xs

-- no showing is answered with dead
abbrev pub is_dead : Answer → Bool
is_dead say.Nothing = false
is_dead say.Ask = false
is_dead say.Respond = false
is_dead say.Dead = true

abbrev pub NeverDead : List Answer → Type 0
NeverDead [] = Unit {0}
NeverDead (r ∷ rs) = (is_dead r ≡ false) × NeverDead rs

-- What is promised of showings from the start s up to the present z, and the answers to them.
pub record Promised (s z : ℕ) (xs : List Showing) (rs : List Answer) : Type 0 where
  pub as-rules : rs ≡ answers (begins s) xs
  pub dead-in-time : last_event s xs + 12000 ≤ z → DeadBy (last_event s xs + 12000) xs rs
  pub never-dead : Lively s xs → NeverDead rs
