-- What the rules come to, for every link and every showing: requests are answered, a silence asks once, dead is for good, an event counts first.
use Rattle.std.proofs.Common.{◌≡◌, ℕ, ◌+◌, ◌≤◌, false, List, [], ◌∷◌, map, refl, ◌∙◌, arith, Ok}
use Rattle.framing_content.specs.declared.Content.TheVariants as content
use Rattle.framing_session.specs.declared.Event.{Event as SessionEvent}
use Rattle.framing_session.specs.declared.Event.TheVariants as ev
use Rattle.framing_content.specs.Content.{content_of}
use Rattle.base_choices.proofs.Laws.{pick-by}
use Rattle.framing_content.specs.Numbers.{EOF}
use Rattle.framing_session.specs.Rules.{inside, Message, ends, in_place, step as byte}
use Rattle.framing_session.specs.Session.{said_by}
use Rattle.supervision.specs.declared.Answer.{Answer}
use Rattle.supervision.specs.declared.Answer.TheVariants as say
use Rattle.supervision.specs.declared.Happened.{Happened}
use Rattle.supervision.specs.declared.Happened.TheVariants.{Nothing, Event, Request}
use Rattle.supervision.specs.declared.Link.{Link}
use Rattle.supervision.specs.Events.{happened_by}
use Rattle.supervision.specs.Rules.{Showing, silent, asked, dead, Step, due, step, answers, after}
use Rattle.supervision.specs.Supervisor.{shows}
use Rattle.supervision.specs.Promise.{is_event}
use Rattle.supervision.proofs.Bounds.{not-due}

-- ---- "An incoming request always gets its response, also on a link with an unfinished message."

-- For every state and tick, those that no run gives too.
pub request-answered : (l : Link) (tick : ℕ) → (shows l tick Request).answer ≡ say.Respond
unfolding shows
request-answered l tick = refl

-- A session call's event 4, whatever session and store gave it, is shown as a request.
pub request-shown : (e : SessionEvent) (t : List ℕ) → (said_by e t).number ≡ 4 → happened_by (said_by e []).number ≡ Request
request-shown e t h = rw (number_same e t ∙ h)
  where
    number_same : (e : SessionEvent) (t : List ℕ) → (said_by e []).number ≡ (said_by e t).number
    number_same ev.More t = refl
    number_same ev.Setup t = refl
    number_same (ev.Piece d) t = refl
    number_same (ev.Message n d) t = refl
    number_same ev.Request t = refl
    number_same ev.Response t = refl
    number_same (ev.Refused f d) t = refl

-- A frame whose content is a request, at its end: with any unfinished message it makes event 4 and leaves that message as it was.
pub request-unfinished : (xs : List ℕ) (m : Message) → content_of xs ≡ Ok content.Request
    → ((byte (record { place = inside xs; message = m }) EOF).said.number ≡ 4) × ((byte (record { place = inside xs; message = m }) EOF).next.message ≡ m)
unfolding byte in_place ends
request-unfinished xs m e = (rw e, rw e)

-- ---- "an event shown then counts first"

-- At any time after asking an event begins a new silence, and nothing is due at that showing.
pub event-first : (t now : ℕ) → step (asked t) now Event ≡ record { answer = say.Nothing; next = silent now }
event-first t now = rw (not-due now)

-- ---- "dead, for good, asking no more"

-- A dead link is answered with dead, and a request with its response.
abbrev pub dead_answer : Happened → Answer
dead_answer Nothing = say.Dead
dead_answer Event = say.Dead
dead_answer Request = say.Respond

pub dead-step : (now : ℕ) (k : Happened) → step dead now k ≡ record { answer = dead_answer k; next = dead }
dead-step now Nothing = refl
dead-step now Event = refl
dead-step now Request = refl

pub dead-for-good : (xs : List Showing) → (answers dead xs ≡ map (λ (x : Showing). dead_answer x.happened) xs) × (after dead xs ≡ dead)
dead-for-good [] = (refl, refl)
dead-for-good (x ∷ xs) = let more = dead-for-good xs in (rw (dead-step x.time x.happened, more.0), rw (dead-step x.time x.happened) more.1)

-- ---- "it asks, once a silence"

-- showings without an event
abbrev pub Quiet : List Showing → Type 0
Quiet [] = Unit {0}
Quiet (x ∷ xs) = (is_event x.happened ≡ false) × Quiet xs

-- how often a request is asked for
abbrev pub counted : Answer → ℕ → ℕ
counted say.Nothing n = n
counted say.Ask n = n + 1
counted say.Respond n = n
counted say.Dead n = n

abbrev pub asks : List Answer → ℕ
asks [] = 0
asks (r ∷ rs) = counted r (asks rs)

not-event : (k : Happened) → is_event k ≡ false → k ≡ Nothing
not-event Nothing h = refl
not-event Event h = let z : ◌≡◌ {A = ℕ} 0 1 = cc in absurd (omega arith)
not-event Request h = let z : ◌≡◌ {A = ℕ} 0 1 = cc in absurd (omega arith)

none-dead : (xs : List Showing) → Quiet xs → asks (answers dead xs) ≡ 0
none-dead [] q = refl
none-dead (x ∷ xs) q = rw (not-event x.happened q.0) (none-dead xs q.1)

none-asked : (t : ℕ) (xs : List Showing) → Quiet xs → asks (answers (asked t) xs) ≡ 0
none-asked t [] q = refl
none-asked t (x ∷ xs) q =
    rw (not-event x.happened q.0)
    (pick-by (λ (w : Step). counted w.answer (asks (answers w.next xs)) ≡ 0) (due t x.time) (λ d. none-dead xs q.1) (λ d. none-asked t xs q.1))

pub asks-once : (t : ℕ) (xs : List Showing) → Quiet xs → asks (answers (silent t) xs) ≤ 1
asks-once t [] q = omega arith
asks-once t (x ∷ xs) q =
    rw (not-event x.happened q.0)
    (pick-by (λ (w : Step). counted w.answer (asks (answers w.next xs)) ≤ 1) (due t x.time)
    (λ d. omega (arith, none-asked x.time xs q.1)) (λ d. asks-once t xs q.1))
