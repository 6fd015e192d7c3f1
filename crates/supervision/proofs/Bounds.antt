-- The two bounds of the promise, by the rules: a link with no events is dead in time, and one with an event in every 4,000 ms is not declared dead.
use Rattle.std.proofs.Common.{◌≡◌, ℕ, ◌+◌, ◌<◌, ◌≤◌, false, List, [], ◌∷◌, refl, arith, leb-false, leb-true}
use borrow.Author.Tests.{lt-leb}
use Rattle.base_choices.proofs.Laws.{pick-by}
use Rattle.supervision.specs.declared.Happened.{Happened}
use Rattle.supervision.specs.declared.Happened.TheVariants.{Nothing, Event, Request}
use Rattle.supervision.specs.Rules.{Showing, State, silent, asked, Step, due, answers}
use Rattle.supervision.specs.Promise.{Often, last, next, event_at, last_event, DeadBy, here, later, Lively, NeverDead}

-- ---- dead in time

-- A link that is not dead after a showing at the time a, its last event at e: what was asked for was asked for less than 6,000 ms after that.
pub data Living (e a : ℕ) : State → Type 0 where
  quiet : e ≤ a → a < e + 5000 → Living e a (silent e)
  called : (t : ℕ) → e ≤ a → t < e + 6000 → a < t + 5000 → Living e a (asked t)

abbrev at : ℕ → Happened → Showing
at t k = record { time = t; happened = k }

event-from : (e t : ℕ) (k : Happened) → e ≤ t → e ≤ event_at e (at t k)
event-from e t Nothing h = omega arith
event-from e t Event h = h
event-from e t Request h = h

event-to : (e t : ℕ) (k : Happened) → e ≤ t → event_at e (at t k) ≤ t
event-to e t Nothing h = h
event-to e t Event h = omega arith
event-to e t Request h = omega arith

-- with an event nothing is due
pub not-due : (t : ℕ) → due t t ≡ false
not-due t = lt-leb (t + 5000) t (omega arith)

-- the last event of all is no earlier than the last one so far
last-after : (e : ℕ) {a z : ℕ} {xs : List Showing} → e ≤ a → Often a xs z → e ≤ last_event e xs
last-after e h (last m n) = omega arith
last-after e h (next {xs = xs} x m n more) =
    let f : e ≤ x.time = omega arith in
    let g : e ≤ event_at e x = event-from e x.time x.happened f in
    let i : event_at e x ≤ last_event (event_at e x) xs = last-after (event_at e x) (event-to e x.time x.happened f) more in
    omega (arith, g, i)

-- declared dead by 12,000 ms after the last event, if the present is that late
abbrev Dies : ℕ → ℕ → ℕ → List Showing → State → Type 0
Dies e a z xs s = Living e a s → last_event e xs + 12000 ≤ z → DeadBy (last_event e xs + 12000) xs (answers s xs)

-- a showing, if what comes after it is so
module _ (e a z t : ℕ) (xs : List Showing) (m : a ≤ t) (n : t ≤ a + 1000) (more : Often t xs z) where
  dies-on : (k : Happened) {s : State} → ((s' : State) → Dies (event_at e (at t k)) t z xs s') → Dies e a z (at t k ∷ xs) s
  dies-on Nothing rest (quiet f g) h =
      pick-by (λ (w : Step). DeadBy (last_event e xs + 12000) (at t Nothing ∷ xs) (w.answer ∷ answers w.next xs)) (due e t)
      (λ d. later (rest _ (called t (omega arith) (omega arith) (omega arith)) h))
      (λ d. later (rest _ (quiet (omega arith) (omega (arith, leb-false (e + 5000) t d))) h))
  dies-on Nothing rest (called u f g i) h =
      let j : e ≤ t = omega arith in
      pick-by (λ (w : Step). DeadBy (last_event e xs + 12000) (at t Nothing ∷ xs) (w.answer ∷ answers w.next xs)) (due u t)
      (λ d. here (omega (arith, last-after e j more)))
      (λ d. later (rest _ (called u (omega arith) g (omega (arith, leb-false (u + 5000) t d))) h))
  dies-on Event rest (quiet f g) h = rw (not-due t) (later (rest _ (quiet (omega arith) (omega arith)) h))
  dies-on Event rest (called u f g i) h = rw (not-due t) (later (rest _ (quiet (omega arith) (omega arith)) h))
  dies-on Request rest (quiet f g) h = later (rest _ (quiet (omega arith) (omega arith)) h)
  dies-on Request rest (called u f g i) h = later (rest _ (quiet (omega arith) (omega arith)) h)

-- A link that is shown often is declared dead no later than 12,000 ms after its last event, if the present is that late.
pub in-time : {e a z : ℕ} {s : State} {xs : List Showing} → Often a xs z → Living e a s → last_event e xs + 12000 ≤ z
    → DeadBy (last_event e xs + 12000) xs (answers s xs)
in-time (last m n) (quiet f g) h = absurd (omega arith)
in-time (last m n) (called u f g i) h = absurd (omega arith)
in-time {e} {a} {z} (next {xs = xs} x m n more) q h =
    dies-on e a z x.time xs m (omega arith) more x.happened (λ s' q' h'. in-time more q' h') q h

-- ---- never dead

module _ (e t : ℕ) (xs : List Showing) (soon : t ≤ e + 4000) where
  lives-on : (k : Happened) → NeverDead (answers (silent (event_at e (at t k))) xs) → NeverDead (answers (silent e) (at t k ∷ xs))
  lives-on Nothing rest =
      pick-by (λ (w : Step). NeverDead (w.answer ∷ answers w.next xs)) (due e t)
      (λ d. absurd (omega (arith, leb-true (e + 5000) t d))) (λ d. (refl, rest))
  lives-on Event rest = rw (not-due t) (refl, rest)
  lives-on Request rest = (refl, rest)

-- A link with an event in every 4,000 ms is never declared dead.
pub never : (e : ℕ) (xs : List Showing) → Lively e xs → NeverDead (answers (silent e) xs)
never e [] h = tt
never e (x ∷ xs) h = lives-on e x.time xs h.0 x.happened (never (event_at e x) xs h.1)
