-- The words of the promise for supervision_start and supervision_show, over every list of showings: the state is its two words, and each showing has the
-- number that framing_feed answered.
use Rattle.std.specs.Prelude.{ℕ, ◌+◌, ◌≤◌, false, List, [], ◌∷◌, ◌++◌, map, ◌≡◌, eqb, take, drop}
use Rattle.base_choices.specs.Choices.{pick}
use Rattle.supervision.specs.declared.Happened.TheVariants.{Nothing}
use Rattle.supervision.specs.Events.{happened_by}
use Rattle.supervision.specs.Promise.{tick_at, last_event, Lively}
use Rattle.supervision.specs.Rules.{Showing, begins, answers}
use Rattle.supervision_c.specs.Words.{number_of}
use Rattle.supervision_c.specs.Calls.{Called, calls}

-- The numbers that supervision_start and supervision_show answer with; 1 is SETUP's.
abbrev pub start_numbers : List ℕ
start_numbers = 0 ∷ 1 ∷ []

abbrev pub show_numbers : List ℕ
show_numbers = 0 ∷ 1 ∷ 2 ∷ 3 ∷ 4 ∷ []

-- A true time, and the number that a session call gave at it, 0 for none.
pub record Seen : Type 0 where
  pub time : ℕ
  pub number : ℕ

-- what the rules are shown
abbrev pub showing : Seen → Showing
showing x = record { time = x.time; happened = happened_by x.number }

abbrev pub showings : List Seen → List Showing
showings xs = map showing xs

-- Calls of supervision_show one after another, each with the words that the one before it left and with the tick of what it shows. What a call gives is
-- what `calls` says: its contract. A call that is lent another count of words, and is answered with 1, shows nothing.
pub data Shows : ℕ → List ℕ → List Seen → List ℕ → List ℕ → Type 0 where
  none : {o : ℕ} {ws : List ℕ} → Shows o ws [] [] ws
  show : {o : ℕ} {ws ws'' : List ℕ} {xs : List Seen} {ns : List ℕ} (x : Seen) (r : Called)
      → calls ws (tick_at o x.time) x.number ≡ r → Shows o r.link xs ns ws'' → Shows o ws (x ∷ xs) (r.number ∷ ns) ws''
  refused : {o : ℕ} {ws ws'' : List ℕ} {xs : List Seen} {ns : List ℕ} (i tick n : ℕ) (r : Called)
      → calls (take i ws) tick n ≡ r → r.number ≡ 1 → Shows o (r.link ++ drop i ws) xs ns ws'' → Shows o ws xs ns ws''

-- A showing no later than the time t is answered with 4, dead.
pub data DeadBy (t : ℕ) : List Seen → List ℕ → Type 0 where
  here : {x : Seen} {xs : List Seen} {ns : List ℕ} → x.time ≤ t → DeadBy t (x ∷ xs) (4 ∷ ns)
  later : {x : Seen} {xs : List Seen} {n : ℕ} {ns : List ℕ} → DeadBy t xs ns → DeadBy t (x ∷ xs) (n ∷ ns)

-- no showing is answered with 4
abbrev pub NeverDead : List ℕ → Type 0
NeverDead [] = Unit {0}
NeverDead (n ∷ ns) = (eqb n 4 ≡ false) × NeverDead ns

-- What is promised of showings from the start s up to the present z, and the numbers answered to them: they are the rules'; "a link with no events is
-- declared dead no later than 12,000 ms after its last event, and a link with an event in every 4,000 ms never is".
pub record Promised (s z : ℕ) (xs : List Seen) (ns : List ℕ) : Type 0 where
  pub as-rules : ns ≡ map number_of (answers (begins s) (showings xs))
  pub dead-in-time : last_event s (showings xs) + 12000 ≤ z → DeadBy (last_event s (showings xs) + 12000) xs ns
  pub never-dead : Lively s (showings xs) → NeverDead ns

-- ---- "it asks, once a silence"; "dead, for good"

-- showings in a silence: none is of an event
abbrev pub Silence : List Showing → Type 0
Silence [] = Unit {0}
Silence (x ∷ xs) = (x.happened ≡ Nothing) × Silence xs

-- how often a keep-alive request is asked for
abbrev pub asks : List ℕ → ℕ
asks [] = 0
asks (n ∷ ns) = pick (eqb n 2) (asks ns + 1) (asks ns)

-- what a dead link answers: a request has its response, and everything else is told that the link is dead
abbrev pub dead_number : Seen → ℕ
dead_number x = pick (eqb x.number 4) 3 4
