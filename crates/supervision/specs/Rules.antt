-- The rules of supervision (document 02, request 01), over true time in milliseconds. They know no tick and no wrap. A showing says what happened at a time:
-- nothing, an event, or an incoming request, which is an event too.
use Rattle.std.specs.Prelude.{ℕ, ◌+◌, Bool, List, [], ◌∷◌, nat_le}
use Rattle.base_choices.specs.Choices.{pick}
use Rattle.supervision.specs.declared.Answer.{Answer}
use Rattle.supervision.specs.declared.Answer.TheVariants as say
use Rattle.supervision.specs.declared.Happened.{Happened}
use Rattle.supervision.specs.declared.Happened.TheVariants.{Nothing, Event, Request}

pub record Showing : Type 0 where
  pub time : ℕ
  pub happened : Happened

-- A link: silent since a time, with nothing asked for in that silence; asked at a time, with no event since; or dead.
pub data State : Type 0 where
  silent : ℕ → State
  asked : ℕ → State
  dead : State

-- What is to be done at a showing, and the link after it.
pub record Step : Type 0 where
  pub answer : Answer
  pub next : State

-- "counting the start as an event"
abbrev pub begins : ℕ → State
begins t = silent t

-- "5,000 ms or more"
abbrev pub due : ℕ → ℕ → Bool
due since now = nat_le (since + 5000) now

-- What is due at a time.
abbrev pub waits : State → ℕ → Step
-- "At 5,000 ms or more without any event it asks, once a silence, for a keep-alive request to be written."
waits (silent t) now =
    pick (due t now) (record { answer = say.Ask; next = asked now })
    (record { answer = say.Nothing; next = silent t })
-- "At 5,000 ms or more after asking, with no event since, it declares the link dead .."
waits (asked t) now =
    pick (due t now) (record { answer = say.Dead; next = dead })
    (record { answer = say.Nothing; next = asked t })
-- ".. for good, asking no more"
waits dead now = record { answer = say.Dead; next = dead }

-- An event begins a new silence. A dead link is dead "for good".
abbrev pub hears : State → ℕ → State
hears (silent t) now = silent now
hears (asked t) now = silent now
hears dead now = dead

abbrev pub step : State → ℕ → Happened → Step
step s now Nothing = waits s now
-- "an event shown then counts first"
step s now Event = waits (hears s now) now
-- "An incoming request always gets its response": also on a dead link, which stays dead.
step s now Request = record { answer = say.Respond; next = hears s now }

-- The answers to showings one after another, and the link after them.
abbrev pub answers : State → List Showing → List Answer
answers s [] = []
answers s (x ∷ xs) = let o = step s x.time x.happened in o.answer ∷ answers o.next xs

abbrev pub after : State → List Showing → State
after s [] = s
after s (x ∷ xs) = after (step s x.time x.happened).next xs
