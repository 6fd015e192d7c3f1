-- The supervisor over ticks: what a showing gives, for every state and tick.
use Rattle.std.specs.Prelude.{ℕ, ◌+◌, ◌-◌, ◌%◌, Bool, nat_le}
use Rattle.base_choices.specs.Choices.{pick}
use Rattle.supervision.specs.declared.Answer.TheVariants as say
use Rattle.supervision.specs.declared.Happened.{Happened}
use Rattle.supervision.specs.declared.Happened.TheVariants.{Nothing, Event, Request}
use Rattle.supervision.specs.declared.Link.{Link}
use Rattle.supervision.specs.declared.Link.TheVariants.{Silent, Asked, Dead}
use Rattle.supervision.specs.declared.Shown.{Shown}

-- "our 32-bit millisecond tick, which runs past its top back to zero": it counts modulo 2^32.
abbrev pub wrap : ℕ
wrap = 4294967296

-- "Elapsed time is a wrapping u32 subtract of ticks" (document 01, "Forms"): the tick less the earlier one, modulo 2^32.
abbrev pub elapsed : ℕ → ℕ → ℕ
elapsed since tick = (tick + (wrap - since)) % wrap

-- "counting the start as an event"
abbrev pub begun : ℕ → Link
begun tick = Silent tick

-- "5,000 ms or more"
abbrev pub is_due : ℕ → ℕ → Bool
is_due since tick = nat_le 5000 (elapsed since tick)

abbrev pub gone : Shown
gone = record { answer = say.Dead; link = Dead }

-- what is due at a tick
unfoldable pub waited : Link → ℕ → Shown
waited (Silent t) tick =
    pick (is_due t tick) (record { answer = say.Ask; link = Asked tick })
    (record { answer = say.Nothing; link = Silent t })
waited (Asked t) tick = pick (is_due t tick) gone (record { answer = say.Nothing; link = Asked t })
waited Dead tick = gone

-- after an event
abbrev pub heard : Link → ℕ → Link
heard (Silent t) tick = Silent tick
heard (Asked t) tick = Silent tick
heard Dead tick = Dead

-- What a showing gives. "an event shown then counts first"; "An incoming request always gets its response".
unfoldable pub shows : Link → ℕ → Happened → Shown
shows l tick Nothing = waited l tick
shows l tick Event = waited (heard l tick) tick
shows l tick Request = record { answer = say.Respond; link = heard l tick }
