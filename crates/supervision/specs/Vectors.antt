-- Samples of the rules and of what counts, by computation: both sides of every bound.
use Rattle.std.specs.Prelude.{◌≡◌, ℕ, [], ◌∷◌, map, refl}
use Rattle.supervision.specs.declared.Answer.TheVariants as say
use Rattle.supervision.specs.declared.Happened.{Happened}
use Rattle.supervision.specs.declared.Happened.TheVariants.{Nothing, Event, Request}
use Rattle.supervision.specs.declared.Link.TheVariants.{Silent, Asked, Dead}
use Rattle.supervision.specs.Events.{happened_by}
use Rattle.supervision.specs.Rules.{Showing, begins, answers}
use Rattle.supervision.specs.Supervisor.{waited, shows}
use Rattle.supervision.specs.Order.{later_of}

-- 0 and 1, 4, and all others of document 01's "Numbers answered" that a session call gives
pub quiet-numbers : map happened_by (0 ∷ 1 ∷ []) ≡ Nothing ∷ Nothing ∷ []
quiet-numbers = refl

pub request-number : happened_by 4 ≡ Request
request-number = refl

pub event-numbers : map happened_by (2 ∷ 3 ∷ 5 ∷ 10 ∷ 11 ∷ 12 ∷ 13 ∷ 14 ∷ 15 ∷ 16 ∷ 20 ∷ 21 ∷ 22 ∷ 23 ∷ 24 ∷ [])
    ≡ Event ∷ Event ∷ Event ∷ Event ∷ Event ∷ Event ∷ Event ∷ Event ∷ Event ∷ Event ∷ Event ∷ Event ∷ Event ∷ Event ∷ Event ∷ []
event-numbers = refl

abbrev at : ℕ → Happened → Showing
at t k = record { time = t; happened = k }

-- asked once, at 5,000 ms; dead at 5,000 ms after that, for good; a request is answered all the same
pub silence : answers (begins 100)
    (at 5099 Nothing ∷ at 5100 Nothing ∷ at 5101 Nothing ∷ at 10099 Nothing ∷ at 10100 Nothing ∷ at 10101 Event ∷ at 10102 Request ∷ at 20000 Nothing ∷ [])
    ≡ say.Nothing ∷ say.Ask ∷ say.Nothing ∷ say.Nothing ∷ say.Dead ∷ say.Dead ∷ say.Respond ∷ say.Dead ∷ []
silence = refl

-- an event counts first, at both bounds, and a request is one
pub first :
    answers (begins 0)
    (at 5000 Event ∷ at 9999 Nothing ∷ at 10000 Nothing ∷ at 15000 Event ∷ at 19999 Nothing ∷ at 20000 Nothing ∷ at 25000 Request ∷ at 29999 Nothing ∷ [])
    ≡ say.Nothing ∷ say.Nothing ∷ say.Ask ∷ say.Nothing ∷ say.Nothing ∷ say.Ask ∷ say.Respond ∷ say.Nothing ∷ []
first = refl

-- over the wrap: 4,999 and 5,000 ms after the last tick but one
pub wrapped-before : shows (Silent 4294967294) 4997 Nothing ≡ record { answer = say.Nothing; link = Silent 4294967294 }
unfolding shows waited
wrapped-before = refl

pub wrapped-asks : shows (Silent 4294967294) 4998 Nothing ≡ record { answer = say.Ask; link = Asked 4998 }
unfolding shows waited
wrapped-asks = refl

pub wrapped-dies : shows (Asked 4294967294) 4998 Nothing ≡ record { answer = say.Dead; link = Dead }
unfolding shows waited
wrapped-dies = refl

-- ticks out of order: a millisecond on, a millisecond back, the same over the wrap, half the range on and back
pub later-on : later_of 10 11 ≡ 11
unfolding later_of
later-on = refl

pub later-back : later_of 10 9 ≡ 10
unfolding later_of
later-back = refl

pub later-wraps : later_of 4294967295 0 ≡ 0
unfolding later_of
later-wraps = refl

pub later-back-wraps : later_of 0 4294967295 ≡ 0
unfolding later_of
later-back-wraps = refl

pub later-half : later_of 10 2147483657 ≡ 2147483657
unfolding later_of
later-half = refl

pub later-half-back : later_of 10 2147483658 ≡ 10
unfolding later_of
later-half-back = refl
