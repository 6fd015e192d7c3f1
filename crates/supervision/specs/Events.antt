-- What the supervisor is shown of a session call's event, by document 01's number ("Numbers answered"): 0 is "done, or more bytes needed" and 1 SETUP, which
-- are no events of the link; 4 is an incoming keep-alive request; every other is an event.
use Rattle.std.specs.Prelude.{ℕ, ◌==◌, nat_lt}
use Rattle.base_choices.specs.Choices.{pick}
use Rattle.supervision.specs.declared.Happened.{Happened}
use Rattle.supervision.specs.declared.Happened.TheVariants.{Nothing, Event, Request}

abbrev pub happened_by : ℕ → Happened
happened_by n = pick (nat_lt n 2) Nothing (pick (n == 4) Request Event)
