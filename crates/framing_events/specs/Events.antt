-- What an event says, apart from the store.
use Rattle.std.specs.Prelude.{ℕ}
use Rattle.framing_session.specs.declared.Event.{Event}
use Rattle.framing_session.specs.declared.Event.TheVariants as ev

-- how many of the store's first bytes are the message
abbrev pub length_of : Event → ℕ
length_of ev.More = 0
length_of ev.Setup = 0
length_of (ev.Piece d) = 0
length_of (ev.Message n d) = n
length_of ev.Request = 0
length_of ev.Response = 0
length_of (ev.Refused f d) = 0
