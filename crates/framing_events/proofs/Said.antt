-- What an event says, in any store: the number and whether a message was thrown away do not hang on the store, and the message is its first bytes.
use mathlib.Core.Path.{◌≡◌, refl}
use mathlib.Core.List.{List, []}
use Prim.Native.Nat.{ℕ}
use lib.ListN.{take}
use types.Run.{OneOf}
use Rattle.framing_session.specs.declared.Event.{Event}
use Rattle.framing_session.specs.declared.Event.TheVariants as ev
use Rattle.framing_content.specs.Numbers.{feed_numbers}
use Rattle.framing_session.specs.Session.{said_by}
use Rattle.framing_session.proofs.Laws.{event-numbered}
use Rattle.framing_events.specs.Events.{length_of}

pub said-is : (e : Event) (t : List ℕ)
    → said_by e t ≡ record { number = (said_by e []).number; discarded = (said_by e []).discarded; message = take (length_of e) t }
said-is ev.More t = refl
said-is ev.Setup t = refl
said-is (ev.Piece d) t = refl
said-is (ev.Message n d) t = refl
said-is ev.Request t = refl
said-is ev.Response t = refl
said-is (ev.Refused f d) t = refl

-- `number` answers with one of the numbers of a session call.
pub numbers : (e : Event) → OneOf feed_numbers (said_by e []).number
numbers e = event-numbered e []
