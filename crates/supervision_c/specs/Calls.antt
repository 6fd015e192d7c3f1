-- What each call from C answers and leaves, for all lent slices.
use Rattle.std.specs.Prelude.{ℕ, List, eqb, length}
use Rattle.base_choices.specs.Choices.{pick}
use Rattle.supervision.specs.declared.Shown.{Shown}
use Rattle.supervision.specs.Events.{happened_by}
use Rattle.supervision.specs.Supervisor.{begun, shows}
use Rattle.supervision_c.specs.Words.{words_of, link_at, is_link, number_of}

-- The number, and the state's words.
pub record Called : Type 0 where
  pub number : ℕ
  pub link : List ℕ

-- "1 leaves everything as it was"
abbrev pub setup : List ℕ → Called
setup ws = record { number = 1; link = ws }

-- 1 for a state that has not two words
unfoldable pub starts : List ℕ → ℕ → Called
starts ws tick = pick (eqb (length ws) 2) (record { number = 0; link = words_of (begun tick) }) (setup ws)

abbrev pub called_of : Shown → Called
called_of s = record { number = number_of s.answer; link = words_of s.link }

-- a tick, and the number that a session call gave; 1 for words that are no state's
unfoldable pub calls : List ℕ → ℕ → ℕ → Called
calls ws tick n = pick (is_link ws) (called_of (shows (link_at ws) tick (happened_by n))) (setup ws)
