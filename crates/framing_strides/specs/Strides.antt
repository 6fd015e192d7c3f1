-- What a stride does: it goes on in a chunk as far as no event can be made.
use Rattle.std.specs.Prelude.{ℕ, ◌≤◌, ◌<◌, false, List, ◌≡◌, length, Option}
use Rattle.framing_session.specs.declared.Session.{Session}
use Rattle.framing_strides.specs.declared.Progress.{Progress}
use Rattle.framing_session.specs.Session.{legal, Legal}
use Rattle.framing_session.specs.Steps.{inside_of, Reaches}

abbrev pub arriving : ℕ → Option ℕ → ℕ → Progress
arriving n m i = record { session = inside_of n m; at = i }

-- From byte i of the chunk c, with the session s and the store t: where it came to, and the store that it left. How far it comes is free; from there the call
-- goes on to the same end. What SETUP refuses, and a place past the chunk, stay as they are.
pub record Strode (c : List ℕ) (i : ℕ) (s : Session) (t : List ℕ) (r : Progress) (t' : List ℕ) : Type 0 where
  pub on : Legal s t → i ≤ length c → Reaches c i s t r.at r.session t'
  pub setup : legal s (length t) ≡ false → (r ≡ record { session = s; at = i }) × (t' ≡ t)
  pub past : length c < i → (r ≡ record { session = s; at = i }) × (t' ≡ t)
