-- What reading the written bytes is to give, by the rules of framing.
use Rattle.std.specs.Prelude.{ℕ, zero, suc, ◌+◌, ◌<◌, Bool, true, false, List, [], ◌∷◌, ◌≡◌, length, take, drop}
use Rattle.framing_content.specs.Numbers.{BOF}
use Rattle.framing_session.specs.Rules.{inside, State, Happening, goes, step, happens, after}
use Rattle.framing_packets.specs.Written.{packet, payload_limit, earlier}

-- Every element is a byte, as in each list that stands for a slice of u8.
abbrev pub Bytes : List ℕ → Type 0
Bytes [] = Unit {0}
Bytes (x ∷ xs) = (x < 256) × Bytes xs

-- BOF opens a frame here, with no event.
abbrev pub Opens : State → Type 0
Opens s = step s BOF ≡ goes (inside []) s.message

-- From the state s, n bytes having come, the bytes make exactly the events hs and lead to the state t.
pub record Gives (s : State) (n : ℕ) (bytes : List ℕ) (hs : List Happening) (t : State) : Type 0 where
  pub events : happens s n bytes ≡ hs
  pub state : after s bytes ≡ t

abbrev pub happening : ℕ → ℕ → Bool → List ℕ → Happening
happening n k d ys = record { offset = n; said = record { number = k; discarded = d; message = ys } }

-- The events of k packets and the last one, whose payloads are m: 2 at the last byte of each, then 3 with the whole message w.
-- The first of them says whether it threw a message away.
unfoldable pub packet_events : ℕ → Bool → Bool → List ℕ → List ℕ → ℕ → List Happening
packet_events zero first d m w n = happening (n + length (packet first true m)) 3 d w ∷ []
packet_events (suc k) first d m w n =
    let e = n + length (packet first false (take payload_limit m)) in
    happening e 2 d [] ∷ packet_events k false false (drop payload_limit m) w e

abbrev pub message_events : Bool → List ℕ → ℕ → List Happening
message_events d m n = packet_events (earlier (length m)) true d m m n
