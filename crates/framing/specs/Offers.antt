-- The words of the claim over every list of offers: calls one after another, what they told, and what the rules say of it.
use Rattle.std.specs.Prelude.{ℕ, ◌+◌, ◌≤◌, ◌<◌, true, false, List, [], ◌∷◌, ◌++◌, ◌≡◌, eqb, length, take, drop}
use Rattle.framing_session.specs.declared.Fed.{Fed}
use Rattle.framing_session.specs.declared.Session.{Session}
use Rattle.framing_session.specs.Rules.{State, Said, Happening, noted, step, happens, after}
use Rattle.framing_session.specs.Session.{said_by, state_of, Legal, answers, feeds}

-- One call: what was offered, what it gave, and the store as it left it.
pub record Turn : Type 0 where
  pub offered : List ℕ
  pub fed : Fed
  pub store : List ℕ

-- A list of turns from the session s and the store t, with the bytes rest yet to come. Each turn is a session call, "offered 0 or more bytes from the
-- first not yet consumed", with the session and the store that the call before it left. What a call gives is what `feeds` says: the contract of `feed`.
pub data Turns : Session → List ℕ → List ℕ → List Turn → Session → List ℕ → List ℕ → Type 0 where
  none : {s : Session} {t rest : List ℕ} → Turns s t rest [] s t rest
  turn : {s s'' : Session} {t t' t'' rest'' : List ℕ} {ts : List Turn} (c later : List ℕ) (r : Fed)
      → feeds s t c ≡ answers r t' → Turns r.session t' (drop r.consumed (c ++ later)) ts s'' t'' rest''
      → Turns s t (c ++ later) (record { offered = c; fed = r; store = t' } ∷ ts) s'' t'' rest''

-- The bytes that the calls consumed.
abbrev pub eaten : List Turn → List ℕ
eaten [] = []
eaten (x ∷ xs) = take x.fed.consumed x.offered ++ eaten xs

-- The events that the calls gave, in order, with the number of bytes consumed by then and all that they say: a message is the store's own bytes.
abbrev pub told : List Turn → ℕ → List Happening
told [] n = []
told (x ∷ xs) n = noted (said_by x.fed.event x.store) (n + x.fed.consumed) (told xs (n + x.fed.consumed))

-- Each call consumed no more than it was offered, and all of it where it gave no event.
abbrev pub Counted : List Turn → Type 0
Counted [] = Unit {0}
Counted (x ∷ xs) =
    ((x.fed.consumed ≤ length x.offered) × (eqb (said_by x.fed.event x.store).number 0 ≡ true → x.fed.consumed ≡ length x.offered))
    × Counted xs

-- From the state s, the bytes make no event before the last of them, and with it one that says e.
pub record EndsWith (s : State) (bytes : List ℕ) (e : Said) : Type 0 where
  pub front : List ℕ
  pub byte : ℕ
  pub bytes-are : bytes ≡ front ++ byte ∷ []
  pub none_before : (n : ℕ) → happens s n front ≡ []
  pub event-is : (step (after s front) byte).said ≡ e

-- "A call consumes bytes up to and including the one that makes an event": with an event, exactly the bytes up to and including the one that makes it by
-- the rules, which stand in the state s before the call.
abbrev pub Stops : State → List Turn → Type 0
Stops s [] = Unit {0}
Stops s (x ∷ xs) =
    let bytes = take x.fed.consumed x.offered in
    let e = said_by x.fed.event x.store in
    (eqb e.number 0 ≡ false → EndsWith s bytes e) × Stops (after s bytes) xs

-- What holds of a list of turns from a state: the rules' events, the rules' state, and the bytes.
pub record AsRules (s : State) (n : ℕ) (ts : List Turn) (s'' : Session) (t'' bytes rest : List ℕ) : Type 0 where
  pub events : told ts n ≡ happens s n (eaten ts)
  pub state : state_of s'' t'' ≡ after s (eaten ts)
  pub bytes-are : eaten ts ++ rest ≡ bytes
  pub counted : Counted ts
  pub stops : Stops s ts
  pub legal : Legal s'' t''

-- ---- a stream that is cut into chunks

-- The stream.
abbrev pub joined : List (List ℕ) → List ℕ
joined [] = []
joined (c ∷ cs) = c ++ joined cs

-- The turns offer these chunks in order, each until it is consumed: what a call leaves of a chunk is offered next.
pub data Serves : List (List ℕ) → List Turn → Type 0 where
  done : Serves [] []
  whole : {cs : List (List ℕ)} {ts : List Turn} (x : Turn) → x.fed.consumed ≡ length x.offered → Serves cs ts → Serves (x.offered ∷ cs) (x ∷ ts)
  part : {cs : List (List ℕ)} {ts : List Turn} (x : Turn) → x.fed.consumed < length x.offered
      → Serves (drop x.fed.consumed x.offered ∷ cs) ts → Serves (x.offered ∷ cs) (x ∷ ts)

-- Some list of turns, from the session s and the store t, offers these chunks and consumes them whole.
pub record Consumed (s : Session) (t : List ℕ) (chunks : List (List ℕ)) : Type 0 where
  pub turns : List Turn
  pub session : Session
  pub store : List ℕ
  pub made : Turns s t (joined chunks) turns session store []
  pub served : Serves chunks turns
