-- The words of the claim over every list of calls of framing_start and framing_feed, refused ones among them: the session is its four words, and what a
-- call tells is its number and the three words of its answer.
use Rattle.std.specs.Prelude.{ℕ, ◌+◌, ◌≤◌, ◌<◌, true, false, List, [], ◌∷◌, ◌++◌, ◌≡◌, eqb, length, get_or, take, drop}
use Rattle.base_choices.specs.Choices.{pick}
use Rattle.framing.specs.Offers.{EndsWith}
use Rattle.framing_session.specs.Rules.{State, Said, Happening, quiet, noted, happens, after}
use Rattle.framing_session.specs.Session.{state_of}
use Rattle.framing_words.specs.Words.{session_at}
use Rattle.framing_answers.specs.Answers.{accepts}
use Rattle.framing_c.specs.Calls.{Called, calls}

-- The rows of "Numbers answered" that framing_start may give. (framing_feed: feed_numbers; the writers: write_numbers.)
abbrev pub start_numbers : List ℕ
start_numbers = 0 ∷ 1 ∷ []

-- One call of framing_feed: what was offered, and what it answered and left.
pub record Turn : Type 0 where
  pub offered : List ℕ
  pub called : Called

-- The bytes that a call consumed: "1 leaves everything as it was, 0 consumed"; else the answer's word FRAMING_CONSUMED.
abbrev pub consumed : Called → ℕ
consumed r = pick (eqb r.number 1) 0 (get_or r.answer 1 0)

abbrev pub taken : Turn → List ℕ
taken x = take (consumed x.called) x.offered

-- What a call tells: nothing with 1; else the event of its number, by the answer's words and the store.
abbrev pub says : Called → Said
says r =
    pick (eqb r.number 1) quiet
    (record { number = r.number; discarded = eqb (get_or r.answer 0 0) 1; message = take (get_or r.answer 2 0) r.store })

-- A list of calls from the session's words ws and the store t, with the bytes rest yet to come. Each is lent the first i words and the first j bytes of
-- them, for any counts i and j, and any answer; it is offered bytes from the first not yet consumed. What it gives is what `calls` says: the contract of
-- framing_feed.
pub data Turns : List ℕ → List ℕ → List ℕ → List Turn → List ℕ → List ℕ → List ℕ → Type 0 where
  none : {ws t rest : List ℕ} → Turns ws t rest [] ws t rest
  turn : {ws t ws'' t'' rest'' : List ℕ} {xs : List Turn} (i j : ℕ) (a c later : List ℕ) (r : Called)
      → calls (take i ws) (take j t) c a ≡ r
      → Turns (r.session ++ drop i ws) (r.store ++ drop j t) (drop (consumed r) (c ++ later)) xs ws'' t'' rest''
      → Turns ws t (c ++ later) (record { offered = c; called = r } ∷ xs) ws'' t'' rest''

-- The bytes that the calls consumed, and the events that they told, with the number of bytes consumed by then.
abbrev pub eaten : List Turn → List ℕ
eaten [] = []
eaten (x ∷ xs) = taken x ++ eaten xs

abbrev pub told : List Turn → ℕ → List Happening
told [] n = []
told (x ∷ xs) n = noted (says x.called) (n + consumed x.called) (told xs (n + consumed x.called))

-- "A call consumes bytes up to and including the one that makes an event, or all of them": the rules stand in the state s before it.
pub record Stopped (s : State) (x : Turn) : Type 0 where
  pub within : consumed x.called ≤ length x.offered
  pub all : x.called.number ≡ 0 → consumed x.called ≡ length x.offered
  pub at-event : eqb (says x.called).number 0 ≡ false → EndsWith s (taken x) (says x.called)

abbrev pub Stops : State → List Turn → Type 0
Stops s [] = Unit {0}
Stops s (x ∷ xs) = Stopped s x × Stops (after s (taken x)) xs

-- What holds of a list of calls from a state: they told the rules' events of the bytes consumed, each once and in order; words and store hold the rules'
-- state, and a call that is lent both whole, and three words for the answer, is not refused.
pub record AsRules (s : State) (n : ℕ) (xs : List Turn) (ws'' t'' bytes rest : List ℕ) : Type 0 where
  pub events : told xs n ≡ happens s n (eaten xs)
  pub state : state_of (session_at ws'') t'' ≡ after s (eaten xs)
  pub bytes-are : eaten xs ++ rest ≡ bytes
  pub stops : Stops s xs
  pub accepted : accepts ws'' (length t'') 3 ≡ true

-- The calls offer these chunks in order, each until it is consumed: what a call leaves of a chunk is offered next.
pub data Serves : List (List ℕ) → List Turn → Type 0 where
  done : Serves [] []
  whole : {cs : List (List ℕ)} {xs : List Turn} (x : Turn) → consumed x.called ≡ length x.offered → Serves cs xs → Serves (x.offered ∷ cs) (x ∷ xs)
  part : {cs : List (List ℕ)} {xs : List Turn} (x : Turn) → consumed x.called < length x.offered
      → Serves (drop (consumed x.called) x.offered ∷ cs) xs → Serves (x.offered ∷ cs) (x ∷ xs)
