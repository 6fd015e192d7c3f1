-- The words of what is written and read back: a call of each of the writer's functions, and what reading its bytes is to give.
use Rattle.std.specs.Prelude.{ℕ, List, ◌≡◌, take, Option, Some}
use contract.Lifetimes.{Lfts}
use borrow.Fn.World as World
use borrow.Fn.Kinds as K
use denote.Triple.Clauses as Clauses
use Rattle.framing_session.specs.declared.Session.{Session}
use Rattle.framing_session.specs.Rules.{State, Happening, begin}
use Rattle.framing_session.specs.Session.{state_of, session_of}
use Rattle.framing.specs.Offers.{Turn, told, joined, Consumed}
use Rattle.framing_writer.specs.contracts.write_frame
use Rattle.framing_writer.proofs.write_frame.Kinds as write-frame-kinds
use Rattle.framing_writer.proofs.write_frame.Reads as write-frame-reads
use Rattle.framing_writer.specs.contracts.write_request
use Rattle.framing_writer.proofs.write_request.Kinds as write-request-kinds
use Rattle.framing_writer.proofs.write_request.Reads as write-request-reads
use Rattle.framing_writer.proofs.write_response.Reads as write-response-reads
use Rattle.framing_writer.proofs.write_message.Reads as write-message-reads

-- What `write_frame` and `write_message` ensure, of their arguments, answer and slices at exit; what `write_request` and `write_response` do.
abbrev Ensures : Type 1
Ensures =
    (κs : Lfts 2) → World.ArgsD write_frame.signature κs → Option ℕ → Clauses.AtExit (K.ended_of 2 write-frame-kinds.ps write-frame-kinds.r) κs → Type 0

abbrev KeepAliveEnsures : Type 1
KeepAliveEnsures =
    (κs : Lfts 1) → World.ArgsD write_request.signature κs → Option ℕ → Clauses.AtExit (K.ended_of 1 write-request-kinds.ps write-request-kinds.r) κs → Type 0

-- A call of `write_frame` or `write_message`, by what its contract ensures: xs and the output o handed in, the answer r, the output left p.
pub record Call (Post : Ensures) (xs o : List ℕ) (r : Option ℕ) (p : List ℕ) : Type 0 where
  pub κs : Lfts 2
  pub args : World.ArgsD write_frame.signature κs
  pub exits : Clauses.AtExit (K.ended_of 2 write-frame-kinds.ps write-frame-kinds.r) κs
  pub given_is : args.0.now ≡ xs
  pub output-is : args.1.0.now ≡ o
  pub left_is : exits.1.0.now ≡ p
  pub ensured : Post κs args r exits

-- The same of `write_request` or `write_response`, which are handed the output alone.
pub record KeepAliveCall (Post : KeepAliveEnsures) (o : List ℕ) (r : Option ℕ) (p : List ℕ) : Type 0 where
  pub κs : Lfts 1
  pub args : World.ArgsD write_request.signature κs
  pub exits : Clauses.AtExit (K.ended_of 1 write-request-kinds.ps write-request-kinds.r) κs
  pub output-is : args.0.now ≡ o
  pub left_is : exits.0.now ≡ p
  pub ensured : Post κs args r exits

abbrev pub FrameCall : List ℕ → List ℕ → Option ℕ → List ℕ → Type 0
FrameCall xs o r p = Call write-frame-reads.Post xs o r p

abbrev pub MessageCall : List ℕ → List ℕ → Option ℕ → List ℕ → Type 0
MessageCall m o r p = Call write-message-reads.Post m o r p

abbrev pub RequestCall : List ℕ → Option ℕ → List ℕ → Type 0
RequestCall o r p = KeepAliveCall write-request-reads.Post o r p

abbrev pub ResponseCall : List ℕ → Option ℕ → List ℕ → Type 0
ResponseCall o r p = KeepAliveCall write-response-reads.Post o r p

-- From n bytes on, the calls told exactly the events hs, and session and store hold the state e at the end.
pub record ReadAs (n : ℕ) (ts : List Turn) (s : Session) (t : List ℕ) (hs : List Happening) (e : State) : Type 0 where
  pub events : told ts n ≡ hs
  pub state-is : state_of s t ≡ e

-- Some call is answered as done; and however the bytes that it wrote are cut into chunks, some list of turns offers the chunks to a fresh session with
-- the store t, each until it is consumed, and tells exactly the events hs; session and store then hold the state e.
pub record WrittenRead (Called : Option ℕ → List ℕ → Type 0) (t : List ℕ) (hs : List Happening) (e : State) : Type 0 where
  pub count : ℕ
  pub output : List ℕ
  pub call : Called (Some count) output
  pub read : (chunks : List (List ℕ)) → joined chunks ≡ take count output
      → (k : Consumed (session_of begin) t chunks) × ReadAs 0 k.turns k.session k.store hs e
