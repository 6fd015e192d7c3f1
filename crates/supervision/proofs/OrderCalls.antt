-- What `later` gives is what `later_of` says, and nothing else; and there are calls of `later` and `show` for every list of showings.
use Rattle.std.proofs.Common.{◌≡◌, ℕ, List, [], ◌∷◌, refl}
use contract.Lifetimes.{Lfts}
use denote.Triple.Clauses as Clauses
use borrow.Fn.World as World
use borrow.Fn.Kinds as K
use Rattle.supervision.specs.contracts.later
use Rattle.supervision.proofs.later.Kinds as later-kinds
use Rattle.supervision.proofs.later.Reads as later-reads
use Rattle.supervision.specs.declared.Answer.{Answer}
use Rattle.supervision.specs.declared.Link.{Link}
use Rattle.supervision.specs.Rules.{Showing}
use Rattle.supervision.specs.Supervisor.{begun, shows}
use Rattle.supervision.specs.Promise.{tick_at, Often, Promised}
use Rattle.supervision.specs.Order.{later_of, ordered, Near, LaterCalls, none, call}
use Rattle.supervision.proofs.Order.{promise-later}

-- `later` was called with the latest tick and this one, and gave r: what its contract has it ensure.
pub record Later (latest tick r : ℕ) : Type 0 where
  pub κs : Lfts 0
  pub args : World.ArgsD later.signature κs
  pub exits : Clauses.AtExit (K.ended_of 0 later-kinds.ps later-kinds.r) κs
  pub latest-is : args.0 ≡ latest
  pub tick_is : args.1.0 ≡ tick
  pub ensured : later-reads.Post κs args r exits

pub later-says : {latest tick r : ℕ} → Later latest tick r → r ≡ later_of latest tick
later-says k = cc k.ensured

pub later-called : (latest tick : ℕ) {r : ℕ} → r ≡ later_of latest tick → Later latest tick r
later-called latest tick e =
    record { κs = tt; args = (latest, (tick, tt)); exits = (latest, (tick, tt)); latest-is = refl; tick_is = refl; ensured = e }

pub record LaterRun (o t : ℕ) (l : Link) (xs : List Showing) : Type 0 where
  pub answered : List Answer
  pub link : Link
  pub calls : LaterCalls o t l xs answered link

pub some-later-run : (o t : ℕ) (l : Link) (xs : List Showing) → LaterRun o t l xs
some-later-run o t l [] = record { answered = []; link = l; calls = none }
some-later-run o t l (x ∷ xs) =
    let u = later_of t (tick_at o x.time) in
    let r = shows l u x.happened in
    let k = some-later-run o u r.link xs in
    record { answered = r.answer ∷ k.answered; link = k.link; calls = call x u r refl refl k.calls }

-- The promise for ticks out of order, with nothing left open.
pub every-later-run : (o s : ℕ) {z : ℕ} (xs : List Showing) → Near s xs → Often s (ordered s xs) z
    → (k : LaterRun o (tick_at o s) (begun (tick_at o s)) xs) × Promised s z (ordered s xs) k.answered
every-later-run o s xs n often =
    let k = some-later-run o (tick_at o s) (begun (tick_at o s)) xs in
    (k, promise-later n k.calls often)
