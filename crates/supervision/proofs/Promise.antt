-- THE PROMISE of request 01, over every list of showings. It rests on what `start` and `show` give by their contracts; that there are such calls for
-- every list is shown
-- at the end.
use Rattle.std.proofs.Common.{◌≡◌, ℕ, ◌+◌, List, [], ◌∷◌, sym, refl, ap, ◌∙◌, subst, arith}
use contract.Lifetimes.{Lfts}
use denote.Triple.Clauses as Clauses
use borrow.Fn.World as World
use borrow.Fn.Kinds as K
use Rattle.supervision.specs.contracts.show
use Rattle.supervision.proofs.show.Kinds as show-kinds
use Rattle.supervision.proofs.show.Reads as show-reads
use Rattle.supervision.specs.contracts.start
use Rattle.supervision.proofs.start.Kinds as start-kinds
use Rattle.supervision.proofs.start.Reads as start-reads
use Rattle.supervision.specs.declared.Answer.{Answer}
use Rattle.supervision.specs.declared.Happened.{Happened}
use Rattle.supervision.specs.declared.Link.{Link}
use Rattle.supervision.specs.declared.Shown.{Shown}
use Rattle.supervision.specs.Rules.{Showing, State, step, answers}
use Rattle.supervision.specs.Supervisor.{begun, shows}
use Rattle.supervision.specs.Promise.{tick_at, Often, last, next, Calls, none, call, last_event, DeadBy, NeverDead, Promised}
use Rattle.supervision.proofs.Ticks.{Holds, still, same_step}
use Rattle.supervision.proofs.Bounds.{quiet, in-time, never}

-- ---- the promise

-- Whatever the state stands for: the calls answer what the rules answer.
pub as-rules : {o a z : ℕ} {l l' : Link} {s : State} {xs : List Showing} {rs : List Answer} → Calls o l xs rs l' → Often a xs z → Holds o a l s
    → rs ≡ answers s xs
as-rules none (last m n) q = refl
as-rules {o} {s = s} (call {rs = rs} x r e more) (next _ m n often) q =
    let f = same_step o x.time m (omega arith) x.happened q in
    let w = step s x.time x.happened in
    let h : Holds o x.time r.link w.next = subst (λ (g : Shown). Holds o x.time g.link w.next) (sym e) f.holds in
    ap (λ (g : Answer). g ∷ rs) (ap (λ (g : Shown). g.answer) e ∙ f.answer) ∙ ap (λ (gs : List Answer). w.answer ∷ gs) (as-rules more often h)

-- From the start at the time s up to the present z, for every tick that the start may have and every list of showings.
pub promise : {o s z : ℕ} {l' : Link} {xs : List Showing} {rs : List Answer} → Calls o (begun (tick_at o s)) xs rs l' → Often s xs z → Promised s z xs rs
promise {s = s} {z = z} {xs = xs} calls often =
    let e = as-rules calls often (still {t = s} (omega arith) (omega arith)) in
    record {
      as-rules = e;
      dead-in-time = λ h. subst (DeadBy (last_event s xs + 12000) xs) (sym e) (in-time often (quiet (omega arith) (omega arith)) h);
      never-dead = λ h. subst NeverDead (sym e) (never s xs h);
    }

-- ---- the contracts

-- `start` was called with the tick and gave l: what its contract has it ensure.
pub record Started (tick : ℕ) (l : Link) : Type 0 where
  pub κs : Lfts 0
  pub args : World.ArgsD start.signature κs
  pub exits : Clauses.AtExit (K.ended_of 0 start-kinds.ps start-kinds.r) κs
  pub tick_is : args.0 ≡ tick
  pub ensured : start-reads.Post κs args l exits

-- `show` was called with the state l, the tick and what happened, and gave r: what its contract has it ensure.
pub record Call (l : Link) (tick : ℕ) (h : Happened) (r : Shown) : Type 0 where
  pub κs : Lfts 0
  pub args : World.ArgsD show.signature κs
  pub exits : Clauses.AtExit (K.ended_of 0 show-kinds.ps show-kinds.r) κs
  pub link-is : args.0 ≡ l
  pub tick_is : args.1.0 ≡ tick
  pub happened-is : args.1.1.0 ≡ h
  pub ensured : show-reads.Post κs args r exits

-- What `start` and `show` give is what `begun` and `shows` say, and nothing else.
pub starts : {tick : ℕ} {l : Link} → Started tick l → l ≡ begun tick
starts k = cc k.ensured

pub started : (tick : ℕ) → Started tick (begun tick)
started tick = record { κs = tt; args = (tick, tt); exits = (tick, tt); tick_is = refl; ensured = refl }

pub says : {l : Link} {tick : ℕ} {h : Happened} {r : Shown} → Call l tick h r → r ≡ shows l tick h
says k = cc k.ensured

pub called : (l : Link) (tick : ℕ) (h : Happened) {r : Shown} → r ≡ shows l tick h → Call l tick h r
called l tick h e =
    record {
      κs = tt;
      args = (l, (tick, (h, tt)));
      exits = (l, (tick, (h, tt)));
      link-is = refl;
      tick_is = refl;
      happened-is = refl;
      ensured = e;
    }

-- ---- there are calls for every list of showings

pub record Run (o : ℕ) (l : Link) (xs : List Showing) : Type 0 where
  pub answered : List Answer
  pub link : Link
  pub calls : Calls o l xs answered link

pub some-run : (o : ℕ) (l : Link) (xs : List Showing) → Run o l xs
some-run o l [] = record { answered = []; link = l; calls = none }
some-run o l (x ∷ xs) =
    let r = shows l (tick_at o x.time) x.happened in
    let k = some-run o r.link xs in
    record { answered = r.answer ∷ k.answered; link = k.link; calls = call x r refl k.calls }

-- THE PROMISE, with nothing left open: whatever the tick at the start, for all showings that are often enough there are calls of `start` and `show`, and they
-- answer as promised.
pub every-run : (o s : ℕ) {z : ℕ} (xs : List Showing) → Often s xs z
    → (l : Link) × (Started (tick_at o s) l × ((k : Run o l xs) × Promised s z xs k.answered))
every-run o s xs often =
    let k = some-run o (begun (tick_at o s)) xs in
    (begun (tick_at o s), (started (tick_at o s), (k, promise k.calls often)))
