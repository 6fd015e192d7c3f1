-- A call of the session consumes no more than it is offered.
use Prim.Native.Nat.{ℕ, suc, ◌+◌, ◌≤◌}
use mathlib.Core.Path.{◌≡◌, ap}
use mathlib.Core.Bool.{Bool, true, false}
use mathlib.Core.List.{List, [], ◌∷◌}
use native.Mathlib.Omega.{arith}
use lib.Dec.{eqb}
use lib.ListN.{length}
use Rattle.framing_session.specs.declared.Event.TheVariants as ev
use Rattle.framing_session.specs.declared.Session.{Session}
use Rattle.base_choices.specs.Choices.{pick}
use Rattle.framing_session.specs.Rules.{State, step}
use Rattle.framing_session.specs.Session.{said_by, state_of, legal, kept, Whole, whole, run, feeds}

run-consumed : (bs : List ℕ) (s : State) (t : List ℕ) (n : ℕ) → (run bs s t n).consumed ≤ n + length bs
unfolding run
run-consumed [] s t n = omega arith
run-consumed (b ∷ bs) s t n = by (run-consumed bs (step s b).next (kept (step s b) t) (n + 1)) (eqb (step s b).said.number 0)
  where
    by : (run bs (step s b).next (kept (step s b) t) (n + 1)).consumed ≤ n + 1 + length bs → (x : Bool)
        → (pick x (run bs (step s b).next (kept (step s b) t) (n + 1))
        (whole (step s b).said (n + 1) (step s b).next (kept (step s b) t))).consumed ≤ n + suc (length bs)
    by h true = omega arith
    by h false = omega arith

pub feeds-consumed : (s : Session) (t bs : List ℕ) {w : Whole} → feeds s t bs ≡ w → w.consumed ≤ length bs
unfolding feeds
feeds-consumed s t bs e = omega (arith, by (legal s (length t)), ap (λ (w : Whole). w.consumed) e)
  where
    by : (x : Bool) → (pick x (run bs (state_of s t) t 0) (record { said = said_by ev.Setup t; consumed = 0; session = s; store = t })).consumed ≤ length bs
    by true = omega (arith, run-consumed bs (state_of s t) t 0)
    by false = omega arith
