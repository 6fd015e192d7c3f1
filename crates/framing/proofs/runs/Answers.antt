use Prim.Native.Nat.{ℕ, ◌+◌}
use mathlib.Core.Bool.{false}
use mathlib.Core.List.{List}
use mathlib.Core.Path.{◌≡◌, refl, sym, subst, ◌∙◌}
use native.Mathlib.Omega.{arith}
use lib.Dec.{eqb}
use lib.ListN.{drop, get_or}
use Rattle.framing_session.specs.declared.Event.{Event}
use Rattle.framing_session.specs.declared.Event.TheVariants.{More, Setup, Piece, Message, Request, Response, Refused}
use Rattle.framing_session.specs.declared.Session.{Session}
use Rattle.framing_session.specs.Rules.{step}
use Rattle.framing_session.specs.Session.{said_by, state_of, Legal, keeps, run}
use Rattle.framing_session.proofs.Laws.{legal-true, unless-legal, number-not-zero, turn-legal, turn-event, turn_end, reaches_here, reaches-on, reaches_more}
use Rattle.framing_session.specs.Steps.{gives, Reaches}
use Rattle.framing.proofs.runs.Goals.{After-step-t, After-strides-p, Start}
use Rattle.framing.proofs.runs.Goals as goal

-- the second arm of the `if let`: an event that has a number
loud : (e : Event) (t : List ℕ) → (e ≡ More → ⊥) → eqb (said_by e t).number 0 ≡ false
loud More t h = absurd (h refl)
loud Setup t h = refl
loud (Piece d) t h = refl
loud (Message n d) t h = refl
loud Request t h = refl
loud Response t h = refl
loud (Refused f d) t h = number-not-zero f

-- where the call begins
begun : (c : Start) → Legal c.args.session c.args.store.now
begun c = legal-true c.args.session c.args.store.now c.requires

-- after a step in the loop
module _ (c : After-step-t) where
  abbrev chunk : List ℕ
  chunk = c.args.chunk.now

  abbrev i : ℕ
  i = c.loop-i.i

  abbrev s : Session
  s = c.loop-i.s

  abbrev t : List ℕ
  t = c.loop-i.store

  abbrev t' : List ℕ
  t' = c.step-t.new.store

  -- what the rules say of the byte
  ensured : keeps (step (state_of s t) (get_or chunk i 0)) t ≡ gives c.step-t.result t'
  ensured = unless-legal s t c.loop-i.invariant.legal c.step-t.ensures

  stepped : Legal c.step-t.result.session t'
  stepped =
      turn-legal chunk i s t c.step-t.result t' c.loop-i.invariant.legal c.loop-i-test.true
      ensured

  -- an event ends the call
  ended : (c.step-t.result.event ≡ More → ⊥)
      → run (drop i chunk) (state_of s t) t i
      ≡ record { said = said_by c.step-t.result.event t'; consumed = i + 1; session = c.step-t.result.session; store = t' }
  ended h =
      turn-event chunk i s t c.step-t.result t' c.loop-i.invariant.legal c.loop-i-test.true
      ensured (loud c.step-t.result.event t' h)

  -- no event: the call goes on
  goes_on : c.step-t.result.event ≡ More → Reaches chunk i s t (i + 1) c.step-t.result.session t'
  goes_on e =
      reaches_more chunk i s t c.step-t.result t' c.loop-i.invariant.legal c.loop-i-test.true
      ensured e

pub loop-i-init : goal.loop-i-init
loop-i-init c =
    let a = c.args in
    reaches_here a.chunk.now 0 a.session a.store.now (begun (goal.at.loop-i-init c).Start) (omega arith)

pub bounds-chunk-i : goal.bounds-chunk-i
bounds-chunk-i c = omega arith

pub overflow_add-i : goal.overflow_add-i
overflow_add-i c = omega arith

pub shape_of-store-in_default : goal.shape_of-store-in_default
shape_of-store-in_default c = (stepped (goal.at.shape_of-store-in_default c).After-step-t).room ∙ sym (begun (goal.at.shape_of-store-in_default c).Start).room

pub returns-in_default : goal.returns-in_default
returns-in_default c = c.loop-i.invariant.rest ∙ ended (goal.at.returns-in_default c).After-step-t c.in_default.not-More

-- after a stride
module _ (c : After-strides-p) where
  abbrev chunk-now : List ℕ
  chunk-now = c.args.chunk.now

  abbrev i-now : ℕ
  i-now = c.loop-i.i

  stepped-on : Reaches chunk-now i-now c.loop-i.s c.loop-i.store (i-now + 1) c.step-t.result.session c.step-t.new.store
  stepped-on =
      reaches_more chunk-now i-now c.loop-i.s c.loop-i.store c.step-t.result c.step-t.new.store c.loop-i.invariant.legal c.loop-i-test.true
      (unless-legal c.loop-i.s c.loop-i.store c.loop-i.invariant.legal c.step-t.ensures) c.in-More.is

  strode : Reaches chunk-now (i-now + 1) c.step-t.result.session c.step-t.new.store c.strides-p.result.at c.strides-p.result.session
      c.strides-p.new.store
  strode = c.strides-p.ensures.on stepped-on.legal stepped-on.inside

  -- with the session rebuilt
  onward : {x : Session} → x ≡ c.strides-p.result.session
      → Reaches chunk-now (i-now + 1) c.step-t.result.session c.step-t.new.store c.strides-p.result.at x c.strides-p.new.store
  onward e =
      subst
      (λ (x : Session). Reaches chunk-now (i-now + 1) c.step-t.result.session c.step-t.new.store c.strides-p.result.at x c.strides-p.new.store)
      (sym e) strode

pub loop-i-smaller : goal.loop-i-smaller
loop-i-smaller c = let p = strode (goal.at.loop-i-smaller c).After-strides-p in omega (arith, p.forward, p.inside)

pub loop-i-preserved : goal.loop-i-preserved
loop-i-preserved c = reaches-on c.loop-i.invariant (reaches-on (stepped-on (goal.at.loop-i-preserved c).After-strides-p) (onward (goal.at.loop-i-preserved c).After-strides-p c.rebuilt-onward.ensures))

pub shape_of-store : goal.shape_of-store
shape_of-store c = c.loop-i.invariant.legal.room ∙ sym (begun (goal.at.shape_of-store c).Start).room

pub returns : goal.returns
returns c =
    let l = c.loop-i in
    l.invariant.rest ∙ turn_end c.args.chunk.now l.i l.s l.store l.invariant.legal c.loop-i-test.false
