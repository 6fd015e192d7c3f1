use Rattle.std.specs.Prelude.{ℕ, Option, Some, None}
use mathlib.Core.Path.{refl}
use mathlib.Core.Bool.{false}
use lib.ListN.{take, drop}
use Rattle.framing_session.specs.declared.Frame.TheVariants.{Outside}
use Rattle.framing_content.specs.declared.Fault.TheVariants.{Orphan}
use Rattle.framing_session.specs.Steps.{refusing}
use Rattle.framing_session.specs.Session.{message_of, keeps}
use mathlib.Core.Path.{◌≡◌, sym, ap, ◌∙◌}
use native.Mathlib.Omega.{arith}
use Rattle.framing_session.proofs.Laws.{gives_same, keeps-first, keeps-orphan, keeps-later, keeps-big}
use Rattle.framing_session.specs.Steps.{joining}
use Rattle.framing_session.specs.Session.{message_length}
use Rattle.framing_session.specs.Rules.{pieces}
use mathlib.Core.Bool.{Bool}
use Rattle.framing_pieces.proofs.pieces.Goals as goal

pub returns-then-first : goal.returns-then-first
unfolding pieces
returns-then-first c =
    let a = c.args in
    let p = c.requires in
    let t = a.store.now in
    rw c.if-first.true
    (keeps-first t p.room a.last a.n p.frame a.message
    ∙ gives_same (sym (c.joins.ensures ∙ ap (λ (d : Bool). joining a.last d a.n)
    c.is_some-discarded.ensures)) (sym c.copies.ensures))

pub overflow_add-all : goal.overflow_add-all
overflow_add-all c = omega (arith, ap message_length c.in-Some.is)

pub returns-then-all-gt-MESSAGE_LIMIT : goal.returns-then-all-gt-MESSAGE_LIMIT
unfolding pieces
returns-then-all-gt-MESSAGE_LIMIT c =
    let a = c.args in
    let p = c.requires in
    let t = a.store.now in
    let e : a.message ≡ Some c.in-Some.length = c.in-Some.is in
    rw c.if-first.false
    (ap (λ (m : Option ℕ). keeps (pieces false a.last (take a.n (drop 16393 t)) (message_of m t)) t) e
    ∙ keeps-big t p.room a.last a.n p.frame c.in-Some.length (omega (arith, ap message_length e))
    c.if-all-gt-MESSAGE_LIMIT.true
    ∙ gives_same (sym c.refuses-then-all-gt-MESSAGE_LIMIT.ensures) refl)

pub returns-in-None : goal.returns-in-None
unfolding pieces
returns-in-None c =
    let a = c.args in
    let p = c.requires in
    let t = a.store.now in
    let e : a.message ≡ None = c.in-None.is in
    rw c.if-first.false
    (ap (λ (m : Option ℕ). keeps (pieces false a.last (take a.n (drop 16393 t)) (message_of m t)) t) e
    ∙ keeps-orphan t p.room a.last a.n p.frame
    ∙ gives_same (sym (c.refuses.ensures ∙ ap (refusing Orphan Outside) e)) refl)

pub returns-else-all-gt-MESSAGE_LIMIT : goal.returns-else-all-gt-MESSAGE_LIMIT
unfolding pieces
returns-else-all-gt-MESSAGE_LIMIT c =
    let a = c.args in
    let p = c.requires in
    let t = a.store.now in
    let e : a.message ≡ Some c.in-Some.length =
    c.in-Some.is in
    rw c.if-first.false
    (ap (λ (m : Option ℕ). keeps (pieces false a.last (take a.n (drop 16393 t)) (message_of m t)) t) e
    ∙ keeps-later t p.room a.last a.n p.frame c.in-Some.length
    (omega (arith, ap message_length e)) c.if-all-gt-MESSAGE_LIMIT.false
    ∙ gives_same (sym c.joins-in-Some.ensures) (sym c.copies-in-Some.ensures))
