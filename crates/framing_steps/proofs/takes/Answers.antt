use Prim.Native.Nat.{ℕ, ◌≤◌}
use mathlib.Core.List.{List}
use lib.ListN.{length}
use Rattle.framing_session.specs.declared.Session.{Session}
use Rattle.framing_session.specs.declared.Stepped.{Stepped}
use Rattle.framing_content.specs.Numbers.{content_limit, message_limit, store_length}
use borrow.Author.Tests.{eq-eqb, ne_eqb}
use mathlib.Core.Path.{◌≡◌, sym, ap, ◌∙◌}
use native.Mathlib.Omega.{arith}
use Rattle.framing_session.proofs.Laws.{gives_same, keeps-goes, keeps-refuses, keeps-faulted}
use mathlib.Core.Path.{refl}
use Rattle.framing_session.specs.declared.Frame.{Frame}
use Rattle.framing_session.specs.declared.Frame.TheVariants.{Outside, Inside, Escaped, BadByte, TooLong}
use Rattle.framing_content.specs.declared.Fault.{Fault}
use Rattle.framing_content.specs.declared.Fault.TheVariants.{Byte, Long}
use Rattle.framing_session.specs.Rules.{Step, faulted, in_place, step}
use Rattle.framing_session.specs.Session.{frame_length, message_length, place_of, message_of, state_of, keeps}
use Rattle.framing_session.specs.Steps.{gives, going, past_fault}
use Rattle.framing_steps.proofs.takes.Goals as goal

-- the step where the session's frame is known
at-frame : (s : Session) (f : Frame) (b : ℕ) (t : List ℕ) → s.frame ≡ f → keeps (step (state_of s t) b) t
    ≡ keeps (in_place (place_of f t) (message_of s.message t) b) t
unfolding step
at-frame s f b t e = ap (λ (f : Frame). keeps (in_place (place_of f t) (message_of s.message t) b) t) e

-- .. and has a fault
at-fault : (s : Session) (x : Fault) (f : Frame) (b : ℕ) (t : List ℕ) (r : Stepped) → length t ≡ store_length → frame_length s.frame ≤ content_limit
    → message_length s.message ≤ message_limit → s.frame ≡ f → in_place (place_of f t) (message_of s.message t) b
    ≡ faulted x (place_of f t) (message_of s.message t) b
    → r ≡ past_fault x s.frame b s.message → keeps (step (state_of s t) b) t ≡ gives r t
at-fault s x f b t r room hf hm e i k =
    at-frame s f b t e
    ∙ ap (λ (o : Step). keeps o t) i
    ∙ keeps-faulted t room x f b s.message (omega (arith, ap frame_length e)) hm
    ∙ gives_same (sym (k ∙ ap (λ (f : Frame). past_fault x f b s.message) e)) refl

pub returns-then-b-eq-BOF : goal.returns-then-b-eq-BOF
unfolding in_place
returns-then-b-eq-BOF c =
    let a = c.args in
    let p = c.requires in
    let t = a.store.now in
    let m = a.session.message in
    at-frame a.session Outside a.b t c.in-Outside.is
    ∙ simp (eq-eqb a.b 0xfe c.if-b-eq-BOF.true) (keeps-goes t p.room (Inside 0) m (omega arith) p.message ∙ gives_same (sym c.goes.ensures) refl)

pub returns-then-b-eq-BOF-2 : goal.returns-then-b-eq-BOF-2
unfolding in_place
returns-then-b-eq-BOF-2 c =
    let a = c.args in
    let p = c.requires in
    let t = a.store.now in
    let m = a.session.message in
    at-frame a.session Frame.Stray a.b t c.in-Stray.is
    ∙ simp (eq-eqb a.b 0xfe c.if-b-eq-BOF-2.true) (keeps-goes t p.room (Inside 0) m (omega arith) p.message ∙ gives_same (sym c.goes-then-b-eq-BOF-2.ensures) refl)

pub inside-requires : goal.inside-requires
inside-requires c =
    let p = c.requires in
    let e = ap frame_length c.in-Inside.is in
    record { room = p.room; frame = omega (arith, e, p.frame); message = p.message }

pub escaped-requires : goal.escaped-requires
escaped-requires c =
    let p = c.requires in
    let e = ap frame_length c.in-Escaped.is in
    record { room = p.room; frame = omega (arith, e, p.frame); message = p.message }

pub returns-else-b-eq-BOF : goal.returns-else-b-eq-BOF
unfolding in_place
returns-else-b-eq-BOF c =
    let a = c.args in
    let p = c.requires in
    let t = a.store.now in
    let m = a.session.message in
    at-frame a.session Outside a.b t c.in-Outside.is
    ∙ simp (ne_eqb a.b 0xfe c.if-b-eq-BOF.false)
    (keeps-refuses t p.room Frame.Stray m (omega arith) p.message Fault.Stray ∙ gives_same (sym c.refuses.ensures) refl)

pub returns-else-b-eq-BOF-2 : goal.returns-else-b-eq-BOF-2
unfolding in_place
returns-else-b-eq-BOF-2 c =
    let a = c.args in
    let p = c.requires in
    let t = a.store.now in
    let m = a.session.message in
    at-frame a.session Frame.Stray a.b t c.in-Stray.is
    ∙ simp (ne_eqb a.b 0xfe c.if-b-eq-BOF-2.false)
    (keeps-goes t p.room Frame.Stray m (omega arith) p.message
    ∙ gives_same (sym (c.goes-in-Stray.ensures ∙ ap (λ (f : Frame). going f m) c.in-Stray.is)) refl)

pub returns-in-Inside : goal.returns-in-Inside
returns-in-Inside c =
    let a = c.args in
    at-frame a.session (Inside c.in-Inside.length) a.b a.store.now
    c.in-Inside.is ∙ c.inside.ensures

pub returns-in-Escaped : goal.returns-in-Escaped
returns-in-Escaped c =
    let a = c.args in
    at-frame a.session (Escaped c.in-Escaped.length) a.b a.store.now
    c.in-Escaped.is ∙ c.escaped.ensures

pub returns-in-BadByte : goal.returns-in-BadByte
unfolding in_place
returns-in-BadByte c =
    let a = c.args in
    let p = c.requires in
    at-fault a.session Byte (BadByte c.in-BadByte.length) a.b a.store.now c.faulted.result p.room p.frame p.message
    c.in-BadByte.is refl c.faulted.ensures

pub returns-in-TooLong : goal.returns-in-TooLong
unfolding in_place
returns-in-TooLong c =
    let a = c.args in
    let p = c.requires in
    at-fault a.session Long (TooLong c.in-TooLong.length) a.b a.store.now c.faulted-in-TooLong.result p.room p.frame p.message
    c.in-TooLong.is refl c.faulted-in-TooLong.ensures
