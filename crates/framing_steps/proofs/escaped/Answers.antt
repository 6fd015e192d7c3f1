use borrow.Author.Tests.{lt-ltb, le-ltb, eq-eqb, ne_eqb}
use mathlib.Core.Path.{refl, sym, ◌∙◌}
use native.Mathlib.Omega.{arith}
use Rattle.framing_session.proofs.Laws.{gives_same, keeps-goes, keeps-refuses}
use Rattle.framing_session.specs.Rules.{in_place}
use Rattle.framing_session.specs.declared.Frame.TheVariants.{Outside, Inside, BadByte}
use Rattle.framing_content.specs.declared.Fault.TheVariants.{Cut, Escape}
use Rattle.framing_steps.proofs.escaped.Goals as goal

pub returns-then-b-lt216 : goal.returns-then-b-lt216
unfolding in_place
returns-then-b-lt216 c =
    let a = c.args in
    let p = c.requires in
    let t = a.store.now in
    simp (
      ne_eqb a.b 0xfe (λ e. omega (arith, e, c.if-b-lt216.true)),
      ne_eqb a.b 0xff (λ e. omega (arith, e, c.if-b-lt216.true)),
      lt-ltb a.b 0xd8 c.if-b-lt216.true,
    )
    (keeps-goes t p.room (BadByte a.length) a.message p.frame p.message ∙ gives_same (sym c.goes.ensures) refl)

pub returns-then-b-le223 : goal.returns-then-b-le223
unfolding in_place
returns-then-b-le223 c =
    let a = c.args in
    let p = c.requires in
    let t = a.store.now in
    simp (
      ne_eqb a.b 0xfe (λ e. omega (arith, e, c.if-b-le223.true)),
      ne_eqb a.b 0xff (λ e. omega (arith, e, c.if-b-le223.true)),
      le-ltb a.b 0xd8 c.if-b-lt216.false,
      le-ltb 0xdf a.b c.if-b-le223.true,
    ) c.adds.ensures

pub returns-then-b-eq-BOF : goal.returns-then-b-eq-BOF
unfolding in_place
returns-then-b-eq-BOF c =
    let a = c.args in
    let p = c.requires in
    let t = a.store.now in
    simp (eq-eqb a.b 0xfe c.if-b-eq-BOF.true)
    (keeps-refuses t p.room (Inside 0) a.message (omega arith) p.message Cut ∙ gives_same (sym c.refuses.ensures) refl)

pub returns-then-b-eq-EOF : goal.returns-then-b-eq-EOF
unfolding in_place
returns-then-b-eq-EOF c =
    let a = c.args in
    let p = c.requires in
    let t = a.store.now in
    simp (ne_eqb a.b 0xfe c.if-b-eq-BOF.false, eq-eqb a.b 0xff c.if-b-eq-EOF.true)
    (keeps-refuses t p.room Outside a.message (omega arith) p.message Escape ∙ gives_same (sym c.refuses-then-b-eq-EOF.ensures) refl)

pub returns : goal.returns
unfolding in_place
returns c =
    let a = c.args in
    let p = c.requires in
    let t = a.store.now in
    simp (
      ne_eqb a.b 0xfe c.if-b-eq-BOF.false,
      ne_eqb a.b 0xff c.if-b-eq-EOF.false,
      le-ltb a.b 0xd8 c.if-b-lt216.false,
      lt-ltb 0xdf a.b c.if-b-le223.false,
    )
    (keeps-goes t p.room (BadByte a.length) a.message p.frame p.message ∙ gives_same (sym c.goes-2.ensures) refl)
