use borrow.Author.Tests.{eq-eqb, ne_eqb, le-leb, lt-leb}
use mathlib.Core.Path.{sym, ap, ◌∙◌}
use native.Mathlib.Omega.{arith}
use Rattle.framing_session.specs.Steps.{gives, inside_of}
use Rattle.framing_session.specs.declared.Stepped.{Stepped}
use Rattle.framing_session.proofs.Laws.{content-length, keeps-goes, keeps-refuses, unless-legal}
use Rattle.framing_session.specs.Rules.{cuts, in_place}
use Rattle.framing_session.specs.declared.Frame.TheVariants.{Inside, Escaped, BadByte}
use Rattle.framing_content.specs.declared.Fault.TheVariants.{Cut}
use Rattle.framing_steps.proofs.inside.Goals as goal

pub returns-then-b-lt248 : goal.returns-then-b-lt248
unfolding in_place
returns-then-b-lt248 c =
    let a = c.args in
    let p = c.requires in
    let t = a.store.now in
    simp (
      ne_eqb a.b 254 (λ e. omega (arith, e, c.if-b-lt248.true)),
      ne_eqb a.b 255 (λ e. omega (arith, e, c.if-b-lt248.true)),
      ne_eqb a.b 253 (λ e. omega (arith, e, c.if-b-lt248.true)),
      lt-leb 0xf8 a.b c.if-b-lt248.true,
    ) c.adds.ensures

pub returns-then-b-eq-CE : goal.returns-then-b-eq-CE
unfolding in_place
returns-then-b-eq-CE c =
    let a = c.args in
    let p = c.requires in
    let t = a.store.now in
    simp (
      ne_eqb a.b 254 (λ e. omega (arith, e, c.if-b-eq-CE.true)),
      ne_eqb a.b 255 (λ e. omega (arith, e, c.if-b-eq-CE.true)),
      eq-eqb a.b 0xfd c.if-b-eq-CE.true,
    )
    (keeps-goes t p.room (Escaped a.length) a.message p.frame p.message ∙ ap (λ (r : Stepped). gives r t) (sym c.goes.ensures))

pub returns-then-b-eq-EOF : goal.returns-then-b-eq-EOF
unfolding in_place
returns-then-b-eq-EOF c =
    let a = c.args in
    let p = c.requires in
    let t = a.store.now in
    simp (
      ne_eqb a.b 254 (λ e. omega (arith, e, c.if-b-eq-EOF.true)),
      eq-eqb a.b 0xff c.if-b-eq-EOF.true,
    )
    (unless-legal (inside_of a.length a.message) t p
    c.end_frame.ensures)

pub returns-then-length-eq0 : goal.returns-then-length-eq0
unfolding in_place cuts
returns-then-length-eq0 c =
    let a = c.args in
    let p = c.requires in
    let t = a.store.now in
    simp (eq-eqb a.b 0xfe c.if-b-eq-BOF.true, eq-eqb _ 0 (content-length t p.room a.length p.frame ∙ c.if-length-eq0.true))
    (keeps-goes t p.room (Inside 0) a.message (omega arith) p.message ∙ ap (λ (r : Stepped). gives r t) (sym c.goes-then-length-eq0.ensures))

pub returns-then-b-eq-BOF : goal.returns-then-b-eq-BOF
unfolding in_place cuts
returns-then-b-eq-BOF c =
    let a = c.args in
    let p = c.requires in
    let t = a.store.now in
    simp (
      eq-eqb a.b 0xfe c.if-b-eq-BOF.true,
      ne_eqb _ 0 (λ e. c.if-length-eq0.false (sym (content-length t p.room a.length p.frame) ∙ e)),
    )
    (keeps-refuses t p.room (Inside 0) a.message (omega arith) p.message Cut ∙ ap (λ (r : Stepped). gives r t) (sym c.refuses.ensures))

pub returns : goal.returns
unfolding in_place
returns c =
    let a = c.args in
    let p = c.requires in
    let t = a.store.now in
    simp (
      ne_eqb _ _ c.if-b-eq-BOF.false,
      ne_eqb _ _ c.if-b-eq-EOF.false,
      ne_eqb _ _ c.if-b-eq-CE.false,
      le-leb 0xf8 a.b c.if-b-lt248.false,
    )
    (keeps-goes t p.room (BadByte a.length) a.message p.frame p.message ∙ ap (λ (r : Stepped). gives r t) (sym c.goes-2.ensures))
