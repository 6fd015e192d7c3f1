use mathlib.Core.Path.{refl, sym, ◌∙◌}
use native.Mathlib.Omega.{arith}
use Rattle.framing_session.proofs.Laws.{legal-true, true-legal}
use Rattle.framing_strides.proofs.Laws.{apart}
use Rattle.framing_strides.proofs.strides.Goals as goal

-- a place past the chunk
pub returns-then-chunk-from : goal.returns-then-chunk-from
returns-then-chunk-from c =
    record {
      on = λ l h. absurd (omega (arith, h, c.if-chunk-from.true));
      setup = λ e. (refl, refl);
      past = λ h. (refl, refl);
    }

pub advances-requires : goal.advances-requires
advances-requires c =
    let a = c.args in
    (legal-true a.session a.store.now (sym c.is_legal.ensures ∙ c.if-is_legal.true), c.if-chunk-from.false)

pub returns-then-is_legal : goal.returns-then-is_legal
returns-then-is_legal c =
    let a = c.args in
    let legal = sym c.is_legal.ensures ∙ c.if-is_legal.true in
    let inside = c.if-chunk-from.false in
    record {
      on = λ l h. c.advances.ensures;
      setup = λ e. apart legal e;
      past = λ h. absurd (omega (arith, h, inside));
    }

-- what SETUP refuses
pub returns : goal.returns
returns c =
    let a = c.args in
    let refused = sym c.is_legal.ensures ∙ c.if-is_legal.false in
    record {
      on = λ l h. apart (true-legal a.session a.store.now l) refused;
      setup = λ e. (refl, refl);
      past = λ h. (refl, refl);
    }
