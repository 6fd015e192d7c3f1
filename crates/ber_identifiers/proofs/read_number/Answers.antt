use Rattle.ber_integers.proofs.Promises.{promised}
use Prim.Native.Nat.{◌-◌}
use mathlib.Core.Path.{◌≡◌, refl, sym, subst, ◌∙◌}
use native.Mathlib.Omega.{arith}
use lib.ListN.{take, drop}
use Rattle.ber_identifiers.specs.declared.Arc.{Arc}
use Rattle.ber_identifiers.specs.Identifier.{arc_from, arc_at, ArcWithin}
use Rattle.ber_identifiers.proofs.Laws.{arc-row, arc-past, arc-none, arc-80, arc-from, from_last, from_more, from_end, from-min}
use Rattle.ber_identifiers.proofs.Within.{arc-within}
use Rattle.ber_identifiers.proofs.read_number.Goals.{Else-s-p}
use Rattle.ber_identifiers.proofs.read_number.Goals as goal

-- the octets from p on, where they do not start with 80
whole : (c : Else-s-p) {r : Arc} → r ≡ arc_from 0 c.args.p (take (c.args.end - c.args.p) (drop c.args.p c.args.s.now)) → r ≡ arc_at c.args.s.now
    c.args.p c.args.end
whole c e = e ∙ arc-from _ _ _ c.if-s-end.false c.if-end-p.false (λ h. omega (arith, h, c.if-s-p.false))

pub returns-then-s-end : goal.returns-then-s-end
returns-then-s-end c = record { promised = promised arc-row (arc-past _ _ _ c.if-s-end.true); arc_within = tt }

pub returns-then-end-p : goal.returns-then-end-p
returns-then-end-p c = record { promised = promised arc-row (arc-none _ _ _ c.if-s-end.false c.if-end-p.true); arc_within = tt }

pub returns-then-s-p : goal.returns-then-s-p
returns-then-s-p c = record { promised = promised arc-row (arc-80 _ _ _ c.if-s-end.false c.if-end-p.false (omega arith)); arc_within = tt }

pub loop-i-init : goal.loop-i-init
loop-i-init c = record { small = omega arith; rest = refl }

pub returns-then-b-lt128 : goal.returns-then-b-lt128
returns-then-b-lt128 c =
    let e = whole (goal.at.returns-then-b-lt128 c).Else-s-p c.loop-i.invariant.rest in
    record {
      promised = promised arc-row (c.ended.ensures ∙ rw c.from.ensures
          (from_last _ _ c.loop-i.acc c.loop-i.i c.if-s-end.false c.loop-i-test.true c.if-b-lt128.true) ∙ e);
      arc_within = subst (ArcWithin _ _) (sym c.ended.ensures)
          (arc-within _ _ _ _ (omega arith) (omega arith));
    }

pub loop-i-preserved : goal.loop-i-preserved
loop-i-preserved c =
    record {
      small = omega arith;
      rest = rw (c.min-acc.ensures, c.from-in-loop-i.ensures)
          (from-min _ _ _ ∙ from_more _ _ c.loop-i.acc c.loop-i.i c.if-s-end.false c.loop-i-test.true c.if-b-lt128.false ∙ c.loop-i.invariant.rest);
    }

pub returns : goal.returns
returns c =
    record {
      promised = promised arc-row (from_end _ _ c.loop-i.acc c.loop-i.i c.if-s-end.false c.loop-i-test.false
          ∙ whole (goal.at.returns c).Else-s-p c.loop-i.invariant.rest);
      arc_within = tt;
    }
