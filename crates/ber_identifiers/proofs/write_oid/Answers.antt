use Prim.Native.Nat.{ℕ, ◌≤◌, ◌+◌, ◌-◌}
use mathlib.Core.Path.{◌≡◌, sym, ap, ◌∙◌}
use mathlib.Core.List.{List, [], ◌∷◌, ◌++◌, append_assoc, append-nil}
use native.Mathlib.Omega.{arith}
use lib.ListN.{length}
use Rattle.std.specs.List.{push}
use Rattle.ber_integers.proofs.Laws.{put-out}
use Rattle.ber_integers.proofs.Output.{append-done}
use Rattle.ber_tags.specs.Write.{septets}
use Rattle.ber_identifiers.specs.Identifier.{oid_octets}
use Rattle.ber_identifiers.proofs.Laws.{put-range, put-oid, put-empty, octets-none, octets-cons, size-cons, size-suffix}
use Rattle.ber_identifiers.proofs.write_oid.Goals.{After-number_size-p}
use Rattle.ber_identifiers.proofs.write_oid.Goals as goal

-- a number before those that are there
before : (r r' done ns : List ℕ) (n : ℕ) → r ≡ push r' n → r ++ done ≡ ns → r' ++ (n ∷ done) ≡ ns
before r r' done ns n e s = sym (append_assoc r' (n ∷ []) done) ∙ ap (λ (l : List ℕ). l ++ done) (sym e) ∙ s

-- none is left before them
all : (r done ns : List ℕ) → length r ≡ 0 → r ++ done ≡ ns → done ≡ ns
all [] done ns z s = s
all (x ∷ r) done ns z s = absurd (omega arith)

-- its octets fit before theirs
turn : (at p k n : ℕ) (r done ns : List ℕ) → r ++ (n ∷ done) ≡ ns → k ≡ length (septets n) → p + length (oid_octets done) ≡ at + length (oid_octets ns)
    → (at + k ≤ p) × (p - k + length (oid_octets (n ∷ done)) ≡ at + length (oid_octets ns))
turn at p k n r done ns e h z =
    let w : length (oid_octets (n ∷ done)) ≤ length (oid_octets ns) = size-suffix r (n ∷ done) ns e in
    let m = size-cons n done in
    (omega arith, omega arith)

pub returns-then-not-in_range : goal.returns-then-not-in_range
returns-then-not-in_range c = put-range _ _ _ (sym c.in_range.ensures ∙ c.if-not-in_range.true)

pub returns-in_err-held : goal.returns-in_err-held
returns-in_err-held c =
    rw c.from_residual.ensures
    (put-oid _ _ _ (sym c.in_range.ensures ∙ c.if-not-in_range.false) ∙ put-out _ _ _ (omega (arith, c.in_err-held.ensures, c.oid_size-n.ensures)))

pub loop-n-init : goal.loop-n-init
loop-n-init c =
    let i : c.into_iter-n-iterator.result.iter.rest.now ≡ c.args.ns.now = cc in
    let z : length (oid_octets []) ≡ 0 = ap length octets-none in
    let w = c.in_ok-held.ensures.0 in
    record {
      done = [];
      split = append-nil _ ∙ i;
      size = omega arith;
      placed = rw octets-none (put-empty c.args.out.now (c.args.at + c.oid_size-n.result) (omega arith));
    }

pub overflow_sub-p : goal.overflow_sub-p
overflow_sub-p c =
    let l = c.loop-n in
    let e = before _ _ l.invariant.done c.args.ns.now _ c.in-Some.ensures.steps l.invariant.split in
    let t = turn c.args.at l.p c.number_size-p.result _ _ l.invariant.done c.args.ns.now e c.number_size-p.ensures.value
    (l.invariant.size ∙ ap (λ (n : ℕ). c.args.at + n) c.oid_size-n.ensures) in
    omega (arith, t.0)

pub loop-n-preserved : goal.loop-n-preserved
loop-n-preserved c =
    let l = c.loop-n in
    let n = c.in-Some.n.now in
    let e = before _ _ l.invariant.done c.args.ns.now n c.in-Some.ensures.steps l.invariant.split in
    let t = turn c.args.at l.p c.number_size-p.result n _ l.invariant.done c.args.ns.now e c.number_size-p.ensures.value
    (l.invariant.size ∙ ap (λ (n : ℕ). c.args.at + n) c.oid_size-n.ensures) in
    let p : l.p ≡ l.p - c.number_size-p.result + length (septets n) = omega (arith, t.0, c.number_size-p.ensures.value) in
    let o = rw p at l.invariant.placed in
    let w = append-done c.args.out.now (l.p - c.number_size-p.result) (septets n) (oid_octets l.invariant.done) _ l.out o _ _ c.write_septets.ensures in
    record {
      done = n ∷ l.invariant.done;
      split = e;
      size = t.1 ∙ ap (λ (n : ℕ). c.args.at + n) (sym c.oid_size-n.ensures);
      placed = rw octets-cons w.1;
    }

pub returns : goal.returns
returns c =
    let l = c.loop-n in
    let d = all _ l.invariant.done c.args.ns.now c.in-None.ensures.steps.0 l.invariant.split in
    let s = rw d at l.invariant.size in
    let p : l.p ≡ c.args.at = omega (arith, s, c.oid_size-n.ensures) in
    put-oid _ _ _ (sym c.in_range.ensures ∙ c.if-not-in_range.false) ∙ rw (d, p) at l.invariant.placed
