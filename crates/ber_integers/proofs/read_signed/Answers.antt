use Rattle.std.specs.Prelude.{Some}
use Rattle.ber_integers.proofs.Promises.{promised, integer-row}
use Prim.Native.Nat.{ℕ, ◌+◌, ◌≤◌, ◌<◌, ◌-◌, ◌^◌}
use mathlib.Core.Path.{◌≡◌, sym, ap, ◌∙◌}
use mathlib.Core.List.{List}
use native.Mathlib.Omega.{arith}
use lib.ListN.{length, take, drop, get_or}
use mir.Syntax.{w64}
use mir.Facts.{to_z_pos}
use Rattle.ber_integers.specs.Digits.{natural}
use Rattle.ber_integers.proofs.Laws.{part-first, signed-out, signed-none, signed-long, signed_is}
use Rattle.ber_integers.proofs.Signs.{low_fits, low-is, high_fits, high_is, minus-fits, minus_is}
use Rattle.ber_integers.proofs.read_signed.Goals.{After-natural_of-v, After-ones}
use Rattle.ber_integers.proofs.read_signed.Goals as goal

-- what is known of the octets that are held
module _ (c : After-natural_of-v) where
  within : c.args.at + c.args.n ≤ length c.args.s.now
  within = c.in_ok-octets.ensures.0

  some : 0 < c.args.n
  some = omega (arith, c.if-n-eq0.false)

  value : c.natural_of-v.result ≡ natural (take c.args.n (drop c.args.at c.args.s.now))
  value = c.natural_of-v.ensures.value ∙ ap natural c.in_ok-octets.ensures.1

  first : get_or c.in_ok-octets.octets.now 0 0 ≡ get_or c.args.s.now c.args.at 0
  first = ap (λ (l : List ℕ). get_or l 0 0) c.in_ok-octets.ensures.1 ∙ part-first c.args.s.now c.args.at c.args.n some within

  bytes : (i : ℕ) → get_or c.args.s.now i 0 < 256
  bytes i = (c.type_inv.s i).fits

pub returns-in_err-octets : goal.returns-in_err-octets
returns-in_err-octets c = rw c.from_residual.ensures (promised integer-row (signed-out _ _ _ c.in_err-octets.ensures))

pub returns-then-n-eq0 : goal.returns-then-n-eq0
returns-then-n-eq0 c = promised integer-row (signed-none _ _ _ c.in_ok-octets.ensures.0 c.if-n-eq0.true)

pub returns-then-n-gt8 : goal.returns-then-n-gt8
returns-then-n-gt8 c = promised integer-row (signed-long _ _ _ c.in_ok-octets.ensures.0 c.if-n-gt8.true)

pub overflow_cast-result : goal.overflow_cast-result
overflow_cast-result c =
    let a = (goal.at.overflow_cast-result c).After-natural_of-v in
    let l : get_or c.args.s.now c.args.at 0 < 128 = omega (arith, first a, c.if-octets-lt128.true) in
    record { sfits = rw (value a) (low_fits _ _ _ (bytes a) (some a) c.if-n-gt8.false (within a) l) }

-- the distance from -1 of a number below 0
far : (c : After-natural_of-v) (k : ℕ) → k + 1 ≡ 256 ^ c.args.n → c.args.n ≤ 8 → 128 ≤ get_or c.in_ok-octets.octets.now 0 0
    → k - c.natural_of-v.result < 2 ^ 63
far c k e few h =
    let l : 128 ≤ get_or c.args.s.now c.args.at 0 = omega (arith, first c, h) in
    rw (value c) (high_fits _ _ _ (bytes c) (some c) few (within c) l k e)

pub overflow_cast-result-else-octets-lt128 : goal.overflow_cast-result-else-octets-lt128
overflow_cast-result-else-octets-lt128 c =
    record { sfits = far (goal.at.overflow_cast-result-else-octets-lt128 c).After-natural_of-v _ c.ones.ensures c.if-n-gt8.false c.if-octets-lt128.false }

pub overflow_sub-result-else-octets-lt128 : goal.overflow_sub-result-else-octets-lt128
overflow_sub-result-else-octets-lt128 c =
    minus-fits _ (far (goal.at.overflow_sub-result-else-octets-lt128 c).After-natural_of-v _ c.ones.ensures c.if-n-gt8.false c.if-octets-lt128.false)

pub returns-then-octets-lt128 : goal.returns-then-octets-lt128
returns-then-octets-lt128 c =
    let a = (goal.at.returns-then-octets-lt128 c).After-natural_of-v in
    let l : get_or c.args.s.now c.args.at 0 < 128 = omega (arith, first a, c.if-octets-lt128.true) in
    let k = low_fits _ _ _ (bytes a) (some a) c.if-n-gt8.false (within a) l in
    promised integer-row (ap Some (rw (value a) (to_z_pos w64 k) ∙ sym (low-is _ _ _ (bytes a) (some a) c.if-n-gt8.false (within a) l))
    ∙ signed_is _ _ _ (within a) (some a) c.if-n-gt8.false)

pub returns-else-octets-lt128 : goal.returns-else-octets-lt128
returns-else-octets-lt128 c =
    let a = (goal.at.returns-else-octets-lt128 c).After-natural_of-v in
    let l : 128 ≤ get_or c.args.s.now c.args.at 0 = omega (arith, first a, c.if-octets-lt128.false) in
    promised integer-row (ap Some (minus_is _ (far a _ c.ones.ensures c.if-n-gt8.false c.if-octets-lt128.false) ∙ rw (value a)
    (sym (high_is _ _ _ (bytes a) (some a) c.if-n-gt8.false (within a) l c.ones.result c.ones.ensures)))
    ∙ signed_is _ _ _ (within a) (some a) c.if-n-gt8.false)
