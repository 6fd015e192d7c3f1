use Prim.Native.Nat.{ℕ, ◌+◌, ◌-◌, ◌^◌, ◌≤◌, ◌<◌}
use mathlib.Core.Path.{◌≡◌, sym, subst}
use native.Mathlib.Omega.{arith}
use lib.ListN.{length, take, drop, get_or}
use lib.IntN.{pos, ◌+ℤ◌}
use lib.Ieee.{minus}
use Rattle.ber_integers.specs.Digits.{natural}
use Rattle.ber_integers.specs.Integer.{signed}
use Rattle.ber_reals.proofs.Naturals.{read-value, read-never}
use Rattle.ber_reals.proofs.PowerOctets.{part-lt, worth-le, exponent-low, exponent-high}
use Rattle.ber_reals.proofs.power.Goals.{In-Some}
use Rattle.ber_reals.proofs.power.Goals as goal

-- `ber_reals::power` meets its contract. Assumes nothing.
-- the number that was read
module _ (c : In-Some) where
  abbrev v : ℕ
  v = c.in-Some.v

  bytes : (i : ℕ) → get_or c.args.s.now i 0 < 256
  bytes i = (c.shared_slice_known-1.given i).fits

  within : c.args.at + c.args.e ≤ length c.args.s.now
  within = omega arith

  value : v ≡ natural (take c.args.e (drop c.args.at c.args.s.now))
  value =
      read-value c.args.s.now c.args.at c.args.e (omega arith) within c.read_unsigned.result
      c.read_unsigned.ensures.is v
      c.in-Some.is

  small : v < 256 ^ c.args.e
  small =
      subst (λ (x : ℕ). x < 256 ^ c.args.e) (sym value) (part-lt c.args.s.now c.args.at c.args.e bytes within)

  worth : 256 ^ c.args.e ≤ 16777216
  worth = worth-le c.args.s.now c.args.at c.args.e bytes within c.args.scale (omega arith) (omega arith)

pub returns-in_default : goal.returns-in_default
returns-in_default c =
    let a = c.args in absurd (read-never a.s.now a.at a.e (omega arith) (omega arith) c.read_unsigned.result
    c.read_unsigned.ensures.is c.in_default.is)

pub overflow_add-raised-2 : goal.overflow_add-raised-2
overflow_add-raised-2 c = omega (arith, small (goal.at.overflow_add-raised-2 c).In-Some, worth (goal.at.overflow_add-raised-2 c).In-Some)

pub returns-then-s-at-lt128 : goal.returns-then-s-at-lt128
returns-then-s-at-lt128 c =
    let a = c.args in record {
      result_value = subst (λ (x : ℕ). minus (16777216 + a.scale + x) 16777216 ≡ signed (take a.e (drop a.at a.s.now)) +ℤ pos a.scale) (sym (value (goal.at.returns-then-s-at-lt128 c).In-Some))
          (exponent-low a.s.now a.at a.e (bytes (goal.at.returns-then-s-at-lt128 c).In-Some) (within (goal.at.returns-then-s-at-lt128 c).In-Some) a.scale (omega arith) (omega arith) c.if-s-at-lt128.true);
      upper_bound = omega (arith, small (goal.at.returns-then-s-at-lt128 c).In-Some, worth (goal.at.returns-then-s-at-lt128 c).In-Some);
    }

pub overflow_sub-result : goal.overflow_sub-result
overflow_sub-result c = omega (arith, worth (goal.at.overflow_sub-result c).In-Some)

pub returns : goal.returns
returns c =
    let a = c.args in record {
      result_value = subst (λ (w : ℕ). minus (16777216 + a.scale + v (goal.at.returns c).In-Some - w) 16777216 ≡ signed (take a.e (drop a.at a.s.now)) +ℤ pos a.scale)
          (sym c.power_of_256.ensures)
          (subst (λ (x : ℕ). minus (16777216 + a.scale + x - 256 ^ a.e) 16777216 ≡ signed (take a.e (drop a.at a.s.now)) +ℤ pos a.scale)
          (sym (value (goal.at.returns c).In-Some))
          (exponent-high a.s.now a.at a.e (bytes (goal.at.returns c).In-Some) (within (goal.at.returns c).In-Some) a.scale (omega arith) (omega arith) c.if-s-at-lt128.false));
      upper_bound = omega (arith, small (goal.at.returns c).In-Some, worth (goal.at.returns c).In-Some);
    }
