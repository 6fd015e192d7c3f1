use Rattle.std.specs.Prelude.{Some}
use Rattle.ber_integers.proofs.Promises.{promised}
use Rattle.ber_reals.proofs.RealLaws.{real-row}
use Prim.Native.Nat.{ℕ, ◌+◌, ◌≤◌, ◌<◌}
use mathlib.Core.Path.{◌≡◌, refl, ap, ◌∙◌}
use mathlib.Core.List.{List}
use lib.ListN.{length, take, drop, get_or}
use Rattle.ber_integers.proofs.Laws.{length_part, part-first}
use mathlib.Core.Bool.{true, false}
use native.Mathlib.Omega.{arith}
use lib.Ieee as Ieee
use lib.Ieee.{binary64, inf}
use Rattle.ber_reals.proofs.RealLaws.{real-out, real-empty, real-plus, real-minus, real-alone, real-binary}
use Rattle.ber_reals.proofs.read_real.Goals as goal

-- `ber_reals::read_real` meets its contract. Assumes nothing.
plus : Ieee.of_bits binary64 0x7ff0000000000000 ≡ inf false
unfolding Ieee.of_bits Ieee.of_fields
plus = refl

minus : Ieee.of_bits binary64 0xfff0000000000000 ≡ inf true
unfolding Ieee.of_bits Ieee.of_fields
minus = refl

-- the octets that are held
module _ (s octets : List ℕ) (at n : ℕ) (held : (at + n ≤ length s) × (octets ≡ take n (drop at s))) where
  size : length octets ≡ n
  size = ap length held.1 ∙ length_part s at n held.0

  first : 0 < n → get_or octets 0 0 ≡ get_or s at 0
  first h = ap (λ (l : List ℕ). get_or l 0 0) held.1 ∙ part-first s at n h held.0

pub returns-in_err-held : goal.returns-in_err-held
returns-in_err-held c = rw c.from_residual.ensures (promised real-row (real-out _ _ _ c.in_err-held.ensures))

pub float_from_bits-result : goal.float_from_bits-result
unfolding Ieee.nan_bits
float_from_bits-result c = tt

pub float_from_bits-result-in-65 : goal.float_from_bits-result-in-65
unfolding Ieee.nan_bits
float_from_bits-result-in-65 c = tt

pub returns-in-empty : goal.returns-in-empty
unfolding Ieee.of_bits Ieee.of_fields Ieee.odd
returns-in-empty c =
    let h = c.in_ok-held.ensures in
    let l = size c.args.s.now c.in_ok-held.field-0.now c.args.at c.args.n h in
    promised real-row (real-empty _ _ _ h.0 (omega arith))

pub returns-in-64 : goal.returns-in-64
returns-in-64 c =
    let h = c.in_ok-held.ensures in
    let l = size c.args.s.now c.in_ok-held.field-0.now c.args.at c.args.n h in
    let f = first c.args.s.now c.in_ok-held.field-0.now c.args.at c.args.n h (omega arith) in
    promised real-row (ap Some plus ∙ real-plus _ _ _ h.0 (omega arith) (omega arith))

pub returns-in-65 : goal.returns-in-65
returns-in-65 c =
    let h = c.in_ok-held.ensures in
    let l = size c.args.s.now c.in_ok-held.field-0.now c.args.at c.args.n h in
    let f = first c.args.s.now c.in_ok-held.field-0.now c.args.at c.args.n h (omega arith) in
    promised real-row (ap Some minus ∙ real-minus _ _ _ h.0 (omega arith) (omega arith))

pub returns-in-len1 : goal.returns-in-len1
returns-in-len1 c =
    let h = c.in_ok-held.ensures in
    let l = size c.args.s.now c.in_ok-held.field-0.now c.args.at c.args.n h in
    let f = first c.args.s.now c.in_ok-held.field-0.now c.args.at c.args.n h (omega arith) in
    promised real-row (real-alone _ _ _ h.0 (omega arith) (λ e. omega (arith, e)) (λ e. omega (arith, e)))

pub returns-in_default : goal.returns-in_default
returns-in_default c =
    let h = c.in_ok-held.ensures in
    let l = size c.args.s.now c.in_ok-held.field-0.now c.args.at c.args.n h in
    promised real-row (c.binary.ensures ∙ real-binary _ _ _ h.0 (omega arith))
