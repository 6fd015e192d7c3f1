use Prim.Native.Nat.{◌+◌, ◌<◌}
use mathlib.Core.Bool.{cond}
use mathlib.Core.Path.{◌≡◌, ◌∙◌}
use native.Mathlib.Omega.{arith}
use Rattle.framing_lines.specs.Text.{head_text}
use Rattle.base_output.specs.Output.{last_place}
use Rattle.base_output.proofs.Laws.{wrote_then}
use Rattle.framing_lines.proofs.put_head.Goals as goal

pub returns : goal.returns
unfolding head_text
returns c =
    let digit : 48 + c.from.result ≡ cond c.args.discarded 49 48 = grind (arith, c.from.ensures) in
    let first : c.put_decimal-offset_end.result < last_place = omega (arith, c.requires, c.well_formed, c.put_decimal-offset_end.ensures.upper_bound) in
    let second : c.put_decimal-number_end.result < last_place =
    omega (
      arith,
      c.requires,
      c.well_formed,
      c.put_decimal-offset_end.ensures.upper_bound,
      c.put-number_at.ensures.upper_bound,
      c.put_decimal-number_end.ensures.upper_bound,
    ) in
    let third : c.put-bit_at.result < last_place = omega (
      arith,
      second,
      c.requires,
      c.well_formed,
      c.put_decimal-offset_end.ensures.upper_bound,
      c.put-number_at.ensures.upper_bound,
      c.put_decimal-number_end.ensures.upper_bound,
      c.put-bit_at.ensures.upper_bound,
    ) in record {
      discarded_value = rw (← digit)
          (wrote_then _ _ _ _ c.put_decimal-offset_end.ensures.n_value
          ∙ wrote_then _ _ _ _ (c.put-number_at.ensures.b_value first)
          ∙ wrote_then _ _ _ _ c.put_decimal-number_end.ensures.n_value
          ∙ wrote_then _ _ _ _ (c.put-bit_at.ensures.b_value second)
          ∙ c.put.ensures.b_value third);
      upper_bound = omega arith;
    }
