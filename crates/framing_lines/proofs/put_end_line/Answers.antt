use Prim.Native.Nat.{◌<◌}
use mathlib.Core.Path.{◌∙◌}
use native.Mathlib.Omega.{arith}
use Rattle.framing_lines.specs.Text.{end_text}
use Rattle.base_output.specs.Output.{last_place}
use Rattle.base_output.proofs.Laws.{wrote_then}
use Rattle.framing_lines.proofs.put_end_line.Goals as goal

pub returns : goal.returns
unfolding end_text
returns c =
    let first : c.put_decimal-offset_end.result < last_place = omega
    (arith, c.requires, c.put_bytes-offset_at.ensures.upper_bound, c.put_decimal-offset_end.ensures.upper_bound) in
    let second : c.put_open-frame_end.result < last_place =
    omega (
      arith,
      c.requires,
      c.put_bytes-offset_at.ensures.upper_bound,
      c.put_decimal-offset_end.ensures.upper_bound,
      c.put-frame_at.ensures.upper_bound,
      c.put_open-frame_end.ensures.upper_bound,
    ) in
    let third : c.put_open-message_end.result < last_place =
    omega (
      arith,
      c.requires,
      c.put_bytes-offset_at.ensures.upper_bound,
      c.put_decimal-offset_end.ensures.upper_bound,
      c.put-frame_at.ensures.upper_bound,
      c.put_open-frame_end.ensures.upper_bound,
      c.put-message_at.ensures.upper_bound,
      c.put_open-message_end.ensures.upper_bound,
    ) in record {
      session_value = rw (← c.open_length.ensures) (wrote_then _ _ _ _ c.put_bytes-offset_at.ensures.s_value
          ∙ wrote_then _ _ _ _ c.put_decimal-offset_end.ensures.n_value
          ∙ wrote_then _ _ _ _ (c.put-frame_at.ensures.b_value first)
          ∙ wrote_then _ _ _ _ c.put_open-frame_end.ensures.size_value
          ∙ wrote_then _ _ _ _ (c.put-message_at.ensures.b_value second)
          ∙ wrote_then _ _ _ _ c.put_open-message_end.ensures.size_value
          ∙ c.put.ensures.b_value third);
      upper_bound = omega arith;
    }
