use Prim.Native.Nat.{ℕ, ◌-◌, ◌/◌}
use mathlib.Core.List.{List}
use lib.ListN.{get_or}
use mathlib.Core.Path.{◌≡◌, ap, ◌∙◌}
use native.Mathlib.Omega.{arith}
use Rattle.framing_checksum.specs.Checksum.{crc_from}
use Rattle.base_output.proofs.Laws.{wrote_then}
use Rattle.framing_packets.proofs.Laws.{frame-parts}
use Rattle.framing_writer.proofs.emit_frame.Goals as goal

pub emit_slice-headed-requires : goal.emit_slice-headed-requires
emit_slice-headed-requires c = omega arith

pub emit_slice-filled-requires : goal.emit_slice-filled-requires
emit_slice-filled-requires c = omega arith

pub emit_escaped-first-requires : goal.emit_escaped-first-requires
emit_escaped-first-requires c = omega arith

pub emit_escaped-second-requires : goal.emit_escaped-second-requires
emit_escaped-second-requires c = omega arith

pub returns : goal.returns
returns c =
    let crc = c.crc_from-crc.ensures ∙ ap (λ n. crc_from n c.args.rest.now) c.crc_from.ensures in
    let low = ap (λ (bs : List ℕ). get_or bs 0 0) c.to_le_bytes.ensures in
    let second = ap (λ (bs : List ℕ). get_or bs 1 0) c.to_le_bytes.ensures in
    let high : get_or c.to_le_bytes.result 1 0 ≡ (0xffff - c.crc_from-crc.result) / 256 = omega (arith, second) in record {
      rest_value = rw (frame-parts c.args.head.now c.args.rest.now crc low high)
          (wrote_then _ _ _ _ (c.put-opened.ensures.b_value (omega (arith, c.requires)))
          ∙ wrote_then _ _ _ _ c.emit_slice-headed.ensures.s_value
          ∙ wrote_then _ _ _ _ c.emit_slice-filled.ensures.s_value
          ∙ wrote_then _ _ _ _ c.emit_escaped-first.ensures.b_value
          ∙ wrote_then _ _ _ _ c.emit_escaped-second.ensures.b_value
          ∙ c.put.ensures.b_value
          (omega (
            arith,
            c.requires,
            c.put-opened.ensures.upper_bound,
            c.emit_slice-headed.ensures.upper_bound,
            c.emit_slice-filled.ensures.upper_bound,
            c.emit_escaped-first.ensures.upper_bound,
            c.emit_escaped-second.ensures.upper_bound,
          )));
      upper_bound = omega (
        arith,
        c.requires,
        c.put-opened.ensures.upper_bound,
        c.emit_slice-headed.ensures.upper_bound,
        c.emit_slice-filled.ensures.upper_bound,
        c.emit_escaped-first.ensures.upper_bound,
        c.emit_escaped-second.ensures.upper_bound,
        c.put.ensures.upper_bound,
      );
    }
