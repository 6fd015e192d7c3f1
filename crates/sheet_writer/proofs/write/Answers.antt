use mathlib.Core.Path.{◌≡◌, refl, sym, ◌∙◌}
use native.Mathlib.Omega.{arith}
use lib.ListN.{length}
use lib.Seq.{length-take-le}
use Rattle.sheet_writer.proofs.Answers.{sheet-setup, sheet-put}
use Rattle.sheet_writer.proofs.write.Goals as goal

pub returns-then-not-desk_is_legal : goal.returns-then-not-desk_is_legal
returns-then-not-desk_is_legal c = sheet-setup _ _ (c.desk_is_legal.ensures ∙ c.if-not-desk_is_legal.true)

pub put_message-n-requires : goal.put_message-n-requires
put_message-n-requires c = record { cells_value = c.desk_is_legal.ensures ∙ c.if-not-desk_is_legal.false; message_len = refl }

pub slice_bounds-put_frames-end : goal.slice_bounds-put_frames-end
slice_bounds-put_frames-end c =
    let l : length c.put_message-n.new.message ≡ 6144 = c.put_message-n.auto.message in
    sym (length-take-le _ c.put_message-n.new.message (omega (arith, c.put_message-n.ensures.upper_bound, l)))

pub put_frames-k-requires : goal.put_frames-k-requires
put_frames-k-requires c =
    let l : length c.put_message-n.new.message ≡ 6144 = c.put_message-n.auto.message in
    let t = length-take-le c.put_message-n.result c.put_message-n.new.message (omega (arith, c.put_message-n.ensures.upper_bound, l)) in
    (omega (arith, t, c.put_message-n.ensures.upper_bound), refl)

pub slice_bounds-write_lines-end : goal.slice_bounds-write_lines-end
slice_bounds-write_lines-end c =
    let l : length c.put_frames-k.new.frames ≡ 16384 = c.put_frames-k.auto.frames in
    sym (length-take-le _ c.put_frames-k.new.frames (omega (arith, c.put_frames-k.ensures.upper_bound, l)))

pub returns : goal.returns
returns c =
    sheet-put _ _ (c.desk_is_legal.ensures ∙ c.if-not-desk_is_legal.false)
    c.put_message-n.ensures.message_after c.put_frames-k.ensures.frames_after
    c.write_lines.result c.write_lines.new.out c.write_lines.ensures c.tell.ensures
