use native.Mathlib.Omega.{arith}
use Rattle.desk_crosspoints.specs.Desk.{desk_at}
use Rattle.sheet_writer.proofs.Entries.{message-put}
use Rattle.sheet_writer.proofs.put_message.Goals as goal

pub returns : goal.returns
returns c =
    let both = message-put (desk_at c.args.f c.args.path.now c.args.cells.now) c.requires.cells_value
    _ c.put_entries-count.ensures.result_after _ _ c.put_entries-count.ensures.upper_bound (omega (arith, c.put_entries-count.auto.rows))
    _ c.requires.message_len c.write.ensures c.end_of.ensures in record { message_after = both.0; upper_bound = both.1 }
