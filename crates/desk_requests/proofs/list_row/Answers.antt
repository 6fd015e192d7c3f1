use mathlib.Core.Path.{refl}
use lib.ListN.{length}
use Rattle.desk_requests.proofs.Laws.{listed}
use Rattle.desk_requests.proofs.list_row.Goals as goal

pub returns : goal.returns
returns c =
    let the-wipe = c.wipe in
    let the-mark = c.mark in
    listed (length c.args.row.now) c.args.row.now _ _ _ refl the-wipe.ensures the-mark.ensures
