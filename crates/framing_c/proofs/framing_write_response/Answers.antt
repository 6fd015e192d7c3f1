use Rattle.framing_c.proofs.Laws.{puts-told}
use Rattle.framing_c.proofs.framing_write_response.Goals as goal

pub returns : goal.returns
returns c =
    puts-told _ c.write_response-result.result _ _ c.write_response-result.ensures
    c.tell.ensures
