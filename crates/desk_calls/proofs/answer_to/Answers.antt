use mathlib.Core.Path.{sym, ◌∙◌}
use Rattle.desk_requests.proofs.Steps.{request-path}
use Rattle.glow_paths.proofs.Walk.{has-is}
use Rattle.desk_calls.proofs.Served.{other-matrix, own-matrix}
use Rattle.desk_calls.proofs.answer_to.Goals as goal

pub returns-then-not-is_path : goal.returns-then-not-is_path
returns-then-not-is_path c =
    let the-word-at = c.word_at in
    let the-is-path = c.is_path in
    let the-if1 = c.if-not-is_path in
    let q = c.requires.cells_value.1 in
    let h = sym (has-is _ _ _ q.0) ∙ the-is-path.ensures ∙ the-if1.true in
    record { i_value = other-matrix _ _ _ _ q.1.0 _ q.1.1 _ the-word-at.ensures h; cells_after = c.requires.cells_value_2 }

pub returns : goal.returns
returns c =
    let the-word-at = c.word_at in
    let the-is-path = c.is_path in
    let the-if1 = c.if-not-is_path in
    let the-asked-at = c.asked_at-asked in
    let the-ask = c.ask_member in
    let q = c.requires.cells_value.1 in
    let h = sym (has-is _ _ _ q.0) ∙ the-is-path.ensures ∙ the-if1.false in
    let a = the-asked-at.ensures in
    record {
      i_value = own-matrix _ _ _ _ q.1.0 _ q.1.1 _ the-word-at.ensures h _ a _ (request-path _ _ _ ∙ the-ask.ensures.operation_value);
      cells_after = the-ask.ensures.cells_after;
    }
