use Rattle.supervision.proofs.Laws.{shows_nothing, shows-event, shows-request}
use Rattle.std.proofs.Common.{sym, ◌∙◌}
use Rattle.supervision.proofs.show.Goals as goal

pub returns-in-Nothing : goal.returns-in-Nothing
returns-in-Nothing c = c.wait.ensures ∙ sym (shows_nothing _ _ c.in-Nothing.is)

pub returns-in-Event : goal.returns-in-Event
returns-in-Event c = c.wait-in-Event.ensures ∙ sym (shows-event _ _ c.in-Event.is c.hear-next.ensures)

pub returns-in-Request : goal.returns-in-Request
returns-in-Request c = c.gives.ensures ∙ sym (shows-request _ _ c.in-Request.is c.hear-next-in-Request.ensures)
