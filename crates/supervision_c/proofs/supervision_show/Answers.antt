use Rattle.supervision_c.proofs.Laws.{link-length, calls-setup, calls-taken}
use Rattle.supervision_c.proofs.supervision_show.Goals as goal

pub put_link-requires : goal.put_link-requires
put_link-requires c = link-length _ c.in-Some.ensures.0

pub returns : goal.returns
returns c =
    calls-taken _ _ _ c.in-Some.ensures.0 c.in-Some.ensures.1 c.happened.ensures c.show-shown.ensures c.put_link.ensures c.number_of.ensures

pub returns-in_default : goal.returns-in_default
returns-in_default c = calls-setup _ _ _ c.in_default.ensures
