use Rattle.std.specs.Prelude.{Err}
use mathlib.Core.Path.{◌≡◌, refl, sym, subst, ◌∙◌}
use borrow.Author.Rules.{rules}
use Rattle.glow_walk.specs.Progress.{MessageFill}
use Rattle.glow_walk.proofs.Rooted.{message-no, message-root}
use Rattle.glow_walk.proofs.message.Goals as goal

pub returns-in_err-which : goal.returns-in_err-which
returns-in_err-which c =
    let e : c.from_residual.result ≡ Err c.in_err-which.field-0.0 = search rules in
    subst (MessageFill _ _ _) (sym e) (message-no _ _ _ (c.root_of.ensures ∙ c.in_err-which.was) refl)

pub returns : goal.returns
returns c = message-root _ _ _ (c.root_of.ensures ∙ c.in_ok-which.was) c.items-w.ensures.items_fill refl c.close.ensures.closes c.finish.ensures
