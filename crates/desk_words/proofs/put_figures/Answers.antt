use Rattle.std.specs.Int.{from_bool}
use Rattle.desk_words.proofs.Laws.{given-word, limit-word, words-seven, words-other}
use mathlib.Core.Path.{ap, ◌∙◌}
use Rattle.desk_words.proofs.put_figures.Goals as goal

pub returns-then-words-ne7 : goal.returns-then-words-ne7
returns-then-words-ne7 c = words-other _ _ c.if-words-ne7.true

pub returns : goal.returns
returns c =
    let a = c.from.ensures ∙ ap from_bool c.is_some.ensures ∙ given-word c.args.f.total in
    let b = c.unwrap_or.ensures ∙ limit-word c.args.f.total in
    let d = c.from-2.ensures ∙ ap from_bool c.is_some-2.ensures ∙ given-word c.args.f.each in
    let e = c.unwrap_or-2.ensures ∙ limit-word c.args.f.each in words-seven _ _ c.if-words-ne7.false ∙ rw (c.copy_from_slice.ensures.after, a, b, d, e)
