use Rattle.sheet_stream.proofs.Steps.{finds-setup, finds-bad, finds-end}
use mathlib.Core.Path.{◌∙◌}
use Rattle.sheet_stream.proofs.find_message.Goals as goal

pub returns-then-store-ne-STORE_LENGTH : goal.returns-then-store-ne-STORE_LENGTH
returns-then-store-ne-STORE_LENGTH c = finds-setup _ _ c.if-store-ne-STORE_LENGTH.true

pub returns-then-has_bad_line : goal.returns-then-has_bad_line
returns-then-has_bad_line c = finds-bad _ _ c.if-store-ne-STORE_LENGTH.false (c.has_bad_line.ensures ∙ c.if-has_bad_line.true)

pub returns : goal.returns
returns c =
    finds-end _ _ c.if-store-ne-STORE_LENGTH.false (c.has_bad_line.ensures ∙ c.if-has_bad_line.false) _ _ c.take_text-tally.ensures.text_value
    c.take_text-tally.ensures.text_value_2
    c.end.result (c.end.ensures _)
