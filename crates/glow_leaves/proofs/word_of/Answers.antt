use mathlib.Core.Path.{refl, ◌∙◌}
use Rattle.glow_leaves.proofs.Words.{told-number, told-name, told_text, told-list}
use Rattle.glow_leaves.proofs.word_of.Goals as goal

pub returns-then-not-holds : goal.returns-then-not-holds
returns-then-not-holds c = λ h. absurd (h refl)

pub returns-then-is_counted : goal.returns-then-is_counted
returns-then-is_counted c =
    λ h. told-number _ _ _ _ _ (c.holds.ensures ∙ c.if-not-holds.false) c.if-number-eq-INTEGER.true (c.is_counted.ensures c.if-is_counted.true)
    c.read_int.ensures.is (c.number_word.ensures h)

pub returns-then-number-eq-INTEGER : goal.returns-then-number-eq-INTEGER
returns-then-number-eq-INTEGER c = λ h. absurd (h refl)

pub returns-then-is_name : goal.returns-then-is_name
returns-then-is_name c =
    λ h. told-name _ _ _ _ _ (c.holds.ensures ∙ c.if-not-holds.false) c.if-number-eq-TEXT.true c.if-what-eq-NAME.true (c.is_name.ensures
    ∙ c.if-is_name.true) c.word.ensures

pub returns-then-what-eq-NAME : goal.returns-then-what-eq-NAME
returns-then-what-eq-NAME c = λ h. absurd (h refl)

pub returns-then-what-eq-TEXT : goal.returns-then-what-eq-TEXT
returns-then-what-eq-TEXT c =
    λ h. told_text _ _ _ _ _ (c.holds.ensures ∙ c.if-not-holds.false) c.if-number-eq-TEXT.true c.if-what-eq-TEXT.true c.word-then-what-eq-TEXT.ensures

pub returns-then-number-eq-TEXT : goal.returns-then-number-eq-TEXT
returns-then-number-eq-TEXT c = λ h. absurd (h refl)

pub returns-then-what-eq-LIST : goal.returns-then-what-eq-LIST
returns-then-what-eq-LIST c =
    λ h. told-list _ _ _ _ _ (c.holds.ensures ∙ c.if-not-holds.false) c.if-number-eq-NUMBERS.true c.if-what-eq-LIST.true c.read_oid.ensures.is
    (c.list_word.ensures h)

pub returns-else-what-eq-LIST : goal.returns-else-what-eq-LIST
returns-else-what-eq-LIST c = λ h. absurd (h refl)

pub returns-else-number-eq-NUMBERS : goal.returns-else-number-eq-NUMBERS
returns-else-number-eq-NUMBERS c = λ h. absurd (h refl)
