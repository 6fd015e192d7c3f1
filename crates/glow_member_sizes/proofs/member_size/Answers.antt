use Rattle.glow_member_sizes.proofs.Members.{word-long, word-refused, word-sized}
use Rattle.glow_member_sizes.proofs.Members.{content-odd, content-more, content-none, size-wrong, size-nothing, size_none, size-unfit}
use Rattle.glow_member_sizes.specs.Spelling.{spelling}
use mathlib.Core.Path.{◌∙◌}
use borrow.Author.Rules.{rules}
use Rattle.glow_member_sizes.proofs.member_size.Goals as goal

pub returns-then-v-ne0 : goal.returns-then-v-ne0
returns-then-v-ne0 c = size-wrong _ _ (content-odd _ _ c.if-v-eq-ABSENT.true c.if-v-ne0.true)

pub returns-then-v-ne0-2 : goal.returns-then-v-ne0-2
returns-then-v-ne0-2 c = size-wrong _ _ (content-more _ _ c.if-v-eq-ABSENT.true c.if-v-ne0.false c.if-v-ne0-2.true)

pub returns-then-v-eq-ABSENT : goal.returns-then-v-eq-ABSENT
returns-then-v-eq-ABSENT c = size-nothing _ _ (content-none _ _ c.if-v-eq-ABSENT.true c.if-v-ne0.false c.if-v-ne0-2.false)

pub returns-then-what-eq-NONE : goal.returns-then-what-eq-NONE
returns-then-what-eq-NONE c = size_none _ _ _ _ c.if-v-eq-ABSENT.false c.if-what-eq-NONE.true

pub returns-then-not-fits : goal.returns-then-not-fits
returns-then-not-fits c = size-unfit _ _ _ _ c.if-v-eq-ABSENT.false c.if-what-eq-NONE.false (c.fits.ensures ∙ c.if-not-fits.true)

pub part_size-requires : goal.part_size-requires
part_size-requires c = (c.is_part.ensures ∙ c.if-is_part.true, (c.fits.ensures ∙ c.if-not-fits.false, c.if-what-eq-NONE.false))

pub returns-then-is_part : goal.returns-then-is_part
returns-then-is_part c = c.part_size.ensures (spelling c.args.least)

pub returns-then-v-ne0-3 : goal.returns-then-v-ne0-3
returns-then-v-ne0-3 c =
    word-long _ _ _ c.args.least c.if-what-eq-NONE.false (c.fits.ensures ∙ c.if-not-fits.false) (c.is_part.ensures ∙ c.if-is_part.false)
    c.if-v-ne0-3.true

pub returns-then-not-word_suits : goal.returns-then-not-word_suits
returns-then-not-word_suits c =
    word-refused _ _ _ c.args.least c.if-what-eq-NONE.false (c.fits.ensures ∙ c.if-not-fits.false)
    (c.is_part.ensures ∙ c.if-is_part.false) c.if-v-ne0-3.false
    (search rules) (c.word_suits.ensures ∙ c.if-not-word_suits.true)

pub returns : goal.returns
returns c =
    word-sized _ _ _ c.args.least c.if-what-eq-NONE.false (c.fits.ensures ∙ c.if-not-fits.false) (c.is_part.ensures ∙ c.if-is_part.false)
    c.if-v-ne0-3.false
    (search rules) (c.word_suits.ensures ∙ c.if-not-word_suits.false) _ _ _ c.word_size.ensures c.around.ensures c.around-2.ensures
