use Rattle.glow_writer.proofs.Putting.{absent-put, part-put, word-put}
use native.Mathlib.Omega.{arith}
use mathlib.Core.Path.{◌≡◌, ◌∙◌}
use Rattle.glow_writer.proofs.write.put_member.Goals as goal

pub returns-then-v-eq-ABSENT : goal.returns-then-v-eq-ABSENT
returns-then-v-eq-ABSENT c = λ what h. absent-put _ _ _ _ _ c.if-v-eq-ABSENT.true what h

pub put_outer-a-requires : goal.put_outer-a-requires
put_outer-a-requires c = c.requires

pub returns-then-is_part : goal.returns-then-is_part
returns-then-is_part c =
    let a = c.index.ensures in
    let b = c.index-then-is_part.ensures in
    let i : c.index.result ≡ c.args.v.first = omega arith in
    let j : c.index-then-is_part.result ≡ c.args.v.second = omega arith in
    λ what h.
    part-put _ _ _ c.requires _ _ _ c.low-tag.ensures _ _ _ _ (c.is_part.ensures ∙ c.if-is_part.true) c.put_outer-a.ensures _ _ i j _
    c.write_part.ensures c.place.ensures what h

pub put_outer-a-requires-2 : goal.put_outer-a-requires-2
put_outer-a-requires-2 c = c.requires

pub returns : goal.returns
returns c =
    λ what h.
    word-put _ _ _ c.requires _ _ _ c.low-tag.ensures _ _ _ _ (c.is_part.ensures ∙ c.if-is_part.false) c.if-v-eq-ABSENT.false _ c.word_size.ensures
    c.put_outer-a-2.ensures c.put_word.ensures what h
