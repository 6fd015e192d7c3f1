use Prim.Native.Nat.{ℕ, ◌≤◌, ◌<◌}
use mathlib.Core.Path.{refl, ap, ◌∙◌}
use native.Mathlib.Omega.{arith}
use Rattle.glow_member_sizes.specs.Sizes.{cap, tagged_size}
use Rattle.glow_writer.proofs.Messages.{write-long, write-short, write-bound, write-few, room_for, room_at, trees-small, write-put}
use Rattle.glow_writer.proofs.write.write.Goals as goal

pub returns-then-m-gt-MESSAGE_LIMIT : goal.returns-then-m-gt-MESSAGE_LIMIT
returns-then-m-gt-MESSAGE_LIMIT c =
    let e = c.judge-all.ensures.count_value ∙ ap (λ (x : ℕ). cap (tagged_size x)) c.around-one.ensures ∙ c.around-m.ensures in
    write-long _ _ _ _ _ e _ c.if-m-gt-MESSAGE_LIMIT.true

pub returns-then-word-m : goal.returns-then-word-m
returns-then-word-m c =
    let e = c.judge-all.ensures.count_value ∙ ap (λ (x : ℕ). cap (tagged_size x)) c.around-one.ensures ∙ c.around-m.ensures in
    let t = c.if-word-m.true in
    let k : c.word.result < c.around-m.result = omega arith in
    write-short _ _ _ _ _ e _ c.if-m-gt-MESSAGE_LIMIT.false _ c.word.ensures k

pub put_items-p-requires : goal.put_items-p-requires
put_items-p-requires c =
    let e = c.judge-all.ensures.count_value ∙ ap (λ (x : ℕ). cap (tagged_size x)) c.around-one.ensures ∙ c.around-m.ensures in
    let h = c.if-m-gt-MESSAGE_LIMIT.false in
    let j = c.judge-all.ensures.judged (trees-small _ _ _ c.around-one.ensures c.around-m.ensures h) in
    let f = write-few _ _ _ _ _ e h in
    (omega arith, (write-bound _ _ _ _ _ e h, (room_for _ _ _ c.judge-all.auto.kept refl f, λ i l. j.kept i l (room_at _ i _ f l refl))))

pub returns : goal.returns
returns c =
    let e = c.judge-all.ensures.count_value ∙ ap (λ (x : ℕ). cap (tagged_size x)) c.around-one.ensures ∙ c.around-m.ensures in
    let h = c.if-m-gt-MESSAGE_LIMIT.false in
    let j = c.judge-all.ensures.judged (trees-small _ _ _ c.around-one.ensures c.around-m.ensures h) in
    let t = c.if-word-m.false in
    let k : c.around-m.result ≤ c.word.result = omega arith in
    write-put _ _ _ _ _ e _ h _ c.word.ensures k _ j.octets _ c.around-one.ensures _ _ c.put_head-a.ensures _
    c.root_tag.ensures _ _ c.put_head-b.ensures _ _ (c.put_items-p.ensures.items_by 62 0)
