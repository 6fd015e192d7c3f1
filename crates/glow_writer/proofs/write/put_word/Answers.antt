use Rattle.glow_writer.proofs.Putting.{flag-put, int-put, real-put}
use mir.Syntax.{w64}
use mir.Val.{to_z, of_z}
use mathlib.Core.Path.{◌≡◌, sym, ◌∙◌}
use borrow.Author.Rules.{rules}
use Rattle.glow_writer.proofs.write.put_word.Goals as goal

pub returns-then-kind-eq-BOOLEAN : goal.returns-then-kind-eq-BOOLEAN
returns-then-kind-eq-BOOLEAN c = λ t. flag-put _ _ _ _ _ _ _ c.if-kind-eq-BOOLEAN.true c.flag.ensures c.put_octet.ensures

pub returns-then-kind-eq-INTEGER : goal.returns-then-kind-eq-INTEGER
returns-then-kind-eq-INTEGER c =
    let z : to_z w64 (of_z w64 c.int_of.result) ≡ c.int_of.result = search rules in
    λ t. int-put _ _ _ _ _ _ _ _ c.if-kind-eq-INTEGER.true (sym c.int_of.ensures ∙ sym z) c.write_int.ensures c.place.ensures

pub returns : goal.returns
returns c = λ t. real-put _ _ _ _ _ _ _ c.if-kind-eq-BOOLEAN.false c.if-kind-eq-INTEGER.false c.write_bits.ensures c.place-2.ensures t
