use Prim.Native.Nat.{◌<◌, ◌^◌}
use mathlib.Core.Path.{◌≡◌, sym, ap, ◌∙◌}
use mir.Val.{to_z, of_z}
use mir.Syntax.{w64}
use Rattle.glow_rows.specs.Cell.{word_of}
use Rattle.desk_connections.proofs.Rows.{number_is, sources-is}
use borrow.Author.Rules.{rules}
use Rattle.desk_connections.proofs.asked_of.Goals as goal

pub returns : goal.returns
returns c =
    let the-connection-at = c.connection_at-e in
    let the-span-of = c.span_of-span in
    let the-int-word = c.int_word in
    let the-number-word = c.number_word in
    let z : to_z w64 (of_z w64 the-connection-at.result.target) ≡ the-connection-at.result.target = search rules in
    let h : the-int-word.result < 2 ^ 64 = search rules in
    let k : the-number-word.result < 2 ^ 64 = search rules in
    record {
      target = number_is _ _ _ _ the-connection-at.ensures.connection_words.target (ap word_of (sym z) ∙ the-int-word.ensures) h;
      operation = number_is _ _ _ _ the-connection-at.ensures.connection_words.operation the-number-word.ensures k;
      sources = sources-is _ _ _ _ the-connection-at.ensures.value the-span-of.ensures.s_value;
      within = the-span-of.ensures.start_le_end;
    }
