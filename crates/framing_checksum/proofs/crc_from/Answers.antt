use Rattle.std.proofs.Common.{rules}
use mathlib.Core.Path.{◌≡◌, sym, ◌∙◌}
use Rattle.std.specs.Prelude.{fold}
use Rattle.framing_checksum.specs.Checksum.{crc_step}
use Rattle.framing_checksum.proofs.Folds.{from-fold, from-four}
use Rattle.framing_checksum.proofs.crc_from.Goals as goal

pub loop-rest-preserved : goal.loop-rest-preserved
loop-rest-preserved c = c.loop-rest.invariant ∙ from-four _ _ c.in-len4-up.len_at_least c.crc_four-left.ensures

pub returns : goal.returns
returns c =
    let e : c.fold.result ≡ fold crc_step c.loop-rest.left c.loop-rest.rest.now = search rules in
    e ∙ from-fold _ _ ∙ sym c.loop-rest.invariant
