use mathlib.Core.Path.{◌≡◌}
use lib.ListN.{length}
use Rattle.framing_checksum.specs.Checksum.{crc_from}
use Rattle.framing_checksum.proofs.crc_from.Given as goal

-- The invariant: what is left of the slice gives what the whole gives.
abbrev pub invariant-loop-rest : goal.invariant-loop-rest
invariant-loop-rest l = crc_from l.crc l.s ≡ crc_from l.left l.rest

abbrev pub decreases-loop-rest : goal.decreases-loop-rest
decreases-loop-rest l = length l.rest
