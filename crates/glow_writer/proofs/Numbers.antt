-- With which numbers the call answers, whatever is handed in.
use Prim.Native.Nat.{ℕ}
use mathlib.Core.List.{List}
use types.Run.{OneOf}
use Rattle.ber_integers.specs.Digits.{put}
use Rattle.ber_integers.specs.Numbers.{put_numbers}
use Rattle.ber_integers.proofs.Numbers.{put-numbers}
use Rattle.ber_tags.proofs.Numbers.{put-if-numbers}
use Rattle.glow_trees.specs.Content.{Item}
use Rattle.glow_trees.specs.Written.{written_real}
use Rattle.glow_sizes.specs.Accepted.{octets_of, fits}
use Rattle.glow_writer.specs.Writes.{writes}

-- `write`: 0 or 46
pub write-numbers : (root rows n : ℕ) (es : List Item) (out : List ℕ) → OneOf put_numbers (writes root rows n es out).number
unfolding writes
write-numbers root rows n es out =
    let bs : List ℕ = octets_of written_real root es in
    put-if-numbers out (fits written_real root rows n es) (put out 0 bs) (put-numbers out 0 bs)
