use Prim.Native.Nat.{◌≤◌}
use mathlib.Core.Path.{sym}
use native.Mathlib.Omega.{arith}
use Rattle.ber_integers.specs.Digits.{count}
use Rattle.ber_integers.proofs.Radix.{count-least}
use Rattle.ber_tags.proofs.Shortest.{length-length-short, length-length-long}
use Rattle.ber_tag_writer.proofs.length_size.Goals.{After-octet_count}
use Rattle.ber_tag_writer.proofs.length_size.Goals as goal

-- 64 bits are at most eight octets
eight : (c : After-octet_count) → c.octet_count.result ≤ 8
eight c =
    let h = c.ranges.n.fits in
    let k : count 256 c.args.n ≤ 8 = count-least 256 (omega arith) c.args.n c.args.n 8 (omega arith) (omega arith) in
    omega arith

pub returns-then-n-lt128 : goal.returns-then-n-lt128
returns-then-n-lt128 c = record { value = sym (length-length-short _ c.if-n-lt128.true); upper_bound = omega arith }

pub overflow_add-result : goal.overflow_add-result
overflow_add-result c = let k = eight c in omega arith

pub returns : goal.returns
returns c =
    let k = eight c in record {
      value = let z = length-length-long c.args.n c.if-n-lt128.false in
          omega arith;
      upper_bound = omega arith;
    }
