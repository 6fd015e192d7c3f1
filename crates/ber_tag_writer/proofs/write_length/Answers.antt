use Prim.Native.Nat.{ℕ, ◌≤◌, ◌+◌}
use mathlib.Core.Path.{◌≡◌, ◌∙◌}
use native.Mathlib.Omega.{arith}
use Rattle.ber_integers.specs.Digits.{digits, count}
use Rattle.ber_integers.proofs.Laws.{put-out}
use Rattle.ber_integers.proofs.Radix.{count-least}
use Rattle.ber_integers.proofs.Output.{cons-none, cons-done}
use Rattle.ber_tag_writer.proofs.Laws.{put-length-over, put-length-short, put-length-long}
use Rattle.ber_tag_writer.proofs.write_length.Goals as goal

-- four octets at most
few : {n k : ℕ} → n ≤ 4294967295 → k ≡ count 256 n → k ≤ 4
few {n} h e = let k : count 256 n ≤ 4 = count-least 256 (omega arith) n n 4 (omega arith) (omega arith) in omega arith

pub returns-then-n-gt4294967295 : goal.returns-then-n-gt4294967295
returns-then-n-gt4294967295 c = put-length-over _ _ _ c.if-n-gt4294967295.true

pub returns-then-n-lt128 : goal.returns-then-n-lt128
returns-then-n-lt128 c =
    put-length-short _ _ _ c.if-n-lt128.true
    ∙ c.write_octet.ensures

pub returns-then-out-at : goal.returns-then-out-at
returns-then-out-at c = put-length-long _ _ _ c.if-n-gt4294967295.false c.if-n-lt128.false ∙ put-out _ _ _ (omega arith)

pub overflow_cast-out : goal.overflow_cast-out
overflow_cast-out c = let k = few c.if-n-gt4294967295.false c.octet_count-k.ensures in omega arith

pub overflow_add-out : goal.overflow_add-out
overflow_add-out c = let k = few c.if-n-gt4294967295.false c.octet_count-k.ensures in omega arith

pub returns : goal.returns
returns c =
    let b : 128 + c.octet_count-k.result ≡ 128 + count 256 c.args.n = omega (arith, c.octet_count-k.ensures) in
    put-length-long _ _ _ c.if-n-gt4294967295.false
    c.if-n-lt128.false
    ∙ rw b (cons-done c.args.out.now c.args.at (128 + count 256 c.args.n) (digits 256 (count 256 c.args.n) c.args.n) _ _ _
    (rw c.octet_count-k.ensures at
    c.write_octets.ensures) c.in_ok-end.was
    c.if-out-at.false)

pub returns-in_err-end : goal.returns-in_err-end
returns-in_err-end c =
    rw c.from_residual.ensures
    (put-length-long _ _ _ c.if-n-gt4294967295.false
    c.if-n-lt128.false
    ∙ cons-none c.args.out.now c.args.at (128 + count 256 c.args.n) (digits 256 (count 256 c.args.n) c.args.n) _ _
    (rw c.octet_count-k.ensures at c.write_octets.ensures)
    c.in_err-end.was)
