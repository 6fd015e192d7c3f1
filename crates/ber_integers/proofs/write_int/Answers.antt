use Prim.Native.Nat.{ℕ}
use mathlib.Core.Path.{◌≡◌, sym, ap, ◌∙◌}
use lib.Signed.{mag}
use mir.Syntax.{w64}
use mir.Val.{to_z, of_z}
use mir.Facts.{to_z-of_z}
use Rattle.ber_integers.specs.Digits.{digits, put}
use Rattle.ber_integers.specs.Integer.{size_by, size, shortest}
use Rattle.ber_integers.proofs.Sizes.{bits-octets}
use Rattle.ber_integers.proofs.write_int.Goals as goal

pub returns : goal.returns
returns c =
    let x = c.args.x in
    let r : to_z w64 (of_z w64 x) ≡ x = to_z-of_z c.ranges.x in
    let m : c.magnitude.result ≡ mag x =
    c.magnitude.ensures.value ∙ ap mag r in
    let n : c.size_of-n.result ≡ size x = c.size_of-n.ensures
    ∙ ap (λ (i : ℕ). size_by i i) m in
    let b : c.cast_unsigned.result ≡ of_z w64 x = c.cast_unsigned.ensures ∙ ap (of_z w64) r in
    let e : digits 256 c.size_of-n.result c.cast_unsigned.result ≡ shortest x =
    rw (n, b) (bits-octets x c.ranges.x) in
    ap (put c.args.out.now c.args.at) (sym e) ∙ c.write_octets.ensures
