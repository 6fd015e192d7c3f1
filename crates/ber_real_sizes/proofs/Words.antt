-- What the code's answers say of the double of any bits: the least size is the least, and octets are read as a double exactly if it is written.
use Rattle.std.specs.Prelude.{Some}
use Prim.Native.Nat.{ℕ, ◌≤◌}
use mathlib.Core.Path.{◌≡◌, refl, ap}
use mathlib.Core.List.{List}
use mathlib.Core.Bool.{true}
use native.Mathlib.Omega.{arith}
use lib.ListN.{length}
use lib.Ieee as Ieee
use lib.Ieee.{Float, binary64}
use lib.Ieee.Bits.{of_bits-fits}
use Rattle.ber_integers.proofs.Radix.{Below}
use Rattle.ber_reals.specs.Real.{real}
use Rattle.ber_reals.specs.Write.{Form, unwritten, octets, form}
use Rattle.ber_reals.proofs.RoundTrip.{read-written}
use Rattle.ber_real_sizes.specs.Sizes.{is_form, is_written, written_size, least_octets, least_size}
use Rattle.ber_real_sizes.proofs.Spelled.{least-read}
use Rattle.ber_real_sizes.proofs.Least.{least-least, written-most}

-- a double that is written has octets
pub written-form : (x : Float) → is_written x ≡ true → (bs : List ℕ) × (form x ≡ octets bs)
unfolding is_written
written-form x h = go (form x) refl h
  where
    go : (f : Form) → form x ≡ f → is_form f ≡ true → (bs : List ℕ) × (form x ≡ octets bs)
    go unwritten e i = absurd (let z : ◌≡◌ {A = ℕ} 0 1 = cc in omega arith)
    go (octets bs) e i = (bs, e)

-- What is not written is not read from any octets.
pub read-is-written : (x : Float) (bs : List ℕ) → Below 256 bs → real bs ≡ Some x → is_written x ≡ true
unfolding is_written
read-is-written x bs b e = ap is_form (read-written bs x b e).1.1.0

module _ (bits : ℕ) where
  abbrev x : Float
  x = Ieee.of_bits binary64 bits

  -- Some octets, as many as the least size, are read as the double ..
  pub bits-read : is_written x ≡ true → (bs : List ℕ) × (Below 256 bs × ((real bs ≡ Some x) × (length bs ≡ least_size x)))
  bits-read h =
      let f = written-form x h in
      let r = least-read x f.0 (of_bits-fits binary64 bits) f.1 in
      (least_octets x, (r.1.1, (r.0, r.1.0)))

  -- .. and none that are fewer.
  pub bits-least : (bs : List ℕ) → Below 256 bs → real bs ≡ Some x → least_size x ≤ length bs
  bits-least bs b e = least-least x bs b e

  pub bits_most : written_size x ≤ 10
  bits_most = written-most x (of_bits-fits binary64 bits)
