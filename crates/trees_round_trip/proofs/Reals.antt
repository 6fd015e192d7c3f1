-- The least spelling of reals is a spelling, and none is shorter.
use Prim.Native.Nat.{ℕ, ◌≤◌}
use mathlib.Core.Path.{◌≡◌, refl, sym, ap, subst, ◌∙◌}
use mathlib.Core.List.{List}
use mathlib.Core.Bool.{true}
use lib.ListN.{length}
use lib.Ieee as Ieee
use lib.Ieee.{Float, binary64}
use lib.Ieee.Bits.{of_bits-fits, of_bits-to_bits}
use Rattle.ber_integers.proofs.Radix.{Below}
use Rattle.ber_reals.specs.Write.{Form, unwritten, octets, form}
use Rattle.ber_reals.proofs.RoundTrip.{read-written}
use Rattle.ber_real_sizes.specs.Sizes.{least_octets, least_size}
use Rattle.ber_real_sizes.proofs.Spelled.{least-read}
use Rattle.ber_real_sizes.proofs.Least.{least-least}
use Rattle.glow_trees.specs.Legal.{is_formed, is_real}
use Rattle.trees_read_back.proofs.Bools.{never, unless}
use Rattle.trees_read_back.proofs.Leaves.{Spells}
use Rattle.trees_accepted.proofs.Leaves.{RealsLeast}
use Rattle.glow_member_sizes.specs.Spelling.{least_real}

formed : (f : Form) → is_formed f ≡ true → (bs : List ℕ) × (f ≡ octets bs)
formed unwritten e = never e
formed (octets bs) e = (bs, refl)

-- a real that is written has octets
pub real-form : (w : ℕ) → is_real w ≡ true → (bs : List ℕ) × (form (Ieee.of_bits binary64 w) ≡ octets bs)
unfolding is_real
real-form w e = formed (form (Ieee.of_bits binary64 w)) (unless (Ieee.nan_bits binary64 w) _ e).1

-- What it spells is read as the double of these bits,
pub least-spells : Spells least_real
unfolding least_real
least-spells w h e =
    let f = real-form w e in
    (least-read (Ieee.of_bits binary64 w) f.0 (of_bits-fits binary64 w) f.1).0

-- in octets,
pub least-below : (w : ℕ) → is_real w ≡ true → Below 256 (least_real w)
unfolding least_real
least-below w e =
    let f = real-form w e in
    (least-read (Ieee.of_bits binary64 w) f.0 (of_bits-fits binary64 w) f.1).1.1

-- and whatever octets are read as this double, they are no fewer.
pub reals-least : RealsLeast least_real
unfolding least_real
reals-least bs x b e =
    let r = read-written bs x b e in
    let same : Ieee.of_bits binary64 (Ieee.to_bits binary64 x) ≡ x = of_bits-to_bits binary64 x r.0 in
    let l = (least-read x r.1.0 r.0 r.1.1.0).1.0 in
    let m = least-least x bs b e in
    let n : length (least_octets (Ieee.of_bits binary64 (Ieee.to_bits binary64 x))) ≡ least_size x = ap (λ (y : Float). length (least_octets y)) same ∙ l in
    subst (λ (i : ℕ). i ≤ length bs) (sym n) m
