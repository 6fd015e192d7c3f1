-- The round trip of the functions themselves, by their contracts: what a call of `write_real` writes, a call of `read_real` reads.
use Rattle.std.specs.Prelude.{Option, Some}
use Rattle.ber_integers.proofs.Promises.{promised}
use Rattle.ber_reals.proofs.RealLaws.{real-row}
use Prim.Native.Nat.{ℕ, ◌+◌, ◌-◌, ◌≤◌}
use mathlib.Core.Path.{◌≡◌, refl, sym, ap, ◌∙◌}
use mathlib.Core.List.{List, []}
use denote.Ref.{Bor, MutBor}
use contract.Lifetimes.{Lfts}
use borrow.Fn.World as World
use borrow.Fn.Kinds as K
use denote.Triple.Clauses as Clauses
use lib.Dec.{T}
use lib.ListN.{length}
use lib.Ieee as Ieee
use lib.Ieee.{Float, binary64}
use Rattle.ber_real_writer.specs.contracts.write_real
use Rattle.ber_real_writer.proofs.write_real.Kinds as write-kinds
use Rattle.ber_real_writer.proofs.write_real.Reads as write-reads
use Rattle.ber_reals.specs.contracts.read_real
use Rattle.ber_reals.proofs.read_real.Kinds as read-kinds
use Rattle.ber_reals.proofs.read_real.Reads as read-reads
use Rattle.ber_reals.specs.Real.{real_at}
use Rattle.ber_reals.specs.Write.{Form, octets, form, put_form, write_at}
use Rattle.ber_reals.proofs.RoundTrip.{written-read-at}
use Rattle.ber_integers.specs.Digits.{outcome}
use Rattle.ber_integers.proofs.Laws.{put_in}

-- a call of `write_real` that answers r and leaves the output out'
pub record Writes (x : Float) (out : List ℕ) (at : ℕ) (r : Option ℕ) (out' : List ℕ) : Type 0 where
  pub κs : Lfts 1
  pub args : World.ArgsD write_real.signature κs
  pub exits : Clauses.AtExit (K.ended_of 1 write-kinds.ps write-kinds.r) κs
  pub real-is : args.0 ≡ x
  pub out-is : args.1.0.now ≡ out
  pub at-is : args.1.1.0 ≡ at
  pub left_is : exits.1.0.now ≡ out'
  pub ensured : write-reads.Post κs args r exits

-- a call of `read_real` that answers r
pub record Reads (s : List ℕ) (at n : ℕ) (r : Option Float) : Type 0 where
  pub κs : Lfts 1
  pub args : World.ArgsD read_real.signature κs
  pub exits : Clauses.AtExit (K.ended_of 1 read-kinds.ps read-kinds.r) κs
  pub slice_is : args.0.now ≡ s
  pub at-is : args.1.0 ≡ at
  pub count-is : args.1.1.0 ≡ n
  pub ensured : read-reads.Post κs args r exits

-- a lent slice that holds xs
lent : List ℕ → Bor (List ℕ)
lent xs = record { ref_ptr = (0, 0); now = xs }

-- the same, lent to be written
lent_out : List ℕ → MutBor (List ℕ)
lent_out xs = record { ref_ptr = (0, 0); ghost_name = 0; now = xs }

-- What a call gives is what its function's definition says, and nothing else.
pub write-says : {x : Float} {out : List ℕ} {at : ℕ} {r : Option ℕ} {out' : List ℕ} → Writes x out at r out' → write_at out at x ≡ outcome r out'
write-says k = cc k.ensured

pub write-called : (x : Float) (out : List ℕ) (at : ℕ) (r : Option ℕ) (out' : List ℕ) → write_at out at x ≡ outcome r out' → Writes x out at r out'
unfolding lent_out
write-called x out at r out' e =
    record {
      κs = ([], tt);
      args = (x, (lent_out out, (at, tt)));
      exits = (x, (lent_out out', (at, tt)));
      real-is = refl;
      out-is = refl;
      at-is = refl;
      left_is = refl;
      ensured = e;
    }

pub read-says : {s : List ℕ} {at n : ℕ} {r : Option Float} → Reads s at n r → r ≡ real_at s at n
read-says {s} {at} {n} {r} k =
    let i = k.ensured.is in cc i

pub read-called : (s : List ℕ) (at n : ℕ) (r : Option Float) → r ≡ real_at s at n → Reads s at n r
unfolding lent
read-called s at n r e =
    record {
      κs = ([], tt);
      args = (lent s, (at, (n, tt)));
      exits = (lent s, (at, (n, tt)));
      slice_is = refl;
      at-is = refl;
      count-is = refl;
      ensured = promised real-row e;
    }

pub round_trip : {x : Float} {out : List ℕ} {at n : ℕ} {out' : List ℕ} {r : Option Float} → T (Ieee.fits binary64 x)
    → Writes x out at (Some n) out' → Reads out' at (n - at) r → r ≡ Some x
round_trip {x} {out} {at} {n} {out'} d w k = read-says k ∙ written-read-at out at x n out' d (write-says w)

-- THE SAME, with nothing left open. For every double that has octets, and every output with room for them at a position: some call writes it, and some call
-- reads it back from there.
pub written-read-by-calls : (x : Float) (bs out : List ℕ) (at : ℕ) → T (Ieee.fits binary64 x) → form x ≡ octets bs → at + length bs ≤ length out
    → (n : ℕ) × ((out' : List ℕ) × (Writes x out at (Some n) out' × Reads out' at (n - at) (Some x)))
unfolding write_at
written-read-by-calls x bs out at d f room =
    let e = ap (λ (g : Form). put_form out at g) f ∙ put_in out at bs room in
    (_, (_, (write-called x out at _ _ e, read-called _ at _ (Some x) (sym (written-read-at out at x _ _ d e)))))
