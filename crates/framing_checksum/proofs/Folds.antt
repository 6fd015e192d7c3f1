-- The checksum of data is a fold over its bytes, and goes on by four bytes at once.
use Prim.Native.Nat.{ℕ, suc, ◌≤◌, ◌-◌}
use mathlib.Core.List.{List, [], ◌∷◌}
use mathlib.Core.Path.{◌≡◌, refl}
use native.Mathlib.Omega.{arith}
use lib.ListN.{length, take, drop, get_or}
use lib.Seq.{take-length}
use Rattle.std.specs.Prelude.{fold}
use Rattle.framing_checksum.specs.Checksum.{crc_step, crc_from}

pub from-fold : (c : ℕ) (s : List ℕ) → fold crc_step c s ≡ crc_from c s
unfolding crc_from
from-fold c [] = refl
from-fold c (b ∷ bs) = from-fold (crc_step c b) bs

pub from-four : (c : ℕ) (s : List ℕ) {k : ℕ} → 4 ≤ length s → k ≡ crc_from c (get_or s 0 0 ∷ get_or s 1 0 ∷ get_or s 2 0 ∷ get_or s 3 0 ∷ [])
    → crc_from c s ≡ crc_from k (take (length s - 4) (drop 4 s))
unfolding crc_from
from-four k (a ∷ b ∷ c ∷ d ∷ s) h e =
    let n : suc (suc (suc (suc (length s)))) - 4 ≡ length s = omega arith in
    rw (e, n, take-length s)
from-four k (a ∷ b ∷ c ∷ []) h e = absurd (omega arith)
from-four k (a ∷ b ∷ []) h e = absurd (omega arith)
from-four k (a ∷ []) h e = absurd (omega arith)
from-four k [] h e = absurd (omega arith)
