-- Sizes over 16,384 are one: sums of them.
use Prim.Native.Nat.{ℕ, ◌+◌, ◌≤◌, ◌<◌}
use mathlib.Core.Path.{◌≡◌, sym, ap, ◌∙◌}
use mathlib.Core.Logic.{◌⊎◌, ⊎_elim, inr}
use native.Mathlib.Omega.{arith}
use borrow.Author.Tests.{le-leb, lt-leb, lt-ltb}
use lib.ListN.{length}
use Rattle.ber_integers.proofs.Radix.{lt-or-le}
use Rattle.ber_tags.specs.Write.{length_octets}
use Rattle.glow_member_sizes.specs.Sizes.{cap, tagged_size}

pub cap-in : (n : ℕ) → n ≤ 16384 → cap n ≡ n
unfolding cap
cap-in n h = simp (le-leb _ _ h)

pub cap-over : (n : ℕ) → 16384 < n → cap n ≡ 65536
unfolding cap
cap-over n h = simp (lt-leb _ _ h)

-- what is over stays over
pub cap-both : (m n : ℕ) → (m ≡ n) ⊎ ((16384 < m) × (16384 < n)) → cap m ≡ cap n
cap-both m n = ⊎_elim (λ (e : m ≡ n). ap cap e) (λ (h : (16384 < m) × (16384 < n)). cap-over m h.0 ∙ sym (cap-over n h.1))

pub cap-left : (a b : ℕ) → cap (cap a + b) ≡ cap (a + b)
cap-left a b =
    ⊎_elim
    (λ (h : 16384 < a). let e = cap-over a h in cap-both (cap a + b) (a + b) (inr (omega arith, omega arith)))
    (λ (h : a ≤ 16384). ap (λ (x : ℕ). cap (x + b)) (cap-in a h))
    (lt-or-le 16384 a)

pub cap-right : (a b : ℕ) → cap (a + cap b) ≡ cap (a + b)
cap-right a b =
    ⊎_elim
    (λ (h : 16384 < b). let e = cap-over b h in cap-both (a + cap b) (a + b) (inr (omega arith, omega arith)))
    (λ (h : b ≤ 16384). ap (λ (x : ℕ). cap (a + x)) (cap-in b h))
    (lt-or-le 16384 b)

pub over-tagged : (n : ℕ) → n < tagged_size n
unfolding tagged_size
over-tagged n = omega arith

pub cap-tagged : (n : ℕ) → cap (tagged_size (cap n)) ≡ cap (tagged_size n)
cap-tagged n =
    ⊎_elim
    (λ (h : 16384 < n).
    let e = cap-over n h in
    let a = over-tagged n in
    let b = over-tagged (cap n) in
    cap-both (tagged_size (cap n)) (tagged_size n) (inr (omega arith, omega arith)))
    (λ (h : n ≤ 16384). ap (λ (x : ℕ). cap (tagged_size x)) (cap-in n h))
    (lt-or-le 16384 n)

-- the code's sums
pub plus-left : (a b : ℕ) → 16384 < a → cap (a + b) ≡ 65536
plus-left a b h = cap-over (a + b) (omega arith)

pub plus-right : (a b : ℕ) → 16384 < b → cap (a + b) ≡ 65536
plus-right a b h = cap-over (a + b) (omega arith)

pub tagged-over : (n : ℕ) → 16384 < n → cap (tagged_size n) ≡ 65536
tagged-over n h = let a = over-tagged n in cap-over (tagged_size n) (omega arith)

pub tagged-short : (n : ℕ) → n < 128 → cap (tagged_size n) ≡ n + 2
unfolding tagged_size length_octets
tagged-short n h =
    let e : tagged_size n ≡ n + 2 = simp (lt-ltb _ _ h) (omega arith) in
    ap cap e ∙ cap-in (n + 2) (omega arith)

pub tagged_is : (n h t : ℕ) → h ≡ length (length_octets n) → t ≡ 1 + h + n → cap (tagged_size n) ≡ cap t
unfolding tagged_size
tagged_is n h t e i = let x : 1 + (length (length_octets n) + n) ≡ t = omega arith in ap cap x
