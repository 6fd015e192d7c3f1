-- Laws of the integers that are powers here: each is a difference of two naturals, and a test on it is one on those.
use Prim.Native.Nat.{ℕ, suc, ◌+◌, ◌-◌, ◌^◌, ◌≤◌, ◌<◌}
use mathlib.Core.Path.{◌≡◌, refl, sym, ap}
use mathlib.Core.Bool.{Bool, true, false, not, cond}
use native.Mathlib.Omega.{arith}
use borrow.Author.Tests.{le-leb, lt-leb}
use lib.Dec.{T, leb, ltb, leb→le, nleb→lt, ltb→lt, nltb→le}
use lib.IntN.{ℤ, pos, negsuc, ◌+ℤ◌, sub_ℕ}
use lib.Signed.{le_z}
use lib.Ieee.{up, down, minus}

-- z is over z - below z
abbrev pub over : ℤ → ℕ
over (pos k) = k
over (negsuc k) = 0

abbrev pub below : ℤ → ℕ
below (pos k) = 0
below (negsuc k) = suc k

-- z is a - b
abbrev pub Is : ℤ → ℕ → ℕ → Type 0
Is z a b = over z + b ≡ a + below z

pub up_is : (z : ℤ) → up z ≡ 2 ^ over z
up_is (pos k) = refl
up_is (negsuc k) = refl

pub down_is : (z : ℤ) → down z ≡ 2 ^ below z
down_is (pos k) = refl
down_is (negsuc k) = refl

pub minus_is : (a b : ℕ) → Is (minus a b) a b
minus_is a b = go (leb b a) (leb→le b a) (nleb→lt b a)
  where
    go : (t : Bool) → (T t → b ≤ a) → (T (not t) → a < b) → Is (cond t (pos (a - b)) (negsuc (b - suc a))) a b
    go true h k = let l = h tt in omega arith
    go false h k = let l = k tt in omega arith

-- a difference is one integer
pub one : (z y : ℤ) (a b : ℕ) → Is z a b → Is y a b → z ≡ y
one (pos k) (pos l) a b p q = ap pos (omega arith)
one (pos k) (negsuc l) a b p q = absurd (omega arith)
one (negsuc k) (pos l) a b p q = absurd (omega arith)
one (negsuc k) (negsuc l) a b p q = ap negsuc (omega arith)

sub_is : (a b : ℕ) → Is (sub_ℕ a b) a b
sub_is a b = go (ltb a b) (ltb→lt a b) (nltb→le a b)
  where
    go : (t : Bool) → (T t → a < b) → (T (not t) → b ≤ a) → Is (cond t (negsuc (b - suc a)) (pos (a - b))) a b
    go true h k = let l = h tt in omega arith
    go false h k = let l = k tt in omega arith

pub add_is : (z : ℤ) (t a b : ℕ) → Is z a b → Is (z +ℤ pos t) (a + t) b
add_is (pos k) t a b p = omega arith
add_is (negsuc k) t a b p = let s = sub_is t (suc k) in omega arith

pub leb-same : (a b c d : ℕ) → (a ≤ b → c ≤ d) → (b < a → d < c) → leb a b ≡ leb c d
leb-same a b c d f g = go (leb a b) (leb→le a b) (nleb→lt a b)
  where
    go : (t : Bool) → (T t → a ≤ b) → (T (not t) → b < a) → t ≡ leb c d
    go true h k = sym (le-leb c d (f (h tt)))
    go false h k = sym (lt-leb c d (g (k tt)))

-- "its power of two at least -1,074"
pub least-is : (z : ℤ) (a b : ℕ) → Is z a b → le_z (negsuc 1073) z ≡ leb b (a + 1074)
least-is (pos k) a b p = sym (le-leb b (a + 1074) (omega arith))
least-is (negsuc k) a b p = leb-same k 1073 b (a + 1074) (λ l. omega arith) (λ l. omega arith)

most : (z : ℤ) (a b : ℕ) → Is z a b → le_z z (pos 1024) ≡ leb a (b + 1024)
most (pos k) a b p = leb-same k 1024 a (b + 1024) (λ l. omega arith) (λ l. omega arith)
most (negsuc k) a b p = sym (le-leb a (b + 1024) (omega arith))

plus-is : (n : ℕ) (z : ℤ) (a b : ℕ) → Is z a b → Is (pos n +ℤ z) (n + a) b
plus-is n (pos k) a b p = omega arith
plus-is n (negsuc k) a b p = let s = sub_is n (suc k) in omega arith

-- "its bits plus the power at most 1,024"
pub most-is : (n : ℕ) (z : ℤ) (a b : ℕ) → Is z a b → le_z (pos n +ℤ z) (pos 1024) ≡ leb (n + a) (b + 1024)
most-is n z a b p = most (pos n +ℤ z) (n + a) b (plus-is n z a b p)
