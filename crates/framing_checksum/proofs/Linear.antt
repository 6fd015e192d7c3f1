-- Linear functions of bits: what they give for two numbers that are XORed is what they give for each, XORed. Shifts and masks are linear, and two linear
-- functions that agree on the single bits agree on all numbers.
use Prim.Native.Nat.{ℕ, zero, suc, ◌+◌, ◌*◌, ◌/◌, ◌%◌, ◌^◌, ◌<◌}
use mathlib.Core.Path.{◌≡◌, refl, sym, ap, ap₂, ◌∙◌}
use mathlib.Core.List.{List, [], ◌∷◌}
use native.Mathlib.Omega.{arith}
use native.Mathlib.Nat.{pow-suc, mod-lt, div-lt_iff_lt-mul, zero-mul, one-mul}
use lib.Arith.{bin_ind, lt-one}
use lib.Pow.{pow_pos, split}
use lib.Bits.{bit_xor, xor_comm, xor_self, xor_shr, xor_mod, xor_block, xor_shifted}
use lib.ListN.{get_or, drop}

halves : (m n : ℕ) → m / 2 ≡ n / 2 → m % 2 ≡ n % 2 → m ≡ n
halves m n e f = omega arith

bit-assoc : (x y z : ℕ) → x < 2 → y < 2 → z < 2 → bit_xor (bit_xor x y) z ≡ bit_xor x (bit_xor y z)
bit-assoc zero y z h k l = refl
bit-assoc (suc zero) zero z h k l = refl
bit-assoc (suc zero) (suc zero) zero h k l = refl
bit-assoc (suc zero) (suc zero) (suc zero) h k l = refl
bit-assoc (suc (suc x)) y z h k l = absurd (omega arith)
bit-assoc (suc zero) (suc (suc y)) z h k l = absurd (omega arith)
bit-assoc (suc zero) (suc zero) (suc (suc z)) h k l = absurd (omega arith)

xor-half : (a b : ℕ) → bit_xor a b / 2 ≡ bit_xor (a / 2) (b / 2)
xor-half a b = xor_shr a b 1

xor-odd : (a b : ℕ) → bit_xor a b % 2 ≡ bit_xor (a % 2) (b % 2)
xor-odd a b = xor_mod a b 1

pub xor_assoc : (a b c : ℕ) → bit_xor (bit_xor a b) c ≡ bit_xor a (bit_xor b c)
xor_assoc =
    bin_ind (λ (n : ℕ). (b c : ℕ) → bit_xor (bit_xor n b) c ≡ bit_xor n (bit_xor b c)) (λ b c. refl)
    (λ n ih b c.
    halves _ _
    (xor-half (bit_xor n b) c ∙ ap (λ (x : ℕ). bit_xor x (c / 2)) (xor-half n b) ∙ ih (b / 2) (c / 2)
    ∙ sym (xor-half n (bit_xor b c) ∙ ap (bit_xor (n / 2)) (xor-half b c)))
    (xor-odd (bit_xor n b) c ∙ ap (λ (x : ℕ). bit_xor x (c % 2)) (xor-odd n b) ∙ bit-assoc (n % 2) (b % 2) (c % 2) (omega arith) (omega arith) (omega arith)
    ∙ sym (xor-odd n (bit_xor b c) ∙ ap (bit_xor (n % 2)) (xor-odd b c))))

xor-cross : (a b c d : ℕ) → bit_xor (bit_xor a b) (bit_xor c d) ≡ bit_xor (bit_xor a c) (bit_xor b d)
xor-cross a b c d =
    xor_assoc a b (bit_xor c d)
    ∙ ap (bit_xor a) (sym (xor_assoc b c d) ∙ ap (λ (x : ℕ). bit_xor x d) (xor_comm b c) ∙ xor_assoc c b d)
    ∙ sym (xor_assoc a c (bit_xor b d))

pub record Linear (f : ℕ → ℕ) : Type 0 where
  pub law : (x y : ℕ) → f (bit_xor x y) ≡ bit_xor (f x) (f y)

pub linear-self : Linear (λ (x : ℕ). x)
linear-self = record { law = λ x y. refl }

pub linear-then : {f g : ℕ → ℕ} → Linear f → Linear g → Linear (λ (x : ℕ). g (f x))
linear-then {f} {g} l m = record { law = λ x y. ap g (l.law x y) ∙ m.law (f x) (f y) }

pub linear-xor : {f g : ℕ → ℕ} → Linear f → Linear g → Linear (λ (x : ℕ). bit_xor (f x) (g x))
linear-xor {f} {g} l m = record { law = λ x y. ap₂ bit_xor (l.law x y) (m.law x y) ∙ xor-cross (f x) (f y) (g x) (g y) }

pub linear-down : (k : ℕ) → Linear (λ (x : ℕ). x / 2 ^ k)
linear-down k = record { law = λ x y. xor_shr x y k }

pub linear-low : (k : ℕ) → Linear (λ (x : ℕ). x % 2 ^ k)
linear-low k = record { law = λ x y. xor_mod x y k }

times : (x y k : ℕ) → bit_xor x y * 2 ^ k ≡ bit_xor (x * 2 ^ k) (y * 2 ^ k)
times x y k =
    let plus : (n : ℕ) → n + 0 ≡ n = λ n. omega arith in
    sym (ap₂ bit_xor (sym (plus (x * 2 ^ k))) (sym (plus (y * 2 ^ k))) ∙ xor_block k x y 0 0 (pow_pos k) (pow_pos k) ∙ plus (bit_xor x y * 2 ^ k))

-- a shift of a number of w bits
pub linear-up : (w k : ℕ) → Linear (λ (x : ℕ). x * 2 ^ k % 2 ^ w)
linear-up w k = linear-then (record { law = λ x y. times x y k }) (linear-low w)

pub linear-zero : {f : ℕ → ℕ} → Linear f → f 0 ≡ 0
linear-zero {f} l = l.law 0 0 ∙ xor_self (f 0)

-- what a function gives for the single bits below k
abbrev pub bits : (ℕ → ℕ) → ℕ → List ℕ
bits f zero = []
bits f (suc k) = f (2 ^ k) ∷ bits f k

digit-same : {f g : ℕ → ℕ} → Linear f → Linear g → (k d : ℕ) → f (2 ^ k) ≡ g (2 ^ k) → d < 2 → f (d * 2 ^ k) ≡ g (d * 2 ^ k)
digit-same {f} {g} l m k zero e h = ap f (zero-mul (2 ^ k)) ∙ linear-zero l ∙ sym (ap g (zero-mul (2 ^ k)) ∙ linear-zero m)
digit-same {f} {g} l m k (suc zero) e h = ap f (one-mul (2 ^ k)) ∙ e ∙ sym (ap g (one-mul (2 ^ k)))
digit-same l m k (suc (suc d)) e h = absurd (omega arith)

pub linear-same : {f g : ℕ → ℕ} → Linear f → Linear g → (k : ℕ) → bits f k ≡ bits g k → (x : ℕ) → x < 2 ^ k → f x ≡ g x
linear-same {f} {g} l m zero e x h = ap f (lt-one h) ∙ linear-zero l ∙ sym (ap g (lt-one h) ∙ linear-zero m)
linear-same {f} {g} l m (suc k) e x h =
    let low : x % 2 ^ k < 2 ^ k = mod-lt x (pow_pos k) in
    let twice : x < 2 * 2 ^ k = omega (arith, pow-suc 2 k) in
    let high : x / 2 ^ k < 2 = (div-lt_iff_lt-mul (pow_pos k)).1 twice in
    let parts : x ≡ bit_xor (x / 2 ^ k * 2 ^ k) (x % 2 ^ k) = sym (xor_shifted (x / 2 ^ k) k (x % 2 ^ k) low ∙ split x k) in
    ap f parts ∙ l.law (x / 2 ^ k * 2 ^ k) (x % 2 ^ k)
    ∙ ap₂ bit_xor (digit-same l m k (x / 2 ^ k) (ap (λ (ys : List ℕ). get_or ys 0 0) e) high) (linear-same l m k (ap (drop 1) e) (x % 2 ^ k) low)
    ∙ sym (ap g parts ∙ m.law (x / 2 ^ k * 2 ^ k) (x % 2 ^ k))
