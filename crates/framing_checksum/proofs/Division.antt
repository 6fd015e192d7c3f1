-- The checksum without its table: what division by the polynomial leaves of one byte, and of four at once. The first is 001's table, by computation; the
-- second is four steps of the first, since both are linear and agree on the 32 single bits.
use Prim.Native.Nat.{ℕ, zero, suc, ◌+◌, ◌*◌, ◌/◌, ◌%◌, ◌^◌, ◌<◌}
use mathlib.Core.Path.{◌≡◌, refl, sym, ap, ap₂, ◌∙◌}
use mathlib.Core.List.{List, [], ◌∷◌}
use native.Mathlib.Omega.{arith}
use native.Mathlib.Nat.{mod-lt}
use lib.Bits.{bit_xor, xor_comm, xor_zero_r, xor_shr, xor_shifted, xor_lt}
use lib.ListN.{get_or}
use lib.Pow.{pow_pos}
use Rattle.framing_checksum.specs.Checksum.{table, crc_step, crc_from}
use Rattle.framing_checksum.proofs.Linear.{Linear, linear-self, linear-then, linear-xor, linear-down, linear-low, linear-up, linear-same, xor_assoc}

-- Of a byte, with the low bit as the highest power: the quotient by x^16 + x^12 + x^5 + 1, and what is left.
abbrev pub quotient : ℕ → ℕ
quotient x = bit_xor x (x * 2 ^ 4 % 2 ^ 16) % 2 ^ 8

abbrev pub left : ℕ → ℕ
left q = bit_xor (bit_xor (q * 2 ^ 8 % 2 ^ 16) (q * 2 ^ 3 % 2 ^ 16)) (q / 2 ^ 4)

abbrev pub divided : ℕ → ℕ
divided x = left (quotient x)

-- f of i and of the n - 1 numbers after it
abbrev pub listed : (ℕ → ℕ) → ℕ → ℕ → List ℕ
listed f i zero = []
listed f i (suc n) = f i ∷ listed f (suc i) n

get_or-listed : (f : ℕ → ℕ) (i n k : ℕ) → k < n → get_or (listed f i n) k 0 ≡ f (i + k)
get_or-listed f i zero k h = absurd (omega arith)
get_or-listed f i (suc n) zero h = let e : i ≡ i + 0 = omega arith in ap f e
get_or-listed f i (suc n) (suc k) h = let e : suc i + k ≡ i + suc k = omega arith in get_or-listed f (suc i) n k (omega arith) ∙ ap f e

-- 001's table is what division leaves of 0 to 255, by computation.
pub table-by-division : table ≡ listed divided 0 256
unfolding table
table-by-division = refl

pub table-divides : (x : ℕ) → x < 256 → get_or table x 0 ≡ divided x
table-divides x h =
    let e : 0 + x ≡ x = omega arith in
    ap (λ (ys : List ℕ). get_or ys x 0) table-by-division ∙ get_or-listed divided 0 256 x h ∙ ap divided e

pub crc-step : (crc b : ℕ) → crc_step crc b ≡ bit_xor (crc / 2 ^ 8) (divided (bit_xor crc b % 2 ^ 8))
unfolding crc_step
crc-step crc b = ap (bit_xor (crc / 256)) (table-divides (bit_xor crc b % 256) (omega arith))

linear-quotient : Linear quotient
linear-quotient = linear-then (linear-xor linear-self (linear-up 16 4)) (linear-low 8)

linear-left : Linear left
linear-left = linear-xor (linear-xor (linear-up 16 8) (linear-up 16 3)) (linear-down 4)

-- a crc whose low byte is XORed with the next byte of data, past that byte
abbrev pub past : ℕ → ℕ
past n = bit_xor (n / 2 ^ 8) (divided (n % 2 ^ 8))

linear-past : Linear past
linear-past = linear-xor (linear-down 8) (linear-then (linear-low 8) (linear-then linear-quotient linear-left))

step_past : (c b : ℕ) → b < 256 → crc_step c b ≡ past (bit_xor c b)
step_past c b h =
    let z : b / 256 ≡ 0 = omega arith in
    let e : bit_xor c b / 256 ≡ c / 256 = xor_shr c b 8 ∙ ap (bit_xor (c / 256)) z ∙ xor_zero_r (c / 256) in
    crc-step c b ∙ ap (λ (x : ℕ). bit_xor x (divided (bit_xor c b % 256))) (sym e)

past_up : (m : ℕ) → past (m * 256) ≡ m
past_up m =
    let h : m * 256 / 256 ≡ m = omega arith in
    let l : m * 256 % 256 ≡ 0 = omega arith in
    ap₂ (λ (x y : ℕ). bit_xor x (divided y)) h l ∙ xor_zero_r m

-- one byte more, below the number of those that follow
pub past_more : (c b m : ℕ) → b < 256 → bit_xor (crc_step c b) m ≡ past (bit_xor c (b + m * 256))
past_more c b m h =
    let e : m * 256 + b ≡ b + m * 256 = omega arith in
    ap₂ bit_xor (step_past c b h) (sym (past_up m)) ∙ sym (linear-past.law (bit_xor c b) (m * 256))
    ∙ ap past (xor_assoc c b (m * 256) ∙ ap (bit_xor c) (xor_comm b (m * 256) ∙ xor_shifted m 8 b h ∙ e))

-- Of four bytes as one number: the quotient in three stages, and what is left.
abbrev first : ℕ → ℕ
first v = bit_xor (bit_xor (bit_xor v (v * 2 ^ 4 % 2 ^ 32)) (v * 2 ^ 11 % 2 ^ 32)) (v * 2 ^ 16 % 2 ^ 32)

abbrev second : ℕ → ℕ
second x = bit_xor (bit_xor x (x * 2 ^ 8 % 2 ^ 32)) (x * 2 ^ 22 % 2 ^ 32)

abbrev third : ℕ → ℕ
third y = bit_xor y (y * 2 ^ 16 % 2 ^ 32)

abbrev rest : ℕ → ℕ
rest q = bit_xor (bit_xor q (q / 2 ^ 5)) (q / 2 ^ 12) / 2 ^ 16

abbrev pub divided_four : ℕ → ℕ
divided_four v = rest (third (second (first v)))

linear-four : Linear divided_four
linear-four =
    linear-then (linear-xor (linear-xor (linear-xor linear-self (linear-up 32 4)) (linear-up 32 11)) (linear-up 32 16))
    (linear-then (linear-xor (linear-xor linear-self (linear-up 32 8)) (linear-up 32 22))
    (linear-then (linear-xor linear-self (linear-up 32 16))
    (linear-then (linear-xor (linear-xor linear-self (linear-down 5)) (linear-down 12)) (linear-down 16))))

-- four bytes at once are four steps of one
pub four-divides : (v : ℕ) → v < 2 ^ 32 → past (past (past (past v))) ≡ divided_four v
four-divides = linear-same (linear-then linear-past (linear-then linear-past (linear-then linear-past linear-past))) linear-four 32 refl

pub crc-four : (crc a b c d w : ℕ) → crc < 65536 → a < 256 → b < 256 → c < 256 → d < 256 → w ≡ a + (b + (c + d * 256) * 256) * 256
    → divided_four (bit_xor crc w) ≡ crc_from crc (a ∷ b ∷ c ∷ d ∷ [])
unfolding crc_from
crc-four crc a b c d w h ha hb hc hd e =
    sym (step_past _ d hd ∙ ap past (past_more _ c d hc) ∙ ap (λ (n : ℕ). past (past n)) (past_more _ b (c + d * 256) hb)
    ∙ ap (λ (n : ℕ). past (past (past n))) (past_more crc a (b + (c + d * 256) * 256) ha)
    ∙ ap (λ (n : ℕ). past (past (past (past (bit_xor crc n))))) (sym e)
    ∙ four-divides _ (xor_lt 32 crc w (omega arith) (omega arith)))

up_lt : (x k : ℕ) → x * 2 ^ k % 2 ^ 32 < 2 ^ 32
up_lt x k = mod-lt (x * 2 ^ k) (pow_pos 32)

xored : {x y : ℕ} → x < 2 ^ 32 → y < 2 ^ 32 → bit_xor x y < 2 ^ 32
xored {x} {y} h k = xor_lt 32 x y h k

rest_lt : (q : ℕ) → q < 2 ^ 32 → rest q < 65536
rest_lt q h =
    let e : bit_xor (bit_xor q (q / 2 ^ 5)) (q / 2 ^ 12) < 2 ^ 32 = xored (xored h (omega arith)) (omega arith) in
    omega arith

pub four-fits : (v : ℕ) → v < 2 ^ 32 → divided_four v < 65536
four-fits v h =
    let x : first v < 2 ^ 32 = xored (xored (xored h (up_lt v 4)) (up_lt v 11)) (up_lt v 16) in
    let y : second (first v) < 2 ^ 32 = xored (xored x (up_lt (first v) 8)) (up_lt (first v) 22) in
    rest_lt (third (second (first v))) (xored y (up_lt (second (first v)) 16))
