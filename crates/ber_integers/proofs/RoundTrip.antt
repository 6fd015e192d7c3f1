-- Integers: what is written is read back, what is read is what is written, and nothing shorter is accepted.
use Rattle.std.specs.Prelude.{Option, Some, None}
use Prim.Native.Nat.{ℕ, suc, ◌+◌, ◌-◌, ◌*◌, ◌^◌, ◌≤◌, ◌<◌}
use mathlib.Core.Path.{◌≡◌, refl, sym, ap, ◌∙◌}
use mathlib.Core.List.{List, [], ◌∷◌}
use mathlib.Core.Logic.{◌⊎◌, inl, inr, ⊎_elim}
use native.Mathlib.Omega.{arith}
use native.Mathlib.Nat.{pow-suc, suc-mul, mul-le-mul_right, pow-le-pow_right}
use lib.ListN.{length}
use lib.IntN.{ℤ, pos, negsuc}
use lib.Signed.{mag}
use mir.Syntax.{w64}
use mir.Val.{SFits}
use Rattle.ber_integers.specs.Digits.{horner, natural}
use Rattle.ber_integers.specs.Integer.{signed, nine, nine_free, twos, integer, size, octets, shortest}
use Rattle.ber_integers.proofs.Laws.{signed_low, signed_high, free-short, free-zeros, free-ones, free-else, twos-none, twos-long, twos-is}
use Rattle.ber_integers.proofs.Radix.{lt-or-le, Below, length_digits, digits-below, horner-split, natural-lt}
use Rattle.ber_integers.proofs.Sizes.{power_pos, size_holds, size-least, size-eight, signed-octets, octets-signed}

-- the first nine bits are all equal exactly if an octet less would do
module _ (a b : ℕ) (bs : List ℕ) (bytes : Below 256 (a ∷ (b ∷ bs))) where
  k : ℕ
  k = length bs

  h : ℕ
  h = a * 256 + b

  value : natural (a ∷ (b ∷ bs)) ≡ h * 256 ^ k + natural bs
  unfolding horner h k
  value = let e : (0 * 256 + a) * 256 + b ≡ a * 256 + b = omega arith in rw e (horner-split 256 (a * 256 + b) bs)

  rest : natural bs < 256 ^ k
  unfolding k
  rest = natural-lt 256 bs bytes.1.1

  more : 256 ^ suc (suc k) ≡ 256 ^ k * 65536
  more = let p = pow-suc 256 (suc k) in let q = pow-suc 256 k in omega arith

  small-zeros : nine a b ≡ 0 → mag (signed (a ∷ (b ∷ bs))) * 2 < 256 ^ suc k
  unfolding k h
  small-zeros e =
      let s : signed (a ∷ (b ∷ bs)) ≡ pos (natural (a ∷ (b ∷ bs))) = signed_low refl (omega arith) in
      let m : h * 256 ^ k ≤ 127 * 256 ^ k = mul-le-mul_right (256 ^ k) (omega arith) in
      rw (s, pow-suc) (omega (arith, value, rest))

  small-ones : nine a b ≡ 511 → mag (signed (a ∷ (b ∷ bs))) * 2 < 256 ^ suc k
  unfolding k h
  small-ones e =
      let s : signed (a ∷ (b ∷ bs)) ≡ negsuc (256 ^ suc (suc k) - suc (natural (a ∷ (b ∷ bs)))) = signed_high refl (omega (arith, bytes)) in
      let m : 65408 * 256 ^ k ≤ h * 256 ^ k = mul-le-mul_right (256 ^ k) (omega arith) in
      let z = power_pos k in
      rw (s, pow-suc) (omega (arith, value, rest, more))

  -- with the nine bits not all equal, no octet less would do
  large : (nine a b ≡ 0 → ⊥) → (nine a b ≡ 511 → ⊥) → 256 ^ suc k ≤ mag (signed (a ∷ (b ∷ bs))) * 2
  unfolding k h
  large n0 n1 =
      let b0 : a < 256 = bytes.0 in
      let b1 : b < 256 = bytes.1.0 in
      let lo : 128 ≤ h = ⊎_elim (λ (l : h < 128). absurd (n0 (omega arith))) (λ (l : 128 ≤ h). l) (lt-or-le h 128) in
      let hi : h < 65408 = ⊎_elim (λ (l : h < 65408). l) (λ (l : 65408 ≤ h). absurd (n1 (omega arith))) (lt-or-le h 65408) in
      let ml : 128 * 256 ^ k ≤ h * 256 ^ k = mul-le-mul_right (256 ^ k) lo in
      let mh : suc h * 256 ^ k ≤ 65408 * 256 ^ k = mul-le-mul_right (256 ^ k) hi in
      let sm : suc h * 256 ^ k ≡ h * 256 ^ k + 256 ^ k = suc-mul h (256 ^ k) in
      ⊎_elim
      (λ (l : a < 128). let s : signed (a ∷ (b ∷ bs)) ≡ pos (natural (a ∷ (b ∷ bs))) = signed_low refl l in rw (s, pow-suc) (omega (arith, value)))
      (λ (l : 128 ≤ a).
      let s : signed (a ∷ (b ∷ bs)) ≡ negsuc (256 ^ suc (suc k) - suc (natural (a ∷ (b ∷ bs)))) = signed_high refl l in
      rw (s, pow-suc) (omega (arith, value, rest, more)))
      (lt-or-le a 128)

-- octets whose number needs them all are its shortest
unique : (x : ℕ) (xs : List ℕ) → Below 256 (x ∷ xs) → (length xs ≡ 0) ⊎ (256 ^ length xs ≤ mag (signed (x ∷ xs)) * 2) → shortest (signed (x ∷ xs)) ≡ x ∷ xs
unfolding shortest
unique x xs b need =
    let z = signed (x ∷ xs) in
    let o = octets-signed x xs b in
    let h = size_holds (mag z) (mag z) (omega arith) in
    let l : size z ≤ suc (length xs) = size-least (mag z) (mag z) (suc (length xs)) (omega arith) (omega arith) o.1 in
    let g : suc (length xs) ≤ size z =
    ⊎_elim (λ (e : length xs ≡ 0). omega arith)
    (λ (e : 256 ^ length xs ≤ mag z * 2).
    ⊎_elim
    (λ (m : length xs < size z). m)
    (λ (m : size z ≤ length xs). let p : 256 ^ size z ≤ 256 ^ length xs = pow-le-pow_right (omega arith) m in absurd (omega arith))
    (lt-or-le (length xs) (size z))) need in
    let n : size z ≡ suc (length xs) = omega arith in
    ap (λ (i : ℕ). octets i z) n ∙ o.0

int_is : {x y : ℤ} → Some x ≡ Some y → x ≡ y
int_is e = cc

never : {z : ℤ} {r : Option ℤ} → r ≡ Some z → None ≡ r → ⊥
never e f = let y : ◌≡◌ {A = ℕ} 0 1 = cc in omega arith

-- what two's complement accepts
twos-inv : (bs : List ℕ) (z : ℤ) → twos bs ≡ Some z → (0 < length bs) × ((length bs ≤ 8) × (signed bs ≡ z))
twos-inv bs z e =
    ⊎_elim
    (λ (n : length bs < 1). absurd (never e (twos-none bs (omega arith))))
    (λ (n : 1 ≤ length bs).
    ⊎_elim
    (λ (m : 8 < length bs). absurd (never e (twos-long bs m)))
    (λ (m : length bs ≤ 8). (n, (m, int_is (twos-is bs n m ∙ e))))
    (lt-or-le 8 (length bs)))
    (lt-or-le (length bs) 1)

-- Only the shortest octets of a number are read as it.
pub read-written : (bs : List ℕ) (z : ℤ) → Below 256 bs → integer bs ≡ Some z → shortest z ≡ bs
unfolding integer k
read-written [] z b e = absurd (never e (twos-none [] refl ∙ free-short [] (twos []) (omega arith)))
read-written (x ∷ []) z b e =
    let i = twos-inv (x ∷ []) z (free-short (x ∷ []) (twos (x ∷ [])) (omega arith) ∙ e) in
    ap shortest (sym i.1.1) ∙ unique x [] b (inl refl)
read-written (x ∷ (y ∷ ys)) z b e =
    let r = twos (x ∷ (y ∷ ys)) in
    let n0 : nine x y ≡ 0 → ⊥ = λ q. never e (free-zeros x y ys r q) in
    let n1 : nine x y ≡ 511 → ⊥ = λ q. never e (free-ones x y ys r q) in
    let i = twos-inv (x ∷ (y ∷ ys)) z (free-else x y ys r n0 n1 ∙ e) in
    ap shortest (sym i.1.1) ∙ unique x (y ∷ ys) b (inr (large x y ys b n0 n1))

-- and no octets in fewer
pub written-least : (bs : List ℕ) (z : ℤ) → Below 256 bs → integer bs ≡ Some z → length (shortest z) ≤ length bs
written-least bs z b e = let q = ap length (read-written bs z b e) in omega arith

-- a number read is one of 64 bits
pub read_fits : (bs : List ℕ) (z : ℤ) → Below 256 bs → integer bs ≡ Some z → SFits w64 z
unfolding integer k
read_fits [] z b e = absurd (never e (twos-none [] refl ∙ free-short [] (twos []) (omega arith)))
read_fits (x ∷ xs) z b e =
    let i = twos-of (x ∷ xs) z e in
    let o = (octets-signed x xs b).1 in
    let p : 256 ^ suc (length xs) ≤ 256 ^ 8 = pow-le-pow_right (omega arith) i.1.0 in
    let q : mag (signed (x ∷ xs)) < 2 ^ 63 = omega arith in
    record { sfits = rw i.1.1 at q }
  where
    twos-of : (bs : List ℕ) (z : ℤ) → nine_free bs (twos bs) ≡ Some z → (0 < length bs) × ((length bs ≤ 8) × (signed bs ≡ z))
    twos-of [] z e = twos-inv [] z (free-short [] (twos []) (omega arith) ∙ e)
    twos-of (x ∷ []) z e = twos-inv (x ∷ []) z (free-short (x ∷ []) (twos (x ∷ [])) (omega arith) ∙ e)
    twos-of (x ∷ (y ∷ ys)) z e =
        let r = twos (x ∷ (y ∷ ys)) in
        twos-inv (x ∷ (y ∷ ys)) z (free-else x y ys r (λ q. never e (free-zeros x y ys r q)) (λ q. never e (free-ones x y ys r q)) ∙ e)

pub length-shortest : (z : ℤ) → length (shortest z) ≡ size z
unfolding shortest octets
length-shortest (pos m) = length_digits 256 (omega arith) (size (pos m)) m
length-shortest (negsuc m) = length_digits 256 (omega arith) (size (negsuc m)) (256 ^ size (negsuc m) - suc m)

pub shortest-below : (z : ℤ) → Below 256 (shortest z)
unfolding shortest octets
shortest-below (pos m) = digits-below 256 (omega arith) (size (pos m)) m
shortest-below (negsuc m) = digits-below 256 (omega arith) (size (negsuc m)) (256 ^ size (negsuc m) - suc m)

pub signed-shortest : (z : ℤ) → signed (shortest z) ≡ z
unfolding shortest
signed-shortest z = let q = size_holds (mag z) (mag z) (omega arith) in signed-octets (size z) q.0 z q.1

-- Every number of 64 bits is read back from what is written of it.
pub written_read : (z : ℤ) → SFits w64 z → integer (shortest z) ≡ Some z
unfolding integer k
written_read z h =
    let h8 = size-eight z h in
    let s : signed (shortest z) ≡ z = signed-shortest z in
    let l = length-shortest z in
    let t : Some (signed (shortest z)) ≡ twos (shortest z) = twos-is (shortest z) (omega arith) (omega arith) in
    sym (free (shortest z) (twos (shortest z)) (shortest-below z) l s) ∙ sym t ∙ ap Some s
  where
    free : (bs : List ℕ) (r : Option ℤ) → Below 256 bs → length bs ≡ size z → signed bs ≡ z → r ≡ nine_free bs r
    free [] r b l s = free-short [] r (omega arith)
    free (x ∷ []) r b l s = free-short (x ∷ []) r (omega arith)
    free (x ∷ (y ∷ ys)) r b l s =
        let no : mag (signed (x ∷ (y ∷ ys))) * 2 < 256 ^ suc (length ys) → ⊥ =
        λ q. let m = size-least (mag z) (mag z) (suc (length ys)) (omega arith) (omega arith) (rw s at q) in omega arith in
        free-else x y ys r (λ e. no (small-zeros x y ys b e)) (λ e. no (small-ones x y ys b e))
