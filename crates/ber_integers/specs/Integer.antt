-- Integers in content octets (document 01, Values; X.690 8.3).
-- For other crates: `unsigned_at s at n` is what `read_unsigned` answers, `signed_at s at n` what `read_signed` answers (two's
-- complement without the nine-bit rule), `integer_at s at n` what `read_int` answers, `shortest z` the octets of `write_int`.
use Rattle.std.specs.Prelude.{ℕ, zero, suc, ◌+◌, ◌-◌, ◌*◌, ◌/◌, ◌^◌, List, [], ◌∷◌, length, take, drop, leb, ltb, eqb, ℤ, pos, negsuc, Option, Some, None}
use Rattle.std.specs.Int.Signed.{mag}
use Rattle.base_choices.specs.Choices.{pick}
use Rattle.ber_integers.specs.Digits.{natural, digits}

-- "two's complement": with the first bit set, the number less 256 to the power of the count of octets
unfoldable pub signed : List ℕ → ℤ
signed [] = pos 0
signed (b ∷ bs) = pick (ltb b 128) (pos (natural (b ∷ bs))) (negsuc (256 ^ suc (length bs) - suc (natural (b ∷ bs))))

-- the first nine bits, of two octets
abbrev pub nine : ℕ → ℕ → ℕ
nine a b = (a * 256 + b) / 128

-- "first nine bits not all equal"
unfoldable pub nine_free : List ℕ → (Option ℤ → Option ℤ)
nine_free [] r = r
nine_free (a ∷ []) r = r
nine_free (a ∷ (b ∷ bs)) r = pick (eqb (nine a b) 0) None (pick (eqb (nine a b) 511) None r)

-- "1 to 8 octets", two's complement
unfoldable pub twos : List ℕ → Option ℤ
twos bs = pick (eqb (length bs) 0) None (pick (leb (length bs) 8) (Some (signed bs)) None)

-- "Integers: 1 to 8 octets, two's complement, first nine bits not all equal."
unfoldable pub integer : List ℕ → Option ℤ
integer bs = nine_free bs (twos bs)

-- octets that a message holds at a position; refused where it does not hold them
unfoldable pub unsigned_at : List ℕ → ℕ → ℕ → Option ℕ
unsigned_at s at n =
    pick (leb n 8) (pick (leb (at + n) (length s)) (Some (natural (take n (drop at s)))) None) None

unfoldable pub signed_at : List ℕ → ℕ → ℕ → Option ℤ
signed_at s at n = pick (leb (at + n) (length s)) (twos (take n (drop at s))) None

unfoldable pub integer_at : List ℕ → ℕ → ℕ → Option ℤ
integer_at s at n = pick (leb (at + n) (length s)) (integer (take n (drop at s))) None

-- the octets that hold m beside a sign bit, the fewest; fuel of at least m
unfoldable pub size_by : ℕ → ℕ → ℕ
size_by zero m = 1
size_by (suc f) m =
    let r : ℕ = suc (size_by f (m / 256)) in
    pick (ltb m 128) 1 r

abbrev pub size : ℤ → ℕ
size z = size_by (mag z) (mag z)

-- n octets in two's complement
unfoldable pub octets : ℕ → ℤ → List ℕ
octets n (pos m) = digits 256 n m
octets n (negsuc m) = digits 256 n (256 ^ n - suc m)

-- "fewest octets"
unfoldable pub shortest : ℤ → List ℕ
shortest z = octets (size z) z
