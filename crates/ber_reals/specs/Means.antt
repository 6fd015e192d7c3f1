-- What the theorems of proofs/ speak of: what content octets say, by the library's account of doubles alone (Exactly), and the written form (RoundTrip).
use Rattle.std.specs.Prelude.{ℕ, ◌%◌, ◌<◌, ◌≡◌, ◌⊎◌, List, [], ◌∷◌, Bool, true, false, T, ℤ, pos, Float}
use Rattle.std.specs.Float.Ieee as Ieee
use Rattle.std.specs.Float.{inf, fin, binary64}
use Rattle.ber_reals.specs.Real.{well_formed, negative, scale, mantissa, power}

-- the finite double x equals ± m * 2 ^ p; no infinity and no NaN equals a number
abbrev pub Equals : Float → Bool → ℕ → ℤ → Type 0
Equals x s m p = T (Ieee.fits binary64 x) × T (Ieee.eq x (fin s m p))

-- "empty is zero; 40 and 41 are the infinities; otherwise" the double that equals the number ± mantissa * 2 ^ power
abbrev pub Means : List ℕ → Float → Type 0
Means [] x = x ≡ fin false 0 (pos 0)
Means (first ∷ []) x = ((first ≡ 0x40) × (x ≡ inf false)) ⊎ ((first ≡ 0x41) × (x ≡ inf true))
Means (first ∷ (second ∷ rest)) x =
    T (well_formed first (second ∷ rest)) × (0 < mantissa first (second ∷ rest))
    × Equals x (negative first) (mantissa first (second ∷ rest)) (power first (second ∷ rest))

-- "scale 0, odd mantissa": the form that is written, among all that are read
abbrev pub Plain : List ℕ → Type 0
Plain [] = Unit {0}
Plain (first ∷ []) = Unit {0}
Plain (first ∷ (second ∷ rest)) = (scale first ≡ 0) × (mantissa first (second ∷ rest) % 2 ≡ 1)
