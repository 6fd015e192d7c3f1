-- The reader accepts exactly the octets that say a double, and reads that double: "Accepted exactly if some finite double equals it".
use Rattle.std.specs.Prelude.{Option, Some, None}
use Prim.Native.Nat.{ℕ, ◌+◌, ◌^◌, ◌≤◌, ◌<◌}
use mathlib.Core.Path.{◌≡◌, refl, sym, ap, ◌∙◌}
use mathlib.Core.Logic.{inl, inr, ⊎_elim}
use mathlib.Core.List.{List, [], ◌∷◌}
use mathlib.Core.Bool.{Bool, true, false, ◌&&◌}
use native.Mathlib.Nat.{eq-zero-or-pos, pow-le-pow_right, lt_of_lt_of_le}
use native.Mathlib.Omega.{arith}
use borrow.Author.Tests.{eqb-true}
use lib.ListN.{length, drop, length-drop}
use lib.Dec.{T, leb, ltb, eqb, leb→le, ltb→lt}
use lib.IntN.{pos}
use lib.Ieee.{Float, inf, fin}
use lib.Ieee.Fits.{and_l, and_r}
use Rattle.base_choices.specs.Choices.{pick}
use Rattle.ber_integers.specs.Digits.{natural}
use Rattle.ber_integers.proofs.Radix.{Below, natural-lt}
use Rattle.ber_integers.proofs.Signs.{below-drop}
use Rattle.ber_reals.specs.Number.{number}
use Rattle.ber_reals.specs.Real.{binary, base, exponent_octets, well_formed, negative, mantissa, power, binary_real, non_empty, real}
use Rattle.ber_reals.specs.Means.{Equals, Means}
use Rattle.ber_reals.proofs.Laws.{number-zero}
use Rattle.ber_reals.proofs.Doubles.{accepted, complete}

never : (r : Option Float) (x : Float) → r ≡ None → r ≡ Some x → ⊥
never r x p q = let z : ◌≡◌ {A = ℕ} 0 1 = cc in omega arith

same : (x y : Float) → Some x ≡ Some y → x ≡ y
same x y p = cc

module _ (first : ℕ) (rest : List ℕ) where
  abbrev m : ℕ
  m = mantissa first rest

  -- "mantissa of 1 to 8 octets"
  lengths : T (well_formed first rest) → T (ltb (exponent_octets first) (length rest) && leb (length rest) (exponent_octets first + 8))
  unfolding well_formed
  lengths w =
      let e = exponent_octets first in
      let w2 = and_r (binary first) (eqb (base first) 0 && (leb e 3 && (ltb e (length rest) && leb (length rest) (e + 8)))) w in
      let w3 = and_r (eqb (base first) 0) (leb e 3 && (ltb e (length rest) && leb (length rest) (e + 8))) w2 in
      and_r (leb e 3) (ltb e (length rest) && leb (length rest) (e + 8)) w3

  pub formed-within : T (well_formed first rest) → exponent_octets first < length rest
  formed-within w = ltb→lt (exponent_octets first) (length rest)
      (and_l (ltb (exponent_octets first) (length rest)) (leb (length rest) (exponent_octets first + 8)) (lengths w))

  pub mantissa-word : Below 256 rest → T (well_formed first rest) → m < 2 ^ 64
  mantissa-word b w =
      let e = exponent_octets first in
      let l : length rest ≤ e + 8 = leb→le (length rest) (e + 8) (and_r (ltb e (length rest)) (leb (length rest) (e + 8)) (lengths w)) in
      let n : natural (drop e rest) < 256 ^ length (drop e rest) = natural-lt 256 (drop e rest) (below-drop 256 e rest b) in
      let k : length (drop e rest) ≤ 8 = simp length-drop (omega arith) in
      lt_of_lt_of_le n (pow-le-pow_right {n = 256} (omega arith) k)

  binary-exactly : Below 256 rest → (x : Float)
      → (binary_real first rest ≡ Some x → T (well_formed first rest) × (0 < m) × Equals x (negative first) m (power first rest))
      × (T (well_formed first rest) × (0 < m) × Equals x (negative first) m (power first rest) → binary_real first rest ≡ Some x)
  unfolding binary_real
  binary-exactly b x = go (well_formed first rest) (mantissa-word b)
    where
      go : (w : Bool) → (T w → m < 2 ^ 64)
          → (pick w (number (negative first) m (power first rest)) None ≡ Some x → T w × (0 < m) × Equals x (negative first) m (power first rest))
          × (T w × (0 < m) × Equals x (negative first) m (power first rest) → pick w (number (negative first) m (power first rest)) None ≡ Some x)
      go true f = (
        λ e. ⊎_elim
            (λ (z : m ≡ 0). absurd (never (number (negative first) m (power first rest)) x (sym (number-zero (negative first) m (power first rest) z)) e))
            (λ (z : 0 < m). (tt, z, accepted (negative first) m (power first rest) z (f tt) x e))
            (eq-zero-or-pos m),
        λ h. complete (negative first) m (power first rest) h.1 (f tt) x h.2,
      )
      go false f = (λ e. absurd (never None x refl e), λ h. absurd h.0)

alone : (first : ℕ) (x : Float) → (non_empty first [] ≡ Some x → Means (first ∷ []) x) × (Means (first ∷ []) x → non_empty first [] ≡ Some x)
unfolding non_empty
alone first x = (
  go (eqb first 0x40) (eqb first 0x41) (eqb-true first 0x40) (eqb-true first 0x41),
  λ h. ⊎_elim (λ (p : (first ≡ 0x40) × (x ≡ inf false)). rw (p.0, p.1)) (λ (p : (first ≡ 0x41) × (x ≡ inf true)). rw (p.0, p.1)) h,
)
  where
    go : (a b : Bool) → (a ≡ true → first ≡ 0x40) → (b ≡ true → first ≡ 0x41) → pick a (Some (inf false)) (pick b (Some (inf true)) None) ≡ Some x
        → Means (first ∷ []) x
    go true b f g e = inl (f refl, sym (same (inf false) x e))
    go false true f g e = inr (g refl, sym (same (inf true) x e))
    go false false f g e = absurd (never None x refl e)

-- the theorem: for every list of octets and every double
pub exactly : (bs : List ℕ) → Below 256 bs → (x : Float) → (real bs ≡ Some x → Means bs x) × (Means bs x → real bs ≡ Some x)
unfolding real non_empty
exactly [] b x = (λ e. sym (same (fin false 0 (pos 0)) x e), λ e. ap Some (sym e))
exactly (first ∷ []) b x = alone first x
exactly (first ∷ (second ∷ rest)) b x = binary-exactly first (second ∷ rest) b.1 x

-- so the octets say one double at most
pub unique : (bs : List ℕ) → Below 256 bs → (x y : Float) → Means bs x → Means bs y → x ≡ y
unique bs b x y p q = same x y (sym ((exactly bs b x).1 p) ∙ (exactly bs b y).1 q)

-- and where they say none, they are refused: 35
pub otherwise : (bs : List ℕ) → Below 256 bs → ((x : Float) → Means bs x → ⊥) → real bs ≡ None
otherwise bs b n = go (real bs) refl
  where
    go : (r : Option Float) → real bs ≡ r → r ≡ None
    go (Some x) e = absurd (n x ((exactly bs b x).0 e))
    go None e = refl
