-- With which numbers each call answers, whatever is handed in.
use Rattle.std.specs.Prelude.{Option, Some, None}
use Prim.Native.Nat.{ℕ, ◌+◌}
use mathlib.Core.List.{List, [], ◌∷◌, ◌++◌}
use mathlib.Core.Bool.{Bool, true, false, true≢false}
use mathlib.Core.Path.{◌≡◌, refl, sym, subst}
use mathlib.Core.Logic.{⊎_elim}
use mir.Val.{has_key}
use types.Run.{OneOf, hit}
use lib.IntN.{ℤ}
use lib.ListN.{length, take, drop}
use lib.Dec.{T, leb}
use Rattle.base_choices.specs.Choices.{pick}
use Rattle.ber_integers.specs.Digits.{digits, put, unchanged}
use Rattle.ber_integers.specs.Readings.{number_of, integer_says, natural_says}
use Rattle.ber_integers.specs.Integer.{unsigned_at, signed_at, integer_at, shortest}
use Rattle.ber_integers.specs.Numbers.{octet_numbers, put_numbers}

-- each of some numbers is one of others
abbrev pub all_in : List ℕ → List ℕ → Bool
all_in [] js = true
all_in (k ∷ ks) js = pick (has_key js k) (all_in ks js) false

-- a number that is one of these is one of more
pub widen : (ks js : List ℕ) (n : ℕ) → all_in ks js ≡ true → OneOf ks n → OneOf js n
widen [] js n h o = absurd o
widen (k ∷ []) js n h e = go (has_key js k) refl h
  where
    go : (u : Bool) → has_key js k ≡ u → pick u true false ≡ true → OneOf js n
    go true q z = subst (OneOf js) (sym e) (hit js k (subst T (sym q) tt))
    go false q z = absurd (true≢false (sym z))
widen (k ∷ (j ∷ ks)) js n h o = go (has_key js k) refl h (widen (j ∷ ks) js n)
  where
    go : (u : Bool) → has_key js k ≡ u → pick u (all_in (j ∷ ks) js) false ≡ true → (all_in (j ∷ ks) js ≡ true → OneOf (j ∷ ks) n → OneOf js n)
        → OneOf js n
    go true q z f = ⊎_elim (λ (e : n ≡ k). subst (OneOf js) (sym e) (hit js k (subst T (sym q) tt))) (λ (r : OneOf (j ∷ ks) n). f z r) o
    go false q z f = absurd (true≢false (sym z))

natural-numbers : (x : Option ℕ) (tag : ℕ) → OneOf octet_numbers (number_of (natural_says x tag))
natural-numbers (Some v) tag = hit octet_numbers 0 tt
natural-numbers None tag = hit octet_numbers 30 tt

pub integer-numbers : (x : Option ℤ) (tag : ℕ) → OneOf octet_numbers (number_of (integer_says x tag))
integer-numbers (Some z) tag = hit octet_numbers 0 tt
integer-numbers None tag = hit octet_numbers 30 tt

-- the readers of the n octets at a position, with a tag at its place: 0 or 30
module _ (s : List ℕ) (at n tag : ℕ) where
  pub read-unsigned-numbers : OneOf octet_numbers (number_of (natural_says (unsigned_at s at n) tag))
  read-unsigned-numbers = natural-numbers (unsigned_at s at n) tag

  pub read-signed-numbers : OneOf octet_numbers (number_of (integer_says (signed_at s at n) tag))
  read-signed-numbers = integer-numbers (signed_at s at n) tag

  pub read-int-numbers : OneOf octet_numbers (number_of (integer_says (integer_at s at n) tag))
  read-int-numbers = integer-numbers (integer_at s at n) tag

-- the writers: 0 or 46
pub unchanged-numbers : (out : List ℕ) → OneOf put_numbers (unchanged out).number
unchanged-numbers out = hit put_numbers 46 tt

module _ (out : List ℕ) (at : ℕ) where
  pub put-numbers : (bs : List ℕ) → OneOf put_numbers (put out at bs).number
  unfolding put
  put-numbers bs = go (leb (at + length bs) (length out))
    where
      go : (u : Bool)
          → OneOf put_numbers
          (pick u (record { answer = Some (at + length bs); number = 0; out = take at out ++ (bs ++ drop (at + length bs) out) }) (unchanged out)).number
      go true = hit put_numbers 0 tt
      go false = hit put_numbers 46 tt

  pub write-octets-numbers : (n v : ℕ) → OneOf put_numbers (put out at (digits 256 n v)).number
  write-octets-numbers n v = put-numbers (digits 256 n v)

  pub write-int-numbers : (z : ℤ) → OneOf put_numbers (put out at (shortest z)).number
  write-int-numbers z = put-numbers (shortest z)

  pub write-octet-numbers : (b : ℕ) → OneOf put_numbers (put out at (b ∷ [])).number
  write-octet-numbers b = put-numbers (b ∷ [])
