-- One law for each answer of the definitions, at plain variables.
use Rattle.std.specs.Prelude.{Result, Ok, Err}
use Prim.Native.Nat.{ℕ, zero, suc, ◌+◌, ◌-◌, ◌*◌, ◌%◌, ◌≤◌, ◌<◌}
use mathlib.Core.Path.{◌≡◌, refl, ap}
use mathlib.Core.List.{List, [], ◌∷◌}
use mathlib.Core.Bool.{Bool, true, false}
use native.Mathlib.Omega.{arith}
use borrow.Author.Tests.{leb-true, le-leb, lt-leb, lt-ltb, le-ltb, eq-eqb, ne_eqb}
use lib.ListN.{length, take, drop, get_or}
use lib.Dec.{leb}
use Rattle.base_choices.specs.Choices.{pick}
use Rattle.ber_integers.specs.Digits.{natural}
use Rattle.ber_tags.specs.Write.{marked}
use Rattle.ber_tags.specs.declared.Length.TheVariants.{Definite, Indefinite}
use Rattle.ber_tags.specs.declared.Head.{Head}
use Rattle.ber_tags.specs.declared.Head.TheVariants.{Tag, Refused}
use Rattle.ber_tags.specs.Tag.{stop, cut, long_number, tag_number, sized, length_at, after_number, head_at, head_says, head_or}

module _ (s : List ℕ) (bound : ℕ) where
  pub stop-bound : bound ≤ length s → bound ≡ stop s bound
  unfolding stop
  stop-bound h = simp (le-leb _ _ h)

  pub stop-length : length s < bound → length s ≡ stop s bound
  unfolding stop
  stop-length h = simp (lt-leb _ _ h)

  pub stop-within : stop s bound ≤ length s
  unfolding stop
  stop-within = go (leb bound (length s)) refl
    where
      go : (b : Bool) → leb bound (length s) ≡ b → pick b bound (length s) ≤ length s
      go true e = leb-true bound (length s) e
      go false e = omega arith

module _ (s : List ℕ) (at bound : ℕ) where
  pub cut_at : bound ≤ length s → at ≡ cut s at bound
  unfolding cut
  cut_at h = simp (le-leb _ _ h)

  pub cut-end : length s < bound → length s ≡ cut s at bound
  unfolding cut
  cut-end h = simp (lt-leb _ _ h)

module _ (s : List ℕ) (at bound acc p : ℕ) where
  pub long-over : (k : ℕ) → k ≡ 0 → Err at ≡ long_number s at bound k acc p
  unfolding long_number
  long-over zero e = refl
  long-over (suc k) e = absurd (omega arith)

  pub long-cut : (k : ℕ) → 0 < k → stop s bound ≤ p → Err (cut s at bound) ≡ long_number s at bound k acc p
  unfolding long_number
  long-cut zero h e = absurd (omega arith)
  long-cut (suc k) h e = simp (le-leb _ _ e)

  pub long-last : (k : ℕ) → 0 < k → p < stop s bound → get_or s p 0 < 128 → Ok (acc * 128 + get_or s p 0, p + 1) ≡ long_number s at bound k acc p
  unfolding long_number
  long-last zero h e l = absurd (omega arith)
  long-last (suc k) h e l = simp (lt-leb _ _ e, lt-ltb _ _ l)

  pub long-more : (k : ℕ) → 0 < k → p < stop s bound → 128 ≤ get_or s p 0
      → long_number s at bound (k - 1) (acc * 128 + get_or s p 0 % 128) (p + 1) ≡ long_number s at bound k acc p
  unfolding long_number
  long-more zero h e l = absurd (omega arith)
  long-more (suc k) h e l = let d : suc k - 1 ≡ k = omega arith in rw d (simp (lt-leb _ _ e, le-ltb _ _ l))

module _ (s : List ℕ) (at bound : ℕ) where
  pub number_cut : stop s bound ≤ at → Err (cut s at bound) ≡ tag_number s at bound
  unfolding tag_number
  number_cut h = simp (le-leb _ _ h)

  pub number_short : at < stop s bound → get_or s at 0 % 32 < 31 → Ok (get_or s at 0 % 32, at + 1) ≡ tag_number s at bound
  unfolding tag_number
  number_short h k = simp (lt-leb _ _ h, lt-ltb _ _ k)

  pub number-cut-long : at < stop s bound → 31 ≤ get_or s at 0 % 32 → stop s bound ≤ at + 1 → Err (cut s at bound) ≡ tag_number s at bound
  unfolding tag_number
  number-cut-long h k l = simp (lt-leb _ _ h, le-ltb _ _ k, le-leb _ _ l)

  pub number-80 : at < stop s bound → 31 ≤ get_or s at 0 % 32 → at + 1 < stop s bound → get_or s (at + 1) 0 ≡ 128 → Err at ≡ tag_number s at bound
  unfolding tag_number
  number-80 h k l e = simp (lt-leb _ _ h, le-ltb _ _ k, lt-leb _ _ l, eq-eqb _ _ e)

  pub number-long : at < stop s bound → 31 ≤ get_or s at 0 % 32 → at + 1 < stop s bound → (get_or s (at + 1) 0 ≡ 128 → ⊥)
      → long_number s at bound 4 0 (at + 1) ≡ tag_number s at bound
  unfolding tag_number
  number-long h k l e = simp (lt-leb _ _ h, le-ltb _ _ k, lt-leb _ _ l, ne_eqb _ _ e)

module _ (at bound len next : ℕ) where
  pub sized_past : bound < next + len → Err at ≡ sized at bound len next
  unfolding sized
  sized_past h = simp (lt-ltb _ _ h)

  pub sized-is : next + len ≤ bound → Ok (Definite len, next) ≡ sized at bound len next
  unfolding sized
  sized-is h = simp (le-ltb _ _ h)

module _ (s : List ℕ) (at bound : ℕ) (c : Bool) (p : ℕ) where
  pub length_cut : stop s bound ≤ p → Err (cut s at bound) ≡ length_at s at bound c p
  unfolding length_at
  length_cut h = simp (le-leb _ _ h)

  pub length-short : p < stop s bound → get_or s p 0 < 128 → sized at bound (get_or s p 0) (p + 1) ≡ length_at s at bound c p
  unfolding length_at
  length-short h k = simp (lt-leb _ _ h, lt-ltb _ _ k)

  pub length-80 : p < stop s bound → get_or s p 0 ≡ 128 → c ≡ true → Ok (Indefinite, p + 1) ≡ length_at s at bound c p
  unfolding length_at
  length-80 h e t = let l : 128 ≤ get_or s p 0 = omega arith in simp (lt-leb _ _ h, le-ltb _ _ l, eq-eqb _ _ e, t)

  pub length-80-primitive : p < stop s bound → get_or s p 0 ≡ 128 → c ≡ false → Err at ≡ length_at s at bound c p
  unfolding length_at
  length-80-primitive h e t = let l : 128 ≤ get_or s p 0 = omega arith in simp (lt-leb _ _ h, le-ltb _ _ l, eq-eqb _ _ e, t)

  pub length_over : p < stop s bound → 132 < get_or s p 0 → Err at ≡ length_at s at bound c p
  unfolding length_at
  length_over h k =
      let l : 128 ≤ get_or s p 0 = omega arith in
      let n : get_or s p 0 ≡ 128 → ⊥ = λ e. omega arith in
      simp (lt-leb _ _ h, le-ltb _ _ l, ne_eqb _ _ n, lt-ltb _ _ k)

  module _ (h : p < stop s bound) (lo : 128 < get_or s p 0) (hi : get_or s p 0 ≤ 132) where
    pub length-cut-long : stop s bound < p + 1 + (get_or s p 0 - 128) → Err (cut s at bound) ≡ length_at s at bound c p
    unfolding length_at
    length-cut-long k =
        let l : 128 ≤ get_or s p 0 = omega arith in
        let n : get_or s p 0 ≡ 128 → ⊥ = λ e. omega arith in
        simp (lt-leb _ _ h, le-ltb _ _ l, ne_eqb _ _ n, le-ltb _ _ hi, lt-ltb _ _ k)

    pub length-long : p + 1 + (get_or s p 0 - 128) ≤ stop s bound
        → sized at bound (natural (take (get_or s p 0 - 128) (drop (p + 1) s))) (p + 1 + (get_or s p 0 - 128)) ≡ length_at s at bound c p
    unfolding length_at
    length-long k =
        let l : 128 ≤ get_or s p 0 = omega arith in
        let n : get_or s p 0 ≡ 128 → ⊥ = λ e. omega arith in
        simp (lt-leb _ _ h, le-ltb _ _ l, ne_eqb _ _ n, le-ltb _ _ hi, le-ltb _ _ k)

module _ (s : List ℕ) (at bound : ℕ) where
  pub head-by : {r : Result (ℕ × ℕ) ℕ} → tag_number s at bound ≡ r → after_number s at bound r ≡ head_at s at bound
  unfolding head_at
  head-by e = rw e

-- marked digits are as many
pub length_marked : (xs : List ℕ) → length (marked xs) ≡ length xs
length_marked [] = refl
length_marked (x ∷ xs) = ap suc (length_marked xs)

-- each case of the answer says what document 01's row says
pub head-row : (x : Head) → head_says x ≡ head_or 30 x
head-row (Tag class constructed number l next) = refl
head-row (Refused place) = refl
