-- What a word or a cell stands for: one law for each answer of the code.
use Prim.Native.Nat.{ℕ, suc, ◌+◌, ◌-◌, ◌≤◌, ◌<◌, ◌^◌, ◌%◌}
use mathlib.Core.Path.{◌≡◌, refl, sym, ap, subst, ◌∙◌}
use mathlib.Core.Bool.{Bool, true, false, not}
use mathlib.Core.List.{List, []}
use native.Mathlib.Omega.{arith}
use borrow.Author.Tests.{lt-ltb, le-ltb, le-leb, lt-leb, eq-eqb, ne_eqb}
use lib.Dec.{T}
use lib.IntN.{pos, negsuc}
use lib.ListN.{length, take, drop}
use lib.Ieee as Ieee
use lib.Ieee.{binary64}
use lib.Ieee.Bits.{nan_bits_above}
use mir.Syntax.{w64}
use mir.Val.{to_z, sel}
use Rattle.base_choices.specs.Choices.{pick}
use Rattle.ber_values.specs.declared.Value.TheVariants.{Absent, Int, Real, Text, Bool as Truth, Octets}
use Rattle.glow_rows.specs.declared.Cell.{Cell}
use Rattle.glow_rows.specs.declared.Span.{Span}
use Rattle.glow_rows.specs.Cell.{word_of, int_of, value_of, number_in, octets_in}

module _ (a : ℕ) where
  pub int-is : to_z w64 a ≡ int_of a
  unfolding int_of
  int-is = go (lib.Dec.ltb a 0x8000000000000000) refl
    where
      go : (b : Bool) → lib.Dec.ltb a 0x8000000000000000 ≡ b → sel b (pos a) (negsuc (18446744073709551616 - suc a)) ≡ pick b (pos a) (negsuc (18446744073709551615 - a))
      go true e = refl
      go false e = let d : 18446744073709551616 - suc a ≡ 18446744073709551615 - a = omega arith in ap negsuc d

  pub no_nan : a % 0x8000000000000000 ≤ 0x7ff0000000000000 → T (not (Ieee.nan_bits binary64 a))
  no_nan h = subst (λ (x : Bool). T (not x)) (sym (nan_bits_above binary64 a ∙ le-ltb _ _ h)) tt

  -- the word of the integer that a word stands for
  pub word-int : a < 2 ^ 64 → word_of (int_of a) ≡ a
  unfolding int_of
  word-int h = go (lib.Dec.ltb a 0x8000000000000000) refl
    where
      go : (b : Bool) → lib.Dec.ltb a 0x8000000000000000 ≡ b → word_of (pick b (pos a) (negsuc (18446744073709551615 - a))) ≡ a
      go true e = refl
      go false e = omega arith

module _ (v : Cell) where
  pub value-int : v.kind ≡ 2 → Int (int_of v.first) ≡ value_of v
  unfolding value_of
  value-int k = rw (eq-eqb _ _ k)

  pub value-nan : v.kind ≡ 9 → 0x7ff0000000000000 < v.first % 0x8000000000000000 → Absent ≡ value_of v
  unfolding value_of
  value-nan k h = rw (k, nan_bits_above binary64 v.first ∙ lt-ltb _ _ h)

  pub value-real : v.kind ≡ 9 → v.first % 0x8000000000000000 ≤ 0x7ff0000000000000 → Real (Ieee.of_bits binary64 v.first) ≡ value_of v
  unfolding value_of
  value-real k h = rw (k, nan_bits_above binary64 v.first ∙ le-ltb _ _ h)

  pub value-text : v.kind ≡ 12 → Text v.first v.second ≡ value_of v
  unfolding value_of
  value-text k = rw k

  pub value-bool : v.kind ≡ 1 → Truth (lib.Dec.eqb v.first 1) ≡ value_of v
  unfolding value_of
  value-bool k = rw k

  pub value-octets : v.kind ≡ 4 → Octets v.first v.second ≡ value_of v
  unfolding value_of
  value-octets k = rw k

  pub value_none : (v.kind ≡ 2 → ⊥) → (v.kind ≡ 9 → ⊥) → (v.kind ≡ 12 → ⊥) → (v.kind ≡ 1 → ⊥) → (v.kind ≡ 4 → ⊥) → Absent ≡ value_of v
  unfolding value_of
  value_none h2 h9 h12 h1 h4 = rw (ne_eqb _ _ h2, ne_eqb _ _ h9, ne_eqb _ _ h12, ne_eqb _ _ h1, ne_eqb _ _ h4)

  -- numbers and parts
  pub number-other : (v.kind ≡ 2 → ⊥) → number_in v ≡ 0
  unfolding number_in
  number-other h = rw (ne_eqb _ _ h)

  pub number-long : v.kind ≡ 2 → (v.second ≡ 0 → ⊥) → number_in v ≡ 0
  unfolding number_in
  number-long h k = rw (h, ne_eqb _ _ k)

  pub number_is : v.kind ≡ 2 → v.second ≡ 0 → number_in v ≡ v.first
  unfolding number_in
  number_is h k = rw (h, eq-eqb _ _ k)

  module _ (s : List ℕ) where
    pub octets-other : (v.kind ≡ 13 → ⊥) → octets_in s v ≡ []
    unfolding octets_in
    octets-other h = rw (ne_eqb _ _ h)

    pub octets-out : v.kind ≡ 13 → length s < v.first + v.second → octets_in s v ≡ []
    unfolding octets_in
    octets-out h k = rw (h, lt-leb _ _ k)

    pub octets-is : v.kind ≡ 13 → v.first + v.second ≤ length s → octets_in s v ≡ take v.second (drop v.first s)
    unfolding octets_in
    octets-is h k = rw (h, le-leb _ _ k)

-- a part of the message that holds them
pub span-is : (s : List ℕ) (v : Cell) (start end : ℕ) → v.kind ≡ 13 → v.first + v.second ≤ length s → start ≡ v.first → end ≡ v.first + v.second
    → take (end - start) (drop start s) ≡ octets_in s v
span-is s v start end h k a b =
    let d : end - start ≡ v.second = omega arith in
    ap (λ (i : ℕ). take i (drop start s)) d ∙ ap (λ (i : ℕ). take v.second (drop i s)) a ∙ sym (octets-is v s h k)

pub span-absent : (s bs : List ℕ) (r : Span) → (r.start ≡ 0) × (r.end ≡ 0) → bs ≡ [] → take (r.end - r.start) (drop r.start s) ≡ bs
span-absent s bs r e h = rw (e.0, e.1) (sym h)
