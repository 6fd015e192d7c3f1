-- Booleans, integers and reals by their words: sizes and ranges.
use Prim.Native.Nat.{ℕ, ◌-◌, ◌≤◌, ◌<◌, ◌^◌}
use mathlib.Core.Path.{◌≡◌, refl, sym, ap, subst, ◌∙◌}
use mathlib.Core.Bool.{Bool, true, false, not}
use mathlib.Core.List.{List, [], ◌∷◌}
use mathlib.Core.Logic.{⊎_elim}
use native.Mathlib.Omega.{arith}
use borrow.Author.Tests.{eq-eqb, ne_eqb, lt-ltb, le-ltb}
use lib.Dec.{T, leb, eqb}
use lib.ListN.{length}
use lib.IntN.{pos, negsuc, ◌-ℤ◌}
use mir.Syntax.{w64}
use mir.Val.{SFits, to_z, of_z}
use mir.Facts.{to_z_pos}
use Rattle.ber_integers.proofs.Signs.{minus_is}
use lib.Ieee as Ieee
use lib.Ieee.{Float, nan, inf, fin, binary64}
use lib.Ieee.Bits.{of_bits-fits, nan_bits_is}
use Rattle.base_choices.specs.Choices.{pick}
use Rattle.ber_integers.specs.Integer.{shortest}
use Rattle.ber_integers.proofs.Radix.{lt-or-le}
use Rattle.ber_reals.specs.Write.{Form, unwritten, octets, form}
use Rattle.ber_real_sizes.specs.Sizes.{is_form, is_written, written_size, least_size, least_octets}
use Rattle.ber_real_sizes.specs.Sizes as sizes
use Rattle.ber_real_sizes.proofs.Spelled.{least-read}
use Rattle.glow_rows.specs.Cell.{word_of}
use Rattle.glow_grammar.specs.Leaf.{in_range, word_in}
use Rattle.glow_grammar.proofs.Laws.{word-range}
use Rattle.glow_trees.specs.Written as forest
use Rattle.glow_trees.specs.Content.{int_of}
use Rattle.glow_trees.specs.Legal.{is_real, is_formed, word_suits}
use Rattle.glow_trees.specs.Written.{spelled, written_real}
use Rattle.glow_member_sizes.specs.Spelling.{spelling, least_real}
use Rattle.glow_member_sizes.specs.Sizes.{WordSized}

module _ (w : ℕ) where
  pub int-low : w < 0x8000000000000000 → int_of w ≡ pos w
  unfolding int_of
  int-low h = simp (lt-ltb _ _ h)

  pub int-high : 0x8000000000000000 ≤ w → int_of w ≡ negsuc (18446744073709551615 - w)
  unfolding int_of
  int-high h = simp (le-ltb _ _ h)

  module _ (fits : w < 18446744073709551616) where
    pub word_back : word_of (int_of w) ≡ w
    word_back =
        ⊎_elim
        (λ (h : w < 0x8000000000000000). ap word_of (int-low h))
        (λ (h : 0x8000000000000000 ≤ w). ap word_of (int-high h) ∙ omega arith)
        (lt-or-le w 0x8000000000000000)

    pub int-fits : SFits w64 (int_of w)
    int-fits =
        ⊎_elim
        (λ (h : w < 0x8000000000000000). subst (SFits w64) (sym (int-low h)) (record { sfits = h }))
        (λ (h : 0x8000000000000000 ≤ w).
        let k : 18446744073709551615 - w < 2 ^ 63 = omega arith in subst (SFits w64) (sym (int-high h)) (record { sfits = k }))
        (lt-or-le w 0x8000000000000000)

    pub range-word : (what : ℕ) → word_in what w ≡ in_range what (int_of w)
    range-word what = ap (word_in what) (sym word_back) ∙ word-range what (int_of w) int-fits

  -- ---- reals
  formed : (f : Form) → is_formed f ≡ true → (bs : List ℕ) × (f ≡ octets bs)
  formed unwritten h = let z : ◌≡◌ {A = Bool} false true = h in absurd (subst (λ (b : Bool). T (not b)) h tt)
  formed (octets bs) h = (bs, refl)

  is_real_lem : is_real w ≡ true → is_formed (form (Ieee.of_bits binary64 w)) ≡ true
  unfolding is_real
  is_real_lem h = go (Ieee.nan_bits binary64 w) h
    where
      go : (b : Bool) → pick b false (is_formed (form (Ieee.of_bits binary64 w))) ≡ true → is_formed (form (Ieee.of_bits binary64 w)) ≡ true
      go true e = absurd (subst (λ (b : Bool). T (not b)) e tt)
      go false e = e

  same-form : (f : Form) → length (forest.form_octets f) ≡ length (sizes.form_octets f)
  same-form unwritten = refl
  same-form (octets bs) = refl

  pub least-sized : is_real w ≡ true → length (least_real w) ≡ least_size (Ieee.of_bits binary64 w)
  unfolding least_real
  least-sized h = let f = formed (form (Ieee.of_bits binary64 w)) (is_real_lem h) in (least-read (Ieee.of_bits binary64 w) f.0 (of_bits-fits binary64 w) f.1).1.0

  pub written-sized : length (written_real w) ≡ written_size (Ieee.of_bits binary64 w)
  unfolding written_real written_size
  written-sized = same-form (form (Ieee.of_bits binary64 w))

  same_test : (f : Form) → is_form f ≡ is_formed f
  same_test unwritten = refl
  same_test (octets bs) = refl

  by-nan : (x : Float) (b : Bool) → b ≡ Ieee.is_nan x → is_form (form x) ≡ pick b false (is_formed (form x))
  unfolding form Ieee.is_nan
  by-nan nan b e = rw e refl
  by-nan (inf s) b e = rw e (same_test (form (inf s)))
  by-nan (fin s m p) b e = rw e (same_test (form (fin s m p)))

  pub real-suits : is_real w ≡ is_written (Ieee.of_bits binary64 w)
  unfolding is_real is_written
  real-suits = sym (by-nan (Ieee.of_bits binary64 w) (Ieee.nan_bits binary64 w) (nan_bits_is binary64 w))

  -- ---- by kind
  module _ (kind : ℕ) where
    module _ (what : ℕ) where
      pub suits-flag : kind ≡ 1 → word_suits what kind w ≡ leb w 1
      unfolding word_suits
      suits-flag h = simp (eq-eqb _ _ h)

      pub suits-any : kind ≡ 2 → what ≡ 4 → word_suits what kind w ≡ true
      unfolding word_suits
      suits-any h k = simp (ap (λ (i : ℕ). eqb i 1) h, eq-eqb _ _ h, eq-eqb _ _ k)

      pub suits-range : w < 18446744073709551616 → kind ≡ 2 → (what ≡ 4 → ⊥) → word_suits what kind w ≡ word_in what w
      unfolding word_suits
      suits-range f h k = simp (ap (λ (i : ℕ). eqb i 1) h, eq-eqb _ _ h, ne_eqb _ _ k) (sym (range-word f what))

      pub suits-real : (kind ≡ 1 → ⊥) → (kind ≡ 2 → ⊥) → word_suits what kind w ≡ is_written (Ieee.of_bits binary64 w)
      unfolding word_suits
      suits-real h k = simp (ne_eqb _ _ h, ne_eqb _ _ k) real-suits

    module _ (least : Bool) where
      pub flag-sized : kind ≡ 1 → WordSized (spelling least) kind w 1
      unfolding spelled
      flag-sized h i = simp (eq-eqb _ _ h) (go (eqb w 0))
        where
          go : (b : Bool) → length (pick {X = List ℕ} b (0 ∷ []) (255 ∷ [])) ≡ 1
          go true = refl
          go false = refl

      pub whole-sized : (n : ℕ) → kind ≡ 2 → length (shortest (int_of w)) ≡ n → WordSized (spelling least) kind w n
      unfolding spelled
      whole-sized n h e i = simp (ap (λ (i : ℕ). eqb i 1) h, eq-eqb _ _ h) e

      pub real-sized : (n : ℕ) → (kind ≡ 1 → ⊥) → (kind ≡ 2 → ⊥) → (is_real w ≡ true → length (spelling least w) ≡ n) → WordSized (spelling least) kind w n
      unfolding spelled
      real-sized n h k e i = simp (ne_eqb _ _ h, ne_eqb _ _ k) (e (sym (simp (ne_eqb _ _ h, ne_eqb _ _ k) refl) ∙ i))

-- ---- the code's answers
pub int-is-low : (w : ℕ) → w < 0x8000000000000000 → int_of w ≡ to_z w64 w
int-is-low w h = int-low w h ∙ sym (to_z_pos w64 h)

pub int-is-high : (w : ℕ) → 0x8000000000000000 ≤ w → int_of w ≡ to_z w64 (of_z w64 (negsuc 0 -ℤ to_z w64 (18446744073709551615 - w)))
int-is-high w h = let k : 18446744073709551615 - w < 2 ^ 63 = omega arith in int-high w h ∙ sym (minus_is _ k)

pub least_by : (w : ℕ) (least : Bool) (n r : ℕ) → least ≡ true → n ≡ least_size (Ieee.of_bits binary64 w) → r ≡ n
    → is_real w ≡ true → length (spelling least w) ≡ r
least_by w least n r e i j h = ap (λ (b : Bool). length (spelling b w)) e ∙ least-sized w h ∙ sym i ∙ sym j

pub written-by : (w : ℕ) (least : Bool) (n r : ℕ) → least ≡ false → n ≡ written_size (Ieee.of_bits binary64 w) → r ≡ n
    → is_real w ≡ true → length (spelling least w) ≡ r
written-by w least n r e i j h = ap (λ (b : Bool). length (spelling b w)) e ∙ written-sized w ∙ sym i ∙ sym j
