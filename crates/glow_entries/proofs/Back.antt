-- What was put into a row is read again: a law for each sort of member, over the cell, and one for a kind of entry.
use Rattle.std.specs.Prelude.{Option, Some, None}
use Prim.Native.Nat.{ℕ, zero, suc, ◌+◌, ◌-◌, ◌*◌, ◌≤◌, ◌<◌}
use mathlib.Core.Path.{◌≡◌, refl, sym, ap, ◌∙◌}
use mathlib.Core.Bool.{Bool, true, false, not}
use mathlib.Core.List.{List, [], ◌∷◌}
use native.Mathlib.Omega.{arith}
use borrow.Author.Tests.{lt-ltb, le-ltb, le-leb, eq-eqb, ne_eqb, eqb-true}
use lib.Dec.{T, eqb}
use lib.IntN.{ℤ, pos, negsuc}
use lib.ListN.{get_or}
use lib.Ieee as Ieee
use lib.Ieee.{binary64}
use lib.Ieee.Bits.{of_bits-to_bits, nan_bits_is, is_false}
use Rattle.base_choices.specs.Choices.{pick}
use Rattle.ber_values.specs.declared.Value.{Value}
use Rattle.ber_values.specs.declared.Value.TheVariants.{Absent, Int, Real, Text, Bool as Truth, Octets}
use Rattle.glow_rows.specs.declared.Cell.{Cell}
use Rattle.glow_rows.specs.Cell.{cell, absent, word_of, cell_of, int_of, value_of, number_in}
use Rattle.glow_rows.specs.Row.{cell_in, same}
use Rattle.glow_rows.specs.Entry.{words, row}
use Rattle.glow_entries.specs.declared.Part.{Part}
use Rattle.glow_entries.specs.declared.Key.{Key}
use Rattle.glow_entries.specs.declared.Key.TheVariants.{Number as ByNumber, Path as ByPath}
use Rattle.glow_entries.specs.Held.{HeldInt, HeldNumber, HeldKey, HeldParent, HeldValue, Present}
use Rattle.glow_entries.specs.Member.{number_cell, int_in, number_of, flag_cell, flag_of, part_cell, part_of, key_kind, key_cell, key_of}
use Rattle.glow_entries.specs.Member.{parent_word, parent_of}
use Rattle.glow_entries.specs.Record.{read_as}
use Rattle.glow_entries.proofs.Cells.{entry}

int-back : (z : ℤ) → HeldInt z → int_of (word_of z) ≡ z
unfolding int_of
int-back (pos n) h = rw (lt-ltb _ _ h)
int-back (negsuc n) h =
    let a : 0x8000000000000000 ≤ 18446744073709551615 - n = omega arith in
    let b : 18446744073709551615 - (18446744073709551615 - n) ≡ n = omega arith in
    rw (le-ltb _ _ a, b)

number-back : (n : Option ℤ) → HeldNumber n → number_of (number_cell n) ≡ n
unfolding number_of
number-back None h = refl
number-back (Some z) h = ap Some (int-back z h)

flag-back : (f : Option Bool) → flag_of (flag_cell f) ≡ f
unfolding flag_of
flag-back None = refl
flag-back (Some true) = refl
flag-back (Some false) = refl

part-back : (tag : ℕ) (p : Option Part) → 0 < tag → part_of tag (part_cell tag p) ≡ p
unfolding part_of
part-back tag None h = rw (ne_eqb 0 tag (λ e. absurd (omega (arith, e))))
part-back tag (Some p) h = rw (eq-eqb tag tag refl)

-- a real that is a number
module _ (x : Ieee.Float) (f : T (Ieee.fits binary64 x)) (n : T (not (Ieee.is_nan x))) where
  real-cell : cell_of (Real x) ≡ cell 9 (Ieee.to_bits binary64 x) 0
  real-cell = rw (is_false (Ieee.is_nan x) n)

  real-back : value_of (cell 9 (Ieee.to_bits binary64 x) 0) ≡ Real x
  unfolding value_of
  real-back =
      let e : Ieee.of_bits binary64 (Ieee.to_bits binary64 x) ≡ x = of_bits-to_bits binary64 x f in
      let b : Ieee.nan_bits binary64 (Ieee.to_bits binary64 x) ≡ false =
      nan_bits_is binary64 (Ieee.to_bits binary64 x) ∙ ap Ieee.is_nan e ∙ is_false (Ieee.is_nan x) n in
      rw (b, e)

value-back : (v : Value) → HeldValue v → value_of (cell_of v) ≡ v
unfolding value_of
value-back Absent h = refl
value-back (Int z) h = ap Int (int-back z h)
value-back (Real x) h = ap value_of (real-cell x h.0 h.1) ∙ real-back x h.0 h.1
value-back (Text start len) h = refl
value-back (Truth true) h = refl
value-back (Truth false) h = refl
value-back (Octets start len) h = refl

-- a value that is there has a tag number
pub stream-there : (v : Value) → HeldValue v → Present v → eqb (cell_of v).kind 0 ≡ false
stream-there Absent h p = absurd p
stream-there (Int z) h p = refl
stream-there (Real x) h p = ap (λ (w : Cell). eqb w.kind 0) (real-cell x h.0 h.1)
stream-there (Text start len) h p = refl
stream-there (Truth b) h p = refl
stream-there (Octets start len) h p = refl

-- the words of cell c
words-at : (cs : List Cell) (c : ℕ)
    → cell (get_or (words cs) (c * 3) 0) (get_or (words cs) (suc (c * 3)) 0) (get_or (words cs) (suc (suc (c * 3))) 0) ≡ get_or cs c absent
unfolding words
words-at [] c = refl
words-at (v ∷ cs) zero = refl
words-at (v ∷ cs) (suc c) = let n : suc c * 3 ≡ suc (suc (suc (c * 3))) = omega arith in rw n (words-at cs c)

module _ (k p : ℕ) (cs : List Cell) where
  pub cell-back : (c : ℕ) → c < 16 → cell_in (row (entry k p cs)) c ≡ get_or cs c absent
  unfolding cell_in
  cell-back c h =
      let a : 2 + c * 3 ≡ suc (suc (c * 3)) = omega arith in
      let b : 3 + c * 3 ≡ suc (suc (suc (c * 3))) = omega arith in
      let d : 4 + c * 3 ≡ suc (suc (suc (suc (c * 3)))) = omega arith in
      rw (lt-ltb _ _ h, a, b, d) (words-at cs c)

  module _ (c : ℕ) where
    pub int_at : (z : ℤ) → c < 16 → get_or cs c absent ≡ cell 2 (word_of z) 0 → HeldInt z → int_in (cell_in (row (entry k p cs)) c) ≡ z
    unfolding int_in number_in
    int_at z h e i = ap int_in (cell-back c h ∙ e) ∙ int-back z i

    pub number_at : (n : Option ℤ) → c < 16 → get_or cs c absent ≡ number_cell n → HeldNumber n → number_of (cell_in (row (entry k p cs)) c) ≡ n
    number_at n h e i = ap number_of (cell-back c h ∙ e) ∙ number-back n i

    pub flag_at : (f : Option Bool) → c < 16 → get_or cs c absent ≡ flag_cell f → flag_of (cell_in (row (entry k p cs)) c) ≡ f
    flag_at f h e = ap flag_of (cell-back c h ∙ e) ∙ flag-back f

    pub value-at : (v : Value) → c < 16 → get_or cs c absent ≡ cell_of v → HeldValue v → value_of (cell_in (row (entry k p cs)) c) ≡ v
    value-at v h e i = ap value_of (cell-back c h ∙ e) ∙ value-back v i

  pub part_at : (tag c : ℕ) (x : Option Part) → 0 < tag → c < 16 → get_or cs c absent ≡ part_cell tag x → part_of tag (cell_in (row (entry k p cs)) c) ≡ x
  part_at tag c x t h e = ap (part_of tag) (cell-back c h ∙ e) ∙ part-back tag x t

pub key-at : (plain qualified p : ℕ) (cs : List Cell) (k : Key) → (plain ≡ qualified → ⊥) → get_or cs 0 absent ≡ key_cell k → HeldKey k
    → key_of qualified (row (entry (key_kind k plain qualified) p cs)) ≡ k
unfolding key_of
key-at plain qualified p cs (ByNumber z) n e h =
    rw (ne_eqb _ _ n) (ap ByNumber (int_at plain p cs 0 z (omega arith) e h))
key-at plain qualified p cs (ByPath start len) n e h =
    rw (eq-eqb qualified qualified refl)
    (ap (λ (v : Cell). ByPath v.first v.second) (cell-back qualified p cs 0 (omega arith) ∙ e))

pub parent-at : (k : ℕ) (cs : List Cell) (p : Option ℕ) → HeldParent p → parent_of (row (entry k (parent_word p) cs)) ≡ p
unfolding parent_of
parent-at k cs None h = refl
parent-at k cs (Some i) h =
    let a : i + 1 ≡ 0 → ⊥ = λ e. absurd (omega (arith, e)) in
    let b : i + 1 ≤ 0x100000000 = omega arith in
    let d : i + 1 - 1 ≡ i = omega arith in
    rw (ne_eqb _ _ a, le-leb _ _ b, d)

same_refl : (l : List ℕ) → same l l ≡ true
unfolding same
same_refl [] = refl
same_refl (x ∷ xs) = rw (eq-eqb x x refl) (same_refl xs)

same-is : (a b : List ℕ) → same a b ≡ true → a ≡ b
unfolding same
same-is [] [] e = refl
same-is [] (y ∷ ys) e = let z : ◌≡◌ {A = ℕ} 0 1 = cc in absurd (omega arith)
same-is (x ∷ xs) [] e = let z : ◌≡◌ {A = ℕ} 0 1 = cc in absurd (omega arith)
same-is (x ∷ xs) (y ∷ ys) e = go (same-is xs ys) (eqb x y) refl e
  where
    go : (same xs ys ≡ true → xs ≡ ys) → (b : Bool) → eqb x y ≡ b → pick b (same xs ys) false ≡ true → x ∷ xs ≡ y ∷ ys
    go f true q s = ap (λ (n : ℕ). n ∷ xs) (eqb-true x y q) ∙ ap (λ (l : List ℕ). y ∷ l) (f s)
    go f false q s = let z : ◌≡◌ {A = ℕ} 0 1 = cc in absurd (omega arith)

-- a kind of entry
module _ {E R : Type 0} (of : List ℕ → E) (made : E → List ℕ) (is : E → R) (other : R) where
  pub told_back : (e : E) → of (made e) ≡ e → read_as of made is other (made e) ≡ is e
  unfolding read_as
  told_back e h = rw (h, same_refl (made e))

some : {E : Type 0} {x e : E} → Some x ≡ Some e → x ≡ e
some q = cc

no : {E : Type 0} {e : E} → None ≡ Some e → ⊥
no q = cc

module _ {E : Type 0} (of : List ℕ → E) (made : E → List ℕ) (r : List ℕ) (e : E) where
  pub told-made : read_as of made Some None r ≡ Some e → r ≡ made e
  unfolding read_as
  told-made q = go (same r (made (of r))) refl q
    where
      go : (b : Bool) → same r (made (of r)) ≡ b → pick b (Some (of r)) None ≡ Some e → r ≡ made e
      go true s q = same-is r (made (of r)) s ∙ ap made (some q)
      go false s q = absurd (no q)

pub none-back : {E : Type 0} (read : List ℕ → Option E) (made : E → List ℕ) (r : List ℕ) (e : E)
    → read (made e) ≡ Some e → read r ≡ None → r ≡ made e → ⊥
none-back read made r e b q s = no (sym q ∙ ap read s ∙ b)

-- a test before it
pub stream-told : {E : Type 0} (t : Bool) (x : Option E) (e : E) → pick t None x ≡ Some e → x ≡ Some e
stream-told true x e q = absurd (no q)
stream-told false x e q = q
