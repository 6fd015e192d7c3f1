-- One law for each answer of the definitions, at plain variables.
use Rattle.std.specs.Prelude.{Option, Some, None}
use Prim.Native.Nat.{ℕ, zero, suc, ◌+◌, ◌-◌, ◌*◌, ◌/◌, ◌≤◌, ◌<◌}
use mathlib.Core.Path.{◌≡◌, refl, sym, ap, ◌∙◌}
use mathlib.Core.List.{List, [], ◌∷◌, ◌++◌}
use Rattle.std.specs.Int.{from_bool}
use Rattle.std.specs.Option.{unwrap_or}
use mathlib.Core.Bool.{Bool, true, false, not}
use mathlib.Core.Logic.{⊎_elim}
use native.Mathlib.Nat.{div-lt_iff_lt-mul}
use native.Mathlib.Omega.{arith}
use borrow.Author.Tests.{leb-true, ltb-true, ltb-false, eqb-true, eqb-false, le-leb, lt-leb, eq-eqb, ne_eqb}
use Rattle.std.proofs.Math.ListN.{replicate}
use lib.ListN.{length, take, drop, get_or, drop_of_length-le, length-drop}
use lib.Seq.{drop-cons, length-take-le}
use lib.Dec.{leb, ltb, eqb}
use Rattle.base_choices.specs.Choices.{pick, both}
use Rattle.base_choices.proofs.Laws.{both_left, both_right}
use Rattle.ber_integers.proofs.Radix.{lt-or-le}
use Rattle.desk_crosspoints.specs.declared.Figures.{Figures}
use Rattle.desk_crosspoints.specs.Figures.{side, is_count, is_limit, figures_fit, cells_of, size_of, limit_or, most_each, most_total}
use Rattle.desk_crosspoints.specs.Crosspoints.{Cells, bit, count, all_bits, clear, row_at, holders, rows_fit, sources_fit}
use Rattle.desk_crosspoints.specs.Crosspoints.{kind_fits, cells_fit, legal}
use Rattle.desk_crosspoints.specs.Desk.{Desk, path_fits, answer, desk_opened}

-- figures
module _ (n : ℕ) where
  pub is-count-under : n < 1 → is_count n ≡ false
  unfolding is_count
  is-count-under h = simp (lt-leb _ _ h)

  pub is-count-rest : 1 ≤ n → is_count n ≡ leb n side
  unfolding is_count
  is-count-rest h = simp (le-leb _ _ h)

pub is-limit-under : (l : Option ℕ) (n : ℕ) → l ≡ Some n → n < 1 → is_limit l ≡ false
is-limit-under l n e h = rw e (simp (lt-leb 1 n h))

pub is-limit-rest : (l : Option ℕ) (n : ℕ) → l ≡ Some n → 1 ≤ n → is_limit l ≡ leb n 2147483647
is-limit-rest l n e h = rw e (simp (le-leb 1 n h))

module _ (f : Figures) where
  pub fit-kind : 2 < f.kind → figures_fit f ≡ false
  unfolding figures_fit
  fit-kind h = simp (lt-leb _ _ h)

  pub fit-targets : f.kind ≤ 2 → is_count f.targets ≡ false → figures_fit f ≡ false
  unfolding figures_fit
  fit-targets h t = simp (le-leb _ _ h, t)

  pub fit-sources : f.kind ≤ 2 → is_count f.targets ≡ true → is_count f.sources ≡ false → figures_fit f ≡ false
  unfolding figures_fit
  fit-sources h t s = simp (le-leb _ _ h, t, s)

  pub fit-rest : f.kind ≤ 2 → is_count f.targets ≡ true → is_count f.sources ≡ true
      → figures_fit f ≡ both (is_limit f.total) (is_limit f.each)
  unfolding figures_fit
  fit-rest h t s = simp (le-leb _ _ h, t, s)

pub both-no : (a b : Bool) → a ≡ false → both a b ≡ false
both-no a b h = rw h

pub both_yes : (a b : Bool) → a ≡ true → both a b ≡ b
both_yes a b h = rw h

module _ (f : Figures) where
  pub each-many : f.kind ≡ 2 → most_each f ≡ limit_or f.each f.sources
  unfolding most_each
  each-many h = simp (eq-eqb _ _ h)

  pub each-one : (f.kind ≡ 2 → ⊥) → most_each f ≡ 1
  unfolding most_each
  each-one h = simp (ne_eqb _ _ h)

pub bit-set : (c : ℕ) → (c ≡ 0 → ⊥) → bit c ≡ 1
unfolding bit
bit-set c h = simp (ne_eqb _ _ h)

-- a test as a byte
pub bit-byte : (c : ℕ) → bit c ≡ from_bool (not (eqb c 0))
unfolding bit
bit-byte c = go (eqb c 0)
  where
    go : (b : Bool) → pick b 0 1 ≡ from_bool (not b)
    go true = refl
    go false = refl

pub limit-unwraps : (l : Option ℕ) (n : ℕ) → limit_or l n ≡ unwrap_or l n
limit-unwraps None n = refl
limit-unwraps (Some m) n = refl

pub bit-clear : (c : ℕ) → c ≡ 0 → bit c ≡ 0
unfolding bit
bit-clear c h = simp (eq-eqb _ _ h)

pub bit_le : (c : ℕ) → bit c ≤ 1
unfolding bit
bit_le c = go (eqb c 0)
  where
    go : (b : Bool) → pick b 0 1 ≤ 1
    go true = omega arith
    go false = omega arith

-- loops over a list
module _ (l : List ℕ) (i : ℕ) where
  pub part_none : length l ≤ i → drop i l ≡ []
  part_none h = drop_of_length-le l h

  pub part-one : i < length l → drop i l ≡ get_or l i 0 ∷ drop (i + 1) l
  part-one h = let e : suc i ≡ i + 1 = omega arith in rw (sym e) (drop-cons l i 0 h)

  pub count-end : length l ≤ i → count (drop i l) ≡ 0
  unfolding count
  count-end h = rw (part_none h)

  pub count-more : i < length l → count (drop i l) ≡ bit (get_or l i 0) + count (drop (i + 1) l)
  unfolding count
  count-more h = rw (part-one h)

  pub bits-end : length l ≤ i → all_bits (drop i l) ≡ true
  unfolding all_bits
  bits-end h = rw (part_none h)

pub count-le : (l : List ℕ) → count l ≤ length l
unfolding count
count-le [] = omega arith
count-le (c ∷ cs) = omega (arith, bit_le c, count-le cs)

pub count-none : (l : Cells) → length l ≡ 0 → count l ≡ 0
count-none l h = omega (arith, count-le l, h)

pub count-append : (a b : Cells) → count (a ++ b) ≡ count a + count b
unfolding count
count-append [] b = omega arith
count-append (x ∷ xs) b = omega (arith, count-append xs b)

pub both-none : (a b : Bool) → b ≡ false → both a b ≡ false
both-none true b h = h
both-none false b h = refl

-- the rows' cells, legality
module _ (w most : ℕ) (cells : Cells) where
  pub rows-not : (t n : ℕ) → t ≡ suc n → leb (count (row_at w cells n)) most ≡ false → rows_fit w most cells t ≡ false
  unfolding rows_fit
  rows-not t n k e = rw (k, e)

  pub rows_more : (t n : ℕ) → t ≡ suc n → leb (count (row_at w cells n)) most ≡ true → rows_fit w most cells t ≡ rows_fit w most cells n
  unfolding rows_fit
  rows_more t n k e = rw (k, e)

  pub rows_none : rows_fit w most cells 0 ≡ true
  unfolding rows_fit
  rows_none = refl

  -- one target over the limit, and all that come after it
  pub rows-over : (t n : ℕ) → t < n → leb (count (row_at w cells t)) most ≡ false → rows_fit w most cells n ≡ false
  unfolding rows_fit
  rows-over t zero h e = absurd (omega arith)
  rows-over t (suc n) h e = go (eqb t n) refl (λ (k : t < n). rows-over t n k e)
    where
      go : (u : Bool) → eqb t n ≡ u → (t < n → rows_fit w most cells n ≡ false) → rows_fit w most cells (suc n) ≡ false
      go true z f = rows-not (suc n) n refl (ap (λ (k : ℕ). leb (count (row_at w cells k)) most) (sym (eqb-true t n z)) ∙ e)
      go false z f =
          both-none (leb (count (row_at w cells n)) most) (rows_fit w most cells n)
          (f (⊎_elim (λ (q : t < n). q) (λ (q : n ≤ t). absurd (eqb-false t n z (omega (arith, q, h)))) (lt-or-le t n)))

  -- what the part handed on tells
  pub row-says : (n x k : ℕ) (b : Bool) → x ≡ n * w + w → count (take (x - n * w) (drop (n * w) cells)) ≡ k → leb k most ≡ b
      → leb (count (row_at w cells n)) most ≡ b
  unfolding row_at
  row-says n x k b q c h =
      let d : x - n * w ≡ w = omega (arith, q) in
      ap (λ (y : ℕ). leb (count (take y (drop (n * w) cells))) most) (sym d) ∙ ap (λ (y : ℕ). leb y most) c ∙ h

module _ (f : Figures) (cells : Cells) where
  pub kind-one : f.kind ≡ 1 → kind_fits f cells ≡ sources_fit f.sources f.targets cells f.sources
  unfolding kind_fits
  kind-one h = simp (eq-eqb _ _ h)

  pub kind-sources : (n w : ℕ) (b : Bool) → f.kind ≡ 1 → n ≡ f.targets → w ≡ f.sources → sources_fit w n cells w ≡ b → kind_fits f cells ≡ b
  kind-sources n w b k p q h =
      kind-one k ∙ ap (λ (x : ℕ). sources_fit f.sources x cells f.sources) (sym p) ∙ ap (λ (x : ℕ). sources_fit x n cells x) (sym q) ∙ h

  pub rows_are : (n w most : ℕ) (b : Bool) → n ≡ f.targets → w ≡ f.sources → most_each f ≡ most → rows_fit w most cells n ≡ b
      → rows_fit f.sources (most_each f) cells f.targets ≡ b
  rows_are n w most b p q m h =
      ap (λ (x : ℕ). rows_fit f.sources x cells f.targets) m ∙ ap (λ (x : ℕ). rows_fit f.sources most cells x) (sym p)
      ∙ ap (λ (x : ℕ). rows_fit x most cells n) (sym q) ∙ h

  pub size_is : (n w : ℕ) → n ≡ f.targets → w ≡ f.sources → length cells ≡ cells_of f → length cells ≡ n * w
  size_is n w p q h = h ∙ ap (λ (x : ℕ). x * f.sources) (sym p) ∙ ap (λ (x : ℕ). n * x) (sym q)

  pub kind-many : f.kind ≡ 2 → kind_fits f cells ≡ leb (count cells) (most_total f)
  unfolding kind_fits
  kind-many h = rw h

  pub kind-other : (f.kind ≡ 1 → ⊥) → (f.kind ≡ 2 → ⊥) → kind_fits f cells ≡ true
  unfolding kind_fits
  kind-other a b = simp (ne_eqb _ _ a, ne_eqb _ _ b)

  pub cells_count : (length cells ≡ cells_of f → ⊥) → cells_fit f cells ≡ false
  unfolding cells_fit
  cells_count h = rw (ne_eqb _ _ h)

  pub cells-bits : length cells ≡ cells_of f → all_bits cells ≡ false → cells_fit f cells ≡ false
  unfolding cells_fit
  cells-bits h b = rw (eq-eqb _ _ h, b)

  pub cells-rows : length cells ≡ cells_of f → all_bits cells ≡ true → rows_fit f.sources (most_each f) cells f.targets ≡ false
      → cells_fit f cells ≡ false
  unfolding cells_fit
  cells-rows h b r = rw (eq-eqb _ _ h, b, r)

  pub cells_rest : length cells ≡ cells_of f → all_bits cells ≡ true → rows_fit f.sources (most_each f) cells f.targets ≡ true
      → cells_fit f cells ≡ kind_fits f cells
  unfolding cells_fit
  cells_rest h b r = rw (eq-eqb _ _ h, b, r)

  pub legal-figures : figures_fit f ≡ false → legal f cells ≡ false
  unfolding legal
  legal-figures h = rw h

  pub legal-cells : figures_fit f ≡ true → legal f cells ≡ cells_fit f cells
  unfolding legal
  legal-cells h = rw h

pub row_is : (w : ℕ) (cells : Cells) (t a e : ℕ) → a ≡ t * w → e ≡ t * w + w → take (e - a) (drop a cells) ≡ row_at w cells t
unfolding row_at
row_is w cells t a e p q = let d : e - a ≡ w = omega (arith, p, q) in rw (d, p)

module _ (w : ℕ) (cells : Cells) where
  pub holders-more : (s t n : ℕ) → t ≡ suc n → holders w cells s t ≡ bit (get_or cells (n * w + s) 0) + holders w cells s n
  unfolding holders
  holders-more s t n k = rw k

-- what figures that fit tell

pub count-bound : (n : ℕ) → is_count n ≡ true → n ≤ side
unfolding is_count
count-bound n h = leb-true n side (both_right (leb 1 n) (leb n side) h)

pub count-some : (n : ℕ) → is_count n ≡ true → 1 ≤ n
unfolding is_count
count-some n h = leb-true 1 n (both_left (leb 1 n) (leb n side) h)

module _ (f : Figures) (h : figures_fit f ≡ true) where
  pub fit-kind-le : f.kind ≤ 2
  unfolding figures_fit
  fit-kind-le =
      leb-true f.kind 2
      (both_left (leb f.kind 2) (both (is_count f.targets) (both (is_count f.sources) (both (is_limit f.total) (is_limit f.each)))) h)

  pub fit-counts : both (is_count f.targets) (both (is_count f.sources) (both (is_limit f.total) (is_limit f.each))) ≡ true
  unfolding figures_fit
  fit-counts =
      both_right (leb f.kind 2)
      (both (is_count f.targets) (both (is_count f.sources) (both (is_limit f.total) (is_limit f.each)))) h

  pub fit-targets-le : f.targets ≤ side
  fit-targets-le =
      count-bound f.targets
      (both_left (is_count f.targets) (both (is_count f.sources) (both (is_limit f.total) (is_limit f.each))) fit-counts)

  pub fit-sources-le : f.sources ≤ side
  fit-sources-le =
      count-bound f.sources
      (both_left (is_count f.sources) (both (is_limit f.total) (is_limit f.each))
      (both_right (is_count f.targets) (both (is_count f.sources) (both (is_limit f.total) (is_limit f.each))) fit-counts))

  pub fit-sources-some : 1 ≤ f.sources
  fit-sources-some =
      count-some f.sources
      (both_left (is_count f.sources) (both (is_limit f.total) (is_limit f.each))
      (both_right (is_count f.targets) (both (is_count f.sources) (both (is_limit f.total) (is_limit f.each))) fit-counts))

-- the size
module _ (f : Figures) where
  pub size_none : figures_fit f ≡ false → size_of f ≡ 0
  unfolding size_of
  size_none h = rw h

  pub size_fits : figures_fit f ≡ true → size_of f ≡ cells_of f
  unfolding size_of
  size_fits h = rw h

-- opening
pub clear-replicate : (n : ℕ) → replicate n 0 ≡ clear n
unfolding clear
clear-replicate zero = refl
clear-replicate (suc n) = ap (λ (l : Cells). 0 ∷ l) (clear-replicate n)

module _ (d : Desk) (mode : ℕ) where
  pub open-figures : figures_fit d.figures ≡ false → desk_opened d mode ≡ answer 45 d.crosspoints
  unfolding desk_opened
  open-figures b = rw b

  pub open-count : figures_fit d.figures ≡ true → (length d.crosspoints ≡ cells_of d.figures → ⊥) → desk_opened d mode ≡ answer 1 d.crosspoints
  unfolding desk_opened
  open-count b h = rw (b, ne_eqb _ _ h)

  module _ (b : figures_fit d.figures ≡ true) (h : length d.crosspoints ≡ cells_of d.figures) where
    pub open-mode : (mode ≡ 0 → ⊥) → desk_opened d mode ≡ answer 45 d.crosspoints
    unfolding desk_opened
    open-mode m = rw (b, eq-eqb _ _ h, ne_eqb _ _ m)

    pub open-path : mode ≡ 0 → path_fits d.path ≡ false → desk_opened d mode ≡ answer 45 d.crosspoints
    unfolding desk_opened
    open-path m p = rw (b, eq-eqb _ _ h, m, p)

    pub open_done : (after : Cells) → mode ≡ 0 → path_fits d.path ≡ true → after ≡ clear (length d.crosspoints) → desk_opened d mode ≡ answer 0 after
    unfolding desk_opened
    open_done after m p e = rw (b, eq-eqb _ _ h, m, p) (ap (answer 0) (ap clear (sym h) ∙ sym e))

-- the total limit
module _ (n a b : ℕ) where
  pub product-none : n < 1 → leb n (a * b) ≡ true
  product-none h = le-leb n (a * b) (omega (arith, h))

  pub product-less : 1 ≤ n → b < 1 → leb n (a * b) ≡ false
  product-less h k = let e : b ≡ 0 = omega (arith, k) in rw e (lt-leb n (a * 0) (omega (arith, h)))

  pub product-tells : 1 ≤ n → 1 ≤ b → leb n (a * b) ≡ ltb ((n - 1) / b) a
  product-tells h k = go (ltb ((n - 1) / b) a) refl
    where
      go : (u : Bool) → ltb ((n - 1) / b) a ≡ u → leb n (a * b) ≡ u
      go true e =
          let d : n - 1 < a * b = (div-lt_iff_lt-mul {k = b} {x = n - 1} {y = a} k).0 (ltb-true ((n - 1) / b) a e) in
          le-leb n (a * b) (omega (arith, d, h))
      go false e =
          lt-leb n (a * b)
          (⊎_elim (λ (q : a * b < n). q)
          (λ (q : n ≤ a * b).
          let d : n - 1 < a * b = omega (arith, q, h) in
          let z : (n - 1) / b < a = (div-lt_iff_lt-mul {k = b} {x = n - 1} {y = a} k).1 d in
          absurd (omega (arith, ltb-false ((n - 1) / b) a e, z)))
          (lt-or-le (a * b) n))

pub total-absent : (f : Figures) (n : ℕ) (r : Bool) → f.total ≡ None → leb n (f.targets * f.sources) ≡ r → leb n (most_total f) ≡ r
unfolding most_total
total-absent f n r e h = rw e h

pub total-given : (f : Figures) (n m : ℕ) → f.total ≡ Some m → leb n (most_total f) ≡ leb n m
unfolding most_total
total-given f n m e = rw e

pub part_length : (w : ℕ) (cells : Cells) (n : ℕ) → n * w + w ≤ length cells → length (take (n * w + w - n * w) (drop (n * w) cells)) ≡ w
part_length w cells n h =
    let d : n * w + w - n * w ≡ w = omega arith in
    length-take-le _ _ (omega (arith, length-drop (n * w) cells, h)) ∙ d
