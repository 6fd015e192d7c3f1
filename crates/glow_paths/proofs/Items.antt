-- The entries of rows, one by one, and the full path of each.
use Prim.Native.Nat.{ℕ, zero, suc, ◌+◌, ◌-◌, ◌≤◌, ◌<◌}
use mathlib.Core.Path.{◌≡◌, refl, sym, ap, ◌∙◌}
use mathlib.Core.List.{List, [], ◌∷◌, ◌++◌}
use mathlib.Core.Bool.{Bool, true, false}
use native.Mathlib.Omega.{arith}
use borrow.Author.Tests.{eqb-true, le-leb, lt-leb, lt-ltb}
use lib.ListN.{length, take, drop, get_or}
use lib.Seq.{take_all, take-length}
use lib.Dec.{leb, ltb, eqb}
use Rattle.base_choices.specs.Choices.{pick}
use Rattle.glow_rows.specs.Entry.{Rows}
use Rattle.glow_rows.specs.declared.Cell.{Cell}
use Rattle.glow_rows.specs.Cell.{number_in, octets_in}
use Rattle.glow_trees.specs.Content.{Content, nothing, word, bytes, wrong, Item, content_of, contents_of, item_of, items_of, is_part, is_word}
use Rattle.glow_trees.specs.Rows.{cells_from, entry_of, entries_of, items_in}
use Rattle.glow_rows.specs.Row.{row_cell}
use Rattle.glow_paths.specs.Paths.{number_of, octets_of, numbers_in, is_qualified, member_of, nobody, path_up}

items-length : (s : List ℕ) (rows : Rows) (n : ℕ) → n ≤ length rows → length (items_of s (entries_of (take n rows))) ≡ n
unfolding entries_of items_of
items-length s rows zero h = refl
items-length s [] (suc n) h = absurd (omega (arith, h))
items-length s (r ∷ rows) (suc n) h = ap suc (items-length s rows n (omega (arith, h)))

items_at : (s : List ℕ) (rows : Rows) (n i : ℕ) → n ≤ length rows → i < n
    → get_or (items_of s (entries_of (take n rows))) i nobody ≡ item_of s (entry_of (get_or rows i []))
unfolding entries_of items_of
items_at s rows zero i h k = absurd (omega (arith, k))
items_at s [] (suc n) i h k = absurd (omega (arith, h))
items_at s (r ∷ rows) (suc n) zero h k = refl
items_at s (r ∷ rows) (suc n) (suc i) h k = items_at s rows n i (omega (arith, h)) (omega (arith, k))

-- past the rows' end there are no more
pub in_all : (s : List ℕ) (rows : Rows) (n : ℕ) → length rows ≤ n → items_in s rows n ≡ items_in s rows (length rows)
unfolding items_in
in_all s rows n h = ap (λ (x : Rows). items_of s (entries_of x)) (take_all n rows h ∙ sym (take-length rows))

module _ (s : List ℕ) (rows : Rows) (n : ℕ) (h : n ≤ length rows) where
  pub in-length : length (items_in s rows n) ≡ n
  unfolding items_in
  in-length = items-length s rows n h

  module _ (i : ℕ) (k : i < n) where
    pub in-at : get_or (items_in s rows n) i nobody ≡ item_of s (entry_of (get_or rows i []))
    unfolding items_in
    in-at = items_at s rows n i h k

    pub in-kind : (get_or (items_in s rows n) i nobody).kind ≡ get_or (get_or rows i []) 0 0
    in-kind = ap (λ (e : Item). e.kind) in-at

    pub in-parent : (get_or (items_in s rows n) i nobody).parent ≡ get_or (get_or rows i []) 1 0
    in-parent = ap (λ (e : Item). e.parent) in-at

    pub in-first : member_of (get_or (items_in s rows n) i nobody) 0 ≡ content_of s (row_cell rows i 0)
    unfolding contents_of cells_from row_cell
    in-first = ap (λ (e : Item). member_of e 0) in-at

    pub in-second : member_of (get_or (items_in s rows n) i nobody) 1 ≡ content_of s (row_cell rows i 1)
    unfolding contents_of cells_from row_cell
    in-second = ap (λ (e : Item). member_of e 1) in-at

    pub in-third : member_of (get_or (items_in s rows n) i nobody) 2 ≡ content_of s (row_cell rows i 2)
    unfolding contents_of cells_from row_cell
    in-third = ap (λ (e : Item). member_of e 2) in-at

pub qualified-low : (kind : ℕ) → kind < 5 → is_qualified kind ≡ false
unfolding is_qualified
qualified-low kind h = rw (lt-leb _ _ h)

pub qualified-high : (kind : ℕ) → 7 < kind → is_qualified kind ≡ false
unfolding is_qualified
qualified-high kind h = let l : 5 ≤ kind = omega arith in rw (le-leb _ _ l, lt-leb _ _ h)

pub qualified_in : (kind : ℕ) → 5 ≤ kind → kind ≤ 7 → is_qualified kind ≡ true
unfolding is_qualified
qualified_in kind h k = rw (le-leb _ _ h, le-leb _ _ k)

-- what a cell says
module _ (s : List ℕ) (v : Cell) where
  pub content-by : (P : Content → Type 0) → P nothing → P wrong → ((n : ℕ) → P (word v.kind n)) → ((bs : List ℕ) → P (bytes v.kind bs))
      → P (content_of s v)
  unfolding content_of
  content-by P n a b c =
      go (is_part v.kind) (is_word v.kind) (leb (v.first + v.second) (length s)) (eqb v.second 0) (ltb v.first 18446744073709551616)
      (eqb v.kind 0) (eqb v.first 0)
    where
      go : (p w l z f k x : Bool)
          → P (pick p (pick l (bytes v.kind (take v.second (drop v.first s))) wrong)
          (pick w (pick z (pick f (word v.kind v.first) wrong) wrong) (pick k (pick x (pick z nothing wrong) wrong) wrong)))
      go true w true z f k x = c _
      go true w false z f k x = a
      go false true l true true k x = b _
      go false true l true false k x = a
      go false true l false f k x = a
      go false false l true f true true = n
      go false false l false f true true = a
      go false false l z f true false = a
      go false false l z f false x = a

  number_by : (b z : Bool) → eqb v.kind 2 ≡ b → eqb v.second 0 ≡ z → pick b (pick z v.first 0) 0 < 18446744073709551616
      → number_of (content_of s v) ≡ pick b (pick z v.first 0) 0
  unfolding content_of
  number_by true true e d l = rw (eqb-true v.kind 2 e, d, lt-ltb v.first 18446744073709551616 l)
  number_by true false e d l = rw (eqb-true v.kind 2 e, d)
  number_by false z e d l =
      content-by (λ (x : Content). number_of x ≡ 0) refl refl (λ n. ap (λ (b : Bool). pick b n 0) e) (λ bs. refl)

  -- a member's number and octets, by its cell
  pub number-content : number_in v < 18446744073709551616 → number_of (content_of s v) ≡ number_in v
  unfolding number_in
  number-content l = number_by (eqb v.kind 2) (eqb v.second 0) refl refl l

  octets-by : (b : Bool) → eqb v.kind 13 ≡ b
      → octets_of (content_of s v) ≡ pick b (pick (leb (v.first + v.second) (length s)) (take v.second (drop v.first s)) []) []
  unfolding content_of
  octets-by true e = rw (eqb-true v.kind 13 e) (go (leb (v.first + v.second) (length s)))
    where
      go : (l : Bool) → octets_of (pick l (bytes 13 (take v.second (drop v.first s))) wrong) ≡ pick l (take v.second (drop v.first s)) []
      go true = refl
      go false = refl
  octets-by false e =
      content-by (λ (x : Content). octets_of x ≡ []) refl refl (λ n. refl) (λ bs. ap (λ (b : Bool). pick b bs []) e)

  pub octets-content : octets_of (content_of s v) ≡ octets_in s v
  unfolding octets_in
  octets-content = octets-by (eqb v.kind 13) refl

-- the full path of an entry
module _ (f : ℕ) (es : List Item) (p : ℕ) where
  pub up_root : p ≡ 0 → path_up f es p ≡ []
  unfolding path_up
  up_root h = go f
    where
      go : (f : ℕ) → path_up f es p ≡ []
      go zero = refl
      go (suc f) = rw h

  pub up-past : length es < p → path_up f es p ≡ []
  unfolding path_up
  up-past h = go f
    where
      go : (f : ℕ) → path_up f es p ≡ []
      go zero = refl
      go (suc f) = let z : 0 < p = omega (arith, h) in rw (lt-ltb _ _ z, lt-leb _ _ h)

module _ (f : ℕ) (es : List Item) (p i : ℕ) (a : 0 < p) (b : p ≤ length es) (j : i ≡ p - 1) where
  pub up-qualified : is_qualified (get_or es i nobody).kind ≡ true → path_up (suc f) es p ≡ numbers_in (octets_of (member_of (get_or es i nobody) 0))
  unfolding path_up
  up-qualified q =
      let e : is_qualified (get_or es (p - 1) nobody).kind ≡ true = ap (λ (k : ℕ). is_qualified (get_or es k nobody).kind) (sym j) ∙ q in
      rw (lt-ltb _ _ a, le-leb _ _ b, e, j)

  pub up-number : is_qualified (get_or es i nobody).kind ≡ false
      → path_up (suc f) es p ≡ path_up f es (get_or es i nobody).parent ++ (number_of (member_of (get_or es i nobody) 0) ∷ [])
  unfolding path_up
  up-number q =
      let e : is_qualified (get_or es (p - 1) nobody).kind ≡ false = ap (λ (k : ℕ). is_qualified (get_or es k nobody).kind) (sym j) ∙ q in
      rw (lt-ltb _ _ a, le-leb _ _ b, e, j)
