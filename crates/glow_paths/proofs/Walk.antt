-- The desk's path held against a full path, from the last number to the first.
use Prim.Native.Nat.{ℕ, suc, ◌+◌, ◌-◌, ◌≤◌, ◌<◌, min}
use mathlib.Core.Logic.{⊎_elim}
use Rattle.std.proofs.lemmas.Bool.{cases_lt}
use mathlib.Core.Path.{◌≡◌, refl, sym, ap, ◌∙◌}
use mathlib.Core.List.{List, [], ◌∷◌, ◌++◌}
use mathlib.Core.Bool.{Bool, true, false}
use native.Mathlib.Omega.{arith}
use borrow.Author.Tests.{eq-eqb, ne_eqb, le-leb, lt-leb}
use lib.ListN.{length, get_or}
use lib.Dec.{eqb, leb}
use Rattle.base_choices.specs.Choices.{pick}
use Rattle.glow_rows.specs.Entry.{Rows}
use Rattle.glow_rows.specs.declared.Cell.{Cell}
use Rattle.glow_trees.specs.Content.{Item, content_of}
use Rattle.glow_trees.specs.Rows.{items_in}
use Rattle.glow_rows.specs.Row.{row_cell}
use Rattle.glow_paths.specs.Paths.{number_of, octets_of, numbers_in, is_qualified, member_of, nobody, path_up, full_path, same, has_path}
use Rattle.glow_paths.proofs.Items.{in-length, in_all, in-kind, in-parent, in-first, up_root, up-past, up-qualified, up-number}

never : (u : Bool) → pick u false false ≡ false
never true = refl
never false = refl

some-none : (ys : List ℕ) (m : ℕ) → same [] (ys ++ (m ∷ [])) ≡ false
unfolding same
some-none [] m = refl
some-none (y ∷ ys) m = refl

none-some : (xs : List ℕ) (n : ℕ) → same (xs ++ (n ∷ [])) [] ≡ false
unfolding same
none-some [] n = refl
none-some (x ∷ xs) n = refl

same-last : (xs : List ℕ) (n : ℕ) (ys : List ℕ) (m : ℕ) → same (xs ++ (n ∷ [])) (ys ++ (m ∷ [])) ≡ pick (eqb n m) (same xs ys) false
unfolding same
same-last [] n [] m = refl
same-last [] n (y ∷ ys) m = ap (λ (t : Bool). pick (eqb n y) t false) (some-none ys m) ∙ never (eqb n y) ∙ sym (never (eqb n m))
same-last (x ∷ xs) n [] m = ap (λ (t : Bool). pick (eqb x m) t false) (none-some xs n) ∙ never (eqb x m) ∙ sym (never (eqb n m))
same-last (x ∷ xs) n (y ∷ ys) m = ap (λ (t : Bool). pick (eqb x y) t false) (same-last xs n ys m) ∙ swap (eqb x y) (eqb n m) (same xs ys)
  where
    swap : (a b c : Bool) → pick a (pick b c false) false ≡ pick b (pick a c false) false
    swap true true c = refl
    swap true false c = refl
    swap false true c = refl
    swap false false c = refl

same-root : (path : List ℕ) → same [] path ≡ eqb (length path) 0
unfolding same
same-root [] = refl
same-root (x ∷ xs) = sym (ne_eqb (suc (length xs)) 0 (λ z. omega (arith, z)))

none_left : (l : List ℕ) → length l ≡ 0 → l ≡ []
none_left [] e = refl
none_left (x ∷ xs) e = absurd (omega (arith, e))

-- the last of the path's numbers
module _ (path rest : List ℕ) (m n : ℕ) (c : path ≡ rest ++ (m ∷ [])) (xs : List ℕ) where
  last : same (xs ++ (n ∷ [])) path ≡ pick (eqb n m) (same xs rest) false
  last = ap (same (xs ++ (n ∷ []))) c ∙ same-last xs n rest m

  last-other : (m ≡ n → ⊥) → same (xs ++ (n ∷ [])) path ≡ false
  last-other d = last ∙ rw (ne_eqb n m (λ z. d (sym z)))

  last-same : m ≡ n → same (xs ++ (n ∷ [])) path ≡ same xs rest
  last-same d = last ∙ rw (eq-eqb n m (sym d))

-- the numbers of the path that are left are to be held against the path of p
abbrev pub Walk : List ℕ → Rows → ℕ → List ℕ → ℕ → List ℕ → ℕ → Type 0
Walk s rows n path entry left p =
    (f : ℕ) × ((length left < f) × (same (full_path (items_in s rows n) entry) path ≡ same (path_up f (items_in s rows n) p) left))

pub walk_start : (s : List ℕ) (rows : Rows) (n : ℕ) (path : List ℕ) (entry : ℕ) → length path ≤ 16 → Walk s rows n path entry path entry
walk_start s rows n path entry h = (17, (omega (arith, h), refl))

module _ (s : List ℕ) (rows : Rows) (n : ℕ) (path : List ℕ) (entry : ℕ) (left : List ℕ) (p : ℕ) (c : n ≤ length rows)
    (w : Walk s rows n path entry left p) where
  abbrev es : List Item
  es = items_in s rows n

  empty : path_up w.0 es p ≡ [] → same (full_path es entry) path ≡ eqb (length left) 0
  empty e = w.1.1 ∙ ap (λ (l : List ℕ). same l left) e ∙ same-root left

  pub walk-root : p ≤ 0 → same (full_path es entry) path ≡ eqb (length left) 0
  walk-root h = empty (up_root w.0 es p (omega (arith, h)))

  pub walk-past : n < p → same (full_path es entry) path ≡ eqb (length left) 0
  walk-past h = empty (up-past w.0 es p (omega (arith, h, in-length s rows n c)))

  module _ (a : 0 < p) (b : p ≤ n) (i : ℕ) (j : i ≡ p - 1) (v : Cell) (x : v ≡ row_cell rows i 0) where
    at : i < n
    at = omega (arith, a, b, j)

    inside : p ≤ length es
    inside = omega (arith, b, in-length s rows n c)

    fuel : w.0 ≡ suc (w.0 - 1)
    fuel = omega (arith, w.1.0)

    own : member_of (get_or es i nobody) 0 ≡ content_of s v
    own = in-first s rows n c i at ∙ ap (content_of s) (sym x)

    pub walk-qualified : (r : Bool) → is_qualified (get_or (get_or rows i []) 0 0) ≡ true
        → same (numbers_in (octets_of (content_of s v))) left ≡ r → same (full_path es entry) path ≡ r
    walk-qualified r q e =
        w.1.1 ∙ ap (λ (f : ℕ). same (path_up f es p) left) fuel
        ∙ ap (λ (l : List ℕ). same l left)
        (up-qualified (w.0 - 1) es p i a inside j (ap is_qualified (in-kind s rows n c i at) ∙ q) ∙ ap (λ (y : _). numbers_in (octets_of y)) own)
        ∙ e

    module _ (q : is_qualified (get_or (get_or rows i []) 0 0) ≡ false) where
      up : same (full_path es entry) path
          ≡ same (path_up (w.0 - 1) es (get_or (get_or rows i []) 1 0) ++ (number_of (content_of s v) ∷ [])) left
      up =
          w.1.1 ∙ ap (λ (f : ℕ). same (path_up f es p) left) fuel
          ∙ ap (λ (l : List ℕ). same l left)
          (up-number (w.0 - 1) es p i a inside j (ap is_qualified (in-kind s rows n c i at) ∙ q)
          ∙ ap (λ (m : ℕ). path_up (w.0 - 1) es m ++ (number_of (member_of (get_or es i nobody) 0) ∷ [])) (in-parent s rows n c i at)
          ∙ ap (λ (y : _). path_up (w.0 - 1) es (get_or (get_or rows i []) 1 0) ++ (number_of y ∷ [])) own)

      pub walk-short : length left ≡ 0 → same (full_path es entry) path ≡ false
      walk-short z = up ∙ ap (λ (l : List ℕ). same (path_up (w.0 - 1) es (get_or (get_or rows i []) 1 0) ++ (number_of (content_of s v) ∷ [])) l) (none_left left z)
          ∙ none-some (path_up (w.0 - 1) es (get_or (get_or rows i []) 1 0)) (number_of (content_of s v))

      module _ (rest : List ℕ) (last : ℕ) (z : left ≡ rest ++ (last ∷ [])) (m : ℕ) (y : number_of (content_of s v) ≡ m) where
        pub walk-other : (last ≡ m → ⊥) → same (full_path es entry) path ≡ false
        walk-other d =
            up ∙ last-other left rest last (number_of (content_of s v)) z (path_up (w.0 - 1) es (get_or (get_or rows i []) 1 0)) (λ e. d (e ∙ y))

        pub walk_up : length rest + 1 ≡ length left → last ≡ m → (parent : ℕ) → parent ≡ get_or (get_or rows i []) 1 0
            → Walk s rows n path entry rest parent
        walk_up h d parent e = (
          w.0 - 1,
          (
            omega (arith, w.1.0, h),
            up ∙ last-same left rest last (number_of (content_of s v)) z (path_up (w.0 - 1) es (get_or (get_or rows i []) 1 0)) (d ∙ sym y)
                ∙ ap (λ (t : ℕ). same (path_up (w.0 - 1) es t) rest) (sym e),
          ),
        )

pub same-part-is : (octets part path : List ℕ) (r : Bool) → octets ≡ part → same (numbers_in octets) path ≡ r → same (numbers_in part) path ≡ r
same-part-is octets part path r e h = ap (λ (l : List ℕ). same (numbers_in l) path) (sym e) ∙ h

-- a path of at most 16 numbers, and as many rows as there are
pub has-long : (es : List Item) (p : ℕ) (path : List ℕ) → 16 < length path → has_path es p path ≡ leb (length path) 16
unfolding has_path
has-long es p path h = rw (lt-leb _ _ h)

pub has-is : (es : List Item) (p : ℕ) (path : List ℕ) → length path ≤ 16 → has_path es p path ≡ same (full_path es p) path
unfolding has_path
has-is es p path h = rw (le-leb _ _ h)

pub has_all : (s : List ℕ) (rows : Rows) (n k p : ℕ) (path : List ℕ) (r : Bool) → length path ≤ 16 → k ≡ min n (length rows)
    → same (full_path (items_in s rows k) p) path ≡ r → has_path (items_in s rows n) p path ≡ r
has_all s rows n k p path r h m e =
    ⊎_elim (λ (l : n < length rows). let d : k ≡ n = omega arith in
    ap (λ (i : ℕ). has_path (items_in s rows i) p path) (sym d) ∙ has-is (items_in s rows k) p path h ∙ e)
    (λ (l : length rows ≤ n). let d : k ≡ length rows = omega arith in
    ap (λ (es : List Item). has_path es p path) (in_all s rows n l ∙ ap (items_in s rows) (sym d)) ∙ has-is (items_in s rows k) p path h ∙ e)
    (cases_lt n (length rows))
