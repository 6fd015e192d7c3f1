-- An entry's cells: their rules, and the sum of their sizes.
use Prim.Native.Nat.{ℕ, suc, ◌+◌, ◌-◌, ◌≤◌, ◌<◌}
use mathlib.Core.Path.{◌≡◌, refl, sym, ap, ◌∙◌}
use mathlib.Core.Bool.{Bool, true, false}
use mathlib.Core.List.{List}
use native.Mathlib.Omega.{arith}
use borrow.Author.Tests.{eq-eqb, ne_eqb, leb-true}
use lib.Dec.{leb}
use lib.ListN.{length}
use Rattle.base_choices.specs.Choices.{pick}
use Rattle.glow_rows.specs.declared.Cell.{Cell}
use Rattle.glow_trees.specs.Content.{Content, content_of, contents_of}
use Rattle.glow_trees.specs.Rows.{cell_at, cells_from}
use Rattle.glow_trees.specs.Legal.{suits, rule_at}
use Rattle.glow_trees.specs.Written.{member_octets}
use Rattle.glow_member_sizes.specs.Sizes.{cap, tagged_size, member_size}
use Rattle.glow_sizes.specs.Sizes.{cells_size, wrapped_size}
use Rattle.glow_member_sizes.proofs.Caps.{cap-in, cap-right}
use Rattle.glow_member_sizes.proofs.Members.{twice}

-- ---- an outer tag that may be left out
pub wrapped-none : (n : ℕ) → n ≡ 0 → cap (wrapped_size n) ≡ 0
unfolding wrapped_size
wrapped-none n h = simp (eq-eqb _ _ h) (cap-in 0 (omega arith))

pub wrapped-some : (n a r : ℕ) → (n ≡ 0 → ⊥) → cap (tagged_size n) ≡ a → cap (tagged_size a) ≡ r → cap (wrapped_size n) ≡ r
unfolding wrapped_size
wrapped-some n a r h i j = simp (ne_eqb _ _ h) (twice n a r i j)

-- ---- sums, from the last cell to the first
module _ (real : ℕ → List ℕ) (kind : ℕ) (s row : List ℕ) where
  pub Sum : ℕ → ℕ → ℕ → Type 0
  Sum to c total = (c ≤ to) × (cells_size real kind c (contents_of s (cells_from (to - c) c row)) ≡ cap total)

  pub sum-none : (to : ℕ) → Sum to to 0
  unfolding Sum cells_from contents_of cells_size
  sum-none to = let z : to - to ≡ 0 = omega arith in (omega arith, rw z (sym (cap-in 0 (omega arith))))

  pub sum_more : (to c total what n : ℕ) (v : Cell) → 0 < c → Sum to c total → v ≡ cell_at row (c - 1) → rule_at kind (c - 1) ≡ what
      → member_size real what (content_of s v) ≡ n → Sum to (c - 1) (total + n)
  unfolding Sum cells_from contents_of cells_size
  sum_more to c total what n v h k i j l =
      let a : to - (c - 1) ≡ suc (to - c) = omega arith in
      let b : suc (c - 1) ≡ c = omega arith in
      let d : n + total ≡ total + n = omega arith in
      let m : cap (n + cap total) ≡ cap (total + n) = cap-right n total ∙ ap cap d in
      let t = k.1 in (
        omega arith,
        rw (a, b, t, j) (rw (sym i) (rw l m)),
      )

  pub sum_is : (to c total : ℕ) → Sum to c total → cells_size real kind c (contents_of s (cells_from (to - c) c row)) ≡ cap total
  unfolding Sum
  sum_is to c total h = h.1

-- no member is larger than this
pub member-most : (real : ℕ → List ℕ) (what : ℕ) (x : Content) (n : ℕ) → member_size real what x ≡ n → n ≤ 65536
unfolding member_size cap
member-most real what x n e = go (suits what x) (leb (length (member_octets real 0 x)) 16384) refl e
  where
    go : (a b : Bool) → leb (length (member_octets real 0 x)) 16384 ≡ b → pick a (pick b (length (member_octets real 0 x)) 65536) 65536 ≡ n → n ≤ 65536
    go true true q i = let j : length (member_octets real 0 x) ≡ n = i in let k : length (member_octets real 0 x) ≤ 16384 = leb-true _ _ q in omega arith
    go true false q i = let j : ◌≡◌ {A = ℕ} 65536 n = i in omega arith
    go false b q i = let j : ◌≡◌ {A = ℕ} 65536 n = i in omega arith

pub sum-is-at : (real : ℕ → List ℕ) (kind : ℕ) (s row : List ℕ) (from to c total : ℕ) → from ≤ c → c ≤ from → Sum real kind s row to c total
    → cells_size real kind from (contents_of s (cells_from (to - from) from row)) ≡ cap total
sum-is-at real kind s row from to c total h k q =
    let e : from ≡ c = omega arith in
    ap (λ (i : ℕ). cells_size real kind i (contents_of s (cells_from (to - i) i row))) e ∙ sum_is real kind s row to c total q
