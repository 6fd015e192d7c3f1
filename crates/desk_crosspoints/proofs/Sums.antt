-- Loops of which a processor does many turns at once: the largest cell, and a count for each source.
use Prim.Native.Nat.{ℕ, ◌+◌, ◌-◌, ◌*◌, ◌≤◌, ◌<◌, min, max}
use mathlib.Core.Path.{◌≡◌, refl, sym, ap, ◌∙◌}
use mathlib.Core.Bool.{Bool, true, false, true≢false}
use mathlib.Core.Logic.{⊎_elim}
use native.Mathlib.Omega.{arith}
use borrow.Author.Tests.{leb-true, leb-false, le-leb, lt-leb, eqb-true, eqb-false}
use lib.ListN.{length, take, drop, get_or, set, length-set, get_or-eq_default}
use lib.Seq.{get_or-set_same, get_or-set_other}
use lib.Dec.{leb, eqb}
use Rattle.base_choices.specs.Choices.{pick, both}
use Rattle.ber_integers.proofs.Radix.{lt-or-le}
use Rattle.desk_crosspoints.specs.Crosspoints.{Cells, bit, all_bits, clear, holders, sources_fit}
use Rattle.desk_crosspoints.proofs.Laws.{part-one, bit_le, bit-clear, bits-end, row_is, holders-more}
use Rattle.desk_crosspoints.proofs.Counts.{clear-cell, clear-length}
use Rattle.desk_crosspoints.proofs.Under.{row-cell, bits-tell, bits-from, sources-tell, sources-from}

-- the largest of the cells before i
pub max-bit : (a b : ℕ) → leb (max a b) 1 ≡ both (leb a 1) (leb b 1)
max-bit a b = go (leb a 1) (leb b 1) refl refl
  where
    go : (u v : Bool) → leb a 1 ≡ u → leb b 1 ≡ v → leb (max a b) 1 ≡ both u v
    go true true p q = le-leb (max a b) 1 (omega (arith, leb-true a 1 p, leb-true b 1 q))
    go true false p q = lt-leb (max a b) 1 (omega (arith, leb-false b 1 q))
    go false v p q = lt-leb (max a b) 1 (omega (arith, leb-false a 1 p))

module _ (l : Cells) (i most : ℕ) where
  pub most-more : (next : ℕ) → i < length l → leb next 1 ≡ both (leb most 1) (leb (get_or l i 0) 1)
      → both (leb most 1) (all_bits (drop i l)) ≡ both (leb next 1) (all_bits (drop (i + 1) l))
  unfolding all_bits
  most-more next h e = rw (part-one l i h, e) (go (leb most 1) (leb (get_or l i 0) 1) (all_bits (drop (i + 1) l)))
    where
      go : (u v r : Bool) → both u (pick v r false) ≡ both (both u v) r
      go true true r = refl
      go true false r = refl
      go false v r = refl

  pub most-end : length l ≤ i → both (leb most 1) (all_bits (drop i l)) ≡ leb most 1
  most-end h = ap (both (leb most 1)) (bits-end l i h) ∙ go (leb most 1)
    where
      go : (u : Bool) → both u true ≡ u
      go true = refl
      go false = refl

-- one cell more, counted up to two
module _ (n c : ℕ) where
  pub one_more : n < 2 → {x : ℕ} → bit c ≡ x → n + x ≡ min (n + bit c) 2
  one_more h e = omega (arith, h, e, bit_le c)

  pub two-stay : 2 ≤ n → 2 ≡ min (n + bit c) 2
  two-stay h = omega (arith, h)

-- a row counted in, up to i
pub record Added (before row : Cells) (i : ℕ) (sums : Cells) : Type 0 where
  pub done : (s : ℕ) → s < i → get_or sums s 0 ≡ min (get_or before s 0 + bit (get_or row s 0)) 2
  pub left : (s : ℕ) → i ≤ s → get_or sums s 0 ≡ get_or before s 0
  pub same : length sums ≡ length before

pub added_none : (before row : Cells) → Added before row 0 before
added_none before row = record { done = λ s k. absurd (omega (arith, k)); left = λ s k. refl; same = refl }

module _ (before row : Cells) (i : ℕ) (sums : Cells) (h : Added before row i sums) where
  pub added_more : (x : ℕ) → i < length sums → x ≡ min (get_or sums i 0 + bit (get_or row i 0)) 2 → Added before row (i + 1) (set sums i x)
  added_more x k e = record { done = done; left = left; same = length-set sums i x ∙ h.same }
    where
      done : (s : ℕ) → s < i + 1 → get_or (set sums i x) s 0 ≡ min (get_or before s 0 + bit (get_or row s 0)) 2
      done s q = go (eqb s i) refl
        where
          go : (u : Bool) → eqb s i ≡ u → get_or (set sums i x) s 0 ≡ min (get_or before s 0 + bit (get_or row s 0)) 2
          go true z =
              let j : s ≡ i = eqb-true s i z in
              ap (λ (n : ℕ). get_or (set sums i x) n 0) j ∙ get_or-set_same sums i x 0 k ∙ e
              ∙ ap (λ (n : ℕ). min (n + bit (get_or row i 0)) 2) (h.left i (omega arith))
              ∙ ap (λ (n : ℕ). min (get_or before n 0 + bit (get_or row n 0)) 2) (sym j)
          go false z =
              get_or-set_other sums i s x 0 (eqb-false s i z)
              ∙ h.done s (⊎_elim (λ (y : s < i). y) (λ (y : i ≤ s). absurd (eqb-false s i z (omega (arith, y, q)))) (lt-or-le s i))

      left : (s : ℕ) → i + 1 ≤ s → get_or (set sums i x) s 0 ≡ get_or before s 0
      left s q = get_or-set_other sums i s x 0 (λ z. omega (arith, z, q)) ∙ h.left s (omega (arith, q))

  pub added-end : length before ≡ length row → length row ≤ i → (s : ℕ) → get_or sums s 0 ≡ min (get_or before s 0 + bit (get_or row s 0)) 2
  added-end l k s = ⊎_elim (h.done s) past (lt-or-le s i)
    where
      past : i ≤ s → get_or sums s 0 ≡ min (get_or before s 0 + bit (get_or row s 0)) 2
      past q =
          let b = get_or-eq_default before 0 {n = s} (omega (arith, k, q, l)) in
          let r = bit-clear (get_or row s 0) (get_or-eq_default row 0 {n = s} (omega (arith, k, q))) in
          omega (arith, h.left s q, b, r)

-- how many of the first t targets have each source, up to two
module _ (w : ℕ) (cells : Cells) where
  pub record Held (t : ℕ) (sums : Cells) : Type 0 where
    pub room : length sums ≡ w
    pub each : (s : ℕ) → s < w → get_or sums s 0 ≡ min (holders w cells s t) 2

  pub held_none : (sums : Cells) → sums ≡ clear w → Held 0 sums
  unfolding holders
  held_none sums e =
      record { room = ap length e ∙ clear-length w; each = λ s k. ap (λ (x : Cells). get_or x s 0) e ∙ clear-cell w s }

  pub held_more : (t : ℕ) (sums next : Cells) (from to : ℕ) → Held t sums → from ≡ t * w → to ≡ t * w + w → length next ≡ length sums
      → ((s : ℕ) → get_or next s 0 ≡ min (get_or sums s 0 + bit (get_or (take (to - from) (drop from cells)) s 0)) 2) → Held (t + 1) next
  held_more t sums next from to h p q l e = record { room = l ∙ h.room; each = each }
    where
      each : (s : ℕ) → s < w → get_or next s 0 ≡ min (holders w cells s (t + 1)) 2
      each s k =
          let c : get_or (take (to - from) (drop from cells)) s 0 ≡ get_or cells (t * w + s) 0
          = ap (λ (x : Cells). get_or x s 0) (row_is w cells t from to p q) ∙ row-cell w cells t s k in
          let b : bit (get_or (take (to - from) (drop from cells)) s 0) ≡ bit (get_or cells (t * w + s) 0) = ap bit c in
          omega (arith, e s, h.each s k, b, holders-more w cells s (t + 1) t (omega arith))

  pub held_all : (t n : ℕ) (sums : Cells) → Held t sums → t ≤ n → n ≤ t → sources_fit w n cells w ≡ all_bits sums
  held_all t n sums h a b = go (all_bits sums) refl (sources_fit w n cells w) refl
    where
      i : t ≡ n
      i = omega (arith, a, b)

      go : (u : Bool) → all_bits sums ≡ u → (v : Bool) → sources_fit w n cells w ≡ v → v ≡ u
      go true e true d = refl
      go false e false d = refl
      go true e false d = absurd (true≢false (sym (sources-from w n cells w one) ∙ d))
        where
          one : (s : ℕ) → s < w → holders w cells s n ≤ 1
          one s k = omega (arith, bits-tell sums e s, h.each s k, ap (holders w cells s) i)
      go false e true d = absurd (true≢false (sym (bits-from sums one) ∙ e))
        where
          one : (s : ℕ) → get_or sums s 0 ≤ 1
          one s =
              ⊎_elim (λ (k : s < w). omega (arith, sources-tell w n cells w d s k, h.each s k, ap (holders w cells s) i))
              (λ (k : w ≤ s). omega (arith, get_or-eq_default sums 0 {n = s} (omega (arith, k, h.room)))) (lt-or-le s w)
