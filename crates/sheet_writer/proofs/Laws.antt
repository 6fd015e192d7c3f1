-- Laws for the functions of this crate, at plain variables.
use Rattle.std.specs.Prelude.{Option, Some}
use Prim.Native.Nat.{ℕ, suc, ◌+◌, ◌-◌, ◌*◌, ◌≤◌, ◌<◌}
use mathlib.Core.Path.{◌≡◌, refl, sym, ap, ◌∙◌}
use mathlib.Core.List.{List, ◌++◌, append_assoc}
use native.Mathlib.Numerals.{add-one}
use native.Mathlib.Omega.{arith}
use borrow.Author.Tests.{eq-eqb, ne_eqb, le-leb}
use lib.ListN.{length, take, drop, set}
use lib.Seq.{sets, sets-eq}
use Rattle.ber_integers.specs.Digits.{Put, put, outcome}
use Rattle.ber_identifiers.specs.Identifier.{oid_octets, put_oid}
use Rattle.glow_rows.specs.declared.Cell.{Cell}
use Rattle.glow_rows.specs.Cell.{absent, numbers_cell}
use Rattle.glow_rows.specs.Entry.{row, Rows}
use Rattle.glow_member_sizes.specs.Sizes.{next_of}
use Rattle.desk_crosspoints.specs.Figures.{side}
use Rattle.desk_crosspoints.specs.Crosspoints.{Cells, row_at}
use Rattle.desk_crosspoints.proofs.Under.{take_short}
use Rattle.desk_rows.specs.Sources.{sources_from, put_sources}
use Rattle.sheet_rules.proofs.Asked.{sources-range}
use Rattle.sheet_rules.proofs.Sizes.{sources-size}
use Rattle.sheet_writer.specs.Steps.{list_cell, link_entry, Filled, filled, octets_in, with_link, with_links}

-- ---- cells

module _ (start len : ℕ) where
  pub list-none : len ≡ 0 → list_cell start len ≡ absent
  unfolding list_cell
  list-none e = simp (eq-eqb _ _ e)

  pub list-some : (len ≡ 0 → ⊥) → list_cell start len ≡ numbers_cell start len
  unfolding list_cell
  list-some e = simp (ne_eqb _ _ e)

-- ---- connections

-- the octets as `put_sources` leaves them, the row as `link_row` gives it; the target's cells as the code takes them
module _ (w : ℕ) (cells : Cells) (t : ℕ) where
  abbrev part : Cells
  part = take (t * w + w - t * w) (drop (t * w) cells)

  part-is : part ≡ row_at w cells t
  unfolding row_at
  part-is = let e : t * w + w - t * w ≡ w = omega arith in ap (λ (n : ℕ). take n (drop (t * w) cells)) e

  part-short : length part ≤ w
  part-short = omega (arith, take_short (t * w + w - t * w) (drop (t * w) cells))

  module _ (h : w ≤ side) (o : List ℕ) (at : ℕ) (k : at + side ≤ length o) where
    abbrev os : List ℕ
    os = oid_octets (sources_from 0 part)

    os-few : length os ≤ side
    os-few = omega (arith, part-short, sources-size 0 part (omega (arith, part-short, h)), h)

    -- there is room for them
    sources-put : put_sources o at part ≡ outcome (Some (at + length os)) (sets o at os)
    unfolding put_sources put_oid put
    sources-put =
        let a : length part ≤ side = omega (arith, part-short, h) in
        let b : at + length os ≤ length o = omega (arith, os-few, k) in
        let c : sets o at os ≡ take at o ++ (os ++ drop (at + length os) o) =
        sets-eq os o at b ∙ append_assoc (take at o) os (drop (at + length os) o) in
        rw (le-leb _ _ a, sources-range 0 part (omega (arith, a)), le-leb _ _ b) (ap (outcome (Some (at + length os))) (sym c))

    module _ {r : Option ℕ} {o' : List ℕ} (e : put_sources o at part ≡ outcome r o') {next : ℕ} (q : next_of r ≡ next) where
      put_is : outcome (Some (at + length os)) (sets o at os) ≡ outcome r o'
      put_is = sym sources-put ∙ e

      next-is : at + length os ≡ next
      next-is = ap (λ (x : Put). next_of x.answer) put_is ∙ q

      pub link-place : (at ≤ next) × (next ≤ at + side)
      link-place = (omega (arith, next-is), omega (arith, next-is, os-few))

      pub link-put : (rows : Rows) {u start n : ℕ} → u ≡ t → start ≡ at → n ≡ next - at → {v : Cell} → list_cell start n ≡ v
          → {x : List ℕ} → x ≡ row (link_entry u v) → with_link w cells t (filled rows o at) ≡ filled (set rows (t + 1) x) o' next
      unfolding with_link
      link-put rows {u} {start} {n} i j l {v} c {x} g =
          let ws = octets_in w cells t in
          let p : os ≡ ws = ap (λ (y : Cells). oid_octets (sources_from 0 y)) part-is in
          let a : at + length ws ≡ next = ap (λ (y : List ℕ). at + length y) (sym p) ∙ next-is in
          let b : sets o at ws ≡ o' = ap (λ (y : List ℕ). sets o at y) (sym p) ∙ ap (λ (y : Put). y.out) put_is in
          let m : length ws ≡ n = omega (arith, a, l) in
          let y : list_cell at (length ws) ≡ v = ap (list_cell at) m ∙ ap (λ (y : ℕ). list_cell y n) (sym j) ∙ c in
          let z : row (link_entry t (list_cell at (length ws))) ≡ x =
          ap (λ (y : Cell). row (link_entry t y)) y ∙ ap (λ (y : ℕ). row (link_entry y v)) (sym i) ∙ sym g in
          ap (λ (y : List ℕ). filled (set rows (suc t) (row (link_entry t (list_cell at (length ws))))) y (at + length ws)) b
          ∙ ap (λ (y : ℕ). filled (set rows (suc t) (row (link_entry t (list_cell at (length ws))))) o' y) a
          ∙ ap (λ (y : List ℕ). filled (set rows (suc t) y) o' next) z
          ∙ ap (λ (y : ℕ). filled (set rows y x) o' next) (sym (add-one t))

-- n targets are left from t on
module _ (w : ℕ) (cells : Cells) (targets t : ℕ) where
  pub links-more : t < targets → (x y : Filled) → with_link w cells t x ≡ y
      → with_links w cells t (targets - t) x ≡ with_links w cells (t + 1) (targets - (t + 1)) y
  unfolding with_links
  links-more h x y e =
      let k : targets - t ≡ suc (targets - (t + 1)) = omega arith in
      rw (k, add-one t) (ap (λ (z : Filled). with_links w cells (suc t) (targets - suc t) z) e)

  pub links-begin : (x : Filled) → with_links w cells 0 targets x ≡ with_links w cells 0 (targets - 0) x
  links-begin x = let k : targets ≡ targets - 0 = omega arith in ap (λ (n : ℕ). with_links w cells 0 n x) k

  pub links_end : targets ≤ t → (x : Filled) → with_links w cells t (targets - t) x ≡ x
  unfolding with_links
  links_end h x = let k : targets - t ≡ 0 = omega arith in rw k refl
