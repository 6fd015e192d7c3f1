-- The total that a caller keeps from request to request: what the limits tell of it, and that it stays the desk's.
use Prim.Native.Nat.{ℕ, ◌+◌, ◌-◌, ◌≤◌}
use mathlib.Core.Path.{◌≡◌, refl, sym, ap, ◌∙◌}
use mathlib.Core.Bool.{Bool, true, false}
use native.Mathlib.Omega.{arith}
use borrow.Author.Tests.{leb-true, leb-false, eqb-true, eqb-false, lt-ltb, le-ltb, eq-eqb, ne_eqb}
use lib.ListN.{length}
use lib.Dec.{leb, ltb, eqb}
use Rattle.base_choices.specs.Choices.{pick, both}
use Rattle.desk_crosspoints.specs.declared.Figures.{Figures}
use Rattle.desk_crosspoints.specs.Figures.{most_total}
use Rattle.desk_crosspoints.specs.Crosspoints.{Cells, count}
use Rattle.desk_crosspoints.specs.Desk.{Desk}
use Rattle.desk_crosspoints.proofs.Laws.{count-le}
use Rattle.desk_requests.specs.Request.{Request, row_before, row_after, result_of, over_total}
use Rattle.desk_requests.specs.Steps.{heeded, total_of, total_after}
use Rattle.desk_requests.proofs.Parts.{others-kind, total-after}
use Rattle.desk_requests.proofs.Answers.{result-is}

module _ (f : Figures) where
  pub heeded-many : (n : ℕ) → f.kind ≡ 2 → heeded f n ≡ n
  unfolding heeded
  heeded-many n h = simp (eq-eqb _ _ h)

  pub heeded-other : (n : ℕ) → (f.kind ≡ 2 → ⊥) → heeded f n ≡ 0
  unfolding heeded
  heeded-other n h = simp (ne_eqb _ _ h)

  -- no more than there are cells
  pub total-le : (cells : Cells) → total_of f cells ≤ length cells
  unfolding heeded
  total-le cells = go (eqb f.kind 2)
    where
      go : (u : Bool) → pick u (count cells) 0 ≤ length cells
      go true = count-le cells
      go false = omega arith

  -- the limits
  module _ (operation total : ℕ) (many : Bool) (h : operation ≡ 2 → ⊥) where
    abbrev tells : ℕ
    tells = pick (eqb operation 2) 0 (pick many 43 (pick (ltb (most_total f) total) 44 0))

    pub limit-many : many ≡ true → tells ≡ 43
    limit-many m = rw (ne_eqb _ _ h, m)

    pub limit-in : many ≡ false → leb total (most_total f) ≡ true → tells ≡ 0
    limit-in m e = rw (ne_eqb _ _ h, m, le-ltb _ _ (leb-true total (most_total f) e))

    pub limit-over : many ≡ false → leb total (most_total f) ≡ false → tells ≡ 44
    limit-over m e = rw (ne_eqb _ _ h, m, lt-ltb _ _ (leb-false total (most_total f) e))

pub limit-less : (operation rest : ℕ) → operation ≡ 2 → pick (eqb operation 2) 0 rest ≡ 0
limit-less operation rest h = rw (eq-eqb _ _ h)

module _ (d : Desk) (req : Request) where
  abbrev f : Figures
  f = d.figures

  abbrev cells : Cells
  cells = d.crosspoints

  module _ (total : ℕ) (e : total_of f cells ≡ total) where
    -- the total kept is that of the crosspoints that the request asks for
    pub total_kept : total_of f (result_of d req) ≡ total_after total d req
    unfolding total_after
    total_kept = go (eqb f.kind 2) refl
      where
        go : (u : Bool) → eqb f.kind 2 ≡ u
            → heeded f (count (result_of d req)) ≡ heeded f (total - count (row_before d req) + count (row_after d req))
        go false z = heeded-other f _ (eqb-false f.kind 2 z) ∙ sym (heeded-other f _ (eqb-false f.kind 2 z))
        go true z =
            let k : f.kind ≡ 2 = eqb-true f.kind 2 z in
            let o = sym (others-kind f req.sources req.operation cells (λ q. omega (arith, q, k))) in
            let c = sym (heeded-many f (count cells) k) ∙ e in
            ap (heeded f)
            (ap count (result-is d req cells (row_after d req) o refl)
            ∙ total-after f.sources cells req.target (row_before d req) total _ refl c refl (row_after d req) _ refl)

    -- .. and tells of the total limit what the rule tells
    pub total-tells : ltb (most_total f) (total_after total d req) ≡ over_total d req
    unfolding over_total
    total-tells = ap (ltb (most_total f)) (sym total_kept) ∙ go (eqb f.kind 2) refl
      where
        go : (u : Bool) → eqb f.kind 2 ≡ u → ltb (most_total f) (heeded f (count (result_of d req))) ≡ both u (ltb (most_total f) (count (result_of d req)))
        go true z = ap (ltb (most_total f)) (heeded-many f _ (eqb-true f.kind 2 z))
        go false z = ap (ltb (most_total f)) (heeded-other f _ (eqb-false f.kind 2 z)) ∙ le-ltb (most_total f) 0 (omega arith)
