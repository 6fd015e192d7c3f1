use Rattle.desk_crosspoints.proofs.Laws.{kind-many, kind-other, kind-sources, size_is}
use Rattle.desk_crosspoints.specs.Figures.{most_total}
use mathlib.Core.Path.{ap, ◌∙◌}
use lib.Dec.{leb}
use Prim.Native.Nat.{ℕ}
use native.Mathlib.Omega.{arith}
use Rattle.desk_crosspoints.proofs.kind_fits.Goals as goal

pub sources_fit-requires : goal.sources_fit-requires
sources_fit-requires c =
    let the-index = c.index in
    let the-index2 = c.index-then-f-eq-ONE_TO_ONE in
    let z = size_is c.args.f c.args.cells.now _ _ the-index.ensures the-index2.ensures c.requires.cells_len in
    record { w_le_side = omega (arith, the-index2.ensures); cells_len = z }

pub returns-then-f-eq-ONE_TO_ONE : goal.returns-then-f-eq-ONE_TO_ONE
returns-then-f-eq-ONE_TO_ONE c =
    let the-index = c.index in
    let the-index2 = c.index-then-f-eq-ONE_TO_ONE in
    let the-sources-fit = c.sources_fit in
    kind-sources _ _ _ _ _ (omega arith) the-index.ensures the-index2.ensures the-sources-fit.ensures

pub returns-then-f-eq-N_TO_N : goal.returns-then-f-eq-N_TO_N
returns-then-f-eq-N_TO_N c =
    let the-count = c.count in
    let the-in-total = c.in_total in
    kind-many _ _ (omega arith) ∙ ap (λ (n : ℕ). leb n (most_total c.args.f)) the-count.ensures ∙ the-in-total.ensures

pub returns : goal.returns
returns c = kind-other _ _ (λ e. omega arith) (λ e. omega arith)
