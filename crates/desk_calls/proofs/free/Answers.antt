use native.Mathlib.Omega.{arith}
use mathlib.Core.Path.{sym, ◌∙◌}
use Rattle.desk_requests.proofs.Parts.{others-kind, others-less, others-none, others-take}
use Rattle.desk_calls.proofs.free.Goals as goal

pub returns-then-f-ne-ONE_TO_ONE : goal.returns-then-f-ne-ONE_TO_ONE
returns-then-f-ne-ONE_TO_ONE c = sym (others-kind _ _ _ _ (λ e. omega arith))

pub returns-then-operation-ge-DISCONNECT : goal.returns-then-operation-ge-DISCONNECT
returns-then-operation-ge-DISCONNECT c = sym (others-less _ _ _ _ (omega arith) (omega arith))

pub returns-then-ones-ne1 : goal.returns-then-ones-ne1
returns-then-ones-ne1 c = sym (others-none _ _ _ _ _ (omega arith) (omega arith) c.requires.sources_value (λ e. omega arith))

pub take_from-requires : goal.take_from-requires
take_from-requires c =
    let the-first = c.first in
    (c.requires.cells_len, omega (arith, c.requires.sources_bound, the-first.ensures))

pub returns : goal.returns
returns c =
    let the-first = c.first in
    let the-take-from = c.take_from in
    the-take-from.ensures
    ∙ sym (others-take _ _ _ _ _ _ (omega arith) (omega arith) c.requires.sources_value (omega arith) the-first.ensures)
