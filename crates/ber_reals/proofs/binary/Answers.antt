use Rattle.std.specs.Prelude.{Float, Option}
use Prim.Native.Nat.{ℕ, ◌+◌, ◌-◌, ◌/◌, ◌%◌}
use mathlib.Core.Path.{◌≡◌, ap, ◌∙◌}
use mathlib.Core.List.{List}
use native.Mathlib.Omega.{arith}
use lib.ListN.{length, take, drop, get_or}
use lib.Dec.{leb}
use lib.IntN.{pos, ◌+ℤ◌}
use Rattle.ber_integers.specs.Digits.{natural}
use Rattle.ber_integers.specs.Integer.{signed}
use Rattle.ber_integers.proofs.Laws.{length_part}
use Rattle.ber_reals.specs.Number.{number}
use Rattle.ber_reals.specs.Real.{binary_real}
use Rattle.ber_reals.proofs.RealLaws.{binary-not, binary-base, binary-form, binary-short, binary-long, message-is}
use Rattle.ber_reals.proofs.Naturals.{read-value, read-never}
use Rattle.ber_reals.proofs.binary.Goals.{After-from-first}
use Rattle.ber_reals.proofs.binary.Goals as goal

-- `ber_reals::binary` meets its contract. Assumes nothing.
-- the octets after the first
module _ (c : After-from-first) where
  abbrev first : ℕ
  first = c.from-first.result

  abbrev rest : List ℕ
  rest = take (c.args.n - 1) (drop (c.args.at + 1) c.args.s.now)

  rest-length : length rest ≡ c.args.n - 1
  rest-length = length_part c.args.s.now (c.args.at + 1) (c.args.n - 1) (omega arith)

  -- an answer for the first octet as it was read
  answer : (r : Option Float) → r ≡ binary_real first rest → r ≡ binary_real (get_or c.args.s.now c.args.at 0) rest
  answer r e = e ∙ ap (λ (x : ℕ). binary_real x rest) c.from-first.ensures

pub returns-then-first-lt128 : goal.returns-then-first-lt128
returns-then-first-lt128 c = answer (goal.at.returns-then-first-lt128 c).After-from-first _ (binary-not (first (goal.at.returns-then-first-lt128 c).After-from-first) (rest (goal.at.returns-then-first-lt128 c).After-from-first) c.if-first-lt128.true)

pub returns-then-first-ne0 : goal.returns-then-first-ne0
returns-then-first-ne0 c = answer (goal.at.returns-then-first-ne0 c).After-from-first _ (binary-base (first (goal.at.returns-then-first-ne0 c).After-from-first) (rest (goal.at.returns-then-first-ne0 c).After-from-first) c.if-first-ne0.true)

pub returns-then-e-gt3 : goal.returns-then-e-gt3
returns-then-e-gt3 c = answer (goal.at.returns-then-e-gt3 c).After-from-first _ (binary-form (first (goal.at.returns-then-e-gt3 c).After-from-first) (rest (goal.at.returns-then-e-gt3 c).After-from-first) c.if-e-gt3.true)

pub returns-then-n-e : goal.returns-then-n-e
returns-then-n-e c = let l = rest-length (goal.at.returns-then-n-e c).After-from-first in answer (goal.at.returns-then-n-e c).After-from-first _ (binary-short (first (goal.at.returns-then-n-e c).After-from-first) (rest (goal.at.returns-then-n-e c).After-from-first) (omega arith))

pub returns-then-e-n : goal.returns-then-e-n
returns-then-e-n c = let l = rest-length (goal.at.returns-then-e-n c).After-from-first in answer (goal.at.returns-then-e-n c).After-from-first _ (binary-long (first (goal.at.returns-then-e-n c).After-from-first) (rest (goal.at.returns-then-e-n c).After-from-first) (omega arith))

pub returns-in_default : goal.returns-in_default
returns-in_default c =
    let a = c.args in
    let f = first (goal.at.returns-in_default c).After-from-first in
    let u = c.read_unsigned in
    absurd (read-never a.s.now (a.at + 1 + (f % 4 + 1)) (a.n - 1 - (f % 4 + 1)) (omega arith) (omega arith) u.result u.ensures.is
    c.in_default.is)

pub returns : goal.returns
returns c =
    let a = c.args in
    let f = first (goal.at.returns c).After-from-first in
    let e = f % 4 + 1 in
    let u = c.read_unsigned in
    let p = c.power-p in
    let m : c.in-Some.m ≡ natural (take (a.n - 1 - e) (drop (a.at + 1 + e) a.s.now)) =
    read-value a.s.now (a.at + 1 + e) (a.n - 1 - e) (omega arith) (omega arith) u.result u.ensures.is c.in-Some.m
    c.in-Some.is in
    answer (goal.at.returns c).After-from-first _
    (c.exact.ensures
    ∙ ap (number (leb 64 (f % 128)) c.in-Some.m) p.ensures.result_value
    ∙ ap (λ (x : ℕ). number (leb 64 (f % 128)) x (signed (take e (drop (a.at + 1) a.s.now)) +ℤ pos (f / 4 % 4))) m
    ∙ message-is a.s.now a.at a.n f (omega arith) (omega arith) (omega arith) (omega arith) (omega arith) (omega arith))
