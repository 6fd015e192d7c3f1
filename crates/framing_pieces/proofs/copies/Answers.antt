use Prim.Native.Nat.{ℕ, ◌≤◌, ◌+◌}
use mathlib.Core.Path.{◌≡◌, sym, ap, ◌∙◌}
use mathlib.Core.List.{List, ◌++◌}
use native.Mathlib.Omega.{arith}
use lib.ListN.{length, take, drop}
use lib.Seq.{sets, sets-eq, paste}
use Rattle.framing_session.proofs.Lists.{length_part}
use Rattle.framing_pieces.proofs.copies.Goals as goal

-- a part of the list, put in at a place
pasted : (t : List ℕ) (at from n m : ℕ) → m ≡ n → at + n ≤ length t → from + n ≤ length t
    → paste t at (drop from t) m ≡ sets t at (take n (drop from t))
pasted t at from n m e room l =
    let k : length (take n (drop from t)) ≡ n = length_part n from t l in
    ap (paste t at (drop from t)) e
    ∙ sym (sets-eq (take n (drop from t)) t at (omega arith) ∙ ap (λ (j : ℕ). take at t ++ take n (drop from t) ++ drop (at + j) t) k)

pub returns : goal.returns
returns c =
    let a = c.args in
    let p = c.requires in
    c.copy_within.ensures.after ∙ pasted a.store.now a.at 16393 a.n _ (omega arith) (omega (arith, p)) (omega (arith, p))
