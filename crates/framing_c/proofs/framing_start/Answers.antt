use mathlib.Core.List.{List}
use Prim.Native.Nat.{ℕ}
use Rattle.framing_words.specs.Words.{words_of}
use Rattle.framing_words.proofs.Laws.{put_four}
use native.Mathlib.Omega.{arith}
use lib.ListN.{length}
use mathlib.Core.Path.{◌≡◌, sym, ap, ◌∙◌}
use borrow.Author.Tests.{eq-eqb}
use Rattle.framing_c.specs.Calls.{starts}
use Rattle.framing_c.proofs.framing_start.Goals as goal

pub returns : goal.returns
unfolding starts
returns c =
    let four : length c.args.session.now ≡ 4 = omega arith in
    simp (eq-eqb _ _ four) (ap (λ (ws : List ℕ). record { number = 0; session = ws })
    (sym (c.put_session.ensures ∙ (put_four _ _ four ∙ ap words_of c.start.ensures))))
