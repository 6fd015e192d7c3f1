-- The rules of a kind in one word.
use Prim.Native.Nat.{ℕ, zero, suc, ◌*◌, ◌^◌, ◌/◌, ◌%◌, ◌≤◌, ◌<◌}
use mathlib.Core.Path.{◌≡◌, refl, ap, ◌∙◌}
use mathlib.Core.Bool.{Bool, true}
use mathlib.Core.Logic.{⊎_elim}
use native.Mathlib.Omega.{arith}
use borrow.Author.Tests.{eqb-true}
use lib.Dec.{eqb}
use Rattle.ber_integers.proofs.Radix.{lt-or-le}
use Rattle.glow_grammar.specs.Grammar.{members, rule_of, contents_rows, contents_of}
use Rattle.base_choices.specs.Choices.{both}
use Rattle.base_choices.proofs.Laws.{both_left, both_right}
use Rattle.glow_trees.specs.Legal.{rule_at}
use Rattle.glow_sizes.specs.Kept.{RulesIn}

-- the rules of the first n cells
unfoldable pub right : ℕ → ℕ → ℕ → Bool
right kind w zero = true
right kind w (suc n) = both (eqb (rule_at kind n) (w / 2 ^ (4 * n) % 16)) (right kind w n)

right-at : (kind w n c : ℕ) → right kind w n ≡ true → c < n → rule_at kind c ≡ w / 2 ^ (4 * c) % 16
unfolding right
right-at kind w zero c h l = absurd (omega arith)
right-at kind w (suc n) c h l =
    ⊎_elim (λ (m : c < n). right-at kind w n c (both_right (eqb (rule_at kind n) (w / 2 ^ (4 * n) % 16)) (right kind w n) h) m)
    (λ (m : n ≤ c). let e : c ≡ n = omega arith in
    ap (rule_at kind) e ∙ eqb-true _ _ (both_left (eqb (rule_at kind n) (w / 2 ^ (4 * n) % 16)) (right kind w n) h)
    ∙ ap (λ (i : ℕ). w / 2 ^ (4 * i) % 16) (go e))
    (lt-or-le c n)
  where
    go : {a b : ℕ} → a ≡ b → b ≡ a
    go e = omega arith

pub rules-at : (kind n w : ℕ) → kind ≡ n → right n w 16 ≡ true → RulesIn kind w
rules-at kind n w e h c l = ap (λ (i : ℕ). rule_at i c) e ∙ right-at n w 16 c h l

pub rules-none : (kind : ℕ) → (0 < kind → kind ≤ 12 → ⊥) → RulesIn kind 0
unfolding right rule_at rule_of members contents_of contents_rows
rules-none zero h = rules-at 0 0 0 refl refl
rules-none (suc zero) h = absurd (h (omega arith) (omega arith))
rules-none (suc (suc zero)) h = absurd (h (omega arith) (omega arith))
rules-none (suc (suc (suc zero))) h = absurd (h (omega arith) (omega arith))
rules-none (suc (suc (suc (suc zero)))) h = absurd (h (omega arith) (omega arith))
rules-none (suc (suc (suc (suc (suc zero))))) h = absurd (h (omega arith) (omega arith))
rules-none (suc (suc (suc (suc (suc (suc zero)))))) h = absurd (h (omega arith) (omega arith))
rules-none (suc (suc (suc (suc (suc (suc (suc zero))))))) h = absurd (h (omega arith) (omega arith))
rules-none (suc (suc (suc (suc (suc (suc (suc (suc zero)))))))) h = absurd (h (omega arith) (omega arith))
rules-none (suc (suc (suc (suc (suc (suc (suc (suc (suc zero))))))))) h = absurd (h (omega arith) (omega arith))
rules-none (suc (suc (suc (suc (suc (suc (suc (suc (suc (suc zero)))))))))) h = absurd (h (omega arith) (omega arith))
rules-none (suc (suc (suc (suc (suc (suc (suc (suc (suc (suc (suc zero))))))))))) h = absurd (h (omega arith) (omega arith))
rules-none (suc (suc (suc (suc (suc (suc (suc (suc (suc (suc (suc (suc zero)))))))))))) h = absurd (h (omega arith) (omega arith))
rules-none (suc (suc (suc (suc (suc (suc (suc (suc (suc (suc (suc (suc (suc n))))))))))))) h =
    rules-at (suc (suc (suc (suc (suc (suc (suc (suc (suc (suc (suc (suc (suc n))))))))))))) _ 0 refl refl
