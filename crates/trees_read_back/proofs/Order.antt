-- Members with ascending numbers come in order, none twice, and none that is required is left out.
use Prim.Native.Nat.{ℕ, suc, ◌+◌, ◌≤◌}
use mathlib.Core.Path.{◌≡◌, refl, ◌∙◌}
use mathlib.Core.Bool.{Bool, true, false, not}
use mathlib.Core.Logic.{◌⊎◌, inl, inr, ⊎_elim}
use native.Mathlib.Omega.{arith}
use borrow.Author.Tests.{le-leb, le-ltb, leb-true}
use lib.ListN.{get_or-eq_default}
use lib.Dec.{leb, ltb}
use Rattle.base_choices.specs.Choices.{pick}
use Rattle.glow_grammar.specs.Grammar.{requirements, required, is_set}
use Rattle.glow_steps.specs.Members.{marked, due, in_order, again, after_listed, column}
use Rattle.glow_steps.proofs.Marks.{marked_other, marked-none}

-- the member n of a row may come now, and those after it
pub record Ready (row before n : ℕ) : Type 0 where
  pub low : is_set row ≡ false → before ≤ n
  pub high : is_set row ≡ false → (required row ≤ before) ⊎ (before ≡ n)
  pub clear : is_set row ≡ true → (m : ℕ) → n ≤ m → marked before m ≡ false

pub set-required : (row : ℕ) → is_set row ≡ true → required row ≡ 0
unfolding is_set required requirements
set-required row h = get_or-eq_default requirements 0 (leb-true 10 row h)

pub ready-start : (row : ℕ) → Ready row 0 0
ready-start row = record { low = λ e. omega arith; high = λ e. inr refl; clear = λ e m h. marked-none m }

due-none : (row before n : ℕ) → (required row ≤ before) ⊎ (n ≤ before) → due row before n ≡ false
unfolding due
due-none row before n (inl h) = rw (le-ltb _ _ h)
due-none row before n (inr h) = go (ltb before (required row))
  where
    go : (b : Bool) → pick b (ltb before n) false ≡ false
    go true = le-ltb _ _ h
    go false = refl

module _ (row before n : ℕ) (r : Ready row before n) where
  pub ready-order : (m : ℕ) → n ≤ m → (required row ≤ n) ⊎ (m ≡ n) → in_order row before m ≡ true
  unfolding in_order
  ready-order m h k = go (is_set row) refl
    where
      past : is_set row ≡ false → (required row ≤ before) ⊎ (m ≤ before)
      past e =
          ⊎_elim
          (λ (a : required row ≤ before). inl a)
          (λ (a : before ≡ n). ⊎_elim (λ (b : required row ≤ n). inl (omega arith)) (λ (b : m ≡ n). inr (omega arith)) k)
          (r.high e)

      go : (b : Bool) → is_set row ≡ b → pick b true (pick (leb before m) (not (due row before m)) false) ≡ true
      go true e = refl
      go false e = let l = r.low e in let i : before ≤ m = omega arith in rw (le-leb _ _ i, due-none row before m (past e))

  pub ready-fresh : (m : ℕ) → n ≤ m → again row before m ≡ false
  unfolding again
  ready-fresh m h = go (is_set row) refl
    where
      go : (b : Bool) → is_set row ≡ b → pick b (marked before m) false ≡ false
      go true e = r.clear e m h
      go false e = refl

  pub ready-skip : (m : ℕ) → n ≤ m → required row ≤ n → Ready row before m
  ready-skip m h k = record {
    low = λ e. let l = r.low e in omega arith;
    high = λ e. ⊎_elim (λ (a : required row ≤ before). inl a) (λ (a : before ≡ n). inl (omega arith)) (r.high e);
    clear = λ e i l. r.clear e i (omega arith);
  }

  pub ready-done : required row ≤ n → due row before 268435456 ≡ false
  ready-done k = go (is_set row) refl
    where
      go : (b : Bool) → is_set row ≡ b → due row before 268435456 ≡ false
      go true e = let z = set-required row e in due-none row before 268435456 (inl (omega arith))
      go false e =
          due-none row before 268435456
          (⊎_elim (λ (a : required row ≤ before). inl a) (λ (a : before ≡ n). inl (omega arith)) (r.high e))

-- after the member n, those after it
pub ready-after : (row before m n : ℕ) → Ready row before n → n ≤ m → Ready row (after_listed row before m) (suc m)
unfolding after_listed
ready-after row before m n r h = record {
  low = λ e. rw e (omega arith);
  high = λ e. rw e (inr (omega arith));
  clear = λ e i l. rw e (marked_other before m i (λ q. omega arith) ∙ r.clear e i (omega arith));
}

pub column-next : (row n : ℕ) → column row (suc n) ≡ suc (column row n)
unfolding column
column-next row n = go (is_set row)
  where
    go : (b : Bool) → pick b (suc n + 1) (suc n) ≡ suc (pick b (n + 1) n)
    go true = omega arith
    go false = refl
