-- Laws of the definitions, at plain variables; and that words and states are each other's.
use Prim.Native.Nat.{ℕ, ◌<◌}
use mathlib.Core.Path.{◌≡◌, refl}
use mathlib.Core.Bool.{Bool, true, false}
use mathlib.Core.List.{List}
use native.Mathlib.Omega.{arith}
use borrow.Author.Tests.{eqb-true, ltb-true, lt-ltb}
use lib.Dec.{eqb, ltb}
use lib.ListN.{length, get_or}
use Rattle.base_choices.proofs.Laws.{pick-by}
use Rattle.supervision.specs.declared.Happened.{Happened}
use Rattle.supervision.specs.declared.Link.{Link}
use Rattle.supervision.specs.declared.Link.TheVariants.{Silent, Asked, Dead}
use Rattle.supervision.specs.declared.Shown.{Shown}
use Rattle.supervision.specs.Events.{happened_by}
use Rattle.supervision.specs.Supervisor.{wrap, shows}
use Rattle.supervision_c.specs.Words.{tick_word, words_of, link_from, link_at, is_pair, is_link, number_of}
use Rattle.supervision_c.specs.Calls.{calls}

-- ---- states and words

-- a state's words are words of a state, and are that state's
pub words_back : (l : Link) → link_at (words_of l) ≡ l
unfolding link_from
words_back (Silent t) = refl
words_back (Asked t) = refl
words_back Dead = refl

pub words-link : (l : Link) → tick_word l < wrap → is_link (words_of l) ≡ true
unfolding is_link is_pair
words-link (Silent t) h = lt-ltb _ _ h
words-link (Asked t) h = lt-ltb _ _ h
words-link Dead h = refl

never : false ≡ true → ⊥
never g = let z : ◌≡◌ {A = ℕ} 0 1 = cc in omega arith

pub pair-tick : (p t : ℕ) → is_pair p t ≡ true → t < wrap
unfolding is_pair
pair-tick p t =
    pick-by (λ (b : Bool). b ≡ true → t < wrap) (ltb p 2) (λ e h. ltb-true _ _ h)
    (λ e. pick-by (λ (b : Bool). b ≡ true → t < wrap) (eqb p 2) (λ f h. omega (arith, eqb-true t 0 h)) (λ f h. absurd (never h)))

pub link-length : (ws : List ℕ) → is_link ws ≡ true → length ws ≡ 2
unfolding is_link
link-length ws = pick-by (λ (b : Bool). b ≡ true → length ws ≡ 2) (eqb (length ws) 2) (λ e h. eqb-true _ _ e) (λ e h. absurd (never h))

pub link-tick : (ws : List ℕ) → is_link ws ≡ true → get_or ws 1 0 < wrap
unfolding is_link
link-tick ws = pick-by (λ (b : Bool). b ≡ true → get_or ws 1 0 < wrap) (eqb (length ws) 2) (λ e h. pair-tick _ _ h) (λ e h. absurd (never h))

-- ---- calls

module _ (ws : List ℕ) (tick n : ℕ) where
  pub calls-setup : is_link ws ≡ false → calls ws tick n ≡ record { number = 1; link = ws }
  unfolding calls
  calls-setup e = rw e

  pub calls-taken : {l : Link} {h : Happened} {r : Shown} {ws' : List ℕ} {k : ℕ} → is_link ws ≡ true → l ≡ link_at ws → h ≡ happened_by n → r ≡ shows l tick h
      → ws' ≡ words_of r.link → k ≡ number_of r.answer → calls ws tick n ≡ record { number = k; link = ws' }
  unfolding calls
  calls-taken e f g i j m = rw (e, ← f, ← g, ← i, j, m)
