-- Laws of a desk's figures as words, at plain variables.
use Rattle.std.specs.Prelude.{Option, Some, None, is_some}
use Rattle.std.specs.Bool.{then_some}
use Rattle.std.specs.Int.{from_bool}
use Rattle.std.specs.Option.{unwrap_or}
use Rattle.base_choices.specs.Choices.{pick}
use Prim.Native.Nat.{ℕ}
use mathlib.Core.Path.{◌≡◌, refl, sym, ◌∙◌}
use mathlib.Core.Bool.{Bool, true, false, not}
use mathlib.Core.List.{List}
use borrow.Author.Tests.{eq-eqb, ne_eqb}
use lib.Dec.{eqb}
use lib.ListN.{length, get_or}
use Rattle.desk_crosspoints.specs.declared.Figures.{Figures}
use Rattle.desk_words.specs.Words.{words_of, given_word, limit_word, limit_at, figures_at, is_limit, is_figures, words_in}

limit-back : (l : Option ℕ) → limit_at (given_word l) (limit_word l) ≡ l
unfolding limit_at
limit-back None = refl
limit-back (Some n) = refl

is-limit : (l : Option ℕ) → is_limit (given_word l) (limit_word l) ≡ true
unfolding is_limit
is-limit None = refl
is-limit (Some n) = refl

-- a desk's words are words of figures, and are that desk's
pub figures-back : (f : Figures) → figures_at (words_of f) ≡ f
figures-back f = rw (limit-back f.total, limit-back f.each)

pub figures-words : (f : Figures) → is_figures (words_of f) ≡ true
unfolding is_figures
figures-words f = rw (is-limit f.total, is-limit f.each) refl

module _ (given n : ℕ) where
  pub limit-none : given ≡ 0 → eqb n 0 ≡ is_limit given n
  unfolding is_limit
  limit-none h = rw (eq-eqb _ _ h) refl

  pub limit-given : (given ≡ 0 → ⊥) → eqb given 1 ≡ is_limit given n
  unfolding is_limit
  limit-given h = rw (ne_eqb _ _ h) refl

  pub limit-tested : then_some (not (eqb given 0)) n ≡ limit_at given n
  unfolding limit_at
  limit-tested = go (eqb given 0)
    where
      go : (b : Bool) → then_some (not b) n ≡ pick b None (Some n)
      go true = refl
      go false = refl

module _ (ws : List ℕ) where
  pub figures-length : (length ws ≡ 7 → ⊥) → false ≡ is_figures ws
  unfolding is_figures
  figures-length h = simp (ne_eqb _ _ h)

  pub figures-second : {b t : Bool} → length ws ≡ 7 → b ≡ is_limit (get_or ws 3 0) (get_or ws 4 0) → b ≡ true
      → t ≡ is_limit (get_or ws 5 0) (get_or ws 6 0) → t ≡ is_figures ws
  unfolding is_figures
  figures-second h i y j = rw (eq-eqb _ _ h, sym i ∙ y) j

  pub figures-first : {b : Bool} → length ws ≡ 7 → b ≡ is_limit (get_or ws 3 0) (get_or ws 4 0) → b ≡ false → false ≡ is_figures ws
  unfolding is_figures
  figures-first h i n = rw (eq-eqb _ _ h, sym i ∙ n) refl

-- a limit's two words
pub given-word : (l : Option ℕ) → from_bool (is_some l) ≡ given_word l
given-word None = refl
given-word (Some n) = refl

pub limit-word : (l : Option ℕ) → unwrap_or l 0 ≡ limit_word l
limit-word None = refl
limit-word (Some n) = refl

-- seven words become the figures'; any other count stays as it was
pub words-seven : (ws : List ℕ) (f : Figures) → length ws ≡ 7 → words_in ws f ≡ words_of f
unfolding words_in
words-seven ws f h = simp (eq-eqb _ _ h)

pub words-other : (ws : List ℕ) (f : Figures) → (length ws ≡ 7 → ⊥) → words_in ws f ≡ ws
unfolding words_in
words-other ws f h = simp (ne_eqb _ _ h)
