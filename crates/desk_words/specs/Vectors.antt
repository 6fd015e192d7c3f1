-- A desk's figures and their words, by computation.
use Rattle.std.specs.Prelude.{ℕ, ◌≡◌, refl, true, false, List, [], ◌∷◌, Option, Some, None}
use Rattle.desk_crosspoints.specs.declared.Figures.{Figures}
use Rattle.desk_words.specs.Words.{words_of, limit_at, figures_at, is_limit, is_figures, words_in}

abbrev figures : Option ℕ → Option ℕ → Figures
figures total each = record { kind = 2; targets = 3; sources = 4; total = total; each = each }

abbrev seven : ℕ → ℕ → ℕ → ℕ → List ℕ
seven a b c d = 2 ∷ 3 ∷ 4 ∷ a ∷ b ∷ c ∷ d ∷ []

-- type, targets, sources, the limit in total, the limit per target: each given or not
pub v-words :
    (words_of (figures (Some 7) None) ≡ seven 1 7 0 0) ×
    (words_of (figures None (Some 5)) ≡ seven 0 0 1 5) ×
    (figures_at (seven 1 7 0 0) ≡ figures (Some 7) None) ×
    (figures_at (seven 0 0 1 5) ≡ figures None (Some 5)) ×
    (words_in (9 ∷ 9 ∷ 9 ∷ 9 ∷ 9 ∷ 9 ∷ 9 ∷ []) (figures (Some 0) (Some 5)) ≡ seven 1 0 1 5) ×
    (words_in (9 ∷ 9 ∷ 9 ∷ 9 ∷ 9 ∷ 9 ∷ []) (figures (Some 0) (Some 5)) ≡ 9 ∷ 9 ∷ 9 ∷ 9 ∷ 9 ∷ 9 ∷ [])
unfolding limit_at words_in
v-words = (refl, refl, refl, refl, refl, refl)

-- seven words; a limit that is not given is 0, one that is has a 1 before it
pub v-figures :
    (is_figures (seven 1 7 0 0) ≡ true) ×
    (is_figures (seven 0 0 1 5) ≡ true) ×
    (is_figures (seven 2 7 0 0) ≡ false) ×
    (is_figures (seven 0 7 0 0) ≡ false) ×
    (is_figures (seven 0 0 2 5) ≡ false) ×
    (is_figures (seven 0 0 0 5) ≡ false) ×
    (is_figures (2 ∷ 3 ∷ 4 ∷ 0 ∷ 0 ∷ 0 ∷ []) ≡ false) ×
    (is_figures (2 ∷ 3 ∷ 4 ∷ 0 ∷ 0 ∷ 0 ∷ 0 ∷ 0 ∷ []) ≡ false)
unfolding is_limit is_figures
v-figures = (refl, refl, refl, refl, refl, refl, refl, refl)
