-- A desk's figures as seven words, and back: type, targets, sources; whether a limit in total is given, and it; whether a limit per target is given, and it.
use Rattle.std.specs.Prelude.{ℕ, Bool, List, [], ◌∷◌, eqb, length, get_or, Option, Some, None}
use Rattle.base_choices.specs.Choices.{pick, both}
use Rattle.desk_crosspoints.specs.declared.Figures.{Figures}
use Rattle.desk_crosspoints.specs.Crosspoints.{Cells}
use Rattle.desk_crosspoints.specs.Desk.{Desk, desk_at}

abbrev pub given_word : Option ℕ → ℕ
given_word None = 0
given_word (Some n) = 1

abbrev pub limit_word : Option ℕ → ℕ
limit_word None = 0
limit_word (Some n) = n

abbrev pub words_of : Figures → List ℕ
words_of f =
    f.kind ∷ f.targets ∷ f.sources
    ∷ given_word f.total ∷ limit_word f.total
    ∷ given_word f.each ∷ limit_word f.each ∷ []

unfoldable pub limit_at : ℕ → ℕ → Option ℕ
limit_at given n = pick (eqb given 0) None (Some n)

abbrev pub figures_at : List ℕ → Figures
figures_at ws =
    record {
      kind = get_or ws 0 0;
      targets = get_or ws 1 0;
      sources = get_or ws 2 0;
      total = limit_at (get_or ws 3 0) (get_or ws 4 0);
      each = limit_at (get_or ws 5 0) (get_or ws 6 0);
    }

-- the desk that lent words of figures, a path and crosspoints are
abbrev pub desk_in : List ℕ → List ℕ → Cells → Desk
desk_in ws path cells = desk_at (figures_at ws) path cells

-- Words that are a limit's: 0 and 0, or 1 and a number. Whether the number is in its range is the desk's to say.
unfoldable pub is_limit : ℕ → ℕ → Bool
is_limit given n = pick (eqb given 0) (eqb n 0) (eqb given 1)

unfoldable pub is_figures : List ℕ → Bool
is_figures ws =
    both (eqb (length ws) 7)
    (both (is_limit (get_or ws 3 0) (get_or ws 4 0)) (is_limit (get_or ws 5 0) (get_or ws 6 0)))

-- what words that were lent become: the figures', if there are seven
unfoldable pub words_in : List ℕ → Figures → List ℕ
words_in ws f = pick (eqb (length ws) 7) (words_of f) ws
