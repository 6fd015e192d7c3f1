-- A target's sources as a connection names them (document 01, "Desk": "every target and its sources ascending").
use Rattle.std.specs.Prelude.{ℕ, suc, List, [], ◌∷◌, length, leb, eqb}
use Rattle.base_choices.specs.Choices.{pick}
use Rattle.ber_integers.specs.Digits.{Put, unchanged}
use Rattle.ber_identifiers.specs.Identifier.{put_oid}
use Rattle.desk_crosspoints.specs.Figures.{side}
use Rattle.desk_crosspoints.specs.Crosspoints.{Cells, row_at}

-- "its sources ascending": the places of the cells that are set, from s on
unfoldable pub sources_from : ℕ → Cells → List ℕ
sources_from s [] = []
sources_from s (c ∷ cs) =
    let later : List ℕ = sources_from (suc s) cs in
    pick (eqb c 0) later (s ∷ later)

-- those of target t in rows of w cells
abbrev pub sources_in : ℕ → Cells → ℕ → List ℕ
sources_in w cells t = sources_from 0 (row_at w cells t)

-- their octets, of a row of cells, at a position of the output; 46 too for a row of more cells than a desk may have
unfoldable pub put_sources : List ℕ → ℕ → Cells → Put
put_sources out at cells = pick (leb (length cells) side) (put_oid out at (sources_from 0 cells)) (unchanged out)
