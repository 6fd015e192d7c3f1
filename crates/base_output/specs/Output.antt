-- Bytes put into an output from a place on, as far as the output goes, and the place after them.
use Rattle.std.specs.Prelude.{ℕ, ◌+◌, List, length}
use Rattle.std.proofs.lemmas.List.Edits.{sets}

pub record Wrote : Type 0 where
  pub next : ℕ
  pub output : List ℕ

unfoldable pub wrote : List ℕ → ℕ → List ℕ → Wrote
wrote o at bs = record { next = at + length bs; output = sets o at bs }

-- the largest place: none comes after it
abbrev pub last_place : ℕ
last_place = 18446744073709551615
