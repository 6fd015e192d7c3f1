-- The words of what a cell or a row stands for are its own.
use Rattle.std.specs.Prelude.{Some, None}
use Prim.Native.Nat.{ℕ, ◌+◌, ◌-◌, ◌*◌, ◌≤◌, ◌<◌, ◌^◌}
use mathlib.Core.Path.{◌≡◌, refl}
use mathlib.Core.Bool.{Bool, true, false}
use mathlib.Core.List.{List, []}
use native.Mathlib.Omega.{arith}
use borrow.Author.Tests.{le-leb, eqb-true, eqb-false}
use lib.Dec.{leb, ltb, eqb}
use lib.ListN.{get_or}
use Rattle.base_choices.specs.Choices.{pick}
use Rattle.glow_rows.specs.declared.Cell.{Cell}
use Rattle.glow_rows.specs.Place as place
use Rattle.glow_rows.specs.Row.{cell_at, cell_in}
use Rattle.glow_entries.specs.Record.{ConnectionWords, MatrixWords, connection_of, matrix_of}
use Rattle.glow_rows.specs.Cell.{cell, absent, numbers, word_of, int_of, number_in, octets_in}
use Rattle.glow_rows.proofs.Values.{word-int}
use Rattle.glow_entries.specs.Member.{number_cell, int_in, number_of, part, part_cell, part_of, parent_word, parent_of}

module _ (v : Cell) (h : v.first < 2 ^ 64) where
  low : number_in v < 2 ^ 64
  unfolding number_in
  low = go (eqb v.kind 2) (eqb v.second 0)
    where
      go : (a b : Bool) → pick a (pick b v.first 0) 0 < 2 ^ 64
      go true true = h
      go true false = omega arith
      go false b = omega arith

  pub int_word : word_of (int_in v) ≡ number_in v
  unfolding int_in
  int_word = word-int (number_in v) low

  pub number_word : number_in (number_cell (number_of v)) ≡ number_in v
  unfolding number_of number_in
  number_word = go (eqb v.kind 2) (eqb v.second 0)
    where
      go : (a b : Bool) → number_in (number_cell (pick a (pick b (Some (int_of v.first)) None) None)) ≡ pick a (pick b v.first 0) 0
      go true true = word-int v.first h
      go true false = refl
      go false b = refl

-- of a row of words of 64 bits
module _ (r : List ℕ) (h : (i : ℕ) → get_or r i 0 < 2 ^ 64) where
  fits : (c : ℕ) → (cell_in r c).first < 2 ^ 64
  unfolding cell_in
  fits c = go (ltb c 16)
    where
      go : (b : Bool) → (pick b (cell_at r c) absent).first < 2 ^ 64
      go true = h (3 + c * 3)
      go false = omega arith

  pub connection_words : ConnectionWords r (connection_of r)
  unfolding connection_of
  connection_words = record {
    target = int_word (cell_in r place.target) (fits place.target);
    operation = number_word (cell_in r place.operation) (fits place.operation);
  }

  pub matrix_words : MatrixWords r (matrix_of r)
  unfolding matrix_of
  matrix_words = record {
    matrix_type = number_word (cell_in r place.matrix_type) (fits place.matrix_type);
    mode = number_word (cell_in r place.mode) (fits place.mode);
    targets = number_word (cell_in r place.targets) (fits place.targets);
    sources = number_word (cell_in r place.sources) (fits place.sources);
    total_limit = number_word (cell_in r place.total_limit) (fits place.total_limit);
    target_limit = number_word (cell_in r place.target_limit) (fits place.target_limit);
  }

pub part-octets : (s : List ℕ) (v : Cell) → octets_in s (part_cell numbers (part_of numbers v)) ≡ octets_in s v
unfolding part_of octets_in
part-octets s v = go (eqb v.kind 13)
  where
    go : (b : Bool) → octets_in s (part_cell numbers (pick b (part v.first v.second) None))
        ≡ pick b (octets_in s (cell 13 v.first v.second)) []
    go true = refl
    go false = refl

-- a parent's place and 1, where it fits
pub parent-word : (r : List ℕ) → get_or r 1 0 ≤ 2 ^ 32 → parent_word (parent_of r) ≡ get_or r 1 0
unfolding parent_of
parent-word r h = go (eqb (get_or r 1 0) 0) refl
  where
    go : (b : Bool) → eqb (get_or r 1 0) 0 ≡ b →
        parent_word (pick b None (pick (leb (get_or r 1 0) 0x100000000) (Some (get_or r 1 0 - 1)) None)) ≡ get_or r 1 0
    go true e = let k = eqb-true (get_or r 1 0) 0 e in omega (arith, k)
    go false e = let k = eqb-false (get_or r 1 0) 0 e in rw (le-leb _ _ h) (omega (arith, k))
