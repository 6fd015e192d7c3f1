-- What a path that fits tells, and a desk that is legal with it.
use Prim.Native.Nat.{ℕ, suc, ◌+◌, ◌≤◌, ◌<◌}
use mathlib.Core.Path.{◌≡◌}
use mathlib.Core.List.{List}
use mathlib.Core.Bool.{true, false}
use native.Mathlib.Omega.{arith}
use borrow.Author.Tests.{le-leb, lt-leb, leb-true}
use lib.ListN.{length, drop, get_or, drop_of_length-le}
use lib.Seq.{drop-cons}
use lib.Dec.{leb}
use Rattle.base_choices.specs.Choices.{both}
use Rattle.base_choices.proofs.Laws.{both_left, both_right}
use Rattle.desk_crosspoints.specs.Crosspoints.{legal}
use Rattle.desk_crosspoints.specs.Desk.{Desk, all_numbers, path_fits, desk_legal}
use Rattle.desk_crosspoints.proofs.Laws.{both-no, both_yes}

-- a path's numbers from i on
module _ (path : List ℕ) (i : ℕ) where
  pub numbers-end : length path ≤ i → all_numbers (drop i path) ≡ true
  unfolding all_numbers
  numbers-end h = rw (drop_of_length-le path h)

  module _ (h : i < length path) where
    pub numbers-under : get_or path i 0 < 1 → all_numbers (drop i path) ≡ false
    unfolding all_numbers
    numbers-under k = rw (drop-cons path i 0 h, lt-leb _ _ k)

    pub numbers-over : 1 ≤ get_or path i 0 → 2147483647 < get_or path i 0 → all_numbers (drop i path) ≡ false
    unfolding all_numbers
    numbers-over k l = rw (drop-cons path i 0 h, le-leb _ _ k, lt-leb _ _ l)

    pub numbers_more : 1 ≤ get_or path i 0 → get_or path i 0 ≤ 2147483647 → all_numbers (drop i path) ≡ all_numbers (drop (i + 1) path)
    unfolding all_numbers
    numbers_more k l = let d : i + 1 ≡ suc i = omega arith in rw (drop-cons path i 0 h, le-leb _ _ k, le-leb _ _ l, d)

module _ (path : List ℕ) where
  pub path-none : length path < 1 → path_fits path ≡ false
  unfolding path_fits
  path-none h = rw (lt-leb _ _ h)

  pub path-long : 1 ≤ length path → 16 < length path → path_fits path ≡ false
  unfolding path_fits
  path-long h k = rw (le-leb _ _ h, lt-leb _ _ k)

  pub path-rest : 1 ≤ length path → length path ≤ 16 → path_fits path ≡ all_numbers path
  unfolding path_fits
  path-rest h k = rw (le-leb _ _ h, le-leb _ _ k)

  pub path-short : path_fits path ≡ true → length path ≤ 16
  unfolding path_fits
  path-short h =
      leb-true (length path) 16
      (both_right (leb 1 (length path)) (leb (length path) 16) (both_left (both (leb 1 (length path)) (leb (length path) 16)) (all_numbers path) h))

module _ (d : Desk) where
  pub desk-path : path_fits d.path ≡ false → desk_legal d ≡ false
  unfolding desk_legal
  desk-path h = both-no (path_fits d.path) (legal d.figures d.crosspoints) h

  pub desk-rest : path_fits d.path ≡ true → desk_legal d ≡ legal d.figures d.crosspoints
  unfolding desk_legal
  desk-rest h = both_yes (path_fits d.path) (legal d.figures d.crosspoints) h

  module _ (h : desk_legal d ≡ true) where
    pub desk-fits : path_fits d.path ≡ true
    unfolding desk_legal
    desk-fits = both_left (path_fits d.path) (legal d.figures d.crosspoints) h

    pub desk-legal : legal d.figures d.crosspoints ≡ true
    unfolding desk_legal
    desk-legal = both_right (path_fits d.path) (legal d.figures d.crosspoints) h
