-- What SETUP's tests tell.
use Prim.Native.Nat.{ℕ, ◌≤◌, ◌<◌}
use mathlib.Core.Path.{◌≡◌, refl, sym, ap, ◌∙◌}
use mathlib.Core.List.{List}
use mathlib.Core.Bool.{Bool, true, false}
use mathlib.Core.Logic.{⊎_elim}
use native.Mathlib.Omega.{arith}
use borrow.Author.Tests.{le-leb, lt-leb, leb-true}
use lib.ListN.{length}
use lib.Dec.{leb}
use Rattle.ber_integers.proofs.Radix.{lt-or-le}
use Rattle.base_choices.specs.Choices.{pick, both}
use Rattle.base_choices.proofs.Laws.{both_left, both_right}
use Rattle.glow_rows.specs.Entry.{Rows}
use Rattle.glow_trees.specs.Content.{Item}
use Rattle.glow_trees.specs.Rows.{items_in}
use Rattle.glow_member_sizes.specs.Spelling.{least_real}
use Rattle.glow_sizes.specs.Accepted.{accepted, fits, length_of, is_whole, octets_of}
use Rattle.desk_crosspoints.specs.Desk.{Desk, desk_legal}
use Rattle.desk_crosspoints.proofs.Laws.{both-no, both_yes}
use Rattle.desk_setup.specs.Ready.{is_ready}
use Rattle.glow_paths.proofs.Items.{in-length}

-- the writer's measure
module _ (real : ℕ → List ℕ) (root rows n : ℕ) (es : List Item) (r : ℕ) (e : length_of real root rows n es ≡ r) where
  measure-no : 16384 < r → fits real root rows n es ≡ false
  unfolding length_of fits
  measure-no h = go (leb n rows) (leb n 256) (is_whole root es) (leb (length (octets_of real root es)) 16384) refl e
    where
      go : (a b c d : Bool) → leb (length (octets_of real root es)) 16384 ≡ d
          → pick (both a (both b (both c d))) (length (octets_of real root es)) 65536 ≡ r
          → both a (both b (both c d)) ≡ false
      go false b c d z y = refl
      go true false c d z y = refl
      go true true false d z y = refl
      go true true true false z y = refl
      go true true true true z y = absurd (omega (arith, h, y, leb-true (length (octets_of real root es)) 16384 z))

  measure-yes : r ≤ 16384 → fits real root rows n es ≡ true
  unfolding length_of
  measure-yes h = go (fits real root rows n es) e
    where
      go : (a : Bool) → pick a (length (octets_of real root es)) 65536 ≡ r → a ≡ true
      go true y = refl
      go false y = absurd (omega (arith, h, y))

  pub measured : fits real root rows n es ≡ leb r 16384
  measured = ⊎_elim (λ (h : 16384 < r). measure-no h ∙ sym (lt-leb _ _ h)) (λ (h : r ≤ 16384). measure-yes h ∙ sym (le-leb _ _ h)) (lt-or-le 16384 r)

-- it says whether the entries make a tree that the reader accepts
measure-accepted : (root : ℕ) (s : List ℕ) (rows : Rows) (n : ℕ)
    → both (leb n (length rows)) (accepted root (items_in s rows n)) ≡ fits least_real root (length rows) n (items_in s rows n)
unfolding fits accepted
measure-accepted root s rows n = go (leb n (length rows)) refl
  where
    go : (a : Bool) → leb n (length rows) ≡ a
        → both a (both (leb (length (items_in s rows n)) 256)
        (both (is_whole root (items_in s rows n)) (leb (length (octets_of least_real root (items_in s rows n))) 16384)))
        ≡ both a (both (leb n 256) (both (is_whole root (items_in s rows n)) (leb (length (octets_of least_real root (items_in s rows n))) 16384)))
    go false e = refl
    go true e =
        ap (λ (m : ℕ). both (leb m 256) (both (is_whole root (items_in s rows n)) (leb (length (octets_of least_real root (items_in s rows n))) 16384)))
        (in-length s rows n (leb-true n (length rows) e))

module _ (d : Desk) (root : ℕ) (rows : Rows) (n : ℕ) (s : List ℕ) where
  abbrev es : List Item
  es = items_in s rows n

  pub setup-rows : 256 < length rows → is_ready d root rows n s ≡ false
  unfolding is_ready
  setup-rows h = both-no _ _ (lt-leb _ _ h)

  module _ (h : length rows ≤ 256) where
    pub setup-message : 16384 < length s → is_ready d root rows n s ≡ false
    unfolding is_ready
    setup-message l = both_yes _ _ (le-leb _ _ h) ∙ both-no _ _ (lt-leb _ _ l)

    module _ (l : length s ≤ 16384) where
      ready : is_ready d root rows n s ≡ both (desk_legal d) (fits least_real root (length rows) n es)
      unfolding is_ready
      ready =
          both_yes _ _ (le-leb _ _ h) ∙ both_yes _ _ (le-leb _ _ l)
          ∙ ap (both (desk_legal d)) (measure-accepted root s rows n)

      pub setup-desk : desk_legal d ≡ false → is_ready d root rows n s ≡ false
      setup-desk k = ready ∙ both-no _ _ k

      pub by_entries : desk_legal d ≡ true → (r : ℕ) → length_of least_real root (length rows) n es ≡ r → is_ready d root rows n s ≡ leb r 16384
      by_entries k r e = ready ∙ both_yes _ _ k ∙ measured least_real root (length rows) n es r e

  -- what a caller has to show: a table and a message that are not too long, a legal desk, entries that stand in the rows and make a tree that the reader
  -- accepts
  pub ready-from : length rows ≤ 256 → length s ≤ 16384 → desk_legal d ≡ true → n ≤ length rows → accepted root es ≡ true
      → is_ready d root rows n s ≡ true
  unfolding is_ready
  ready-from h m k l a = rw (le-leb _ _ h, le-leb _ _ m, k, le-leb _ _ l, a)

  -- what 0 tells
  pub ready-tells : is_ready d root rows n s ≡ true → (desk_legal d ≡ true) × (accepted root es ≡ true)
  unfolding is_ready
  ready-tells e =
      let a = both_right (leb (length s) 16384) _ (both_right (leb (length rows) 256) _ e) in
      (both_left (desk_legal d) _ a, both_right (leb n (length rows)) _ (both_right (desk_legal d) _ a))

  -- .. and of lengths
  pub ready-lengths : is_ready d root rows n s ≡ true → (length rows ≤ 256) × (n ≤ length rows)
  unfolding is_ready
  ready-lengths e =
      let a = both_right (leb (length s) 16384) _ (both_right (leb (length rows) 256) _ e) in (
        leb-true (length rows) 256 (both_left (leb (length rows) 256) _ e),
        leb-true n (length rows) (both_left (leb n (length rows)) _ (both_right (desk_legal d) _ a)),
      )
