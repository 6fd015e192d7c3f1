-- What the tables of the grammar say of a kind that stands in a collection.
use Prim.Native.Nat.{ℕ, zero, suc, ◌≤◌, ◌<◌}
use mathlib.Core.Path.{◌≡◌, refl, subst}
use mathlib.Core.List.{List, [], ◌∷◌}
use mathlib.Core.Bool.{Bool, true, false, not}
use mathlib.Core.Logic.{◌⊎◌, inl, inr}
use native.Mathlib.Omega.{arith}
use borrow.Author.Tests.{ltb-true, leb-true, eqb-true, eqb-false, not-true}
use lib.ListN.{get_or}
use lib.Dec.{ltb, eqb}
use Rattle.base_choices.specs.Choices.{pick, both}
use Rattle.base_choices.proofs.Laws.{both_left, both_right}
use Rattle.glow_grammar.specs.Grammar.{members, rule_of, requirements, required, is_set, contents_rows, contents_of, applications, holds, kind_among, kind_in}
use Rattle.glow_trees.specs.Trees.{among, stands_in}
use Rattle.trees_read_back.proofs.Bools.{never}
use Rattle.trees_read_back.proofs.Members.{Plain}

-- a table whose entries are no numbers of a path, and hold no others
abbrev fine : ℕ → Bool
fine what = both (ltb what 13) (both (not (eqb what 5)) (not (eqb what 6)))

abbrev all_fine : List ℕ → Bool
all_fine [] = true
all_fine (x ∷ xs) = both (fine x) (all_fine xs)

fine-at : (l : List ℕ) (m : ℕ) → all_fine l ≡ true → fine (get_or l m 0) ≡ true
fine-at [] m e = refl
fine-at (x ∷ l) zero e = both_left (fine x) _ e
fine-at (x ∷ l) (suc m) e = fine-at l m (both_right (fine x) _ e)

plain_row : (row : ℕ) → all_fine (get_or members row []) ≡ true → Plain row
unfolding rule_of
plain_row row e m =
    let what = get_or (get_or members row []) m 0 in
    let f = fine-at (get_or members row []) m e in
    let g = both_right (ltb what 13) _ f in (
      ltb-true _ _ (both_left (ltb what 13) _ f),
      (eqb-false what 5 (not-true _ (both_left (not (eqb what 5)) _ g)), eqb-false what 6 (not-true _ (both_right (not (eqb what 5)) _ g))),
    )

-- a command, a connection, a stream entry: members alone
pub record Simple (kind : ℕ) : Type 0 where
  pub alone : contents_of kind ≡ 0
  pub plain : Plain kind
  pub no_kids : eqb (rule_of kind 2) 14 ≡ false
  pub no-links : eqb (rule_of kind 5) 15 ≡ false
  pub few : required kind ≤ 16

-- an element with contents: its number or path, contents, children and perhaps connections
pub record Full (kind : ℕ) : Type 0 where
  pub row-some : contents_of kind ≡ 0 → ⊥
  pub row-set : is_set (contents_of kind) ≡ true
  pub plain : Plain (contents_of kind)
  pub one : required kind ≡ 1
  pub first : rule_of kind 0 < 13
  pub second : rule_of kind 1 ≡ 13
  pub third : rule_of kind 2 ≡ 14

pub record Known (which kind : ℕ) : Type 0 where
  pub known : kind_in which (get_or applications kind 0) ≡ kind
  pub small : get_or applications kind 0 < 31
  pub some : kind ≡ 0 → ⊥
  pub sequence : is_set kind ≡ false
  pub shape : Simple kind ⊎ Full kind

-- kind by kind
shape-1 : Simple 1 ⊎ Full 1
unfolding members rule_of requirements required is_set contents_rows contents_of
shape-1 =
    inr (record { row-some = λ q. omega arith; row-set = refl; plain = plain_row 10 refl; one = refl; first = ltb-true _ _ refl; second = refl; third = refl })

shape-2 : Simple 2 ⊎ Full 2
unfolding members rule_of requirements required is_set contents_rows contents_of
shape-2 = inl (record { alone = refl; plain = plain_row 2 refl; no_kids = refl; no-links = refl; few = leb-true _ _ refl })

shape-3 : Simple 3 ⊎ Full 3
unfolding members rule_of requirements required is_set contents_rows contents_of
shape-3 =
    inr (record { row-some = λ q. omega arith; row-set = refl; plain = plain_row 11 refl; one = refl; first = ltb-true _ _ refl; second = refl; third = refl })

shape-4 : Simple 4 ⊎ Full 4
unfolding members rule_of requirements required is_set contents_rows contents_of
shape-4 =
    inr (record { row-some = λ q. omega arith; row-set = refl; plain = plain_row 12 refl; one = refl; first = ltb-true _ _ refl; second = refl; third = refl })

shape-5 : Simple 5 ⊎ Full 5
unfolding members rule_of requirements required is_set contents_rows contents_of
shape-5 =
    inr (record { row-some = λ q. omega arith; row-set = refl; plain = plain_row 10 refl; one = refl; first = ltb-true _ _ refl; second = refl; third = refl })

shape-6 : Simple 6 ⊎ Full 6
unfolding members rule_of requirements required is_set contents_rows contents_of
shape-6 =
    inr (record { row-some = λ q. omega arith; row-set = refl; plain = plain_row 11 refl; one = refl; first = ltb-true _ _ refl; second = refl; third = refl })

shape-7 : Simple 7 ⊎ Full 7
unfolding members rule_of requirements required is_set contents_rows contents_of
shape-7 =
    inr (record { row-some = λ q. omega arith; row-set = refl; plain = plain_row 12 refl; one = refl; first = ltb-true _ _ refl; second = refl; third = refl })

shape-8 : Simple 8 ⊎ Full 8
unfolding members rule_of requirements required is_set contents_rows contents_of
shape-8 = inl (record { alone = refl; plain = plain_row 8 refl; no_kids = refl; no-links = refl; few = leb-true _ _ refl })

shape-9 : Simple 9 ⊎ Full 9
unfolding members rule_of requirements required is_set contents_rows contents_of
shape-9 = inl (record { alone = refl; plain = plain_row 9 refl; no_kids = refl; no-links = refl; few = leb-true _ _ refl })

of : (which kind : ℕ) → eqb (kind_in which (get_or applications kind 0)) kind ≡ true → ltb (get_or applications kind 0) 31 ≡ true → ltb 0 kind ≡ true
    → is_set kind ≡ false → Simple kind ⊎ Full kind → Known which kind
of which kind a b c d e =
    let l : 0 < kind = ltb-true 0 kind c in
    record { known = eqb-true _ _ a; small = ltb-true _ _ b; some = λ q. omega arith; sequence = d; shape = e }

abbrev Each : (ℕ → Type 0) → List ℕ → Type 0
Each P [] = Unit {0}
Each P (x ∷ l) = P x × Each P l

each : (P : ℕ → Type 0) (l : List ℕ) → Each P l → (kind : ℕ) → among l kind ≡ true → P kind
unfolding among
each P [] all kind e = never e
each P (x ∷ l) all kind e = go (eqb x kind) refl e (λ h. each P l all.1 kind h)
  where
    go : (b : Bool) → eqb x kind ≡ b → pick b true (among l kind) ≡ true → (among l kind ≡ true → P kind) → P kind
    go true q r more = subst P (eqb-true x kind q) all.0
    go false q r more = more r

in-0 : (kind : ℕ) → stands_in 0 kind ≡ true → Known 0 kind
unfolding holds applications kind_in kind_among is_set
in-0 kind h =
    each (Known 0) (get_or holds 0 []) (
      of 0 1 refl refl refl refl shape-1,
      (
        of 0 2 refl refl refl refl shape-2,
        (
          of 0 3 refl refl refl refl shape-3,
          (
            of 0 4 refl refl refl refl shape-4,
            (of 0 5 refl refl refl refl shape-5, (of 0 6 refl refl refl refl shape-6, (of 0 7 refl refl refl refl shape-7, tt))),
          ),
        ),
      ),
    )
    kind h

in-1 : (kind : ℕ) → stands_in 1 kind ≡ true → Known 1 kind
unfolding holds applications kind_in kind_among is_set
in-1 kind h =
    each (Known 1) (get_or holds 1 [])
    (of 1 1 refl refl refl refl shape-1, (of 1 2 refl refl refl refl shape-2, (of 1 3 refl refl refl refl shape-3, (of 1 4 refl refl refl refl shape-4, tt))))
    kind h

in-2 : (kind : ℕ) → stands_in 2 kind ≡ true → Known 2 kind
unfolding holds applications kind_in kind_among is_set
in-2 kind h = each (Known 2) (get_or holds 2 []) (of 2 8 refl refl refl refl shape-8, tt) kind h

in-3 : (kind : ℕ) → stands_in 3 kind ≡ true → Known 3 kind
unfolding holds applications kind_in kind_among is_set
in-3 kind h = each (Known 3) (get_or holds 3 []) (of 3 9 refl refl refl refl shape-9, tt) kind h

pub known-kind : (which kind : ℕ) → stands_in which kind ≡ true → Known which kind
unfolding holds among
known-kind zero kind h = in-0 kind h
known-kind (suc zero) kind h = in-1 kind h
known-kind (suc (suc zero)) kind h = in-2 kind h
known-kind (suc (suc (suc zero))) kind h = in-3 kind h
known-kind (suc (suc (suc (suc which)))) kind h = never h
