-- The parts of an element: its number or path, its contents; and the order of its members.
use Prim.Native.Nat.{ℕ, zero, suc, ◌+◌, ◌<◌, ◌≤◌}
use mathlib.Core.Path.{◌≡◌, refl, sym, ap, ◌∙◌}
use mathlib.Core.List.{List, [], ◌∷◌}
use mathlib.Core.Bool.{Bool, true, false, not}
use mathlib.Core.Logic.{◌⊎◌, inl, inr, ⊎_elim}
use native.Mathlib.Omega.{arith}
use borrow.Author.Tests.{eq-eqb, ne_eqb, leb-true, ltb-false, not-true}
use lib.ListN.{length, get_or, set}
use lib.Dec.{leb, ltb, eqb}
use Rattle.base_choices.specs.Choices.{pick}
use Rattle.ber_integers.proofs.Radix.{lt-or-le}
use Rattle.glow_grammar.specs.Grammar.{rule_of, required}
use Rattle.glow_grammar.specs.Grammar as grammar
use Rattle.glow_steps.specs.Members.{due, in_order, after_listed, after_other, column}
use Rattle.glow_trees.specs.Content.{Content, nothing, word, bytes, wrong}
use Rattle.glow_trees.specs.Legal.{path_of, path_after, rule_at, inner, empty}
use Rattle.glow_trees.specs.Written.{member_octets, members_octets, own, wrapped}
use Rattle.trees_accepted.proofs.Bools.{never}
use Rattle.trees_accepted.proofs.Tables.{home_of, Kind, is-sequence, required-some, required-at}
use Rattle.trees_accepted.proofs.Lists.{size_from, size-set, nothings}

-- the path is told by the first member alone
pub path-tail : (what above : ℕ) (x : Content) (ys zs : List Content) → path_of what above (x ∷ ys) ≡ path_of what above (x ∷ zs)
path-tail what above nothing ys zs = refl
path-tail what above (word kind w) ys zs = refl
path-tail what above (bytes kind bs) ys zs = refl
path-tail what above wrong ys zs = refl

pub path-still : (what above : ℕ) (x : Content) (ys : List Content) → (what ≡ 5 → ⊥) → (what ≡ 6 → ⊥) → path_of what above (x ∷ ys) ≡ above
path-still what above nothing ys a b = refl
path-still what above (word kind w) ys a b = simp (ne_eqb _ _ a)
path-still what above (bytes kind bs) ys a b = simp (ne_eqb _ _ b)
path-still what above wrong ys a b = refl

pub after_tail : (kind above : ℕ) (x : Content) (ys zs : List Content) → path_after kind above (x ∷ ys) ≡ path_after kind above (x ∷ zs)
unfolding path_after
after_tail kind above x ys zs = path-tail (rule_at kind 0) above x ys zs

pub after_first : (kind above : ℕ) (x : Content) (ys zs : List Content) → path_after kind above (x ∷ ys) ≡ path_of (rule_at kind 0) above (x ∷ zs)
unfolding path_after
after_first kind above x ys zs = path-tail (rule_at kind 0) above x ys zs

pub after_none : (kind above : ℕ) (xs : List Content) → get_or xs 0 nothing ≡ nothing → path_after kind above xs ≡ above
unfolding path_after
after_none kind above [] e = refl
after_none kind above (x ∷ xs) e = ap (λ (y : Content). path_of (rule_at kind 0) above (y ∷ xs)) e

-- another member put
pub after-set : (kind above n : ℕ) (xs : List Content) (x : Content) → 0 < n → path_after kind above (set xs n x) ≡ path_after kind above xs
after-set kind above n [] x h = refl
after-set kind above zero (y ∷ xs) x h = absurd (omega arith)
after-set kind above (suc n) (y ∷ xs) x h = after_tail kind above y (set xs n x) xs

pub after-put : (kind above : ℕ) (xs : List Content) (x : Content) → 0 < length xs
    → path_after kind above (set xs 0 x) ≡ path_of (rule_at kind 0) above (x ∷ [])
after-put kind above [] x h = absurd (omega arith)
after-put kind above (y ∷ xs) x h = after_first kind above x xs []

-- what stands outside the contents, and what inside
module _ (kind : ℕ) where
  own-all : (x : Content) (xs : List Content) → grammar.contents_of kind ≡ 0 → own kind (x ∷ xs) ≡ x ∷ xs
  unfolding own
  own-all x xs e = simp (eq-eqb _ _ e)

  pub own_first : (x : Content) (xs : List Content) → (grammar.contents_of kind ≡ 0 → ⊥) → own kind (x ∷ xs) ≡ x ∷ []
  unfolding own
  own_first x xs e = simp (ne_eqb _ _ e)

  inner-none : (x : Content) (xs : List Content) → grammar.contents_of kind ≡ 0 → inner kind (x ∷ xs) ≡ []
  unfolding inner
  inner-none x xs e = simp (eq-eqb _ _ e)

  pub inner-all : (x : Content) (xs : List Content) → (grammar.contents_of kind ≡ 0 → ⊥) → inner kind (x ∷ xs) ≡ xs
  unfolding inner
  inner-all x xs e = simp (ne_eqb _ _ e)

  inner_of : (x y : Content) (xs : List Content) → inner kind (x ∷ xs) ≡ inner kind (y ∷ xs)
  unfolding inner
  inner_of x y xs = refl

  pub inner-set : (n : ℕ) (xs : List Content) (x : Content) → (grammar.contents_of kind ≡ 0) ⊎ (n ≡ 0) → inner kind (set xs n x) ≡ inner kind xs
  inner-set n [] x a = refl
  inner-set zero (y ∷ xs) x a = inner_of x y xs
  inner-set (suc n) (y ∷ xs) x (inl e) = inner-none y (set xs n x) e ∙ sym (inner-none y xs e)
  inner-set (suc n) (y ∷ xs) x (inr e) = absurd (omega arith)

  module _ (least : ℕ → List ℕ) where
    own-size : (x y : Content) (xs : List Content) → y ≡ nothing
        → size_from least 0 (own kind (x ∷ xs)) ≡ size_from least 0 (own kind (y ∷ xs)) + length (member_octets least 0 x)
    unfolding own
    own-size x y xs e = go (eqb (grammar.contents_of kind) 0)
      where
        go : (b : Bool) → size_from least 0 (pick b (x ∷ xs) (x ∷ [])) ≡ size_from least 0 (pick b (y ∷ xs) (y ∷ [])) + length (member_octets least 0 x)
        go true = let h : 0 < suc (length xs) = omega arith in size-set least 0 (y ∷ xs) 0 x h e
        go false = let h : 0 < suc 0 = omega arith in size-set least 0 (y ∷ []) 0 x h e

    pub own-set : (n : ℕ) (xs : List Content) (x : Content) → (grammar.contents_of kind ≡ 0) ⊎ (n ≡ 0) → n < length xs → get_or xs n nothing ≡ nothing
        → size_from least 0 (own kind (set xs n x)) ≡ size_from least 0 (own kind xs) + length (member_octets least n x)
    own-set n [] x a h e = absurd (omega arith)
    own-set zero (y ∷ xs) x a h e = own-size x y xs e
    own-set (suc n) (y ∷ xs) x (inl a) h e =
        let z : 0 + suc n ≡ suc n = omega arith in
        ap (size_from least 0) (own-all y (set xs n x) a)
        ∙ size-set least 0 (y ∷ xs) (suc n) x h e
        ∙ ap (λ (l : List Content). size_from least 0 l + length (member_octets least (0 + suc n) x)) (sym (own-all y xs a))
        ∙ ap (λ (m : ℕ). size_from least 0 (own kind (y ∷ xs)) + length (member_octets least m x)) z
    own-set (suc n) (y ∷ xs) x (inr a) h e = absurd (omega arith)

  -- the members that contents come with
  module _ (some : grammar.contents_of kind ≡ 0 → ⊥) where
    pub home-inner : (n : ℕ) → home_of kind (suc n) ≡ 1
    unfolding home_of
    home-inner n = let z : suc n ≡ 0 → ⊥ = λ e. omega arith in simp (ne_eqb _ _ some, ne_eqb _ _ z)

    pub home-low : (c : ℕ) → home_of kind c ≤ 1
    unfolding home_of
    home-low c = simp (ne_eqb _ _ some) (go (eqb c 0))
      where
        go : (b : Bool) → pick b 0 1 ≤ 1
        go true = omega arith
        go false = omega arith

pub all_nothing : (ys : List Content) → ((n : ℕ) → get_or ys n nothing ≡ nothing) → ys ≡ nothings (length ys)
unfolding nothings
all_nothing [] h = refl
all_nothing (y ∷ ys) h =
    ap (λ (x : Content). x ∷ ys) (h 0) ∙ ap (λ (t : List Content). nothing ∷ t) (all_nothing ys (λ n. h (suc n)))

-- an element that has nothing yet
pub blank-inner : (kind : ℕ) → empty (inner kind (nothings 16)) ≡ true
unfolding inner nothings empty
blank-inner kind = go (eqb (grammar.contents_of kind) 0)
  where
    go : (b : Bool) → empty (pick b [] (nothings 15)) ≡ true
    go true = refl
    go false = refl

pub blank-own : (kind : ℕ) (least : ℕ → List ℕ) → size_from least 0 (own kind (nothings 16)) ≡ 0
unfolding own nothings members_octets member_octets
blank-own kind least = go (eqb (grammar.contents_of kind) 0)
  where
    go : (b : Bool) → size_from least 0 (pick b (nothings 16) (nothings 1)) ≡ 0
    go true = refl
    go false = refl

pub blank-body : (kind : ℕ) (least : ℕ → List ℕ) → length (wrapped 1 0 17 (members_octets least 0 (inner kind (nothings 16)))) ≡ 0
unfolding inner nothings wrapped members_octets member_octets
blank-body kind least = go (eqb (grammar.contents_of kind) 0)
  where
    go : (b : Bool) → length (wrapped 1 0 17 (members_octets least 0 (pick b [] (nothings 15)))) ≡ 0
    go true = refl
    go false = refl

-- members in their order
module _ (kind : ℕ) (kk : Kind kind) (before n : ℕ) where
  pub seq-after : after_listed kind before n ≡ n + 1
  unfolding after_listed
  seq-after = rw (is-sequence kind kk)

  pub seq-other : after_other kind before n ≡ n + 1
  unfolding after_other
  seq-other = rw (is-sequence kind kk)

  pub seq-column : column kind n ≡ n
  unfolding column
  seq-column = rw (is-sequence kind kk)

  not-due : (m : ℕ) → due kind before m ≡ false → (required kind ≤ before) ⊎ (m ≤ before)
  unfolding due
  not-due m = go (ltb before (required kind)) refl
    where
      go : (b : Bool) → ltb before (required kind) ≡ b → pick b (ltb before m) false ≡ false → (required kind ≤ before) ⊎ (m ≤ before)
      go true e f = inr (ltb-false before m f)
      go false e f = inl (ltb-false before (required kind) e)

  pub seq-done : due kind before 268435456 ≡ false → required kind ≤ before
  seq-done e =
      let r = required-some kind kk in
      ⊎_elim (λ (h : required kind ≤ before). h) (λ (h : 268435456 ≤ before). omega (arith, r.1)) (not-due 268435456 e)

  pub seq-order : in_order kind before n ≡ true → (before ≤ n) × ((required kind ≤ before) ⊎ (n ≤ before))
  unfolding in_order
  seq-order e = go (leb before n) refl (rw (is-sequence kind kk) at e)
    where
      go : (b : Bool) → leb before n ≡ b → pick b (not (due kind before n)) false ≡ true → (before ≤ n) × ((required kind ≤ before) ⊎ (n ≤ before))
      go true q f = (leb-true before n q, not-due n (not-true _ f))
      go false q f = never f

  -- a required member that is not this one came before
  pub came : in_order kind before n ≡ true → (i : ℕ) → i < n + 1 → i < required kind → (i ≡ n → ⊥) → i < before
  came e i h k d =
      let o = seq-order e in
      let a = o.0 in
      ⊎_elim (λ (l : i < before). l)
      (λ (l : before ≤ i).
      ⊎_elim (λ (r : required kind ≤ before). omega arith) (λ (r : n ≤ before). let q : i ≡ n = omega arith in absurd (d q)) o.1)
      (lt-or-le i before)

  -- and so it did where this one is no value
  pub came-all : in_order kind before n ≡ true → (rule_of kind n ≡ 0) ⊎ (13 ≤ rule_of kind n) → (i : ℕ) → i < n + 1 → i < required kind → i < before
  came-all e r i h k =
      let a = required-at kind kk i k in
      came e i h k (λ q. let b : rule_of kind i ≡ rule_of kind n = ap (rule_of kind) q in bad r a.0 a.1 b)
    where
      bad : (rule_of kind n ≡ 0) ⊎ (13 ≤ rule_of kind n) → 0 < rule_of kind i → rule_of kind i < 13 → rule_of kind i ≡ rule_of kind n → ⊥
      bad (inl z) a b c = omega arith
      bad (inr z) a b c = omega arith

  -- the first member came
  pub begun : in_order kind before n ≡ true → (rule_of kind n ≡ 0) ⊎ (13 ≤ rule_of kind n) → 0 < before
  begun e r = let a = (required-some kind kk).0 in came-all e r 0 (omega arith) a
