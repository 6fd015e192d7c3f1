-- An entry's size: its own members, and its contents in their outer tag.
use Prim.Native.Nat.{ℕ, zero, suc, ◌+◌, ◌-◌, ◌≤◌, ◌<◌}
use mathlib.Core.Path.{◌≡◌, refl, sym, ap, subst, ◌∙◌}
use mathlib.Core.Bool.{Bool, true, false, not}
use mathlib.Core.List.{List, [], ◌∷◌, ◌++◌}
use native.Mathlib.Omega.{arith}
use borrow.Author.Tests.{ne_eqb, le-leb, lt-leb}
use lib.Dec.{T, leb, ltb, eqb}
use lib.ListN.{length, length-append}
use Rattle.base_choices.specs.Choices.{pick, both}
use Rattle.base_choices.proofs.Laws.{both_left, both_right}
use Rattle.ber_tags.specs.Write.{tag_octets}
use Rattle.glow_grammar.specs.Grammar.{required}
use Rattle.glow_grammar.specs.Grammar as grammar
use Rattle.glow_trees.specs.Content.{Content, nothing, word, bytes, wrong, content_of, contents_of}
use Rattle.glow_trees.specs.Rows.{cell_at, cells_from}
use Rattle.glow_trees.specs.Legal.{suits, rule_at, suited, present, complete, path_after, empty, inner}
use Rattle.glow_trees.specs.Written.{tagged, spelled, member_octets, members_octets, wrapped, own}
use Rattle.glow_sizes.specs.declared.Entered.{Entered}
use Rattle.glow_member_sizes.specs.Sizes.{cap, member_size}
use Rattle.glow_sizes.specs.Sizes.{cells_size, wrapped_size, is_entry, entry_octets, entered, split}
use Rattle.glow_member_sizes.proofs.Caps.{cap-in, cap-over, cap-left, cap-right}
use Rattle.glow_member_sizes.proofs.Members.{tagged-length, outer-length}

never : {P : Type 0} → false ≡ true → P
never e = absurd (subst (λ (b : Bool). T (not b)) e tt)

-- a member has the same size at each number below 31
pub member-length : (real : ℕ → List ℕ) (n : ℕ) (x : Content) → n < 31 → length (member_octets real n x) ≡ length (member_octets real 0 x)
unfolding member_octets
member-length real n nothing h = refl
member-length real n (word kind w) h =
    tagged-length 2 true n (tagged 0 false kind (spelled real kind w)) h
    ∙ sym (tagged-length 2 true 0 (tagged 0 false kind (spelled real kind w)) (omega arith))
member-length real n (bytes kind bs) h =
    tagged-length 2 true n (tagged 0 false kind bs) h ∙ sym (tagged-length 2 true 0 (tagged 0 false kind bs) (omega arith))
member-length real n wrong h = refl

-- what is legal has its own size, all else 65,536
abbrev pub sized : Bool → ℕ → ℕ
sized b n = pick b (cap n) 65536

pub sized-plus : (a b : Bool) (m n : ℕ) → cap (sized a m + sized b n) ≡ sized (both a b) (m + n)
sized-plus true true m n = cap-left m (cap n) ∙ cap-right m n
sized-plus true false m n = cap-over (cap m + 65536) (omega arith)
sized-plus false b m n = cap-over (65536 + sized b n) (omega arith)

pub cells-sized : (real : ℕ → List ℕ) (kind c n : ℕ) (xs : List Content) → n + length xs ≤ 31
    → cells_size real kind c xs ≡ sized (suited kind c xs) (length (members_octets real n xs))
unfolding cells_size suited members_octets
cells-sized real kind c n [] h = sym (cap-in 0 (omega arith))
cells-sized real kind c n (x ∷ xs) h =
    let r : cells_size real kind (suc c) xs ≡ sized (suited kind (suc c) xs) (length (members_octets real (suc n) xs)) =
    cells-sized real kind (suc c) (suc n) xs (omega arith) in
    let m : member_size real (rule_at kind c) x ≡ sized (suits (rule_at kind c) x) (length (member_octets real n x)) =
    unfold member_size in ap (sized (suits (rule_at kind c) x)) (sym (member-length real n x (omega arith))) in
    let l = length-append (member_octets real n x) (members_octets real (suc n) xs) in
    rw (m, r)
    (sized-plus (suits (rule_at kind c) x) (suited kind (suc c) xs) (length (member_octets real n x)) (length (members_octets real (suc n) xs))
    ∙ ap (sized (both (suits (rule_at kind c) x) (suited kind (suc c) xs))) (sym l))

-- contents in their outer tag
pub wrapped-length : (n class k : ℕ) (xs : List ℕ) → n < 31 → k < 31 → length (wrapped n class k xs) ≡ wrapped_size (length xs)
unfolding wrapped wrapped_size
wrapped-length n class k [] h i = refl
wrapped-length n class k (x ∷ xs) h i = let z : suc (length xs) ≡ 0 → ⊥ = λ e. omega arith in rw (ne_eqb _ _ z) (outer-length n class true k (x ∷ xs) h i)

pub tagged-some : (class : ℕ) (c : Bool) (k : ℕ) (xs : List ℕ) → length (tagged class c k xs) ≡ 0 → ⊥
unfolding tagged tag_octets
tagged-some class c k xs = go (ltb k 31) _ _ _ _
  where
    go : (b : Bool) (a d : ℕ) (ys zs : List ℕ) → length (pick b (a ∷ []) (d ∷ ys) ++ zs) ≡ 0 → ⊥
    go true a d ys zs e = omega arith
    go false a d ys zs e = omega arith

-- a member that suits is empty exactly if it has no octets
member-empty : (real : ℕ → List ℕ) (what n : ℕ) (x : Content) → suits what x ≡ true → eqb (length (member_octets real n x)) 0 ≡ not (present x)
unfolding suits member_octets
member-empty real what n nothing h = refl
member-empty real what n (word kind w) h = ne_eqb _ _ (tagged-some 2 true n (tagged 0 false kind (spelled real kind w)))
member-empty real what n (bytes kind bs) h = ne_eqb _ _ (tagged-some 2 true n (tagged 0 false kind bs))
member-empty real what n wrong h = never h

sum-zero : (a b : ℕ) → eqb (a + b) 0 ≡ both (eqb a 0) (eqb b 0)
sum-zero zero b = let e : zero + b ≡ b = omega arith in ap (λ (n : ℕ). eqb n 0) e
sum-zero (suc a) b = let z : suc a ≡ 0 → ⊥ = λ e. omega arith in rw (ne_eqb (suc a) 0 z) (ne_eqb (suc a + b) 0 (λ e. omega arith))

pub members-empty : (real : ℕ → List ℕ) (kind c n : ℕ) (xs : List Content) → suited kind c xs ≡ true
    → eqb (length (members_octets real n xs)) 0 ≡ empty xs
unfolding suited members_octets empty
members-empty real kind c n [] h = refl
members-empty real kind c n (x ∷ xs) h =
    ap (λ (l : ℕ). eqb l 0) (length-append (member_octets real n x) (members_octets real (suc n) xs))
    ∙ sum-zero (length (member_octets real n x)) (length (members_octets real (suc n) xs))
    ∙ rw (member-empty real (rule_at kind c) n x (both_left _ _ h), members-empty real kind (suc c) (suc n) xs (both_right (suits (rule_at kind c) x) _ h)) refl

-- ---- an entry
module _ (real : ℕ → List ℕ) (kind k above : ℕ) (xs : List Content) where
  abbrev pub no : Entered
  no = record { size = 65536; inside = 0; path = 0 }

  pub not-suited : suited kind 0 xs ≡ false → entered real kind k above xs ≡ no
  unfolding entered is_entry
  not-suited h = simp h

  both-no : (a b : Bool) → b ≡ false → both a b ≡ false
  both-no true b h = h
  both-no false b h = refl

  pub too_long : 16384 < entry_octets real kind xs → entered real kind k above xs ≡ no
  unfolding entered
  too_long h = rw (both-no (is_entry kind k above xs) _ (lt-leb _ _ h)) refl

  module _ (s : suited kind 0 xs ≡ true) where
    pub too-deep : empty (inner kind xs) ≡ false → k < 5 → entered real kind k above xs ≡ no
    unfolding entered is_entry
    too-deep e h =
        simp (s, e, lt-leb _ _ h)
        (rw (both-no (leb (path_after kind above xs) 16) false refl, both-no (complete (required kind) xs) false refl) refl)

    pub not-complete : complete (required kind) xs ≡ false → entered real kind k above xs ≡ no
    unfolding entered is_entry
    not-complete h = simp (s, h)

    module _ (c : complete (required kind) xs ≡ true) where
      pub path-long : 16 < path_after kind above xs → entered real kind k above xs ≡ no
      unfolding entered is_entry
      path-long h = simp (s, c, lt-leb _ _ h)

      pub entered-is : pick (empty (inner kind xs)) true (leb 5 k) ≡ true → (size within path : ℕ) → entry_octets real kind xs ≡ size → size ≤ 16384
          → length (members_octets real 0 (inner kind xs)) ≡ within → path_after kind above xs ≡ path → path ≤ 16
          → entered real kind k above xs ≡ record { size = size; inside = within; path = path }
      unfolding entered is_entry
      entered-is d size within path e h i f g =
          let h' : entry_octets real kind xs ≤ 16384 = omega arith in
          let g' : path_after kind above xs ≤ 16 = omega arith in
          simp (s, c, d, le-leb _ _ h', le-leb _ _ g') (rw (e, i, f) refl)

-- ---- the two parts of an entry's cells: those that stand outside its contents, and its contents
module _ (kind : ℕ) (s row : List ℕ) where
  abbrev pub cells : ℕ → ℕ → List Content
  cells n c = contents_of s (cells_from n c row)

  pub own_is : own kind (cells 16 0) ≡ cells (split kind) 0
  unfolding own cells_from contents_of
  own_is = go (eqb (grammar.contents_of kind) 0)
    where
      go : (b : Bool) → pick b (cells 16 0) (content_of s (cell_at row 0) ∷ []) ≡ cells (pick b 16 1) 0
      go true = refl
      go false = refl

  pub inner-is : inner kind (cells 16 0) ≡ cells (16 - split kind) (split kind)
  unfolding inner cells_from contents_of
  inner-is = go (eqb (grammar.contents_of kind) 0)
    where
      go : (b : Bool) → pick b [] (cells 15 1) ≡ cells (16 - pick b 16 1) (pick b 16 1)
      go true = refl
      go false = refl

  both_true : (a : Bool) → both a true ≡ a
  both_true true = refl
  both_true false = refl

  pub suited-is : suited kind 0 (cells 16 0) ≡ both (suited kind 0 (cells (split kind) 0)) (suited kind (split kind) (cells (16 - split kind) (split kind)))
  unfolding suited cells_from contents_of
  suited-is = go (eqb (grammar.contents_of kind) 0)
    where
      go : (b : Bool)
          → suited kind 0 (cells 16 0)
          ≡ both (suited kind 0 (cells (pick b 16 1) 0)) (suited kind (pick b 16 1) (cells (16 - pick b 16 1) (pick b 16 1)))
      go true = sym (both_true (suited kind 0 (cells 16 0)))
      go false =
          ap (λ (x : Bool). both x (suited kind 1 (cells 15 1))) (sym (both_true (suits (rule_at kind 0) (content_of s (cell_at row 0)))))

  pub cells-length : (n c : ℕ) → length (cells n c) ≡ n
  unfolding cells_from contents_of
  cells-length zero c = refl
  cells-length (suc n) c = ap suc (cells-length n (suc c))
