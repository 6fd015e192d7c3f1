-- The code's answers on an entry, one law each.
use Prim.Native.Nat.{ℕ, zero, suc, ◌+◌, ◌-◌, ◌*◌, ◌≤◌, ◌<◌}
use mathlib.Core.Path.{◌≡◌, refl, sym, ap, subst, ◌∙◌}
use mathlib.Core.Bool.{Bool, true, false, not}
use mathlib.Core.List.{List, [], ◌∷◌}
use mathlib.Core.Logic.{◌⊎◌, ⊎_elim, inl, inr}
use native.Mathlib.Omega.{arith}
use borrow.Author.Tests.{ne_eqb, eqb-true, eqb-false, leb-false}
use lib.Dec.{T, leb, eqb}
use lib.ListN.{length, get_or}
use Rattle.base_choices.specs.Choices.{pick, both}
use Rattle.base_choices.proofs.Laws.{both_left, both_right}
use Rattle.ber_integers.proofs.Radix.{lt-or-le}
use Rattle.glow_grammar.specs.Grammar.{required, requirements}
use Rattle.glow_grammar.specs.Grammar as grammar
use Rattle.glow_rows.specs.declared.Cell.{Cell}
use Rattle.glow_trees.specs.Content.{Content, nothing, word, bytes, wrong, content_of, contents_of}
use Rattle.glow_trees.specs.Rows.{cell_at, cells_from}
use Rattle.glow_trees.specs.Legal.{suits, rule_at, suited, present, complete, path_of, path_after, empty, inner}
use Rattle.glow_trees.specs.Written.{members_octets, own}
use Rattle.glow_sizes.specs.declared.Entered.{Entered}
use Rattle.glow_member_sizes.specs.Sizes.{cap, tagged_size}
use Rattle.glow_sizes.specs.Sizes.{cells_size, wrapped_size, path_cap, entry_octets, entered, split, keyed, entered_at}
use Rattle.glow_member_sizes.proofs.Caps.{cap-in, cap-over, cap-right}
use Rattle.glow_sizes.proofs.Places.{kind-present, kind-absent, cap-few, cap-many}
use Rattle.glow_sizes.proofs.Entry.{sized, cells-sized, wrapped-length, members-empty, own_is, inner-is, suited-is, cells-length, not-suited}
use Rattle.glow_sizes.proofs.Entry.{too_long, too-deep, not-complete, path-long, entered-is}

never : {P : Type 0} → false ≡ true → P
never e = absurd (subst (λ (b : Bool). T (not b)) e tt)

-- a size over 16,384 is of what is not legal, or of what is long
sized-over : (b : Bool) (n m : ℕ) → sized b n ≡ m → 16384 < m → (b ≡ false) ⊎ (16384 < n)
sized-over false n m e h = inl refl
sized-over true n m e h =
    inr (⊎_elim (λ (k : 16384 < n). k) (λ (k : n ≤ 16384). let i = cap-in n k in absurd (omega arith)) (lt-or-le 16384 n))

sized-in : (b : Bool) (n m : ℕ) → sized b n ≡ m → m ≤ 16384 → (b ≡ true) × (n ≡ m)
sized-in false n m e h = absurd (omega arith)
sized-in true n m e h =
    (refl, ⊎_elim (λ (k : 16384 < n). let i = cap-over n k in absurd (omega arith)) (λ (k : n ≤ 16384). sym (cap-in n k) ∙ e) (lt-or-le 16384 n))

few-required : (kind : ℕ) → required kind ≤ 2
unfolding required requirements
few-required kind = go kind
  where
    go : (n : ℕ) → get_or (0 ∷ 1 ∷ 1 ∷ 1 ∷ 1 ∷ 1 ∷ 1 ∷ 1 ∷ 1 ∷ 2 ∷ []) n 0 ≤ 2
    go zero = omega arith
    go (suc zero) = omega arith
    go (suc (suc zero)) = omega arith
    go (suc (suc (suc zero))) = omega arith
    go (suc (suc (suc (suc zero)))) = omega arith
    go (suc (suc (suc (suc (suc zero))))) = omega arith
    go (suc (suc (suc (suc (suc (suc zero)))))) = omega arith
    go (suc (suc (suc (suc (suc (suc (suc zero))))))) = omega arith
    go (suc (suc (suc (suc (suc (suc (suc (suc zero)))))))) = omega arith
    go (suc (suc (suc (suc (suc (suc (suc (suc (suc zero))))))))) = omega arith
    go (suc (suc (suc (suc (suc (suc (suc (suc (suc (suc n)))))))))) = omega arith

suited-first : (kind : ℕ) (s r : List ℕ) (n c : ℕ)
    → suited kind c (contents_of s (cells_from (suc n) c r))
    ≡ both (suits (rule_at kind c) (content_of s (cell_at r c))) (suited kind (suc c) (contents_of s (cells_from n (suc c) r)))
unfolding suited cells_from contents_of
suited-first kind s r n c = refl

-- a member that suits is there exactly if its cell has a kind
present-is : (what : ℕ) (s r : List ℕ) (c : ℕ) → suits what (content_of s (cell_at r c)) ≡ true
    → present (content_of s (cell_at r c)) ≡ not (eqb (get_or r (2 + c * 3) 0) 0)
present-is what s r c h = go (eqb (get_or r (2 + c * 3) 0) 0) refl
  where
    go : (b : Bool) → eqb (get_or r (2 + c * 3) 0) 0 ≡ b → present (content_of s (cell_at r c)) ≡ not b
    go true e = kind-absent s (cell_at r c) 0 what (eqb-true _ _ e) h
    go false e = kind-present s (cell_at r c) 0 (eqb-false _ _ e)

both_true : (a : Bool) → both a true ≡ a
both_true true = refl
both_true false = refl

keyed-complete : (kind : ℕ) (s r : List ℕ) → suits (rule_at kind 0) (content_of s (cell_at r 0)) ≡ true
    → suits (rule_at kind 1) (content_of s (cell_at r 1)) ≡ true
    → complete (required kind) (contents_of s (cells_from 16 0 r)) ≡ keyed (required kind) r
unfolding complete keyed cells_from contents_of
keyed-complete kind s r h k = go (required kind) (few-required kind)
  where
    one : present (content_of s (cell_at r 0)) ≡ not (eqb (get_or r 2 0) 0)
    one = present-is (rule_at kind 0) s r 0 h

    two : present (content_of s (cell_at r 1)) ≡ not (eqb (get_or r 5 0) 0)
    two = present-is (rule_at kind 1) s r 1 k

    first : (b : Bool) → both (not b) true ≡ pick b false true
    first true = refl
    first false = refl

    second : (b d : Bool) → both (not b) (both (not d) true) ≡ pick b false (not d)
    second true d = refl
    second false d = both_true (not d)

    go : (n : ℕ) → n ≤ 2 → complete n (contents_of s (cells_from 16 0 r))
        ≡ pick (eqb n 0) true (pick (eqb (get_or r 2 0) 0) false (pick (eqb n 1) true (not (eqb (get_or r 5 0) 0))))
    go zero l = refl
    go (suc zero) l = rw one (first (eqb (get_or r 2 0) 0))
    go (suc (suc zero)) l = rw (one, two) (second (eqb (get_or r 2 0) 0) (eqb (get_or r 5 0) 0))
    go (suc (suc (suc n))) l = absurd (omega arith)

-- the path's numbers by the first member alone
path-first : (kind above : ℕ) (s r : List ℕ) → path_after kind above (contents_of s (cells_from 16 0 r))
    ≡ path_of (rule_at kind 0) above (content_of s (cell_at r 0) ∷ [])
unfolding path_after cells_from contents_of
path-first kind above s r = go (content_of s (cell_at r 0)) (contents_of s (cells_from 15 1 r))
  where
    go : (x : Content) (ys : List Content) → path_of (rule_at kind 0) above (x ∷ ys) ≡ path_of (rule_at kind 0) above (x ∷ [])
    go nothing ys = refl
    go (word k w) ys = refl
    go (bytes k bs) ys = refl
    go wrong ys = refl

-- what the code sums of a row: both parts' sizes, where they suit
pub record Summed (real : ℕ → List ℕ) (s r : List ℕ) (kind part o i : ℕ) : Type 0 where
  pub is : kind ≡ get_or r 0 0
  pub at : split kind ≡ part
  pub ownly : cells_size real kind 0 (contents_of s (cells_from (part - 0) 0 r)) ≡ o
  pub innerly : cells_size real kind part (contents_of s (cells_from (16 - part) part r)) ≡ i

-- neither part is too long, and so they have a size together
pub record Sized (o i w size : ℕ) : Type 0 where
  pub own-fits : o ≤ 16384
  pub inner-fits : i ≤ 16384
  pub wrap : cap (wrapped_size i) ≡ w
  pub sum : cap (o + w) ≡ size

module _ (real : ℕ → List ℕ) (s r : List ℕ) (k above : ℕ) {kind part o i : ℕ} (h : Summed real s r kind part o i) where
  abbrev xs : List Content
  xs = contents_of s (cells_from 16 0 r)

  abbrev no : Entered
  no = record { size = 65536; inside = 0; path = 0 }

  abbrev cells : ℕ → ℕ → List Content
  cells n c = contents_of s (cells_from n c r)

  by_kind : {e : Entered} → entered real kind k above xs ≡ e → entered_at real s r k above ≡ e
  unfolding entered_at
  by_kind e = ap (λ (i : ℕ). entered real i k above xs) (sym h.is) ∙ e

  abbrev own_length : ℕ
  own_length = length (members_octets real 0 (own kind xs))

  abbrev inner_length : ℕ
  inner_length = length (members_octets real 0 (inner kind xs))

  own_suits : Bool
  own_suits = suited kind 0 (cells part 0)

  inner_suits : Bool
  inner_suits = suited kind part (cells (16 - part) part)

  few-cells : part ≤ 16
  few-cells = subst (λ (n : ℕ). n ≤ 16) h.at (go (eqb (grammar.contents_of kind) 0))
    where
      go : (b : Bool) → pick b 16 1 ≤ 16
      go true = omega arith
      go false = omega arith

  own_at : own kind xs ≡ cells part 0
  own_at = own_is kind s r ∙ ap (λ (n : ℕ). cells n 0) h.at

  inner-at : inner kind xs ≡ cells (16 - part) part
  inner-at = inner-is kind s r ∙ ap (λ (n : ℕ). cells (16 - n) n) h.at

  suited-at : suited kind 0 xs ≡ both own_suits inner_suits
  unfolding own_suits inner_suits
  suited-at = suited-is kind s r ∙ ap (λ (n : ℕ). both (suited kind 0 (cells n 0)) (suited kind n (cells (16 - n) n))) h.at

  -- what the code sums is the size of each part, where it suits
  own-sized : sized own_suits own_length ≡ o
  unfolding own_suits
  own-sized =
      let z : part - 0 ≡ part = omega arith in
      let l = cells-length kind s r part 0 in
      let f = few-cells in
      let q : 0 + length (cells part 0) ≤ 31 = omega arith in
      ap (λ (ys : List Content). sized (suited kind 0 (cells part 0)) (length (members_octets real 0 ys))) own_at
      ∙ sym (cells-sized real kind 0 0 (cells part 0) q)
      ∙ ap (λ (n : ℕ). cells_size real kind 0 (cells n 0)) (sym z)
      ∙ h.ownly

  inner-sized : sized inner_suits inner_length ≡ i
  unfolding inner_suits
  inner-sized =
      let l = cells-length kind s r (16 - part) part in
      let q : 0 + length (cells (16 - part) part) ≤ 31 = omega arith in
      ap (λ (ys : List Content). sized (suited kind part (cells (16 - part) part)) (length (members_octets real 0 ys))) inner-at
      ∙ sym (cells-sized real kind part 0 (cells (16 - part) part) q)
      ∙ h.innerly

  octets-are : entry_octets real kind xs ≡ own_length + wrapped_size inner_length
  unfolding entry_octets
  octets-are = ap (λ (n : ℕ). own_length + n) (wrapped-length 1 0 17 (members_octets real 0 (inner kind xs)) (omega arith) (omega arith))

  both-no : (a b : Bool) → b ≡ false → both a b ≡ false
  both-no true b e = e
  both-no false b e = refl

  more-wrapped : (n : ℕ) → n ≤ wrapped_size n
  unfolding wrapped_size tagged_size
  more-wrapped zero = omega arith
  more-wrapped (suc n) = let z : suc n ≡ 0 → ⊥ = λ e. omega arith in rw (ne_eqb (suc n) 0 z) (omega arith)

  pub own-over : 16384 < o → entered_at real s r k above ≡ no
  own-over l =
      by_kind
      (⊎_elim (λ (e : own_suits ≡ false). not-suited real kind k above xs (suited-at ∙ ap (λ (b : Bool). both b inner_suits) e))
      (λ (m : 16384 < own_length). let e = octets-are in too_long real kind k above xs (omega arith))
      (sized-over own_suits own_length o own-sized l))

  pub inner-over : 16384 < i → entered_at real s r k above ≡ no
  inner-over l =
      by_kind
      (⊎_elim (λ (e : inner_suits ≡ false). not-suited real kind k above xs (suited-at ∙ both-no own_suits inner_suits e))
      (λ (n : 16384 < inner_length). let e = octets-are in let m = more-wrapped inner_length in too_long real kind k above xs (omega arith))
      (sized-over inner_suits inner_length i inner-sized l))

  module _ {w size : ℕ} (z : Sized o i w size) where
    suited-all : suited kind 0 xs ≡ true
    suited-all =
        suited-at
        ∙ ap (λ (b : Bool). both b inner_suits) (sized-in own_suits own_length o own-sized z.own-fits).0
        ∙ (sized-in inner_suits inner_length i inner-sized z.inner-fits).0

    octets-sum : entry_octets real kind xs ≡ o + wrapped_size i
    octets-sum =
        octets-are
        ∙ ap (λ (n : ℕ). n + wrapped_size inner_length) (sized-in own_suits own_length o own-sized z.own-fits).1
        ∙ ap (λ (n : ℕ). o + wrapped_size n) (sized-in inner_suits inner_length i inner-sized z.inner-fits).1

    empty-is : empty (inner kind xs) ≡ eqb i 0
    unfolding inner_suits
    empty-is =
        ap empty inner-at
        ∙ sym (members-empty real kind part 0 (cells (16 - part) part) (sized-in inner_suits inner_length i inner-sized z.inner-fits).0)
        ∙ ap (λ (ys : List Content). eqb (length (members_octets real 0 ys)) 0) (sym inner-at)
        ∙ ap (λ (n : ℕ). eqb n 0) (sized-in inner_suits inner_length i inner-sized z.inner-fits).1

    size_is : cap (entry_octets real kind xs) ≡ size
    size_is = ap cap octets-sum ∙ sym (cap-right o (wrapped_size i)) ∙ ap (λ (n : ℕ). cap (o + n)) z.wrap ∙ z.sum

    pub size-over : 16384 < size → entered_at real s r k above ≡ no
    size-over m =
        by_kind (too_long real kind k above xs
        (⊎_elim (λ (l : 16384 < entry_octets real kind xs). l)
        (λ (l : entry_octets real kind xs ≤ 16384). let e = cap-in _ l in let f = size_is in absurd (omega arith))
        (lt-or-le 16384 (entry_octets real kind xs))))

    pub deep-over : pick (eqb i 0) true (leb 5 k) ≡ false → entered_at real s r k above ≡ no
    deep-over e = by_kind (go (eqb i 0) refl e)
      where
        go : (b : Bool) → eqb i 0 ≡ b → pick b true (leb 5 k) ≡ false → entered real kind k above xs ≡ no
        go true e q = never (sym q)
        go false e q = too-deep real kind k above xs suited-all (empty-is ∙ e) (leb-false 5 k q)

    module _ (right : size ≤ 16384) (shallow : pick (eqb i 0) true (leb 5 k) ≡ true) where
      first-suits : suits (rule_at kind 0) (content_of s (cell_at r 0)) ≡ true
      first-suits = both_left _ _ (unfold-suited suited-all)
        where
          unfold-suited : suited kind 0 xs ≡ true → both (suits (rule_at kind 0) (content_of s (cell_at r 0))) (suited kind 1 (cells 15 1)) ≡ true
          unfold-suited e = sym (suited-first kind s r 15 0) ∙ e

      second-suits : suits (rule_at kind 1) (content_of s (cell_at r 1)) ≡ true
      second-suits =
          both_left _ (suited kind 2 (cells 14 2))
          (sym (suited-first kind s r 14 1)
          ∙ both_right (suits (rule_at kind 0) (content_of s (cell_at r 0))) (suited kind 1 (cells 15 1)) (sym (suited-first kind s r 15 0) ∙ suited-all))

      complete-is : complete (required kind) xs ≡ keyed (required kind) r
      complete-is = keyed-complete kind s r first-suits second-suits

      pub incomplete : keyed (required kind) r ≡ false → entered_at real s r k above ≡ no
      incomplete e = by_kind (not-complete real kind k above xs suited-all (complete-is ∙ e))

      module _ (full : keyed (required kind) r ≡ true) {what : ℕ} {v : Cell} (rule : rule_at kind 0 ≡ what) (here : v ≡ cell_at r 0) where
        pub path-fits : suits what (content_of s v) ≡ true
        path-fits = ap (λ (x : Cell). suits what (content_of s x)) here ∙ ap (λ (n : ℕ). suits n (content_of s (cell_at r 0))) (sym rule) ∙ first-suits

        module _ {path : ℕ} (counted : path_cap (path_of what above (content_of s v ∷ [])) ≡ path) where
          path-is : path_cap (path_after kind above xs) ≡ path
          path-is =
              ap path_cap (path-first kind above s r
              ∙ ap (λ (n : ℕ). path_of n above (content_of s (cell_at r 0) ∷ [])) rule
              ∙ ap (λ (x : Cell). path_of what above (content_of s x ∷ [])) (sym here))
              ∙ counted

          path-over : 16 < path → entered_at real s r k above ≡ no
          path-over m =
              by_kind (path-long real kind k above xs suited-all (complete-is ∙ full)
              (⊎_elim (λ (l : 16 < path_after kind above xs). l)
              (λ (l : path_after kind above xs ≤ 16). let e = cap-few _ l in let f = path-is in absurd (omega arith))
              (lt-or-le 16 (path_after kind above xs))))

          entry-is : path ≤ 16 → entered_at real s r k above ≡ record { size = size; inside = i; path = path }
          entry-is m =
              by_kind (entered-is real kind k above xs suited-all (complete-is ∙ full) (ap (λ (b : Bool). pick b true (leb 5 k)) empty-is ∙ shallow)
              size i path
              (⊎_elim (λ (l : 16384 < entry_octets real kind xs). let e = cap-over _ l in let f = size_is in absurd (omega arith))
              (λ (l : entry_octets real kind xs ≤ 16384). sym (cap-in _ l) ∙ size_is)
              (lt-or-le 16384 (entry_octets real kind xs)))
              right
              (sized-in inner_suits inner_length i inner-sized z.inner-fits).1
              (⊎_elim (λ (l : 16 < path_after kind above xs). let e = cap-many _ l in let f = path-is in absurd (omega arith))
              (λ (l : path_after kind above xs ≤ 16). sym (cap-few _ l) ∙ path-is)
              (lt-or-le 16 (path_after kind above xs)))
              m)

          pub path-judged : (16 < path → entered_at real s r k above ≡ no)
              × (path ≤ 16 → entered_at real s r k above ≡ record { size = size; inside = i; path = path })
          path-judged = (path-over, entry-is)
