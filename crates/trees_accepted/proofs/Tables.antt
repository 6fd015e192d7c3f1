-- What the grammar's tables say of the nine kinds of entries and of the three contents.
use Prim.Native.Nat.{ℕ, zero, suc, ◌-◌, ◌<◌, ◌≤◌}
use mathlib.Core.Path.{◌≡◌, refl, sym, ap, ◌∙◌}
use mathlib.Core.List.{List, [], ◌∷◌}
use mathlib.Core.Bool.{Bool, true, false, not}
use mathlib.Core.Logic.{◌⊎◌, inl, inr, ⊎_elim}
use native.Mathlib.Omega.{arith}
use lib.ListN.{get_or}
use Rattle.ber_integers.proofs.Radix.{lt-or-le}
use borrow.Author.Tests.{leb-true, ltb-true, lt-ltb, le-ltb, eqb-true, eqb-false, eq-eqb, ne_eqb, not-true}
use lib.Dec.{leb, ltb, eqb}
use Rattle.base_choices.specs.Choices.{pick, both}
use Rattle.base_choices.proofs.Laws.{pick_true, pick-false, pick-then, pick-else, both_left, both_right}
use Rattle.glow_grammar.specs.Grammar.{members, rule_of, requirements, required, is_set, contents_rows, contents_of, applications, holds, kind_among, kind_in}
use Rattle.glow_trees.specs.Trees.{among, stands_in}
use Rattle.glow_trees.specs.Legal.{rule_at}
use Rattle.trees_accepted.proofs.Bools.{never, all_from, all-at}

-- the member that a cell of a kind comes with: contents come together, with the member 1
unfoldable pub home_of : ℕ → ℕ → ℕ
home_of kind c = pick (eqb (contents_of kind) 0) c (pick (eqb c 0) 0 1)

-- what is right of the member n of a kind, by its rule
right_at : ℕ → ℕ → ℕ → Bool
right_at kind n what =
    pick (eqb what 0) true
    (pick (ltb what 13)
    (both (eqb (rule_at kind n) what) (both (eqb (home_of kind n) n) (both (ltb n 16) (both (pick (eqb (contents_of kind) 0) true (eqb n 0))
    (pick (eqb n 0) true (both (not (eqb what 5)) (not (eqb what 6))))))))
    (pick (eqb what 13) (both (eqb n 1) (both (leb 10 (contents_of kind)) (leb (contents_of kind) 12)))
    (pick (eqb what 14) (eqb n 2) (both (eqb what 15) (eqb n 5)))))

required_at : ℕ → Bool
required_at kind =
    both (ltb 0 (required kind)) (both (leb (required kind) 2)
    (both (ltb 0 (rule_of kind 0)) (both (ltb (rule_of kind 0) 13)
    (pick (eqb (required kind) 2) (both (ltb 0 (rule_of kind 1)) (ltb (rule_of kind 1) 13)) true))))

-- a member of contents
inner_at : ℕ → ℕ → Bool
inner_at n what = pick (eqb what 0) true (both (ltb what 13) (both (ltb n 15) (both (not (eqb what 5)) (not (eqb what 6)))))

kind_right : ℕ → Bool
kind_right kind =
    both (all_from (right_at kind) 0 (get_or members kind [])) (both (required_at kind) (both (not (is_set kind)) (ltb (get_or applications kind 0) 31)))

row_right : ℕ → Bool
row_right row = both (all_from inner_at 0 (get_or members row [])) (is_set row)

-- kinds of entries
abbrev pub Kind : ℕ → Type 0
Kind kind = (1 ≤ kind) × (kind ≤ 9)

right : (kind : ℕ) → Kind kind → kind_right kind ≡ true
unfolding kind_right right_at required_at home_of rule_at rule_of required requirements is_set contents_of contents_rows applications members
right zero k = absurd (omega arith)
right (suc zero) k = refl
right (suc (suc zero)) k = refl
right (suc (suc (suc zero))) k = refl
right (suc (suc (suc (suc zero)))) k = refl
right (suc (suc (suc (suc (suc zero))))) k = refl
right (suc (suc (suc (suc (suc (suc zero)))))) k = refl
right (suc (suc (suc (suc (suc (suc (suc zero))))))) k = refl
right (suc (suc (suc (suc (suc (suc (suc (suc zero)))))))) k = refl
right (suc (suc (suc (suc (suc (suc (suc (suc (suc zero))))))))) k = refl
right (suc (suc (suc (suc (suc (suc (suc (suc (suc (suc n)))))))))) k = absurd (omega arith)

rows : (row : ℕ) → 10 ≤ row → row ≤ 12 → row_right row ≡ true
unfolding row_right inner_at is_set members
rows zero h k = absurd (omega arith)
rows (suc zero) h k = absurd (omega arith)
rows (suc (suc zero)) h k = absurd (omega arith)
rows (suc (suc (suc zero))) h k = absurd (omega arith)
rows (suc (suc (suc (suc zero)))) h k = absurd (omega arith)
rows (suc (suc (suc (suc (suc zero))))) h k = absurd (omega arith)
rows (suc (suc (suc (suc (suc (suc zero)))))) h k = absurd (omega arith)
rows (suc (suc (suc (suc (suc (suc (suc zero))))))) h k = absurd (omega arith)
rows (suc (suc (suc (suc (suc (suc (suc (suc zero)))))))) h k = absurd (omega arith)
rows (suc (suc (suc (suc (suc (suc (suc (suc (suc zero))))))))) h k = absurd (omega arith)
rows (suc (suc (suc (suc (suc (suc (suc (suc (suc (suc zero)))))))))) h k = refl
rows (suc (suc (suc (suc (suc (suc (suc (suc (suc (suc (suc zero))))))))))) h k = refl
rows (suc (suc (suc (suc (suc (suc (suc (suc (suc (suc (suc (suc zero)))))))))))) h k = refl
rows (suc (suc (suc (suc (suc (suc (suc (suc (suc (suc (suc (suc (suc n))))))))))))) h k = absurd (omega arith)

module _ (kind : ℕ) (k : Kind kind) where
  members-right : all_from (right_at kind) 0 (get_or members kind []) ≡ true
  unfolding kind_right
  members-right = both_left _ _ (right kind k)

  pub is-sequence : is_set kind ≡ false
  unfolding kind_right
  is-sequence = not-true _ (both_left _ _ (both_right (required_at kind) _ (both_right (all_from (right_at kind) 0 (get_or members kind [])) _ (right kind k))))

  pub application-short : get_or applications kind 0 < 31
  unfolding kind_right
  application-short =
      ltb-true _ _
      (both_right (not (is_set kind)) _ (both_right (required_at kind) _ (both_right (all_from (right_at kind) 0 (get_or members kind [])) _ (right kind k))))

  rule-right : (n : ℕ) → right_at kind n (rule_of kind n) ≡ true
  unfolding rule_of right_at
  rule-right n = all-at (right_at kind) (λ m. refl) (get_or members kind []) n members-right

  -- a member that holds one value: its cell, and where a number adds to the path
  pub record Plain (n : ℕ) : Type 0 where
    pub rule : rule_at kind n ≡ rule_of kind n
    pub home : home_of kind n ≡ n
    pub low : n < 16
    pub alone : (contents_of kind ≡ 0) ⊎ (n ≡ 0)
    pub later : 0 < n → (rule_of kind n ≡ 5 → ⊥) × (rule_of kind n ≡ 6 → ⊥)

  pub plain_at : (n : ℕ) → (rule_of kind n ≡ 0 → ⊥) → rule_of kind n < 13 → Plain n
  unfolding right_at
  plain_at n a b =
      let e1 = pick-else (eqb (rule_of kind n) 0) _ _ (ne_eqb _ _ a) (rule-right n) in
      let e2 = pick-then (ltb (rule_of kind n) 13) _ _ (lt-ltb _ _ b) e1 in
      let e3 = both_right (eqb (rule_at kind n) (rule_of kind n)) _ e2 in
      let e4 = both_right (eqb (home_of kind n) n) _ e3 in
      let e4' = both_right (ltb n 16) _ e4 in
      let e5 = both_right (pick (eqb (contents_of kind) 0) true (eqb n 0)) _ e4' in
      record {
        rule = eqb-true _ _ (both_left _ _ e2);
        home = eqb-true _ _ (both_left _ _ e3);
        low = ltb-true _ _ (both_left _ _ e4);
        alone = go (eqb (contents_of kind) 0) refl (both_left _ _ e4');
        later = λ h.
            let z : n ≡ 0 → ⊥ = λ q. omega arith in
            let e6 = pick-else (eqb n 0) _ _ (ne_eqb _ _ z) e5 in
            (eqb-false _ _ (not-true _ (both_left _ _ e6)), eqb-false _ _ (not-true _ (both_right (not (eqb (rule_of kind n) 5)) _ e6)));
      }
    where
      go : (b : Bool) → eqb (contents_of kind) 0 ≡ b → pick b true (eqb n 0) ≡ true → (contents_of kind ≡ 0) ⊎ (n ≡ 0)
      go true e f = inl (eqb-true (contents_of kind) 0 e)
      go false e f = inr (eqb-true n 0 f)

  -- contents, children and connections
  pub body_at : (n : ℕ) → rule_of kind n ≡ 13 → (n ≡ 1) × ((10 ≤ contents_of kind) × (contents_of kind ≤ 12))
  unfolding right_at
  body_at n e =
      let r = ap (right_at kind n) (sym e) ∙ rule-right n in
      let r1 = both_right (eqb n 1) _ r in
      (eqb-true _ _ (both_left _ _ r), (leb-true _ _ (both_left _ _ r1), leb-true _ _ (both_right (leb 10 (contents_of kind)) _ r1)))

  pub kids-at : (n : ℕ) → rule_of kind n ≡ 14 → n ≡ 2
  unfolding right_at
  kids-at n e = eqb-true _ _ (ap (right_at kind n) (sym e) ∙ rule-right n)

  pub links-at : (n : ℕ) → rule_of kind n ≡ 15 → n ≡ 5
  unfolding right_at
  links-at n e = eqb-true _ _ (ap (right_at kind n) (sym e) ∙ rule-right n)

  pub rules-end : (n : ℕ) → rule_of kind n ≤ 15
  unfolding right_at
  rules-end n =
      ⊎_elim (λ (h : rule_of kind n < 16). omega arith)
      (λ (h : 16 ≤ rule_of kind n).
      let a : rule_of kind n ≡ 0 → ⊥ = λ q. omega arith in
      let b : 13 ≤ rule_of kind n = omega arith in
      let c : rule_of kind n ≡ 13 → ⊥ = λ q. omega arith in
      let d : rule_of kind n ≡ 14 → ⊥ = λ q. omega arith in
      let e1 = pick-else (eqb (rule_of kind n) 0) _ _ (ne_eqb _ _ a) (rule-right n) in
      let e2 = pick-else (ltb (rule_of kind n) 13) _ _ (le-ltb _ _ b) e1 in
      let e3 = pick-else (eqb (rule_of kind n) 13) _ _ (ne_eqb _ _ c) e2 in
      let e4 = pick-else (eqb (rule_of kind n) 14) _ _ (ne_eqb _ _ d) e3 in
      let q : rule_of kind n ≡ 15 = eqb-true _ _ (both_left (eqb (rule_of kind n) 15) _ e4) in
      absurd (omega arith))
      (lt-or-le (rule_of kind n) 16)

  -- required members are the first, one or two, and hold one value
  needs : required_at kind ≡ true
  unfolding kind_right
  needs = both_left _ _ (both_right (all_from (right_at kind) 0 (get_or members kind [])) _ (right kind k))

  pub required-some : (0 < required kind) × (required kind ≤ 2)
  unfolding required_at
  required-some =
      let r = both_right (ltb 0 (required kind)) _ needs in (ltb-true _ _ (both_left _ _ needs), leb-true _ _ (both_left _ _ r))

  pub required-at : (i : ℕ) → i < required kind → (0 < rule_of kind i) × (rule_of kind i < 13)
  unfolding required_at
  required-at i h =
      let s = required-some in
      let r1 = both_right (ltb 0 (required kind)) _ needs in
      let r2 = both_right (leb (required kind) 2) _ r1 in
      let r3 = both_right (ltb 0 (rule_of kind 0)) _ r2 in
      ⊎_elim
      (λ (l : i < 1).
      let q : i ≡ 0 = omega arith in
      rw q (ltb-true _ _ (both_left _ _ r2), ltb-true _ _ (both_left _ _ r3)))
      (λ (l : 1 ≤ i).
      let q : i ≡ 1 = omega arith in
      let t : required kind ≡ 2 = omega arith in
      let r4 = pick-then (eqb (required kind) 2) _ _ (eq-eqb _ _ t) (both_right (ltb (rule_of kind 0) 13) _ r3) in
      rw q (ltb-true _ _ (both_left _ _ r4), ltb-true _ _ (both_right (ltb 0 (rule_of kind 1)) _ r4)))
      (lt-or-le i 1)

module _ (row : ℕ) (h : 10 ≤ row) (k : row ≤ 12) where
  pub is-set : is_set row ≡ true
  unfolding row_right
  is-set = both_right (all_from inner_at 0 (get_or members row [])) _ (rows row h k)

  inner-right : (n : ℕ) → inner_at n (rule_of row n) ≡ true
  unfolding rule_of inner_at row_right
  inner-right n = all-at inner_at (λ m. refl) (get_or members row []) n (both_left _ _ (rows row h k))

  pub inner-rule : (n : ℕ) → (rule_of row n ≡ 0 → ⊥) → (rule_of row n < 13) × ((n < 15) × ((rule_of row n ≡ 5 → ⊥) × (rule_of row n ≡ 6 → ⊥)))
  unfolding inner_at
  inner-rule n a =
      let e1 = pick-else (eqb (rule_of row n) 0) _ _ (ne_eqb _ _ a) (inner-right n) in
      let e2 = both_right (ltb (rule_of row n) 13) _ e1 in
      let e3 = both_right (ltb n 15) _ e2 in (
        ltb-true _ _ (both_left _ _ e1),
        (
          ltb-true _ _ (both_left _ _ e2),
          (eqb-false _ _ (not-true _ (both_left _ _ e3)), eqb-false _ _ (not-true _ (both_right (not (eqb (rule_of row n) 5)) _ e3))),
        ),
      )

-- the rule of a cell behind the first, by the contents' row
pub inner-cell : (kind n : ℕ) → (contents_of kind ≡ 0 → ⊥) → rule_at kind (suc n) ≡ rule_of (contents_of kind) n
unfolding rule_at
inner-cell kind n h =
    let z : suc n ≡ 0 → ⊥ = λ q. omega arith in
    let d : suc n - 1 ≡ n = omega arith in
    simp (ne_eqb _ _ h, ne_eqb _ _ z, d)

-- a kind that a collection holds
kindly : ℕ → Bool
kindly kind = both (leb 1 kind) (leb kind 9)

all-kindly : (l : List ℕ) (i : ℕ) (kind : ℕ) → all_from (λ i x. kindly x) i l ≡ true → among l kind ≡ true → kindly kind ≡ true
unfolding among
all-kindly [] i kind e a = never a
all-kindly (x ∷ xs) i kind e a = tell (eqb x kind) refl (all-kindly xs (suc i) kind (both_right (kindly x) _ e))
  where
    tell : (b : Bool) → eqb x kind ≡ b → (among xs kind ≡ true → kindly kind ≡ true) → kindly kind ≡ true
    tell true q r = ap kindly (sym (eqb-true x kind q)) ∙ both_left (kindly x) _ e
    tell false q r = r (pick-else (eqb x kind) true _ q a)

holds-kindly : (which : ℕ) → all_from (λ i x. kindly x) 0 (get_or holds which []) ≡ true
unfolding holds kindly
holds-kindly zero = refl
holds-kindly (suc zero) = refl
holds-kindly (suc (suc zero)) = refl
holds-kindly (suc (suc (suc zero))) = refl
holds-kindly (suc (suc (suc (suc n)))) = refl

pub stands-kind : (which kind : ℕ) → stands_in which kind ≡ true → Kind kind
unfolding kindly
stands-kind which kind a =
    let r = all-kindly (get_or holds which []) 0 kind (holds-kindly which) a in
    (leb-true _ _ (both_left _ _ r), leb-true _ _ (both_right (leb 1 kind) _ r))

chosen-stands : (l : List ℕ) (number : ℕ) → (kind_among l number ≡ 0 → ⊥) → among l (kind_among l number) ≡ true
unfolding kind_among among
chosen-stands [] number h = absurd (h refl)
chosen-stands (x ∷ xs) number h = tell (eqb (get_or applications x 0) number) refl (chosen-stands xs number)
  where
    tell : (b : Bool) → eqb (get_or applications x 0) number ≡ b → ((kind_among xs number ≡ 0 → ⊥) → among xs (kind_among xs number) ≡ true)
        → pick (eqb x (pick b x (kind_among xs number))) true (among xs (pick b x (kind_among xs number))) ≡ true
    tell true q r = pick_true (eqb x x) true (among xs x) (eq-eqb x x refl)
    tell false q r =
        let n : kind_among xs number ≡ 0 → ⊥ = λ z. h (pick-false (eqb (get_or applications x 0) number) x (kind_among xs number) q ∙ z) in
        later (eqb x (kind_among xs number)) (r n)
      where
        later : (b : Bool) {c : Bool} → c ≡ true → pick b true c ≡ true
        later true e = refl
        later false e = e

pub kind-stands : (which number : ℕ) → (kind_in which number ≡ 0 → ⊥) → stands_in which (kind_in which number) ≡ true
unfolding kind_in
kind-stands which number h = chosen-stands (get_or holds which []) number h
