-- Where a kind may stand, what it must have, and the path's numbers.
use Prim.Native.Nat.{ℕ, zero, suc, ◌+◌, ◌≤◌, ◌<◌}
use mathlib.Core.Path.{◌≡◌, refl, sym, ap, subst, ◌∙◌}
use mathlib.Core.Bool.{Bool, true, false, not}
use mathlib.Core.List.{List, [], ◌∷◌}
use mathlib.Core.Logic.{⊎_elim}
use native.Mathlib.Omega.{arith}
use borrow.Author.Tests.{eq-eqb, ne_eqb, le-leb, lt-leb, eqb-true, eqb-false}
use lib.Dec.{T, leb, ltb, eqb}
use lib.ListN.{length, take, drop, get_or}
use Rattle.base_choices.specs.Choices.{pick}
use Rattle.base_choices.proofs.Laws.{pick-by, both_left, both_right}
use Rattle.ber_identifiers.specs.declared.Oid.{Oid}
use Rattle.ber_identifiers.specs.declared.Oid.TheVariants.{Numbers, Range, Refused}
use Rattle.ber_identifiers.specs.Identifier.{Arcs, bad, over, numbers, arcs, oid_at}
use Rattle.ber_identifiers.specs.Identifier as oid
use Rattle.glow_rows.specs.declared.Cell.{Cell}
use Rattle.glow_grammar.specs.Grammar.{holds, required, requirements}
use Rattle.glow_grammar.specs.Grammar as grammar
use Rattle.glow_grammar.specs.Leaf.{expects}
use Rattle.glow_trees.specs.Content.{Content, nothing, word, bytes, wrong, is_part, is_word, content_of}
use Rattle.glow_trees.specs.Trees.{among, stands_in}
use Rattle.glow_trees.specs.Legal.{suits, word_suits, part_suits, present, length_of, path_of}
use Rattle.ber_integers.proofs.Radix.{lt-or-le}
use Rattle.ber_identifiers.proofs.Laws.{oid-within}
use Rattle.glow_sizes.specs.Sizes.{path_cap, split, keyed}
use Rattle.glow_member_sizes.proofs.Members.{content-out, content-part, content-kind, numbers-there}

never : {P : Type 0} → false ≡ true → P
never e = absurd (subst (λ (b : Bool). T (not b)) e tt)

-- ---- the cells outside contents
module _ (kind row : ℕ) (e : grammar.contents_of kind ≡ row) where
  pub split-all : row ≡ 0 → split kind ≡ 16
  split-all h = simp (eq-eqb _ _ (e ∙ h))

  pub split_one : (row ≡ 0 → ⊥) → split kind ≡ 1
  split_one h = simp (ne_eqb _ _ (λ i. h (sym e ∙ i)))

-- ---- the kinds of a collection
past : (n kind : ℕ) → eqb n kind ≡ false → n ≤ kind → suc n ≤ kind
past n kind e h = let q = eqb-false n kind e in omega arith

module _ (kind : ℕ) where
  pub in-zero : stands_in 0 0 ≡ false
  unfolding among holds
  in-zero = refl

  pub in-zero-children : stands_in 1 0 ≡ false
  unfolding among holds
  in-zero-children = refl

  pub in-root : (kind ≡ 0 → ⊥) → stands_in 0 kind ≡ leb kind 7
  unfolding among holds
  in-root h =
      let P : Bool → Type 0 = λ b. b ≡ leb kind 7 in
      pick-by P (eqb 1 kind) (λ e. let q = eqb-true 1 kind e in sym (le-leb kind 7 (omega arith)))
      (λ e1. pick-by P (eqb 2 kind) (λ e. let q = eqb-true 2 kind e in sym (le-leb kind 7 (omega arith)))
      (λ e2. pick-by P (eqb 3 kind) (λ e. let q = eqb-true 3 kind e in sym (le-leb kind 7 (omega arith)))
      (λ e3. pick-by P (eqb 4 kind) (λ e. let q = eqb-true 4 kind e in sym (le-leb kind 7 (omega arith)))
      (λ e4. pick-by P (eqb 5 kind) (λ e. let q = eqb-true 5 kind e in sym (le-leb kind 7 (omega arith)))
      (λ e5. pick-by P (eqb 6 kind) (λ e. let q = eqb-true 6 kind e in sym (le-leb kind 7 (omega arith)))
      (λ e6. pick-by P (eqb 7 kind) (λ e. let q = eqb-true 7 kind e in sym (le-leb kind 7 (omega arith)))
      (λ e7.
      let a = past 1 kind e1 (past 0 kind (ne_eqb 0 kind (λ q. h (sym q))) (omega arith)) in
      let c = past 3 kind e3 (past 2 kind e2 a) in
      let f = past 5 kind e5 (past 4 kind e4 c) in sym (lt-leb kind 7 (past 7 kind e7 (past 6 kind e6 f))))))))))

  pub in-children : (kind ≡ 0 → ⊥) → stands_in 1 kind ≡ leb kind 4
  unfolding among holds
  in-children h =
      let P : Bool → Type 0 = λ b. b ≡ leb kind 4 in
      pick-by P (eqb 1 kind) (λ e. let q = eqb-true 1 kind e in sym (le-leb kind 4 (omega arith)))
      (λ e1. pick-by P (eqb 2 kind) (λ e. let q = eqb-true 2 kind e in sym (le-leb kind 4 (omega arith)))
      (λ e2. pick-by P (eqb 3 kind) (λ e. let q = eqb-true 3 kind e in sym (le-leb kind 4 (omega arith)))
      (λ e3. pick-by P (eqb 4 kind) (λ e. let q = eqb-true 4 kind e in sym (le-leb kind 4 (omega arith)))
      (λ e4.
      let a = eqb-false 1 kind e1 in
      let b = eqb-false 2 kind e2 in
      let c = eqb-false 3 kind e3 in
      let d = eqb-false 4 kind e4 in sym (lt-leb kind 4 (omega arith))))))

  one : (n : ℕ) → pick (eqb n kind) true false ≡ eqb kind n
  one n = pick-by (λ b. b ≡ eqb kind n) (eqb n kind) (λ e. sym (eq-eqb _ _ (sym (eqb-true n kind e)))) (λ e. sym (ne_eqb _ _ (λ q. eqb-false n kind e (sym q))))

  pub in-connections : stands_in 2 kind ≡ eqb kind 8
  unfolding among holds
  in-connections = one 8

  pub in-streams : stands_in 3 kind ≡ eqb kind 9
  unfolding among holds
  in-streams = one 9

pub in-which : (which n kind : ℕ) {b : Bool} → which ≡ n → stands_in n kind ≡ b → stands_in which kind ≡ b
in-which which n kind e h = ap (λ (i : ℕ). stands_in i kind) e ∙ h

pub in-kind : (which kind n : ℕ) {b : Bool} → kind ≡ n → stands_in which n ≡ b → stands_in which kind ≡ b
in-kind which kind n e h = ap (stands_in which) e ∙ h

pub in-none : (which kind : ℕ) → 3 < which → stands_in which kind ≡ false
unfolding among holds
in-none zero kind h = absurd (omega arith)
in-none (suc zero) kind h = absurd (omega arith)
in-none (suc (suc zero)) kind h = absurd (omega arith)
in-none (suc (suc (suc zero))) kind h = absurd (omega arith)
in-none (suc (suc (suc (suc n)))) kind h = refl

-- ---- what is required
module _ (n : ℕ) (r : List ℕ) where
  pub keyed-none : n ≡ 0 → keyed n r ≡ true
  unfolding keyed
  keyed-none h = simp (eq-eqb _ _ h)

  module _ (some : n ≡ 0 → ⊥) where
    pub keyed-no : get_or r 2 0 ≡ 0 → keyed n r ≡ false
    unfolding keyed
    keyed-no h = simp (ne_eqb _ _ some, eq-eqb _ _ h)

    module _ (first : get_or r 2 0 ≡ 0 → ⊥) where
      pub keyed-one : n ≡ 1 → keyed n r ≡ true
      unfolding keyed
      keyed-one h = simp (ne_eqb _ _ some, ne_eqb _ _ first, eq-eqb _ _ h)

      pub keyed-two : (n ≡ 1 → ⊥) → keyed n r ≡ not (eqb (get_or r 5 0) 0)
      unfolding keyed
      keyed-two h = simp (ne_eqb _ _ some, ne_eqb _ _ first, ne_eqb _ _ h)

-- ---- the path
content-plain : (s : List ℕ) (v : Cell) (P : Content → Type 0) → is_part v.kind ≡ false → P wrong → P nothing
    → (is_word v.kind ≡ true → P (word v.kind v.first)) → P (content_of s v)
unfolding content_of
content-plain s v P p a b c =
    pick-by P (is_part v.kind) (λ e. never (sym p ∙ e))
    (λ e. pick-by P (is_word v.kind)
    (λ w. pick-by P (eqb v.second 0) (λ e. pick-by P (ltb v.first 18446744073709551616) (λ e. c w) (λ e. a)) (λ e. a))
    (λ w. pick-by P (eqb v.kind 0)
    (λ e. pick-by P (eqb v.first 0) (λ e. pick-by P (eqb v.second 0) (λ e. b) (λ e. a)) (λ e. a)) (λ e. a)))

no_word : (kind : ℕ) → is_word kind ≡ true → eqb kind 13 ≡ true → ⊥
no_word kind p e = never (sym (ap is_word (eqb-true kind 13 e)) ∙ p)

by_zero : (s : List ℕ) (v : Cell) → v.kind ≡ 0 → (P : Content → Type 0) → P wrong → P nothing → P (content_of s v)
by_zero s v z P a b = content-plain s v P (ap is_part z) a b (λ w. never (sym (ap is_word z) ∙ w))

suits-wrong : (what : ℕ) → suits what wrong ≡ false
unfolding suits
suits-wrong what = refl

no-path : (s : List ℕ) (v : Cell) → is_part v.kind ≡ false → suits 6 (content_of s v) ≡ true → present (content_of s v) ≡ true → ⊥
unfolding suits expects
no-path s v p =
    content-plain s v (λ y. suits 6 y ≡ true → present y ≡ true → ⊥) p (λ h q. never h) (λ h q. never q)
    (λ w h q.
    no_word v.kind w
    (both_left (eqb v.kind 13) (word_suits 6 v.kind v.first)
    (both_right (ltb v.first 18446744073709551616) _ (both_right (is_word v.kind) _ h))))

abbrev pub count_of : Oid → ℕ
count_of (Numbers n) = n
count_of Range = 0
count_of Refused = 0

module _ (s : List ℕ) (v : Cell) (above : ℕ) where
  abbrev x : Content
  x = content_of s v

  not-part : (kind : ℕ) → is_part kind ≡ true → eqb kind 2 ≡ true → ⊥
  not-part kind p e = never (sym (ap is_part (eqb-true kind 2 e)) ∙ p)

  step-word : (y : Content) → suits 5 y ≡ true → present y ≡ true → path_of 5 above (y ∷ []) ≡ suc above
  unfolding suits expects
  step-word nothing h p = never p
  step-word (word kind w) h p = refl
  step-word (bytes kind bs) h p =
      absurd (not-part kind (both_left (is_part kind) _ h) (both_left (eqb kind 2) (part_suits 5 kind bs) (both_right (is_part kind) _ h)))
  step-word wrong h p = never h

  -- a kind is there exactly if the member is, where it suits
  kind-none : (what : ℕ) → v.kind ≡ 0 → suits what (content_of s v) ≡ true → content_of s v ≡ nothing
  kind-none what z h = go (content_of s v) refl h
    where
      go : (y : Content) → content_of s v ≡ y → suits what y ≡ true → content_of s v ≡ nothing
      go y e h = by_zero s v z (λ c. content_of s v ≡ c → suits what c ≡ true → content_of s v ≡ nothing)
          (λ e h. never (sym (suits-wrong what) ∙ h)) (λ e h. e) refl (ap (suits what) e ∙ h)

  pub kind-present : (v.kind ≡ 0 → ⊥) → present (content_of s v) ≡ true
  kind-present z = content-kind s v (λ y. present y ≡ true) z refl (λ n. refl) (λ bs. refl)

  pub kind-absent : (what : ℕ) → v.kind ≡ 0 → suits what (content_of s v) ≡ true → present (content_of s v) ≡ false
  kind-absent what z h = ap present (kind-none what z h)

  pub path-none : (what : ℕ) → v.kind ≡ 0 → suits what (content_of s v) ≡ true → path_of what above (content_of s v ∷ []) ≡ above
  path-none what z h = ap (λ (y : Content). path_of what above (y ∷ [])) (kind-none what z h)

  module _ (what : ℕ) (fit : suits what (content_of s v) ≡ true) (there : present (content_of s v) ≡ true) where
    step_is : what ≡ 5 → path_of what above (content_of s v ∷ []) ≡ suc above
    step_is h =
        ap (λ (i : ℕ). path_of i above (content_of s v ∷ [])) h ∙ step-word (content_of s v) (ap (λ (i : ℕ). suits i (content_of s v)) (sym h) ∙ fit) there

    pub path-step-over : what ≡ 5 → 16 ≤ above → path_cap (path_of what above (content_of s v ∷ [])) ≡ 17
    unfolding path_cap
    path-step-over h k = let l : 16 < suc above = omega arith in rw (step_is h) (simp (lt-leb _ _ l))

    pub path-step : what ≡ 5 → above < 16 → path_cap (path_of what above (content_of s v ∷ [])) ≡ above + 1
    unfolding path_cap
    path-step h k = let l : suc above ≤ 16 = omega arith in rw (step_is h) (simp (le-leb _ _ l) (omega arith))

    -- a path is a part of the message
    path-part : what ≡ 6 → (is_part v.kind ≡ true) × (v.first + v.second ≤ length s)
    path-part h = go (is_part v.kind) refl
      where
        fit6 : suits 6 (content_of s v) ≡ true
        fit6 = ap (λ (i : ℕ). suits i (content_of s v)) (sym h) ∙ fit

        go : (b : Bool) → is_part v.kind ≡ b → (is_part v.kind ≡ true) × (v.first + v.second ≤ length s)
        go true p = (
          p,
          ⊎_elim (λ (l : length s < v.first + v.second). never (sym (suits-wrong 6) ∙ ap (suits 6) (sym (content-out s v p l)) ∙ fit6))
              (λ (l : v.first + v.second ≤ length s). l) (lt-or-le (length s) (v.first + v.second)),
        )
        go false p = absurd (no-path s v p fit6 there)

    pub path-counted : what ≡ 6 → (start len : ℕ) (r : Oid) → start ≡ v.first → len ≡ v.second → r ≡ oid_at s start len
        → path_of what above (content_of s v ∷ []) ≡ count_of r
    path-counted h start len r i j e =
        let q = path-part h in
        let l : start + len ≤ length s = omega (arith, q.1) in
        ap (λ (i : ℕ). path_of i above (content_of s v ∷ [])) h
        ∙ ap (λ (y : Content). path_of 6 above (y ∷ [])) (content-part s v q.0 q.1)
        ∙ ap (λ (n : ℕ). length_of (arcs (take n (drop v.first s)) 0 (length (take n (drop v.first s))))) (sym j)
        ∙ ap (λ (n : ℕ). length_of (arcs (take len (drop n s)) 0 (length (take len (drop n s))))) (sym i)
        ∙ ap length_of (sym (numbers-there s start len 6 l))
        ∙ counted (arcs s start len)
        ∙ ap count_of (oid-within s start len l ∙ sym e)
      where
        counted : (a : Arcs) → length_of a ≡ count_of (oid.judged a)
        counted bad = refl
        counted over = refl
        counted (numbers ns) = refl

    pub path-other : (what ≡ 5 → ⊥) → (what ≡ 6 → ⊥) → path_of what above (content_of s v ∷ []) ≡ above
    path-other h k = go (content_of s v)
      where
        go : (y : Content) → path_of what above (y ∷ []) ≡ above
        go nothing = refl
        go (word kind w) = simp (ne_eqb _ _ h)
        go (bytes kind bs) = simp (ne_eqb _ _ k)
        go wrong = refl

pub cap-few : (n : ℕ) → n ≤ 16 → path_cap n ≡ n
unfolding path_cap
cap-few n h = simp (le-leb _ _ h)

pub cap-many : (n : ℕ) → 16 < n → path_cap n ≡ 17
unfolding path_cap
cap-many n h = simp (lt-leb _ _ h)

pub shallow-none : (inside k : ℕ) → inside ≡ 0 → pick (eqb inside 0) true (leb 5 k) ≡ true
shallow-none inside k h = simp (eq-eqb _ _ h)

pub shallow-some : (inside k : ℕ) → (inside ≡ 0 → ⊥) → pick (eqb inside 0) true (leb 5 k) ≡ leb 5 k
shallow-some inside k h = simp (ne_eqb _ _ h)
