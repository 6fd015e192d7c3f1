-- What a table says at a number, from plain facts on the number. For a table and an answer that are written out, `Chosen` and `Empty` compute to a
-- product of such facts, which `omega` proves: one line serves each arm of a match.
use Prim.Native.Nat.{ℕ, zero, suc, ◌+◌, ◌<◌, ◌≤◌}
use mathlib.Core.Path.{◌≡◌, refl, sym, ap, ◌∙◌, subst}
use mathlib.Core.List.{List, [], ◌∷◌}
use mathlib.Core.Bool.{Bool, true, false}
use mathlib.Core.Logic.{⊎_elim}
use native.Mathlib.Omega.{arith}
use borrow.Author.Tests.{eqb-true, eq-eqb, ne_eqb, le-leb, lt-leb}
use lib.ListN.{get_or}
use lib.Dec.{eqb}
use Rattle.base_choices.specs.Choices.{pick}
use Rattle.base_choices.proofs.Laws.{pick-by}
use Rattle.ber_integers.proofs.Radix.{lt-or-le}
use Rattle.ber_values.specs.Value.{is_listed}
use Rattle.glow_grammar.specs.Grammar.{applications, kind_among, holds, kind_in, members, rule_of}
use Rattle.glow_grammar.specs.Grammar.{root_elements, streams, no_root, root_element_collection, stream_collection, root_of, root_number}
use Rattle.glow_grammar.specs.Leaf.{expects}

-- one of two facts
abbrev pub either : Bool → Type 0 → Type 0 → Type 0
either true a b = a
either false a b = b

-- n is no place of the lists, whose first place is i, that has a list with an element
abbrev pub Empty : List (List ℕ) → ℕ → ℕ → Type 0
Empty [] i n = Unit {0}
Empty ([] ∷ ls) i n = Empty ls (suc i) n
Empty ((e ∷ l) ∷ ls) i n = (n ≡ i → ⊥) × Empty ls (suc i) n

empty : (ls : List (List ℕ)) (i k : ℕ) → Empty ls i (i + k) → get_or ls k [] ≡ []
empty [] i k h = refl
empty ([] ∷ ls) i zero h = refl
empty ((e ∷ l) ∷ ls) i zero h = absurd (h.0 (omega arith))
empty ([] ∷ ls) i (suc k) h =
    let q : i + suc k ≡ suc i + k = omega arith in
    empty ls (suc i) k (subst (λ (n : ℕ). Empty ls (suc i) n) q h)
empty ((e ∷ l) ∷ ls) i (suc k) h =
    let q : i + suc k ≡ suc i + k = omega arith in
    empty ls (suc i) k (subst (λ (n : ℕ). Empty ls (suc i) n) q h.1)

empty-at : (ls : List (List ℕ)) (n : ℕ) → Empty ls 0 n → get_or ls n [] ≡ []
empty-at ls n h = let q : n ≡ 0 + n = omega arith in empty ls 0 n (subst (λ (m : ℕ). Empty ls 0 m) q h)

pub rule-none : (row n : ℕ) → Empty members 0 row → rule_of row n ≡ 0
unfolding rule_of
rule-none row n h = rw (empty-at members row h)

-- number is v's application number, and that of no kind before it; or of none, for 0
abbrev pub Chosen : List ℕ → ℕ → ℕ → Type 0
Chosen [] number v = either (eqb 0 v) (Unit {0}) ⊥
Chosen (k ∷ ks) number v =
    either (eqb k v) (number ≡ get_or applications k 0) ((number ≡ get_or applications k 0 → ⊥) × Chosen ks number v)

chosen : (ks : List ℕ) (number v : ℕ) → Chosen ks number v → kind_among ks number ≡ v
unfolding kind_among
chosen [] number v h = go (eqb 0 v) refl h
  where
    go : (b : Bool) → eqb 0 v ≡ b → either b (Unit {0}) ⊥ → 0 ≡ v
    go true e h = eqb-true 0 v e
    go false e h = absurd h
chosen (k ∷ ks) number v h = go (eqb k v) refl h (λ (r : Chosen ks number v). chosen ks number v r)
  where
    go : (b : Bool) → eqb k v ≡ b
        → either b (number ≡ get_or applications k 0) ((number ≡ get_or applications k 0 → ⊥) × Chosen ks number v)
        → (Chosen ks number v → kind_among ks number ≡ v)
        → pick (eqb (get_or applications k 0) number) k (kind_among ks number) ≡ v
    go true e h rest = simp (eq-eqb _ _ (sym h)) (eqb-true k v e)
    go false e h rest = simp (ne_eqb (get_or applications k 0) number (λ e. h.0 (sym e))) (rest h.1)

pub kind_at : (which number v : ℕ) → Chosen (get_or holds which []) number v → kind_in which number ≡ v
unfolding kind_in
kind_at which number v h = chosen (get_or holds which []) number v h

pub kind-none : (which number : ℕ) → Empty holds 0 which → kind_in which number ≡ 0
unfolding kind_in kind_among
kind-none which number h = rw (empty-at holds which h)

-- Root's collection, by its number
pub root_by : (P : ℕ → Type 0) (number : ℕ) → (number ≡ root_element_collection → P root_elements) → (number ≡ stream_collection → P streams) → P no_root
    → P (root_of number)
unfolding root_of
root_by P number elements entries none =
    pick-by P (eqb number root_element_collection) (λ e. elements (eqb-true _ _ e))
    (λ n. pick-by P (eqb number stream_collection) (λ e. entries (eqb-true _ _ e)) (λ m. none))

-- the tag of each kind and of each collection of Root takes one octet
abbrev Short : List ℕ → Type 0
Short [] = Unit {0}
Short (e ∷ l) = (e < 31) × Short l

short-at : (l : List ℕ) (n : ℕ) → Short l → get_or l n 0 < 31
short-at [] n h = omega arith
short-at (e ∷ l) zero h = h.0
short-at (e ∷ l) (suc n) h = short-at l n h.1

pub application-short : (kind : ℕ) → get_or applications kind 0 < 31
unfolding applications
application-short kind = short-at applications kind (omega arith)

pub root-short : (root : ℕ) → root_number root < 31
unfolding root_number
root-short root = pick-by (λ (n : ℕ). n < 31) (eqb root root_elements) (λ e. omega arith) (λ e. omega arith)

-- what stands at a member
module _ (number : ℕ) where
  pub unlisted : (number ≡ 1 → ⊥) → (number ≡ 2 → ⊥) → (number ≡ 4 → ⊥) → (number ≡ 9 → ⊥) → (number ≡ 12 → ⊥) → is_listed number ≡ false
  unfolding is_listed
  unlisted a b c d e = simp (ne_eqb _ _ a, ne_eqb _ _ b, ne_eqb _ _ c, ne_eqb _ _ d, ne_eqb _ _ e)

  module _ (what : ℕ) where
    pub expects-any : what ≡ 4 → expects what number ≡ is_listed number
    unfolding expects
    expects-any h = simp (eq-eqb _ _ h)

    pub expects-text : what ≤ 2 → expects what number ≡ eqb number 12
    unfolding expects
    expects-text h = let n : what ≡ 4 → ⊥ = λ e. omega arith in simp (ne_eqb _ _ n, le-leb _ _ h)

    pub expects-flag : what ≡ 3 → expects what number ≡ eqb number 1
    unfolding expects
    expects-flag h = rw h

    pub expects-numbers : 6 ≤ what → what ≤ 7 → expects what number ≡ eqb number 13
    unfolding expects
    expects-numbers h k =
        ⊎_elim
        (λ (l : what < 7). let e : what ≡ 6 = omega arith in rw e)
        (λ (l : 7 ≤ what). let e : what ≡ 7 = omega arith in rw e)
        (lt-or-le what 7)

    pub expects-step : what ≡ 5 → expects what number ≡ eqb number 2
    unfolding expects
    expects-step h = rw h

    pub expects-int : 8 ≤ what → expects what number ≡ eqb number 2
    unfolding expects
    expects-int h =
        let a : what ≡ 4 → ⊥ = λ e. omega arith in
        let b : 2 < what = omega arith in
        let c : what ≡ 3 → ⊥ = λ e. omega arith in
        let d : what ≡ 6 → ⊥ = λ e. omega arith in
        let e : what ≡ 7 → ⊥ = λ e. omega arith in
        simp (ne_eqb _ _ a, lt-leb _ _ b, ne_eqb _ _ c, ne_eqb _ _ d, ne_eqb _ _ e)

-- a row, a collection by its number
pub rule-row : {row k v : ℕ} (n : ℕ) → row ≡ k → rule_of k n ≡ v → rule_of row n ≡ v
rule-row n e h = ap (λ (i : ℕ). rule_of i n) e ∙ h

pub kind-which : {which k v : ℕ} (number : ℕ) → which ≡ k → kind_in k number ≡ v → kind_in which number ≡ v
kind-which number e h = ap (λ (i : ℕ). kind_in i number) e ∙ h
