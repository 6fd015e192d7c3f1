-- One law for each answer of the definitions that judge a value, at plain variables.
use Prim.Native.Nat.{ℕ, suc, ◌+◌, ◌≤◌, ◌<◌}
use mathlib.Core.Path.{◌≡◌, refl, sym, ap, ◌∙◌}
use mathlib.Core.List.{List, []}
use mathlib.Core.Bool.{Bool, true, false}
use native.Mathlib.Omega.{arith}
use borrow.Author.Tests.{leb-true, le-leb, lt-leb, lt-ltb, eq-eqb, ne_eqb}
use lib.ListN.{length, take, drop}
use lib.Dec.{leb, ltb, eqb}
use lib.IntN.{ℤ}
use mir.Syntax.{w64}
use mir.Val.{SFits}
use Rattle.base_choices.specs.Choices.{pick, both}
use Rattle.ber_values.specs.declared.Value.TheVariants.{Int, Text}
use Rattle.ber_values.specs.Value.{content_at}
use Rattle.ber_identifiers.specs.Identifier.{Arcs, bad, over, numbers, push, pass, arcs, oid_at, judged as oid_of}
use Rattle.ber_identifiers.proofs.Laws.{oid-within}
use Rattle.glow_rows.specs.declared.Cell.{Cell}
use Rattle.glow_rows.specs.Cell.{cell_of, numbers_cell}
use Rattle.glow_grammar.specs.declared.Leaf.{Leaf}
use Rattle.glow_grammar.specs.declared.Leaf.TheVariants.{Kept, Refused as Not}
use Rattle.glow_grammar.specs.Leaf.{expects, in_range, word_in, is_name, all_positive, is_path}
use Rattle.glow_grammar.specs.Leaf.{number_leaf, text_leaf, judged, path_leaf, list_leaf, oid_leaf, numbers_at, leaf_at}
use Rattle.glow_grammar.proofs.Laws.{word-range}

-- a number
pub cell-range : (what : ℕ) {z : ℤ} {v : Cell} {r : Bool} → SFits w64 z → v ≡ cell_of (Int z) → word_in what v.first ≡ r → in_range what z ≡ r
cell-range what {z} h e k = sym (word-range what z h) ∙ ap (λ (v : Cell). word_in what v.first) (sym e) ∙ k

module _ (at what above : ℕ) (z : ℤ) where
  pub number-any : what ≡ 4 → number_leaf at what above z ≡ Kept (cell_of (Int z)) above
  unfolding number_leaf
  number-any h = simp (eq-eqb _ _ h)

  module _ (other : what ≡ 4 → ⊥) where
    pub number-out : in_range what z ≡ false → number_leaf at what above z ≡ Not 34 at
    unfolding number_leaf
    number-out h = simp (ne_eqb _ _ other, h)

    module _ (within : in_range what z ≡ true) where
      pub number_step : what ≡ 5 → above < 16 → number_leaf at what above z ≡ Kept (cell_of (Int z)) (above + 1)
      unfolding number_leaf
      number_step h k = let l : above + 1 ≤ 16 = omega arith in simp (ne_eqb _ _ other, within, eq-eqb _ _ h, le-leb _ _ l)

      pub number-deep : what ≡ 5 → 16 ≤ above → number_leaf at what above z ≡ Not 37 at
      unfolding number_leaf
      number-deep h k = let l : 16 < above + 1 = omega arith in simp (ne_eqb _ _ other, within, eq-eqb _ _ h, lt-leb _ _ l)

      pub number-kept : (what ≡ 5 → ⊥) → number_leaf at what above z ≡ Kept (cell_of (Int z)) above
      unfolding number_leaf
      number-kept h = simp (ne_eqb _ _ other, within, ne_eqb _ _ h)

-- a text
module _ (s : List ℕ) (at what above start len : ℕ) where
  pub text-free : (what ≡ 1 → ⊥) → text_leaf s at what above start len ≡ Kept (cell_of (Text start len)) above
  unfolding text_leaf
  text-free h = simp (ne_eqb _ _ h)

  pub text-name : what ≡ 1 → is_name (take len (drop start s)) ≡ true → text_leaf s at what above start len ≡ Kept (cell_of (Text start len)) above
  unfolding text_leaf
  text-name h k = simp (eq-eqb _ _ h, k)

  pub text-wrong : what ≡ 1 → is_name (take len (drop start s)) ≡ false → text_leaf s at what above start len ≡ Not 36 at
  unfolding text_leaf
  text-wrong h k = simp (eq-eqb _ _ h, k)

pub refused-by : {n m : ℕ} (place : ℕ) → n ≡ m → Not m place ≡ Not n place
refused-by place e = ap (λ (i : ℕ). Not i place) (sym e)

-- relative identifiers: the numbers passed, and whether one of them was wrong, with those to come
module _ (at start len : ℕ) where
  pub tally : ℕ → Bool → Arcs → Leaf
  tally count wrong bad = Not 30 at
  tally count wrong over = Not 37 at
  tally count wrong (numbers ns) =
      pick wrong (Not 37 at)
      (pick (both (ltb 0 (count + length ns)) (both (leb (count + length ns) 16) (all_positive ns)))
      (Kept (numbers_cell start len) (count + length ns))
      (Not 37 at))

  pub tally-start : (a : Arcs) → tally 0 false a ≡ path_leaf at start len a
  unfolding tally is_path
  tally-start bad = refl
  tally-start over = refl
  tally-start (numbers ns) = let e : 0 + length ns ≡ length ns = omega arith in rw e

  spoils : (a b : Bool) (l m : Leaf) → m ≡ pick (both a (both b false)) l m
  spoils true true l m = refl
  spoils true false l m = refl
  spoils false b l m = refl

  pick_same : (b : Bool) (l : Leaf) → l ≡ pick b l l
  pick_same true l = refl
  pick_same false l = refl

  tally-push : (count n : ℕ) (wrong : Bool) (a : Arcs) → tally (count + 1) (pick (eqb n 0) true wrong) a ≡ tally count wrong (push n a)
  unfolding tally all_positive
  tally-push count n wrong bad = refl
  tally-push count n wrong over = refl
  tally-push count n wrong (numbers ns) = go (eqb n 0) refl
    where
      go : (b : Bool) → eqb n 0 ≡ b
          → pick (pick b true wrong) (Not 37 at)
          (pick (both (ltb 0 (count + 1 + length ns)) (both (leb (count + 1 + length ns) 16) (all_positive ns)))
          (Kept (numbers_cell start len) (count + 1 + length ns))
          (Not 37 at))
          ≡ pick wrong (Not 37 at)
          (pick (both (ltb 0 (count + suc (length ns))) (both (leb (count + suc (length ns)) 16) (pick b false (all_positive ns))))
          (Kept (numbers_cell start len) (count + suc (length ns)))
          (Not 37 at))
      go true e =
          let m : ℕ = count + suc (length ns) in
          let l : Leaf = Kept (numbers_cell start len) m in
          pick_same wrong (Not 37 at) ∙ ap (λ (k : Leaf). pick wrong (Not 37 at) k) (spoils (ltb 0 m) (leb m 16) l (Not 37 at))
      go false e = let q : count + 1 + length ns ≡ count + suc (length ns) = omega arith in rw q

  pub tally-next : (count n : ℕ) (wrong : Bool) {r : Bool} (a : Arcs) → pick (eqb n 0) true wrong ≡ r → tally (count + 1) r a ≡ tally count wrong (push n a)
  tally-next count n wrong a e = ap (λ (b : Bool). tally (count + 1) b a) (sym e) ∙ tally-push count n wrong a

  pub tally-pass : (count : ℕ) (wrong : Bool) (a : Arcs) → tally count true a ≡ tally count wrong (pass a)
  unfolding tally
  tally-pass count wrong bad = refl
  tally-pass count wrong over = refl
  tally-pass count wrong (numbers ns) = refl

  pub tally-bad : (count : ℕ) (wrong : Bool) → tally count wrong bad ≡ Not 30 at
  unfolding tally
  tally-bad count wrong = refl

  module _ (count : ℕ) where
    pub done-wrong : (wrong : Bool) → wrong ≡ true → tally count wrong (numbers []) ≡ Not 37 at
    unfolding tally
    done-wrong wrong e = rw e

    module _ (wrong : Bool) (right : wrong ≡ false) where
      pub done_none : count ≡ 0 → tally count wrong (numbers []) ≡ Not 37 at
      unfolding tally
      done_none e = rw (right, e)

      pub done-long : 16 < count → tally count wrong (numbers []) ≡ Not 37 at
      unfolding tally
      done-long h =
          let e : count + 0 ≡ count = omega arith in
          let k : 0 < count = omega arith in
          rw (right, e) (simp (lt-ltb _ _ k, lt-leb _ _ h))

      pub done-path : (count ≡ 0 → ⊥) → count ≤ 16 → tally count wrong (numbers []) ≡ Kept (numbers_cell start len) count
      unfolding tally all_positive
      done-path n h =
          let e : count + 0 ≡ count = omega arith in
          let k : 0 < count = omega arith in
          rw (right, e) (simp (lt-ltb _ _ k, le-leb _ _ h))

  -- sources
  pub list-oid : (above : ℕ) (a : Arcs) → list_leaf at start len above a ≡ oid_leaf at start len above (oid_of a)
  list-oid above bad = refl
  list-oid above over = refl
  list-oid above (numbers ns) = refl

module _ (s : List ℕ) (at start len what above : ℕ) where
  pub numbers-cut : leb (start + len) (length s) ≡ false → numbers_at s at start len what above ≡ Not 30 (length s)
  unfolding numbers_at
  numbers-cut h = simp h

  pub numbers-path : leb (start + len) (length s) ≡ true → what ≡ 6 → numbers_at s at start len what above ≡ path_leaf at start len (arcs s start len)
  unfolding numbers_at
  numbers-path h k = simp (h, eq-eqb _ _ k)

  pub numbers-list : leb (start + len) (length s) ≡ true → (what ≡ 6 → ⊥)
      → numbers_at s at start len what above ≡ oid_leaf at start len above (oid_at s start len)
  unfolding numbers_at
  numbers-list h k =
      simp (h, ne_eqb _ _ k)
      (list-oid at start len above (arcs s start len) ∙ ap (oid_leaf at start len above) (oid-within s start len (leb-true _ _ h)))

  module _ (number : ℕ) where
    pub leaf-other : expects what number ≡ false → leaf_at s at number start len what above ≡ Not 33 at
    unfolding leaf_at
    leaf-other h = simp h

    pub leaf-numbers : expects what number ≡ true → number ≡ 13 → leaf_at s at number start len what above ≡ numbers_at s at start len what above
    unfolding leaf_at
    leaf-numbers h k = simp (h, eq-eqb _ _ k)

    pub leaf-value : expects what number ≡ true → (number ≡ 13 → ⊥)
        → leaf_at s at number start len what above ≡ judged s at what above (content_at s at number start len)
    unfolding leaf_at
    leaf-value h k = simp (h, ne_eqb _ _ k)
