-- One value that was written is kept, and its cell says it again.
use Rattle.std.specs.Prelude.{Some}
use Prim.Native.Nat.{ℕ, zero, suc, ◌+◌, ◌≤◌, ◌<◌}
use mathlib.Core.Path.{◌≡◌, refl, sym, ap, subst, ◌∙◌}
use mathlib.Core.List.{List, [], ◌∷◌, ◌++◌}
use mathlib.Core.Bool.{Bool, true, false, not}
use mathlib.Core.Logic.{⊎_elim}
use native.Mathlib.Omega.{arith}
use borrow.Author.Tests.{le-leb, lt-ltb, le-ltb, ltb-true, leb-true, eqb-true, eqb-false, eq-eqb, ne_eqb}
use lib.ListN.{length, take, drop}
use lib.Seq.{take-append_seam}
use lib.Dec.{T, ltb, eqb}
use lib.IntN.{ℤ}
use lib.Ieee as Ieee
use lib.Ieee.{binary64}
use lib.Ieee.Bits.{to_bits-of_bits, nan_bits_is}
use mir.Syntax.{w64}
use mir.Val.{SFits}
use Rattle.base_choices.specs.Choices.{pick}
use Rattle.base_choices.proofs.Laws.{both_left, both_right}
use Rattle.ber_integers.specs.Integer.{integer, integer_at, shortest}
use Rattle.ber_integers.proofs.Laws.{at_part}
use Rattle.ber_integers.proofs.Radix.{lt-or-le}
use Rattle.ber_integers.proofs.RoundTrip.{written_read}
use Rattle.ber_reals.specs.Real as reals
use Rattle.ber_reals.specs.Real.{real_at}
use Rattle.ber_values.specs.declared.Value.TheVariants.{Int, Real, Text}
use Rattle.ber_values.specs.declared.Answer.TheVariants.{Found}
use Rattle.ber_values.specs.Value.{boolean, bool_at, content_at}
use Rattle.ber_values.proofs.Laws.{content-bool, content-int, content-octets, content-real, content-text}
use Rattle.ber_identifiers.specs.Identifier.{Arcs, bad, over, numbers, arcs}
use Rattle.glow_rows.specs.declared.Cell.{Cell}
use Rattle.glow_rows.specs.Cell.{cell, word_of, bit_of, cell_of, numbers_cell}
use Rattle.glow_grammar.specs.declared.Leaf.TheVariants.{Kept}
use Rattle.glow_grammar.specs.Grammar.{path, any, name}
use Rattle.glow_grammar.specs.Leaf.{expects, in_range, is_name, judged, path_leaf, list_leaf, numbers_at, leaf_at}
use Rattle.glow_leaves.proofs.Laws.{number-any, number_step, number-kept, text-free, text-name, leaf-value, leaf-numbers}
use Rattle.glow_grammar.proofs.Tables.{expects-step, expects-numbers}
use Rattle.glow_trees.specs.Content.{Content, nothing, word, bytes, wrong, is_part, is_word, content_of, int_of}
use Rattle.glow_trees.specs.Legal.{is_real, word_suits, path_suits, list_suits, part_suits, suits, present, length_of, path_of}
use Rattle.glow_trees.specs.Written.{spelled}
use Rattle.trees_read_back.proofs.Bools.{never, unless, word-kinds, part-kinds}
use Rattle.glow_trees.proofs.Shift.{arcs-there}

-- a spelling of reals: what it writes is read as the double of these bits
abbrev pub Spells : (ℕ → List ℕ) → Type 0
Spells real = (w : ℕ) → w < 18446744073709551616 → is_real w ≡ true → reals.real (real w) ≡ Some (Ieee.of_bits binary64 w)

-- the tag number of a member that is there, and its octets
abbrev pub kind_of : Content → ℕ
kind_of nothing = 0
kind_of (word kind w) = kind
kind_of (bytes kind bs) = kind
kind_of wrong = 0

abbrev pub octets_of : (ℕ → List ℕ) → Content → List ℕ
octets_of real nothing = []
octets_of real (word kind w) = spelled real kind w
octets_of real (bytes kind bs) = bs
octets_of real wrong = []

-- a value that is kept, whose cell says x
pub record Leafed (s : List ℕ) (at kind start len what above : ℕ) (x : Content) : Type 0 where
  pub value : Cell
  pub kept : leaf_at s at kind start len what above ≡ Kept value (path_of what above (x ∷ []))
  pub says : content_of s value ≡ x

-- the kind of value tells what the rule is not
not_step : (number what : ℕ) → expects what number ≡ true → (number ≡ 2 → ⊥) → what ≡ 5 → ⊥
not_step number what h n e = never (sym (ne_eqb _ _ n) ∙ sym (expects-step number what e) ∙ h)

not-path : (number what : ℕ) → expects what number ≡ true → (number ≡ 13 → ⊥) → what ≡ 6 → ⊥
not-path number what h n e = never (sym (ne_eqb _ _ n) ∙ sym (expects-numbers number what (omega arith) (omega arith)) ∙ h)

path-word : (what above kind w : ℕ) → (what ≡ 5 → ⊥) → above ≡ path_of what above (word kind w ∷ [])
path-word what above kind w h = simp (ne_eqb _ _ h)

path-part : (what above kind : ℕ) (bs : List ℕ) → (what ≡ 6 → ⊥) → above ≡ path_of what above (bytes kind bs ∷ [])
path-part what above kind bs h = simp (ne_eqb _ _ h)

-- cells of words, cells of parts
says-1 : (s : List ℕ) (w : ℕ) → w < 18446744073709551616 → content_of s (cell 1 w 0) ≡ word 1 w
unfolding content_of
says-1 s w h = simp (lt-ltb _ _ h)

says-2 : (s : List ℕ) (w : ℕ) → w < 18446744073709551616 → content_of s (cell 2 w 0) ≡ word 2 w
unfolding content_of
says-2 s w h = simp (lt-ltb _ _ h)

says-9 : (s : List ℕ) (w : ℕ) → w < 18446744073709551616 → content_of s (cell 9 w 0) ≡ word 9 w
unfolding content_of
says-9 s w h = simp (lt-ltb _ _ h)

says-4 : (s : List ℕ) (start len : ℕ) → start + len ≤ length s → content_of s (cell 4 start len) ≡ bytes 4 (take len (drop start s))
unfolding content_of
says-4 s start len h = simp (le-leb _ _ h)

says-12 : (s : List ℕ) (start len : ℕ) → start + len ≤ length s → content_of s (cell 12 start len) ≡ bytes 12 (take len (drop start s))
unfolding content_of
says-12 s start len h = simp (le-leb _ _ h)

says-13 : (s : List ℕ) (start len : ℕ) → start + len ≤ length s → content_of s (cell 13 start len) ≡ bytes 13 (take len (drop start s))
unfolding content_of
says-13 s start len h = simp (le-leb _ _ h)

-- 64 bits as an integer, and back
pub word-int : (w : ℕ) → w < 18446744073709551616 → word_of (int_of w) ≡ w
unfolding int_of
word-int w h =
    ⊎_elim
    (λ (l : w < 9223372036854775808). rw (lt-ltb _ _ l))
    (λ (l : 9223372036854775808 ≤ w). rw (le-ltb _ _ l) (omega arith))
    (lt-or-le w 9223372036854775808)

pub int-fits : (w : ℕ) → w < 18446744073709551616 → SFits w64 (int_of w)
unfolding int_of
int-fits w h =
    ⊎_elim
    (λ (l : w < 9223372036854775808). rw (lt-ltb _ _ l) (record { sfits = l }))
    (λ (l : 9223372036854775808 ≤ w). rw (le-ltb _ _ l) (record { sfits = omega arith }))
    (lt-or-le w 9223372036854775808)

real-no : (w : ℕ) → is_real w ≡ true → Ieee.nan_bits binary64 w ≡ false
unfolding is_real
real-no w i = (unless _ _ i).0

module _ (s : List ℕ) (at start what above : ℕ) (rest : List ℕ) where
  -- the octets of a value stand at `start`
  there-part : (bs : List ℕ) → drop start s ≡ bs ++ rest → take (length bs) (drop start s) ≡ bs
  there-part bs t = ap (take (length bs)) t ∙ take-append_seam bs rest

  flag-octet : (b : ℕ) → drop start s ≡ b ∷ rest → start + 1 ≤ length s → bool_at s start 1 ≡ Some (not (eqb b 0))
  unfolding bool_at boolean
  flag-octet b t h = rw (le-leb _ _ h, t)

  flag-kept : (b : ℕ) → drop start s ≡ b ∷ rest → start + 1 ≤ length s → expects what 1 ≡ true
      → leaf_at s at 1 start 1 what above ≡ Kept (cell 1 (bit_of (not (eqb b 0))) 0) above
  flag-kept b t h e =
      leaf-value s at start 1 what above 1 e (λ q. omega arith)
      ∙ ap (judged s at what above) (sym (content-bool s at 1 start 1 refl (le-leb _ _ h)))
      ∙ rw (flag-octet b t h)

  module _ (real : ℕ → List ℕ) (spells : Spells real) where
    leaf-flag : (w : ℕ) → w ≤ 1 → expects what 1 ≡ true → drop start s ≡ spelled real 1 w ++ rest → start + length (spelled real 1 w) ≤ length s
        → Leafed s at 1 start (length (spelled real 1 w)) what above (word 1 w)
    unfolding spelled
    leaf-flag zero l e t h =
        record {
          value = cell 1 0 0;
          kept = flag-kept 0 t h e ∙ ap (Kept (cell 1 0 0)) (path-word what above 1 0 (not_step 1 what e (λ q. omega arith)));
          says = says-1 s 0 (omega arith);
        }
    leaf-flag (suc zero) l e t h =
        record {
          value = cell 1 1 0;
          kept = flag-kept 255 t h e ∙ ap (Kept (cell 1 1 0)) (path-word what above 1 1 (not_step 1 what e (λ q. omega arith)));
          says = says-1 s 1 (omega arith);
        }
    leaf-flag (suc (suc w)) l e t h = absurd (omega arith)

    int-kept : (w : ℕ) → w < 18446744073709551616 → expects what 2 ≡ true → pick (eqb what any) true (in_range what (int_of w)) ≡ true
        → (what ≡ 5 → above < 16)
        → judged s at what above (Found (Int (int_of w)) (start + length (shortest (int_of w)))) ≡ Kept (cell 2 w 0) (path_of what above (word 2 w ∷ []))
    int-kept w k e i deep = go (eqb what 4) refl i
      where
        z : ℤ
        z = int_of w

        same : cell_of (Int (int_of w)) ≡ cell 2 w 0
        same = ap (λ (i : ℕ). cell 2 i 0) (word-int w k)

        step-or : (b : Bool) → eqb what 5 ≡ b → (what ≡ 4 → ⊥) → in_range what (int_of w) ≡ true
            → judged s at what above (Found (Int (int_of w)) (start + length (shortest (int_of w)))) ≡ Kept (cell 2 w 0) (path_of what above (word 2 w ∷ []))
        step-or true q n r =
            let five = eqb-true what 5 q in
            let one : above + 1 ≡ suc above = omega arith in
            number_step at what above (int_of w) n r five (deep five) ∙ ap (λ (v : Cell). Kept v (above + 1)) same ∙ ap (Kept (cell 2 w 0)) one
            ∙ simp (eq-eqb _ _ five)
        step-or false q n r =
            let ne = eqb-false what 5 q in
            number-kept at what above (int_of w) n r ne ∙ ap (λ (v : Cell). Kept v above) same ∙ ap (Kept (cell 2 w 0)) (path-word what above 2 w ne)

        go : (b : Bool) → eqb what 4 ≡ b → pick b true (in_range what (int_of w)) ≡ true
            → judged s at what above (Found (Int (int_of w)) (start + length (shortest (int_of w)))) ≡ Kept (cell 2 w 0) (path_of what above (word 2 w ∷ []))
        go true q r =
            let four = eqb-true what 4 q in
            let ne : what ≡ 5 → ⊥ = λ p. omega arith in
            number-any at what above (int_of w) four ∙ ap (λ (v : Cell). Kept v above) same ∙ ap (Kept (cell 2 w 0)) (path-word what above 2 w ne)
        go false q r = step-or (eqb what 5) refl (eqb-false what 4 q) r

    leaf-int : (w : ℕ) → w < 18446744073709551616 → expects what 2 ≡ true → pick (eqb what any) true (in_range what (int_of w)) ≡ true
        → (what ≡ 5 → above < 16) → drop start s ≡ shortest (int_of w) ++ rest → start + length (shortest (int_of w)) ≤ length s
        → Leafed s at 2 start (length (shortest (int_of w))) what above (word 2 w)
    leaf-int w k e i deep t h =
        let bs = shortest (int_of w) in
        let n : integer_at s start (length bs) ≡ Some (int_of w) =
        sym (at_part s start (length bs) h) ∙ ap integer (there-part bs t) ∙ written_read (int_of w) (int-fits w k) in
        let a : content_at s at 2 start (length bs) ≡ Found (Int (int_of w)) (start + length bs) =
        sym (content-int s at 2 start (length bs) refl (le-leb _ _ h)) ∙ rw n in
        record {
          value = cell 2 w 0;
          kept = leaf-value s at start (length bs) what above 2 e (λ q. omega arith) ∙ ap (judged s at what above) a ∙ int-kept w k e i deep;
          says = says-2 s w k;
        }

    real-part : (n : ℕ) → start + n ≤ length s → real_at s start n ≡ reals.real (take n (drop start s))
    unfolding real_at
    real-part n h = simp (le-leb _ _ h)

    leaf-real : (w : ℕ) → w < 18446744073709551616 → expects what 9 ≡ true → is_real w ≡ true
        → drop start s ≡ real w ++ rest → start + length (real w) ≤ length s → Leafed s at 9 start (length (real w)) what above (word 9 w)
    leaf-real w k e i t h =
        let bs = real w in
        let x = Ieee.of_bits binary64 w in
        let n : real_at s start (length bs) ≡ Some x = real-part (length bs) h ∙ ap reals.real (there-part bs t) ∙ spells w k i in
        let a : content_at s at 9 start (length bs) ≡ Found (Real x) (start + length bs) =
        sym (content-real s at 9 start (length bs) refl (le-leb _ _ h)) ∙ rw n in
        record {
          value = cell 9 w 0;
          kept =
              leaf-value s at start (length bs) what above 9 e (λ q. omega arith)
              ∙ ap (judged s at what above) a
              ∙ ap (λ (v : Cell). Kept v above) (bits-cell w k (no_nan w i))
              ∙ ap (Kept (cell 9 w 0)) (path-word what above 9 w (not_step 9 what e (λ q. omega arith)));
          says = says-9 s w k;
        }
      where
        no_nan : (w : ℕ) → is_real w ≡ true → Ieee.is_nan (Ieee.of_bits binary64 w) ≡ false
        no_nan w i = sym (nan_bits_is binary64 w) ∙ real-no w i

        bits-cell : (w : ℕ) → w < 18446744073709551616 → Ieee.is_nan (Ieee.of_bits binary64 w) ≡ false → cell_of (Real (Ieee.of_bits binary64 w)) ≡ cell 9 w 0
        bits-cell w k n = rw n (ap (λ (i : ℕ). cell 9 i 0) (to_bits-of_bits binary64 w k (subst (λ (b : Bool). T (not b)) (sym n) tt)))

    leaf-octets : (bs : List ℕ) → expects what 4 ≡ true → drop start s ≡ bs ++ rest → start + length bs ≤ length s
        → Leafed s at 4 start (length bs) what above (bytes 4 bs)
    leaf-octets bs e t h =
        record {
          value = cell 4 start (length bs);
          kept =
              leaf-value s at start (length bs) what above 4 e (λ q. omega arith)
              ∙ ap (judged s at what above) (sym (content-octets s at 4 start (length bs) refl (le-leb _ _ h)))
              ∙ ap (Kept (cell 4 start (length bs))) (path-part what above 4 bs (not-path 4 what e (λ q. omega arith)));
          says = says-4 s start (length bs) h ∙ ap (bytes 4) (there-part bs t);
        }

    leaf-text : (bs : List ℕ) → expects what 12 ≡ true → pick (eqb what name) (is_name bs) true ≡ true
        → drop start s ≡ bs ++ rest → start + length bs ≤ length s → Leafed s at 12 start (length bs) what above (bytes 12 bs)
    leaf-text bs e i t h =
        record {
          value = cell 12 start (length bs);
          kept =
              leaf-value s at start (length bs) what above 12 e (λ q. omega arith)
              ∙ ap (judged s at what above) (sym (content-text s at 12 start (length bs) refl (le-leb _ _ h)))
              ∙ named (eqb what 1) refl i
              ∙ ap (Kept (cell 12 start (length bs))) (path-part what above 12 bs (not-path 12 what e (λ q. omega arith)));
          says = says-12 s start (length bs) h ∙ ap (bytes 12) (there-part bs t);
        }
      where
        named : (b : Bool) → eqb what 1 ≡ b → pick b (is_name bs) true ≡ true
            → judged s at what above (Found (Text start (length bs)) (start + length bs)) ≡ Kept (cell 12 start (length bs)) above
        named true q r = text-name s at what above start (length bs) (eqb-true what 1 q) (ap is_name (there-part bs t) ∙ r)
        named false q r = text-free s at what above start (length bs) (eqb-false what 1 q)

    leaf-ids : (bs : List ℕ) → expects what 13 ≡ true
        → pick (eqb what path) (path_suits (arcs bs 0 (length bs))) (list_suits (arcs bs 0 (length bs))) ≡ true
        → drop start s ≡ bs ++ rest → start + length bs ≤ length s → Leafed s at 13 start (length bs) what above (bytes 13 bs)
    unfolding numbers_at
    leaf-ids bs e i t h =
        record {
          value = cell 13 start (length bs);
          kept = leaf-numbers s at start (length bs) what above 13 e refl
              ∙ rw (le-leb _ _ h, arcs-there s bs rest start t h) (go (eqb what 6) (arcs bs 0 (length bs)) i);
          says = says-13 s start (length bs) h ∙ ap (bytes 13) (there-part bs t);
        }
      where
        go : (b : Bool) (a : Arcs) → pick b (path_suits a) (list_suits a) ≡ true
            → pick b (path_leaf at start (length bs) a) (list_leaf at start (length bs) above a)
            ≡ Kept (numbers_cell start (length bs)) (pick b (length_of a) above)
        go true bad r = never r
        go true over r = never r
        go true (numbers ns) r = rw r
        go false bad r = never r
        go false over r = never r
        go false (numbers ns) r = refl

    -- a word, a part, by its kind
    abbrev WordLeafed : ℕ → ℕ → Type 0
    WordLeafed w kind =
        expects what kind ≡ true → word_suits what kind w ≡ true → drop start s ≡ spelled real kind w ++ rest → start + length (spelled real kind w) ≤ length s
        → Leafed s at kind start (length (spelled real kind w)) what above (word kind w)

    abbrev PartLeafed : List ℕ → ℕ → Type 0
    PartLeafed bs kind =
        expects what kind ≡ true → part_suits what kind bs ≡ true → drop start s ≡ bs ++ rest → start + length bs ≤ length s
        → Leafed s at kind start (length bs) what above (bytes kind bs)

    word-1 : (w : ℕ) → WordLeafed w 1
    unfolding word_suits
    word-1 w e y t h = leaf-flag w (leb-true _ _ y) e t h

    word-2 : (w : ℕ) → w < 18446744073709551616 → (what ≡ 5 → above < 16) → WordLeafed w 2
    unfolding word_suits spelled
    word-2 w k deep e y t h = leaf-int w k e y deep t h

    word-9 : (w : ℕ) → w < 18446744073709551616 → WordLeafed w 9
    unfolding word_suits spelled
    word-9 w k e y t h = leaf-real w k e y t h

    part-4 : (bs : List ℕ) → PartLeafed bs 4
    part-4 bs e y t h = leaf-octets bs e t h

    part-12 : (bs : List ℕ) → PartLeafed bs 12
    unfolding part_suits
    part-12 bs e y t h = leaf-text bs e y t h

    part-13 : (bs : List ℕ) → PartLeafed bs 13
    unfolding part_suits
    part-13 bs e y t h = leaf-ids bs e y t h

    pub leafed : (x : Content) → present x ≡ true → suits what x ≡ true → (what ≡ 5 → above < 16) → drop start s ≡ octets_of real x ++ rest
        → start + length (octets_of real x) ≤ length s → Leafed s at (kind_of x) start (length (octets_of real x)) what above x
    unfolding suits
    leafed nothing p i deep t h = never p
    leafed wrong p i deep t h = never i
    leafed (word kind w) p i deep t h =
        let a = (unless (eqb what 0) _ i).1 in
        let b = both_right (is_word kind) _ a in
        let k = ltb-true _ _ (both_left (ltb w 18446744073709551616) _ b) in
        let c = both_right (ltb w 18446744073709551616) _ b in
        let e = both_left (expects what kind) _ c in
        let y = both_right (expects what kind) _ c in
        ⊎_elim (λ (q : kind ≡ 1). subst (WordLeafed w) (sym q) (word-1 w) e y t h)
        (⊎_elim (λ (q : kind ≡ 2). subst (WordLeafed w) (sym q) (word-2 w k deep) e y t h)
        (λ (q : kind ≡ 9). subst (WordLeafed w) (sym q) (word-9 w k) e y t h))
        (word-kinds kind (both_left (is_word kind) _ a))
    leafed (bytes kind bs) p i deep t h =
        let a = (unless (eqb what 0) _ i).1 in
        let c = both_right (is_part kind) _ a in
        let e = both_left (expects what kind) _ c in
        let y = both_right (expects what kind) _ c in
        ⊎_elim (λ (q : kind ≡ 4). subst (PartLeafed bs) (sym q) (part-4 bs) e y t h)
        (⊎_elim (λ (q : kind ≡ 12). subst (PartLeafed bs) (sym q) (part-12 bs) e y t h)
        (λ (q : kind ≡ 13). subst (PartLeafed bs) (sym q) (part-13 bs) e y t h))
        (part-kinds kind (both_left (is_part kind) _ a))
