-- One value that is kept: its content suits the member's rule, is there, and has no more octets at the least than it was read from.
use Rattle.std.specs.Prelude.{Option, Some, None}
use Prim.Native.Nat.{ℕ, suc, ◌+◌, ◌-◌, ◌<◌, ◌≤◌}
use mathlib.Core.Path.{◌≡◌, refl, sym, ap, subst, ◌∙◌}
use mathlib.Core.List.{List, [], ◌∷◌, ◌++◌}
use mathlib.Core.Bool.{Bool, true, false}
use mathlib.Core.Logic.{◌⊎◌, inl, inr}
use native.Mathlib.Omega.{arith}
use borrow.Author.Tests.{le-leb, lt-ltb, le-ltb, ne_eqb, eq-eqb, eqb-true, eqb-false, leb-true}
use lib.ListN.{length, take, drop}
use lib.Dec.{T, leb, ltb, eqb}
use lib.IntN.{ℤ, pos, negsuc}
use lib.Ieee as Ieee
use lib.Ieee.{Float, nan, inf, fin, binary64}
use lib.Ieee.Bits.{of_bits-to_bits, to_bits-lt, nan_bits_is}
use mir.Syntax.{w64}
use mir.Val.{SFits}
use Rattle.ber_integers.specs.Integer.{integer, integer_at, shortest}
use Rattle.ber_integers.proofs.Radix.{Below}
use Rattle.ber_integers.proofs.Signs.{below-take, below-drop}
use Rattle.ber_integers.proofs.Laws.{length_part}
use Rattle.ber_integers.proofs.RoundTrip.{written-least, read_fits}
use Rattle.ber_reals.specs.Real.{real, real_at}
use Rattle.ber_reals.specs.Write.{octets, form}
use Rattle.ber_reals.proofs.RoundTrip.{read-written}
use Rattle.ber_values.specs.declared.Value.TheVariants.{Real}
use Rattle.ber_values.specs.declared.Answer.{Answer}
use Rattle.ber_values.specs.Value.{boolean, bool_at, on_flag, on_number, on_real, is_listed, kind_at, content_at}
use Rattle.ber_identifiers.specs.Identifier.{Arcs, bad, over, numbers, arcs, oid_octets}
use Rattle.ber_identifiers.proofs.RoundTrip.{arcs-read, read-written as arcs-written}
use Rattle.glow_rows.specs.declared.Cell.{Cell}
use Rattle.glow_rows.specs.Cell.{cell, cell_of, word_of, bit_of}
use Rattle.base_choices.specs.Choices.{both}
use Rattle.base_choices.proofs.Laws.{pick-by, pick-false, both-make}
use Rattle.glow_grammar.specs.declared.Leaf.{Leaf}
use Rattle.glow_grammar.specs.declared.Leaf.TheVariants.{Kept, Refused as Not}
use Rattle.glow_grammar.specs.Leaf.{expects, in_range, is_name, is_path}
use Rattle.glow_grammar.specs.Leaf.{number_leaf, text_leaf, judged, path_leaf, list_leaf, numbers_at, leaf_at}
use Rattle.glow_grammar.proofs.Tables.{expects-step, expects-text, expects-numbers}
use Rattle.glow_trees.specs.Content.{Content, word, bytes, is_part, is_word, content_of, int_of}
use Rattle.glow_trees.specs.Legal.{suits, present, path_of, length_of, word_suits, part_suits, path_suits, list_suits, is_real, is_formed}
use Rattle.glow_trees.specs.Written.{spelled}
use Rattle.trees_accepted.proofs.Sizes.{inside, kindly}

-- "no accepted real is shorter"
abbrev pub RealsLeast : (ℕ → List ℕ) → Type 0
RealsLeast least = (bs : List ℕ) (x : Float) → Below 256 bs → real bs ≡ Some x → length (least (Ieee.to_bits binary64 x)) ≤ length bs

-- an integer by its word
module _ where
  pub word_low : (z : ℤ) → SFits w64 z → word_of z < 18446744073709551616
  word_low (pos n) h = let k : n < 9223372036854775808 = h.sfits in omega arith
  word_low (negsuc n) h = omega arith

  pub word_back : (z : ℤ) → SFits w64 z → int_of (word_of z) ≡ z
  unfolding int_of
  word_back (pos n) h = let k : n < 9223372036854775808 = h.sfits in simp (lt-ltb _ _ k)
  word_back (negsuc n) h =
      let k : n < 9223372036854775808 = h.sfits in
      let l : 9223372036854775808 ≤ 18446744073709551615 - n = omega arith in
      let e : 18446744073709551615 - (18446744073709551615 - n) ≡ n = omega arith in
      simp (le-ltb _ _ l, e)

-- a double by its word
pub form-no-nan : (x : Float) {cs : List ℕ} → form x ≡ octets cs → Ieee.is_nan x ≡ false
unfolding form Ieee.is_nan
form-no-nan nan e = let z : ◌≡◌ {A = ℕ} 0 1 = cc in absurd (omega arith)
form-no-nan (inf s) e = refl
form-no-nan (fin s m p) e = refl

module _ (s : List ℕ) (least : ℕ → List ℕ) (reals : RealsLeast least) (octets' : Below 256 s) (what above start len : ℕ) where
  abbrev part : List ℕ
  part = take len (drop start s)

  part-octets : Below 256 part
  part-octets = below-take 256 len (drop start s) (below-drop 256 start s octets')

  pub record Right (v : Cell) (n : ℕ) : Type 0 where
    pub suit : suits what (content_of s v) ≡ true
    pub there : present (content_of s v) ≡ true
    pub path : n ≡ path_of what above (content_of s v ∷ [])
    pub size : inside least (content_of s v) ≤ len
    pub short : kindly (content_of s v) < 31
    pub ends : start + len ≤ length s

  abbrev LeafRight : Leaf → Type 0
  LeafRight (Kept v n) = Right v n
  LeafRight (Not number place) = Unit {0}

  right_by : (v : Cell) (x : Content) (n : ℕ) → content_of s v ≡ x → start + len ≤ length s → suits what x ≡ true → present x ≡ true
      → n ≡ path_of what above (x ∷ []) → inside least x ≤ len → kindly x < 31 → Right v n
  right_by v x n e h a b c d f =
      record {
        suit = ap (suits what) e ∙ a;
        there = ap present e ∙ b;
        path = c ∙ ap (λ (y : Content). path_of what above (y ∷ [])) (sym e);
        size = subst (λ (y : Content). inside least y ≤ len) (sym e) d;
        short = subst (λ (y : Content). kindly y < 31) (sym e) f;
        ends = h;
      }

  module _ (some : what ≡ 0 → ⊥) (h : start + len ≤ length s) where
    part_length : length part ≡ len
    part_length = length_part s start len h

    word-right : (kind w : ℕ) (n : ℕ) → is_word kind ≡ true → w < 18446744073709551616
        → content_of s (cell kind w 0) ≡ word kind w → expects what kind ≡ true → word_suits what kind w ≡ true
        → n ≡ path_of what above (word kind w ∷ []) → length (spelled least kind w) ≤ len → kind < 31 → Right (cell kind w 0) n
    unfolding suits inside
    word-right kind w n a b e x y c d f =
        let u = both-make (expects what kind) (word_suits what kind w) x y in
        let v = both-make (ltb w 18446744073709551616) (both (expects what kind) (word_suits what kind w)) (lt-ltb _ _ b) u in
        let z = both-make (is_word kind) (both (ltb w 18446744073709551616) (both (expects what kind) (word_suits what kind w))) a v in
        right_by (cell kind w 0) (word kind w) n e h (pick-false (eqb what 0) _ _ (ne_eqb _ _ some) ∙ z) refl c d f

    bytes-right : (kind n : ℕ) → is_part kind ≡ true → content_of s (cell kind start len) ≡ bytes kind part → expects what kind ≡ true
        → part_suits what kind part ≡ true → n ≡ path_of what above (bytes kind part ∷ []) → kind < 31 → Right (cell kind start len) n
    unfolding suits inside
    bytes-right kind n a e x y c f =
        let l : length part ≤ len = omega (arith, part_length) in
        let u = both-make (expects what kind) (part_suits what kind part) x y in
        let z = both-make (is_part kind) (both (expects what kind) (part_suits what kind part)) a u in
        right_by (cell kind start len) (bytes kind part) n e h (pick-false (eqb what 0) _ _ (ne_eqb _ _ some) ∙ z) refl c l f

    -- where no number adds to the path
    word-still : (kind w : ℕ) → (what ≡ 5 → ⊥) → above ≡ path_of what above (word kind w ∷ [])
    word-still kind w n = simp (ne_eqb _ _ n)

    bytes-still : (kind : ℕ) (bs : List ℕ) → (what ≡ 6 → ⊥) → above ≡ path_of what above (bytes kind bs ∷ [])
    bytes-still kind bs n = simp (ne_eqb _ _ n)

    no_step : (number : ℕ) → expects what number ≡ true → (number ≡ 2 → ⊥) → what ≡ 5 → ⊥
    no_step number x n e = n (eqb-true number 2 (sym (expects-step number what e) ∙ x))

    no-path : (number : ℕ) → expects what number ≡ true → (number ≡ 13 → ⊥) → what ≡ 6 → ⊥
    no-path number x n e =
        let a : 6 ≤ what = omega arith in
        let b : what ≤ 7 = omega arith in
        n (eqb-true number 13 (sym (expects-numbers number what a b) ∙ x))

    no_name : (number : ℕ) → expects what number ≡ true → (number ≡ 12 → ⊥) → what ≡ 1 → ⊥
    no_name number x n e = let a : what ≤ 2 = omega arith in n (eqb-true number 12 (sym (expects-text number what a) ∙ x))

    -- a boolean
    one-octet : (bs : List ℕ) (b : Bool) → boolean bs ≡ Some b → length bs ≡ 1
    unfolding boolean
    one-octet [] b e = let z : ◌≡◌ {A = ℕ} 0 1 = cc in absurd (omega arith)
    one-octet (x ∷ []) b e = refl
    one-octet (x ∷ (y ∷ bs)) b e = let z : ◌≡◌ {A = ℕ} 0 1 = cc in absurd (omega arith)

    flag_word : (b : Bool) → content_of s (cell 1 (bit_of b) 0) ≡ word 1 (bit_of b)
    unfolding content_of
    flag_word true = refl
    flag_word false = refl

    flag-low : (b : Bool) → bit_of b < 18446744073709551616
    flag-low true = omega arith
    flag-low false = omega arith

    flag-suits : (b : Bool) → word_suits what 1 (bit_of b) ≡ true
    unfolding word_suits
    flag-suits true = refl
    flag-suits false = refl

    flag-size : (b : Bool) → length (spelled least 1 (bit_of b)) ≡ 1
    unfolding spelled
    flag-size true = refl
    flag-size false = refl

    flag-right : expects what 1 ≡ true → (b : Bool) → boolean part ≡ Some b → Right (cell 1 (bit_of b) 0) above
    flag-right x b e =
        let n : what ≡ 5 → ⊥ = no_step 1 x (λ q. omega arith) in
        let l : length (spelled least 1 (bit_of b)) ≤ len = omega (arith, flag-size b, one-octet part b e, part_length) in
        word-right 1 (bit_of b) above refl (flag-low b) (flag_word b) x (flag-suits b) (word-still 1 (bit_of b) n) l (omega arith)

    -- an integer
    int_word : (z : ℤ) → SFits w64 z → content_of s (cell 2 (word_of z) 0) ≡ word 2 (word_of z)
    unfolding content_of
    int_word z f = simp (lt-ltb _ _ (word_low z f))

    int-size : (z : ℤ) → SFits w64 z → length (spelled least 2 (word_of z)) ≡ length (shortest z)
    unfolding spelled
    int-size z f = ap (λ (y : ℤ). length (shortest y)) (word_back z f)

    int-suits : (z : ℤ) → SFits w64 z → (what ≡ 4) ⊎ (in_range what z ≡ true) → word_suits what 2 (word_of z) ≡ true
    unfolding word_suits
    int-suits z f (inl e) = simp (eq-eqb _ _ e)
    int-suits z f (inr e) = pick-by (λ (b : Bool). b ≡ true) (eqb what 4) (λ q. refl) (λ q. ap (in_range what) (word_back z f) ∙ e)

    int-right : expects what 2 ≡ true → (z : ℤ) → integer part ≡ Some z → (what ≡ 4) ⊎ (in_range what z ≡ true) → (n : ℕ)
        → n ≡ path_of what above (word 2 (word_of z) ∷ []) → Right (cell 2 (word_of z) 0) n
    int-right x z e r n p =
        let f = read_fits part z part-octets e in
        let l : length (spelled least 2 (word_of z)) ≤ len = omega (arith, int-size z f, written-least part z part-octets e, part_length) in
        word-right 2 (word_of z) n refl (word_low z f) (int_word z f) x (int-suits z f r) p l (omega arith)

    number-right : (at : ℕ) → expects what 2 ≡ true → (z : ℤ) → integer part ≡ Some z → LeafRight (number_leaf at what above z)
    unfolding number_leaf
    number-right at x z e =
        pick-by LeafRight (eqb what 4)
        (λ q. let n : what ≡ 5 → ⊥ = λ r. omega (arith, eqb-true what 4 q) in
        int-right x z e (inl (eqb-true what 4 q)) above (word-still 2 (word_of z) n))
        (λ q. pick-by LeafRight (in_range what z)
        (λ r. pick-by LeafRight (eqb what 5)
        (λ t. pick-by LeafRight (leb (above + 1) 16)
        (λ u. let v : above + 1 ≡ suc above = omega arith in int-right x z e (inr r) (above + 1) (simp t v)) (λ u. tt))
        (λ t. int-right x z e (inr r) above (word-still 2 (word_of z) (eqb-false what 5 t))))
        (λ r. tt))

    -- a real
    real-right : expects what 9 ≡ true → (x : Float) → real part ≡ Some x → Right (cell_of (Real x)) above
    unfolding spelled content_of word_suits is_real
    real-right ex x e =
        let r = read-written part x part-octets e in
        let fits : T (Ieee.fits binary64 x) = r.0 in
        let form' = r.1.1.0 in
        let plain : Ieee.is_nan x ≡ false = form-no-nan x form' in
        let back = of_bits-to_bits binary64 x fits in
        let low : Ieee.to_bits binary64 x < 18446744073709551616 = to_bits-lt binary64 x fits in
        let n : what ≡ 5 → ⊥ = no_step 9 ex (λ q. omega arith) in
        let l : length (spelled least 9 (Ieee.to_bits binary64 x)) ≤ len =
        omega (arith, spelled-real (Ieee.to_bits binary64 x), reals part x part-octets e, part_length) in
        rw plain
        (word-right 9 (Ieee.to_bits binary64 x) above refl low (real-word (Ieee.to_bits binary64 x) low) ex
        (real-suits (Ieee.to_bits binary64 x) (nan_bits_is binary64 (Ieee.to_bits binary64 x) ∙ ap Ieee.is_nan back ∙ plain)
        (ap (λ (y : Float). is_formed (form y)) back ∙ ap is_formed form'))
        (word-still 9 (Ieee.to_bits binary64 x) n) l (omega arith))
      where
        spelled-real : (w : ℕ) → length (spelled least 9 w) ≡ length (least w)
        spelled-real w = refl

        real-word : (w : ℕ) → w < 18446744073709551616 → content_of s (cell 9 w 0) ≡ word 9 w
        real-word w h = simp (lt-ltb _ _ h)

        real-suits : (w : ℕ) → Ieee.nan_bits binary64 w ≡ false → is_formed (form (Ieee.of_bits binary64 w)) ≡ true → word_suits what 9 w ≡ true
        real-suits w a b = simp (a, b)

    -- texts and octets
    part_bytes : (kind : ℕ) → (kind ≡ 4) ⊎ ((kind ≡ 12) ⊎ (kind ≡ 13)) → content_of s (cell kind start len) ≡ bytes kind part
    unfolding content_of
    part_bytes kind (inl e) = rw e (simp (le-leb _ _ h))
    part_bytes kind (inr (inl e)) = rw e (simp (le-leb _ _ h))
    part_bytes kind (inr (inr e)) = rw e (simp (le-leb _ _ h))

    plain-suits : (kind : ℕ) → (kind ≡ 13 → ⊥) → (what ≡ 1 → ⊥) ⊎ (is_name part ≡ true) → part_suits what kind part ≡ true
    unfolding part_suits
    plain-suits kind n (inl m) = simp (ne_eqb _ _ n, ne_eqb _ _ m)
    plain-suits kind n (inr e) = simp (ne_eqb _ _ n) (pick-by (λ (b : Bool). b ≡ true) (eqb what 1) (λ q. e) (λ q. refl))

    octets-right : expects what 4 ≡ true → Right (cell 4 start len) above
    octets-right x =
        bytes-right 4 above refl (part_bytes 4 (inl refl)) x (plain-suits 4 (λ q. omega arith) (inl (no_name 4 x (λ q. omega arith))))
        (bytes-still 4 part (no-path 4 x (λ q. omega arith))) (omega arith)

    text-right : (at : ℕ) → expects what 12 ≡ true → LeafRight (text_leaf s at what above start len)
    unfolding text_leaf
    text-right at x =
        let n : what ≡ 6 → ⊥ = no-path 12 x (λ q. omega arith) in
        let z : ◌≡◌ {A = ℕ} 12 13 → ⊥ = λ q. omega arith in
        let made : (what ≡ 1 → ⊥) ⊎ (is_name part ≡ true) → Right (cell 12 start len) above =
        λ m. bytes-right 12 above refl (part_bytes 12 (inr (inl refl))) x (plain-suits 12 z m) (bytes-still 12 part n) (omega arith) in
        pick-by LeafRight (eqb what 1)
        (λ e. pick-by LeafRight (is_name part) (λ q. made (inr q)) (λ q. tt))
        (λ e. made (inl (eqb-false what 1 e)))

    -- relative identifiers
    arcs-same : (ns : List ℕ) → arcs s start len ≡ numbers ns → arcs part 0 (length part) ≡ numbers ns
    arcs-same ns e =
        let r = arcs-written s start len ns octets' h e in
        let l : length (oid_octets ns) ≡ length part = ap length r.0 in
        let z : 0 + length part ≡ 0 + length (oid_octets ns) = omega arith in
        arcs-read ns r.1 part 0 (0 + length part) (length part) [] (sym r.0 ∙ sym (end (oid_octets ns))) z (omega arith) (omega arith)
      where
        end : (l : List ℕ) → l ++ [] ≡ l
        end [] = refl
        end (x ∷ l) = ap (λ (t : List ℕ). x ∷ t) (end l)

    path-right : (at : ℕ) → expects what 13 ≡ true → what ≡ 6 → (a : Arcs) → arcs s start len ≡ a → LeafRight (path_leaf at start len a)
    unfolding part_suits
    path-right at x w bad e = tt
    path-right at x w over e = tt
    path-right at x w (numbers ns) e =
        let q = arcs-same ns e in
        pick-by LeafRight (is_path ns)
        (λ r. bytes-right 13 (length ns) refl (part_bytes 13 (inr (inr refl))) x (simp (eq-eqb _ _ w) (ap path_suits q ∙ r))
        (simp (eq-eqb _ _ w) (sym (ap length_of q)))
        (omega arith))
        (λ r. tt)

    list_right : (at : ℕ) → expects what 13 ≡ true → (what ≡ 6 → ⊥) → (a : Arcs) → arcs s start len ≡ a → LeafRight (list_leaf at start len above a)
    unfolding part_suits
    list_right at x w bad e = tt
    list_right at x w over e = tt
    list_right at x w (numbers ns) e =
        bytes-right 13 above refl (part_bytes 13 (inr (inr refl))) x (simp (ne_eqb _ _ w) (ap list_suits (arcs-same ns e))) (bytes-still 13 part w)
        (omega arith)

    -- by the value's kind
    abbrev AnswerRight : ℕ → Answer → Type 0
    AnswerRight at a = LeafRight (judged s at what above a)

    flags-right : (at next : ℕ) → expects what 1 ≡ true → (f : Option Bool) → bool_at s start len ≡ f → AnswerRight at (on_flag at next f)
    unfolding bool_at
    flags-right at next x (Some b) e = flag-right x b (simp (le-leb _ _ h) at e)
    flags-right at next x None e = tt

    ints-right : (at next : ℕ) → expects what 2 ≡ true → (n : Option ℤ) → integer_at s start len ≡ n → AnswerRight at (on_number at next n)
    unfolding integer_at
    ints-right at next x (Some z) e = number-right at x z (simp (le-leb _ _ h) at e)
    ints-right at next x None e = tt

    doubles-right : (at next : ℕ) → expects what 9 ≡ true → (n : Option Float) → real_at s start len ≡ n → AnswerRight at (on_real at next n)
    unfolding real_at
    doubles-right at next x (Some y) e = real-right x y (simp (le-leb _ _ h) at e)
    doubles-right at next x None e = tt

    abbrev by_kind : {m n : ℕ} → m ≡ n → expects what m ≡ true → expects what n ≡ true
    by_kind e x = ap (expects what) (sym e) ∙ x

    kinds-right : (at kind : ℕ) → expects what kind ≡ true → is_listed kind ≡ true → AnswerRight at (kind_at s at kind start len)
    unfolding kind_at is_listed
    kinds-right at kind x l =
        pick-by (AnswerRight at) (eqb kind 1)
        (λ e. flags-right at (start + len) (by_kind (eqb-true kind 1 e) x) (bool_at s start len) refl)
        (λ e1. pick-by (AnswerRight at) (eqb kind 2)
        (λ e. ints-right at (start + len) (by_kind (eqb-true kind 2 e) x) (integer_at s start len) refl)
        (λ e2. pick-by (AnswerRight at) (eqb kind 4)
        (λ e. octets-right (by_kind (eqb-true kind 4 e) x))
        (λ e4. pick-by (AnswerRight at) (eqb kind 9)
        (λ e. doubles-right at (start + len) (by_kind (eqb-true kind 9 e) x) (real_at s start len) refl)
        (λ e9. text-right at (by_kind (eqb-true kind 12 (simp (e1, e2, e4, e9) at l)) x)))))

  module _ (some : what ≡ 0 → ⊥) where
    content-right : (at kind : ℕ) → expects what kind ≡ true → LeafRight (judged s at what above (content_at s at kind start len))
    unfolding content_at
    content-right at kind x =
        pick-by (λ (a : Answer). LeafRight (judged s at what above a)) (is_listed kind)
        (λ l. pick-by (λ (a : Answer). LeafRight (judged s at what above a)) (leb (start + len) (length s))
        (λ h. kinds-right some (leb-true (start + len) (length s) h) at kind x l) (λ h. tt))
        (λ l. tt)

    numbers-right : (at : ℕ) → expects what 13 ≡ true → LeafRight (numbers_at s at start len what above)
    unfolding numbers_at
    numbers-right at x =
        pick-by LeafRight (leb (start + len) (length s))
        (λ h. pick-by LeafRight (eqb what 6)
        (λ e. path-right some (leb-true (start + len) (length s) h) at x (eqb-true what 6 e) (arcs s start len) refl)
        (λ e. list_right some (leb-true (start + len) (length s) h) at x (eqb-false what 6 e) (arcs s start len) refl))
        (λ h. tt)

    leaf-right : (at number : ℕ) → LeafRight (leaf_at s at number start len what above)
    unfolding leaf_at
    leaf-right at number =
        pick-by LeafRight (expects what number)
        (λ x. pick-by LeafRight (eqb number 13)
        (λ e. numbers-right at (ap (expects what) (sym (eqb-true number 13 e)) ∙ x))
        (λ e. content-right at number x))
        (λ x. tt)

    -- what a value that is kept says
    pub kept-right : (at number : ℕ) {v : Cell} {n : ℕ} → leaf_at s at number start len what above ≡ Kept v n → Right v n
    kept-right at number e = subst LeafRight e (leaf-right at number)
