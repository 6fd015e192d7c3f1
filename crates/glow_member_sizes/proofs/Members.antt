-- A member's size, by its cell.
use Prim.Native.Nat.{ℕ, ◌+◌, ◌≤◌, ◌<◌}
use mathlib.Core.Path.{◌≡◌, refl, sym, ap, subst, ◌∙◌}
use mathlib.Core.Bool.{Bool, true, false, not}
use mathlib.Core.List.{List}
use mathlib.Core.Logic.{◌⊎◌, ⊎_elim, inl, inr}
use native.Mathlib.Omega.{arith}
use borrow.Author.Tests.{eq-eqb, ne_eqb, le-leb, lt-leb, lt-ltb, eqb-true}
use lib.Dec.{T, leb, ltb, eqb}
use lib.ListN.{length, take, drop, length-append, length-drop, take-append-drop}
use lib.Seq.{length-take-le}
use Rattle.base_choices.specs.Choices.{pick, both}
use Rattle.base_choices.proofs.Laws.{pick-by}
use Rattle.ber_tags.specs.Write.{tag_octets, length_octets}
use Rattle.ber_values.specs.Value.{is_listed}
use Rattle.ber_values.proofs.Laws.{content-octets, content-text}
use Rattle.glow_rows.specs.Cell.{cell, numbers_cell}
use Rattle.glow_leaves.proofs.Laws.{leaf-numbers, leaf-value}
use Rattle.ber_identifiers.specs.Identifier.{Arcs, bad, over, numbers, arcs}
use Rattle.glow_rows.specs.declared.Cell.{Cell}
use Rattle.glow_grammar.specs.declared.Leaf.TheVariants.{Kept, Refused as Not}
use Rattle.glow_grammar.specs.Grammar.{any, name, path}
use Rattle.glow_grammar.specs.Leaf.{expects, is_name, is_path, text_leaf, path_leaf, list_leaf, numbers_at, leaf_at, judged}
use Rattle.glow_trees.specs.Content.{Content, nothing, word, bytes, wrong, is_part, is_word, content_of}
use Rattle.glow_trees.specs.Legal.{is_real, word_suits, path_suits, list_suits, part_suits, suits}
use Rattle.glow_trees.specs.Written.{tagged, spelled, member_octets}
use Rattle.glow_trees.proofs.Shift.{arcs-there}
use Rattle.glow_member_sizes.specs.Spelling.{spelling}
use Rattle.glow_member_sizes.specs.Sizes.{cap, tagged_size, WordSized, is_kept, member_size}
use Rattle.glow_member_sizes.proofs.Caps.{cap-in, cap-tagged}

-- a number below 31 has a tag of one octet
pub tagged-length : (class : ℕ) (c : Bool) (n : ℕ) (xs : List ℕ) → n < 31 → length (tagged class c n xs) ≡ tagged_size (length xs)
unfolding tagged tag_octets tagged_size
tagged-length class c n xs h = let e = length-append (length_octets (length xs)) xs in simp (lt-ltb _ _ h) (omega arith)

pub outer-length : (n class : ℕ) (c : Bool) (k : ℕ) (xs : List ℕ) → n < 31 → k < 31
    → length (tagged 2 true n (tagged class c k xs)) ≡ tagged_size (tagged_size (length xs))
outer-length n class c k xs h i = tagged-length 2 true n (tagged class c k xs) h ∙ ap tagged_size (tagged-length class c k xs i)

-- around twice
pub twice : (n a r : ℕ) → cap (tagged_size n) ≡ a → cap (tagged_size a) ≡ r → cap (tagged_size (tagged_size n)) ≡ r
twice n a r e i = sym (cap-tagged (tagged_size n)) ∙ ap (λ (x : ℕ). cap (tagged_size x)) e ∙ i

-- ---- what a cell says
module _ (s : List ℕ) (v : Cell) where
  module _ (zero : v.kind ≡ 0) where
    part-zero : is_part v.kind ≡ false
    part-zero = ap is_part zero

    word-zero : is_word v.kind ≡ false
    word-zero = ap is_word zero

    pub content-odd : (v.first ≡ 0 → ⊥) → content_of s v ≡ wrong
    unfolding content_of
    content-odd h = simp (part-zero, word-zero, eq-eqb _ _ zero, ne_eqb _ _ h)

    pub content-more : v.first ≡ 0 → (v.second ≡ 0 → ⊥) → content_of s v ≡ wrong
    unfolding content_of
    content-more h k = simp (part-zero, word-zero, eq-eqb _ _ zero, eq-eqb _ _ h, ne_eqb _ _ k)

    pub content-none : v.first ≡ 0 → v.second ≡ 0 → content_of s v ≡ nothing
    unfolding content_of
    content-none h k = simp (part-zero, word-zero, eq-eqb _ _ zero, eq-eqb _ _ h, eq-eqb _ _ k)

  module _ (p : is_part v.kind ≡ true) where
    pub content-out : length s < v.first + v.second → content_of s v ≡ wrong
    unfolding content_of
    content-out h = simp (p, lt-leb _ _ h)

    pub content-part : v.first + v.second ≤ length s → content_of s v ≡ bytes v.kind (take v.second (drop v.first s))
    unfolding content_of
    content-part h = simp (p, le-leb _ _ h)

  module _ (p : is_part v.kind ≡ false) (w : is_word v.kind ≡ true) where
    pub content-long : (v.second ≡ 0 → ⊥) → content_of s v ≡ wrong
    unfolding content_of
    content-long h = simp (p, w, ne_eqb _ _ h)

    pub content-word : v.second ≡ 0 → v.first < 18446744073709551616 → content_of s v ≡ word v.kind v.first
    unfolding content_of
    content-word h k = simp (p, w, eq-eqb _ _ h, lt-ltb _ _ k)

  -- a kind that is not 0 is that of no absent member
  pub content-kind : (P : Content → Type 0) → (v.kind ≡ 0 → ⊥) → P wrong → ((n : ℕ) → P (word v.kind n)) → ((bs : List ℕ) → P (bytes v.kind bs))
      → P (content_of s v)
  unfolding content_of
  content-kind P h a b c =
      go (is_part v.kind) (is_word v.kind) (leb (v.first + v.second) (length s)) (eqb v.second 0) (ltb v.first 18446744073709551616)
      (eqb v.kind 0) (ne_eqb _ _ h)
    where
      go : (p w l z f k : Bool) → k ≡ false
          → P (pick p (pick l (bytes v.kind (take v.second (drop v.first s))) wrong)
          (pick w (pick z (pick f (word v.kind v.first) wrong) wrong)
          (pick k (pick (eqb v.first 0) (pick z nothing wrong) wrong) wrong)))
      go true w true z f k e = c _
      go true w false z f k e = a
      go false true l true true k e = b _
      go false true l true false k e = a
      go false true l false f k e = a
      go false false l z f true e = absurd (subst (λ (x : Bool). T x) e tt)
      go false false l z f false e = a

-- ---- sizes
module _ (real : ℕ → List ℕ) (what : ℕ) where
  pub size-wrong : {x : Content} → x ≡ wrong → member_size real what x ≡ 65536
  unfolding member_size suits
  size-wrong e = rw e refl

  pub size-nothing : {x : Content} → x ≡ nothing → member_size real what x ≡ 0
  unfolding member_size suits member_octets
  size-nothing e = rw e (cap-in 0 (omega arith))

  both_false : (a : Bool) → both a false ≡ false
  both_false true = refl
  both_false false = refl

  module _ (s : List ℕ) (v : Cell) (some : v.kind ≡ 0 → ⊥) where
    pub size_none : what ≡ 0 → member_size real what (content_of s v) ≡ 65536
    unfolding member_size suits
    size_none h =
        content-kind s v (λ x. member_size real what x ≡ 65536) some (size-wrong refl)
        (λ n. simp (eq-eqb _ _ h)) (λ bs. simp (eq-eqb _ _ h))

    pub size-unfit : (what ≡ 0 → ⊥) → expects what v.kind ≡ false → member_size real what (content_of s v) ≡ 65536
    unfolding member_size suits
    size-unfit h e =
        content-kind s v (λ x. member_size real what x ≡ 65536) some (size-wrong refl)
        (λ n. simp (ne_eqb _ _ h, e, both_false (ltb n 18446744073709551616), both_false (is_word v.kind)))
        (λ bs. simp (ne_eqb _ _ h, e, both_false (is_part v.kind)))

-- ---- kinds

never : {P : Type 0} → false ≡ true → P
never e = absurd (subst (λ (b : Bool). T (not b)) e tt)

module _ (kind : ℕ) where
  Told : Bool → Type 0
  Told b = b ≡ true → (is_part kind ≡ true) ⊎ (is_word kind ≡ true)

  told_part : (n : ℕ) → is_part n ≡ true → Told (eqb kind n)
  unfolding Told
  told_part n h e = inl (ap is_part (eqb-true kind n e) ∙ h)

  told-word : (n : ℕ) → is_word n ≡ true → Told (eqb kind n)
  unfolding Told
  told-word n h e = inr (ap is_word (eqb-true kind n e) ∙ h)

  told-listed : Told (is_listed kind)
  unfolding is_listed Told
  told-listed =
      pick-by Told (eqb kind 1) (λ e i. told-word 1 refl e)
      (λ a. pick-by Told (eqb kind 2) (λ e i. told-word 2 refl e)
      (λ a. pick-by Told (eqb kind 4) (λ e i. told_part 4 refl e)
      (λ a. pick-by Told (eqb kind 9) (λ e i. told-word 9 refl e) (λ a. told_part 12 refl))))

  pub kind-told : (what : ℕ) → expects what kind ≡ true → (is_part kind ≡ true) ⊎ (is_word kind ≡ true)
  unfolding expects Told
  kind-told what =
      pick-by Told (eqb what any) (λ a. told-listed)
      (λ a. pick-by Told (leb what 2) (λ a. told_part 12 refl)
      (λ a. pick-by Told (eqb what 3) (λ a. told-word 1 refl)
      (λ a. pick-by Told (eqb what path) (λ a. told_part 13 refl)
      (λ a. pick-by Told (eqb what 7) (λ a. told_part 13 refl) (λ a. told-word 2 refl)))))

  pub kind-word : (what : ℕ) → expects what kind ≡ true → is_part kind ≡ false → is_word kind ≡ true
  kind-word what e h = ⊎_elim (λ (p : is_part kind ≡ true). never (sym h ∙ p)) (λ (w : is_word kind ≡ true). w) (kind-told what e)

  Small : Bool → Type 0
  Small b = b ≡ true → kind < 31

  small : (n : ℕ) → n < 31 → Small (eqb kind n)
  unfolding Small
  small n h e = let q = eqb-true kind n e in omega arith

  pub word_small : is_word kind ≡ true → kind < 31
  unfolding Small
  word_small =
      pick-by Small (eqb kind 1) (λ e i. small 1 (omega arith) e)
      (λ a. pick-by Small (eqb kind 2) (λ e i. small 2 (omega arith) e) (λ a. small 9 (omega arith)))

  pub part_small : is_part kind ≡ true → kind < 31
  unfolding Small
  part_small =
      pick-by Small (eqb kind 4) (λ e i. small 4 (omega arith) e)
      (λ a. pick-by Small (eqb kind 12) (λ e i. small 12 (omega arith) e) (λ a. small 13 (omega arith)))

  -- ---- by kind
  module _ (real : ℕ → List ℕ) (what : ℕ) (listed : what ≡ 0 → ⊥) (e : expects what kind ≡ true) where
    module _ (p : is_part kind ≡ true) (bs : List ℕ) where
      pub size-part : part_suits what kind bs ≡ true → (len a r : ℕ) → length bs ≡ len → cap (tagged_size len) ≡ a → cap (tagged_size a) ≡ r
          → member_size real what (bytes kind bs) ≡ r
      unfolding member_size suits member_octets
      size-part h len a r l i j =
          simp (ne_eqb _ _ listed, p, e, h)
          (ap cap (outer-length 0 0 false kind bs (omega arith) (part_small p) ∙ ap (λ (x : ℕ). tagged_size (tagged_size x)) l) ∙ twice len a r i j)

      pub size-part-no : part_suits what kind bs ≡ false → member_size real what (bytes kind bs) ≡ 65536
      unfolding member_size suits
      size-part-no h = simp (ne_eqb _ _ listed, p, e, h)

    module _ (p : is_word kind ≡ true) (w : ℕ) (fits : w < 18446744073709551616) where
      pub size_word : word_suits what kind w ≡ true → (n a r : ℕ) → length (spelled real kind w) ≡ n → cap (tagged_size n) ≡ a → cap (tagged_size a) ≡ r
          → member_size real what (word kind w) ≡ r
      unfolding member_size suits member_octets
      size_word h n a r l i j =
          simp (ne_eqb _ _ listed, p, lt-ltb _ _ fits, e, h)
          (ap cap (outer-length 0 0 false kind (spelled real kind w) (omega arith) (word_small p) ∙ ap (λ (x : ℕ). tagged_size (tagged_size x)) l)
          ∙ twice n a r i j)

      pub size-word-no : word_suits what kind w ≡ false → member_size real what (word kind w) ≡ 65536
      unfolding member_size suits
      size-word-no h = simp (ne_eqb _ _ listed, p, lt-ltb _ _ fits, e, h)

  -- a word that suits is a boolean, an integer, or a real that is written
  pub word-known : (what w : ℕ) → word_suits what kind w ≡ true → pick (eqb kind 1) true (pick (eqb kind 2) true (is_real w)) ≡ true
  unfolding word_suits
  word-known what w h = go (eqb kind 1) (eqb kind 2) _ h
    where
      go : (a b x : Bool) → pick a (leb w 1) (pick b x (is_real w)) ≡ true → pick a true (pick b true (is_real w)) ≡ true
      go true b x i = refl
      go false true x i = refl
      go false false x i = i

no-octets : expects 1 4 ≡ false
unfolding expects
no-octets = refl

-- ---- a part, as the reader judges it
module _ (s : List ℕ) (start len what : ℕ) (h : start + len ≤ length s) where
  abbrev pub bs : List ℕ
  bs = take len (drop start s)

  bs-length : length bs ≡ len
  bs-length = let d = length-drop start s in length-take-le len (drop start s) (omega arith)

  pub numbers-there : arcs s start len ≡ arcs bs 0 (length bs)
  numbers-there =
      let l = bs-length in
      ap (arcs s start) (sym bs-length) ∙ arcs-there s bs (drop len (drop start s)) start (sym (take-append-drop len (drop start s))) (omega arith)

  path-kept : (a : Arcs) → is_kept (path_leaf 0 start len a) ≡ path_suits a
  path-kept bad = refl
  path-kept over = refl
  path-kept (numbers ns) = go (is_path ns)
    where
      go : (b : Bool) → is_kept (pick b (Kept (numbers_cell start len) (length ns)) (Not 37 0)) ≡ b
      go true = refl
      go false = refl

  list-kept : (a : Arcs) → is_kept (list_leaf 0 start len 0 a) ≡ list_suits a
  list-kept bad = refl
  list-kept over = refl
  list-kept (numbers ns) = refl

  by-test : {A B : Type 0} (f : A → B) (t : Bool) {a b : A} {c d : B} → f a ≡ c → f b ≡ d → f (pick t a b) ≡ pick t c d
  by-test f true h k = h
  by-test f false h k = k

  numbers-kept : (kind : ℕ) → kind ≡ 13 → expects what kind ≡ true → is_kept (leaf_at s 0 kind start len what 0) ≡ part_suits what kind bs
  unfolding part_suits numbers_at
  numbers-kept kind k e =
      ap is_kept (leaf-numbers s 0 start len what 0 kind e k)
      ∙ simp (le-leb _ _ h, eq-eqb _ _ k)
      (by-test is_kept (eqb what path) (path-kept (arcs s start len)) (list-kept (arcs s start len))
      ∙ ap (λ (a : Arcs). pick (eqb what path) (path_suits a) (list_suits a)) numbers-there)

  text-kept : (kind : ℕ) → kind ≡ 12 → expects what kind ≡ true → is_kept (leaf_at s 0 kind start len what 0) ≡ part_suits what kind bs
  unfolding part_suits text_leaf
  text-kept kind k e =
      ap is_kept (leaf-value s 0 start len what 0 kind e (λ i. omega arith) ∙ ap (judged s 0 what 0) (sym (content-text s 0 kind start len k (le-leb _ _ h))))
      ∙ simp (ap (λ (i : ℕ). eqb i 13) k)
      (by-test is_kept (eqb what name) (go (is_name bs)) refl)
    where
      go : (b : Bool) → is_kept (pick b (Kept (cell 12 start len) 0) (Not 36 0)) ≡ b
      go true = refl
      go false = refl

  octets-kept : (kind : ℕ) → kind ≡ 4 → expects what kind ≡ true → is_kept (leaf_at s 0 kind start len what 0) ≡ part_suits what kind bs
  unfolding part_suits
  octets-kept kind k e =
      ap is_kept (leaf-value s 0 start len what 0 kind e (λ i. omega arith) ∙ ap (judged s 0 what 0) (sym (content-octets s 0 kind start len k (le-leb _ _ h))))
      ∙ simp (ap (λ (i : ℕ). eqb i 13) k) (go (eqb what name) refl)
    where
      go : (b : Bool) → eqb what name ≡ b → true ≡ pick b (is_name bs) true
      go true i = never (sym no-octets ∙ sym (ap (λ (i : ℕ). expects i 4) (eqb-true what 1 i)) ∙ ap (expects what) (sym k) ∙ e)
      go false i = refl

  pub part-kept : (kind : ℕ) → is_part kind ≡ true → expects what kind ≡ true → is_kept (leaf_at s 0 kind start len what 0) ≡ part_suits what kind bs
  part-kept kind p e = go (eqb kind 4) (eqb kind 12) (eqb kind 13) refl refl refl p
    where
      go : (a b c : Bool) → eqb kind 4 ≡ a → eqb kind 12 ≡ b → eqb kind 13 ≡ c → pick a true (pick b true c) ≡ true
          → is_kept (leaf_at s 0 kind start len what 0) ≡ part_suits what kind bs
      go true b c i j k q = octets-kept kind (eqb-true kind 4 i) e
      go false true c i j k q = text-kept kind (eqb-true kind 12 j) e
      go false false true i j k q = numbers-kept kind (eqb-true kind 13 k) e
      go false false false i j k q = never q

-- ---- the code's answers
module _ (s : List ℕ) (v : Cell) (what : ℕ) (p : is_part v.kind ≡ true) (e : expects what v.kind ≡ true) (listed : what ≡ 0 → ⊥) where
  pub part_out : length s < v.first + v.second → (real : ℕ → List ℕ) → member_size real what (content_of s v) ≡ 65536
  part_out h real = size-wrong real what (content-out s v p h)

  module _ (start len : ℕ) (i : start ≡ v.first) (l : len ≡ v.second) (h : v.first + v.second ≤ length s) where
    there : content_of s v ≡ bytes v.kind (take len (drop start s))
    there = content-part s v p h ∙ ap (λ (n : ℕ). bytes v.kind (take n (drop v.first s))) (sym l)
        ∙ ap (λ (n : ℕ). bytes v.kind (take len (drop n s))) (sym i)

    inside : start + len ≤ length s
    inside = omega arith

    pub part-refused : is_kept (leaf_at s 0 v.kind start len what 0) ≡ false → (real : ℕ → List ℕ)
        → member_size real what (content_of s v) ≡ 65536
    part-refused q real =
        ap (member_size real what) there
        ∙ size-part-no v.kind real what listed e p (take len (drop start s)) (sym (part-kept s start len what inside v.kind p e) ∙ q)

    pub part-sized : is_kept (leaf_at s 0 v.kind start len what 0) ≡ true → (a r : ℕ) → cap (tagged_size v.second) ≡ a
        → cap (tagged_size a) ≡ r → (real : ℕ → List ℕ) → member_size real what (content_of s v) ≡ r
    part-sized q a r f g real =
        ap (member_size real what) there
        ∙ size-part v.kind real what listed e p (take len (drop start s)) (sym (part-kept s start len what inside v.kind p e) ∙ q)
        v.second a r (bs-length s start len what inside ∙ l) f g

module _ (s : List ℕ) (v : Cell) (what : ℕ) (least : Bool) (listed : what ≡ 0 → ⊥) (e : expects what v.kind ≡ true) (p : is_part v.kind ≡ false)
  where
    abbrev real : ℕ → List ℕ
    real = spelling least

    pub word-long : (v.second ≡ 0 → ⊥) → member_size (spelling least) what (content_of s v) ≡ 65536
    word-long h = size-wrong real what (content-long s v p (kind-word v.kind what e p) h)

    module _ (h : v.second ≡ 0) (f : v.first < 18446744073709551616) where
      pub word-refused : word_suits what v.kind v.first ≡ false → member_size (spelling least) what (content_of s v) ≡ 65536
      word-refused k =
          let w = kind-word v.kind what e p in
          ap (member_size real what) (content-word s v p w h f) ∙ size-word-no v.kind real what listed e w v.first f k

      pub word-sized : word_suits what v.kind v.first ≡ true → (n a r : ℕ) → WordSized (spelling least) v.kind v.first n
          → cap (tagged_size n) ≡ a → cap (tagged_size a) ≡ r → member_size (spelling least) what (content_of s v) ≡ r
      word-sized k n a r l i j =
          let w = kind-word v.kind what e p in
          ap (member_size real what) (content-word s v p w h f)
          ∙ size_word v.kind real what listed e w v.first f k n a r (l (word-known v.kind what v.first k)) i j

module _ (kind : ℕ) where
  pub part-four : kind ≡ 4 → is_part kind ≡ true
  part-four h = simp (eq-eqb _ _ h)

  pub part-twelve : kind ≡ 12 → is_part kind ≡ true
  part-twelve h = ap is_part h

  pub part-rest : (kind ≡ 4 → ⊥) → (kind ≡ 12 → ⊥) → is_part kind ≡ eqb kind 13
  part-rest h k = simp (ne_eqb _ _ h, ne_eqb _ _ k)
