-- What is put one after another: tags, members, contents.
use Rattle.std.specs.Prelude.{Option, Some}
use Prim.Native.Nat.{ℕ, zero, suc, ◌+◌, ◌-◌, ◌*◌, ◌%◌, ◌≤◌, ◌<◌}
use mathlib.Core.Path.{◌≡◌, refl, sym, ap, subst, ◌∙◌}
use mathlib.Core.Bool.{Bool, true, false, not}
use mathlib.Core.List.{List, [], ◌∷◌, ◌++◌, append_assoc}
use mathlib.Core.Logic.{⊎_elim}
use native.Mathlib.Omega.{arith}
use native.Mathlib.Nat.{mod-eq_of_lt}
use borrow.Author.Tests.{eq-eqb, ne_eqb, le-leb, lt-ltb}
use lib.Dec.{T, leb, ltb, eqb}
use lib.ListN.{length, take, drop, get_or, length-append, length-drop, take-append-drop}
use lib.Seq.{length-take-le}
use lib.IntN.{ℤ}
use lib.Ieee as Ieee
use lib.Ieee.{binary64}
use Rattle.base_choices.specs.Choices.{pick, both}
use Rattle.base_choices.proofs.Laws.{both_left, both_right}
use Rattle.ber_integers.specs.Digits.{Put, put, outcome}
use Rattle.ber_integers.specs.Integer.{shortest}
use Rattle.ber_integers.proofs.Laws.{put_in}
use Rattle.ber_integers.proofs.Radix.{lt-or-le}
use Rattle.ber_integers.proofs.Output.{put_next, put-length}
use Rattle.ber_reals.specs.Write.{Form, unwritten, octets, form, put_form, write_at}
use Rattle.ber_real_writer.proofs.Puts.{put_then}
use Rattle.ber_tags.specs.Write.{bit, tag_octets, length_octets, put_length}
use Rattle.ber_values.specs.Write.{put_part}
use Rattle.glow_rows.specs.declared.Cell.{Cell}
use Rattle.glow_grammar.specs.Grammar.{applications}
use Rattle.glow_grammar.specs.Grammar as grammar
use Rattle.glow_grammar.specs.Leaf.{expects}
use Rattle.glow_trees.specs.Content.{Content, nothing, word, bytes, wrong, is_part, is_word, content_of, contents_of, int_of}
use Rattle.glow_trees.specs.Rows.{cell_at, cells_from}
use Rattle.glow_trees.specs.Legal.{is_real, is_formed, word_suits, suits, rule_at, suited, inner}
use Rattle.glow_trees.specs.Written.{tagged, spelled, member_octets, members_octets, wrapped, own, root_number, written_real, form_octets}
use Rattle.glow_member_sizes.specs.Sizes.{cap, tagged_size, next_of, WordSized}
use Rattle.glow_sizes.specs.Sizes.{split}
use Rattle.glow_writer.specs.Puts.{Puts, head, heads, entry_part}
use Rattle.glow_member_sizes.proofs.Caps.{cap-in, over-tagged}
use Rattle.glow_member_sizes.proofs.Members.{tagged-length, outer-length, content-part, content-out, part_small, word_small, word-known}

never : {P : Type 0} → false ≡ true → P
never e = absurd (subst (λ (b : Bool). T (not b)) e tt)

-- ---- puts
pub puts-by : (out : List ℕ) (at : ℕ) (bs : List ℕ) (w : Option ℕ) (o : List ℕ) (r : ℕ) → put out at bs ≡ outcome w o → next_of w ≡ r → Puts out at bs r o
unfolding Puts
puts-by out at bs w o r d e h k =
    let i : w ≡ Some (at + length bs) = ap (λ (p : Put). p.answer) (sym d ∙ put_in out at bs h) in
    let j : at + length bs ≡ r = sym (ap next_of i) ∙ e in
    d ∙ ap (λ (x : Option ℕ). outcome x o) (i ∙ ap Some j)

pub puts_then : (out : List ℕ) (at : ℕ) (xs : List ℕ) (q : ℕ) (o ys : List ℕ) (r : ℕ) (o' : List ℕ) → Puts out at xs q o → Puts o q ys r o'
    → Puts out at (xs ++ ys) r o'
unfolding Puts
puts_then out at xs q o ys r o' f g h k =
    let l = length-append xs ys in
    let d : put out at xs ≡ outcome (Some q) o = f (omega arith) (omega arith) in
    let n = put_next out at xs q o d in
    let m = put-length out at xs q o d in
    let d' : put o q ys ≡ outcome (Some r) o' = g (omega arith) (omega arith) in
    put_then out at xs ys (omega arith) (Some q) o d ∙ ap (λ (x : ℕ). put o x ys) (sym n) ∙ d'

pub puts_none : (out : List ℕ) (at : ℕ) → Puts out at [] at out
unfolding Puts
puts_none out at h k =
    let e : at + 0 ≡ at = omega arith in
    put_in out at [] h ∙ rw e (ap (outcome (Some at)) (take-append-drop at out))

-- only what has at most 16,384 octets matters
pub puts-given : (out : List ℕ) (at : ℕ) (bs : List ℕ) (r : ℕ) (o : List ℕ) → (length bs ≤ 16384 → Puts out at bs r o) → Puts out at bs r o
unfolding Puts
puts-given out at bs r o f h k = f k h k

pub puts-as : (out : List ℕ) (at : ℕ) (xs ys : List ℕ) (r : ℕ) (o : List ℕ) → xs ≡ ys → Puts out at xs r o → Puts out at ys r o
puts-as out at xs ys r o e p = subst (λ (x : List ℕ). Puts out at x r o) e p

-- ---- tags and lengths
pub head-put : (out : List ℕ) (at tag n q : ℕ) (o : List ℕ) (w : Option ℕ) (o' : List ℕ) (r : ℕ) → Puts out at (tag ∷ []) q o → put_length o q n ≡ outcome w o'
    → next_of w ≡ r → n ≤ 16384 → Puts out at (head tag n) r o'
head-put out at tag n q o w o' r p d e h =
    let k : n ≤ 4294967295 = omega arith in
    let l : put_length o q n ≡ put o q (length_octets n) = unfold put_length in simp (le-leb _ _ k) in
    puts_then out at (tag ∷ []) q o (length_octets n) r o' p (puts-by o q (length_octets n) w o' r (sym l ∙ d) e)

pub heads-put : (out : List ℕ) (at number outside tag n a q : ℕ) (o : List ℕ) (r : ℕ) (o' : List ℕ) → outside ≡ 160 + number → cap (tagged_size n) ≡ a
    → (a ≤ 16384 → Puts out at (head outside a) q o) → (n ≤ 16384 → Puts o q (head tag n) r o') → tagged_size n ≤ 16384 → Puts out at
    (heads number tag n) r o'
unfolding heads
heads-put out at number outside tag n a q o r o' i e f g h =
    let l = over-tagged n in
    let c : tagged_size n ≡ a = sym (cap-in (tagged_size n) h) ∙ e in
    puts_then out at (head (160 + number) (tagged_size n)) q o (head tag n) r o'
    (puts-as out at (head outside a) (head (160 + number) (tagged_size n)) q o
    (ap (λ (x : ℕ). head x a) i ∙ ap (λ (x : ℕ). head (160 + number) x) (sym c)) (f (omega arith)))
    (g (omega arith))

tag_one : (class : ℕ) (c : Bool) (k : ℕ) → k < 31 → tag_octets class c k ≡ (class * 64 + bit c + k) ∷ []
unfolding tag_octets
tag_one class c k h = simp (lt-ltb _ _ h)

head-is : (class : ℕ) (c : Bool) (k : ℕ) (xs : List ℕ) → k < 31 → tagged class c k xs ≡ head (class * 64 + bit c + k) (length xs) ++ xs
unfolding tagged
head-is class c k xs h = ap (λ (t : List ℕ). t ++ (length_octets (length xs) ++ xs)) (tag_one class c k h)

heads-are : (n class : ℕ) (c : Bool) (k : ℕ) (xs : List ℕ) → n < 31 → k < 31
    → tagged 2 true n (tagged class c k xs) ≡ heads n (class * 64 + bit c + k) (length xs) ++ xs
unfolding heads
heads-are n class c k xs h i =
    let t : ℕ = class * 64 + bit c + k in
    let l = length xs in
    let e : 2 * 64 + bit true + n ≡ 160 + n = omega arith in
    head-is 2 true n (tagged class c k xs) h
    ∙ ap (λ (x : ℕ). head x (length (tagged class c k xs)) ++ tagged class c k xs) e
    ∙ ap (λ (x : ℕ). head (160 + n) x ++ tagged class c k xs) (tagged-length class c k xs i)
    ∙ ap (λ (x : List ℕ). head (160 + n) (tagged_size l) ++ x) (head-is class c k xs i)
    ∙ sym (append_assoc (head (160 + n) (tagged_size l)) (head t l) xs)

module _ (out : List ℕ) (at class : ℕ) (c : Bool) (k tag n : ℕ) (xs : List ℕ) (q : ℕ) (o : List ℕ) (r : ℕ) (o' : List ℕ) (i : k < 31)
    (t : tag ≡ class * 64 + bit c + k) (e : length xs ≡ n) where
  pub tagged-put : (n ≤ 16384 → Puts out at (head tag n) q o) → Puts o q xs r o' → Puts out at (tagged class c k xs) r o'
  tagged-put f g =
      puts-given out at (tagged class c k xs) r o'
      (λ h.
      let l = tagged-length class c k xs i in
      let m = over-tagged (length xs) in
      let b : n ≤ 16384 = omega arith in
      puts-as out at (head tag n ++ xs) (tagged class c k xs) r o'
      (ap (λ (x : ℕ). head x n ++ xs) t ∙ ap (λ (x : ℕ). head (class * 64 + bit c + k) x ++ xs) (sym e) ∙ sym (head-is class c k xs i))
      (puts_then out at (head tag n) q o xs r o' (f b) g))

  pub outer-put : (number : ℕ) → number < 31 → (tagged_size n ≤ 16384 → Puts out at (heads number tag n) q o) → Puts o q xs r o'
      → Puts out at (tagged 2 true number (tagged class c k xs)) r o'
  outer-put number j f g =
      puts-given out at (tagged 2 true number (tagged class c k xs)) r o'
      (λ h.
      let l = outer-length number class c k xs j i in
      let m = over-tagged (tagged_size (length xs)) in
      let s : tagged_size (length xs) ≡ tagged_size n = ap tagged_size e in
      let b : tagged_size n ≤ 16384 = omega arith in
      puts-as out at (heads number tag n ++ xs) (tagged 2 true number (tagged class c k xs)) r o'
      (ap (λ (x : ℕ). heads number x n ++ xs) t ∙ ap (λ (x : ℕ). heads number (class * 64 + bit c + k) x ++ xs) (sym e)
      ∙ sym (heads-are number class c k xs j i))
      (puts_then out at (heads number tag n) q o xs r o' (f b) g))

-- ---- booleans, integers and reals
module _ (kind w : ℕ) (out : List ℕ) (at r : ℕ) (o : List ℕ) where
  pub flag-put : (b : ℕ) → kind ≡ 1 → b ≡ pick (eqb w 0) 0 255 → Puts out at (b ∷ []) r o → Puts out at (spelled written_real kind w) r o
  flag-put b h e p =
      let i : b ∷ [] ≡ spelled written_real kind w = ap (λ (x : ℕ). x ∷ []) e ∙ unfold spelled in simp (eq-eqb _ _ h) (go (eqb w 0)) in
      puts-as out at (b ∷ []) (spelled written_real kind w) r o i p
    where
      go : (t : Bool) → ◌≡◌ {A = List ℕ} (pick t 0 255 ∷ []) (pick t (0 ∷ []) (255 ∷ []))
      go true = refl
      go false = refl

  pub int-put : (z : ℤ) (a : Option ℕ) → kind ≡ 2 → int_of w ≡ z → put out at (shortest z) ≡ outcome a o → next_of a ≡ r → Puts out at
      (spelled written_real kind w) r o
  int-put z a h e d n =
      let i : shortest z ≡ spelled written_real kind w =
      ap shortest (sym e) ∙ unfold spelled in simp (ap (λ (i : ℕ). eqb i 1) h, eq-eqb _ _ h) in
      puts-as out at (shortest z) (spelled written_real kind w) r o i (puts-by out at (shortest z) a o r d n)

  pub real-put : (a : Option ℕ) → (kind ≡ 1 → ⊥) → (kind ≡ 2 → ⊥) → write_at out at (Ieee.of_bits binary64 w) ≡ outcome a o → next_of a ≡ r
      → pick (eqb kind 1) true (pick (eqb kind 2) true (is_real w)) ≡ true → Puts out at (spelled written_real kind w) r o
  unfolding spelled written_real write_at is_real
  real-put a h k d n t =
      let i : spelled written_real kind w ≡ form_octets (form (Ieee.of_bits binary64 w)) = simp (ne_eqb _ _ h, ne_eqb _ _ k) in
      let j : is_real w ≡ true = sym (simp (ne_eqb _ _ h, ne_eqb _ _ k) refl) ∙ t in
      puts-as out at (form_octets (form (Ieee.of_bits binary64 w))) (spelled written_real kind w) r o (sym i)
      (puts-by out at (form_octets (form (Ieee.of_bits binary64 w))) a o r
      (sym (formed (form (Ieee.of_bits binary64 w)) (at-nan (Ieee.nan_bits binary64 w) j)) ∙ d) n)
    where
      at-nan : (b : Bool) → pick b false (is_formed (form (Ieee.of_bits binary64 w))) ≡ true → is_formed (form (Ieee.of_bits binary64 w)) ≡ true
      at-nan true e = never e
      at-nan false e = e

      formed : (f : Form) → is_formed f ≡ true → put_form out at f ≡ put out at (form_octets f)
      formed unwritten e = never e
      formed (octets bs) e = refl

-- ---- members
module _ (s : List ℕ) (v : Cell) where
  -- a cell of kind 0 is no member, or an absent one
  absent_none : (real : ℕ → List ℕ) (n : ℕ) → v.kind ≡ 0 → member_octets real n (content_of s v) ≡ []
  unfolding content_of member_octets
  absent_none real n z =
      let p : is_part v.kind ≡ false = ap is_part z in
      let w : is_word v.kind ≡ false = ap is_word z in
      simp (p, w, eq-eqb _ _ z) (go (eqb v.first 0) (eqb v.second 0))
    where
      go : (a b : Bool) → member_octets real n (pick a (pick b nothing wrong) wrong) ≡ []
      go true true = refl
      go true false = refl
      go false b = refl

  pub absent-put : (number : ℕ) (out : List ℕ) (at : ℕ) → v.kind ≡ 0 → (what : ℕ) → suits what (content_of s v) ≡ true
      → Puts out at (member_octets written_real number (content_of s v)) at out
  absent-put number out at z what h =
      puts-as out at [] (member_octets written_real number (content_of s v)) at out (sym (absent_none written_real number z)) (puts_none out at)

  wrong-not : {P : Type 0} (what : ℕ) → suits what wrong ≡ true → P
  unfolding suits
  wrong-not what h = never h

  -- a part that suits lies in the message
  part_lies : (what : ℕ) → is_part v.kind ≡ true → suits what (content_of s v) ≡ true → v.first + v.second ≤ length s
  part_lies what p h =
      ⊎_elim
      (λ (l : length s < v.first + v.second). wrong-not what (sym (ap (suits what) (content-out s v p l)) ∙ h))
      (λ (l : v.first + v.second ≤ length s). l)
      (lt-or-le (length s) (v.first + v.second))

  module _ (number : ℕ) (j : number < 31) (out : List ℕ) (at tag : ℕ) (t : tag ≡ v.kind % 256) (q : ℕ) (o : List ℕ) (r : ℕ) (o' : List ℕ) where
    tag_is : v.kind < 31 → tag ≡ 0 * 64 + bit false + v.kind
    tag_is l = let h : v.kind < 256 = omega arith in let e : v.kind % 256 ≡ v.kind = mod-eq_of_lt h in let z : bit false ≡ 0 = refl in omega arith

    pub part-put : is_part v.kind ≡ true → (tagged_size v.second ≤ 16384 → Puts out at (heads number tag v.second) q o) → (start len : ℕ)
        → start ≡ v.first → len ≡ v.second → (w : Option ℕ) → put_part s start len o q ≡ outcome w o' → next_of w ≡ r
        → (what : ℕ) → suits what (content_of s v) ≡ true → Puts out at (member_octets written_real number (content_of s v)) r o'
    unfolding member_octets put_part
    part-put p f start len i l w d e what h =
        let k = part_lies what p h in
        let bs : List ℕ = take v.second (drop v.first s) in
        let y : v.second ≤ length (drop v.first s) = rw (length-drop v.first s) (omega arith) in
        let b : length (take v.second (drop v.first s)) ≡ v.second = length-take-le v.second (drop v.first s) y in
        let d' : put_part s v.first v.second o q ≡ outcome w o' =
        ap (λ (x : ℕ). put_part s x v.second o q) (sym i) ∙ ap (λ (x : ℕ). put_part s start x o q) (sym l) ∙ d in
        let d'' : put o q (take v.second (drop v.first s)) ≡ outcome w o' = simp (le-leb _ _ k) at d' in
        rw (content-part s v p k)
        (outer-put out at 0 false v.kind tag v.second (take v.second (drop v.first s)) q o r o' (part_small v.kind p)
        (tag_is (part_small v.kind p)) b number j f (puts-by o q (take v.second (drop v.first s)) w o' r d'' e))

    abbrev said : Bool → Bool → Bool → Bool → Bool → Content
    said p w z f k =
        pick p (pick (leb (v.first + v.second) (length s)) (bytes v.kind (take v.second (drop v.first s))) wrong)
        (pick w (pick z (pick f (word v.kind v.first) wrong) wrong)
        (pick k (pick (eqb v.first 0) (pick z nothing wrong) wrong) wrong))

    word-said : (what : ℕ) → is_part v.kind ≡ false → (v.kind ≡ 0 → ⊥) → suits what (content_of s v) ≡ true → content_of s v ≡ word v.kind v.first
    unfolding content_of suits
    word-said what p z h =
        go (is_part v.kind) (is_word v.kind) (eqb v.second 0) (ltb v.first 18446744073709551616) (eqb v.kind 0) p (ne_eqb _ _ z) h
      where
        go : (p w z f k : Bool) → p ≡ false → k ≡ false → suits what (said p w z f k) ≡ true → said p w z f k ≡ word v.kind v.first
        go true w z f k a b h = never (sym a)
        go false true true true k a b h = refl
        go false true true false k a b h = never h
        go false true false f k a b h = never h
        go false false z f true a b h = never (sym b)
        go false false z f false a b h = never h

    word_fits : (what kind w : ℕ) → suits what (word kind w) ≡ true → (is_word kind ≡ true) × (word_suits what kind w ≡ true)
    unfolding suits
    word_fits what kind w h = go (eqb what 0) h
      where
        go : (b : Bool) → pick b false (both (is_word kind) (both (ltb w 18446744073709551616) (both (expects what kind) (word_suits what kind w)))) ≡ true
            → (is_word kind ≡ true) × (word_suits what kind w ≡ true)
        go true e = never e
        go false e = (both_left _ _ e, both_right (expects what kind) _ (both_right (ltb w 18446744073709551616) _ (both_right (is_word kind) _ e)))

    pub word-put : is_part v.kind ≡ false → (v.kind ≡ 0 → ⊥) → (n : ℕ) → WordSized written_real v.kind v.first n
        → (tagged_size n ≤ 16384 → Puts out at (heads number tag n) q o)
        → (pick (eqb v.kind 1) true (pick (eqb v.kind 2) true (is_real v.first)) ≡ true → Puts o q (spelled written_real v.kind v.first) r o')
        → (what : ℕ) → suits what (content_of s v) ≡ true → Puts out at (member_octets written_real number (content_of s v)) r o'
    unfolding member_octets
    word-put p z n e f g what h =
        let c : content_of s v ≡ word v.kind v.first = word-said what p z h in
        let h' : suits what (word v.kind v.first) ≡ true = sym (ap (suits what) c) ∙ h in
        let k = word_fits what v.kind v.first h' in
        let m = word_small v.kind k.0 in
        let y = word-known v.kind what v.first k.1 in
        rw c
        (outer-put out at 0 false v.kind tag n (spelled written_real v.kind v.first) q o r o' m (tag_is m) (e y) number j f (g y))

-- ---- cells, from the first to the last
module _ (kind : ℕ) (s row : List ℕ) where
  abbrev cells : ℕ → ℕ → List Content
  cells n c = contents_of s (cells_from n c row)

  cells-cons : (n c : ℕ) → cells (suc n) c ≡ content_of s (cell_at row c) ∷ cells n (suc c)
  unfolding cells_from contents_of
  cells-cons n c = refl

  suited-first : (c : ℕ) (x : Content) (xs : List Content) → suited kind c (x ∷ xs) ≡ true → suits (rule_at kind c) x ≡ true
  unfolding suited
  suited-first c x xs h = both_left _ _ h

  suited-rest : (c : ℕ) (x : Content) (xs : List Content) → suited kind c (x ∷ xs) ≡ true → suited kind (suc c) xs ≡ true
  unfolding suited
  suited-rest c x xs h = both_right (suits (rule_at kind c) x) _ h

  members-cons : (n : ℕ) (x : Content) (xs : List Content) (o : List ℕ) (p q : ℕ) (o' : List ℕ) (r : ℕ) (o'' : List ℕ)
      → Puts o p (member_octets written_real n x) q o' → Puts o' q (members_octets written_real (suc n) xs) r o'' → Puts o p (members_octets written_real n
      (x ∷ xs)) r o''
  unfolding members_octets
  members-cons n x xs o p q o' r o'' g h = puts_then o p (member_octets written_real n x) q o' (members_octets written_real (suc n) xs) r o'' g h

  -- what is left gives what the whole gives
  pub Onward : ℕ → ℕ → List ℕ → ℕ → ℕ → List ℕ → ℕ → Type 0
  Onward from to out at c o p =
      suited kind from (cells (to - from) from) ≡ true
      → (suited kind c (cells (to - c) c) ≡ true)
      × ((r : ℕ) (o' : List ℕ) → Puts o p (members_octets written_real (c - from) (cells (to - c) c)) r o'
      → Puts out at (members_octets written_real 0 (cells (to - from) from)) r o')

  pub onward-start : (from to : ℕ) (out : List ℕ) (at : ℕ) → Onward from to out at from out at
  unfolding Onward
  onward-start from to out at h = let z : from - from ≡ 0 = omega arith in (
    h,
    λ r o' p. subst (λ (n : ℕ). Puts out at (members_octets written_real n
        (cells (to - from) from)) r o') z p,
  )

  pub onward-more : (from to : ℕ) (out : List ℕ) (at c : ℕ) (o : List ℕ) (p : ℕ) → c < to → from ≤ c → Onward from to out at c o p
      → (v : Cell) → v ≡ cell_at row c → (n : ℕ) → n ≡ c - from → (q : ℕ) (o' : List ℕ)
      → ((what : ℕ) → suits what (content_of s v) ≡ true → Puts o p (member_octets written_real n (content_of s v)) q o') → Onward from to out at (c + 1) o' q
  unfolding Onward
  onward-more from to out at c o p h l w v e n i q o' f u =
      let a : to - c ≡ suc (to - (c + 1)) = omega arith in
      let b : suc c ≡ c + 1 = omega arith in
      let d : suc (c - from) ≡ c + 1 - from = omega arith in
      let k : cells (to - c) c ≡ content_of s (cell_at row c) ∷ cells (to - (c + 1)) (c + 1) =
      ap (λ (m : ℕ). cells m c) a ∙ cells-cons (to - (c + 1)) c ∙ ap (λ (m : ℕ). content_of s (cell_at row c) ∷ cells (to - (c + 1)) m) b in
      let y : suited kind c (content_of s (cell_at row c) ∷ cells (to - (c + 1)) (c + 1)) ≡ true = sym (ap (suited kind c) k) ∙ (w u).0 in
      let g : Puts o p (member_octets written_real (c - from) (content_of s (cell_at row c))) q o' =
      subst (λ (x : Cell). Puts o p (member_octets written_real (c - from) (content_of s x)) q o') e
      (subst (λ (m : ℕ). Puts o p (member_octets written_real m (content_of s v)) q o') i
      (f (rule_at kind c) (ap (λ (x : Cell). suits (rule_at kind c) (content_of s x)) e ∙ suited-first c (content_of s (cell_at row c)) (cells (to -
      (c + 1)) (c + 1)) y))) in (
        subst (λ (m : ℕ). suited kind m (cells (to - (c + 1)) (c + 1)) ≡ true) b (suited-rest c (content_of s (cell_at row c)) (cells (to - (c + 1))
            (c + 1)) y),
        λ r o'' x. (w u).1 r o''
            (subst (λ (ys : List Content). Puts o p (members_octets written_real (c - from) ys) r o'') (sym k)
            (members-cons (c - from) (content_of s (cell_at row c)) (cells (to - (c + 1)) (c + 1)) o p q o' r o'' g
            (subst (λ (m : ℕ). Puts o' q (members_octets written_real m (cells (to - (c + 1)) (c + 1))) r o'') (sym d) x))),
      )

  pub onward-end : (from to : ℕ) (out : List ℕ) (at c : ℕ) (o : List ℕ) (p : ℕ) → to ≤ c → c ≤ to → Onward from to out at c o p
      → suited kind from (cells (to - from) from) ≡ true → Puts out at (members_octets written_real 0 (cells (to - from) from)) p o
  unfolding Onward cells_from contents_of members_octets
  onward-end from to out at c o p h l w u =
      let z : to - c ≡ 0 = omega arith in
      (w u).1 p o (subst (λ (n : ℕ). Puts o p (members_octets written_real (c - from) (cells n c)) p o) (sym z) (puts_none o p))

-- ---- Root's collection
pub root-first : (root : ℕ) → root ≡ 0 → 96 + grammar.root_element_collection ≡ 96 + root_number root
unfolding root_number
root-first root h = simp (eq-eqb _ _ h)

pub root-other : (root : ℕ) → (root ≡ 0 → ⊥) → 96 + grammar.stream_collection ≡ 96 + root_number root
unfolding root_number
root-other root h = simp (ne_eqb _ _ h)

-- ---- the tag of an entry's kind
pub tag_at : (kind n t : ℕ) → kind ≡ n → t ≡ 96 + get_or applications n 0 → t ≡ 96 + get_or applications kind 0
tag_at kind n t e h = h ∙ ap (λ (i : ℕ). 96 + get_or applications i 0) (sym e)

pub tag-none : (kind : ℕ) → (1 ≤ kind → kind ≤ 9 → ⊥) → 96 ≡ 96 + get_or applications kind 0
unfolding applications
tag-none zero h = refl
tag-none (suc zero) h = absurd (h (omega arith) (omega arith))
tag-none (suc (suc zero)) h = absurd (h (omega arith) (omega arith))
tag-none (suc (suc (suc zero))) h = absurd (h (omega arith) (omega arith))
tag-none (suc (suc (suc (suc zero)))) h = absurd (h (omega arith) (omega arith))
tag-none (suc (suc (suc (suc (suc zero))))) h = absurd (h (omega arith) (omega arith))
tag-none (suc (suc (suc (suc (suc (suc zero)))))) h = absurd (h (omega arith) (omega arith))
tag-none (suc (suc (suc (suc (suc (suc (suc zero))))))) h = absurd (h (omega arith) (omega arith))
tag-none (suc (suc (suc (suc (suc (suc (suc (suc zero)))))))) h = absurd (h (omega arith) (omega arith))
tag-none (suc (suc (suc (suc (suc (suc (suc (suc (suc zero))))))))) h = absurd (h (omega arith) (omega arith))
tag-none (suc (suc (suc (suc (suc (suc (suc (suc (suc (suc n)))))))))) h = refl

-- ---- contents and collections in their tags
pub wrapped-within : (number class inside : ℕ) (xs : List ℕ) → number < 31 → inside < 31 → length xs ≤ length (wrapped number class inside xs)
unfolding wrapped
wrapped-within number class inside [] h i = omega arith
wrapped-within number class inside (x ∷ xs) h i =
    let l = outer-length number class true inside (x ∷ xs) h i in
    let m = over-tagged (length (x ∷ xs)) in
    let n = over-tagged (tagged_size (length (x ∷ xs))) in
    omega arith

module _ (number class inside n : ℕ) (xs out : List ℕ) (at : ℕ) where
  pub wrapped-empty : length xs ≡ n → n ≡ 0 → Puts out at (wrapped number class inside xs) at out
  wrapped-empty e z = puts-as out at [] (wrapped number class inside xs) at out (sym (go xs (e ∙ z))) (puts_none out at)
    where
      go : (xs : List ℕ) → length xs ≡ 0 → wrapped number class inside xs ≡ []
      go [] e = unfold wrapped in refl
      go (x ∷ xs) e = absurd (omega arith)

  pub wrapped-put : (tag q : ℕ) (o : List ℕ) (r : ℕ) (o' : List ℕ) → number < 31 → inside < 31 → tag ≡ class * 64 + 32 + inside → length xs ≡ n → (n
      ≡ 0 → ⊥)
      → (tagged_size n ≤ 16384 → Puts out at (heads number tag n) q o) → Puts o q xs r o' → Puts out at (wrapped number class inside xs) r o'
  wrapped-put tag q o r o' h i t e z f g =
      puts-as out at (tagged 2 true number (tagged class true inside xs)) (wrapped number class inside xs) r o' (go xs (λ y. z (sym e ∙ y)))
      (outer-put out at class true inside tag n xs q o r o' i t e number h f g)
    where
      go : (xs : List ℕ) → (length xs ≡ 0 → ⊥) → tagged 2 true number (tagged class true inside xs) ≡ wrapped number class inside xs
      go [] z = absurd (z refl)
      go (x ∷ xs) z = unfold wrapped in refl

-- ---- an entry's own members and its contents
module _ (kind : ℕ) (s row : List ℕ) where
  abbrev all : List Content
  all = contents_of s (cells_from 16 0 row)

  abbrev some : ℕ → ℕ → List Content
  some n c = contents_of s (cells_from n c row)

  own-part : own kind all ≡ some (split kind) 0
  unfolding own cells_from contents_of
  own-part = go (eqb (grammar.contents_of kind) 0)
    where
      go : (b : Bool) → pick b all (content_of s (cell_at row 0) ∷ []) ≡ some (pick b 16 1) 0
      go true = refl
      go false = refl

  inner-part : inner kind all ≡ some (16 - split kind) (split kind)
  unfolding inner cells_from contents_of
  inner-part = go (eqb (grammar.contents_of kind) 0)
    where
      go : (b : Bool) → pick b [] (some 15 1) ≡ some (16 - pick b 16 1) (pick b 16 1)
      go true = refl
      go false = refl

  both_true : (a b : Bool) → a ≡ true → b ≡ true → both a b ≡ true
  both_true true b h k = k
  both_true false b h k = h

  suited-parts : suited kind 0 all ≡ true → (suited kind 0 (some (split kind) 0) ≡ true) × (suited kind (split kind) (some (16 - split kind)
      (split kind)) ≡ true)
  unfolding suited cells_from contents_of
  suited-parts h = go (eqb (grammar.contents_of kind) 0)
    where
      go : (b : Bool) → (suited kind 0 (some (pick b 16 1) 0) ≡ true) × (suited kind (pick b 16 1) (some (16 - pick b 16 1) (pick b 16 1)) ≡ true)
      go true = (h, refl)
      go false = (
        both_true (suits (rule_at kind 0) (content_of s (cell_at row 0))) true (both_left (suits (rule_at kind 0) (content_of s (cell_at row 0)))
            (suited kind 1 (some 15 1)) h) refl,
        both_right (suits (rule_at kind 0) (content_of s (cell_at row 0))) (suited kind 1 (some 15 1)) h,
      )

  module _ (sp : ℕ) (e : split kind ≡ sp) (l : sp ≤ 16) (n : ℕ) (z : n ≡ length (members_octets written_real 0 (inner kind all))) (out : List ℕ)
      (at a : ℕ) (o : List ℕ)
      (f : suited kind 0 (some (sp - 0) 0) ≡ true → Puts out at (members_octets written_real 0 (some (sp - 0) 0)) a o) (u : suited kind 0 all ≡ true) where
    abbrev inside : List ℕ
    inside = members_octets written_real 0 (inner kind all)

    abbrev mine : List ℕ
    mine = members_octets written_real 0 (own kind all)

    own_put : Puts out at mine a o
    own_put =
        let i : sp - 0 ≡ split kind = omega arith in
        let j : own kind all ≡ some (sp - 0) 0 = own-part ∙ ap (λ (x : ℕ). some x 0) (sym i) in
        puts-as out at (members_octets written_real 0 (some (sp - 0) 0)) mine a o (ap (members_octets written_real 0) (sym j))
        (f (ap (λ (x : ℕ). suited kind 0 (some x 0)) i ∙ (suited-parts u).0))

    inner-some : inner kind all ≡ some (16 - sp) sp
    inner-some = inner-part ∙ ap (λ (x : ℕ). some (16 - x) x) e

    inner-suited : suited kind sp (some (16 - sp) sp) ≡ true
    inner-suited = subst (λ (x : ℕ). suited kind x (some (16 - x) x) ≡ true) e (suited-parts u).1

    entry-given : (r : ℕ) (o' : List ℕ) → Puts o a (wrapped 1 0 17 inside) r o' → Puts out at (entry_part kind all) r o'
    unfolding entry_part
    entry-given r o' g = puts_then out at mine a o (wrapped 1 0 17 inside) r o' own_put g

    pub entry-none : n ≡ 0 → Puts out at (entry_part kind all) a o
    entry-none h = entry-given a o (wrapped-empty 1 0 17 n inside o a (sym z) h)

    pub entry-some : (n ≡ 0 → ⊥) → (q : ℕ) (o₂ : List ℕ) (r : ℕ) (o' : List ℕ) → (tagged_size n ≤ 16384 → Puts o a (heads 1 49 n) q o₂)
        → (suited kind sp (some (16 - sp) sp) ≡ true → Puts o₂ q (members_octets written_real 0 (some (16 - sp) sp)) r o')
        → Puts out at (entry_part kind all) r o'
    entry-some h q o₂ r o' g k =
        entry-given r o'
        (wrapped-put 1 0 17 n inside o a 49 q o₂ r o' (omega arith) (omega arith) refl (sym z) h g
        (puts-as o₂ q (members_octets written_real 0 (some (16 - sp) sp)) inside r o' (ap (members_octets written_real 0) (sym inner-some)) (k inner-suited)))
