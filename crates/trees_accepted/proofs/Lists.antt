-- Lists of contents with one put, entries with a cell put, and the entries of trees.
use Prim.Native.Nat.{ℕ, zero, suc, ◌+◌, ◌<◌, ◌≤◌}
use mathlib.Core.Path.{◌≡◌, refl, sym, ap, ◌∙◌}
use mathlib.Core.List.{List, [], ◌∷◌, ◌++◌}
use mathlib.Core.Bool.{true}
use native.Mathlib.Omega.{arith}
use lib.ListN.{length, get_or, set, length-append}
use borrow.Author.Tests.{lt-ltb}
use Rattle.glow_rows.specs.declared.Cell.{Cell}
use Rattle.glow_rows.specs.Entry.{Entry, Entries, blanks, with_cell, put_cell}
use Rattle.glow_trees.specs.Content.{Content, nothing, content_of, contents_of, Item, item_of, items_of}
use Rattle.glow_trees.specs.Trees.{Trees, none, tree, count, flat}
use Rattle.glow_trees.specs.Legal.{suits, suited, present, complete, empty, rule_at}
use Rattle.glow_trees.specs.Written.{member_octets, members_octets}
use Rattle.base_choices.proofs.Laws.{both_left, both_right, both-make}

-- one put into a list
module _ {A : Type 0} where
  pub get_set : (l : List A) (i : ℕ) (x d : A) → i < length l → get_or (set l i x) i d ≡ x
  get_set [] i x d h = absurd (omega arith)
  get_set (y ∷ l) zero x d h = refl
  get_set (y ∷ l) (suc i) x d h = let k : i < length l = omega arith in get_set l i x d k

  pub get_other : (l : List A) (i j : ℕ) (x d : A) → (i ≡ j → ⊥) → get_or (set l i x) j d ≡ get_or l j d
  get_other [] i j x d h = refl
  get_other (y ∷ l) zero zero x d h = absurd (h refl)
  get_other (y ∷ l) zero (suc j) x d h = refl
  get_other (y ∷ l) (suc i) zero x d h = refl
  get_other (y ∷ l) (suc i) (suc j) x d h = get_other l i j x d (λ e. h (ap suc e))

  pub append-none : (l : List A) → l ++ [] ≡ l
  append-none [] = refl
  append-none (x ∷ l) = ap (λ (t : List A). x ∷ t) (append-none l)

pub suited-set : (kind c : ℕ) (xs : List Content) (i : ℕ) (x : Content) → suited kind c xs ≡ true → suits (rule_at kind (c + i)) x ≡ true
    → suited kind c (set xs i x) ≡ true
unfolding suited
suited-set kind c [] i x h k = refl
suited-set kind c (y ∷ xs) zero x h k =
    let e : c + 0 ≡ c = omega arith in
    both-make (suits (rule_at kind c) x) (suited kind (suc c) xs) (ap (λ (m : ℕ). suits (rule_at kind m) x) (sym e) ∙ k)
    (both_right (suits (rule_at kind c) y) _ h)
suited-set kind c (y ∷ xs) (suc i) x h k =
    let e : suc c + i ≡ c + suc i = omega arith in
    both-make (suits (rule_at kind c) y) (suited kind (suc c) (set xs i x)) (both_left (suits (rule_at kind c) y) (suited kind (suc c) xs) h)
    (suited-set kind (suc c) xs i x (both_right (suits (rule_at kind c) y) _ h) (ap (λ (m : ℕ). suits (rule_at kind m) x) e ∙ k))

module _ (least : ℕ → List ℕ) where
  -- how many octets members have
  abbrev pub size_from : ℕ → List Content → ℕ
  size_from n xs = length (members_octets least n xs)

  pub size-cons : (n : ℕ) (x : Content) (xs : List Content) → size_from n (x ∷ xs) ≡ length (member_octets least n x) + size_from (suc n) xs
  unfolding members_octets
  size-cons n x xs = length-append (member_octets least n x) (members_octets least (suc n) xs)

  size-nothing : (n : ℕ) → length (member_octets least n nothing) ≡ 0
  unfolding member_octets
  size-nothing n = refl

  pub size-set : (n : ℕ) (xs : List Content) (i : ℕ) (x : Content) → i < length xs → get_or xs i nothing ≡ nothing
      → size_from n (set xs i x) ≡ size_from n xs + length (member_octets least (n + i) x)
  size-set n [] i x h e = absurd (omega arith)
  size-set n (y ∷ xs) zero x h e =
      let z : n + 0 ≡ n = omega arith in
      let a = size-cons n x xs in
      let b = size-cons n y xs in
      let q : length (member_octets least n y) ≡ 0 = ap (λ (t : Content). length (member_octets least n t)) e ∙ size-nothing n in
      rw z (omega arith)
  size-set n (y ∷ xs) (suc i) x h e =
      let z : suc n + i ≡ n + suc i = omega arith in
      let k : i < length xs = omega arith in
      let a = size-cons n y (set xs i x) in
      let b = size-cons n y xs in
      let r : size_from (suc n) (set xs i x) ≡ size_from (suc n) xs + length (member_octets least (n + suc i) x) =
      size-set (suc n) xs i x k e ∙ ap (λ (m : ℕ). size_from (suc n) xs + length (member_octets least m x)) z in
      omega arith

-- what is required, by its places
pub complete-by : (n : ℕ) (xs : List Content) → n ≤ length xs → ((i : ℕ) → i < n → present (get_or xs i nothing) ≡ true) → complete n xs ≡ true
unfolding complete
complete-by zero xs h p = refl
complete-by (suc n) [] h p = absurd (omega arith)
complete-by (suc n) (x ∷ xs) h p =
    let k : n ≤ length xs = omega arith in
    let z : 0 < suc n = omega arith in
    both-make (present x) (complete n xs) (p 0 z) (complete-by n xs k (λ i l. let m : suc i < suc n = omega arith in p (suc i) m))

-- nothing yet
unfoldable pub nothings : ℕ → List Content
nothings zero = []
nothings (suc n) = nothing ∷ nothings n

pub blank-contents : (s : List ℕ) (n : ℕ) → contents_of s (blanks n) ≡ nothings n
unfolding contents_of content_of blanks nothings
blank-contents s zero = refl
blank-contents s (suc n) = ap (λ (t : List Content). nothing ∷ t) (blank-contents s n)

module _ (kind : ℕ) where
  pub nothings-suited : (c n : ℕ) → suited kind c (nothings n) ≡ true
  unfolding suited suits nothings
  nothings-suited c zero = refl
  nothings-suited c (suc n) = nothings-suited (suc c) n

pub nothings-get : (n c : ℕ) → get_or (nothings n) c nothing ≡ nothing
unfolding nothings
nothings-get zero c = refl
nothings-get (suc n) zero = refl
nothings-get (suc n) (suc c) = nothings-get n c

pub nothings-length : (n : ℕ) → length (nothings n) ≡ n
unfolding nothings
nothings-length zero = refl
nothings-length (suc n) = ap suc (nothings-length n)

pub nothings-empty : (n : ℕ) → empty (nothings n) ≡ true
unfolding empty nothings
nothings-empty zero = refl
nothings-empty (suc n) = nothings-empty n

pub nothings-size : (least : ℕ → List ℕ) (m n : ℕ) → size_from least m (nothings n) ≡ 0
unfolding members_octets member_octets nothings
nothings-size least m zero = refl
nothings-size least m (suc n) = nothings-size least (suc m) n

-- the contents of cells with one put
pub contents-set : (s : List ℕ) (vs : List Cell) (c : ℕ) (v : Cell) → contents_of s (set vs c v) ≡ set (contents_of s vs) c (content_of s v)
unfolding contents_of
contents-set s [] c v = refl
contents-set s (w ∷ vs) zero v = refl
contents-set s (w ∷ vs) (suc c) v = ap (λ (t : List Content). content_of s w ∷ t) (contents-set s vs c v)

pub with-contents : (s : List ℕ) (e : Entry) (c : ℕ) (v : Cell) → c < 16
    → contents_of s (with_cell e c v).cells ≡ set (contents_of s e.cells) c (content_of s v)
unfolding with_cell
with-contents s e c v h = rw (lt-ltb _ _ h) (contents-set s e.cells c v)

pub with-kind : (e : Entry) (c : ℕ) (v : Cell) → c < 16 → ((with_cell e c v).kind ≡ e.kind) × ((with_cell e c v).parent ≡ e.parent)
unfolding with_cell
with-kind e c v h = rw (lt-ltb _ _ h) (refl, refl)

-- a cell put into the entry behind others
pub put-at : (base : Entries) (e : Entry) (post : Entries) (c : ℕ) (v : Cell)
    → put_cell (base ++ (e ∷ post)) (length base) c v ≡ base ++ (with_cell e c v ∷ post)
unfolding put_cell
put-at [] e post c v = refl
put-at (x ∷ base) e post c v = ap (λ (t : Entries). x ∷ t) (put-at base e post c v)

module _ (s : List ℕ) where
  pub items-append : (a b : Entries) → items_of s (a ++ b) ≡ items_of s a ++ items_of s b
  unfolding items_of
  items-append [] b = refl
  items-append (e ∷ a) b = ap (λ (t : List Item). item_of s e ∷ t) (items-append a b)

  pub items-length : (a : Entries) → length (items_of s a) ≡ length a
  unfolding items_of
  items-length [] = refl
  items-length (e ∷ a) = ap suc (items-length a)

pub flat-length : (parent i : ℕ) (t : Trees) → length (flat parent i t) ≡ count t
unfolding flat count
flat-length parent i none = refl
flat-length parent i (tree kind members kids links rest) =
    let a = flat-length (suc i) (suc i) kids in
    let b = flat-length (suc i) (suc i + count kids) links in
    let c = flat-length parent (suc i + (count kids + count links)) rest in
    let d = length-append (flat (suc i) (suc i) kids)
    (flat (suc i) (suc i + count kids) links ++ flat parent (suc i + (count kids + count links)) rest) in
    let e = length-append (flat (suc i) (suc i + count kids) links) (flat parent (suc i + (count kids + count links)) rest) in
    omega arith
