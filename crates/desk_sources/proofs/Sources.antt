-- What is handed on to a request: each source that a connection names, once.
use Prim.Native.Nat.{ℕ, zero, suc, ◌+◌, ◌≤◌, ◌<◌}
use mathlib.Core.Path.{◌≡◌, refl, sym, ap, subst, ◌∙◌}
use mathlib.Core.List.{List, [], ◌∷◌, ◌++◌}
use mathlib.Core.Bool.{Bool, true, false, true≢false}
use native.Mathlib.Omega.{arith}
use borrow.Author.Tests.{eqb-true, eq-eqb}
use lib.ListN.{length, take, get_or, set, length-set}
use lib.Seq.{get_or-set_same, take-suc-set}
use lib.Dec.{eqb}
use Rattle.base_choices.specs.Choices.{pick}
use Rattle.desk_crosspoints.specs.Figures.{side}
use Rattle.desk_crosspoints.specs.Crosspoints.{Cells, count, clear, legal}
use Rattle.desk_requests.specs.Request.{request, marked, named}
use Rattle.desk_requests.proofs.Answers.{request-legal-not}
use Rattle.desk_crosspoints.proofs.Legal.{legal-fit}
use Rattle.desk_crosspoints.proofs.Laws.{bit-set, bit-clear, count-le, fit-sources-le}
use Rattle.desk_crosspoints.proofs.Counts.{clear-cell, clear-count}
use Rattle.desk_requests.proofs.Rows.{named-length}
use Rattle.desk_requests.specs.Lists.{has, once}
use Rattle.desk_sources.specs.Gathered.{Kept, Handed}
use Rattle.desk_requests.proofs.Sets.{has-held, has-not, has-out, out-request, set-request}

-- two lists that name the same sources
abbrev pub Alike : List ℕ → List ℕ → Type 0
Alike a b = (x : ℕ) → has a x ≡ has b x

has-append : (a b : List ℕ) (y : ℕ) → has (a ++ b) y ≡ pick (has a y) true (has b y)
unfolding has
has-append [] b y = refl
has-append (x ∷ xs) b y = ap (λ (t : Bool). pick (eqb x y) true t) (has-append xs b y) ∙ go (eqb x y)
  where
    go : (u : Bool) → pick u true (pick (has xs y) true (has b y)) ≡ pick (pick u true (has xs y)) true (has b y)
    go true = refl
    go false = refl

has_here : (a : List ℕ) (x : ℕ) (b : List ℕ) → has (a ++ (x ∷ b)) x ≡ true
unfolding has
has_here a x b = has-append a (x ∷ b) x ∙ go (has a x) (eqb x x) (eq-eqb x x refl)
  where
    go : (u t : Bool) → t ≡ true → pick u true (pick t true (has b x)) ≡ true
    go true t e = refl
    go false true e = refl
    go false false e = absurd (true≢false (sym e))

-- a source that is named already
has-again : (a : List ℕ) (x : ℕ) (b : List ℕ) (y : ℕ) → has a x ≡ true → has (a ++ b) y ≡ has (a ++ (x ∷ b)) y
unfolding has
has-again a x b y h = has-append a b y ∙ go (has a y) refl (eqb x y) refl ∙ sym (has-append a (x ∷ b) y)
  where
    go : (u : Bool) → has a y ≡ u → (t : Bool) → eqb x y ≡ t → pick u true (has b y) ≡ pick u true (pick t true (has b y))
    go true e t d = refl
    go false e false d = refl
    go false e true d = absurd (true≢false (sym h ∙ ap (has a) (eqb-true x y d) ∙ e))

pub marked_append : (v : ℕ) (a b : List ℕ) (r : Cells) → marked v r (a ++ b) ≡ marked v (marked v r a) b
unfolding marked
marked_append v [] b r = refl
marked_append v (x ∷ xs) b r = marked_append v xs b (set r x v)

pub append-again : (a : List ℕ) (x : ℕ) (b : List ℕ) → (a ++ (x ∷ [])) ++ b ≡ a ++ (x ∷ b)
append-again [] x b = refl
append-again (y ∷ ys) x b = ap (λ (l : List ℕ). y ∷ l) (append-again ys x b)

pub once-has : (a : List ℕ) (x : ℕ) (b : List ℕ) → Alike (once a x ++ b) (a ++ (x ∷ b))
unfolding once
once-has a x b y = go (has a x) refl
  where
    go : (u : Bool) → has a x ≡ u → has (pick u a (a ++ (x ∷ [])) ++ b) y ≡ has (a ++ (x ∷ b)) y
    go true e = has-again a x b y e
    go false e = ap (λ (l : List ℕ). has l y) (append-again a x b)

-- one more source
pub count-put : (r : Cells) (x : ℕ) → x < length r → get_or r x 0 ≡ 0 → count (set r x 1) ≡ suc (count r)
unfolding count
count-put [] x h e = absurd (omega (arith, h))
count-put (c ∷ cs) zero h e = omega (arith, bit-clear c e, bit-set 1 (λ z. absurd (omega (arith, z))))
count-put (c ∷ cs) (suc x) h e = omega (arith, count-put cs x (omega (arith, h)) e)

named_more : (x : ℕ) (l : List ℕ) → set (named side l) x 1 ≡ named side (l ++ (x ∷ []))
unfolding named marked
named_more x l = sym (marked_append 1 l (x ∷ []) (clear side))

module _ (list : List ℕ) (marks : Cells) (k x : ℕ) (kept : Kept list marks k) (low : x < side) where
  abbrev a : List ℕ
  a = take k list

  length-marks : length marks ≡ side
  length-marks = ap length kept.marked ∙ named-length side a

  pub keep-there : x < length marks
  keep-there = omega (arith, length-marks, low)

  old-has : (get_or marks x 0 ≡ 0 → ⊥) → has a x ≡ true
  unfolding named
  old-has h = go (has a x) refl
    where
      go : (u : Bool) → has a x ≡ u → has a x ≡ true
      go true e = e
      go false e = absurd (h (ap (λ (l : Cells). get_or l x 0) kept.marked ∙ has-not 1 x a (clear side) e ∙ clear-cell side x))

  pub keep-old : (get_or marks x 0 ≡ 0 → ⊥) → a ≡ once a x
  unfolding once
  keep-old h = rw (old-has h)

  new-not : get_or marks x 0 ≡ 0 → has a x ≡ false
  unfolding named
  new-not h = go (has a x) refl
    where
      go : (u : Bool) → has a x ≡ u → has a x ≡ false
      go false e = e
      go true e =
          let n : x < length (named side a) = omega (arith, named-length side a, low) in
          let one : get_or (named side a) x 0 ≡ 1 =
          ap (λ (l : Cells). get_or l x 0) (sym (has-held 1 x a (clear side) e)) ∙ get_or-set_same (named side a) x 1 0 n in
          absurd (omega (arith, sym h ∙ ap (λ (l : Cells). get_or l x 0) kept.marked ∙ one))

  module _ (h : get_or marks x 0 ≡ 0) where
    counted : count (set marks x 1) ≡ suc k
    counted = count-put marks x keep-there h ∙ ap suc kept.each

    -- there is room: as many cells are set as sources are kept
    pub keep-room : k < length list
    keep-room =
        omega (arith, counted, count-le (set marks x 1), length-set marks x 1, length-marks, kept.room)

    pub keep-list : take (k + 1) (set list k x) ≡ once a x
    unfolding once
    keep-list =
        let d : k + 1 ≡ suc k = omega arith in
        ap (λ (i : ℕ). take i (set list k x)) d ∙ take-suc-set list k x keep-room ∙ rw (new-not h)

    pub keep-new : Kept (set list k x) (set marks x 1) (k + 1)
    keep-new =
        record {
          room = omega (arith, length-set list k x, kept.room);
          marked =
              ap (λ (l : Cells). set l x 1) kept.marked ∙ named_more x a
              ∙ ap (named side) (sym (take-suc-set list k x keep-room) ∙ ap (λ (i : ℕ). take i (set list k x)) (sym d));
          each = counted ∙ sym d;
        }
      where
        d : k + 1 ≡ suc k
        d = omega arith

module _ (list : List ℕ) (marks : Cells) (k x : ℕ) (kept : Kept list marks k) (low : x < side) (j : ℕ) (i : j ≡ x) where
  pub keep-in : j < length marks
  keep-in = omega (arith, i, keep-there list marks k x kept low)

  pub keep-stays : (get_or marks j 0 ≡ 0 → ⊥) → Kept list marks k × (take k list ≡ once (take k list) x)
  keep-stays h = (kept, keep-old list marks k x kept low (λ z. h (ap (λ (n : ℕ). get_or marks n 0) i ∙ z)))

  module _ (h : get_or marks j 0 ≡ 0) where
    free : get_or marks x 0 ≡ 0
    free = ap (λ (n : ℕ). get_or marks n 0) (sym i) ∙ h

    pub keep-fits : k < length list
    keep-fits = keep-room list marks k x kept low free

    pub keep-more : Kept (set list k x) (set marks j 1) (k + 1) × (take (k + 1) (set list k x) ≡ once (take k list) x)
    keep-more = (
      subst (λ (n : ℕ). Kept (set list k x) (set marks n 1) (k + 1)) (sym i) (keep-new list marks k x kept low free),
      keep-list list marks k x kept low free,
    )

-- the sources of a connection, one after another: `left` are to come, `list` is what it names
pub kept-none : (list : List ℕ) (marks : Cells) → side ≤ length list → marks ≡ clear side → Kept list marks 0
unfolding named marked
kept-none list marks h e = record { room = h; marked = e; each = ap count e ∙ clear-count side }

pub kept-le : (list : List ℕ) (marks : Cells) (k : ℕ) → Kept list marks k → k ≤ side
kept-le list marks k h = omega (arith, h.each, count-le marks, ap length h.marked ∙ named-length side (take k list))

pub gather-more : (a a' left ys list : List ℕ) (x : ℕ) → left ≡ x ∷ ys → a' ≡ once a x → Alike (a ++ left) list → Alike (a' ++ ys) list
gather-more a a' left ys list x e o h y =
    ap (λ (z : List ℕ). has (z ++ ys) y) o ∙ once-has a x ys y ∙ ap (λ (z : List ℕ). has (a ++ z) y) (sym e) ∙ h y

append-none : (a : List ℕ) → a ++ [] ≡ a
append-none [] = refl
append-none (x ∷ xs) = ap (λ (l : List ℕ). x ∷ l) (append-none xs)

pub gather-end : (n : ℕ) (a left list : List ℕ) → left ≡ [] → Alike (a ++ left) list → Handed n list a
gather-end n a left list e h d target operation k =
    set-request d target operation a list (λ y. ap (λ (z : List ℕ). has z y) (sym (ap (λ (z : List ℕ). a ++ z) e ∙ append-none a)) ∙ h y)

front : (l : List ℕ) (x : ℕ) → 0 < length l → take 1 (set l 0 x) ≡ x ∷ []
front [] x h = absurd (omega (arith, h))
front (y ∷ ys) x h = refl

pub gather-out : (n : ℕ) (a left ys list room : List ℕ) (x : ℕ) → left ≡ x ∷ ys → Alike (a ++ left) list → n ≤ x → 0 < length room
    → Handed n list (take 1 (set room 0 x))
gather-out n a left ys list room x e h k l d target operation i =
    out-request d target operation (take 1 (set room 0 x)) list
    (has-out d.figures.sources x (take 1 (set room 0 x)) (ap (λ (z : List ℕ). has z x) (front room x l) ∙ has_here [] x []) (omega (arith, i, k)))
    (has-out d.figures.sources x list (sym (h x) ∙ ap (λ (z : List ℕ). has (a ++ z) x) e ∙ has_here a x ys) (omega (arith, i, k)))

-- no desk has more sources than the most: every request on one is 1
pub gather_none : (n : ℕ) (a list : List ℕ) → side < n → Handed n list a
gather_none n a list h d target operation e =
    request-legal-not d (request target a operation) illegal ∙ sym (request-legal-not d (request target list operation) illegal)
  where
    illegal : legal d.figures d.crosspoints ≡ false
    illegal = go (legal d.figures d.crosspoints) refl
      where
        go : (u : Bool) → legal d.figures d.crosspoints ≡ u → legal d.figures d.crosspoints ≡ false
        go false z = z
        go true z = absurd (omega (arith, h, e, fit-sources-le d.figures (legal-fit d.figures d.crosspoints z)))
