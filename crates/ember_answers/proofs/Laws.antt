-- Laws of the definitions, at plain variables.
use Prim.Native.Nat.{ℕ, ◌≤◌, ◌<◌}
use mathlib.Core.Path.{◌≡◌, refl, sym, ap, ◌∙◌}
use mathlib.Core.Bool.{Bool, true, false}
use mathlib.Core.List.{List, [], ◌∷◌}
use native.Mathlib.Omega.{arith}
use borrow.Author.Tests.{eq-eqb, ne_eqb, le-leb, lt-leb, eqb-true}
use lib.Dec.{leb, eqb}
use lib.ListN.{length, set}
use Rattle.base_choices.specs.Choices.{both}
use Rattle.glow_rows.specs.Entry.{Rows}
use Rattle.glow_reader.specs.declared.Answer as tree
use Rattle.glow_reader.specs.declared.Answer.TheVariants as trees
use Rattle.glow_reader.specs.Message.{reply_by}
use Rattle.desk_crosspoints.specs.Crosspoints.{Cells}
use Rattle.desk_crosspoints.specs.Desk.{Desk}
use Rattle.desk_calls.specs.declared.Called as asked
use Rattle.desk_calls.specs.Calls.{Outcome, outcome_of as answered}
use Rattle.turns.specs.declared.After.{After}
use Rattle.turns.specs.declared.After.TheVariants as after
use Rattle.turn_rules.specs.Turns.{Later, none}
use Rattle.turns.specs.Whole.{Left, unasked, read_to}
use Rattle.ember_answers.specs.declared.after.Six.{Six}
use Rattle.ember_answers.specs.Answers.{desk_call, counted, counted_put, lengths_fit, next, tree_words, later_words, answer_put, words_in, Words}

-- ---- the desk's call

pub set-one : (xs : List ℕ) (a : ℕ) → length xs ≡ 1 → set xs 0 a ≡ a ∷ []
set-one [] a h = absurd (omega arith)
set-one (x ∷ []) a h = refl
set-one (x ∷ y ∷ ys) a h = absurd (omega arith)

-- in an answer of one word
pub put_one : (o : Outcome) (lent a : List ℕ) → length a ≡ 1 → counted_put o lent a ≡ counted o lent a
unfolding counted_put
put_one o lent a h = rw (eq-eqb _ _ h) refl

-- the answers and their count, or 1
module _ (c : asked.Called) (lent a : List ℕ) (cells : Cells) where
  pub put-words : (length a ≡ 1 → ⊥) → counted_put (answered c cells) lent a ≡ desk_call 1 lent cells a
  unfolding counted_put
  put-words h = rw (ne_eqb _ _ h) refl

  module _ (h : length a ≡ 1) where
    pub put-setup : (c.number ≡ 0 → ⊥) → counted_put (answered c cells) lent a ≡ desk_call c.number lent cells a
    unfolding counted
    put-setup n = put_one (answered c cells) lent a h ∙ rw (ne_eqb _ _ n) refl

    pub put-done : {x : ℕ} → c.number ≡ 0 → x ≡ c.count → counted_put (answered c cells) lent a ≡ desk_call 0 c.answers cells (set a 0 x)
    unfolding counted
    put-done e p = put_one (answered c cells) lent a h ∙ rw (eq-eqb _ _ e, p, set-one a c.count h) refl

-- ---- a turn

module _ (rows size cells path words : ℕ) where
  pub fit-answer : (words ≡ 9 → ⊥) → false ≡ lengths_fit rows size cells path words
  unfolding lengths_fit
  fit-answer h = simp (ne_eqb _ _ h)

  module _ (w : words ≡ 9) where
    pub fit-rows : 256 < rows → false ≡ lengths_fit rows size cells path words
    unfolding lengths_fit
    fit-rows h = simp (eq-eqb _ _ w, lt-leb _ _ h)

    module _ (g : rows ≤ 256) where
      pub fit-cells : (cells ≡ size → ⊥) → false ≡ lengths_fit rows size cells path words
      unfolding lengths_fit
      fit-cells h = simp (eq-eqb _ _ w, le-leb _ _ g, ne_eqb _ _ h)

      module _ (c : cells ≡ size) where
        pub fit-path : path < 1 → false ≡ lengths_fit rows size cells path words
        unfolding lengths_fit
        fit-path h = simp (eq-eqb _ _ w, le-leb _ _ g, eq-eqb _ _ c, lt-leb _ _ h)

        pub fit_all : 1 ≤ path → leb path 16 ≡ lengths_fit rows size cells path words
        unfolding lengths_fit
        fit_all h = simp (eq-eqb _ _ w, le-leb _ _ g, eq-eqb _ _ c, le-leb _ _ h)

-- what comes after the session's call
module _ (number : ℕ) (m : List ℕ) (d : Desk) (table : Rows) where
  pub next-nothing : (number ≡ 3 → ⊥) → next number m d table ≡ unasked none table d.crosspoints
  unfolding next
  next-nothing h = rw (ne_eqb _ _ h) refl

  pub next-message : {k : List ℕ} {x : Left} → number ≡ 3 → k ≡ m → read_to d k table ≡ x → next number m d table ≡ x
  unfolding next
  next-message h i e = rw (eq-eqb _ _ h, ← i) e

never : false ≡ true → ⊥
never g = let z : ◌≡◌ {A = ℕ} 0 1 = cc in omega arith

-- lengths that fit: the answer has nine words
pub fit_words : (rows size cells path words : ℕ) → lengths_fit rows size cells path words ≡ true → words ≡ 9
unfolding lengths_fit
fit_words rows size cells path words h = by (eqb words 9) refl h
  where
    by : (t : Bool) → eqb words 9 ≡ t → both t (both (leb rows 256) (both (eqb cells size) (both (leb 1 path) (leb path 16)))) ≡ true → words ≡ 9
    by true e g = eqb-true _ _ e
    by false e g = absurd (never g)

-- ---- what came after, in words

module _ {a : tree.Answer} {r : Six} where
  pub tree-setup : a ≡ trees.Setup → r ≡ record { tree = 1; place = 0; count = 0; root = 0; desk = 0; answers = 0 } → tree_words (reply_by a) ≡ words_in r
  tree-setup e k = rw (e, k) refl

  module _ {x : ℕ} where
    pub tree-refused : {number place : ℕ} → a ≡ trees.Refused number place → x ≡ place
        → r ≡ record { tree = number; place = x; count = 0; root = 0; desk = 0; answers = 0 } → tree_words (reply_by a) ≡ words_in r
    tree-refused e p k = rw (e, k, p) refl

    pub tree-room : {count : ℕ} → a ≡ trees.Room count → x ≡ count
        → r ≡ record { tree = 38; place = 0; count = x; root = 0; desk = 0; answers = 0 } → tree_words (reply_by a) ≡ words_in r
    tree-room e p k = rw (e, k, p) refl

    pub tree-read : {root count : ℕ} → a ≡ trees.Read root count → x ≡ count
        → r ≡ record { tree = 0; place = 0; count = x; root = root; desk = 0; answers = 0 } → tree_words (reply_by a) ≡ words_in r
    tree-read e p k = rw (e, k, p) refl

module _ {x : After} {r : Six} where
  pub later-nothing : x ≡ after.Nothing → r ≡ record { tree = 0; place = 0; count = 0; root = 0; desk = 0; answers = 0 } → Words x r
  later-nothing e k answers table cells = rw (e, k) refl

  pub later-refused : {a : tree.Answer} → x ≡ after.Refused a → tree_words (reply_by a) ≡ words_in r → Words x r
  later-refused e k answers table cells = rw e k

  pub later-served : {root count number answered v w : ℕ} → x ≡ after.Served root count number answered → v ≡ count → w ≡ answered
      → r ≡ record { tree = 0; place = 0; count = v; root = root; desk = number; answers = w } → Words x r
  later-served e p q k answers table cells = rw (e, k, p, q) refl

pub set-nine : (xs : List ℕ) (a b c d e f g h i : ℕ) → length xs ≡ 9
    → set (set (set (set (set (set (set (set (set xs 0 a) 1 b) 2 c) 3 d) 4 e) 5 f) 6 g) 7 h) 8 i
    ≡ a ∷ b ∷ c ∷ d ∷ e ∷ f ∷ g ∷ h ∷ i ∷ []
set-nine (x1 ∷ x2 ∷ x3 ∷ x4 ∷ x5 ∷ x6 ∷ x7 ∷ x8 ∷ x9 ∷ []) a b c d e f g h i k = refl
set-nine (x1 ∷ x2 ∷ x3 ∷ x4 ∷ x5 ∷ x6 ∷ x7 ∷ x8 ∷ x9 ∷ x10 ∷ xs) a b c d e f g h i k = absurd (omega arith)
set-nine (x1 ∷ x2 ∷ x3 ∷ x4 ∷ x5 ∷ x6 ∷ x7 ∷ x8 ∷ []) a b c d e f g h i k = absurd (omega arith)
set-nine (x1 ∷ x2 ∷ x3 ∷ x4 ∷ x5 ∷ x6 ∷ x7 ∷ []) a b c d e f g h i k = absurd (omega arith)
set-nine (x1 ∷ x2 ∷ x3 ∷ x4 ∷ x5 ∷ x6 ∷ []) a b c d e f g h i k = absurd (omega arith)
set-nine (x1 ∷ x2 ∷ x3 ∷ x4 ∷ x5 ∷ []) a b c d e f g h i k = absurd (omega arith)
set-nine (x1 ∷ x2 ∷ x3 ∷ x4 ∷ []) a b c d e f g h i k = absurd (omega arith)
set-nine (x1 ∷ x2 ∷ x3 ∷ []) a b c d e f g h i k = absurd (omega arith)
set-nine (x1 ∷ x2 ∷ []) a b c d e f g h i k = absurd (omega arith)
set-nine (x1 ∷ []) a b c d e f g h i k = absurd (omega arith)
set-nine [] a b c d e f g h i k = absurd (omega arith)

pub put_other : (a : List ℕ) (d c n : ℕ) (x : Later) → (length a ≡ 9 → ⊥) → a ≡ answer_put a d c n x
unfolding answer_put
put_other a d c n x h = rw (ne_eqb _ _ h) refl

pub put-nine : (a : List ℕ) (d c n : ℕ) (x : Later) → length a ≡ 9 → answer_put a d c n x ≡ d ∷ c ∷ n ∷ later_words x
unfolding answer_put
put-nine a d c n x h = rw (eq-eqb _ _ h) refl

-- the nine words as the code puts them
pub nine-put : (a : List ℕ) (d c n : ℕ) (x : Later) {e f g h i j : ℕ} → length a ≡ 9 → later_words x ≡ e ∷ f ∷ g ∷ h ∷ i ∷ j ∷ []
    → set (set (set (set (set (set (set (set (set a 0 d) 1 c) 2 n) 3 e) 4 f) 5 g) 6 h) 7 i) 8 j ≡ answer_put a d c n x
nine-put a d c n x l w = set-nine a _ _ _ _ _ _ _ _ _ l ∙ sym (put-nine a d c n x l ∙ ap (λ (ws : List ℕ). d ∷ c ∷ n ∷ ws) w)
