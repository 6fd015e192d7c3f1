-- A value that is kept: the count of the path's numbers is at most 16 or as it was (`leaf-bounded`); a text, octets or a relative identifier lie in the
-- message (`kept-part`); a path has 1 to 16 numbers, each at least 1 (`kept-path`).
use Rattle.std.specs.Prelude.{Float, Option, Some, None}
use Prim.Native.Nat.{ℕ, ◌+◌, ◌≤◌, ◌<◌}
use mathlib.Core.Path.{◌≡◌, refl, sym, subst, ◌∙◌}
use mathlib.Core.List.{List}
use mathlib.Core.Bool.{Bool, true, false}
use mathlib.Core.Logic.{◌⊎◌, inl, inr}
use native.Mathlib.Omega.{arith}
use borrow.Author.Tests.{leb-true, ltb-true}
use lib.ListN.{length, take, drop}
use lib.Dec.{leb, ltb, eqb}
use lib.IntN.{ℤ}
use lib.Ieee as Ieee
use Rattle.base_choices.specs.Choices.{pick}
use Rattle.base_choices.proofs.Laws.{pick-by, both_left, both_right}
use Rattle.ber_integers.specs.Integer.{integer_at}
use Rattle.ber_reals.specs.Real.{real_at}
use Rattle.ber_values.specs.declared.Value.{Value}
use Rattle.ber_values.specs.declared.Value.TheVariants.{Absent, Int, Real, Text, Bool as Truth, Octets}
use Rattle.ber_values.specs.declared.Answer.{Answer}
use Rattle.ber_values.specs.declared.Answer.TheVariants.{Found, Other, Refused}
use Rattle.ber_values.specs.Value.{bool_at, on_flag, on_number, on_real, is_listed, kind_at, content_at}
use Rattle.ber_identifiers.specs.Identifier.{Arcs, bad, over, numbers, arcs}
use Rattle.glow_rows.specs.declared.Cell.{Cell}
use Rattle.glow_rows.specs.Cell.{cell_of, numbers_cell}
use Rattle.glow_grammar.specs.declared.Leaf.{Leaf}
use Rattle.glow_grammar.specs.declared.Leaf.TheVariants.{Kept, Refused as Not}
use Rattle.glow_grammar.specs.Grammar.{any, step, path, name}
use Rattle.glow_grammar.specs.Leaf.{expects, in_range, is_name, all_positive, is_path, LeafBounded}
use Rattle.glow_grammar.specs.Leaf.{number_leaf, text_leaf, value_leaf, judged, path_leaf, list_leaf, numbers_at, leaf_at}

pub path-some : (ns : List ℕ) → is_path ns ≡ true → 0 < length ns
unfolding is_path
path-some ns e = ltb-true _ _ (both_left _ _ e)

pub path-most : (ns : List ℕ) → is_path ns ≡ true → length ns ≤ 16
unfolding is_path
path-most ns e = leb-true _ _ (both_left _ _ (both_right (ltb 0 (length ns)) _ e))

pub path-positive : (ns : List ℕ) → is_path ns ≡ true → all_positive ns ≡ true
unfolding is_path
path-positive ns e = both_right (leb (length ns) 16) _ (both_right (ltb 0 (length ns)) _ e)

-- the count
module _ (above : ℕ) where
  number-bounded : (at what : ℕ) (z : ℤ) → LeafBounded above (number_leaf at what above z)
  unfolding number_leaf
  number-bounded at what z =
      pick-by (LeafBounded above) (eqb what any) (λ e. inr refl)
      (λ e. pick-by (LeafBounded above) (in_range what z)
      (λ e. pick-by (LeafBounded above) (eqb what step)
      (λ e. pick-by (LeafBounded above) (leb (above + 1) 16) (λ e. inl (leb-true _ _ e)) (λ e. tt))
      (λ e. inr refl))
      (λ e. tt))

  text-bounded : (s : List ℕ) (at what start len : ℕ) → LeafBounded above (text_leaf s at what above start len)
  unfolding text_leaf
  text-bounded s at what start len =
      pick-by (LeafBounded above) (eqb what name)
      (λ e. pick-by (LeafBounded above) (is_name (take len (drop start s))) (λ e. inr refl) (λ e. tt))
      (λ e. inr refl)

  value-bounded : (s : List ℕ) (at what : ℕ) (v : Value) → LeafBounded above (value_leaf s at what above v)
  value-bounded s at what Absent = tt
  value-bounded s at what (Int z) = number-bounded at what z
  value-bounded s at what (Real x) = inr refl
  value-bounded s at what (Text start len) = text-bounded s at what start len
  value-bounded s at what (Truth b) = inr refl
  value-bounded s at what (Octets start len) = inr refl

  judged-bounded : (s : List ℕ) (at what : ℕ) (a : Answer) → LeafBounded above (judged s at what above a)
  judged-bounded s at what (Found v next) = value-bounded s at what v
  judged-bounded s at what Other = tt
  judged-bounded s at what (Refused number place) = tt

  path-bounded : (at start len : ℕ) (a : Arcs) → LeafBounded above (path_leaf at start len a)
  path-bounded at start len bad = tt
  path-bounded at start len over = tt
  path-bounded at start len (numbers ns) = pick-by (LeafBounded above) (is_path ns) (λ e. inl (path-most ns e)) (λ e. tt)

  list-bounded : (at start len : ℕ) (a : Arcs) → LeafBounded above (list_leaf at start len above a)
  list-bounded at start len bad = tt
  list-bounded at start len over = tt
  list-bounded at start len (numbers ns) = inr refl

  numbers-bounded : (s : List ℕ) (at start len what : ℕ) → LeafBounded above (numbers_at s at start len what above)
  unfolding numbers_at
  numbers-bounded s at start len what =
      pick-by (LeafBounded above) (leb (start + len) (length s))
      (λ e. pick-by (LeafBounded above) (eqb what path)
      (λ e. path-bounded at start len (arcs s start len))
      (λ e. list-bounded at start len (arcs s start len)))
      (λ e. tt)

  pub leaf-bounded : (s : List ℕ) (at number start len what : ℕ) → LeafBounded above (leaf_at s at number start len what above)
  unfolding leaf_at
  leaf-bounded s at number start len what =
      pick-by (LeafBounded above) (expects what number)
      (λ e. pick-by (LeafBounded above) (eqb number 13)
      (λ e. numbers-bounded s at start len what)
      (λ e. judged-bounded s at what (content_at s at number start len)))
      (λ e. tt)

-- below a path of at most 16, a path of at most 16
pub bounded-16 : {above n : ℕ} → (n ≤ 16) ⊎ (n ≡ above) → above ≤ 16 → n ≤ 16
bounded-16 (inl h) k = h
bounded-16 (inr e) k = omega arith

-- A cell that is a part of the message: its kind is 4, 12 or 13.
abbrev pub is_part : ℕ → Bool
is_part kind = pick (eqb kind 4) true (pick (eqb kind 12) true (eqb kind 13))

pub record Part (s : List ℕ) (start len : ℕ) (v : Cell) : Type 0 where
  pub first : v.first ≡ start
  pub second : v.second ≡ len
  pub within : start + len ≤ length s

never : {A : Type 0} → false ≡ true → A
never e = let z : ◌≡◌ {A = ℕ} 0 1 = cc in absurd (omega arith)

module _ (s : List ℕ) (start len : ℕ) where
  abbrev Lies : Cell → Type 0
  Lies v = is_part v.kind ≡ true → Part s start len v

  abbrev LeafLies : Leaf → Type 0
  LeafLies (Kept v n) = Lies v
  LeafLies (Not number place) = Unit {0}

  abbrev ValueLies : Value → Type 0
  ValueLies (Text a b) = (a ≡ start) × ((b ≡ len) × (start + len ≤ length s))
  ValueLies (Octets a b) = (a ≡ start) × ((b ≡ len) × (start + len ≤ length s))
  ValueLies Absent = Unit {0}
  ValueLies (Int z) = Unit {0}
  ValueLies (Real x) = Unit {0}
  ValueLies (Truth b) = Unit {0}

  abbrev AnswerLies : Answer → Type 0
  AnswerLies (Found v next) = ValueLies v
  AnswerLies Other = Unit {0}
  AnswerLies (Refused number place) = Unit {0}

  flag-lies : (at next : ℕ) (f : Option Bool) → AnswerLies (on_flag at next f)
  flag-lies at next (Some b) = tt
  flag-lies at next None = tt

  integer-lies : (at next : ℕ) (n : Option ℤ) → AnswerLies (on_number at next n)
  integer-lies at next (Some z) = tt
  integer-lies at next None = tt

  double-lies : (at next : ℕ) (x : Option Float) → AnswerLies (on_real at next x)
  double-lies at next (Some x) = tt
  double-lies at next None = tt

  content-lies : (at kind : ℕ) → AnswerLies (content_at s at kind start len)
  unfolding content_at kind_at
  content-lies at kind =
      pick-by AnswerLies (is_listed kind)
      (λ e. pick-by AnswerLies (leb (start + len) (length s))
      (λ h. pick-by AnswerLies (eqb kind 1) (λ e. flag-lies at (start + len) (bool_at s start len))
      (λ e. pick-by AnswerLies (eqb kind 2) (λ e. integer-lies at (start + len) (integer_at s start len))
      (λ e. pick-by AnswerLies (eqb kind 4) (λ e. (refl, (refl, leb-true _ _ h)))
      (λ e. pick-by AnswerLies (eqb kind 9) (λ e. double-lies at (start + len) (real_at s start len)) (λ e. (refl, (refl, leb-true _ _ h)))))))
      (λ e. tt))
      (λ e. tt)

  number-lies : (at what above : ℕ) (z : ℤ) → LeafLies (number_leaf at what above z)
  unfolding number_leaf
  number-lies at what above z =
      pick-by LeafLies (eqb what any) (λ e. never)
      (λ e. pick-by LeafLies (in_range what z)
      (λ e. pick-by LeafLies (eqb what step)
      (λ e. pick-by LeafLies (leb (above + 1) 16) (λ e. never) (λ e. tt))
      (λ e. never))
      (λ e. tt))

  text-lies : (at what above a b : ℕ) → ValueLies (Text a b) → LeafLies (text_leaf s at what above a b)
  unfolding text_leaf
  text-lies at what above a b h =
      let lies : Lies (cell_of (Text a b)) = λ e. record { first = h.0; second = h.1.0; within = h.1.1 } in
      pick-by LeafLies (eqb what name)
      (λ e. pick-by LeafLies (is_name (take b (drop a s))) (λ e. lies) (λ e. tt))
      (λ e. lies)

  value-lies : (at what above : ℕ) (v : Value) → ValueLies v → LeafLies (value_leaf s at what above v)
  value-lies at what above Absent h = tt
  value-lies at what above (Int z) h = number-lies at what above z
  value-lies at what above (Real x) h = pick-by Lies (Ieee.is_nan x) (λ e. never) (λ e. never)
  value-lies at what above (Text a b) h = text-lies at what above a b h
  value-lies at what above (Truth b) h = never
  value-lies at what above (Octets a b) h = λ e. record { first = h.0; second = h.1.0; within = h.1.1 }

  judged-lies : (at what above : ℕ) (a : Answer) → AnswerLies a → LeafLies (judged s at what above a)
  judged-lies at what above (Found v next) h = value-lies at what above v h
  judged-lies at what above Other h = tt
  judged-lies at what above (Refused number place) h = tt

  numbers-cell-lies : start + len ≤ length s → Lies (numbers_cell start len)
  numbers-cell-lies h e = record { first = refl; second = refl; within = h }

  path-lies : (at : ℕ) (a : Arcs) → start + len ≤ length s → LeafLies (path_leaf at start len a)
  path-lies at bad h = tt
  path-lies at over h = tt
  path-lies at (numbers ns) h = pick-by LeafLies (is_path ns) (λ e. numbers-cell-lies h) (λ e. tt)

  list-lies : (at above : ℕ) (a : Arcs) → start + len ≤ length s → LeafLies (list_leaf at start len above a)
  list-lies at above bad h = tt
  list-lies at above over h = tt
  list-lies at above (numbers ns) h = numbers-cell-lies h

  numbers-lies : (at what above : ℕ) → LeafLies (numbers_at s at start len what above)
  unfolding numbers_at
  numbers-lies at what above =
      pick-by LeafLies (leb (start + len) (length s))
      (λ h. pick-by LeafLies (eqb what path)
      (λ e. path-lies at (arcs s start len) (leb-true _ _ h))
      (λ e. list-lies at above (arcs s start len) (leb-true _ _ h)))
      (λ e. tt)

  leaf-lies : (at number what above : ℕ) → LeafLies (leaf_at s at number start len what above)
  unfolding leaf_at
  leaf-lies at number what above =
      pick-by LeafLies (expects what number)
      (λ e. pick-by LeafLies (eqb number 13)
      (λ e. numbers-lies at what above)
      (λ e. judged-lies at what above (content_at s at number start len) (content-lies at number)))
      (λ e. tt)

  -- a kept part is the value's octets, and lies in the message
  pub kept-part : (at number what above : ℕ) {v : Cell} {n : ℕ} → leaf_at s at number start len what above ≡ Kept v n → is_part v.kind ≡ true
      → Part s start len v
  kept-part at number what above e = subst LeafLies e (leaf-lies at number what above)

  -- A path that is kept: its numbers, 1 to 16 of them, each at least 1.
  pub record Path (v : Cell) (n : ℕ) : Type 0 where
    pub ns : List ℕ
    pub read : arcs s start len ≡ numbers ns
    pub count : n ≡ length ns
    pub some : 0 < n
    pub most : n ≤ 16
    pub positive : all_positive ns ≡ true
    pub cell : v ≡ numbers_cell start len

  abbrev LeafPath : Leaf → Type 0
  LeafPath (Kept v n) = Path v n
  LeafPath (Not number place) = Unit {0}

  path-of : (at : ℕ) (a : Arcs) → arcs s start len ≡ a → LeafPath (path_leaf at start len a)
  path-of at bad q = tt
  path-of at over q = tt
  path-of at (numbers ns) q =
      pick-by LeafPath (is_path ns)
      (λ e. record { ns = ns; read = q; count = refl; some = path-some ns e; most = path-most ns e; positive = path-positive ns e; cell = refl })
      (λ e. tt)

  path-at : (at above : ℕ) → LeafPath (numbers_at s at start len path above)
  unfolding numbers_at
  path-at at above = pick-by LeafPath (leb (start + len) (length s)) (λ h. path-of at (arcs s start len) refl) (λ e. tt)

  leaf-path : (at number above : ℕ) → LeafPath (leaf_at s at number start len path above)
  unfolding leaf_at expects
  leaf-path at number above =
      pick-by LeafPath (eqb number 13)
      (λ e. pick-by LeafPath (eqb number 13) (λ e. path-at at above) (λ k. never (sym k ∙ e)))
      (λ e. tt)

  pub kept-path : (at number above : ℕ) {v : Cell} {n : ℕ} → leaf_at s at number start len path above ≡ Kept v n → Path v n
  kept-path at number above e = subst LeafPath e (leaf-path at number above)
