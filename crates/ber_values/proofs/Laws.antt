-- One law for each answer of the definitions, at plain variables.
use Rattle.std.specs.Prelude.{Option, Some, None}
use Prim.Native.Nat.{ℕ, ◌+◌, ◌-◌, ◌≤◌, ◌<◌}
use mathlib.Core.Path.{◌≡◌, refl, sym, ap, ◌∙◌}
use mathlib.Core.List.{List, [], ◌∷◌}
use mathlib.Core.Bool.{Bool, true, false, not}
use mathlib.Core.Logic.{◌⊎◌, ⊎_elim}
use native.Mathlib.Omega.{arith}
use borrow.Author.Tests.{le-leb, lt-leb, eq-eqb, ne_eqb}
use lib.ListN.{length, take, drop, get_or}
use lib.Dec.{leb, eqb}
use Rattle.ber_integers.proofs.Radix.{lt-or-le}
use Rattle.ber_integers.specs.Integer.{integer_at}
use Rattle.ber_integers.proofs.Laws.{part-cons, part-first, length_part}
use Rattle.ber_reals.specs.Real.{real_at}
use Rattle.ber_tags.specs.declared.Length.{Length}
use Rattle.ber_tags.specs.declared.Head.{Head}
use Rattle.ber_tags.specs.declared.Head.TheVariants.{Tag}
use Rattle.ber_tags.specs.Tag.{head_at}
use Rattle.ber_values.specs.declared.Value.TheVariants.{Text, Octets}
use Rattle.ber_values.specs.declared.Answer.{Answer}
use Rattle.ber_values.specs.declared.Answer.TheVariants.{Found, Other, Refused}
use Rattle.ber_reals.specs.Write.{unwritten, octets}
use Rattle.ber_values.specs.Write.{part}
use Rattle.ber_values.specs.Value.{boolean, bool_at, on_flag, on_number, on_real, is_listed, kind_at, content_at, on_length, on_head, value_at, flag_says}
use Rattle.ber_values.specs.Value.{flag_or, answer_says, answer_or}

pub bool-length : (bs : List ℕ) → (length bs ≡ 1 → ⊥) → None ≡ boolean bs
unfolding boolean
bool-length [] h = refl
bool-length (b ∷ []) h = absurd (h refl)
bool-length (b ∷ (c ∷ bs)) h = refl

module _ (s : List ℕ) (at n : ℕ) where
  pub bool-out : length s < at + n → None ≡ bool_at s at n
  unfolding bool_at
  bool-out h = simp (lt-leb _ _ h)

  pub bool_is : at + n ≤ length s → n ≡ 1 → Some (not (eqb (get_or s at 0) 0)) ≡ bool_at s at n
  unfolding bool_at boolean
  bool_is h e =
      let t : take n (drop at s) ≡ get_or s at 0 ∷ [] = part-cons s at n (omega arith) h ∙ let z : n - 1 ≡ 0 = omega arith in rw z in
      simp (le-leb _ _ h, t)

  pub bool_held : (held : List ℕ) → at + n ≤ length s → held ≡ take n (drop at s) → n ≡ 1 → Some (not (eqb (get_or held 0 0) 0)) ≡ bool_at s at n
  bool_held held h o e =
      let f : get_or held 0 0 ≡ get_or s at 0 = ap (λ (l : List ℕ). get_or l 0 0) o ∙ part-first s at n (omega arith) h in
      ap (λ (b : ℕ). Some (not (eqb b 0))) f ∙ bool_is h e

  pub bool-not : at + n ≤ length s → (n ≡ 1 → ⊥) → None ≡ bool_at s at n
  unfolding bool_at
  bool-not h k = bool-length (take n (drop at s)) (λ e. k (sym (length_part s at n h) ∙ e)) ∙ simp (le-leb _ _ h)

-- a value whose octets are not all there, and one that is whole
module _ (s : List ℕ) (at kind start len : ℕ) where
  pub content-bool : kind ≡ 1 → leb (start + len) (length s) ≡ true → on_flag at (start + len) (bool_at s start len) ≡ content_at s at kind start len
  unfolding content_at is_listed kind_at
  content-bool e h = rw (e, h)

  pub content-int : kind ≡ 2 → leb (start + len) (length s) ≡ true → on_number at (start + len) (integer_at s start len) ≡ content_at s at kind start len
  unfolding content_at is_listed kind_at
  content-int e h = rw (e, h)

  pub content-octets : kind ≡ 4 → leb (start + len) (length s) ≡ true → Found (Octets start len) (start + len) ≡ content_at s at kind start len
  unfolding content_at is_listed kind_at
  content-octets e h = rw (e, h)

  pub content-real : kind ≡ 9 → leb (start + len) (length s) ≡ true → on_real at (start + len) (real_at s start len) ≡ content_at s at kind start len
  unfolding content_at is_listed kind_at
  content-real e h = rw (e, h)

  pub content-text : kind ≡ 12 → leb (start + len) (length s) ≡ true → Found (Text start len) (start + len) ≡ content_at s at kind start len
  unfolding content_at is_listed kind_at
  content-text e h = rw (e, h)

  -- a kind that is listed
  abbrev pub Listed : Type 0
  Listed = (kind ≡ 1) ⊎ ((kind ≡ 2) ⊎ ((kind ≡ 4) ⊎ ((kind ≡ 9) ⊎ (kind ≡ 12))))

  pub content-missing : Listed → leb (start + len) (length s) ≡ false → Refused 30 (length s) ≡ content_at s at kind start len
  unfolding content_at is_listed kind_at
  content-missing l h =
      ⊎_elim (λ (e : kind ≡ 1). rw (e, h))
      (⊎_elim (λ (e : kind ≡ 2). rw (e, h)) (⊎_elim (λ (e : kind ≡ 4). rw (e, h)) (⊎_elim (λ (e : kind ≡ 9). rw (e, h)) (λ (e : kind ≡ 12). rw (e, h))))) l

  -- as the code finds it
  pub content-unlisted : is_listed kind ≡ false → Other ≡ content_at s at kind start len
  unfolding content_at
  content-unlisted e = rw e

  pub content-cut : is_listed kind ≡ true → leb (start + len) (length s) ≡ false → Refused 30 (length s) ≡ content_at s at kind start len
  unfolding content_at
  content-cut e h = rw (e, h)

  pub content-kind : is_listed kind ≡ true → leb (start + len) (length s) ≡ true → kind_at s at kind start len ≡ content_at s at kind start len
  unfolding content_at
  content-kind e h = rw (e, h)

  pub kind-bool : kind ≡ 1 → on_flag at (start + len) (bool_at s start len) ≡ kind_at s at kind start len
  unfolding kind_at
  kind-bool e = rw e

  pub kind-int : kind ≡ 2 → on_number at (start + len) (integer_at s start len) ≡ kind_at s at kind start len
  unfolding kind_at
  kind-int e = rw e

  pub kind-octets : kind ≡ 4 → Found (Octets start len) (start + len) ≡ kind_at s at kind start len
  unfolding kind_at
  kind-octets e = rw e

  pub kind-real : kind ≡ 9 → on_real at (start + len) (real_at s start len) ≡ kind_at s at kind start len
  unfolding kind_at
  kind-real e = rw e

  pub kind-text : (kind ≡ 1 → ⊥) → (kind ≡ 2 → ⊥) → (kind ≡ 4 → ⊥) → (kind ≡ 9 → ⊥) → Found (Text start len) (start + len) ≡ kind_at s at kind start len
  unfolding kind_at
  kind-text h1 h2 h4 h9 = simp (ne_eqb _ _ h1, ne_eqb _ _ h2, ne_eqb _ _ h4, ne_eqb _ _ h9)

  pub content-other : (kind ≡ 1 → ⊥) → (kind ≡ 2 → ⊥) → (kind ≡ 4 → ⊥) → (kind ≡ 9 → ⊥) → (kind ≡ 12 → ⊥) → Other ≡ content_at s at kind start len
  unfolding content_at is_listed kind_at
  content-other h1 h2 h4 h9 h12 = simp (ne_eqb _ _ h1, ne_eqb _ _ h2, ne_eqb _ _ h4, ne_eqb _ _ h9, ne_eqb _ _ h12)

module _ (s : List ℕ) (at bound : ℕ) where
  pub value-by : {h : Head} → head_at s at bound ≡ h → on_head s at h ≡ value_at s at bound
  unfolding value_at
  value-by e = rw e

  module _ {class number next : ℕ} {c : Bool} {l : Length} (e : head_at s at bound ≡ Tag class c number l next) where
    pub value-class : (class ≡ 0 → ⊥) → Other ≡ value_at s at bound
    value-class h = simp (ne_eqb _ _ h) at (value-by e)

    pub value-constructed : class ≡ 0 → c ≡ true → Other ≡ value_at s at bound
    value-constructed h k = simp (eq-eqb _ _ h, k) at (value-by e)

    pub value-primitive : class ≡ 0 → c ≡ false → on_length s at number next l ≡ value_at s at bound
    value-primitive h k = simp (eq-eqb _ _ h, k) at (value-by e)

-- what is written of a text
module _ (src : List ℕ) (start len : ℕ) where
  pub text-long : 4294967295 < len → part src start len ≡ unwritten
  unfolding part
  text-long h = simp (lt-leb _ _ h)

  pub text_out : len ≤ 4294967295 → length src < start + len → part src start len ≡ unwritten
  unfolding part
  text_out h k = simp (le-leb _ _ h, lt-leb _ _ k)

  pub text_in : len ≤ 4294967295 → start + len ≤ length src → part src start len ≡ octets (take len (drop start src))
  unfolding part
  text_in h k = simp (le-leb _ _ h, le-leb _ _ k)

pub listed-1 : (kind : ℕ) → kind ≡ 1 → true ≡ is_listed kind
unfolding is_listed
listed-1 kind e = rw e

pub listed-2 : (kind : ℕ) → kind ≡ 2 → true ≡ is_listed kind
unfolding is_listed
listed-2 kind e = rw e

pub listed-small : (kind : ℕ) → 1 ≤ kind → kind ≤ 2 → true ≡ is_listed kind
listed-small kind h k = ⊎_elim (λ (l : kind < 2). listed-1 kind (omega arith)) (λ (l : 2 ≤ kind). listed-2 kind (omega arith)) (lt-or-le kind 2)

pub listed-4 : (kind : ℕ) → kind ≡ 4 → true ≡ is_listed kind
unfolding is_listed
listed-4 kind e = rw e

pub listed-9 : (kind : ℕ) → kind ≡ 9 → true ≡ is_listed kind
unfolding is_listed
listed-9 kind e = rw e

pub listed-12 : (kind : ℕ) → kind ≡ 12 → true ≡ is_listed kind
unfolding is_listed
listed-12 kind e = rw e

pub listed-none : (kind : ℕ) → (kind ≡ 1 → ⊥) → (kind ≡ 2 → ⊥) → (kind ≡ 4 → ⊥) → (kind ≡ 9 → ⊥) → (kind ≡ 12 → ⊥) → false ≡ is_listed kind
unfolding is_listed
listed-none kind h1 h2 h4 h9 h12 = simp (ne_eqb _ _ h1, ne_eqb _ _ h2, ne_eqb _ _ h4, ne_eqb _ _ h9, ne_eqb _ _ h12)

-- each case of the answers says what document 01's rows say
pub flag-row : (x : Option Bool) → flag_says x ≡ flag_or 30 x
flag-row (Some b) = refl
flag-row None = refl

pub answer-row : (x : Answer) → answer_says x ≡ answer_or 33 x
answer-row (Found value next) = refl
answer-row Other = refl
answer-row (Refused number place) = refl
