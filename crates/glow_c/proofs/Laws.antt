-- Laws of the C interface, at plain variables.
use Rattle.std.specs.Prelude.{Option, Some, None}
use Prim.Native.Nat.{ℕ}
use mathlib.Core.Path.{◌≡◌, refl, ap, ◌∙◌}
use mathlib.Core.List.{List, [], ◌∷◌}
use native.Mathlib.Omega.{arith}
use borrow.Author.Tests.{eq-eqb, ne_eqb}
use lib.ListN.{length, set}
use Rattle.glow_rows.specs.Entry.{Rows}
use Rattle.glow_reader.specs.declared.Answer.{Answer}
use Rattle.glow_reader.specs.declared.Answer.TheVariants.{Refused, Room, Read}
use Rattle.glow_reader.specs.Message.{reply_by, read_result, read_at}
use Rattle.ber_integers.specs.Digits.{wrote, outcome}
use Rattle.glow_trees.specs.Rows.{items_in}
use Rattle.glow_member_sizes.specs.Spelling.{least_real}
use Rattle.glow_sizes.specs.Accepted.{fits}
use Rattle.glow_writer.specs.Writes.{writes}
use Rattle.glow_c.specs.Calls.{call, words_of, called, calls, writing, length_word, wrote_as, write_calls, accept_calls}
use mathlib.Core.Bool.{Bool, true, false}

pub set-three : (xs : List ℕ) (a b c : ℕ) → length xs ≡ 3 → set (set (set xs 0 a) 1 b) 2 c ≡ a ∷ b ∷ c ∷ []
set-three [] a b c h = absurd (omega arith)
set-three (x ∷ []) a b c h = absurd (omega arith)
set-three (x ∷ y ∷ []) a b c h = absurd (omega arith)
set-three (x ∷ y ∷ z ∷ []) a b c h = refl
set-three (x ∷ y ∷ z ∷ w ∷ ws) a b c h = absurd (omega arith)

-- the number and the words of each answer
abbrev Told : Answer → ℕ → List ℕ → List ℕ → Type 0
Told a number words answer = (number ≡ (reply_by a).number) × (words ≡ words_of a answer)

module _ (answer : List ℕ) {a : Answer} {words : List ℕ} {x y z : ℕ} where
  pub tell-refused : {number place : ℕ} → a ≡ Refused number place → words ≡ x ∷ y ∷ z ∷ [] → x ≡ place → y ≡ 0 → z ≡ 0 → Told a number words answer
  tell-refused e w p q r = rw (e, w, p, q, r) (refl, refl)

  pub tell-room : {count : ℕ} → a ≡ Room count → words ≡ x ∷ y ∷ z ∷ [] → x ≡ 0 → y ≡ count → z ≡ 0 → Told a 38 words answer
  tell-room e w p q r = rw (e, w, p, q, r) (refl, refl)

  pub tell-read : {root count : ℕ} → a ≡ Read root count → words ≡ x ∷ y ∷ z ∷ [] → x ≡ 0 → y ≡ count → z ≡ root → Told a 0 words answer
  tell-read e w p q r = rw (e, w, p, q, r) (refl, refl)

module _ (s : List ℕ) (rows : Rows) (answer : List ℕ) where
  pub call-other : (length answer ≡ 3 → ⊥) → calls s rows answer ≡ call 1 rows answer
  unfolding calls
  call-other h = simp (ne_eqb _ _ h)

  pub call-read : {a : Answer} {rows' : Rows} {answer' : List ℕ} {r : ℕ} → length answer ≡ 3 → read_at s rows ≡ read_result a rows'
      → r ≡ (reply_by a).number → answer' ≡ words_of a answer → calls s rows answer ≡ call r rows' answer'
  unfolding calls
  call-read {a} {rows'} {answer'} {r} h e n w = simp (eq-eqb _ _ h) (ap (λ x. called x answer) e ∙ rw (n, w))

-- ---- writing
pub set-one : (xs : List ℕ) (a : ℕ) → length xs ≡ 1 → set xs 0 a ≡ a ∷ []
set-one [] a h = absurd (omega arith)
set-one (x ∷ []) a h = refl
set-one (x ∷ y ∷ ys) a h = absurd (omega arith)

abbrev WroteTold : Option ℕ → ℕ → List ℕ → Type 0
WroteTold w number words = (number ≡ wrote w) × (words ≡ length_word w)

module _ (answer : List ℕ) (one : length answer ≡ 1) {w : Option ℕ} where
  pub told-next : {n x : ℕ} → w ≡ Some n → x ≡ n → WroteTold w 0 (set answer 0 x)
  told-next {n} {x} e p = rw e (refl, set-one answer x one ∙ ap (λ (y : ℕ). y ∷ []) p)

  pub told-out : w ≡ None → WroteTold w 46 (set answer 0 0)
  told-out e = rw e (refl, set-one answer 0 one)

module _ (rows : Rows) (n root : ℕ) (s out answer : List ℕ) where
  pub write-other : (length answer ≡ 1 → ⊥) → write_calls rows n root s out answer ≡ writing 1 out answer
  unfolding write_calls
  write-other h = simp (ne_eqb _ _ h)

  pub write-called : {w : Option ℕ} {out' answer' : List ℕ} {r : ℕ} → length answer ≡ 1 → writes root (length rows) n (items_in s rows n) out ≡ outcome w out'
      → r ≡ wrote w → answer' ≡ length_word w → write_calls rows n root s out answer ≡ writing r out' answer'
  unfolding write_calls
  write-called {w} {out'} h e i j = simp (eq-eqb _ _ h) (ap wrote_as e ∙ rw (i, j) refl)

module _ (rows : Rows) (n root : ℕ) (s : List ℕ) where
  pub accept-yes : {b : Bool} → fits least_real root (length rows) n (items_in s rows n) ≡ b → b ≡ true → accept_calls rows n root s ≡ 1
  unfolding accept_calls
  accept-yes e h = rw (e ∙ h) refl

  pub accept-no : {b : Bool} → fits least_real root (length rows) n (items_in s rows n) ≡ b → b ≡ false → accept_calls rows n root s ≡ 0
  unfolding accept_calls
  accept-no e h = rw (e ∙ h) refl
