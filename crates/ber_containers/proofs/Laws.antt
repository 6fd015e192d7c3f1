-- One law for each answer of the definitions, at plain variables.
use Rattle.std.specs.Prelude.{Result, Ok, Err}
use Prim.Native.Nat.{ℕ, zero, suc, ◌+◌, ◌-◌, ◌≤◌, ◌<◌}
use mathlib.Core.Path.{◌≡◌, refl, subst}
use mathlib.Core.List.{List}
use mathlib.Core.Bool.{Bool, true, false}
use native.Mathlib.Omega.{arith}
use borrow.Author.Tests.{le-leb, lt-leb, eq-eqb, ne_eqb, leb-false}
use lib.ListN.{length, get_or}
use lib.Dec.{leb, eqb}
use mir.Val.{bool_byte}
use Rattle.base_choices.specs.Choices.{pick}
use Rattle.ber_tags.specs.declared.Head.{Head}
use Rattle.ber_tags.specs.declared.Head.TheVariants.{Tag as HeadTag}
use Rattle.ber_tags.specs.Tag.{head_at}
use Rattle.ber_tags.specs.declared.Length.{Length}
use Rattle.ber_containers.specs.declared.No.{No}
use Rattle.ber_containers.specs.declared.Open.{Open}
use Rattle.ber_containers.specs.declared.Tag.{Tag}
use Rattle.ber_containers.specs.declared.Stands.TheVariants.{Ended, Here, Refused}
use Rattle.ber_containers.specs.declared.Crossing.TheVariants.{Over, Past, Into, Refused as Stuck}
use Rattle.ber_containers.specs.Ends.{no, bit, open_of, of_head, zero_at, closing_at, standing_at, deep, enter_at, first_at, last_at, is_tag}
use Rattle.ber_containers.specs.Passing.{skipped, cross_at, through_by, Through, passed_at}
use Rattle.ber_containers.specs.Progress.{Fits, Ahead, OntoOnward}
use Rattle.ber_containers.proofs.Heads.{HeadAhead, head-ahead}

module _ (s : List ℕ) (p : ℕ) (o : Open) where
  pub closing-definite : o.definite ≡ 1 → closing_at s p o ≡ Refused (no 30 p)
  unfolding closing_at
  closing-definite d = simp (eq-eqb _ _ d)

  module _ (d : o.definite ≡ 1 → ⊥) where
    pub closing_end : p + 1 ≡ o.end → closing_at s p o ≡ Refused (no 30 p)
    unfolding closing_at
    closing_end e = simp (ne_eqb _ _ d, eq-eqb _ _ e)

    module _ (e : p + 1 ≡ o.end → ⊥) where
      pub closing-cut : length s ≤ p + 1 → closing_at s p o ≡ Refused (no 30 (length s))
      unfolding closing_at
      closing-cut h = simp (ne_eqb _ _ d, ne_eqb _ _ e, le-leb _ _ h)

      pub closing-one : p + 1 < length s → (get_or s (p + 1) 0 ≡ 0 → ⊥) → closing_at s p o ≡ Refused (no 30 p)
      unfolding closing_at
      closing-one h z = simp (ne_eqb _ _ d, ne_eqb _ _ e, lt-leb _ _ h, ne_eqb _ _ z)

      pub closing-two : p + 1 < length s → get_or s (p + 1) 0 ≡ 0 → closing_at s p o ≡ Ended (p + 2)
      unfolding closing_at
      closing-two h z = simp (ne_eqb _ _ d, ne_eqb _ _ e, lt-leb _ _ h, eq-eqb _ _ z)

  pub standing-ended : p ≡ o.end → o.definite ≡ 1 → standing_at s p o ≡ Ended p
  unfolding standing_at
  standing-ended e d = simp (eq-eqb _ _ e, eq-eqb _ _ d)

  pub standing-missing : p ≡ o.end → (o.definite ≡ 1 → ⊥) → standing_at s p o ≡ Refused (no 30 p)
  unfolding standing_at
  standing-missing e d = simp (eq-eqb _ _ e, ne_eqb _ _ d)

  pub standing-zero : (p ≡ o.end → ⊥) → zero_at s p ≡ true → standing_at s p o ≡ closing_at s p o
  unfolding standing_at
  standing-zero e z = simp (ne_eqb _ _ e, z)

  pub standing_by : (p ≡ o.end → ⊥) → zero_at s p ≡ false → {h : Head} → head_at s p o.end ≡ h → standing_at s p o ≡ of_head o.end h
  unfolding standing_at
  standing_by e z k = simp (ne_eqb _ _ e, z, k)

module _ (s : List ℕ) (p : ℕ) where
  pub zero_in : p < length s → zero_at s p ≡ eqb (get_or s p 0) 0
  unfolding zero_at
  zero_in h = simp (lt-leb _ _ h)

  pub zero-inside : zero_at s p ≡ true → p < length s
  unfolding zero_at
  zero-inside = go (leb (length s) p) refl
    where
      go : (b : Bool) → leb (length s) p ≡ b → pick b false (eqb (get_or s p 0) 0) ≡ true → p < length s
      go true e h = let z : ◌≡◌ {A = ℕ} 0 1 = cc in absurd (omega arith)
      go false e h = leb-false (length s) p e

module _ (s : List ℕ) (p bound class : ℕ) (b : Bool) (n : ℕ) (l : Length) (next : ℕ) (e : head_at s p bound ≡ HeadTag class b n l next) where
  pub head-fits : Fits bound next l
  head-fits = (subst (HeadAhead p bound (length s)) e (head-ahead s p bound)).1.1.1

  pub head-before : (x : Open) → next ≤ x.end → Ahead s p (record { class = class; constructed = bit b; number = n; start = next; inner = x })
  head-before x h =
      let w : HeadAhead p bound (length s) (HeadTag class b n l next) = subst (HeadAhead p bound (length s)) e (head-ahead s p bound) in
      record { within = w.0; later = w.1.0; small = w.1.1.0; opens = h }

-- a tag that was read, as the code puts it together
pub ahead-here : (s : List ℕ) (p bound : ℕ) {class n next : ℕ} {b : Bool} {l : Length} {class' bit' : ℕ} {x : Open}
    → head_at s p bound ≡ HeadTag class b n l next → class' ≡ class → bit b ≡ bit' → next ≤ x.end
    → Ahead s p (record { class = class'; constructed = bit'; number = n; start = next; inner = x })
ahead-here s p bound {class = class} {n = n} {next = next} {b = b} {l = l} {x = x} e ec eb h =
    rw (ec, ← eb) (head-before s p bound class b n l next e x h)

pub standing_here : (s : List ℕ) (p : ℕ) (o : Open) {class n next : ℕ} {b : Bool} {l : Length} {class' bit' : ℕ} {x : Open}
    → head_at s p o.end ≡ HeadTag class b n l next → class' ≡ class → bit b ≡ bit' → open_of o.end next l ≡ x
    → (p ≡ o.end → ⊥) → zero_at s p ≡ false
    → standing_at s p o ≡ Here (record { class = class'; constructed = bit'; number = n; start = next; inner = x })
standing_here s p o e ec eb ex d z = rw (ec, ← eb, ← ex) (standing_by s p o d z e)

module _ (s : List ℕ) (p : ℕ) (o : Open) (k : ℕ) where
  pub enter-ended : {n : ℕ} → standing_at s p o ≡ Ended n → enter_at s p o k ≡ Ended n
  unfolding enter_at
  enter-ended e = rw e

  pub enter-no : {n : No} → standing_at s p o ≡ Refused n → enter_at s p o k ≡ Refused n
  unfolding enter_at
  enter-no e = rw e

  pub enter-deep : {t : Tag} → standing_at s p o ≡ Here t → deep t.constructed k ≡ true → enter_at s p o k ≡ Refused (no 32 p)
  unfolding enter_at
  enter-deep e d = simp (e, d)

  pub enter-here : {t : Tag} → standing_at s p o ≡ Here t → deep t.constructed k ≡ false → enter_at s p o k ≡ Here t
  unfolding enter_at
  enter-here e d = simp (e, d)

  pub first_ended : {n : ℕ} → standing_at s p o ≡ Ended n → first_at s p o k ≡ Err (no 33 p)
  unfolding first_at
  first_ended e = rw e

  pub first-no : {n : No} → standing_at s p o ≡ Refused n → first_at s p o k ≡ Err n
  unfolding first_at
  first-no e = rw e

  pub first-form : {t : Tag} → standing_at s p o ≡ Here t → eqb t.inner.definite o.definite ≡ false → first_at s p o k ≡ Err (no 31 p)
  unfolding first_at
  first-form e a = simp (e, a)

  pub first-deep : {t : Tag} → standing_at s p o ≡ Here t → eqb t.inner.definite o.definite ≡ true → deep t.constructed k ≡ true
      → first_at s p o k ≡ Err (no 32 p)
  unfolding first_at
  first-deep e a d = simp (e, a, d)

  pub first-here : {t : Tag} → standing_at s p o ≡ Here t → eqb t.inner.definite o.definite ≡ true → deep t.constructed k ≡ false
      → first_at s p o k ≡ Ok t
  unfolding first_at
  first-here e a d = simp (e, a, d)

  pub last-ended : {n : ℕ} → standing_at s p o ≡ Ended n → last_at s p o k ≡ Ok n
  unfolding last_at
  last-ended e = rw e

  pub last-no : {n : No} → standing_at s p o ≡ Refused n → last_at s p o k ≡ Err n
  unfolding last_at
  last-no e = rw e

  pub last-deep : {t : Tag} → standing_at s p o ≡ Here t → deep t.constructed k ≡ true → last_at s p o k ≡ Err (no 32 p)
  unfolding last_at
  last-deep e d = simp (e, d)

  pub last-here : {t : Tag} → standing_at s p o ≡ Here t → deep t.constructed k ≡ false → last_at s p o k ≡ Err (no 33 p)
  unfolding last_at
  last-here e d = simp (e, d)

  pub cross-ended : {n : ℕ} → standing_at s p o ≡ Ended n → cross_at s p o k ≡ Over n
  unfolding cross_at
  cross-ended e = rw e

  pub cross-no : {n : No} → standing_at s p o ≡ Refused n → cross_at s p o k ≡ Stuck n
  unfolding cross_at
  cross-no e = rw e

  pub cross-deep : {t : Tag} → standing_at s p o ≡ Here t → t.constructed ≡ 1 → k ≡ 0 → cross_at s p o k ≡ Stuck (no 32 p)
  unfolding cross_at
  cross-deep e c d = simp (e, eq-eqb _ _ c, eq-eqb _ _ d)

  pub cross-into : {t : Tag} → standing_at s p o ≡ Here t → t.constructed ≡ 1 → (k ≡ 0 → ⊥) → cross_at s p o k ≡ Into t
  unfolding cross_at
  cross-into e c d = simp (e, eq-eqb _ _ c, ne_eqb _ _ d)

  pub cross-past : {t : Tag} {n : ℕ} → standing_at s p o ≡ Here t → (t.constructed ≡ 1 → ⊥) → skipped s t ≡ Ok n → cross_at s p o k ≡ Past n
  unfolding cross_at
  cross-past e c d = simp (e, ne_eqb _ _ c, d)

  pub cross-cut : {t : Tag} {n : No} → standing_at s p o ≡ Here t → (t.constructed ≡ 1 → ⊥) → skipped s t ≡ Err n → cross_at s p o k ≡ Stuck n
  unfolding cross_at
  cross-cut e c d = simp (e, ne_eqb _ _ c, d)

module _ (s : List ℕ) (t : Tag) where
  pub skip-cut : length s < t.inner.end → skipped s t ≡ Err (no 30 (length s))
  unfolding skipped
  skip-cut h = simp (lt-leb _ _ h)

  pub skip-next : t.inner.end ≤ length s → skipped s t ≡ Ok t.inner.end
  unfolding skipped
  skip-next h = simp (le-leb _ _ h)

module _ (t : Tag) (class c number : ℕ) where
  pub tag-form : t.class ≡ class → t.number ≡ number → is_tag t class c number ≡ eqb t.constructed c
  unfolding is_tag
  tag-form h k = simp (eq-eqb _ _ h, eq-eqb _ _ k)

-- what is passed over, by turns
module _ (s : List ℕ) (k : ℕ) (o : Open) (p : ℕ) where
  pub through-over : {n : ℕ} → cross_at s p o k ≡ Over n → Through s k o p (Ok n)
  unfolding through_by
  through-over e zero h = absurd (omega arith)
  through-over e (suc f) h = simp e

  pub through-stuck : {n : No} → cross_at s p o k ≡ Stuck n → Through s k o p (Err n)
  unfolding through_by
  through-stuck e zero h = absurd (omega arith)
  through-stuck e (suc f) h = simp e

  pub through-past : {n : ℕ} {x : Result ℕ No} → cross_at s p o k ≡ Past n → p < length s → p < n → Through s k o n x → Through s k o p x
  unfolding through_by
  through-past e w l r zero h = absurd (omega arith)
  through-past e w l r (suc f) h = simp e (r f (omega arith))

  module _ {t : Tag} (e : cross_at s p o k ≡ Into t) (a : Ahead s p t) where
    pub through-into : {n : ℕ} {x : Result ℕ No} → Through s (k - 1) t.inner t.start (Ok n) → t.start ≤ n → Through s k o n x → Through s k o p x
    unfolding through_by
    through-into i l r zero h = absurd (omega arith)
    through-into i l r (suc f) h = simp (e, i f (omega arith)) (r f (omega arith))

    pub through-in-stuck : {n : No} → Through s (k - 1) t.inner t.start (Err n) → Through s k o p (Err n)
    unfolding through_by
    through-in-stuck i zero h = absurd (omega arith)
    through-in-stuck i (suc f) h = simp (e, i f (omega arith))

module _ (s : List ℕ) (t : Tag) (k : ℕ) where
  pub passed-in : {x : Result ℕ No} → t.constructed ≡ 1 → Through s k t.inner t.start x → passed_at s t k ≡ x
  unfolding passed_at
  passed-in c i = simp (eq-eqb _ _ c) (i (suc (length s)) (omega arith))

  pub passed-skip : (t.constructed ≡ 1 → ⊥) → passed_at s t k ≡ skipped s t
  unfolding passed_at
  passed-skip c = simp (ne_eqb _ _ c)

pub onto-later : (p q : ℕ) (r : Result ℕ No) → p ≤ q → OntoOnward q r → OntoOnward p r
onto-later p q (Ok n) h w = omega arith
onto-later p q (Err n) h w = tt

-- a form as the code has it
pub bit-is : (b : Bool) → bit b ≡ bool_byte b
bit-is true = refl
bit-is false = refl
