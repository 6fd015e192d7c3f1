-- Laws of the short turns: they tell what `standing_at` gives.
use Prim.Native.Nat.{ℕ, ◌+◌, ◌-◌, ◌/◌, ◌%◌, ◌≤◌, ◌<◌}
use mathlib.Core.Path.{◌≡◌, refl, sym, ap, subst, ◌∙◌}
use mathlib.Core.List.{List}
use mathlib.Core.Bool.{Bool, true, false}
use native.Mathlib.Omega.{arith}
use borrow.Author.Tests.{le-leb, lt-leb, leb-true, leb-false, lt-ltb, le-ltb, eq-eqb, ne_eqb}
use lib.ListN.{length, get_or}
use lib.Dec.{leb, eqb}
use Rattle.base_choices.proofs.Laws.{pick-by}
use Rattle.ber_tags.specs.declared.Length.TheVariants.{Definite, Indefinite}
use Rattle.ber_tags.specs.declared.Head.{Head}
use Rattle.ber_tags.specs.declared.Head.TheVariants.{Tag as HeadTag, Refused as NoHead}
use Rattle.ber_tags.specs.Tag.{stop, tag_number, sized, length_at, head_at}
use Rattle.ber_containers.specs.declared.Open.{Open}
use Rattle.ber_containers.specs.declared.Tag.{Tag}
use Rattle.ber_containers.specs.declared.Stands.TheVariants.{Ended, Here}
use Rattle.ber_containers.specs.Ends.{bit, of_head, zero_at, closing_at, standing_at}
use Rattle.ber_containers.specs.Progress.{Ahead, Onward}
use Rattle.ber_containers.specs.Short.{short_tag, Short}
use Rattle.ber_containers.proofs.Heads.{HeadAhead, head-ahead}
use Rattle.ber_containers.proofs.Laws.{standing-zero, standing_by, closing-two, zero_in}

-- whatever stands at p is ahead of it
module _ (s : List ℕ) (p : ℕ) where
  closing-onward : (o : Open) → Onward s p (closing_at s p o)
  unfolding closing_at
  closing-onward o =
      pick-by (Onward s p) (eqb o.definite 1) (λ e. tt)
      (λ e. pick-by (Onward s p) (eqb (p + 1) o.end) (λ e. tt)
      (λ e. pick-by (Onward s p) (leb (length s) (p + 1)) (λ e. tt)
      (λ e. pick-by (Onward s p) (eqb (get_or s (p + 1) 0) 0) (λ e. omega arith) (λ e. tt))))

  head-onward : (bound : ℕ) (h : Head) → HeadAhead p bound (length s) h → Onward s p (of_head bound h)
  head-onward bound (HeadTag c b n (Definite l) next) w =
      record { within = w.0; later = w.1.0; small = w.1.1.0; opens = omega arith }
  head-onward bound (HeadTag c b n Indefinite next) w = record { within = w.0; later = w.1.0; small = w.1.1.0; opens = w.1.1.1 }
  head-onward bound (NoHead place) w = tt

  pub standing-onward : (o : Open) → Onward s p (standing_at s p o)
  unfolding standing_at
  standing-onward o =
      pick-by (Onward s p) (eqb p o.end)
      (λ e. pick-by (Onward s p) (eqb o.definite 1) (λ e. omega arith) (λ e. tt))
      (λ e. pick-by (Onward s p) (zero_at s p) (λ e. closing-onward o) (λ e. head-onward o.end (head_at s p o.end) (head-ahead s p o.end)))

pub ahead_of : (s : List ℕ) (p : ℕ) (o : Open) {t : Tag} → standing_at s p o ≡ Here t → Ahead s p t
ahead_of s p o e = subst (Onward s p) e (standing-onward s p o)

pub shut-zeros : (s : List ℕ) (p : ℕ) (o : Open) → (p ≡ o.end → ⊥) → (o.definite ≡ 1 → ⊥) → p + 1 < length s → (p + 1 ≡ o.end → ⊥)
    → get_or s p 0 ≡ 0 → get_or s (p + 1) 0 ≡ 0 → standing_at s p o ≡ Ended (p + 2)
shut-zeros s p o e d h q a b =
    let z : zero_at s p ≡ true = zero_in s p (omega arith) ∙ eq-eqb _ _ a in
    standing-zero s p o e z ∙ closing-two s p o d q h b

-- an octet's form bit
pub form-bit : (b : ℕ) → bit (leb 32 (b % 64)) ≡ b % 64 / 32
form-bit b = go (leb 32 (b % 64)) refl
  where
    go : (x : Bool) → leb 32 (b % 64) ≡ x → bit x ≡ b % 64 / 32
    go true e = let h : 32 ≤ b % 64 = leb-true 32 (b % 64) e in omega arith
    go false e = let h : b % 64 < 32 = leb-false 32 (b % 64) e in omega arith

module _ (s : List ℕ) (p end : ℕ) (h : p + 1 < length s) (k : p + 1 < end) where
  stop-past : p + 1 < stop s end
  unfolding stop
  stop-past = pick-by (λ x. p + 1 < x) (leb end (length s)) (λ e. k) (λ e. h)

  module _ (f : get_or s p 0 % 32 < 31) where
    head-short : get_or s (p + 1) 0 < 128 → p + 2 + get_or s (p + 1) 0 ≤ end
        → head_at s p end ≡ HeadTag (get_or s p 0 / 64) (leb 32 (get_or s p 0 % 64)) (get_or s p 0 % 32) (Definite (get_or s (p + 1) 0)) (p + 2)
    unfolding head_at tag_number length_at sized
    head-short l m =
        let a : p < stop s end = omega (arith, stop-past) in
        let b : leb (stop s end) p ≡ false = lt-leb _ _ a in
        let c : leb (stop s end) (p + 1) ≡ false = lt-leb _ _ stop-past in
        let i : p + 1 + 1 ≡ p + 2 = omega arith in
        simp (b, lt-ltb _ _ f, c, lt-ltb _ _ l, le-ltb _ _ m, i)

    head-open : get_or s (p + 1) 0 ≡ 128 → 32 ≤ get_or s p 0 % 64
        → head_at s p end ≡ HeadTag (get_or s p 0 / 64) (leb 32 (get_or s p 0 % 64)) (get_or s p 0 % 32) Indefinite (p + 2)
    unfolding head_at tag_number length_at
    head-open l m =
        let a : p < stop s end = omega (arith, stop-past) in
        let b : leb (stop s end) p ≡ false = lt-leb _ _ a in
        let c : leb (stop s end) (p + 1) ≡ false = lt-leb _ _ stop-past in
        let d : 128 ≤ get_or s (p + 1) 0 = omega arith in
        let i : p + 1 + 1 ≡ p + 2 = omega arith in
        simp (b, lt-ltb _ _ f, c, le-ltb _ _ d, eq-eqb _ _ l, le-leb _ _ m, i)

    module _ (z : get_or s p 0 ≡ 0 → ⊥) where
      nonzero : zero_at s p ≡ false
      nonzero = zero_in s p (omega arith) ∙ ne_eqb _ _ z

      pub short-definite : {n : ℕ} → n ≡ get_or s (p + 1) 0 → n < 128 → n < end - (p + 1) → Short s p end n
      unfolding short_tag
      short-definite {n} e l m =
          let l' : get_or s (p + 1) 0 < 128 = omega arith in
          let m' : p + 2 + get_or s (p + 1) 0 ≤ end = omega arith in
          record {
            inside = h;
            octet = e;
            fits = λ i. omega arith;
            stands = λ o q.
                standing_by s p o (λ i. omega arith) nonzero (ap (λ x. head_at s p x) q ∙ head-short l' m')
                ∙ rw (e, form-bit (get_or s p 0), lt-ltb (get_or s (p + 1) 0) 128 l');
          }

      pub short-open : get_or s (p + 1) 0 ≡ 128 → 32 ≤ get_or s p 0 % 64 → Short s p end 128
      unfolding short_tag
      short-open e m =
          record {
            inside = h;
            octet = sym e;
            fits = λ i. absurd (omega arith);
            stands = λ o q. standing_by s p o (λ i. omega arith) nonzero (ap (λ x. head_at s p x) q ∙ head-open e m) ∙ rw (q, form-bit (get_or s p 0));
          }

-- such a tag, as the code puts it together
module _ (b start n end : ℕ) {x y z : ℕ} (ex : x ≡ b / 64) (ey : y ≡ b % 64 / 32) (ez : z ≡ b % 32) where
  pub tag-definite : n < 128
      → short_tag b start n end ≡ record { class = x; constructed = y; number = z; start = start; inner = record { definite = 1; end = start + n } }
  unfolding short_tag
  tag-definite h = rw (ex, ey, ez, lt-ltb _ _ h)

  pub tag_open : 128 ≤ n
      → short_tag b start n end ≡ record { class = x; constructed = y; number = z; start = start; inner = record { definite = 0; end = end } }
  unfolding short_tag
  tag_open h = rw (ex, ey, ez, le-ltb _ _ h)

-- the tag that was told at once
pub short-here : (s : List ℕ) (p : ℕ) (o : Open) {n : ℕ} {t : Tag} → Short s p o.end n → short_tag (get_or s p 0) (p + 2) n o.end ≡ t
    → standing_at s p o ≡ Here t
short-here s p o h e = h.stands o refl ∙ ap Here e
