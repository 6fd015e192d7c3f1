-- With which numbers each call refuses, whatever is handed in.
use Rattle.std.specs.Prelude.{Result, Ok, Err}
use Rattle.ber_containers.specs.declared.No.{No}
use Prim.Native.Nat.{ℕ, zero, suc, ◌+◌, ◌-◌, ◌≤◌, ◌<◌}
use mathlib.Core.Path.{sym, subst}
use mathlib.Core.List.{List}
use native.Mathlib.Omega.{arith}
use types.Run.{OneOf, hit}
use lib.ListN.{length, get_or}
use lib.Dec.{leb, eqb}
use Rattle.ber_tags.specs.declared.Head.{Head}
use Rattle.ber_tags.specs.declared.Head.TheVariants.{Tag as HeadTag, Refused as NoHead}
use Rattle.ber_tags.specs.Tag.{head_at}
use Rattle.ber_containers.specs.declared.Open.{Open}
use Rattle.ber_containers.specs.declared.Tag.{Tag}
use Rattle.ber_containers.specs.declared.Stands.{Stands}
use Rattle.ber_containers.specs.declared.Stands.TheVariants.{Ended, Here, Refused}
use Rattle.ber_containers.specs.declared.Crossing.{Crossing}
use Rattle.ber_containers.specs.declared.Crossing.TheVariants.{Over, Past, Into, Refused as Stuck}
use Rattle.ber_containers.specs.Ends.{of_head, zero_at, closing_at, standing_at, deep, counted, enter_at, first_of, first_at, last_of, last_at}
use Rattle.ber_containers.specs.Passing.{skipped, past_of, cross_of, cross_at, on_crossing, onwards, through_by, passed_at}
use Rattle.ber_containers.specs.Progress.{Onward}
use Rattle.ber_containers.specs.Numbers.{stand_numbers, enter_numbers, first_numbers, last_numbers, StandsBy, FoundBy, OntoBy}
use Rattle.base_choices.proofs.Laws.{pick-by}
use Rattle.ber_containers.proofs.Quick.{standing-onward}

module _ (s : List ℕ) where
  of-head : (bound : ℕ) (x : Head) → StandsBy stand_numbers (of_head bound x)
  of-head bound (HeadTag c b n l next) = tt
  of-head bound (NoHead place) = hit stand_numbers 30 tt

  closing-numbers : (p : ℕ) (o : Open) → StandsBy stand_numbers (closing_at s p o)
  unfolding closing_at
  closing-numbers p o =
      pick-by (StandsBy stand_numbers) (eqb o.definite 1) (λ e. hit stand_numbers 30 tt)
      (λ e. pick-by (StandsBy stand_numbers) (eqb (p + 1) o.end) (λ e. hit stand_numbers 30 tt)
      (λ e. pick-by (StandsBy stand_numbers) (leb (length s) (p + 1)) (λ e. hit stand_numbers 30 tt)
      (λ e. pick-by (StandsBy stand_numbers) (eqb (get_or s (p + 1) 0) 0) (λ e. tt) (λ e. hit stand_numbers 30 tt))))

  -- `standing`: 30
  pub standing-numbers : (p : ℕ) (o : Open) → StandsBy stand_numbers (standing_at s p o)
  unfolding standing_at
  standing-numbers p o =
      pick-by (StandsBy stand_numbers) (eqb p o.end)
      (λ e. pick-by (StandsBy stand_numbers) (eqb o.definite 1) (λ e. tt) (λ e. hit stand_numbers 30 tt))
      (λ e. pick-by (StandsBy stand_numbers) (zero_at s p) (λ e. closing-numbers p o) (λ e. of-head o.end (head_at s p o.end)))

  module _ (p k : ℕ) where
    counted-by : (x : Stands) → StandsBy stand_numbers x → StandsBy enter_numbers (counted p k x)
    counted-by (Ended n) h = tt
    counted-by (Here t) h = pick-by (StandsBy enter_numbers) (deep t.constructed k) (λ e. hit enter_numbers 32 tt) (λ e. tt)
    counted-by (Refused e) h = subst (OneOf enter_numbers) (sym h) (hit enter_numbers 30 tt)

    first_by : (c : Open) (x : Stands) → StandsBy stand_numbers x → FoundBy first_numbers (first_of p c k x)
    first_by c (Ended n) h = hit first_numbers 33 tt
    first_by c (Here t) h =
        pick-by (FoundBy first_numbers) (eqb t.inner.definite c.definite)
        (λ e. pick-by (FoundBy first_numbers) (deep t.constructed k) (λ e. hit first_numbers 32 tt) (λ e. tt)) (λ e. hit first_numbers 31 tt)
    first_by c (Refused e) h = subst (OneOf first_numbers) (sym h) (hit first_numbers 30 tt)

    last-by : (x : Stands) → StandsBy stand_numbers x → OntoBy last_numbers (last_of p k x)
    last-by (Ended n) h = tt
    last-by (Here t) h = pick-by (OneOf last_numbers) (deep t.constructed k) (λ e. hit last_numbers 32 tt) (λ e. hit last_numbers 33 tt)
    last-by (Refused e) h = subst (OneOf last_numbers) (sym h) (hit last_numbers 30 tt)

    module _ (o : Open) where
      -- `entering`: 30 or 32
      pub entering-numbers : StandsBy enter_numbers (enter_at s p o k)
      unfolding enter_at
      entering-numbers = counted-by (standing_at s p o) (standing-numbers p o)

      -- `first`: 30 to 33
      pub first-numbers : FoundBy first_numbers (first_at s p o k)
      unfolding first_at
      first-numbers = first_by o (standing_at s p o) (standing-numbers p o)

      -- `last`: 30, 32 or 33
      pub last-numbers : OntoBy last_numbers (last_at s p o k)
      unfolding last_at
      last-numbers = last-by (standing_at s p o) (standing-numbers p o)

  -- ---- `passed`: 30 or 32

  skipped-numbers : (t : Tag) → OntoBy enter_numbers (skipped s t)
  unfolding skipped
  skipped-numbers t = pick-by (OntoBy enter_numbers) (leb t.inner.end (length s)) (λ e. tt) (λ e. hit enter_numbers 30 tt)

  -- one turn from p goes on, if at all, from a later place, and p stands in the message
  abbrev Crosses : ℕ → Crossing → Type 0
  Crosses p (Over n) = p ≤ n
  Crosses p (Past n) = (p < length s) × (p < n)
  Crosses p (Into t) = (p < length s) × (p < t.start)
  Crosses p (Stuck e) = OneOf enter_numbers e.0

  past_by : {p : ℕ} → p < length s → (t : Tag) → p < t.inner.end → Crosses p (past_of (skipped s t))
  unfolding skipped
  past_by {p} a t b =
      pick-by (λ (x : Result ℕ No). Crosses p (past_of x)) (leb t.inner.end (length s)) (λ z. (a, b)) (λ z. hit enter_numbers 30 tt)

  cross-by : (p k : ℕ) (x : Stands) → Onward s p x → StandsBy stand_numbers x → Crosses p (cross_of s p k x)
  cross-by p k (Ended n) a h = a
  cross-by p k (Here t) a h =
      pick-by (Crosses p) (eqb t.constructed 1)
      (λ e. pick-by (Crosses p) (eqb k 0) (λ e. hit enter_numbers 32 tt) (λ e. (a.within, a.later)))
      (λ e. past_by a.within t (omega (arith, a.later, a.opens)))
  cross-by p k (Refused e) a h = subst (OneOf enter_numbers) (sym h) (hit enter_numbers 30 tt)

  cross-numbers : (p k : ℕ) (o : Open) → Crosses p (cross_at s p o k)
  unfolding cross_at
  cross-numbers p k o = cross-by p k (standing_at s p o) (standing-onward s p o) (standing-numbers p o)

  -- an answer from p on
  abbrev From : ℕ → Result ℕ No → Type 0
  From p (Ok n) = p ≤ n
  From p (Err e) = OneOf enter_numbers e.0

  from-earlier : {p q : ℕ} → p ≤ q → (x : Result ℕ No) → From q x → From p x
  from-earlier h (Ok n) w = omega (arith, h, w)
  from-earlier h (Err e) w = w

  on-crossing : (p : ℕ) (x : Crossing) (past : ℕ → Result ℕ No) (into : Tag → Result ℕ No) → Crosses p x
      → ((n : ℕ) → p < length s → p < n → From p (past n))
      → ((t : Tag) → p < length s → p < t.start → From p (into t)) → From p (on_crossing x past into)
  on-crossing p (Over n) past into w f g = w
  on-crossing p (Past n) past into w f g = f n w.0 w.1
  on-crossing p (Into t) past into w f g = g t w.0 w.1
  on-crossing p (Stuck e) past into w f g = w

  on-wards : (p q : ℕ) (x : Result ℕ No) (go : ℕ → Result ℕ No) → From q x → ((n : ℕ) → q ≤ n → From p (go n)) → From p (onwards x go)
  on-wards p q (Ok n) go w f = f n w
  on-wards p q (Err e) go w f = w

  -- fuel that is more than what is left of the message never runs out: each turn goes on
  through-numbers : (f k : ℕ) (o : Open) (p : ℕ) → length s - p < f → From p (through_by f s k o p)
  unfolding through_by
  through-numbers zero k o p l = absurd (omega arith)
  through-numbers (suc f) k o p l =
      on-crossing p (cross_at s p o k)
      (λ n. through_by f s k o n)
      (λ t. onwards (through_by f s (k - 1) t.inner t.start) (λ n. through_by f s k o n))
      (cross-numbers p k o)
      (λ n a b. from-earlier (omega arith) (through_by f s k o n) (through-numbers f k o n (omega (arith, a, b, l))))
      (λ t a b. on-wards p t.start (through_by f s (k - 1) t.inner t.start) (λ n. through_by f s k o n)
      (through-numbers f (k - 1) t.inner t.start (omega (arith, a, b, l)))
      (λ n c. from-earlier (omega (arith, b, c)) (through_by f s k o n) (through-numbers f k o n (omega (arith, a, b, c, l)))))

  from-by : (p : ℕ) (x : Result ℕ No) → From p x → OntoBy enter_numbers x
  from-by p (Ok n) w = tt
  from-by p (Err e) w = w

  pub passed-numbers : (t : Tag) (k : ℕ) → OntoBy enter_numbers (passed_at s t k)
  unfolding passed_at
  passed-numbers t k =
      pick-by (OntoBy enter_numbers) (eqb t.constructed 1)
      (λ e. from-by t.start (through_by (suc (length s)) s k t.inner t.start)
      (through-numbers (suc (length s)) k t.inner t.start (omega arith)))
      (λ e. skipped-numbers t)
