-- Where a container begins and where it ends, and that it is no shorter than the shortest tag around what it holds.
use Rattle.std.specs.Prelude.{Result, Ok, Err}
use Rattle.ber_containers.specs.declared.No.{No}
use Prim.Native.Nat.{ℕ, zero, suc, ◌+◌, ◌-◌, ◌<◌, ◌≤◌}
use mathlib.Core.Path.{◌≡◌, refl}
use mathlib.Core.List.{List}
use mathlib.Core.Bool.{Bool, true, false}
use mathlib.Core.Logic.{◌⊎◌, inl, inr}
use native.Mathlib.Omega.{arith}
use borrow.Author.Tests.{eqb-true, eqb-false, leb-true, leb-false}
use lib.ListN.{length, get_or}
use lib.Dec.{leb, ltb, eqb}
use Rattle.base_choices.specs.Choices.{pick}
use Rattle.base_choices.proofs.Laws.{pick-by}
use Rattle.ber_integers.proofs.Radix.{Below}
use Rattle.ber_tags.specs.declared.Length.TheVariants.{Definite, Indefinite}
use Rattle.ber_tags.specs.declared.Head.{Head}
use Rattle.ber_tags.specs.declared.Head.TheVariants.{Tag as HeadTag, Refused as NoHead}
use Rattle.ber_tags.specs.Tag.{head_at}
use Rattle.ber_tags.specs.Write.{tag_octets}
use Rattle.ber_tags.proofs.Shortest.{accepted, accepted-open}
use Rattle.ber_containers.specs.declared.Open.{Open}
use Rattle.ber_containers.specs.declared.Tag.{Tag}
use Rattle.ber_containers.specs.declared.Stands.{Stands}
use Rattle.ber_containers.specs.declared.Stands.TheVariants.{Ended, Here, Refused}
use Rattle.ber_containers.specs.declared.Crossing.{Crossing}
use Rattle.ber_containers.specs.declared.Crossing.TheVariants.{Over as Ends, Past, Into, Refused as Stuck}
use Rattle.ber_containers.specs.Ends.{bit, of_head, zero_at, closing_at, standing_at, deep, counted, enter_at, first_of, first_at, last_of, last_at}
use Rattle.ber_containers.specs.Passing.{skipped, past_of, cross_of, cross_at, on_crossing, onwards, through_by, passed_at}
use Rattle.trees_accepted.proofs.Bools.{never}
use Rattle.trees_accepted.proofs.Sizes.{length_size, length_more, length-few, around}

-- a container that was read to q ends there, n the place after its end
abbrev pub Closes : Open → ℕ → ℕ → Type 0
Closes o q n = ((o.definite ≡ 1) × ((q ≡ o.end) × (n ≡ q))) ⊎ ((o.definite ≡ 1 → ⊥) × (n ≡ q + 2))

-- the tag t stands at p
abbrev pub Tells : ℕ → Tag → Type 0
Tells p t =
    ((t.inner.definite ≡ 1) × ((len : ℕ) × ((p + 1 + length_size len ≤ t.start) × (t.inner.end ≡ t.start + len))))
    ⊎ ((t.inner.definite ≡ 0) × ((p + 2 ≤ t.start) × (t.constructed ≡ 1)))

pub record Begins (s : List ℕ) (p : ℕ) (t : Tag) : Type 0 where
  pub within : t.start ≤ length s
  pub later : p < t.start
  pub tells : Tells p t

pub closes-later : (o : Open) (q n : ℕ) → Closes o q n → q ≤ n
closes-later o q n (inl h) = let e = h.1.1 in omega arith
closes-later o q n (inr h) = let e = h.1 in omega arith

-- m octets inside a tag
pub tag-holds : (p : ℕ) (t : Tag) (q n m : ℕ) → Tells p t → Closes t.inner q n → t.start + m ≤ q → q ≤ 16384 → p + around m ≤ n
unfolding around
tag-holds p t q n m (inl a) (inl b) h k =
    let len = a.1.0 in
    let u = a.1.1.0 in
    let v = a.1.1.1 in
    let w = b.1.0 in
    let x = b.1.1 in
    let l : m ≤ len = omega arith in
    let y = length_more m len l in
    omega arith
tag-holds p t q n m (inl a) (inr b) h k = absurd (b.0 a.0)
tag-holds p t q n m (inr a) (inl b) h k = let u = a.0 in let v = b.0 in absurd (omega arith)
tag-holds p t q n m (inr a) (inr b) h k = let u = a.1.0 in let v = b.1 in let y = length-few m (omega arith) in omega arith

module _ (s : List ℕ) (octets : Below 256 s) where
  abbrev pub StandsTell : ℕ → Open → Stands → Type 0
  StandsTell p o (Ended n) = Closes o p n × (n ≤ length s)
  StandsTell p o (Here t) = Begins s p t
  StandsTell p o (Refused e) = Unit {0}

  some-tag : (class : ℕ) (c : Bool) (n : ℕ) → 1 ≤ length (tag_octets class c n)
  unfolding tag_octets
  some-tag class c n = pick-by (λ (l : List ℕ). 1 ≤ length l) (ltb n 31) (λ e. omega arith) (λ e. omega arith)

  one : (b : Bool) → b ≡ true → bit b ≡ 1
  one true e = refl
  one false e = never e

  head-tells : (p : ℕ) (o : Open) (x : Head) → head_at s p o.end ≡ x → StandsTell p o (of_head o.end x)
  head-tells p o (HeadTag class c n (Definite len) next) e =
      let a = accepted s p o.end class c n len next octets e in
      let t = some-tag class c n in
      let h = a.shortest in
      record { within = a.within; later = omega arith; tells = inl (refl, (len, (omega arith, refl))) }
  head-tells p o (HeadTag class c n Indefinite next) e =
      let a = accepted-open s p o.end class c n next octets e in
      let t = some-tag class c n in
      let h = a.shortest in
      record { within = a.within; later = omega arith; tells = inr (refl, (omega arith, one c a.container)) }
  head-tells p o (NoHead place) e = tt

  module _ (p : ℕ) (h : p ≤ length s) where
    closing-tells : (o : Open) → StandsTell p o (closing_at s p o)
    unfolding closing_at
    closing-tells o =
        pick-by (StandsTell p o) (eqb o.definite 1) (λ e. tt)
        (λ d. pick-by (StandsTell p o) (eqb (p + 1) o.end) (λ e. tt)
        (λ e. pick-by (StandsTell p o) (leb (length s) (p + 1)) (λ e. tt)
        (λ e. let k : p + 2 ≤ length s = omega (arith, leb-false (length s) (p + 1) e) in
        pick-by (StandsTell p o) (eqb (get_or s (p + 1) 0) 0) (λ e. (inr (eqb-false o.definite 1 d, refl), k)) (λ e. tt))))

    standing-tells : (o : Open) → StandsTell p o (standing_at s p o)
    unfolding standing_at
    standing-tells o =
        pick-by (StandsTell p o) (eqb p o.end)
        (λ e. pick-by (StandsTell p o) (eqb o.definite 1) (λ d. (inl (eqb-true o.definite 1 d, (eqb-true p o.end e, refl)), h)) (λ d. tt))
        (λ e. pick-by (StandsTell p o) (zero_at s p) (λ z. closing-tells o) (λ z. head-tells p o (head_at s p o.end) refl))

    -- with k containers still allowed
    abbrev pub Allowed : ℕ → Tag → Type 0
    Allowed k t = t.constructed ≡ 1 → 0 < k

    abbrev pub EnterTell : Open → ℕ → Stands → Type 0
    EnterTell o k (Ended n) = Closes o p n × (n ≤ length s)
    EnterTell o k (Here t) = Begins s p t × Allowed k t
    EnterTell o k (Refused e) = Unit {0}

    abbrev pub FirstTell : Open → ℕ → Result Tag No → Type 0
    FirstTell o k (Ok t) = Begins s p t × Allowed k t
    FirstTell o k (Err e) = Unit {0}

    abbrev pub LastTell : Open → Result ℕ No → Type 0
    LastTell o (Ok n) = Closes o p n × (n ≤ length s)
    LastTell o (Err e) = Unit {0}

    shallow : (k : ℕ) (t : Tag) → deep t.constructed k ≡ false → Allowed k t
    unfolding deep
    shallow k t e c = go (eqb t.constructed 1) refl e
      where
        go : (b : Bool) → eqb t.constructed 1 ≡ b → pick b (eqb k 0) false ≡ false → 0 < k
        go true q f = let z = eqb-false k 0 f in some k z
          where
            some : (k : ℕ) → (k ≡ 0 → ⊥) → 0 < k
            some zero z = absurd (z refl)
            some (suc k) z = omega arith
        go false q f = absurd (eqb-false t.constructed 1 q c)

    counted-tells : (o : Open) (k : ℕ) (x : Stands) → StandsTell p o x → EnterTell o k (counted p k x)
    counted-tells o k (Ended n) w = w
    counted-tells o k (Here t) w = pick-by (EnterTell o k) (deep t.constructed k) (λ e. tt) (λ e. (w, shallow k t e))
    counted-tells o k (Refused e) w = tt

    first-of : (o : Open) (k : ℕ) (x : Stands) → StandsTell p o x → FirstTell o k (first_of p o k x)
    first-of o k (Ended n) w = tt
    first-of o k (Here t) w =
        pick-by (FirstTell o k) (eqb t.inner.definite o.definite)
        (λ e. pick-by (FirstTell o k) (deep t.constructed k) (λ d. tt) (λ d. (w, shallow k t d))) (λ e. tt)
    first-of o k (Refused e) w = tt

    last-of : (o : Open) (k : ℕ) (x : Stands) → StandsTell p o x → LastTell o (last_of p k x)
    last-of o k (Ended n) w = w
    last-of o k (Here t) w = tt
    last-of o k (Refused e) w = tt

    pub enter-tells : (o : Open) (k : ℕ) → EnterTell o k (enter_at s p o k)
    unfolding enter_at
    enter-tells o k = counted-tells o k (standing_at s p o) (standing-tells o)

    pub first-tells : (o : Open) (k : ℕ) → FirstTell o k (first_at s p o k)
    unfolding first_at
    first-tells o k = first-of o k (standing_at s p o) (standing-tells o)

    pub last-tells : (o : Open) (k : ℕ) → LastTell o (last_at s p o k)
    unfolding last_at
    last-tells o k = last-of o k (standing_at s p o) (standing-tells o)

  -- what is passed over ends later, and in the message
  abbrev pub OnTell : ℕ → Result ℕ No → Type 0
  OnTell p (Ok n) = (p ≤ n) × (n ≤ length s)
  OnTell p (Err e) = Unit {0}

  abbrev CrossTell : ℕ → Crossing → Type 0
  CrossTell p (Ends n) = (p ≤ n) × (n ≤ length s)
  CrossTell p (Past n) = (p ≤ n) × (n ≤ length s)
  CrossTell p (Into t) = (p ≤ t.start) × (t.start ≤ length s)
  CrossTell p (Stuck e) = Unit {0}

  ends-later : (p : ℕ) (t : Tag) → Begins s p t → (t.constructed ≡ 1 → ⊥) → t.start ≤ t.inner.end
  ends-later p t b c = go b.tells
    where
      go : Tells p t → t.start ≤ t.inner.end
      go (inl a) = let u = a.1.1.1 in omega arith
      go (inr a) = absurd (c a.1.1)

  skipped-tells : (p : ℕ) (t : Tag) → Begins s p t → (t.constructed ≡ 1 → ⊥) → OnTell p (skipped s t)
  unfolding skipped
  skipped-tells p t b c =
      pick-by (OnTell p) (leb t.inner.end (length s))
      (λ e. let u = ends-later p t b c in let v = b.later in (omega arith, leb-true t.inner.end (length s) e)) (λ e. tt)

  past-of : (p : ℕ) (x : Result ℕ No) → OnTell p x → CrossTell p (past_of x)
  past-of p (Ok n) w = w
  past-of p (Err e) w = tt

  cross-of : (p : ℕ) (o : Open) (k : ℕ) (x : Stands) → StandsTell p o x → CrossTell p (cross_of s p k x)
  cross-of p o k (Ended n) w = (closes-later o p n w.0, w.1)
  cross-of p o k (Here t) w =
      pick-by (CrossTell p) (eqb t.constructed 1)
      (λ e. pick-by (CrossTell p) (eqb k 0) (λ d. tt) (λ d. let v = w.later in (omega arith, w.within)))
      (λ e. past-of p (skipped s t) (skipped-tells p t w (eqb-false t.constructed 1 e)))
  cross-of p o k (Refused e) w = tt

  cross-tells : (p : ℕ) → p ≤ length s → (o : Open) (k : ℕ) → CrossTell p (cross_at s p o k)
  unfolding cross_at
  cross-tells p h o k = cross-of p o k (standing_at s p o) (standing-tells p h o)

  on-crossing : (p : ℕ) (x : Crossing) (past : ℕ → Result ℕ No) (into : Tag → Result ℕ No) → CrossTell p x
      → ((n : ℕ) → p ≤ n → n ≤ length s → OnTell p (past n))
      → ((t : Tag) → p ≤ t.start → t.start ≤ length s → OnTell p (into t)) → OnTell p (on_crossing x past into)
  on-crossing p (Ends n) past into w f g = w
  on-crossing p (Past n) past into w f g = f n w.0 w.1
  on-crossing p (Into t) past into w f g = g t w.0 w.1
  on-crossing p (Stuck e) past into w f g = tt

  on-wards : (p : ℕ) (x : Result ℕ No) (go : ℕ → Result ℕ No) → OnTell p x → ((n : ℕ) → p ≤ n → n ≤ length s → OnTell n (go n)) → OnTell p (onwards x go)
  on-wards p (Ok n) go w f = later p n (go n) w.0 (f n w.0 w.1)
    where
      later : (p n : ℕ) (x : Result ℕ No) → p ≤ n → OnTell n x → OnTell p x
      later p n (Ok m) h w = (omega (arith, w.0), w.1)
      later p n (Err e) h w = tt
  on-wards p (Err e) go w f = tt

  on-later : (p n : ℕ) (x : Result ℕ No) → p ≤ n → OnTell n x → OnTell p x
  on-later p n (Ok m) h w = (omega (arith, w.0), w.1)
  on-later p n (Err e) h w = tt

  through-tells : (f k : ℕ) (o : Open) (p : ℕ) → p ≤ length s → OnTell p (through_by f s k o p)
  unfolding through_by
  through-tells zero k o p h = tt
  through-tells (suc f) k o p h =
      on-crossing p (cross_at s p o k)
      (λ n. through_by f s k o n)
      (λ t. onwards (through_by f s (k - 1) t.inner t.start) (λ n. through_by f s k o n))
      (cross-tells p h o k)
      (λ n l w. on-later p n (through_by f s k o n) l (through-tells f k o n w))
      (λ t l w. on-later p t.start (onwards (through_by f s (k - 1) t.inner t.start) (λ n. through_by f s k o n)) l
      (on-wards t.start (through_by f s (k - 1) t.inner t.start) (λ n. through_by f s k o n)
      (through-tells f (k - 1) t.inner t.start w) (λ n l v. through-tells f k o n v)))

  pub passed-tells : (p : ℕ) (t : Tag) (k : ℕ) → Begins s p t → OnTell p (passed_at s t k)
  unfolding passed_at
  passed-tells p t k b =
      let v = b.later in
      pick-by (OnTell p) (eqb t.constructed 1)
      (λ e. on-later p t.start (through_by (suc (length s)) s k t.inner t.start) (omega arith)
      (through-tells (suc (length s)) k t.inner t.start b.within))
      (λ e. skipped-tells p t b (eqb-false t.constructed 1 e))
