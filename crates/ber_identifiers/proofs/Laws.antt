-- One law for each answer of the definitions, at plain variables.
use Rattle.std.specs.Prelude.{Some}
use Prim.Native.Nat.{ℕ, zero, suc, min, max, ◌+◌, ◌-◌, ◌*◌, ◌%◌, ◌≤◌, ◌<◌}
use mathlib.Core.Path.{◌≡◌, refl, sym, ap, ◌∙◌}
use mathlib.Core.List.{List, [], ◌∷◌, ◌++◌}
use mathlib.Core.Bool.{Bool, true, false, ◌&&◌}
use mathlib.Core.Logic.{⊎_elim}
use native.Mathlib.Omega.{arith}
use lib.Dec.{leb, ltb}
use borrow.Author.Tests.{le-leb, lt-leb, lt-ltb, le-ltb, eq-eqb, ne_eqb}
use lib.ListN.{length, take, drop, get_or, length-append, drop_of_length-le}
use Rattle.ber_tags.specs.Write.{septets}
use lib.ListN.{take-append-drop}
use Rattle.ber_integers.proofs.Laws.{put_in, length_part}
use Rattle.std.proofs.lemmas.List.{get_or-take, get_or-drop}
use Rattle.ber_integers.proofs.Radix.{lt-or-le}
use lib.Seq.{drop-cons}
use Rattle.std.specs.List.{list_all}
use Rattle.std.proofs.lemmas.Bool.{ltb-true}
use Rattle.std.proofs.lemmas.List.Elements.{All-get_or}
use Rattle.std.proofs.lemmas.List.Sums.{AllPass-from_list_all}
use Rattle.base_choices.specs.Choices.{pick}
use Rattle.ber_integers.specs.Digits.{put, unchanged, outcome}
use Rattle.ber_identifiers.specs.declared.Arc.{Arc}
use Rattle.ber_identifiers.specs.declared.Arc.TheVariants.{Number, Range as Over, Refused as NoArc}
use Rattle.ber_identifiers.specs.declared.Oid.{Oid}
use Rattle.ber_identifiers.specs.declared.Oid.TheVariants.{Numbers, Range, Refused}
use Rattle.ber_identifiers.specs.Identifier.{arc_is, arc_from, arc_at, Arcs, bad, over, numbers, push, pass, arcs_from, judged, arcs, oid_at}
use Rattle.ber_identifiers.specs.Identifier.{oid_octets, in_range, put_oid, arc_says, arc_or, oid_says, oid_or}

pub arc-over : (n next : ℕ) → 2147483647 < n → Over next ≡ arc_is n next
unfolding arc_is
arc-over n next h = simp (lt-ltb _ _ h)

pub arc-is : (n next : ℕ) → n ≤ 2147483647 → Number n next ≡ arc_is n next
unfolding arc_is
arc-is n next h = simp (le-ltb _ _ h)

module _ (s : List ℕ) (p end : ℕ) where
  pub arc-past : length s < end → NoArc ≡ arc_at s p end
  unfolding arc_at
  arc-past h = simp (lt-leb _ _ h)

  pub arc-none : end ≤ length s → end ≤ p → NoArc ≡ arc_at s p end
  unfolding arc_at
  arc-none h k = simp (le-leb _ _ h, le-ltb _ _ k)

  pub arc-80 : end ≤ length s → p < end → get_or s p 0 ≡ 128 → NoArc ≡ arc_at s p end
  unfolding arc_at
  arc-80 h k e = simp (le-leb _ _ h, lt-ltb _ _ k, eq-eqb _ _ e)

  pub arc-from : end ≤ length s → p < end → (get_or s p 0 ≡ 128 → ⊥) → arc_from 0 p (take (end - p) (drop p s)) ≡ arc_at s p end
  unfolding arc_at
  arc-from h k e = simp (le-leb _ _ h, lt-ltb _ _ k, ne_eqb _ _ e)

-- one octet of a number
module _ (s : List ℕ) (end acc i : ℕ) (within : end ≤ length s) where
  one : i < end → take (end - i) (drop i s) ≡ get_or s i 0 ∷ take (end - (i + 1)) (drop (i + 1) s)
  one h =
      let e : end - i ≡ suc (end - (i + 1)) = omega arith in
      let d : i + 1 ≡ suc i = omega arith in
      let k : i < length s = omega arith in
      rw (e, d, drop-cons s i 0 k)

  pub from_last : i < end → get_or s i 0 < 128 → arc_is (acc * 128 + get_or s i 0) (i + 1) ≡ arc_from acc i (take (end - i) (drop i s))
  unfolding arc_from
  from_last h k = rw (one h) (simp (lt-ltb _ _ k))

  pub from_more : i < end → 128 ≤ get_or s i 0
      → arc_from (acc * 128 + get_or s i 0 % 128) (i + 1) (take (end - (i + 1)) (drop (i + 1) s)) ≡ arc_from acc i (take (end - i) (drop i s))
  unfolding arc_from
  from_more h k = rw (one h) (simp (le-ltb _ _ k))

  pub from_end : end ≤ i → NoArc ≡ arc_from acc i (take (end - i) (drop i s))
  unfolding arc_from
  from_end h = let e : end - i ≡ 0 = omega arith in rw e

-- a number of one octet
pub arc-short : (s : List ℕ) (end p : ℕ) → p < end → get_or s p 0 < 128 → end ≤ length s → arc_at s p end ≡ Number (get_or s p 0) (p + 1)
arc-short s end p k l h =
    let z : get_or s p 0 ≡ 128 → ⊥ = λ e. omega arith in
    let e : 0 * 128 + get_or s p 0 ≡ get_or s p 0 = omega arith in
    sym (arc-from s p end h k z) ∙ sym (from_last s end 0 p h k l) ∙ ap (λ (n : ℕ). arc_is n (p + 1)) e ∙ sym (arc-is (get_or s p 0) (p + 1) (omega arith))

-- past the range, it does not matter how far
pub from-big : (acc other p : ℕ) (bs : List ℕ) → 2147483647 < acc → 2147483647 < other → arc_from acc p bs ≡ arc_from other p bs
unfolding arc_from
from-big acc other p [] h k = refl
from-big acc other p (b ∷ bs) h k =
    let l : 2147483647 < acc * 128 + b = omega arith in
    let m : 2147483647 < other * 128 + b = omega arith in
    let e : arc_is (acc * 128 + b) (p + 1) ≡ arc_is (other * 128 + b) (p + 1) = sym (arc-over (acc * 128 + b) (p + 1) l) ∙ arc-over (other * 128 + b) (p + 1) m in
    rw (e, from-big (acc * 128 + b % 128) (other * 128 + b % 128) (p + 1) bs (omega arith) (omega arith))

pub from-min : (acc p : ℕ) (bs : List ℕ) → arc_from (min acc 2147483648) p bs ≡ arc_from acc p bs
from-min acc p bs =
    ⊎_elim (λ (h : acc < 2147483648). let e : min acc 2147483648 ≡ acc = omega arith in rw e)
    (λ (h : 2147483648 ≤ acc). from-big (min acc 2147483648) acc p bs (omega arith) (omega arith)) (lt-or-le acc 2147483648)

-- the numbers of an identifier
module _ (s : List ℕ) (end p : ℕ) where
  pub arcs-done : (f : ℕ) → end ≤ p → arcs_from s f p end ≡ numbers []
  unfolding arcs_from
  arcs-done zero h = refl
  arcs-done (suc f) h = simp (le-ltb _ _ h)

  pub arcs-number : (f n next : ℕ) → p < end → end - p ≤ f → arc_at s p end ≡ Number n next → p < next
      → (g : ℕ) × ((end - next ≤ g) × (arcs_from s f p end ≡ push n (arcs_from s g next end)))
  unfolding arcs_from
  arcs-number zero n next h k e l = absurd (omega arith)
  arcs-number (suc f) n next h k e l = (f, (omega arith, simp (lt-ltb _ _ h, e)))

  pub arcs-over : (f next : ℕ) → p < end → end - p ≤ f → arc_at s p end ≡ Over next → p < next
      → (g : ℕ) × ((end - next ≤ g) × (arcs_from s f p end ≡ pass (arcs_from s g next end)))
  unfolding arcs_from
  arcs-over zero next h k e l = absurd (omega arith)
  arcs-over (suc f) next h k e l = (f, (omega arith, simp (lt-ltb _ _ h, e)))

  pub arcs-bad : (f : ℕ) → p < end → end - p ≤ f → arc_at s p end ≡ NoArc → arcs_from s f p end ≡ bad
  unfolding arcs_from
  arcs-bad zero h k e = absurd (omega arith)
  arcs-bad (suc f) h k e = simp (lt-ltb _ _ h, e)

module _ (s : List ℕ) (at n : ℕ) where
  pub oid-out : length s < at + n → Refused ≡ oid_at s at n
  unfolding oid_at
  oid-out h = simp (lt-leb _ _ h)

  pub oid-within : at + n ≤ length s → judged (arcs s at n) ≡ oid_at s at n
  unfolding oid_at
  oid-within h = simp (le-leb _ _ h)

-- the numbers passed, and whether one was out of range, with those to come
pub tally : ℕ → Bool → Arcs → Oid
tally count b bad = Refused
tally count b over = Range
tally count b (numbers ns) = pick b Range (Numbers (count + length ns))

pub tally-start : (a : Arcs) → tally 0 false a ≡ judged a
unfolding tally
tally-start bad = refl
tally-start over = refl
tally-start (numbers ns) = let e : 0 + length ns ≡ length ns = omega arith in ap Numbers e

pub tally-push : (count n : ℕ) (b : Bool) (a : Arcs) → tally (count + 1) b a ≡ tally count b (push n a)
unfolding tally
tally-push count n b bad = refl
tally-push count n b over = refl
tally-push count n b (numbers ns) = let e : count + 1 + length ns ≡ count + suc (length ns) = omega arith in ap (λ (i : ℕ). pick b Range (Numbers i)) e

pub tally-pass : (count : ℕ) (b : Bool) (a : Arcs) → tally count true a ≡ tally count b (pass a)
unfolding tally
tally-pass count b bad = refl
tally-pass count b over = refl
tally-pass count b (numbers ns) = refl

pub tally-bad : (count : ℕ) (b : Bool) → tally count b bad ≡ Refused
unfolding tally
tally-bad count b = refl

pub tally-done : (count : ℕ) (b : Bool) → tally count b (numbers []) ≡ pick b Range (Numbers count)
unfolding tally
tally-done count b = let e : count + 0 ≡ count = omega arith in ap (λ (i : ℕ). pick b Range (Numbers i)) e

-- octets that are a number each
pub arcs-short : (s : List ℕ) (end : ℕ) → end ≤ length s → (f p : ℕ) → end - p ≤ f → ((i : ℕ) → p ≤ i → i < end → get_or s i 0 < 128)
    → (ns : List ℕ) × ((arcs_from s f p end ≡ numbers ns) × (length ns ≡ end - p))
unfolding arcs_from
arcs-short s end h zero p k short = ([], (refl, omega arith))
arcs-short s end h (suc f) p k short =
    ⊎_elim (λ (l : p < end). let r = arcs-short s end h f (p + 1) (omega arith) (λ i m q. short i (omega arith) q) in
    let e = arc-short s end p l (short p (omega arith) l) h in
    (get_or s p 0 ∷ r.0, (simp (lt-ltb _ _ l, e, r.1.0), omega (arith, r.1.1))))
    (λ (l : end ≤ p). ([], (simp (le-ltb _ _ l), omega arith))) (lt-or-le p end)

-- the largest octet so far, and one more
pub largest-short : (t : Bool) (a b m : ℕ) → t ≡ ltb a 128 → m ≡ max a b → (t && ltb b 128) ≡ ltb m 128
largest-short t a b m e h =
    ⊎_elim (λ (l : a < 128). ⊎_elim (λ (k : b < 128). simp (e, lt-ltb _ _ l, lt-ltb _ _ k, lt-ltb m 128 (omega (arith, h))))
    (λ (k : 128 ≤ b). simp (e, lt-ltb _ _ l, le-ltb _ _ k, le-ltb m 128 (omega (arith, h)))) (lt-or-le b 128))
    (λ (l : 128 ≤ a). simp (e, le-ltb _ _ l, le-ltb m 128 (omega (arith, h)))) (lt-or-le a 128)

short-at : (bs : List ℕ) → list_all (λ (b : ℕ). ltb b 128) bs ≡ true → (i : ℕ) → i < length bs → get_or bs i 0 < 128
short-at bs e i h =
    ltb-true _ _ (All-get_or (λ (b : ℕ). ltb b 128 ≡ true) bs i 0 h (AllPass-from_list_all (λ (b : ℕ). ltb b 128) bs e))

-- .. as the k octets at a position, k being n
pub oid-short : (s : List ℕ) (at n k : ℕ) → k ≡ n → at + n ≤ length s → list_all (λ (b : ℕ). ltb b 128) (take k (drop at s)) ≡ true
    → Numbers n ≡ oid_at s at n
oid-short s at n k z h t =
    let short = short-at (take k (drop at s)) t in
    let all : (i : ℕ) → at ≤ i → i < at + n → get_or s i 0 < 128 =
    λ i l q. let e : at + (i - at) ≡ i = omega arith in
    let m : i - at < length (take k (drop at s)) = omega (arith, length_part s at k (omega arith)) in
    let g : get_or (take k (drop at s)) (i - at) 0 ≡ get_or s i 0 =
    get_or-take k (drop at s) (i - at) 0 (omega arith) ∙ get_or-drop at s (i - at) 0 ∙ rw e in
    omega (arith, g, short (i - at) m) in
    go (arcs-short s (at + n) h n at (omega arith) all)
  where
    go : (ns : List ℕ) × ((arcs_from s n at (at + n) ≡ numbers ns) × (length ns ≡ at + n - at)) → Numbers n ≡ oid_at s at n
    go (ns, (e, l)) = let m : n ≡ length ns = omega arith in ap Numbers m ∙ sym (ap judged e) ∙ oid-within s at n h

-- numbers to be written
pub range-all : (ns : List ℕ) → in_range ns ≡ list_all (λ (n : ℕ). leb n 2147483647) ns
range-all [] = refl
range-all (n ∷ ns) = rw (range-all ns) (go (leb n 2147483647) (list_all (λ (n : ℕ). leb n 2147483647) ns))
  where
    go : (b r : Bool) → pick b r false ≡ (b && r)
    go true r = refl
    go false r = refl

module _ (ns : List ℕ) (i : ℕ) where
  -- the octets of the numbers from i on
  pub octets-more : i < length ns → oid_octets (drop i ns) ≡ septets (get_or ns i 0) ++ oid_octets (drop (i + 1) ns)
  unfolding oid_octets
  octets-more h = let e : i + 1 ≡ suc i = omega arith in rw (e, drop-cons ns i 0 h)

  pub octets-done : length ns ≤ i → oid_octets (drop i ns) ≡ []
  unfolding oid_octets
  octets-done h = rw (drop_of_length-le ns h)

  pub size-more : i < length ns → length (oid_octets (drop i ns)) ≡ length (septets (get_or ns i 0)) + length (oid_octets (drop (i + 1) ns))
  size-more h = ap length (octets-more h) ∙ length-append (septets (get_or ns i 0)) (oid_octets (drop (i + 1) ns))

-- no number, and one before others
pub octets-none : oid_octets [] ≡ []
unfolding oid_octets
octets-none = refl

pub octets-cons : (n : ℕ) (ns : List ℕ) → oid_octets (n ∷ ns) ≡ septets n ++ oid_octets ns
unfolding oid_octets
octets-cons n ns = refl

pub size-cons : (n : ℕ) (ns : List ℕ) → length (oid_octets (n ∷ ns)) ≡ length (septets n) + length (oid_octets ns)
size-cons n ns = ap length (octets-cons n ns) ∙ length-append (septets n) (oid_octets ns)

pub size-suffix : (xs ys ns : List ℕ) → xs ++ ys ≡ ns → length (oid_octets ys) ≤ length (oid_octets ns)
size-suffix xs ys ns e = rw (sym e) (go xs)
  where
    go : (xs : List ℕ) → length (oid_octets ys) ≤ length (oid_octets (xs ++ ys))
    go [] = omega arith
    go (n ∷ xs) = let r = go xs in let m = size-cons n (xs ++ ys) in omega arith

module _ (out : List ℕ) (at : ℕ) (ns : List ℕ) where
  pub put-range : in_range ns ≡ false → put_oid out at ns ≡ unchanged out
  unfolding put_oid
  put-range e = rw e

  pub put-oid : in_range ns ≡ true → put_oid out at ns ≡ put out at (oid_octets ns)
  unfolding put_oid
  put-oid e = rw e

pub put-empty : (out : List ℕ) (at : ℕ) → at ≤ length out → put out at [] ≡ outcome (Some at) out
put-empty out at h =
    let e : at + 0 ≡ at = omega arith in
    let k : at + 0 ≤ length out = omega arith in
    put_in out at [] k ∙ rw (e, take-append-drop at out)

-- each case of the answers says what document 01's rows say
pub arc-row : (x : Arc) → arc_says x ≡ arc_or 30 x
arc-row (Number n next) = refl
arc-row (Over next) = refl
arc-row NoArc = refl

pub oid-row : (x : Oid) → oid_says x ≡ oid_or 30 x
oid-row (Numbers n) = refl
oid-row Range = refl
oid-row Refused = refl
