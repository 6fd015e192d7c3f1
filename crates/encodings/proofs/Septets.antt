-- Numbers in groups of seven bits: what `Fewest` and `Numbers` say of octets is what the reader takes there.
use Prim.Native.Nat.{ℕ, ◌+◌, ◌*◌, ◌/◌, ◌%◌, ◌<◌}
use mathlib.Core.Path.{◌≡◌, refl, sym, ap, subst, ◌∙◌}
use mathlib.Core.List.{List, [], ◌∷◌, ◌++◌, append-nil}
use mathlib.Core.Bool.{Bool, true, false}
use mathlib.Core.Logic.{◌↔◌}
use native.Mathlib.Omega.{arith}
use borrow.Author.Tests.{le-leb, leb-true}
use lib.ListN.{length, get_or, take}
use lib.Dec.{leb}
use Rattle.base_choices.specs.Choices.{pick}
use Rattle.ber_integers.specs.Digits.{horner, digits, count}
use Rattle.ber_integers.proofs.Radix.{Below, horner-append, digits-below}
use Rattle.ber_tags.specs.Write.{marked, septets}
use Rattle.ber_tags.proofs.Septets.{septets-value}
use Rattle.ber_tags.proofs.Written.{not-80}
use Rattle.ber_identifiers.specs.Identifier.{numbers, arcs, oid_octets, in_range}
use Rattle.ber_identifiers.proofs.RoundTrip.{septets-unique, arcs-read, read-written}
use Rattle.trees_read_back.proofs.Bools.{never}
use Rattle.encodings.specs.Values.{Groups, last, further, Fewest, groups}
use Rattle.encodings.specs.Says.{Numbers, none, number}

-- digits and a last one
grouped : (ds : List ℕ) (d : ℕ) → Below 128 ds → d < 128 → Groups (marked ds ++ (d ∷ [])) (ds ++ (d ∷ []))
grouped [] d b h = last h
grouped (x ∷ ds) d b h = further b.0 (grouped ds d b.1 h)

horner-last : (ds : List ℕ) (d : ℕ) → horner 128 0 (ds ++ (d ∷ [])) ≡ horner 128 0 ds * 128 + d
unfolding horner
horner-last ds d = horner-append 128 0 ds (d ∷ [])

pub fewest-of : (ds : List ℕ) (d : ℕ) → Below 128 ds → d < 128 → (get_or (marked ds ++ (d ∷ [])) 0 0 ≡ 128 → ⊥)
    → Fewest (marked ds ++ (d ∷ [])) (horner 128 0 ds * 128 + d)
fewest-of ds d b h n = subst (Fewest (marked ds ++ (d ∷ []))) (horner-last ds d) (groups (grouped ds d b h) n)

record Split (bs ds : List ℕ) : Type 0 where
  front : List ℕ
  final : ℕ
  octets : bs ≡ marked front ++ (final ∷ [])
  parts : ds ≡ front ++ (final ∷ [])
  below : Below 128 front
  ends : final < 128

split : {bs ds : List ℕ} → Groups bs ds → Split bs ds
split (last {d = d} h) = record { front = []; final = d; octets = refl; parts = refl; below = tt; ends = h }
split (further {d = d} h g) =
    let r = split g in
    record {
      front = d ∷ r.front;
      final = r.final;
      octets = ap (λ (l : List ℕ). (128 + d) ∷ l) r.octets;
      parts = ap (λ (l : List ℕ). d ∷ l) r.parts;
      below = (h, r.below);
      ends = r.ends;
    }

-- such octets are the number's own
pub fewest-septets : {bs : List ℕ} {n : ℕ} → Fewest bs n → septets n ≡ bs
fewest-septets (groups g h) =
    let r = split g in
    ap septets (ap (horner 128 0) r.parts ∙ horner-last r.front r.final)
    ∙ septets-unique r.front r.final r.below r.ends (λ e. h (ap (λ (l : List ℕ). get_or l 0 0) r.octets ∙ e)) ∙ sym r.octets

pub septets-fewest : (n : ℕ) → Fewest (septets n) n
unfolding septets
septets-fewest n =
    subst (Fewest (septets n)) (septets-value n)
    (fewest-of (digits 128 (count 128 (n / 128)) (n / 128)) (n % 128) (digits-below 128 (omega arith) (count 128 (n / 128)) (n / 128)) (omega arith)
    (not-80 (septets n) 0 n [] (sym (append-nil (septets n)))))

-- relative identifiers
numbers-octets : {bs ns : List ℕ} → Numbers bs ns → (oid_octets ns ≡ bs) × (in_range ns ≡ true)
unfolding oid_octets
numbers-octets none = (refl, refl)
numbers-octets (number {bs = bs} {cs = cs} {ns = ns} {n = n} f h m) =
    let r = numbers-octets m in
    (ap (λ (l : List ℕ). l ++ oid_octets ns) (fewest-septets f) ∙ ap (λ (l : List ℕ). bs ++ l) r.0, simp (le-leb _ _ h) r.1)

octets-numbers : (ns : List ℕ) → in_range ns ≡ true → Numbers (oid_octets ns) ns
unfolding oid_octets
octets-numbers [] e = none
octets-numbers (n ∷ ns) e = go (leb n 2147483647) refl e (λ h. octets-numbers ns h)
  where
    go : (b : Bool) → leb n 2147483647 ≡ b → pick b (in_range ns) false ≡ true → (in_range ns ≡ true → Numbers (oid_octets ns) ns)
        → Numbers (septets n ++ oid_octets ns) (n ∷ ns)
    go true q h more = number (septets-fewest n) (leb-true n 2147483647 q) (more h)
    go false q h more = never h

take_all : (bs : List ℕ) → take (length bs) bs ≡ bs
take_all [] = refl
take_all (b ∷ bs) = ap (λ (l : List ℕ). b ∷ l) (take_all bs)

-- the octets of an identifier are read as its numbers, and no others are
pub arcs-exactly : (bs : List ℕ) → Below 256 bs → (ns : List ℕ) → (arcs bs 0 (length bs) ≡ numbers ns) ↔ Numbers bs ns
arcs-exactly bs b ns = (
  λ e.
      let r = read-written bs 0 (length bs) ns b (omega arith) e in
      subst (λ (l : List ℕ). Numbers l ns) (r.0 ∙ take_all bs) (octets-numbers ns r.1),
  λ m.
      let p = numbers-octets m in
      let l : length (oid_octets ns) ≡ length bs = ap length p.0 in
      let z : 0 + length bs ≡ 0 + length (oid_octets ns) = omega arith in
      arcs-read ns p.1 bs 0 (0 + length bs) (length bs) [] (sym p.0 ∙ sym (append-nil (oid_octets ns))) z (omega arith) (omega arith),
)
