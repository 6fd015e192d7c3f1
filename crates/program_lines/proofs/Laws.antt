-- One law for each answer on a part of a request, and for each step towards it.
use Rattle.std.proofs.Common.{◌≡◌, ℕ, ◌+◌, ◌-◌, ◌*◌, ◌<◌, ◌≤◌, min, Bool, true, false, List, [], ◌∷◌, Option, Some, None, length, get_or, drop, refl, sym, ap, ◌∙◌, arith, ◌&&◌}
use Prim.Native.Nat.{zero, suc}
use borrow.Author.Tests.{le-leb}
use Rattle.std.proofs.lemmas.Bool.{leb-true}
use lib.ListN.{drop_of_length-le}
use lib.Dec.{leb, eqb}
use Rattle.std.specs.List.{list_all}
use Rattle.base_choices.specs.Choices.{pick}
use Rattle.program_lines.specs.Words.{clear, digits_after, number_of}

drop_at : (s : List ℕ) (i : ℕ) → i < length s → drop i s ≡ get_or s i 0 ∷ drop (i + 1) s
drop_at [] i h = absurd (omega arith)
drop_at (x ∷ xs) zero h = refl
drop_at (x ∷ xs) (suc i) h =
    let k : suc (i + 1) ≡ suc i + 1 = omega arith in
    drop_at xs i (omega arith) ∙ ap (λ (n : ℕ). get_or xs i 0 ∷ drop n (x ∷ xs)) k

pub clear-all : (s : List ℕ) → clear s ≡ list_all (λ b. eqb b 0) s
unfolding clear
clear-all [] = refl
clear-all (b ∷ bs) = go (eqb b 0) (clear-all bs)
  where
    go : (u : Bool) → clear bs ≡ list_all (λ x. eqb x 0) bs → pick u (clear bs) false ≡ u && list_all (λ x. eqb x 0) bs
    go true e = e
    go false e = refl

-- one digit more of a number that was cut at the largest
digits_same : (bs : List ℕ) (m n : ℕ) → min m 18446744073709551615 ≡ min n 18446744073709551615 → digits_after m bs ≡ digits_after n bs
unfolding digits_after
digits_same [] m n e = ap Some e
digits_same (b ∷ bs) m n e =
    ap (λ (d : Option ℕ). pick (leb 48 b) (pick (leb b 57) d None) None) (digits_same bs (m * 10 + (b - 48)) (n * 10 + (b - 48)) (omega arith))

pub number-none : number_of [] ≡ None
unfolding number_of
number-none = refl

pub number-start : (s : List ℕ) → 0 < length s → digits_after 0 (drop 0 s) ≡ number_of s
unfolding number_of
number-start [] h = absurd (omega arith)
number-start (b ∷ bs) h = refl

module _ (s : List ℕ) (n i : ℕ) (e : digits_after n (drop i s) ≡ number_of s) where
  pub number-end : n < 18446744073709551616 → length s ≤ i → number_of s ≡ Some n
  unfolding digits_after
  number-end l h = let k : min n 18446744073709551615 ≡ n = omega arith in sym e ∙ ap (digits_after n) (drop_of_length-le s h) ∙ ap Some k

  module _ (h : i < length s) where
    digit : number_of s ≡ pick (leb 48 (get_or s i 0)) (pick (leb (get_or s i 0) 57) (digits_after (n * 10 + (get_or s i 0 - 48)) (drop (i + 1) s)) None) None
    unfolding digits_after
    digit = sym e ∙ ap (digits_after n) (drop_at s i h)

    pub number-no : (48 ≤ get_or s i 0 → get_or s i 0 ≤ 57 → ⊥) → number_of s ≡ None
    number-no none = digit ∙ go (leb 48 (get_or s i 0)) (leb (get_or s i 0) 57) refl refl
      where
        go : (u v : Bool) → leb 48 (get_or s i 0) ≡ u → leb (get_or s i 0) 57 ≡ v
            → pick u (pick v (digits_after (n * 10 + (get_or s i 0 - 48)) (drop (i + 1) s)) None) None ≡ None
        go true true a b = absurd (none (leb-true _ _ a) (leb-true _ _ b))
        go true false a b = refl
        go false v a b = refl

    pub number_more : 48 ≤ get_or s i 0 → get_or s i 0 ≤ 57 → (m : ℕ) → m ≡ min (n * 10 + (get_or s i 0 - 48)) 18446744073709551615
        → digits_after m (drop (i + 1) s) ≡ number_of s
    number_more l g m c =
        digits_same (drop (i + 1) s) m (n * 10 + (get_or s i 0 - 48)) (omega arith) ∙ sym (digit ∙ rw (le-leb _ _ l, le-leb _ _ g))
