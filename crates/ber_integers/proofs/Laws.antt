-- One law for each answer of the definitions, at plain variables.
use Rattle.std.specs.Prelude.{ℤ, Option, Some, None}
use Prim.Native.Nat.{ℕ, zero, suc, ◌+◌, ◌-◌, ◌*◌, ◌/◌, ◌%◌, ◌^◌, ◌≤◌, ◌<◌}
use mathlib.Core.Path.{◌≡◌, refl, sym, ap, ◌∙◌}
use mathlib.Core.List.{List, [], ◌∷◌, ◌++◌}
use mathlib.Core.Bool.{Bool, true, false}
use native.Mathlib.Omega.{arith}
use native.Mathlib.Nat.{div-lt_self}
use borrow.Author.Tests.{le-leb, lt-leb, lt-ltb, le-ltb, eq-eqb, ne_eqb}
use lib.ListN.{length, take, drop, get_or}
use Rattle.std.proofs.lemmas.List.{drop_all}
use lib.Seq.{drop-cons, take-suc, set_at, set_split, length-take-le}
use mathlib.Core.List.{append_assoc, append-nil}
use lib.ListN.{set, take-append-drop}
use Rattle.base_choices.specs.Choices.{pick}
use Rattle.ber_integers.specs.Digits.{natural, digits, count_by, horner, put, unchanged, outcome}
use lib.Dec.{leb}
use lib.ListN.{length-take, length-drop}
use lib.IntN.{pos, negsuc}
use Rattle.ber_integers.specs.Integer.{unsigned_at, signed, twos, signed_at, nine, nine_free, integer, integer_at, size_by}

module _ (s : List ℕ) (at n : ℕ) where
  pub unsigned-long : 8 < n → None ≡ unsigned_at s at n
  unfolding unsigned_at
  unsigned-long h = simp (lt-leb _ _ h)

  pub unsigned-out : length s < at + n → None ≡ unsigned_at s at n
  unfolding unsigned_at
  unsigned-out h = go (leb n 8)
    where
      go : (b : Bool) → None ≡ pick b (pick (leb (at + n) (length s)) (Some (natural (take n (drop at s)))) None) None
      go true = simp (lt-leb _ _ h)
      go false = refl

  pub unsigned_is : n ≤ 8 → at + n ≤ length s → Some (natural (take n (drop at s))) ≡ unsigned_at s at n
  unfolding unsigned_at
  unsigned_is h k = simp (le-leb _ _ h, le-leb _ _ k)

-- one digit more of those that are read from the front
module _ (base acc : ℕ) (s : List ℕ) where
  pub horner-step : (i : ℕ) → i < length s → horner base acc (drop i s) ≡ horner base (acc * base + get_or s i 0) (drop (i + 1) s)
  unfolding horner
  horner-step i h = let e : i + 1 ≡ suc i = omega arith in rw (e, drop-cons s i 0 h)

  pub horner-done : (i : ℕ) → length s ≤ i → horner base acc (drop i s) ≡ acc
  unfolding horner
  horner-done i h = rw (drop_all i s h)

-- octets of a message, as a list
pub length_part : (s : List ℕ) (at n : ℕ) → at + n ≤ length s → length (take n (drop at s)) ≡ n
length_part s at n h = simp (length-take, length-drop) (omega arith)

-- at least one octet: the first, and the others
pub part-cons : (s : List ℕ) (at n : ℕ) → 0 < n → at + n ≤ length s
    → take n (drop at s) ≡ get_or s at 0 ∷ take (n - 1) (drop (at + 1) s)
part-cons s at n h k =
    let e : n ≡ suc (n - 1) = omega arith in
    let d : at + 1 ≡ suc at = omega arith in
    let l : at < length s = omega arith in
    ap (λ (m : ℕ). take m (drop at s)) e ∙ rw (d, drop-cons s at 0 l)

pub part-first : (s : List ℕ) (at n : ℕ) → 0 < n → at + n ≤ length s → get_or (take n (drop at s)) 0 0 ≡ get_or s at 0
part-first s at n h k = ap (λ (l : List ℕ). get_or l 0 0) (part-cons s at n h k)

pub signed_low : {l bs : List ℕ} {b : ℕ} → l ≡ b ∷ bs → b < 128 → signed l ≡ pos (natural l)
unfolding signed
signed_low e h = rw e (simp (lt-ltb _ _ h))

pub signed_high : {l bs : List ℕ} {b : ℕ} → l ≡ b ∷ bs → 128 ≤ b → signed l ≡ negsuc (256 ^ length l - suc (natural l))
unfolding signed
signed_high e h = rw e (simp (le-ltb _ _ h))

module _ (bs : List ℕ) where
  pub twos-none : length bs ≡ 0 → None ≡ twos bs
  unfolding twos
  twos-none h = simp (eq-eqb _ _ h)

  pub twos-long : 8 < length bs → None ≡ twos bs
  unfolding twos
  twos-long h = let z : length bs ≡ 0 → ⊥ = λ e. omega arith in simp (ne_eqb _ _ z, lt-leb _ _ h)

  pub twos-is : 0 < length bs → length bs ≤ 8 → Some (signed bs) ≡ twos bs
  unfolding twos
  twos-is h k = let z : length bs ≡ 0 → ⊥ = λ e. omega arith in simp (ne_eqb _ _ z, le-leb _ _ k)

module _ (s : List ℕ) (at n : ℕ) where
  pub signed-out : length s < at + n → None ≡ signed_at s at n
  unfolding signed_at
  signed-out h = simp (lt-leb _ _ h)

  pub signed-within : at + n ≤ length s → twos (take n (drop at s)) ≡ signed_at s at n
  unfolding signed_at
  signed-within h = simp (le-leb _ _ h)

  pub signed-none : at + n ≤ length s → n ≡ 0 → None ≡ signed_at s at n
  signed-none h e = twos-none _ (length_part s at n h ∙ e) ∙ signed-within h

  pub signed-long : at + n ≤ length s → 8 < n → None ≡ signed_at s at n
  signed-long h k = twos-long _ (rw (length_part s at n h) k) ∙ signed-within h

  pub signed_is : at + n ≤ length s → 0 < n → n ≤ 8 → Some (signed (take n (drop at s))) ≡ signed_at s at n
  signed_is h k l = twos-is _ (rw (length_part s at n h) k) (rw (length_part s at n h) l) ∙ signed-within h

-- integers: the nine-bit rule before the rest
pub free-short : (bs : List ℕ) (r : Option ℤ) → length bs < 2 → r ≡ nine_free bs r
unfolding nine_free
free-short [] r h = refl
free-short (a ∷ []) r h = refl
free-short (a ∷ (b ∷ bs)) r h = absurd (omega arith)

module _ (a b : ℕ) (bs : List ℕ) (r : Option ℤ) where
  pub free-zeros : nine a b ≡ 0 → None ≡ nine_free (a ∷ (b ∷ bs)) r
  unfolding nine_free
  free-zeros h = simp (eq-eqb _ _ h)

  pub free-ones : nine a b ≡ 511 → None ≡ nine_free (a ∷ (b ∷ bs)) r
  unfolding nine_free
  free-ones h = let z : nine a b ≡ 0 → ⊥ = λ e. omega arith in simp (ne_eqb _ _ z, eq-eqb _ _ h)

  pub free-else : (nine a b ≡ 0 → ⊥) → (nine a b ≡ 511 → ⊥) → r ≡ nine_free (a ∷ (b ∷ bs)) r
  unfolding nine_free
  free-else h k = simp (ne_eqb _ _ h, ne_eqb _ _ k)

module _ (s : List ℕ) (at n : ℕ) where
  pub integer-out : length s < at + n → None ≡ integer_at s at n
  unfolding integer_at
  integer-out h = simp (lt-leb _ _ h)

  -- the rule on the octets that the message holds
  pub integer-within : at + n ≤ length s → nine_free (take n (drop at s)) (signed_at s at n) ≡ integer_at s at n
  unfolding integer_at integer
  integer-within h = simp (le-leb _ _ h, ← signed-within s at n h)

  pub integer-short : at + n ≤ length s → n < 2 → signed_at s at n ≡ integer_at s at n
  integer-short h k = free-short (take n (drop at s)) (signed_at s at n) (rw (length_part s at n h) k) ∙ integer-within h

  two : at + n ≤ length s → 2 ≤ n → take n (drop at s) ≡ get_or s at 0 ∷ (get_or s (at + 1) 0 ∷ take (n - 1 - 1) (drop (at + 1 + 1) s))
  two h k = part-cons s at n (omega arith) h ∙ ap (λ (l : List ℕ). get_or s at 0 ∷ l) (part-cons s (at + 1) (n - 1) (omega arith) (omega arith))

  pub integer-zeros : at + n ≤ length s → 2 ≤ n → nine (get_or s at 0) (get_or s (at + 1) 0) ≡ 0 → None ≡ integer_at s at n
  integer-zeros h k e = free-zeros _ _ _ (signed_at s at n) e ∙ rw (two h k) at (integer-within h)

  pub integer-ones : at + n ≤ length s → 2 ≤ n → nine (get_or s at 0) (get_or s (at + 1) 0) ≡ 511 → None ≡ integer_at s at n
  integer-ones h k e = free-ones _ _ _ (signed_at s at n) e ∙ rw (two h k) at (integer-within h)

  pub integer-free : at + n ≤ length s → 2 ≤ n → (nine (get_or s at 0) (get_or s (at + 1) 0) ≡ 0 → ⊥) → (nine (get_or s at 0) (get_or s (at + 1) 0) ≡ 511 → ⊥)
      → signed_at s at n ≡ integer_at s at n
  integer-free h k e f = free-else _ _ _ (signed_at s at n) e f ∙ rw (two h k) at (integer-within h)

-- fewest octets
pub size_small : (f m : ℕ) → m < 128 → size_by f m ≡ 1
unfolding size_by
size_small zero m h = refl
size_small (suc f) m h = simp (lt-ltb _ _ h)

pub size-more : (f m : ℕ) → m ≤ f → 128 ≤ m → (g : ℕ) × ((m / 256 ≤ g) × (size_by f m ≡ suc (size_by g (m / 256))))
unfolding size_by
size-more zero m h k = absurd (omega arith)
size-more (suc f) m h k = (f, (omega arith, simp (le-ltb _ _ k)))

-- a lent output: too short, or the octets in it
module _ (out : List ℕ) (at : ℕ) where
  pub put-out : (bs : List ℕ) → length out < at + length bs → put out at bs ≡ unchanged out
  unfolding put
  put-out bs h = simp (lt-leb _ _ h)

  pub put_in : (bs : List ℕ) → at + length bs ≤ length out
      → put out at bs ≡ outcome (Some (at + length bs)) (take at out ++ (bs ++ drop (at + length bs) out))
  unfolding put
  put_in bs h = simp (le-leb _ _ h)

  pub put_one : (b : ℕ) → at < length out → put out at (b ∷ []) ≡ outcome (Some (at + 1)) (set out at b)
  put_one b h =
      let e : at + 1 ≡ suc at = omega arith in
      let k : at + 1 ≤ length out = omega arith in
      put_in (b ∷ []) k ∙ rw (e, set_split out at b h)

  -- octets put from the last to the first
  pub fill_start : (n : ℕ) → out ≡ take (at + n) out ++ ([] ++ drop (at + n) out)
  fill_start n = sym (take-append-drop (at + n) out)

  pub fill_step : (i v : ℕ) (tail rest : List ℕ) → 0 < i → at + i ≤ length out
      → set (take (at + i) out ++ (tail ++ rest)) (at + (i - 1)) v ≡ take (at + (i - 1)) out ++ ((v ∷ tail) ++ rest)
  fill_step i v tail rest h k =
      let e : at + i ≡ suc (at + (i - 1)) = omega arith in
      let l : at + (i - 1) < length out = omega arith in
      let m : length (take (at + (i - 1)) out) ≡ at + (i - 1) = length-take-le (at + (i - 1)) out (omega arith) in
      rw (e, take-suc out (at + (i - 1)) 0 l, append_assoc (take (at + (i - 1)) out) (get_or out (at + (i - 1)) 0 ∷ []) (tail ++ rest))
      (set_at (take (at + (i - 1)) out) (get_or out (at + (i - 1)) 0) (tail ++ rest) v (at + (i - 1)) m)

  pub fill_done : (bs rest : List ℕ) → take (at + 0) out ++ (bs ++ rest) ≡ take at out ++ (bs ++ rest)
  fill_done bs rest = let e : at + 0 ≡ at = omega arith in rw e

-- the digits, from the last to the first
pub digits-start : (base n m : ℕ) → digits base n m ++ [] ≡ digits base n m
digits-start base n m = append-nil (digits base n m)

pub digits_step : (base i r : ℕ) (tail : List ℕ) → 0 < i → digits base i r ++ tail ≡ digits base (i - 1) (r / base) ++ (r % base ∷ tail)
unfolding digits
digits_step base zero r tail h = absurd (omega arith)
digits_step base (suc j) r tail h =
    let e : suc j - 1 ≡ j = omega arith in
    rw (e, append_assoc (digits base j (r / base)) (r % base ∷ []) tail)

pub digits-done : (base i r : ℕ) (tail : List ℕ) → i ≡ 0 → tail ≡ digits base i r ++ tail
unfolding digits
digits-done base zero r tail h = refl
digits-done base (suc i) r tail h = absurd (omega arith)

pub at_part : (s : List ℕ) (at n : ℕ) → at + n ≤ length s → integer (take n (drop at s)) ≡ integer_at s at n
unfolding integer_at
at_part s at n h = simp (le-leb _ _ h)

-- fewest digits
pub count_none : (base f m : ℕ) → m ≡ 0 → count_by base f m ≡ 0
unfolding count_by
count_none base zero m e = refl
count_none base (suc f) m e = simp (eq-eqb _ _ e)

pub count-more : (base f m : ℕ) → 1 < base → m ≤ f → 0 < m → (g : ℕ) × ((m / base ≤ g) × (count_by base f m ≡ suc (count_by base g (m / base))))
unfolding count_by
count-more base zero m b h k = absurd (omega arith)
count-more base (suc f) m b h k =
    let z : m ≡ 0 → ⊥ = λ e. omega arith in
    let l : m / base < m = div-lt_self k b in
    (f, (omega arith, simp (ne_eqb _ _ z)))
