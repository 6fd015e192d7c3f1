-- A tag and a length that were written are read back.
use Rattle.std.specs.Prelude.{Ok}
use Prim.Native.Nat.{ℕ, zero, suc, ◌+◌, ◌-◌, ◌*◌, ◌/◌, ◌%◌, ◌≤◌, ◌<◌}
use mathlib.Core.Path.{◌≡◌, refl, sym, ap, ◌∙◌}
use mathlib.Core.List.{List, [], ◌∷◌, ◌++◌, append_assoc}
use mathlib.Core.Bool.{Bool, true, false}
use mathlib.Core.Logic.{⊎_elim}
use native.Mathlib.Omega.{arith}
use lib.ListN.{length, take, drop, get_or, length-append, length-drop}
use lib.Seq.{take_at, drop-drop, drop-append_seam}
use lib.Dec.{leb, ltb}
use borrow.Author.Tests.{le-leb, lt-leb, lt-ltb, le-ltb}
use Rattle.base_choices.specs.Choices.{pick}
use Rattle.ber_integers.specs.Digits.{horner, digits, count, natural}
use Rattle.ber_integers.proofs.Radix.{lt-or-le, Below, length_digits, digits-below, horner-digits, count-holds, count-least}
use Rattle.ber_integers.proofs.Laws.{count-more}
use Rattle.ber_tags.specs.declared.Length.TheVariants.{Definite, Indefinite}
use Rattle.ber_tags.specs.declared.Head.TheVariants.{Tag}
use Rattle.ber_tags.specs.Tag.{stop, long_number, tag_number, sized, length_at, head_at}
use Rattle.ber_tags.specs.Write.{marked, septets, bit, tag_octets, length_octets}
use Rattle.ber_tags.proofs.Laws.{stop-bound, stop-length, long-last, long-more, number_short, number-long}
use Rattle.ber_tags.proofs.Laws.{sized-is, length-short, length-80, length-long, head-by}
use Rattle.ber_tags.proofs.Septets.{length-septets, septets-value, leading}

some-octets : (n : ℕ) → 0 < n → 0 < count 256 n
some-octets n h = let q = count-more 256 n n (omega arith) (omega arith) h in let e = q.1.1 in omega arith

pub stop_le : (s : List ℕ) (bound q : ℕ) → q ≤ length s → q ≤ bound → q ≤ stop s bound
stop_le s bound q h k =
    ⊎_elim (λ (l : length s < bound). rw (sym (stop-length s bound l)) h) (λ (l : bound ≤ length s). rw (sym (stop-bound s bound l)) k)
    (lt-or-le (length s) bound)

-- what stands after octets that stand at a position, and how far it goes
pub drop_past : (s : List ℕ) (p : ℕ) (xs ys : List ℕ) → drop p s ≡ xs ++ ys → drop (p + length xs) s ≡ ys
drop_past s p xs ys e = sym (drop-drop (length xs) p s) ∙ ap (drop (length xs)) e ∙ drop-append_seam xs ys

pub drop-room : (s : List ℕ) (p : ℕ) (xs ys : List ℕ) → drop p s ≡ xs ++ ys → p < length s → p + length xs + length ys ≤ length s
drop-room s p xs ys e h =
    let l : length s - p ≡ length xs + length ys = sym (length-drop p s) ∙ ap length e ∙ length-append xs ys in omega arith

-- what stands at a position
pub drop_head : (s : List ℕ) (p x : ℕ) (xs : List ℕ) → drop p s ≡ x ∷ xs → (p < length s) × ((get_or s p 0 ≡ x) × (drop (p + 1) s ≡ xs))
drop_head s p x xs e = let q : p + 1 ≡ suc p = omega arith in rw q (go s p x xs e)
  where
    go : (s : List ℕ) (p x : ℕ) (xs : List ℕ) → drop p s ≡ x ∷ xs → (p < length s) × ((get_or s p 0 ≡ x) × (drop (suc p) s ≡ xs))
    go [] zero x xs e = let z : ◌≡◌ {A = ℕ} 0 1 = cc in absurd (omega arith)
    go [] (suc p) x xs e = let z : ◌≡◌ {A = ℕ} 0 1 = cc in absurd (omega arith)
    go (y ∷ ys) zero x xs e = (omega arith, (cc, cc))
    go (y ∷ ys) (suc p) x xs e = let r = go ys p x xs e in (omega arith, (r.1.0, r.1.1))

module _ (s : List ℕ) (at bound : ℕ) where
  long-read : (ds : List ℕ) (d : ℕ) (rest : List ℕ) (k acc p : ℕ) → drop p s ≡ marked ds ++ (d ∷ rest) → d < 128 → Below 128 ds
      → length ds < k → p + length ds < stop s bound → long_number s at bound k acc p ≡ Ok (horner 128 acc ds * 128 + d, p + length ds + 1)
  unfolding horner
  long-read [] d rest k acc p e h b l w =
      let q = drop_head s p d rest e in
      let i : p + 0 + 1 ≡ p + 1 = omega arith in
      let j : p < stop s bound = omega arith in
      let g : get_or s p 0 < 128 = rw q.1.0 h in
      rw i (sym (long-last s at bound acc p k (omega arith) j g) ∙ ap (λ (y : ℕ). Ok (acc * 128 + y, p + 1)) q.1.0)
  long-read (x ∷ ds) d rest k acc p e h b l w =
      let q = drop_head s p (128 + x) (marked ds ++ (d ∷ rest)) e in
      let x0 : x < 128 = b.0 in
      let j : p < stop s bound = omega arith in
      let g : 128 ≤ get_or s p 0 = rw q.1.0 (omega arith) in
      let m : get_or s p 0 % 128 ≡ x = rw q.1.0 (omega arith) in
      let i : p + 1 + length ds + 1 ≡ p + suc (length ds) + 1 = omega arith in
      let r = long-read ds d rest (k - 1) (acc * 128 + x) (p + 1) q.1.1 h b.1 (omega arith) (omega arith) in
      sym (long-more s at bound acc p k (omega arith) j g) ∙ rw (m, sym i) r

-- the five low bits, the constructed bit and the class of a first octet
module _ (class low : ℕ) (few : low < 32) where
  pub first-low : (c : Bool) → (class * 64 + bit c + low) % 32 ≡ low
  first-low true = omega arith
  first-low false = omega arith

  pub first-class : (c : Bool) → (class * 64 + bit c + low) / 64 ≡ class
  first-class true = omega arith
  first-class false = omega arith

  pub first_bit : (c : Bool) → leb 32 ((class * 64 + bit c + low) % 64) ≡ c
  first_bit true = let h : 32 ≤ (class * 64 + bit true + low) % 64 = omega arith in le-leb _ _ h
  first_bit false = let h : (class * 64 + bit false + low) % 64 < 32 = omega arith in lt-leb _ _ h

-- the first octet of a tag, whatever its form
pub tag-low : ℕ → ℕ
tag-low n = pick (ltb n 31) n 31

module _ (class : ℕ) (c : Bool) (n : ℕ) where
  -- a tag is its first octet and what follows
  pub tag-more : List ℕ
  tag-more = pick (ltb n 31) [] (septets n)

  pub tag-cons : tag_octets class c n ≡ (class * 64 + bit c + tag-low n) ∷ tag-more
  unfolding tag_octets tag-low tag-more
  tag-cons = ⊎_elim (λ (h : n < 31). simp (lt-ltb _ _ h)) (λ (h : 31 ≤ n). simp (le-ltb _ _ h)) (lt-or-le n 31)

  pub low-few : tag-low n < 32
  unfolding tag-low
  low-few = ⊎_elim (λ (h : n < 31). simp (lt-ltb _ _ h) (omega arith)) (λ (h : 31 ≤ n). simp (le-ltb _ _ h) (omega arith)) (lt-or-le n 31)

-- groups of seven bits never start with 80
pub not-80 : (s : List ℕ) (p n : ℕ) (rest : List ℕ) → drop p s ≡ septets n ++ rest → get_or s p 0 ≡ 128 → ⊥
unfolding septets
not-80 s p n rest t e =
    go (digits 128 (count 128 (n / 128)) (n / 128)) refl (t ∙ append_assoc (marked (digits 128 (count 128 (n / 128)) (n / 128))) ((n % 128) ∷ []) rest)
  where
    go : (ds : List ℕ) → digits 128 (count 128 (n / 128)) (n / 128) ≡ ds → drop p s ≡ marked ds ++ ((n % 128) ∷ rest) → ⊥
    go [] k q = let d = (drop_head s p (n % 128) rest q).1.0 in omega arith
    go (x ∷ xs) k q = let d = (drop_head s p (128 + x) (marked xs ++ ((n % 128) ∷ rest)) q).1.0 in leading 128 (omega arith) (n / 128) x xs k (omega arith)

-- at most three digits of seven bits, and a last
few-septets : (n : ℕ) → n ≤ 268435455 → count 128 (n / 128) ≤ 3
few-septets n h = count-least 128 (omega arith) (n / 128) (n / 128) 3 (omega arith) (omega arith)

-- a number written in groups of seven bits is read
pub septets-read : (s : List ℕ) (at bound n : ℕ) (rest : List ℕ) (p : ℕ) → drop p s ≡ septets n ++ rest → n ≤ 268435455
    → p + length (septets n) ≤ stop s bound → long_number s at bound 4 0 p ≡ Ok (n, p + length (septets n))
unfolding septets
septets-read s at bound n rest p t h w =
    let ds = digits 128 (count 128 (n / 128)) (n / 128) in
    let l : length ds ≡ count 128 (n / 128) = length_digits 128 (omega arith) (count 128 (n / 128)) (n / 128) in
    let k = few-septets n h in
    let z : length (septets n) ≡ count 128 (n / 128) + 1 = length-septets n in
    let r = long-read s at bound ds (n % 128) rest 4 0 p (t ∙ append_assoc (marked ds) ((n % 128) ∷ []) rest) (omega arith)
    (digits-below 128 (omega arith) (count 128 (n / 128)) (n / 128)) (omega arith) (omega arith) in
    let i : p + length ds + 1 ≡ p + length (septets n) = omega arith in
    r ∙ ap (λ (x : ℕ). Ok (x, p + length ds + 1)) (septets-value n) ∙ ap (λ x. Ok (n, x)) i

module _ (s : List ℕ) (at bound class : ℕ) (c : Bool) (n : ℕ) (rest : List ℕ) (there : drop at s ≡ tag_octets class c n ++ rest)
    (small : n ≤ 268435455) (room : at + length (tag_octets class c n) ≤ stop s bound) where
  first : (at < length s) × ((get_or s at 0 ≡ class * 64 + bit c + tag-low n) × (drop (at + 1) s ≡ tag-more class c n ++ rest))
  first = drop_head s at (class * 64 + bit c + tag-low n) (tag-more class c n ++ rest) (there ∙ ap (λ (l : List ℕ). l ++ rest) (tag-cons class c n))

  pub first-octet : get_or s at 0 ≡ class * 64 + bit c + tag-low n
  first-octet = first.1.0

  pub number_read : tag_number s at bound ≡ Ok (n, at + length (tag_octets class c n))
  unfolding tag_octets tag-low tag-more
  number_read = ⊎_elim short long (lt-or-le n 31)
    where
      low-is : get_or s at 0 % 32 ≡ pick (ltb n 31) n 31
      low-is = ap (λ (x : ℕ). x % 32) first.1.0 ∙ first-low class (tag-low n) (low-few class c n) c

      short : n < 31 → tag_number s at bound ≡ Ok (n, at + length (tag_octets class c n))
      short h =
          let m : get_or s at 0 % 32 ≡ n = simp (lt-ltb _ _ h) at low-is in
          let l : at + length (tag_octets class c n) ≤ stop s bound = room in
          let r : at + 1 ≤ stop s bound = simp (lt-ltb _ _ h) at l in
          let g : get_or s at 0 % 32 < 31 = rw m h in
          simp (lt-ltb _ _ h) (sym (number_short s at bound (omega arith) g) ∙ ap (λ (x : ℕ). Ok (x, at + 1)) m)

      long : 31 ≤ n → tag_number s at bound ≡ Ok (n, at + length (tag_octets class c n))
      long h =
          let m : get_or s at 0 % 32 ≡ 31 = simp (le-ltb _ _ h) at low-is in
          let l : at + length (tag_octets class c n) ≤ stop s bound = room in
          let r : at + suc (length (septets n)) ≤ stop s bound = simp (le-ltb _ _ h) at l in
          let t : drop (at + 1) s ≡ septets n ++ rest = simp (le-ltb _ _ h) at first.1.1 in
          let g : 31 ≤ get_or s at 0 % 32 = rw m (omega arith) in
          let z = length-septets n in
          let i : at + 1 + length (septets n) ≡ at + suc (length (septets n)) = omega arith in
          simp (le-ltb _ _ h)
          (sym (number-long s at bound (omega arith) g (omega arith) (not-80 s (at + 1) n rest t))
          ∙ septets-read s at bound n rest (at + 1) t small (omega arith)
          ∙ ap (λ x. Ok (n, x)) i)

-- a length that was written is read
module _ (s : List ℕ) (at bound : ℕ) (c : Bool) (n : ℕ) (rest : List ℕ) (p : ℕ) (there : drop p s ≡ length_octets n ++ rest)
    (small : n ≤ 4294967295) (inside : p + length (length_octets n) ≤ length s) (room : p + length (length_octets n) + n ≤ bound) where
  pub length-read : length_at s at bound c p ≡ Ok (Definite n, p + length (length_octets n))
  unfolding length_octets
  length-read = ⊎_elim short long (lt-or-le n 128)
    where
      short : n < 128 → length_at s at bound c p ≡ Ok (Definite n, p + length (length_octets n))
      short h =
          let t : drop p s ≡ n ∷ rest = simp (lt-ltb _ _ h) at there in
          let d = drop_head s p n rest t in
          let i : p + 1 ≤ length s = simp (lt-ltb _ _ h) at inside in
          let r : p + 1 + n ≤ bound = simp (lt-ltb _ _ h) at room in
          let w : p + 1 ≤ stop s bound = stop_le s bound (p + 1) i (omega arith) in
          let g : get_or s p 0 < 128 = rw d.1.0 h in
          simp (lt-ltb _ _ h)
          (sym (length-short s at bound c p (omega arith) g) ∙ ap (λ (x : ℕ). sized at bound x (p + 1)) d.1.0 ∙ sym (sized-is at bound n (p + 1) r))

      long : 128 ≤ n → length_at s at bound c p ≡ Ok (Definite n, p + length (length_octets n))
      long h =
          let k = count 256 n in
          let l : length (digits 256 k n) ≡ k = length_digits 256 (omega arith) k n in
          let t : drop p s ≡ (128 + k) ∷ (digits 256 k n ++ rest) = simp (le-ltb _ _ h) at there in
          let d = drop_head s p (128 + k) (digits 256 k n ++ rest) t in
          let i : p + suc (length (digits 256 k n)) ≤ length s = simp (le-ltb _ _ h) at inside in
          let r : p + suc (length (digits 256 k n)) + n ≤ bound = simp (le-ltb _ _ h) at room in
          let hi : k ≤ 4 = count-least 256 (omega arith) n n 4 (omega arith) (omega arith) in
          let lo : 0 < k = some-octets n (omega arith) in
          let e : get_or s p 0 - 128 ≡ k = let g = d.1.0 in omega arith in
          let w : p + 1 + k ≤ stop s bound = stop_le s bound (p + 1 + k) (omega arith) (omega arith) in
          let x : take k (drop (p + 1) s) ≡ digits 256 k n = ap (take k) d.1.1 ∙ take_at (digits 256 k n) rest k l in
          let v : natural (take k (drop (p + 1) s)) ≡ n = ap natural x
          ∙ horner-digits 256 (omega arith) k n (count-holds 256 (omega arith) n n (omega arith)) in
          let q : p + 1 + k ≡ p + suc (length (digits 256 k n)) = omega arith in
          let g = d.1.0 in
          simp (le-ltb _ _ h)
          (sym (length-long s at bound c p (omega arith) (omega arith) (omega arith) (rw e w))
          ∙ rw (e, v, q) (sym (sized-is at bound n (p + suc (length (digits 256 k n))) r)))

-- A tag and a definite length that were written are read back, with nothing left, wherever they stand.
pub head_read : (s : List ℕ) (at bound class : ℕ) (c : Bool) (n len : ℕ) (rest : List ℕ)
    → drop at s ≡ tag_octets class c n ++ (length_octets len ++ rest) → n ≤ 268435455 → len ≤ 4294967295
    → at + length (tag_octets class c n) + length (length_octets len) + len ≤ bound
    → head_at s at bound ≡ Tag class c n (Definite len) (at + length (tag_octets class c n) + length (length_octets len))
head_read s at bound class c n len rest t hn hl room =
    let tag = tag_octets class c n in
    let size = length_octets len in
    let first = drop_head s at (class * 64 + bit c + tag-low n) (tag-more class c n ++ (size ++ rest))
    (t ∙ ap (λ (l : List ℕ). l ++ (size ++ rest)) (tag-cons class c n)) in
    let e : length (size ++ rest) ≡ length size + length rest = length-append size rest in
    let w = drop-room s at tag (size ++ rest) t first.0 in
    let p : drop (at + length tag) s ≡ size ++ rest = drop_past s at tag (size ++ rest) t in
    let r : at + length tag ≤ stop s bound = stop_le s bound (at + length tag) (omega arith) (omega arith) in
    let number = number_read s at bound class c n (size ++ rest) t hn r in
    let f : get_or s at 0 ≡ class * 64 + bit c + tag-low n = first.1.0 in
    let cl : get_or s at 0 / 64 ≡ class = ap (λ (x : ℕ). x / 64) f ∙ first-class class (tag-low n) (low-few class c n) c in
    let cb : leb 32 (get_or s at 0 % 64) ≡ c = ap (λ (x : ℕ). leb 32 (x % 64)) f ∙ first_bit class (tag-low n) (low-few class c n) c in
    let z = length-read s at bound c len rest (at + length tag) p hl (omega arith) (omega arith) in
    sym (head-by s at bound number) ∙ rw (cb, z, cl, cb)

-- .. and a container's tag with an indefinite length, 80.
pub head-read-open : (s : List ℕ) (at bound class n : ℕ) (rest : List ℕ)
    → drop at s ≡ tag_octets class true n ++ (0x80 ∷ rest) → n ≤ 268435455
    → at + length (tag_octets class true n) + 1 ≤ bound
    → head_at s at bound ≡ Tag class true n Indefinite (at + length (tag_octets class true n) + 1)
head-read-open s at bound class n rest t hn room =
    let tag = tag_octets class true n in
    let first =
    drop_head s at (class * 64 + bit true + tag-low n) (tag-more class true n ++ (0x80 ∷ rest))
    (t ∙ ap (λ (l : List ℕ). l ++ (0x80 ∷ rest)) (tag-cons class true n)) in
    let w = drop-room s at tag (0x80 ∷ rest) t first.0 in
    let p : drop (at + length tag) s ≡ 0x80 ∷ rest = drop_past s at tag (0x80 ∷ rest) t in
    let d = drop_head s (at + length tag) 0x80 rest p in
    let r : at + length tag + 1 ≤ stop s bound = stop_le s bound (at + length tag + 1) (omega (arith, d.0)) room in
    let number = number_read s at bound class true n (0x80 ∷ rest) t hn (omega arith) in
    let f : get_or s at 0 ≡ class * 64 + bit true + tag-low n = first.1.0 in
    let cl : get_or s at 0 / 64 ≡ class = ap (λ (x : ℕ). x / 64) f ∙ first-class class (tag-low n) (low-few class true n) true in
    let cb : leb 32 (get_or s at 0 % 64) ≡ true = ap (λ (x : ℕ). leb 32 (x % 64)) f ∙ first_bit class (tag-low n) (low-few class true n) true in
    let z : length_at s at bound true (at + length tag) ≡ Ok (Indefinite, at + length tag + 1) =
    sym (length-80 s at bound true (at + length tag) (omega arith) d.1.0 refl) in
    sym (head-by s at bound number) ∙ rw (cb, z, cl, cb)
