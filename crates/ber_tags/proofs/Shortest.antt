-- What the reader accepts can be written, and in no more octets; written again, it is read as the same.
use Rattle.std.specs.Prelude.{Result, Ok, Err}
use Prim.Native.Nat.{ℕ, zero, suc, ◌+◌, ◌-◌, ◌*◌, ◌/◌, ◌%◌, ◌^◌, ◌≤◌, ◌<◌}
use mathlib.Core.Path.{◌≡◌, refl, sym, ap, ◌∙◌}
use mathlib.Core.List.{List, ◌∷◌, ◌++◌}
use mathlib.Core.Bool.{Bool, true, false}
use mathlib.Core.Logic.{⊎_elim}
use native.Mathlib.Omega.{arith}
use native.Mathlib.Nat.{pow-suc, div-lt_iff_lt-mul}
use lib.ListN.{length, take, drop, get_or}
use lib.Dec.{leb}
use borrow.Author.Tests.{lt-ltb, le-ltb}
use Rattle.base_choices.proofs.Pairs.{ok-parts}
use Rattle.ber_integers.specs.Digits.{count, natural}
use Rattle.ber_integers.proofs.Laws.{length_part}
use Rattle.ber_integers.proofs.Radix.{lt-or-le, Below, digit-more, power_le, natural-lt, length_digits, count-least}
use Rattle.ber_integers.proofs.Signs.{below-take, below-drop, below_at}
use Rattle.ber_tags.specs.declared.Length.{Length}
use Rattle.ber_tags.specs.declared.Length.TheVariants.{Definite, Indefinite}
use Rattle.ber_tags.specs.declared.Head.TheVariants.{Tag, Refused}
use Rattle.ber_tags.specs.Tag.{stop, long_number, tag_number, sized, length_at, head_of, head_at}
use Rattle.ber_tags.specs.Write.{septets, tag_octets, length_octets}
use Rattle.ber_tags.proofs.Laws.{stop-within, stop-bound, stop-length, long-over, long-cut, long-last, long-more, head-by}
use Rattle.ber_tags.proofs.Laws.{number_cut, number_short, number-cut-long, number-80, number-long, sized_past, sized-is}
use Rattle.ber_tags.proofs.Laws.{length_cut, length-short, length-80, length-80-primitive, length_over, length-cut-long, length-long}
use Rattle.ber_tags.proofs.Septets.{length-septets}
use Rattle.ber_tags.proofs.Written.{head_read, head-read-open}

-- octets end before the container's end
stop-contained : (s : List ℕ) (bound : ℕ) → stop s bound ≤ bound
stop-contained s bound =
    ⊎_elim
    (λ (l : length s < bound). let q = stop-length s bound l in omega arith)
    (λ (l : bound ≤ length s). let q = stop-bound s bound l in omega arith)
    (lt-or-le (length s) bound)

no_number : {x n p : ℕ} {r : Result (ℕ × ℕ) ℕ} → r ≡ Ok (n, p) → Err x ≡ r → ⊥
no_number e f = let z : ◌≡◌ {A = ℕ} 0 1 = cc in omega arith

same_number : {n m p q : ℕ} {r : Result (ℕ × ℕ) ℕ} → r ≡ Ok (n, p) → Ok (m, q) ≡ r → (m ≡ n) × (q ≡ p)
same_number e f = ok-parts (f ∙ e)

no_length : {x p : ℕ} {l : Length} {r : Result (Length × ℕ) ℕ} → r ≡ Ok (l, p) → Err x ≡ r → ⊥
no_length e f = let z : ◌≡◌ {A = ℕ} 0 1 = cc in omega arith

module _ (s : List ℕ) (at bound : ℕ) where
  -- the number that octets give has at most as many groups of seven bits
  long-range : (k acc p n q j : ℕ) → long_number s at bound k acc p ≡ Ok (n, q) → acc < 128 ^ j
      → (p < q) × ((q ≤ p + k) × (n < 128 ^ (j + (q - p))))
  long-range zero acc p n q j e h = absurd (no_number e (long-over s at bound acc p zero refl))
  long-range (suc k) acc p n q j e h =
      ⊎_elim
      (λ (w : p < stop s bound).
      ⊎_elim
      (λ (b : get_or s p 0 < 128).
      let r = same_number e (long-last s at bound acc p (suc k) (omega arith) w b) in
      let i : j + (q - p) ≡ j + 1 = let y = r.1 in omega arith in
      let y = r.1 in
      (omega arith, (omega arith, rw (i, sym r.0) (digit-more 128 j h b))))
      (λ (b : 128 ≤ get_or s p 0).
      let d : suc k - 1 ≡ k = omega arith in
      let f : long_number s at bound k (acc * 128 + get_or s p 0 % 128) (p + 1) ≡ Ok (n, q) =
      rw d at (long-more s at bound acc p (suc k) (omega arith) w b) ∙ e in
      let l : get_or s p 0 % 128 < 128 = omega arith in
      let r = long-range k (acc * 128 + get_or s p 0 % 128) (p + 1) n q (j + 1) f (digit-more 128 j h l) in
      let a = r.0 in
      let i : j + 1 + (q - (p + 1)) ≡ j + (q - p) = omega arith in
      (omega arith, (omega (arith, r.1.0), rw i at r.1.1)))
      (lt-or-le (get_or s p 0) 128))
      (λ (w : stop s bound ≤ p). absurd (no_number e (long-cut s at bound acc p (suc k) (omega arith) w)))
      (lt-or-le p (stop s bound))

-- a number below a power of 128 has no more groups than that
septets-few : (n i : ℕ) → 0 < i → n < 128 ^ i → length (septets n) ≤ i
septets-few n i h l =
    let e : i ≡ suc (i - 1) = omega arith in
    let q : 128 ^ i ≡ 128 ^ (i - 1) * 128 = ap (λ (x : ℕ). 128 ^ x) e ∙ pow-suc 128 (i - 1) in
    let z8 : 0 < 128 = omega arith in
    let d : n / 128 < 128 ^ (i - 1) = (div-lt_iff_lt-mul z8).1 (rw q at l) in
    let k : count 128 (n / 128) ≤ i - 1 = count-least 128 (omega arith) (n / 128) (n / 128) (i - 1) (omega arith) d in
    let z = length-septets n in
    omega arith

tag-length-short : (class : ℕ) (c : Bool) (n : ℕ) → n < 31 → length (tag_octets class c n) ≡ 1
unfolding tag_octets
tag-length-short class c n h = simp (lt-ltb _ _ h)

tag-length-long : (class : ℕ) (c : Bool) (n : ℕ) → 31 ≤ n → length (tag_octets class c n) ≡ suc (length (septets n))
unfolding tag_octets
tag-length-long class c n h = simp (le-ltb _ _ h)

pub length-length-short : (n : ℕ) → n < 128 → length (length_octets n) ≡ 1
unfolding length_octets
length-length-short n h = simp (lt-ltb _ _ h)

pub length-length-long : (n : ℕ) → 128 ≤ n → length (length_octets n) ≡ suc (count 256 n)
unfolding length_octets
length-length-long n h = simp (le-ltb _ _ h) (ap suc (length_digits 256 (omega arith) (count 256 n) n))

module _ (s : List ℕ) (at bound : ℕ) where
  pub number-range : (n p : ℕ) → tag_number s at bound ≡ Ok (n, p)
      → (at < p) × ((at < length s) × ((n ≤ 268435455) × ((class : ℕ) (c : Bool) → at + length (tag_octets class c n) ≤ p)))
  number-range n p e =
      let sw = stop-within s bound in
      ⊎_elim
      (λ (w : at < stop s bound).
      ⊎_elim
      (λ (b : get_or s at 0 % 32 < 31).
      let r = same_number e (number_short s at bound w b) in
      let x = r.0 in
      let y = r.1 in
      (omega arith, (omega arith, (omega arith, λ class c. let z = tag-length-short class c n (omega arith) in omega arith))))
      (λ (b : 31 ≤ get_or s at 0 % 32).
      ⊎_elim
      (λ (v : at + 1 < stop s bound).
      let n80 : get_or s (at + 1) 0 ≡ 128 → ⊥ = λ q. no_number e (number-80 s at bound w b v q) in
      let f = number-long s at bound w b v n80 ∙ e in
      let r = long-range s at bound 4 0 (at + 1) n p 0 f (omega arith) in
      let o : 0 + (p - (at + 1)) ≡ p - (at + 1) = omega arith in
      let l : n < 128 ^ (p - (at + 1)) = rw o at r.1.1 in
      let m : n < 128 ^ 4 = power_le 128 {n = p - (at + 1)} {k = 4} (omega arith) (omega (arith, r.1.0)) l in
      let a = r.0 in (
        omega arith,
        (
          omega arith,
          (
            omega arith,
            λ class c.
                ⊎_elim
                (λ (q : n < 31). let z = tag-length-short class c n q in omega arith)
                (λ (q : 31 ≤ n). let z = tag-length-long class c n q in let y = septets-few n (p - (at + 1)) (omega arith) l in omega arith)
                (lt-or-le n 31),
          ),
        ),
      ))
      (λ (v : stop s bound ≤ at + 1). absurd (no_number e (number-cut-long s at bound w b v)))
      (lt-or-le (at + 1) (stop s bound)))
      (lt-or-le (get_or s at 0 % 32) 31))
      (λ (w : stop s bound ≤ at). absurd (no_number e (number_cut s at bound w)))
      (lt-or-le at (stop s bound))

  sized-inv : (len next n q : ℕ) → sized at bound len next ≡ Ok (Definite n, q) → (len ≡ n) × ((next ≡ q) × (next + len ≤ bound))
  sized-inv len next n q e =
      ⊎_elim
      (λ (h : bound < next + len). absurd (no_length e (sized_past at bound len next h)))
      (λ (h : next + len ≤ bound). let f : Ok (Definite len, next) ≡ Ok (Definite n, q) = sized-is at bound len next h ∙ e in let g = ok-parts f in let i : len ≡ n = let d = g.0 in cc in (i, (g.1, h)))
      (lt-or-le bound (next + len))

  not-definite : {n p q : ℕ} {r : Result (Length × ℕ) ℕ} → r ≡ Ok (Definite n, p) → Ok (Indefinite, q) ≡ r → ⊥
  not-definite e f = let g : Indefinite ≡ Definite _ = (ok-parts (f ∙ e)).0 in let z : ◌≡◌ {A = ℕ} 0 1 = cc in omega arith

  length-range : Below 256 s → (c : Bool) (p n next : ℕ) → length_at s at bound c p ≡ Ok (Definite n, next)
      → (next ≤ length s) × ((next + n ≤ bound) × ((n ≤ 4294967295) × (p + length (length_octets n) ≤ next)))
  length-range bytes c p n next e =
      let sw = stop-within s bound in
      ⊎_elim
      (λ (w : p < stop s bound).
      ⊎_elim
      (λ (b : get_or s p 0 < 128).
      let r = sized-inv (get_or s p 0) (p + 1) n next (length-short s at bound c p w b ∙ e) in
      let x = r.0 in
      let y = r.1.0 in
      let v = r.1.1 in
      let z = length-length-short n (omega arith) in
      (omega arith, (omega arith, (omega arith, omega arith))))
      (λ (b : 128 ≤ get_or s p 0).
      ⊎_elim
      (λ (t : get_or s p 0 < 129). let g : get_or s p 0 ≡ 128 = omega arith in
      absurd (eighty c g w refl))
      (λ (t : 129 ≤ get_or s p 0).
      ⊎_elim
      (λ (u : 132 < get_or s p 0). absurd (no_length e (length_over s at bound c p w u)))
      (λ (u : get_or s p 0 ≤ 132).
      ⊎_elim
      (λ (x : stop s bound < p + 1 + (get_or s p 0 - 128)). absurd (no_length e (length-cut-long s at bound c p w t u x)))
      (λ (x : p + 1 + (get_or s p 0 - 128) ≤ stop s bound).
      let k = get_or s p 0 - 128 in
      let part = take k (drop (p + 1) s) in
      let r = sized-inv (natural part) (p + 1 + k) n next (length-long s at bound c p w t u x ∙ e) in
      let l : length part ≡ k = length_part s (p + 1) k (omega arith) in
      let v : natural part < 256 ^ k = rw l at (natural-lt 256 part (below-take 256 k (drop (p + 1) s) (below-drop 256 (p + 1) s bytes))) in
      let y : n < 256 ^ k = rw r.0 at v in
      let y4 : n < 256 ^ 4 = power_le 256 {n = k} {k = 4} (omega arith) (omega arith) y in
      let cl : count 256 n ≤ k = count-least 256 (omega arith) n n k (omega arith) y in
      let a = r.0 in
      let d = r.1.0 in
      let f = r.1.1 in (
        omega arith,
        (
          omega arith,
          (
            omega arith,
            ⊎_elim
                (λ (q : n < 128). let z = length-length-short n q in omega arith)
                (λ (q : 128 ≤ n). let z = length-length-long n q in omega arith)
                (lt-or-le n 128),
          ),
        ),
      ))
      (lt-or-le (stop s bound) (p + 1 + (get_or s p 0 - 128))))
      (lt-or-le 132 (get_or s p 0)))
      (lt-or-le (get_or s p 0) 129))
      (lt-or-le (get_or s p 0) 128))
      (λ (w : stop s bound ≤ p). absurd (no_length e (length_cut s at bound c p w)))
      (lt-or-le p (stop s bound))
    where
      eighty : (d : Bool) → get_or s p 0 ≡ 128 → p < stop s bound → c ≡ d → ⊥
      eighty true g w q = not-definite e (length-80 s at bound c p w g q)
      eighty false g w q = no_length e (length-80-primitive s at bound c p w g q)

  not-indefinite : {n p q : ℕ} {r : Result (Length × ℕ) ℕ} → r ≡ Ok (Indefinite, q) → Ok (Definite n, p) ≡ r → ⊥
  not-indefinite e f = let g : Definite _ ≡ Indefinite = (ok-parts (f ∙ e)).0 in let z : ◌≡◌ {A = ℕ} 0 1 = cc in omega arith

  sized-no : (len next q : ℕ) → sized at bound len next ≡ Ok (Indefinite, q) → ⊥
  sized-no len next q e =
      ⊎_elim
      (λ (h : bound < next + len). no_length e (sized_past at bound len next h))
      (λ (h : next + len ≤ bound). not-indefinite e (sized-is at bound len next h))
      (lt-or-le bound (next + len))

  -- an indefinite length is one octet, 80, of a container
  open-range : (c : Bool) (p next : ℕ) → length_at s at bound c p ≡ Ok (Indefinite, next) → (c ≡ true) × ((next ≡ p + 1) × (next ≤ stop s bound))
  open-range c p next e =
      ⊎_elim
      (λ (w : p < stop s bound).
      ⊎_elim
      (λ (b : get_or s p 0 < 128). absurd (sized-no (get_or s p 0) (p + 1) next (length-short s at bound c p w b ∙ e)))
      (λ (b : 128 ≤ get_or s p 0).
      ⊎_elim
      (λ (t : get_or s p 0 < 129). let g : get_or s p 0 ≡ 128 = omega arith in eighty c g w refl)
      (λ (t : 129 ≤ get_or s p 0).
      ⊎_elim
      (λ (u : 132 < get_or s p 0). absurd (no_length e (length_over s at bound c p w u)))
      (λ (u : get_or s p 0 ≤ 132).
      ⊎_elim
      (λ (x : stop s bound < p + 1 + (get_or s p 0 - 128)). absurd (no_length e (length-cut-long s at bound c p w t u x)))
      (λ (x : p + 1 + (get_or s p 0 - 128) ≤ stop s bound).
      absurd
      (sized-no (natural (take (get_or s p 0 - 128) (drop (p + 1) s))) (p + 1 + (get_or s p 0 - 128)) next (length-long s at bound c p w t u x ∙ e)))
      (lt-or-le (stop s bound) (p + 1 + (get_or s p 0 - 128))))
      (lt-or-le 132 (get_or s p 0)))
      (lt-or-le (get_or s p 0) 129))
      (lt-or-le (get_or s p 0) 128))
      (λ (w : stop s bound ≤ p). absurd (no_length e (length_cut s at bound c p w)))
      (lt-or-le p (stop s bound))
    where
      eighty : (d : Bool) → get_or s p 0 ≡ 128 → p < stop s bound → c ≡ d → (c ≡ true) × ((next ≡ p + 1) × (next ≤ stop s bound))
      eighty true g w q =
          let f : Ok (Indefinite, p + 1) ≡ Ok (Indefinite, next) = length-80 s at bound c p w g q ∙ e in
          let n : p + 1 ≡ next = (ok-parts f).1 in
          (q, (sym n, omega arith))
      eighty false g w q = absurd (no_length e (length-80-primitive s at bound c p w g q))

-- What is known of a tag with a definite length that was read.
pub record Accepted (s : List ℕ) (at bound class : ℕ) (c : Bool) (number len next : ℕ) : Type 0 where
  pub classes : class ≤ 3
  pub numbers : number ≤ 268435455
  pub lengths : len ≤ 4294967295
  -- in no more octets than it was read from
  pub shortest : at + length (tag_octets class c number) + length (length_octets len) ≤ next
  pub within : next ≤ length s
  pub contained : next + len ≤ bound

pub accepted : (s : List ℕ) (at bound class : ℕ) (c : Bool) (number len next : ℕ) → Below 256 s
    → head_at s at bound ≡ Tag class c number (Definite len) next → Accepted s at bound class c number len next
accepted s at bound class c number len next bytes e = by_number (tag_number s at bound) refl
  where
    by_length : (n p : ℕ) → tag_number s at bound ≡ Ok (n, p) → (z : Result (Length × ℕ) ℕ) → length_at s at bound (leb 32 (get_or s at 0 % 64)) p ≡ z
        → head_of (get_or s at 0) n z ≡ Tag class c number (Definite len) next → Accepted s at bound class c number len next
    by_length n p en (Err x) el h = let z : ◌≡◌ {A = ℕ} 0 1 = cc in absurd (omega arith)
    by_length n p en (Ok (l, q)) el h =
        let e1 : n ≡ number = cc in
        let e2 : l ≡ Definite len = cc in
        let e3 : q ≡ next = cc in
        let e4 : get_or s at 0 / 64 ≡ class = cc in
        let r = number-range s at bound n p en in
        let f : length_at s at bound (leb 32 (get_or s at 0 % 64)) p ≡ Ok (Definite len, next) = el ∙ cc in
        let t = length-range s at bound bytes (leb 32 (get_or s at 0 % 64)) p len next f in
        let b : get_or s at 0 < 256 = below_at 256 s at (omega arith) bytes in
        let o : at + length (tag_octets class c n) ≤ p = r.1.1.1 class c in
        let o2 : at + length (tag_octets class c number) ≤ p = rw e1 at o in
        let g = r.1.1.0 in
        let t0 = t.0 in
        let t1 = t.1.0 in
        let t2 = t.1.1.0 in
        let t3 = t.1.1.1 in
        record { classes = omega arith; numbers = omega arith; lengths = t2; shortest = omega arith; within = t0; contained = t1 }

    by_number : (r : Result (ℕ × ℕ) ℕ) → tag_number s at bound ≡ r → Accepted s at bound class c number len next
    by_number (Err x) en =
        let h : Refused x ≡ Tag class c number (Definite len) next = head-by s at bound en ∙ e in
        let z : ◌≡◌ {A = ℕ} 0 1 = cc in absurd (omega arith)
    by_number (Ok (n, p)) en = by_length n p en (length_at s at bound (leb 32 (get_or s at 0 % 64)) p) refl (head-by s at bound en ∙ e)

-- .. and of one with an indefinite length: a container, whose length octet is 80.
pub record AcceptedOpen (s : List ℕ) (at bound class : ℕ) (c : Bool) (number next : ℕ) : Type 0 where
  pub classes : class ≤ 3
  pub container : c ≡ true
  pub numbers : number ≤ 268435455
  pub shortest : at + length (tag_octets class c number) + 1 ≤ next
  pub within : next ≤ length s
  pub contained : next ≤ bound

pub accepted-open : (s : List ℕ) (at bound class : ℕ) (c : Bool) (number next : ℕ) → Below 256 s
    → head_at s at bound ≡ Tag class c number Indefinite next → AcceptedOpen s at bound class c number next
accepted-open s at bound class c number next bytes e = by_number (tag_number s at bound) refl
  where
    by_length : (n p : ℕ) → tag_number s at bound ≡ Ok (n, p) → (z : Result (Length × ℕ) ℕ) → length_at s at bound (leb 32 (get_or s at 0 % 64)) p ≡ z
        → head_of (get_or s at 0) n z ≡ Tag class c number Indefinite next → AcceptedOpen s at bound class c number next
    by_length n p en (Err x) el h = let z : ◌≡◌ {A = ℕ} 0 1 = cc in absurd (omega arith)
    by_length n p en (Ok (l, q)) el h =
        let e1 : n ≡ number = cc in
        let e4 : get_or s at 0 / 64 ≡ class = cc in
        let e5 : leb 32 (get_or s at 0 % 64) ≡ c = cc in
        let r = number-range s at bound n p en in
        let f : length_at s at bound (leb 32 (get_or s at 0 % 64)) p ≡ Ok (Indefinite, next) = el ∙ cc in
        let t = open-range s at bound (leb 32 (get_or s at 0 % 64)) p next f in
        let b : get_or s at 0 < 256 = below_at 256 s at (omega arith) bytes in
        let o : at + length (tag_octets class c n) ≤ p = r.1.1.1 class c in
        let o2 : at + length (tag_octets class c number) ≤ p = rw e1 at o in
        let g = r.1.1.0 in
        let t1 = t.1.0 in
        let t2 = t.1.1 in
        let w = stop-within s bound in
        let v = stop-contained s bound in
        record {
          classes = omega arith;
          container = sym e5 ∙ t.0;
          numbers = omega arith;
          shortest = omega arith;
          within = omega arith;
          contained = omega arith;
        }

    by_number : (r : Result (ℕ × ℕ) ℕ) → tag_number s at bound ≡ r → AcceptedOpen s at bound class c number next
    by_number (Err x) en =
        let h : Refused x ≡ Tag class c number Indefinite next = head-by s at bound en ∙ e in
        let z : ◌≡◌ {A = ℕ} 0 1 = cc in absurd (omega arith)
    by_number (Ok (n, p)) en = by_length n p en (length_at s at bound (leb 32 (get_or s at 0 % 64)) p) refl (head-by s at bound en ∙ e)

-- Read, written again and read: the same tag and length.
pub read_again : (s : List ℕ) (at bound class : ℕ) (c : Bool) (number len next : ℕ) → Below 256 s
    → head_at s at bound ≡ Tag class c number (Definite len) next
    → (t : List ℕ) (p limit : ℕ) (rest : List ℕ) → drop p t ≡ tag_octets class c number ++ (length_octets len ++ rest)
    → p + length (tag_octets class c number) + length (length_octets len) + len ≤ limit
    → head_at t p limit ≡ Tag class c number (Definite len) (p + length (tag_octets class c number) + length (length_octets len))
read_again s at bound class c number len next bytes e t p limit rest there room =
    let a = accepted s at bound class c number len next bytes e in
    head_read t p limit class c number len rest there a.numbers a.lengths room

-- .. and the same of an indefinite length.
pub read-again-open : (s : List ℕ) (at bound class : ℕ) (c : Bool) (number next : ℕ) → Below 256 s
    → head_at s at bound ≡ Tag class c number Indefinite next
    → (t : List ℕ) (p limit : ℕ) (rest : List ℕ) → drop p t ≡ tag_octets class true number ++ (0x80 ∷ rest)
    → p + length (tag_octets class true number) + 1 ≤ limit
    → head_at t p limit ≡ Tag class c number Indefinite (p + length (tag_octets class true number) + 1)
read-again-open s at bound class c number next bytes e t p limit rest there room =
    let a = accepted-open s at bound class c number next bytes e in
    head-read-open t p limit class number rest there a.numbers room
    ∙ ap (λ (d : Bool). Tag class d number Indefinite (p + length (tag_octets class true number) + 1)) (sym a.container)
