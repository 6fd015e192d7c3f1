-- Octets put one after the other are their lists put together.
use Rattle.std.specs.Prelude.{Option, Some}
use Prim.Native.Nat.{ℕ, ◌+◌, ◌/◌, ◌%◌, ◌≤◌, ◌<◌}
use mathlib.Core.Path.{◌≡◌, refl, sym, ap, ◌∙◌}
use mathlib.Core.List.{List, ◌∷◌, ◌++◌, append_assoc}
use native.Mathlib.Omega.{arith}
use lib.ListN.{length, take, drop, length-append, length-take, length-drop}
use lib.Seq.{take_at, length-take-le, drop-drop, drop-append-add}
use mathlib.Core.Bool.{Bool}
use native.Mathlib.Nat.{mod-eq_of_lt}
use lib.Ieee.{minus, size}
use Rattle.ber_integers.specs.Digits.{digits, Put, put, unchanged, outcome}
use Rattle.ber_integers.specs.Integer.{shortest}
use Rattle.ber_integers.proofs.Laws.{put_in, put-out}
use Rattle.ber_integers.proofs.Radix.{length_digits}
use Rattle.ber_reals.specs.Write.{first_octet, mantissa_octets, number_octets}

abbrev result : Option ℕ → List ℕ → Put
result r o = outcome r o

module _ (out : List ℕ) (at : ℕ) (xs ys : List ℕ) (room : at + (length xs + length ys) ≤ length out) where
  -- the output with the first list in it
  first : List ℕ
  first = take at out ++ (xs ++ drop (at + length xs) out)

  first-length : length first ≡ length out
  unfolding first
  first-length = simp (length-append, length-take, length-drop) (omega arith)

  ahead : length (take at out ++ xs) ≡ at + length xs
  ahead = length-append (take at out) xs ∙ ap (λ (n : ℕ). n + length xs) (length-take-le at out (omega arith))

  taken : take (at + length xs) first ≡ take at out ++ xs
  unfolding first
  taken = rw (← append_assoc (take at out) xs (drop (at + length xs) out)) (take_at (take at out ++ xs) (drop (at + length xs) out) (at + length xs) ahead)

  dropped : drop (at + length xs + length ys) first ≡ drop (at + length (xs ++ ys)) out
  unfolding first
  dropped =
      let e : at + length (xs ++ ys) ≡ at + length xs + length ys = simp length-append (omega arith) in
      ap (λ (l : List ℕ). drop (at + length xs + length ys) l) (sym (append_assoc (take at out) xs (drop (at + length xs) out)))
      ∙ ap (λ (n : ℕ). drop (n + length ys) ((take at out ++ xs) ++ drop (at + length xs) out)) (sym ahead)
      ∙ drop-append-add (take at out ++ xs) (drop (at + length xs) out) (length ys)
      ∙ drop-drop (length ys) (at + length xs) out
      ∙ ap (λ (n : ℕ). drop n out) (sym e)

  pub put_then : (r : Option ℕ) (o : List ℕ) → put out at xs ≡ result r o → put out at (xs ++ ys) ≡ put o (at + length xs) ys
  put_then r o d =
      let i : o ≡ first = sym (ap (λ (p : Put). p.out) (sym (put_in out at xs (omega arith)) ∙ d)) ∙ unfold first in refl in
      let l = first-length in
      let e : length (xs ++ ys) ≡ length xs + length ys = length-append xs ys in
      let n : at + length (xs ++ ys) ≡ at + length xs + length ys = omega arith in
      let w : take at out ++ ((xs ++ ys) ++ drop (at + length (xs ++ ys)) out)
      ≡ take (at + length xs) first ++ (ys ++ drop (at + length xs + length ys) first) =
      rw (taken, dropped, append_assoc xs ys (drop (at + length (xs ++ ys)) out), append_assoc (take at out) xs (ys ++ drop (at + length (xs ++ ys)) out)) in
      put_in out at (xs ++ ys) (omega arith)
      ∙ ap (λ (k : ℕ). result (Some k) (take at out ++ ((xs ++ ys) ++ drop (at + length (xs ++ ys)) out))) n
      ∙ ap (result (Some (at + length xs + length ys))) w
      ∙ sym (put_in first (at + length xs) ys (omega arith))
      ∙ ap (λ (l : List ℕ). put l (at + length xs) ys) (sym i)

-- A number's octets: the first octet f, the k of the exponent and the n of the mantissa.
module _ (s : Bool) (m units v k n f : ℕ) (exponent : digits 256 k v ≡ shortest (minus units 1074)) (mantissa : n ≡ (size m + 7) / 8)
    (head : f ≡ first_octet s k) (octet : f < 256) where
  abbrev number : List ℕ
  number = number_octets s m (minus units 1074)

  base : 0 < 256
  base = omega arith

  number-list : number ≡ digits 256 1 f ++ (digits 256 k v ++ digits 256 n m)
  unfolding digits
  number-list =
      let l : length (shortest (minus units 1074)) ≡ k = ap length (sym exponent) ∙ length_digits 256 base k v in
      let h : first_octet s (length (shortest (minus units 1074))) ≡ f % 256 = ap (first_octet s) l ∙ sym head ∙ sym (mod-eq_of_lt octet) in
      ap (λ (x : ℕ). x ∷ (shortest (minus units 1074) ++ mantissa_octets m)) h
      ∙ ap (λ (x : List ℕ). f % 256 ∷ (x ++ mantissa_octets m)) (sym exponent)
      ∙ ap (λ (x : ℕ). f % 256 ∷ (digits 256 k v ++ digits 256 x m)) (sym mantissa)

  tail-length : length (digits 256 k v ++ digits 256 n m) ≡ k + n
  tail-length = length-append (digits 256 k v) (digits 256 n m) ∙ let a = length_digits 256 base k v in let b = length_digits 256 base n m in omega arith

  pub number-length : length number ≡ 1 + k + n
  number-length = ap length number-list ∙ length-append (digits 256 1 f) (digits 256 k v ++ digits 256 n m) ∙ let a = length_digits 256 base 1 f in
      let b = tail-length in omega arith

  pub number_short : (out : List ℕ) (at : ℕ) → length out < at + (1 + k + n) → put out at number ≡ unchanged out
  number_short out at h = let l = number-length in put-out out at number (omega arith)

  pub number-puts : (out : List ℕ) (at : ℕ) → at + (1 + k + n) ≤ length out
      → (r₁ r₂ r₃ : Option ℕ) (o₁ o₂ o₃ : List ℕ) → put out at (digits 256 1 f) ≡ result r₁ o₁ → length o₁ ≡ length out
      → put o₁ (at + 1) (digits 256 k v) ≡ result r₂ o₂ → put o₂ (at + 1 + k) (digits 256 n m) ≡ result r₃ o₃ → put out at number ≡ result r₃ o₃
  number-puts out at room r₁ r₂ r₃ o₁ o₂ o₃ p l q r =
      let a = length_digits 256 base 1 f in
      let b = length_digits 256 base k v in
      let c = length_digits 256 base n m in
      let t = tail-length in
      let i : at + length (digits 256 1 f) ≡ at + 1 = omega arith in
      let j : at + 1 + length (digits 256 k v) ≡ at + 1 + k = omega arith in
      ap (put out at) number-list
      ∙ put_then out at (digits 256 1 f) (digits 256 k v ++ digits 256 n m) (omega arith) r₁ o₁ p
      ∙ ap (λ (x : ℕ). put o₁ x (digits 256 k v ++ digits 256 n m)) i
      ∙ put_then o₁ (at + 1) (digits 256 k v) (digits 256 n m) (omega arith) r₂ o₂ q
      ∙ ap (λ (x : ℕ). put o₂ x (digits 256 n m)) j
      ∙ r
