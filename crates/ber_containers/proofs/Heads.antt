-- A tag that was read ends after its first octet, and its content before the container's end.
use Rattle.std.specs.Prelude.{Result, Ok, Err}
use Rattle.ber_tags.specs.declared.Length.{Length}
use Prim.Native.Nat.{ℕ, zero, suc, ◌+◌, ◌-◌, ◌*◌, ◌%◌, ◌^◌, ◌≤◌, ◌<◌}
use mathlib.Core.Path.{◌≡◌, refl}
use mathlib.Core.List.{List}
use mathlib.Core.Bool.{Bool}
use native.Mathlib.Omega.{arith}
use borrow.Author.Tests.{leb-true, leb-false, ltb-true, ltb-false}
use lib.ListN.{length, take, drop, get_or}
use lib.Dec.{leb, ltb, eqb}
use Rattle.base_choices.proofs.Laws.{pick-by}
use Rattle.ber_integers.specs.Digits.{natural}
use Rattle.ber_integers.proofs.Radix.{digit-more, power_le}
use Rattle.ber_tags.specs.declared.Head.{Head}
use Rattle.ber_tags.specs.declared.Head.TheVariants.{Tag as HeadTag, Refused as NoHead}
use Rattle.ber_containers.specs.Progress.{Fits}
use Rattle.ber_tags.specs.Tag.{stop, long_number, tag_number, sized, length_at, head_of, after_number, head_at}

abbrev pub NumberAhead : ℕ → ℕ → ℕ → Result (ℕ × ℕ) ℕ → Type 0
NumberAhead at p len (Ok (n, q)) = (p < q) × ((at < len) × (n < 268435456))
NumberAhead at p len (Err place) = Unit {0}

abbrev pub SizedAhead : ℕ → ℕ → Result (Length × ℕ) ℕ → Type 0
SizedAhead p bound (Ok (l, next)) = (p < next) × Fits bound next l
SizedAhead p bound (Err place) = Unit {0}

abbrev pub HeadAhead : ℕ → ℕ → ℕ → Head → Type 0
HeadAhead at bound len (HeadTag c b n l next) = (at < len) × ((at < next) × ((n < 268435456) × Fits bound next l))
HeadAhead at bound len (NoHead place) = Unit {0}

module _ (s : List ℕ) (bound : ℕ) where
  pub stop-under : stop s bound ≤ bound
  unfolding stop
  stop-under = pick-by (λ x. x ≤ bound) (leb bound (length s)) (λ e. omega arith) (λ e. omega (arith, leb-false bound (length s) e))

  pub stop-inside : stop s bound ≤ length s
  unfolding stop
  stop-inside = pick-by (λ x. x ≤ length s) (leb bound (length s)) (λ e. leb-true bound (length s) e) (λ e. omega arith)

module _ (s : List ℕ) (at bound : ℕ) where
  long-ahead : (k i acc p : ℕ) → k + i ≡ 4 → acc < 128 ^ i → at < length s → NumberAhead at p (length s) (long_number s at bound k acc p)
  unfolding long_number
  long-ahead zero i acc p j a h = tt
  long-ahead (suc k) i acc p j a h =
      pick-by (NumberAhead at p (length s)) (leb (stop s bound) p) (λ e. tt)
      (λ e. pick-by (NumberAhead at p (length s)) (ltb (get_or s p 0) 128)
      (λ e. (omega arith, (h, power_le 128 {n = i + 1} {k = 4} (omega arith) (omega arith) (digit-more 128 i a (ltb-true (get_or s p 0) 128 e)))))
      (λ e. let m : get_or s p 0 % 128 < 128 = omega arith in
      weaken (long_number s at bound k (acc * 128 + get_or s p 0 % 128) (p + 1))
      (long-ahead k (i + 1) (acc * 128 + get_or s p 0 % 128) (p + 1) (omega arith) (digit-more 128 i a m) h)))
    where
      weaken : (r : Result (ℕ × ℕ) ℕ) → NumberAhead at (p + 1) (length s) r → NumberAhead at p (length s) r
      weaken (Ok (n, q)) w = (omega arith, w.1)
      weaken (Err place) w = tt

  number-ahead : NumberAhead at at (length s) (tag_number s at bound)
  unfolding tag_number
  number-ahead =
      pick-by (NumberAhead at at (length s)) (leb (stop s bound) at) (λ e. tt)
      (λ e. let h : at < length s = omega (arith, leb-false (stop s bound) at e, stop-inside s bound) in
      pick-by (NumberAhead at at (length s)) (ltb (get_or s at 0 % 32) 31) (λ e. (omega arith, (h, omega arith)))
      (λ e. pick-by (NumberAhead at at (length s)) (leb (stop s bound) (at + 1)) (λ e. tt)
      (λ e. pick-by (NumberAhead at at (length s)) (eqb (get_or s (at + 1) 0) 128) (λ e. tt)
      (λ e. weaken (long_number s at bound 4 0 (at + 1)) (long-ahead 4 0 0 (at + 1) refl (omega arith) h)))))
    where
      weaken : (r : Result (ℕ × ℕ) ℕ) → NumberAhead at (at + 1) (length s) r → NumberAhead at at (length s) r
      weaken (Ok (n, q)) w = (omega arith, w.1)
      weaken (Err place) w = tt

  sized-ahead : (p len next : ℕ) → p < next → SizedAhead p bound (sized at bound len next)
  unfolding sized
  sized-ahead p len next h =
      pick-by (SizedAhead p bound) (ltb bound (next + len)) (λ e. tt) (λ e. (h, ltb-false bound (next + len) e))

  length-ahead : (c : Bool) (p : ℕ) → SizedAhead p bound (length_at s at bound c p)
  unfolding length_at
  length-ahead c p =
      pick-by (SizedAhead p bound) (leb (stop s bound) p) (λ e. tt)
      (λ e. let h : p < bound = omega (arith, leb-false (stop s bound) p e, stop-under s bound) in
      pick-by (SizedAhead p bound) (ltb (get_or s p 0) 128) (λ e. sized-ahead p (get_or s p 0) (p + 1) (omega arith))
      (λ e. pick-by (SizedAhead p bound) (eqb (get_or s p 0) 128) (λ e. pick-by (SizedAhead p bound) c (λ e. (omega arith, omega arith)) (λ e. tt))
      (λ e. pick-by (SizedAhead p bound) (ltb 132 (get_or s p 0)) (λ e. tt)
      (λ e. pick-by (SizedAhead p bound) (ltb (stop s bound) (p + 1 + (get_or s p 0 - 128))) (λ e. tt)
      (λ e. sized-ahead p (natural (take (get_or s p 0 - 128) (drop (p + 1) s))) (p + 1 + (get_or s p 0 - 128)) (omega arith))))))

  pub head-ahead : HeadAhead at bound (length s) (head_at s at bound)
  unfolding head_at
  head-ahead = by_number (tag_number s at bound) number-ahead
    where
      by_length : (p : ℕ) (b n : ℕ) (z : Result (Length × ℕ) ℕ) → (at < p) → (at < length s) → n < 268435456 → SizedAhead p bound z → HeadAhead at bound (length s)
          (head_of b n z)
      by_length p b n (Ok (l, next)) h k m w = (k, (omega arith, (m, w.1)))
      by_length p b n (Err place) h k m w = tt

      by_number : (r : Result (ℕ × ℕ) ℕ) → NumberAhead at at (length s) r → HeadAhead at bound (length s) (after_number s at bound r)
      by_number (Ok (n, p)) w = by_length p (get_or s at 0) n (length_at s at bound (leb 32 (get_or s at 0 % 64)) p) w.0 w.1.0 w.1.1
          (length-ahead (leb 32 (get_or s at 0 % 64)) p)
      by_number (Err place) w = tt
