-- Laws of lists and of a scan, at plain variables.
use Prim.Native.Nat.{ℕ, zero, suc, ◌+◌, ◌*◌, ◌≤◌, ◌<◌}
use mathlib.Core.Path.{◌≡◌, refl, sym}
use mathlib.Core.Bool.{Bool, true, false}
use mathlib.Core.List.{List, [], ◌∷◌, ◌++◌}
use native.Mathlib.Omega.{arith}
use native.Mathlib.Numerals.{add-one}
use borrow.Author.Tests.{eq-eqb, ne_eqb}
use lib.ListN.{length, drop, get_or}
use lib.Seq.{drop-cons}
use Rattle.base_hex.specs.Digits.{digit_of}
use Rattle.base_output.specs.Output.{Wrote, wrote}
use Rattle.base_output.proofs.Laws.{wrote-byte}
use Rattle.framing_digits.specs.declared.Stop.TheVariants.{Input, Fault}
use Rattle.std.specs.Prelude.{Option, None, Some}
use Rattle.framing_digits.specs.Lines.{Whole, stops, line_ends, digit_in, scanned}

-- ---- the rest of a list

pub rest_more : (s : List ℕ) (i : ℕ) → i < length s → drop i s ≡ (get_or s i 0 ∷ []) ++ drop (i + 1) s
rest_more s i h = rw (add-one i, drop-cons s i 0 h)

pub rest_end : (s : List ℕ) (i : ℕ) → length s ≤ i → drop i s ≡ []
rest_end [] zero h = refl
rest_end [] (suc i) h = refl
rest_end (x ∷ s) zero h = absurd (omega arith)
rest_end (x ∷ s) (suc i) h = rest_end s i (omega arith)

-- ---- a scan

module _ (s : List ℕ) (i : ℕ) (g : Bool) (c : List ℕ) (n : ℕ) where
  pub scan-end : (h : Option ℕ) → length s ≤ i → scanned (drop i s) i h g c n ≡ record { answer = stops Input i h g n; chunk = c }
  unfolding scanned
  scan-end h p = rw (rest_end s i p)

  module _ (below : i < length s) where
    pub scan-line : (h : Option ℕ) → get_or s i 0 ≡ 10 → scanned (drop i s) i h g c n ≡ record { answer = line_ends (i + 1) h g n; chunk = c }
    unfolding scanned
    scan-line None p = rw (drop-cons s i 0 below) (simp (eq-eqb _ _ p))
    scan-line (Some h) p = rw (drop-cons s i 0 below) (simp (eq-eqb _ _ p))

    module _ (no : get_or s i 0 ≡ 10 → ⊥) where
      pub scan-fault : (h : Option ℕ) → digit_of (get_or s i 0) ≡ 16
          → scanned (drop i s) i h g c n ≡ record { answer = stops Fault (i + 1) None false n; chunk = c }
      unfolding scanned
      scan-fault None e = rw (drop-cons s i 0 below) (simp (ne_eqb _ _ no, eq-eqb _ _ e))
      scan-fault (Some h) e = rw (drop-cons s i 0 below) (simp (ne_eqb _ _ no, eq-eqb _ _ e))

      module _ (d : ℕ) (is : digit_of (get_or s i 0) ≡ d) (small : d < 16) where
        pub scan-high : {h : Option ℕ} → h ≡ None → scanned (drop i s) i h g c n ≡ scanned (drop (i + 1) s) (i + 1) (Some d) true c n
        unfolding scanned
        scan-high q = rw (q, rest_more s i below) (simp (ne_eqb _ _ no, is, ne_eqb d 16 (λ e. omega arith)))

        pub scan-pair : {h : Option ℕ} (k : ℕ) → h ≡ Some k → {w : Wrote} → wrote c n ((k * 16 + d) ∷ []) ≡ w
            → scanned (drop i s) i h g c n ≡ scanned (drop (i + 1) s) (i + 1) None true w.output w.next
        unfolding scanned
        scan-pair k q e = rw (q, sym e, wrote-byte c n (k * 16 + d), rest_more s i below) (simp (ne_eqb _ _ no, is, ne_eqb d 16 (λ e. omega arith)))

-- a number that is no digit does not count
pub scan-first : (bs : List ℕ) (at : ℕ) (high first : Option ℕ) (g : Bool) (c : List ℕ) {w : Whole}
    → first ≡ digit_in high
    → scanned bs at first g c 0 ≡ w
    → scanned bs at (digit_in high) g c 0 ≡ w
scan-first bs at high first g c is e = rw (← is) e
