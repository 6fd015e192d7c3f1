-- The stack of `nests`: the containers around the open one, in the first d cells of an array.
use Rattle.std.specs.Prelude.{Result, Ok, Err}
use Prim.Native.Nat.{ℕ, zero, suc, ◌+◌, ◌-◌, ◌/◌, ◌%◌, ◌≤◌, ◌<◌}
use mathlib.Core.Path.{◌≡◌, refl, sym, subst, ◌∙◌}
use mathlib.Core.List.{List}
use native.Mathlib.Omega.{arith}
use lib.ListN.{length, get_or, set, length-set}
use lib.Seq.{get_or-set_same, get_or-set_other}
use Rattle.ber_containers.specs.declared.No.{No}
use Rattle.ber_containers.specs.declared.Open.{Open}
use Rattle.ber_containers.specs.declared.Tag.{Tag}
use Rattle.ber_containers.specs.declared.Stands.TheVariants.{Ended, Here}
use Rattle.ber_containers.specs.Ends.{standing_at}
use Rattle.ber_containers.specs.Passing.{Through}
use Rattle.ber_containers.specs.Progress.{OntoOnward}
use Rattle.ber_containers.proofs.Laws.{cross-ended, cross-into, cross-past, skip-next, through-over, through-past, through-into}
use Rattle.ber_containers.proofs.Laws.{through-in-stuck, onto-later}
use Rattle.ber_containers.specs.Short.{open_by, Short}
use Rattle.ber_containers.proofs.Quick.{ahead_of, short-here, tag-definite}

-- the container in a cell
abbrev pub cell : List Open → ℕ → Open
cell around d = get_or around d (open_by 0 0)

-- with d containers around it, an open container that gives z leads to y
abbrev pub Final : List ℕ → ℕ → List Open → ℕ → Result ℕ No → Result ℕ No → Type 0
Final s k around zero z y = z ≡ y
Final s k around (suc d) (Err n) y = Err n ≡ y
Final s k around (suc d) (Ok p) y = (z : Result ℕ No) × ((Through s (k - d) (cell around d) p z) × (OntoOnward p z × Final s k around d z y))

-- what is left of the open container x from p on, and of those around it, is what the container o holds from the start on
pub record Going (s : List ℕ) (k : ℕ) (o : Open) (from : ℕ) (around : List Open) (d p : ℕ) (x : Open) : Type 0 where
  pub long : length around ≡ 64
  pub fits : d ≤ 64
  pub deep : d ≤ k
  pub onward : (z y : Result ℕ No) → Through s (k - d) x p z → OntoOnward p z → Final s k around d z y → (Through s k o from y) × OntoOnward from y

module _ (s : List ℕ) (k : ℕ) (around : List Open) where
  -- a refusal is the whole's
  final-stopped : (d : ℕ) {n : No} {y : Result ℕ No} → Err n ≡ y → Final s k around d (Err n) y
  final-stopped zero e = e
  final-stopped (suc d) e = e

  -- cells from d on do not count
  module _ (i : ℕ) (x : Open) where
    final-below : (d : ℕ) (z y : Result ℕ No) → d ≤ i → Final s k (set around i x) d z y → Final s k around d z y
    final-below zero z y h f = f
    final-below (suc d) (Err n) y h f = f
    final-below (suc d) (Ok p) y h f =
        let e : cell (set around i x) d ≡ cell around d = get_or-set_other around i d x (open_by 0 0) (λ q. omega arith) in
        let t : Through s (k - d) (cell around d) p f.0 = subst (λ v. Through s (k - d) v p f.0) e f.1.0 in
        (f.0, (t, (f.1.1.0, final-below d f.0 y (omega arith) f.1.1.1)))

pub going_start : (s : List ℕ) (k : ℕ) (o : Open) (from : ℕ) (around : List Open) → length around ≡ 64 → Going s k o from around 0 from o
going_start s k o from around e = record {
  long = e;
  fits = omega arith;
  deep = omega arith;
  onward = λ z y t l q.
      let i : k - 0 ≡ k = omega arith in
      (subst (λ j. Through s j o from y) i (subst (λ j. Through s (k - 0) o from j) q t), subst (OntoOnward from) q l);
}

module _ (s : List ℕ) (k : ℕ) (o : Open) (from : ℕ) (around : List Open) (d p : ℕ) (x : Open) (g : Going s k o from around d p x) where
  pub going-stuck : {n : No} → Through s (k - d) x p (Err n) → Through s k o from (Err n)
  going-stuck {n} t = (g.onward (Err n) (Err n) t tt (final-stopped s k around d refl)).0

  pub going_done : {z : ℕ} → standing_at s p x ≡ Ended z → p ≤ z → d ≡ 0 → (Through s k o from (Ok z)) × (from ≤ z)
  going_done {z} e l h =
      g.onward (Ok z) (Ok z) (through-over s (k - d) x p (cross-ended s p x (k - d) e)) l
      (subst (λ i. Final s k around i (Ok z) (Ok z)) (sym h) refl)

  pub going-up : {z : ℕ} → standing_at s p x ≡ Ended z → p ≤ z → (d ≡ 0 → ⊥) → Going s k o from around (d - 1) z (cell around (d - 1))
  going-up {z} e l h =
      let w : suc (d - 1) ≡ d = omega arith in
      let v : d ≤ 64 = g.fits in
      let u : d ≤ k = g.deep in
      record {
        long = g.long;
        fits = omega arith;
        deep = omega arith;
        onward = λ m y t r f.
            g.onward (Ok z) y (through-over s (k - d) x p (cross-ended s p x (k - d) e)) l
            (subst (λ i. Final s k around i (Ok z) y) w (m, (t, (r, f))));
      }

  module _ {t : Tag} (e : standing_at s p x ≡ Here t) where
    pub going-past : (t.constructed ≡ 1 → ⊥) → t.inner.end ≤ length s → Going s k o from around d t.inner.end x
    going-past c h =
        let a = ahead_of s p x e in
        let b : p < t.inner.end = omega (arith, a.later, a.opens) in
        let b' : p ≤ t.inner.end = omega arith in
        record {
          long = g.long;
          fits = g.fits;
          deep = g.deep;
          onward = λ z y r l f.
              g.onward z y (through-past s (k - d) x p (cross-past s p x (k - d) e c (skip-next s t h)) a.within b r)
              (onto-later p t.inner.end z b' l) f;
        }

    module _ (c : t.constructed ≡ 1) (h : d < k) (v : d < 64) where
      -- a container inside that gives z
      inward : (z y : Result ℕ No) → Through s (k - (d + 1)) t.inner t.start z → OntoOnward t.start z → Final s k (set around d x) (suc d) z y
          → (Through s k o from y) × OntoOnward from y
      inward (Err n) y r l f =
          let a = ahead_of s p x e in
          let b : k - (d + 1) ≡ k - d - 1 = omega arith in
          let u : k - d ≡ 0 → ⊥ = λ q. omega arith in
          let j : Through s (k - d - 1) t.inner t.start (Err n) = subst (λ i. Through s i t.inner t.start (Err n)) b r in
          g.onward (Err n) y (through-in-stuck s (k - d) x p (cross-into s p x (k - d) e c u) a j) tt (final-stopped s k around d f)
      inward (Ok m) y r l f =
          let a = ahead_of s p x e in
          let b : k - (d + 1) ≡ k - d - 1 = omega arith in
          let u : k - d ≡ 0 → ⊥ = λ q. omega arith in
          let ve : d < length around = omega (arith, g.long) in
          let w : Through s (k - d) x m f.0 = subst (λ i. Through s (k - d) i m f.0) (get_or-set_same around d x (open_by 0 0) ve) f.1.0 in
          let j : Through s (k - d - 1) t.inner t.start (Ok m) = subst (λ i. Through s i t.inner t.start (Ok m)) b r in
          let q : p ≤ m = omega (arith, a.later) in
          g.onward f.0 y (through-into s (k - d) x p (cross-into s p x (k - d) e c u) a j l w)
          (onto-later p m f.0 q f.1.1.0)
          (final-below s k around d x d f.0 y (omega arith) f.1.1.1)

      pub going-in : Going s k o from (set around d x) (d + 1) t.start t.inner
      going-in =
          let w : d + 1 ≡ suc d = omega arith in
          record {
            long = length-set around d x ∙ g.long;
            fits = omega arith;
            deep = omega arith;
            onward = λ z y r l f. inward z y r l (subst (λ i. Final s k (set around d x) i z y) w f);
          }

-- a value that was told at once, passed over
pub value-past : (s : List ℕ) (p : ℕ) (o : Open) {n : ℕ} → Short s p o.end n → n < 128 → get_or s p 0 % 64 < 32 → p + 2 + n ≤ length s
    → (k : ℕ) (x : Result ℕ No) → Through s k o (p + 2 + n) x → Through s k o p x
value-past s p o {n} q h b l k x t =
    let e = short-here s p o q (tag-definite (get_or s p 0) (p + 2) n o.end refl refl refl h) in
    let c : get_or s p 0 % 64 / 32 ≡ 1 → ⊥ = λ i. omega arith in
    through-past s k o p (cross-past s p o k e c (skip-next s _ l)) (omega (arith, q.inside)) (omega arith) t
