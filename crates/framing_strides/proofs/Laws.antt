-- Laws of strides.
use mathlib.Core.Bool.{Bool, true, false}
use native.Mathlib.Omega.{arith}
use Prim.Native.Nat.{ℕ, zero, suc, ◌+◌, ◌-◌, ◌≤◌, ◌<◌}
use mathlib.Core.Path.{◌≡◌, sym, ap, subst, ◌∙◌}
use mathlib.Core.List.{List}
use lib.ListN.{length, take, drop, get_or, length-drop}
use lib.Seq.{get_or-drop, take-length}
use Rattle.framing_content.specs.Numbers.{BOF}
use Rattle.framing_session.specs.declared.Session.{Session}
use Rattle.framing_session.specs.Session.{Legal}
use Rattle.framing_session.specs.Steps.{Reaches, Stays}
use Rattle.framing_session.proofs.Laws.{reaches_here, reaches-on, reaches-past}
use Rattle.framing_strides.specs.declared.Progress.{Progress}

pub reaches-as : {c : List ℕ} {i : ℕ} {s : Session} {t t' : List ℕ} {p q : Progress} → p ≡ q → Reaches c i s t q.at q.session t'
    → Reaches c i s t p.at p.session t'
reaches-as {c} {i} {s} {t} {t'} e r = subst (λ (x : Progress). Reaches c i s t x.at x.session t') (sym e) r

-- a test has one answer
pub apart : {A : Type 0} {b : Bool} → b ≡ true → b ≡ false → A
apart {A} {b} e f = let d : true ≡ false = sym e ∙ f in let z : ◌≡◌ {A = ℕ} 0 1 = cc in absurd (omega arith)

-- ---- a run of bytes that change nothing

pub reaches-run : (c : List ℕ) (from other k : ℕ) (s : Session) (t : List ℕ) → Stays s other → Legal s t → from + k ≤ length c
    → ((j : ℕ) → j < k → (get_or c (from + j) 0 ≡ BOF → ⊥) × (get_or c (from + j) 0 ≡ other → ⊥)) → Reaches c from s t (from + k) s t
reaches-run c from other zero s t stays l h f =
    let e : from ≡ from + 0 = omega arith in
    subst (λ (j : ℕ). Reaches c from s t j s t) e (reaches_here c from s t l (omega arith))
reaches-run c from other (suc k) s t stays l h f =
    let e : from + k + 1 ≡ from + suc k = omega arith in
    let p = f k (omega arith) in
    subst (λ (j : ℕ). Reaches c from s t j s t) e
    (reaches-on (reaches-run c from other k s t stays l (omega arith) (λ j h. f j (omega arith)))
    (reaches-past c (from + k) other s t stays l (omega arith) p.0 p.1))

-- .. by what is found in the part from a place on
module _ (c : List ℕ) (from other k : ℕ) where
  abbrev pub part : List ℕ
  part = take (length c - from) (drop from c)

  part-is : part ≡ drop from c
  part-is = ap (λ (j : ℕ). take j (drop from c)) (sym (length-drop from c)) ∙ take-length (drop from c)

  pub reaches-part : (s : Session) (t : List ℕ) → Stays s other → Legal s t → from ≤ length c → k ≤ length part
      → ((j : ℕ) → j < k → (get_or part j 0 ≡ BOF → ⊥) × (get_or part j 0 ≡ other → ⊥)) → Reaches c from s t (from + k) s t
  reaches-part s t stays l h p f =
      let n : length part ≡ length c - from = ap length part-is ∙ length-drop from c in
      reaches-run c from other k s t stays l (omega (arith, n))
      (λ j q.
      let e : get_or part j 0 ≡ get_or c (from + j) 0 = ap (λ (x : List ℕ). get_or x j 0) part-is ∙ get_or-drop from c j 0 in
      let r = f j q in (λ z. r.0 (e ∙ z), λ z. r.1 (e ∙ z)))
